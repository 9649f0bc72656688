-- Demand 1 of the order: "Any event, in any order, gets a defined answer. Nobody needs to check first. A bad event, reading, image,
-- record, registration number or dump is refused by the numbers in document 01, and a refusal changes nothing." It is said of the calls'
-- own contracts, for every image, record, event, number, code, dump and slice of places there can be; that a call returns and never
-- traps is what the proof of such a contract shows. The numbers, and what is left, are those of `Sentences.Events` and `Sentences.Dump`.
-- Assumes nothing.
use Rattle.std.specs.Prelude.{◌≡◌, refl, List, [], ◌∷◌, ◌≢◌, ℕ, ◌+◌, ◌/◌, ◌%◌, ℤ, length}
use Rattle.std.proofs.Common.{sym, subst, ◌∙◌, eq-eqb}
use Rattle.answer.specs.Answer.{Answer, refusal_text}
use Rattle.answer.proofs.number.Reads as number
use Rattle.answer.proofs.refusal_text.Reads as refusal-text
use Rattle.dock.specs.declared.Listing.{Listing}
use Rattle.dock.specs.Listing.{listing_of, temperatures_of}
use Rattle.dock.proofs.list_dump.Reads as list-dump
use Rattle.record.specs.declared.Answered.{Answered}
use Rattle.record.specs.declared.Tag.{Tag}
use Rattle.record.specs.Record.{Outcome}
use Rattle.tag.specs.Tag.{new_tag, step}
use Rattle.tag.proofs.event.Reads as event
use Rattle.tag.proofs.new.Reads as new
use Rattle.promises.specs.Runs.{State, Reached}
use Rattle.promises.specs.Sentences.Dump.{dump_number, zero_counts}
use Rattle.promises.specs.Sentences.Dump.Proof.{dump}
use Rattle.promises.specs.Sentences.Events.{number_in, own_number, event_number, new_number, Defined, clear_tag}
use Rattle.promises.specs.Sentences.Events.Proof.{events}

-- what a call returned, and left in the image that it was lent
abbrev outcome : Answered → List ℕ → Outcome
outcome answered image = record { answered = answered; image = image }

-- what the dock returns for a dump, and leaves in the places that it was lent
pub record DefinedListing (dump : List ℕ) (lent : List ℤ) (listing : Listing) (left : List ℤ) : Type 0 where
  pub listed : listing ≡ listing_of dump (length lent)
  pub places : left ≡ temperatures_of dump lent
  pub answer : number_in listing.answer ≡ dump_number dump (length lent)
  pub refusal : dump_number dump (length lent) ≢ 0 → (listing ≡ zero_counts listing.answer) × (left ≡ lent)

-- `event.Post`, `new.Post`, `list-dump.Post` and so on are the contracts as the source states them, over lifetimes, arguments, result and
-- the arguments at exit; `Asked` is what a caller must show of the arguments
pub record Demand1 : Type 2 where
  -- "Nobody needs to check first": of no arguments is there anything to show
  pub any_event : (κs : _) (image : _) (tag : Tag) (code reading : ℕ) → event.Asked κs (image, (tag, (code, (reading, tt))))
  pub any_new : (κs : _) (image : _) (number code : ℕ) → new.Asked κs (image, (number, (code, tt)))
  pub any_dump : (κs : _) (dump : _) (places : _) → list-dump.Asked κs (dump, (places, tt))
  -- an event: answer, record, line bit and image are those of `step`, of which the sentences speak, and the number is by "3, 6, 1, 2"
  pub events : (κs : _) (image : _) (tag : Tag) (code reading : ℕ) (r : Answered) (exit : _) →
      event.Post κs (image, (tag, (code, (reading, tt)))) r exit →
      (outcome r exit.0.now ≡ step image.now tag code reading)
      × Defined (event_number image.now tag code reading) image.now tag (outcome r exit.0.now)
  -- a new tag: those of `new_tag`, the number by "3, 4, 5", and a refusal returns the record of all zeros
  pub news : (κs : _) (image : _) (number code : ℕ) (r : Answered) (exit : _) →
      new.Post κs (image, (number, (code, tt))) r exit →
      (outcome r exit.0.now ≡ new_tag image.now number code)
      × Defined (new_number image.now number code) image.now (clear_tag 0 0) (outcome r exit.0.now)
  -- a dump: the number by "dump length 7, then line by line 7, 9, 8, then 10, 11, 12"; a refusal has zero counts, and no place changes
  pub dumps : (κs : _) (dump : _) (places : _) (r : Listing) (exit : _) →
      list-dump.Post κs (dump, (places, tt)) r exit →
      DefinedListing dump.now places.now r exit.1.0.now
  -- from a new tag by events the number is 0, 1 or 2, by the event's own code and reading
  pub reached : {s : State} → Reached s → (code reading : ℕ) →
      number_in (step s.image s.tag code reading).answered.answer ≡ own_number code reading
  -- the number that is given out is the table's; "R, the number in two decimal digits, a line feed": the characters 52h, 30h to 39h, 0Ah
  pub numbers : (κs : _) (answer : Answer) (r : ℕ) (exit : _) → number.Post κs (answer, tt) r exit → r ≡ number_in answer
  pub texts : (κs : _) (n : ℕ) (r : List ℕ) (exit : _) → refusal-text.Post κs (n, tt) r exit →
      r ≡ 0x52 ∷ (0x30 + n / 10) ∷ (0x30 + n % 10) ∷ 0x0A ∷ []

-- ---- proofs

-- an outcome that a contract allows is the definition's
allowed : {r : Answered} {left : List ℕ} {o : Outcome} {number : ℕ} {image : List ℕ} {tag : Tag} → r ≡ o.answered → left ≡ o.image →
    Defined number image tag o → (outcome r left ≡ o) × Defined number image tag (outcome r left)
allowed {r} {left} {o} {number} {image} {tag} p q d =
    let same : outcome r left ≡ o = λ i. outcome (p i) (q i) in (same, subst (Defined number image tag) (sym same) d)

-- and so is a listing
listing_defined : (text : List ℕ) (lent : List ℤ) (listing : Listing) (left : List ℤ) → listing ≡ listing_of text (length lent)
    → left ≡ temperatures_of text lent → DefinedListing text lent listing left
listing_defined text lent listing left p q =
    rw (p, q) (record { listed = refl; places = refl; answer = dump.number text lent; refusal = dump.refused text lent })

pub demand1 : Demand1
unfolding event_number refusal_text
demand1 =
    record {
      any_event = λ κs image tag code reading. tt;
      any_new = λ κs image number code. tt;
      any_dump = λ κs dump places. tt;
      events = λ κs image tag code reading r exit p. allowed p.0 p.1 (events.event image.now tag code reading);
      news = λ κs image number code r exit p. allowed p.0 p.1 (events.new image.now number code);
      dumps = λ κs dump places r exit p. listing_defined dump.now places.now r exit.1.0.now p.0 p.1;
      reached = λ {s} r code reading.
          let fit = events.reached r in
          (events.event s.image s.tag code reading).answer ∙ rw (eq-eqb (length s.image) 8832 fit.size, fit.ranges);
      numbers = λ κs answer r exit p. p;
      texts = λ κs n r exit p. p;
    }

-- The calls of the library for C, by `new_tag`, `step`, the list of request #101 and the dock's listing, through the bytes of a record:
-- what each answers, and what it leaves in the bytes and places that it is lent. Assumes nothing.
use Rattle.std.specs.Prelude.{true, not, List, [], ◌∷◌, ◌++◌, ◌≡◌, ℕ, ◌≤◌, eqb, ltb, ℤ, length, if◌then◌else◌, Err}
use Rattle.std.proofs.lemmas.List.Edits.{sets}
use Rattle.answer.specs.declared.Refusal.{Refusal}
use Rattle.answer.specs.Answer.{Answer, answer_number}
use Rattle.batch.specs.Batch as batch
use Rattle.bits.specs.Bits.{digit}
use Rattle.dock.specs.declared.Listing.{Listing}
use Rattle.dock.specs.Entries.{period_of}
use Rattle.dock.specs.Listing.{answer_of, is_accepted, listing_of, temperatures_of, seconds_at}
use Rattle.packing.specs.Packing.{Field, eight, bytes_of, AllFit, Fits, packed, is_packed, unpacked}
use Rattle.record.specs.Record.{Outcome}
use Rattle.tag.specs.Tag.{new_tag, step}
use Rattle.text.specs.Text.{twos_complement}
pub mod Laws

-- ---- a new tag

pub record New : Type 0 where
  pub number : ℕ
  pub image : List ℕ
  pub lent : List ℕ

abbrev pub made : Outcome → New
made o = record { number = answer_number o.answered.answer; image = o.image; lent = packed o.answered.tag }

abbrev pub not_made : Answer → List ℕ → List ℕ → New
not_made answer image lent = record { number = answer_number answer; image = image; lent = lent }

-- "3, then 6 for the record's length alone, then 4, 5"; "a refused `bagtag_new` packs the record of all zeros where the record's length is
-- right"
unfoldable pub new_call : List ℕ → List ℕ → ℕ → ℕ → New
new_call image lent number code =
    if eqb (length lent) 80 then made (new_tag image number code)
    else if not (eqb (length image) 8832) then not_made (Err Refusal.ImageLength) image lent
    else not_made (Err Refusal.RecordRange) image lent

-- the record that it leaves fits its bytes
abbrev pub NewFits : List ℕ → List ℕ → ℕ → ℕ → Type 0
NewFits image lent number code = length lent ≡ 80 → Fits (new_tag image number code).answered.tag

-- ---- an event

pub record Event : Type 0 where
  pub number : ℕ
  pub image : List ℕ
  pub lent : List ℕ
  pub line : ℕ

-- "A refusal changes no lent byte"; "`*line` is then 1"
abbrev pub no_event : Answer → List ℕ → List ℕ → Event
no_event answer image lent = record { number = answer_number answer; image = image; lent = lent; line = 1 }

abbrev pub stepped : Outcome → Event
stepped o =
    record {
      number = answer_number o.answered.answer;
      image = o.image;
      lent = packed o.answered.tag;
      line = digit o.answered.line;
    }

-- "A record of another length, version or with an encoding that no record has is 6, in 6's place of the order"
unfoldable pub event_call : List ℕ → List ℕ → ℕ → ℕ → Event
event_call image lent code reading =
    if not (eqb (length image) 8832) then no_event (Err Refusal.ImageLength) image lent
    else if not (is_packed lent) then no_event (Err Refusal.RecordRange) image lent
    else stepped (step image (unpacked lent) code reading)

-- the record that it leaves fits its bytes
abbrev pub EventFits : List ℕ → List ℕ → ℕ → ℕ → Type 0
EventFits image lent code reading =
    length image ≡ 8832 → is_packed lent ≡ true → Fits (step image (unpacked lent) code reading).answered.tag

-- ---- a list of events

pub record Events : Type 0 where
  pub number : ℕ
  pub image : List ℕ
  pub lent : List ℕ
  pub replies : List ℕ
  pub done : ℕ

abbrev pub no_events : Answer → List ℕ → List ℕ → List ℕ → Events
no_events answer image lent replies = record { number = answer_number answer; image = image; lent = lent; replies = replies; done = 0 }

abbrev pub done : batch.Listed → Events
done l =
    record {
      number = answer_number l.batch.answer;
      image = l.image;
      lent = packed l.batch.tag;
      replies = l.replies;
      done = l.batch.done;
    }

-- "17, checked before all others; then 3 and 6"; "answer 1 of `bagtag_events` keeps the words done before it"
unfoldable pub events_call : List ℕ → List ℕ → List ℕ → List ℕ → Events
events_call image lent words replies =
    if ltb (length replies) (length words) then no_events (Err Refusal.Replies) image lent replies
    else if not (eqb (length image) 8832) then no_events (Err Refusal.ImageLength) image lent replies
    else if not (is_packed lent) then no_events (Err Refusal.RecordRange) image lent replies
    else done (batch.listed image (unpacked lent) words replies)

-- the record that it leaves fits its bytes
abbrev pub EventsFit : List ℕ → List ℕ → List ℕ → List ℕ → Type 0
EventsFit image lent words replies =
    length words ≤ length replies → length image ≡ 8832 → is_packed lent ≡ true →
    Fits (batch.listed image (unpacked lent) words replies).batch.tag

-- ---- a listing

pub record Listed : Type 0 where
  pub number : ℕ
  pub temperatures : List ℤ
  pub head : List ℕ

abbrev four : ℕ → Field
four n = record { width = 4; value = n }

-- "number held, first k, seconds of the first entry (signed, 64 bits), period"
unfoldable pub counts_of : Listing → List Field
counts_of listing =
    four listing.held ∷ four listing.first ∷ eight (twos_complement (seconds_at listing 0))
    ∷ four (period_of listing.rate listing.ehss) ∷ []

-- "code .. and stamp at offsets that the header names"
unfoldable pub head_of : Listing → List ℕ
head_of listing = listing.code ∷ 0 ∷ (listing.stamp ++ bytes_of (counts_of listing))

-- its numbers fit their fields, and the stamp is six bytes: what the types of a listing say
pub record HeadFits (listing : Listing) : Type 0 where
  pub counts : AllFit (counts_of listing)
  pub stamp : length listing.stamp ≡ 6

-- the number of a dump where room is short, whether or not there are places enough: "12 if it is too short"
unfoldable pub room_number : List ℕ → ℕ → ℕ
room_number dump places =
    if is_accepted (answer_of dump places) then answer_number (Err Refusal.Places) else answer_number (answer_of dump places)

unfoldable pub list_call : List ℕ → List ℤ → List ℕ → Listed
list_call dump places head =
    let answer = answer_of dump (length places) in
    if ltb (length head) 28 then record { number = room_number dump (length places); temperatures = places; head = head }
    else
    record {
      number = answer_number answer;
      temperatures = temperatures_of dump places;
      head = if is_accepted answer then sets head 0 (head_of (listing_of dump (length places))) else head;
    }

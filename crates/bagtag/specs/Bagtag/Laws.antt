-- Laws of the library's calls: the number where room is short does not hang on the places, and words are stored as the head has them.
-- Assumes nothing.
use Rattle.std.specs.Prelude.{◌≡◌, refl, Bool, true, false, List, [], ◌∷◌, ◌≢◌, ℕ, zero, suc, ◌/◌, ◌%◌, ◌≤◌, ◌<◌, eqb, ltb, ℤ, length, set, if◌then◌else◌, Ok, Err}
use Rattle.std.proofs.Common.{sym, ◌∙◌, arith}
use Rattle.std.proofs.Math.Logic.{dite}
use Rattle.std.proofs.Math.Decide.{ℕ_discrete}
use borrow.Author.Tests.{eq-eqb, ne_eqb, lt-ltb, le-ltb}
use Rattle.std.proofs.lemmas.List.Edits.{sets}
use Rattle.answer.specs.declared.Refusal.{Refusal}
use Rattle.answer.specs.Answer.{Answer, answer_number}
use Rattle.batch.specs.Batch as batch
use Rattle.bits.specs.Stores.{sets_join, sets_whole}
use Rattle.dock.specs.declared.Listing.{Listing}
use Rattle.dock.specs.Entries.{held, period_of}
use Rattle.dock.specs.Listing.{judged, answer_of, is_accepted, cannot_be, listing_of, temperatures_of, seconds_at}
use Rattle.dock.specs.Registers.{memclr}
use Rattle.dump.specs.Check.{check_of, first_refusal}
use Rattle.dump.specs.Lines.{dumped_at}
use Rattle.image.specs.Fields.{put_word}
use Rattle.packing.specs.Packing.{low_first, bytes_of, packed, Fits, is_packed, unpacked}
use Rattle.packing.specs.Packing.Fields.{stores, stores_sets}
use Rattle.packing.specs.Packing.Laws.{length_packed}
use Rattle.record.specs.declared.Tag.{Tag}
use Rattle.tag.specs.Tag.{new_tag, step}
use Rattle.text.specs.Text.{twos_complement}
use Rattle.bagtag.specs.Bagtag.{made, not_made, new_call, no_event, stepped, event_call, no_events, done, events_call, counts_of, head_of, room_number, list_call}

-- ---- which way a call goes

pub new_made : (image lent : List ℕ) (number code : ℕ) → length lent ≡ 80 → new_call image lent number code ≡ made (new_tag image number code)
unfolding new_call
new_made image lent number code size = rw (eq-eqb (length lent) 80 size)

pub new_image_lem : (image lent : List ℕ) (number code : ℕ) → length lent ≢ 80 → length image ≢ 8832 →
    new_call image lent number code ≡ not_made (Err Refusal.ImageLength) image lent
unfolding new_call
new_image_lem image lent number code size whole = rw (ne_eqb (length lent) 80 size, ne_eqb (length image) 8832 whole)

pub new_lent : (image lent : List ℕ) (number code : ℕ) → length lent ≢ 80 → length image ≡ 8832 →
    new_call image lent number code ≡ not_made (Err Refusal.RecordRange) image lent
unfolding new_call
new_lent image lent number code size whole = rw (ne_eqb (length lent) 80 size, eq-eqb (length image) 8832 whole)

pub event_image : (image lent : List ℕ) (code reading : ℕ) → length image ≢ 8832 →
    event_call image lent code reading ≡ no_event (Err Refusal.ImageLength) image lent
unfolding event_call
event_image image lent code reading whole = rw (ne_eqb (length image) 8832 whole)

pub event_lent : (image lent : List ℕ) (code reading : ℕ) → length image ≡ 8832 → is_packed lent ≡ false →
    event_call image lent code reading ≡ no_event (Err Refusal.RecordRange) image lent
unfolding event_call
event_lent image lent code reading whole bad = rw (eq-eqb (length image) 8832 whole, bad)

pub event_step : (image lent : List ℕ) (code reading : ℕ) → length image ≡ 8832 → is_packed lent ≡ true →
    event_call image lent code reading ≡ stepped (step image (unpacked lent) code reading)
unfolding event_call
event_step image lent code reading whole good = rw (eq-eqb (length image) 8832 whole, good)

pub events_room : (image lent words replies : List ℕ) → length replies < length words →
    events_call image lent words replies ≡ no_events (Err Refusal.Replies) image lent replies
unfolding events_call
events_room image lent words replies few = rw (lt-ltb (length replies) (length words) few)

module _ (image lent words replies : List ℕ) (room : length words ≤ length replies) where
  pub events_image : length image ≢ 8832 → events_call image lent words replies ≡ no_events (Err Refusal.ImageLength) image lent replies
  unfolding events_call
  events_image whole = rw (le-ltb (length replies) (length words) room, ne_eqb (length image) 8832 whole)

  pub events_lent : length image ≡ 8832 → is_packed lent ≡ false →
      events_call image lent words replies ≡ no_events (Err Refusal.RecordRange) image lent replies
  unfolding events_call
  events_lent whole bad = rw (le-ltb (length replies) (length words) room, eq-eqb (length image) 8832 whole, bad)

  pub events_done : length image ≡ 8832 → is_packed lent ≡ true →
      events_call image lent words replies ≡ done (batch.listed image (unpacked lent) words replies)
  unfolding events_call
  events_done whole good = rw (le-ltb (length replies) (length words) room, eq-eqb (length image) 8832 whole, good)

-- a record fills the 80 bytes that it is packed into
pub fills : (lent : List ℕ) (tag : Tag) → length lent ≡ 80 → Fits tag → sets lent 0 (packed tag) ≡ packed tag
fills lent tag size fits = sets_whole lent (packed tag) (length_packed tag fits.size ∙ sym size)

-- ---- room

pub room_any : (dump : List ℕ) (p q : ℕ) → room_number dump p ≡ room_number dump q
unfolding room_number answer_of judged is_accepted first_refusal
room_any dump p q = by (eqb (answer_number (check_of dump)) 0)
  where
    chosen : (cleared counts few : Bool) → Answer
    chosen cleared counts few =
        if cleared then Err Refusal.Cleared
        else if counts then Err Refusal.Counts
        else if few then Err Refusal.Places
        else Ok tt

    short : Answer → ℕ
    short answer = if eqb (answer_number answer) 0 then answer_number (Err Refusal.Places) else answer_number answer

    same : (cleared counts few none : Bool) → short (chosen cleared counts few) ≡ short (chosen cleared counts none)
    same true counts few none = refl
    same false true few none = refl
    same false false true true = refl
    same false false true false = refl
    same false false false true = refl
    same false false false false = refl

    by : (fine : Bool) → short (if fine then judged (dumped_at dump) p else check_of dump) ≡ short (if fine then judged (dumped_at dump) q else check_of dump)
    by true = same (memclr (dumped_at dump)) (cannot_be (dumped_at dump)) (ltb p (held (dumped_at dump))) (ltb q (held (dumped_at dump)))
    by false = refl

pub room_accepted : (dump : List ℕ) (p : ℕ) → answer_number (answer_of dump p) ≡ 0 → room_number dump p ≡ answer_number (Err Refusal.Places)
unfolding room_number is_accepted
room_accepted dump p e = rw (eq-eqb (answer_number (answer_of dump p)) 0 e)

pub room_refused : (dump : List ℕ) (p : ℕ) → answer_number (answer_of dump p) ≢ 0 → room_number dump p ≡ answer_number (answer_of dump p)
unfolding room_number is_accepted
room_refused dump p ne = rw (ne_eqb (answer_number (answer_of dump p)) 0 ne)

pub room_not_zero : (dump : List ℕ) (p : ℕ) → room_number dump p ≢ 0
room_not_zero dump p none =
    dite (ℕ_discrete (answer_number (answer_of dump p)) 0)
    (λ e. omega (arith, room_accepted dump p e, none))
    (λ ne. ne (sym (room_refused dump p ne) ∙ none))

pub list_short : (dump : List ℕ) (lent : List ℤ) (head : List ℕ) → length head < 28 →
    list_call dump lent head ≡ record { number = room_number dump 0; temperatures = lent; head = head }
unfolding list_call
list_short dump lent head short = rw (lt-ltb (length head) 28 short, room_any dump (length lent) 0)

pub list_accepted : (dump : List ℕ) (lent : List ℤ) (head : List ℕ) → 28 ≤ length head → answer_number (answer_of dump (length lent)) ≡ 0 →
    list_call dump lent head
    ≡ record {
      number = answer_number (answer_of dump (length lent));
      temperatures = temperatures_of dump lent;
      head = sets head 0 (head_of (listing_of dump (length lent)));
    }
unfolding list_call is_accepted
list_accepted dump lent head long e = rw (le-ltb (length head) 28 long, eq-eqb (answer_number (answer_of dump (length lent))) 0 e)

pub list_refused : (dump : List ℕ) (lent : List ℤ) (head : List ℕ) → 28 ≤ length head → answer_number (answer_of dump (length lent)) ≢ 0 →
    list_call dump lent head
    ≡ record { number = answer_number (answer_of dump (length lent)); temperatures = temperatures_of dump lent; head = head }
unfolding list_call is_accepted
list_refused dump lent head long ne = rw (le-ltb (length head) 28 long, ne_eqb (answer_number (answer_of dump (length lent))) 0 ne)

-- ---- words

-- a word is stored low byte first
put_sets : (l : List ℕ) (at n v : ℕ) → put_word l at n v ≡ sets l at (low_first n v)
unfolding put_word low_first
put_sets l at zero v = refl
put_sets l at (suc n) v = put_sets (set l at (v % 256)) (suc at) n (v / 256)

pub counts_stored : (l : List ℕ) (listing : Listing) →
    put_word
    (put_word (put_word (put_word l 8 4 listing.held) 12 4 listing.first) 16 8 (twos_complement (seconds_at listing 0)))
    24 4 (period_of listing.rate listing.ehss)
    ≡ sets l 8 (bytes_of (counts_of listing))
unfolding stores counts_of
counts_stored l listing =
    rw (put_sets _ 24 4 _, put_sets _ 16 8 _, put_sets _ 12 4 _, put_sets l 8 4 _) (stores_sets l 8 (counts_of listing))

-- the head in three parts
pub head_stored : (l : List ℕ) (listing : Listing) → length listing.stamp ≡ 6 →
    sets (sets (sets l 0 (listing.code ∷ 0 ∷ [])) 2 listing.stamp) 8 (bytes_of (counts_of listing)) ≡ sets l 0 (head_of listing)
unfolding head_of
head_stored l listing six =
    rw (sets_join (sets l 0 (listing.code ∷ 0 ∷ [])) 2 listing.stamp (bytes_of (counts_of listing)), six)

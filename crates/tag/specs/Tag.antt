-- The tag: a new tag, and one event (document 01, "Events and what they return"; request #103). Assumes nothing.
use Rattle.std.specs.Prelude.{true, false, not, List, ℕ, eqb, ltb, length, set, replicate, if◌then◌else◌, Err}
use Rattle.answer.specs.declared.Refusal.{Refusal}
use Rattle.event.specs.Event.{slotted, reset_tag, short_tag, tick_tag}
use Rattle.record.specs.declared.Tag.{Tag}
use Rattle.record.specs.Record.{Outcome, good_number, good_code, tag_in_range, fresh_tag, accepted, refusal}

-- ---- a new tag

-- "clears the lent image whatever it held, has BOR 1, everything else clear", over its length
unfoldable pub new_image : ℕ → List ℕ
new_image size = set (replicate size 0) 0x0214 0x80

-- "a refused new tag: the record of all zeros"; "new tag 3, 4, 5"
unfoldable pub new_tag : List ℕ → ℕ → ℕ → Outcome
new_tag image number code =
    if not (eqb (length image) 8832) then refusal (Err Refusal.ImageLength) (fresh_tag 0 0) image
    else if not (good_number number) then refusal (Err Refusal.RomNumber) (fresh_tag 0 0) image
    else if not (good_code code) then refusal (Err Refusal.Configuration) (fresh_tag 0 0) image
    else record { answered = accepted (fresh_tag number code) true; image = new_image 8832 }

-- ---- an event

-- an event by its code; "Answer 1 now begins above 4", "2 tick with a reading above 2047"
unfoldable pub event_of : List ℕ → Tag → ℕ → ℕ → Outcome
event_of image tag code reading =
    if eqb code 0 then slotted image tag false
    else if eqb code 1 then slotted image tag true
    else if eqb code 2 then reset_tag image tag
    else if eqb code 4 then short_tag image tag
    else if not (eqb code 3) then refusal (Err Refusal.EventCode) tag image
    else if ltb 2047 reading then refusal (Err Refusal.Reading) tag image
    else tick_tag image tag reading

-- "Order: event 3, 6, 1, 2"
unfoldable pub step : List ℕ → Tag → ℕ → ℕ → Outcome
step image tag code reading =
    if not (eqb (length image) 8832) then refusal (Err Refusal.ImageLength) tag image
    else if not (tag_in_range tag) then refusal (Err Refusal.RecordRange) tag image
    else event_of image tag code reading

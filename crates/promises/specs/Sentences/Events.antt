-- Document 01, "Events and what they return", as changed by request #103: the numbers and exactly when each is given, what a refusal leaves,
-- what a new tag is, and the bits of resets, ticks and slots held low. `events` in Events/Proof.antt proves it. Assumes nothing.
use Rattle.std.specs.Prelude.{Bool, true, false, not, ◌&&◌, List, ◌≡◌, ◌≢◌, ℕ, ◌≤◌, eqb, ltb, length, replicate, if◌then◌else◌, Ok, Err}
use Rattle.answer.specs.Answer.{Answer}
use Rattle.answer.specs.declared.Refusal.{Refusal}
use Rattle.bus.specs.declared.Stage.{Stage}
use Rattle.select.specs.declared.Choosing.{Choosing}
use Rattle.select.specs.declared.Mode.{Mode}
use Rattle.record.specs.declared.Tag.{Tag}
use Rattle.record.specs.Record.{Outcome}
use Rattle.tag.specs.Tag.{new_tag, step}
use Rattle.promises.specs.Ranges.{is_rom, is_configuration, in_range, Fit}
use Rattle.promises.specs.Runs.{State, Event, after, line_bit, run, Reached}
use Rattle.promises.specs.Words.{byte_at}
pub mod Slots
pub mod Proof

-- ---- the numbers

-- the table's, 13 and 14 of request #106, and 17 of request #101
abbrev pub number_in : Answer → ℕ
number_in (Ok tt) = 0
number_in (Err Refusal.EventCode) = 1
number_in (Err Refusal.Reading) = 2
number_in (Err Refusal.ImageLength) = 3
number_in (Err Refusal.RomNumber) = 4
number_in (Err Refusal.Configuration) = 5
number_in (Err Refusal.RecordRange) = 6
number_in (Err Refusal.DumpForm) = 7
number_in (Err Refusal.LineCrc) = 8
number_in (Err Refusal.LinePage) = 9
number_in (Err Refusal.Cleared) = 10
number_in (Err Refusal.Counts) = 11
number_in (Err Refusal.Places) = 12
number_in (Err Refusal.SameNumber) = 13
number_in (Err Refusal.TagPlace) = 14
number_in (Err Refusal.Replies) = 17

-- 1: "Answer 1 now begins above 4"; 2: "tick with a reading above 2047"
unfoldable pub own_number : ℕ → ℕ → ℕ
own_number code reading =
    if ltb 4 code then 1
    else if eqb code 3 && ltb 2047 reading then 2
    else 0

-- "Order: event 3, 6, 1, 2". 3: "image length is not 8,832"; 6: "record that breaks its ranges"
unfoldable pub event_number : List ℕ → Tag → ℕ → ℕ → ℕ
event_number image tag code reading =
    if not (eqb (length image) 8832) then 3
    else if not (in_range tag) then 6
    else own_number code reading

-- "new tag 3, 4, 5". 4: "first ROM byte not 41h, or its CRC-8 wrong"; 5: "configuration code not 40h (L) or 60h (T)"
unfoldable pub new_number : List ℕ → ℕ → ℕ → ℕ
new_number image number code =
    if not (eqb (length image) 8832) then 3
    else if not (is_rom number) then 4
    else if not (is_configuration code) then 5
    else 0

-- ---- what is left

-- "A refusal returns bit 1, the record as given .. and no lent byte .. changed"
pub record Defined (number : ℕ) (image : List ℕ) (tag : Tag) (out : Outcome) : Type 0 where
  pub answer : number_in out.answered.answer ≡ number
  pub refusal : number ≢ 0 → (out.answered.line ≡ true) × (out.answered.tag ≡ tag) × (out.image ≡ image)

-- "a refused new tag: the record of all zeros"; one that is accepted: "everything else clear, and waits for a reset". `Plain` is no Resume
-- mark at standard speed
abbrev pub clear_tag : ℕ → ℕ → Tag
clear_tag number code =
    record {
      code = code;
      counters = record { reading = 0; minute = 0; wait = 0 };
      exchange = record {
        number = number;
        select = record { choosing = Choosing.Silent; mode = Mode.Plain };
        held = record { pad = replicate 32 0; ta = 0; ending = 0; pf = false; aa = false };
        bus = record { stage = Stage.Over; byte = 0; at = 0; crc = 0; address = 0; status = 0; field = 0 };
      };
    }

-- ---- slots

-- does the tag send in the next slot? In Read ROM a bit, in Search the bit and its complement; once it is chosen, a byte, or 0, 1, 0, 1
unfoldable pub sends : Choosing → Stage → Bool
sends (Choosing.Reading at) stage = true
sends (Choosing.Giving at) stage = true
sends (Choosing.Complementing at) stage = true
sends Choosing.Selected (Stage.Sends byte) = true
sends Choosing.Selected Stage.Copied = true
sends Choosing.Selected Stage.Over = false
sends Choosing.Selected (Stage.Hears byte) = false
sends Choosing.Selected (Stage.Gathers field) = false
sends Choosing.Silent stage = false
sends (Choosing.Command heard count) stage = false
sends (Choosing.Matching fast at) stage = false
sends (Choosing.Awaiting at) stage = false

abbrev pub sends_now : State → Bool
sends_now s = sends s.tag.exchange.select.choosing s.tag.exchange.bus.stage

-- ---- the sentences

pub record Events : Type 0 where
  -- an event: any image, any record, any code and any reading
  pub event : (image : List ℕ) (tag : Tag) (code reading : ℕ) →
      Defined (event_number image tag code reading) image tag (step image tag code reading)
  -- "The reading counts only with code 3"
  pub reading : (image : List ℕ) (tag : Tag) (code reading : ℕ) → code ≢ 3 → step image tag code reading ≡ step image tag code 0
  -- a new tag: any image, any number and any code
  pub new : (image : List ℕ) (number code : ℕ) →
      Defined (new_number image number code) image (clear_tag 0 0) (new_tag image number code)
  -- "A new tag clears the lent image whatever it held, has BOR 1, everything else clear, and waits for a reset": BOR is bit 7 of 0214h
  pub made : (image : List ℕ) (number code : ℕ) → new_number image number code ≡ 0 →
      let out = new_tag image number code in
      (out.answered.line ≡ true) × (out.answered.tag ≡ clear_tag number code) × (length out.image ≡ 8832)
      × ((address : ℕ) → byte_at out.image address ≡ (if eqb address 0x0214 then 0x80 else 0x00))
  -- "the record of all zeros, which every event refuses with 6"; with 3, if the image's length is wrong
  pub zeros : (image : List ℕ) (code reading : ℕ) →
      number_in (step image (clear_tag 0 0) code reading).answered.answer ≡ (if eqb (length image) 8832 then 6 else 3)
  -- "none reached from a new tag by events does" break its ranges, and each event leaves a state as fit as it found it
  pub reached : {s : State} → Reached s → Fit s
  pub stays_fit : {s : State} (e : Event) → Fit s → Fit (after s e)
  -- "Reset gives 0 (presence), a tick 1"
  pub reset : {s : State} → Fit s → line_bit s Event.reset ≡ false
  pub tick : {s : State} → Fit s → (reading : ℕ) → reading ≤ 2047 → line_bit s (Event.tick reading) ≡ true
  -- "A slot's bit is the master's bit and the tag's bit combined by AND": with the line held low it is 0
  pub low_slot : {s : State} → Fit s → line_bit s (Event.slot false) ≡ false
  -- "a silent or listening tag gives 1"; and one that sends has sent its bit, whatever the master does
  pub listens : {s : State} → Fit s → sends_now s ≡ false → line_bit s (Event.slot true) ≡ true
  pub sent : {s : State} → Fit s → sends_now s ≡ true → after s (Event.slot false) ≡ after s (Event.slot true)
  -- a tick leaves the line where it was: number, scratchpad, TA, E/S, Resume mark and bus state
  pub tick_line : {s : State} → Fit s → (reading : ℕ) → (after s (Event.tick reading)).tag.exchange ≡ s.tag.exchange
  -- no event changes number or code
  pub same_tag : {s : State} → Fit s → (es : List Event) →
      ((run s es).state.tag.exchange.number ≡ s.tag.exchange.number) × ((run s es).state.tag.code ≡ s.tag.code)

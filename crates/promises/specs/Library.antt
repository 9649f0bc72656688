-- The library for C (crates `packing` and `bagtag`; include/bagtag.h): where a record's parts stand in its bytes, that bytes are taken for a
-- record exactly if some record packs to them, demand 1 of each C call for any bytes at all, and that calls from `bagtag_new` on are those
-- of a tag that is reached by events: so 6 never comes, and what is said of runs, demands 2 and 3 too, is said of the C calls. `library`
-- in Library/Proof.antt proves it. Assumes nothing.
use Rattle.std.specs.Prelude.{Bool, true, false, not, ◌&&◌, ◌||◌, List, [], ◌∷◌, ◌++◌, map, ◌≢◌, ◌↔◌, ◌≡◌, ℕ, zero, suc, ◌+◌, ◌*◌, ◌≤◌, ◌<◌, eqb, ltb, length, get_or, replicate, take, drop, if◌then◌else◌}
use Rattle.bagtag.proofs.bagtag_event.Reads as bagtag_event
use Rattle.bagtag.proofs.bagtag_events.Reads as bagtag_events
use Rattle.bagtag.proofs.bagtag_list.Reads as bagtag_list
use Rattle.bagtag.proofs.bagtag_new.Reads as bagtag_new
use Rattle.batch.specs.Batch.{listed}
use Rattle.bus.specs.declared.Addressed.{Addressed}
use Rattle.bus.specs.declared.Control.{Control}
use Rattle.bus.specs.declared.Guarded.{Guarded}
use Rattle.bus.specs.declared.Hearing.{Hearing}
use Rattle.bus.specs.declared.Next.{Next}
use Rattle.bus.specs.declared.Sending.{Sending}
use Rattle.bus.specs.declared.Stage.{Stage}
use Rattle.dock.specs.declared.Listing.{Listing}
use Rattle.dock.specs.Listing.{listing_of, temperatures_of, seconds_at}
use Rattle.packing.specs.Packing.{packed, is_packed, unpacked}
use Rattle.record.specs.declared.Tag.{Tag}
use Rattle.select.specs.declared.Choosing.{Choosing}
use Rattle.tag.specs.Tag.{new_tag, step}
use Rattle.promises.specs.Batches.{events_of}
use Rattle.promises.specs.Calls.{Meaning, meaning_of}
use Rattle.promises.specs.Ranges.{is_rom, is_configuration, in_range}
use Rattle.promises.specs.Runs.{State, Event, leaves, after, line_bit, run, Reached}
use Rattle.promises.specs.Sentences.Dump.{dump_number}
use Rattle.promises.specs.Sentences.Listing.{signed}
use Rattle.promises.specs.Sentences.Events.{number_in, own_number}
use Rattle.promises.specs.Words.{mark_in, speed_in}
pub mod Record
pub mod Proof
pub mod Line
pub mod LineProof

-- ---- a record in its bytes

-- "little-endian": the number in some bytes, the low one first
abbrev pub word_in : List ℕ → ℕ → ℕ → ℕ
word_in lent at zero = 0
word_in lent at (suc count) = get_or lent at 0 + 256 * word_in lent (suc at) count

abbrev pub digit_of : Bool → ℕ
digit_of b = if b then 1 else 0

-- every element is a byte
abbrev pub Bytes : List ℕ → Type 0
Bytes lent = (i : ℕ) → get_or lent i 0 < 256

-- how far a ROM command is, in three bytes: the case, what is heard of a command or 1 for an overdrive Match, and how many bits of the command,
-- or the number's next bit
abbrev pub choosing_bytes : Choosing → List ℕ
choosing_bytes Choosing.Silent = 0 ∷ 0 ∷ 0 ∷ []
choosing_bytes (Choosing.Command heard count) = 1 ∷ heard ∷ count ∷ []
choosing_bytes (Choosing.Reading at) = 2 ∷ 0 ∷ at ∷ []
choosing_bytes (Choosing.Matching fast at) = 3 ∷ digit_of fast ∷ at ∷ []
choosing_bytes (Choosing.Giving at) = 4 ∷ 0 ∷ at ∷ []
choosing_bytes (Choosing.Complementing at) = 5 ∷ 0 ∷ at ∷ []
choosing_bytes (Choosing.Awaiting at) = 6 ∷ 0 ∷ at ∷ []
choosing_bytes Choosing.Selected = 7 ∷ 0 ∷ 0 ∷ []

abbrev pub addressed_byte : Addressed → ℕ
addressed_byte Addressed.Write = 0
addressed_byte Addressed.Copy = 1
addressed_byte Addressed.Read = 2

abbrev pub control_byte : Control → ℕ
control_byte Control.Clear = 0
control_byte Control.Start = 1
control_byte Control.Stop = 2
control_byte Control.Convert = 3

abbrev pub next_byte : Next → ℕ
next_byte Next.Nothing = 0
next_byte Next.Page = 1

-- how far a memory command is, in three bytes: the stage, the case in it, and what that holds: a command, a place of the scratchpad, or what
-- follows a CRC-16
abbrev pub stage_bytes : Stage → List ℕ
stage_bytes Stage.Over = 0 ∷ 0 ∷ 0 ∷ []
stage_bytes (Stage.Hears Hearing.Command) = 1 ∷ 0 ∷ 0 ∷ []
stage_bytes (Stage.Hears (Hearing.Low addressed)) = 1 ∷ 1 ∷ addressed_byte addressed ∷ []
stage_bytes (Stage.Hears (Hearing.High addressed)) = 1 ∷ 2 ∷ addressed_byte addressed ∷ []
stage_bytes (Stage.Hears (Hearing.Data place)) = 1 ∷ 3 ∷ place ∷ []
stage_bytes (Stage.Hears Hearing.Status) = 1 ∷ 4 ∷ 0 ∷ []
stage_bytes (Stage.Hears (Hearing.Confirm control)) = 1 ∷ 5 ∷ control_byte control ∷ []
stage_bytes (Stage.Gathers Guarded.Reading) = 2 ∷ 0 ∷ 0 ∷ []
stage_bytes (Stage.Gathers Guarded.Copying) = 2 ∷ 1 ∷ 0 ∷ []
stage_bytes (Stage.Gathers (Guarded.Controlling control)) = 2 ∷ 2 ∷ control_byte control ∷ []
stage_bytes (Stage.Sends Sending.PadLow) = 3 ∷ 0 ∷ 0 ∷ []
stage_bytes (Stage.Sends Sending.PadHigh) = 3 ∷ 1 ∷ 0 ∷ []
stage_bytes (Stage.Sends Sending.PadStatus) = 3 ∷ 2 ∷ 0 ∷ []
stage_bytes (Stage.Sends (Sending.PadData place)) = 3 ∷ 3 ∷ place ∷ []
stage_bytes (Stage.Sends Sending.Memory) = 3 ∷ 4 ∷ 0 ∷ []
stage_bytes (Stage.Sends (Sending.CrcLow next)) = 3 ∷ 5 ∷ next_byte next ∷ []
stage_bytes (Stage.Sends (Sending.CrcHigh next)) = 3 ∷ 6 ∷ next_byte next ∷ []
stage_bytes Stage.Copied = 4 ∷ 0 ∷ 0 ∷ []

-- what the types of a record say of its numbers: one byte, two or eight, and 32 bytes of scratchpad
pub record Holds (tag : Tag) : Type 0 where
  pub code : tag.code < 256
  pub minute : tag.counters.minute < 256
  pub choosing : Bytes (choosing_bytes tag.exchange.select.choosing)
  pub stage : Bytes (stage_bytes tag.exchange.bus.stage)
  pub byte : tag.exchange.bus.byte < 256
  pub bits : tag.exchange.bus.at < 256
  pub status : tag.exchange.bus.status < 256
  pub ending : tag.exchange.held.ending < 256
  pub reading : tag.counters.reading < 65536
  pub ta : tag.exchange.held.ta < 65536
  pub crc : tag.exchange.bus.crc < 65536
  pub address : tag.exchange.bus.address < 65536
  pub number : tag.exchange.number < 18446744073709551616
  pub wait : tag.counters.wait < 18446744073709551616
  pub field : tag.exchange.bus.field < 18446744073709551616
  pub pad : length tag.exchange.held.pad ≡ 32
  pub pad_bytes_lem : Bytes tag.exchange.held.pad

-- "at fixed offsets, little-endian, with a version byte": those of include/bagtag.h
pub record Laid (tag : Tag) (lent : List ℕ) : Type 0 where
  pub size : length lent ≡ 80
  pub version : get_or lent 0 0 ≡ 1
  pub code : get_or lent 1 0 ≡ tag.code
  pub minute : get_or lent 2 0 ≡ tag.counters.minute
  -- the Resume mark counts 1, overdrive 2
  pub mode : get_or lent 3 0 ≡ digit_of (mark_in tag.exchange.select.mode) + 2 * digit_of (speed_in tag.exchange.select.mode)
  pub choosing : get_or lent 4 0 ∷ get_or lent 5 0 ∷ get_or lent 6 0 ∷ [] ≡ choosing_bytes tag.exchange.select.choosing
  pub stage : get_or lent 7 0 ∷ get_or lent 8 0 ∷ get_or lent 9 0 ∷ [] ≡ stage_bytes tag.exchange.bus.stage
  pub byte : get_or lent 10 0 ≡ tag.exchange.bus.byte
  pub bits : get_or lent 11 0 ≡ tag.exchange.bus.at
  pub status : get_or lent 12 0 ≡ tag.exchange.bus.status
  pub ending : get_or lent 13 0 ≡ tag.exchange.held.ending
  pub pf : get_or lent 14 0 ≡ digit_of tag.exchange.held.pf
  pub aa : get_or lent 15 0 ≡ digit_of tag.exchange.held.aa
  pub reading : word_in lent 16 2 ≡ tag.counters.reading
  pub ta : word_in lent 18 2 ≡ tag.exchange.held.ta
  pub crc : word_in lent 20 2 ≡ tag.exchange.bus.crc
  pub address : word_in lent 22 2 ≡ tag.exchange.bus.address
  pub number : word_in lent 24 8 ≡ tag.exchange.number
  pub wait : word_in lent 32 8 ≡ tag.counters.wait
  pub field : word_in lent 40 8 ≡ tag.exchange.bus.field
  pub pad : drop 48 lent ≡ tag.exchange.held.pad

-- some record packs to these bytes
pub record Packs (lent : List ℕ) : Type 0 where
  pub tag : Tag
  pub holds : Holds tag
  pub bytes : lent ≡ packed tag

-- does the tag send in the next slot? By the record's bytes 4 and 7: BAGTAG_SENDS of the header
unfoldable pub sends_by : ℕ → ℕ → Bool
sends_by choosing stage =
    eqb choosing 2 || (eqb choosing 4 || (eqb choosing 5 || (eqb choosing 7 && (eqb stage 3 || eqb stage 4))))

abbrev pub sends_in : List ℕ → Bool
sends_in lent = sends_by (get_or lent 4 0) (get_or lent 7 0)

-- ---- the numbers

-- "A record of another length, version or with an encoding that no record has is 6", and one that breaks its ranges
abbrev pub is_record : List ℕ → Bool
is_record lent = is_packed lent && in_range (unpacked lent)

-- "`bagtag_new`: 3, then 6 for the record's length alone, then 4, 5"
unfoldable pub new_number : List ℕ → List ℕ → ℕ → ℕ → ℕ
new_number image lent number code =
    if not (eqb (length image) 8832) then 3
    else if not (eqb (length lent) 80) then 6
    else if not (is_rom number) then 4
    else if not (is_configuration code) then 5
    else 0

-- "Order: event 3, 6, 1, 2"
unfoldable pub event_number : List ℕ → List ℕ → ℕ → ℕ → ℕ
event_number image lent code reading =
    if not (eqb (length image) 8832) then 3
    else if not (is_record lent) then 6
    else own_number code reading

-- "17, checked before all others; then 3 and 6", then 1 for a word that is no event
unfoldable pub events_number : List ℕ → List ℕ → List ℕ → List ℕ → ℕ
events_number image lent words replies =
    if ltb (length replies) (length words) then 17
    else if not (eqb (length image) 8832) then 3
    else if not (is_record lent) then 6
    else if eqb (length (events_of words)) (length words) then 0
    else 1

-- "12 if it is too short": the dump's own number, and 12 in its place for a head that is too short too
unfoldable pub dumps_number : List ℕ → ℕ → ℕ → ℕ
dumps_number text places head = if eqb (dump_number text places) 0 && ltb head 28 then 12 else dump_number text places

-- ---- a listing's head

pub record HeadLaid (listing : Listing) (head : List ℕ) : Type 0 where
  pub code : get_or head 0 0 ≡ listing.code
  pub later : get_or head 1 0 ≡ 0
  pub stamp : take 6 (drop 2 head) ≡ listing.stamp
  pub held : word_in head 8 4 ≡ listing.held
  pub first : word_in head 12 4 ≡ listing.first
  -- "signed, 64 bits": in two's complement, as sixteen digits write it
  pub seconds : word_in head 16 8 ≡ signed 16 (seconds_at listing 0)
  -- "period": the rate is in seconds with EHSS 1, else in minutes
  pub period : word_in head 24 4 ≡ (if listing.ehss then listing.rate else listing.rate * 60)

-- ---- a tag that the caller keeps

-- image and record, as a reached tag has them
pub record Keeps (image lent : List ℕ) (s : State) : Type 0 where
  pub reached : Reached s
  pub image_is : image ≡ s.image
  pub lent_is : lent ≡ packed s.tag
  pub holds : Holds s.tag

pub record KeptTag (image lent : List ℕ) : Type 0 where
  pub state : State
  pub keeps : Keeps image lent state

-- image and record as calls from an accepted `bagtag_new` on have left them, each on what the one before it left, whatever it was given
-- and whatever it answered
pub data FromNew : List ℕ → List ℕ → Type 2 where
  new : (κs : _) (image : _) (lent : _) (number code : ℕ) (r : ℕ) (exit : _) → bagtag_new.Post κs (image, (lent, (number, (code, tt)))) r exit →
      r ≡ 0 → FromNew exit.0.now exit.1.0.now
  event : (κs : _) (image : _) (lent : _) (code reading : ℕ) (line : _) (r : ℕ) (exit : _) →
      bagtag_event.Post κs (image, (lent, (code, (reading, (line, tt))))) r exit →
      FromNew image.now lent.now → FromNew exit.0.now exit.1.0.now
  events : (κs : _) (image : _) (lent : _) (words : _) (replies : _) (done : _) (r : ℕ) (exit : _) →
      bagtag_events.Post κs (image, (lent, (words, (replies, (done, tt))))) r exit →
      FromNew image.now lent.now → FromNew exit.0.now exit.1.0.now

-- calls with any codes, readings and words, each on what the one before it left: the events that were taken, their line bits, and between
-- them whatever was refused. `Meaning` is what a code and a reading are taken for
pub data Chain : List ℕ → List ℕ → List Event → List Bool → List ℕ → List ℕ → Type 2 where
  none : {image lent : List ℕ} → Chain image lent [] [] image lent
  taken : (κs : _) (image : _) (lent : _) (code reading : ℕ) (line : _) (r : ℕ) (exit : _) →
      bagtag_event.Post κs (image, (lent, (code, (reading, (line, tt))))) r exit → {e : Event} → meaning_of code reading ≡ Meaning.taken e →
      (bit : Bool) → exit.1.1.1.1.0.now ≡ digit_of bit → {es : List Event} {bits : List Bool} {end left : List ℕ} →
      Chain exit.0.now exit.1.0.now es bits end left → Chain image.now lent.now (e ∷ es) (bit ∷ bits) end left
  refused : (κs : _) (image : _) (lent : _) (code reading : ℕ) (line : _) (r : ℕ) (exit : _) →
      bagtag_event.Post κs (image, (lent, (code, (reading, (line, tt))))) r exit → meaning_of code reading ≡ Meaning.refused →
      {es : List Event} {bits : List Bool} {end left : List ℕ} →
      Chain exit.0.now exit.1.0.now es bits end left → Chain image.now lent.now es bits end left
  -- a list gives all its events up to a refused word; one with too few reply bytes is refused whole
  many : (κs : _) (image : _) (lent : _) (words : _) (replies : _) (done : _) (r : ℕ) (exit : _) →
      bagtag_events.Post κs (image, (lent, (words, (replies, (done, tt))))) r exit → length words.now ≤ length replies.now →
      (seen : List Bool) → take exit.1.1.1.1.0.now exit.1.1.1.0.now ≡ map digit_of seen →
      {es : List Event} {bits : List Bool} {end left : List ℕ} →
      Chain exit.0.now exit.1.0.now es bits end left →
      Chain image.now lent.now (events_of words.now ++ es) (seen ++ bits) end left
  few : (κs : _) (image : _) (lent : _) (words : _) (replies : _) (done : _) (r : ℕ) (exit : _) →
      bagtag_events.Post κs (image, (lent, (words, (replies, (done, tt))))) r exit → length replies.now < length words.now →
      {es : List Event} {bits : List Bool} {end left : List ℕ} →
      Chain exit.0.now exit.1.0.now es bits end left → Chain image.now lent.now es bits end left

-- ---- what holds

-- `bagtag_new.Post`, `bagtag_event.Post` and so on are the contracts of the C functions as the source states them, over lifetimes, arguments, result and
-- the arguments at exit; `Asked` is what a caller must show of the arguments
pub record Library : Type 2 where
  -- "`unpack (pack t) ≡ t`", and the parts stand at the header's offsets
  pub back : (tag : Tag) → Holds tag → unpacked (packed tag) ≡ tag
  pub laid : (tag : Tag) → Holds tag → Bytes (packed tag) × Laid tag (packed tag)
  -- "bytes that unpack are exactly those that some record packs to"
  pub exactly : (lent : List ℕ) → Bytes lent → (is_packed lent ≡ true) ↔ Packs lent
  -- "Nobody needs to check first": of no arguments is there anything to show
  pub any_new : (κs : _) (image : _) (lent : _) (number code : ℕ) → bagtag_new.Asked κs (image, (lent, (number, (code, tt))))
  pub any_event : (κs : _) (image : _) (lent : _) (code reading : ℕ) (line : _) →
      bagtag_event.Asked κs (image, (lent, (code, (reading, (line, tt)))))
  pub any_events : (κs : _) (image : _) (lent : _) (words : _) (replies : _) (done : _) →
      bagtag_events.Asked κs (image, (lent, (words, (replies, (done, tt)))))
  pub any_dump : (κs : _) (text : _) (places : _) (head : _) → bagtag_list.Asked κs (text, (places, (head, tt)))
  -- a new tag: a refusal leaves the image, and "packs the record of all zeros where the record's length is right"
  pub news : (κs : _) (image : _) (lent : _) (number code : ℕ) (r : ℕ) (exit : _) →
      bagtag_new.Post κs (image, (lent, (number, (code, tt)))) r exit →
      (r ≡ new_number image.now lent.now number code)
      × (r ≢ 0 → (exit.0.now ≡ image.now)
      × (exit.1.0.now ≡ (if eqb (length lent.now) 80 then 1 ∷ replicate 79 0 else lent.now)))
  -- an event: "A refusal changes no lent byte"; "`*line` is then 1"
  pub events : (κs : _) (image : _) (lent : _) (code reading : ℕ) (line : _) (r : ℕ) (exit : _) →
      bagtag_event.Post κs (image, (lent, (code, (reading, (line, tt))))) r exit →
      (r ≡ event_number image.now lent.now code reading)
      × (r ≢ 0 → (exit.0.now ≡ image.now) × (exit.1.0.now ≡ lent.now) × (exit.1.1.1.1.0.now ≡ 1))
  -- a list: "answer 1 of `bagtag_events` keeps the words done before it", every other refusal leaves everything, and nothing is done
  pub lists : (κs : _) (image : _) (lent : _) (words : _) (replies : _) (done : _) (r : ℕ) (exit : _) →
      bagtag_events.Post κs (image, (lent, (words, (replies, (done, tt))))) r exit →
      (r ≡ events_number image.now lent.now words.now replies.now)
      × (r ≢ 0 → r ≢ 1 → (exit.0.now ≡ image.now) × (exit.1.0.now ≡ lent.now) × (exit.1.1.1.0.now ≡ replies.now)
      × (exit.1.1.1.1.0.now ≡ 0))
  -- "one equation with `step`, `new_tag`, the list of #101 .. through `pack` and `unpack`": of any image, and of the bytes of any record
  pub makes : (κs : _) (image : _) (lent : _) (number code : ℕ) (r : ℕ) (exit : _) →
      bagtag_new.Post κs (image, (lent, (number, (code, tt)))) r exit → length lent.now ≡ 80 →
      let o = new_tag image.now number code in
      (r ≡ number_in o.answered.answer) × (exit.0.now ≡ o.image) × (exit.1.0.now ≡ packed o.answered.tag)
  pub steps : (κs : _) (image : _) (lent : _) (code reading : ℕ) (line : _) (r : ℕ) (exit : _) →
      bagtag_event.Post κs (image, (lent, (code, (reading, (line, tt))))) r exit → (p : Packs lent.now) →
      let o = step image.now p.tag code reading in
      (r ≡ number_in o.answered.answer) × (exit.0.now ≡ o.image) × (exit.1.0.now ≡ packed o.answered.tag)
      × (exit.1.1.1.1.0.now ≡ digit_of o.answered.line)
  pub does : (κs : _) (image : _) (lent : _) (words : _) (replies : _) (done : _) (r : ℕ) (exit : _) →
      bagtag_events.Post κs (image, (lent, (words, (replies, (done, tt))))) r exit → (p : Packs lent.now) →
      let l = listed image.now p.tag words.now replies.now in
      (r ≡ number_in l.batch.answer) × (exit.0.now ≡ l.image) × (exit.1.0.now ≡ packed l.batch.tag)
      × (exit.1.1.1.0.now ≡ l.replies) × (exit.1.1.1.1.0.now ≡ l.batch.done)
  -- "`*line` is 0 or 1", whatever was lent
  pub line : (κs : _) (image : _) (lent : _) (code reading : ℕ) (line : _) (r : ℕ) (exit : _) →
      bagtag_event.Post κs (image, (lent, (code, (reading, (line, tt))))) r exit → exit.1.1.1.1.0.now < 2
  -- "the record of all zeros, which every event refuses with 6"
  pub zeros : (κs : _) (image : _) (lent : _) (code reading : ℕ) (line : _) (r : ℕ) (exit : _) →
      bagtag_event.Post κs (image, (lent, (code, (reading, (line, tt))))) r exit → lent.now ≡ 1 ∷ replicate 79 0 →
      r ≡ (if eqb (length image.now) 8832 then 6 else 3)
  -- a listing: "12 if it is too short"; a refusal leaves places and head, and one that is accepted has its parts at the header's offsets
  pub dumps : (κs : _) (text : _) (places : _) (head : _) (r : ℕ) (exit : _) → bagtag_list.Post κs (text, (places, (head, tt))) r exit →
      (r ≡ dumps_number text.now (length places.now) (length head.now))
      × (r ≢ 0 → (exit.1.0.now ≡ places.now) × (exit.1.1.0.now ≡ head.now))
      × (r ≡ 0 → (exit.1.0.now ≡ temperatures_of text.now places.now)
      × HeadLaid (listing_of text.now (length places.now)) exit.1.1.0.now
      × (drop 28 exit.1.1.0.now ≡ drop 28 head.now))
  -- an accepted new tag is kept, and each call on a tag that is kept is `step`'s, or the list's, and keeps it: "from `bagtag_new` on 6 never
  -- comes"
  pub made : (κs : _) (image : _) (lent : _) (number code : ℕ) (r : ℕ) (exit : _) →
      bagtag_new.Post κs (image, (lent, (number, (code, tt)))) r exit → r ≡ 0 →
      Keeps exit.0.now exit.1.0.now (leaves (new_tag image.now number code))
  pub stepped : {s : State} (κs : _) (image : _) (lent : _) (code reading : ℕ) (line : _) (r : ℕ) (exit : _) →
      bagtag_event.Post κs (image, (lent, (code, (reading, (line, tt))))) r exit → Keeps image.now lent.now s →
      let o = step s.image s.tag code reading in
      (r ≡ own_number code reading) × (exit.1.1.1.1.0.now ≡ digit_of o.answered.line)
      × Keeps exit.0.now exit.1.0.now (leaves o)
  pub done : {s : State} (κs : _) (image : _) (lent : _) (words : _) (replies : _) (done : _) (r : ℕ) (exit : _) →
      bagtag_events.Post κs (image, (lent, (words, (replies, (done, tt))))) r exit → Keeps image.now lent.now s →
      let l = listed s.image s.tag words.now replies.now in
      (r ≡ (if ltb (length replies.now) (length words.now) then 17
      else if eqb (length (events_of words.now)) (length words.now) then 0
      else 1))
      × (exit.1.1.1.0.now ≡ l.replies) × (exit.1.1.1.1.0.now ≡ l.batch.done)
      × Keeps exit.0.now exit.1.0.now (record { image = l.image; tag = l.batch.tag })
  pub kept : {image lent : List ℕ} → FromNew image lent → KeptTag image lent
  -- and calls one after the other give the line bits of `run`, and keep the state that it ends in: so what demands 2 and 3 say of runs is
  -- said of them
  pub runs : {image lent end left : List ℕ} {es : List Event} {bits : List Bool} {s : State} → Keeps image lent s →
      Chain image lent es bits end left → ((run s es).line ≡ bits) × Keeps end left (run s es).state
  -- what an interrupt may go by before it knows the master's bit: a tag that sends leaves the same whatever the master does, and the
  -- image as it is; one that doesn't gives 1
  pub ahead : {image lent : List ℕ} {s : State} → Keeps image lent s →
      (sends_in lent ≡ true → (after s (Event.slot false) ≡ after s (Event.slot true)) × ((after s (Event.slot true)).image ≡ image))
      × (sends_in lent ≡ false → line_bit s (Event.slot true) ≡ true)
  pub event_not_6 : (κs : _) (image : _) (lent : _) (code reading : ℕ) (line : _) (r : ℕ) (exit : _) →
      bagtag_event.Post κs (image, (lent, (code, (reading, (line, tt))))) r exit → FromNew image.now lent.now → r ≢ 6
  pub events_not_6 : (κs : _) (image : _) (lent : _) (words : _) (replies : _) (done : _) (r : ℕ) (exit : _) →
      bagtag_events.Post κs (image, (lent, (words, (replies, (done, tt))))) r exit → FromNew image.now lent.now → r ≢ 6

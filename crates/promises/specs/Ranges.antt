-- The ranges of a record, row by row as docs/RANGES.md lists them (document 01, "Events and what they return", number 6), and the states
-- that a tag may be in whatever it was given: `Fit`. Assumes nothing.
use Rattle.std.specs.Prelude.{Bool, true, false, ◌&&◌, ◌||◌, List, [], ◌∷◌, ◌≡◌, ℕ, ◌*◌, ◌/◌, ◌%◌, ◌^◌, ◌<◌, eqb, leb, ltb, length, get_or}
use Rattle.std.specs.Bool.{beq}
use Rattle.bus.specs.declared.Bus.{Bus}
use Rattle.bus.specs.declared.Control.{Control}
use Rattle.bus.specs.declared.Guarded.{Guarded}
use Rattle.bus.specs.declared.Hearing.{Hearing}
use Rattle.bus.specs.declared.Held.{Held}
use Rattle.bus.specs.declared.Next.{Next}
use Rattle.bus.specs.declared.Sending.{Sending}
use Rattle.bus.specs.declared.Stage.{Stage}
use Rattle.select.specs.declared.Choosing.{Choosing}
use Rattle.record.specs.declared.Tag.{Tag}
use Rattle.promises.specs.Runs.{State}
use Rattle.promises.specs.Words.{low, crc8, held_of}
pub mod Laws

-- ---- number and code

abbrev pub same : List Bool → List Bool → Bool
same [] [] = true
same [] (b ∷ bs) = false
same (c ∷ cs) [] = false
same (c ∷ cs) (b ∷ bs) = beq c b && same cs bs

-- "first ROM byte not 41h, or its CRC-8 wrong": a registration number has the first ROM byte as its lowest, and the eighth is the CRC-8 of the
-- seven before it
abbrev pub is_rom : ℕ → Bool
is_rom number = eqb (number % 256) 0x41 && same (crc8 (low 56 number)) (low 8 (number / 2 ^ 56))

-- "configuration code not 40h (L) or 60h (T)"
abbrev pub is_configuration : ℕ → Bool
is_configuration code = eqb code 0x40 || eqb code 0x60

-- ---- choosing: fewer than 8 bits of a ROM command's byte are heard; the next bit of a number is one of 64

unfoldable pub choosing_fits : Choosing → Bool
choosing_fits Choosing.Silent = true
choosing_fits (Choosing.Command heard count) = ltb count 8
choosing_fits (Choosing.Reading at) = ltb at 64
choosing_fits (Choosing.Matching fast at) = ltb at 64
choosing_fits (Choosing.Giving at) = ltb at 64
choosing_fits (Choosing.Complementing at) = ltb at 64
choosing_fits (Choosing.Awaiting at) = ltb at 64
choosing_fits Choosing.Selected = true

-- ---- the scratchpad: a place from TA's offset, its low five bits, to 31

abbrev pub is_place : Held → ℕ → Bool
is_place held place = leb (held.ta % 32) place && ltb place 32

-- ---- the bus

-- "a data byte heard": its place
unfoldable pub hearing_fits : Hearing → Held → Bool
hearing_fits (Hearing.Data place) held = is_place held place
hearing_fits Hearing.Command held = true
hearing_fits (Hearing.Low a) held = true
hearing_fits (Hearing.High a) held = true
hearing_fits Hearing.Status held = true
hearing_fits (Hearing.Confirm control) held = true

-- a password field: of the control commands Clear, Start and Stop; Forced Conversion has none
unfoldable pub field_fits : Guarded → Bool
field_fits Guarded.Reading = true
field_fits Guarded.Copying = true
field_fits (Guarded.Controlling Control.Clear) = true
field_fits (Guarded.Controlling Control.Start) = true
field_fits (Guarded.Controlling Control.Stop) = true
field_fits (Guarded.Controlling Control.Convert) = false

-- the CRC-16 behind a page: its address is the last byte of a page below 3000h
unfoldable pub crc_fits : Next → ℕ → Bool
crc_fits Next.Nothing address = true
crc_fits Next.Page address = ltb address 0x3000 && eqb (address % 32) 31

-- "a data byte sent": its place; Read Memory's address is below 3000h
unfoldable pub sending_fits : Sending → Held → ℕ → Bool
sending_fits Sending.PadLow held address = true
sending_fits Sending.PadHigh held address = true
sending_fits Sending.PadStatus held address = true
sending_fits (Sending.PadData place) held address = is_place held place
sending_fits Sending.Memory held address = ltb address 0x3000
sending_fits (Sending.CrcLow next) held address = crc_fits next address
sending_fits (Sending.CrcHigh next) held address = crc_fits next address

-- how many bits are past: of a byte fewer than 8, of a password field fewer than 64, after a Copy 0 or 1, else none
unfoldable pub stage_fits : Stage → Held → Bus → Bool
stage_fits Stage.Over held bus = eqb bus.at 0
stage_fits (Stage.Hears h) held bus = ltb bus.at 8 && hearing_fits h held
stage_fits (Stage.Gathers g) held bus = ltb bus.at 64 && field_fits g
stage_fits (Stage.Sends s) held bus = ltb bus.at 8 && sending_fits s held bus.address
stage_fits Stage.Copied held bus = ltb bus.at 2

-- ---- the record

-- "record that breaks its ranges, which stand in docs/ and include a number and code that 4 and 5 let pass". The last tick's reading, the
-- seconds into the delay's minute, and those to the next conversion, fewer than the longest period has, 16,383 minutes; the ending offset
-- is a place
unfoldable pub in_range : Tag → Bool
in_range tag =
    is_rom tag.exchange.number && is_configuration tag.code
    && (leb tag.counters.reading 2047 && ltb tag.counters.minute 60 && ltb tag.counters.wait (16383 * 60))
    && (choosing_fits tag.exchange.select.choosing
    && (is_place tag.exchange.held tag.exchange.held.ending
    && stage_fits tag.exchange.bus.stage tag.exchange.held tag.exchange.bus))

-- ---- states

-- an image and a record that no event refuses by 3 or 6, whatever else they hold; and what their types say: bytes, 32 of them in the
-- scratchpad, two in TA, and one that is being heard. Every state reached from a new tag by events is one (`Sentences.Events`)
pub record Fit (s : State) : Type 0 where
  pub size : length s.image ≡ 8832
  pub ranges : in_range s.tag ≡ true
  pub bytes : (i : ℕ) → get_or s.image i 0 < 256
  pub pad : length (held_of s).pad ≡ 32
  pub pad_bytes_lem : (i : ℕ) → get_or (held_of s).pad i 0 < 256
  pub address : (held_of s).ta < 65536
  pub heard : (h : Hearing) → s.tag.exchange.bus.stage ≡ Stage.Hears h → s.tag.exchange.bus.byte < 256

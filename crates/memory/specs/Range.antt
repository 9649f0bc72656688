-- The ranges of scratchpad, TA, E/S and bus state (document 01, refusal 6): what no new tag leaves. Assumes nothing.
use Rattle.std.specs.Prelude.{Bool, true, ◌&&◌, ℕ, ◌%◌, eqb, ltb, leb}
use Rattle.bus.specs.declared.Bus.{Bus}
use Rattle.bus.specs.declared.Guarded.{Guarded}
use Rattle.bus.specs.declared.Hearing.{Hearing}
use Rattle.bus.specs.declared.Held.{Held}
use Rattle.bus.specs.declared.Next.{Next}
use Rattle.bus.specs.declared.Sending.{Sending}
use Rattle.bus.specs.declared.Stage.{Stage}
use Rattle.field.specs.Field.{guarded}
pub mod Laws

-- a place of the scratchpad from TA's offset to 1Fh
unfoldable pub from_offset : Held → ℕ → Bool
from_offset held place = leb (held.ta % 32) place && ltb place 32

unfoldable pub hearing_in_range : Hearing → Held → Bool
hearing_in_range (Hearing.Data place) held = from_offset held place
hearing_in_range Hearing.Command held = true
hearing_in_range (Hearing.Low a) held = true
hearing_in_range (Hearing.High a) held = true
hearing_in_range Hearing.Status held = true
hearing_in_range (Hearing.Confirm control) held = true

unfoldable pub guarded_in_range : Guarded → Bool
guarded_in_range Guarded.Reading = true
guarded_in_range Guarded.Copying = true
guarded_in_range (Guarded.Controlling control) = guarded control

-- Read Memory stays below 3000h, and its CRC-16 follows a page's last byte
unfoldable pub crc_in_range : Next → ℕ → Bool
crc_in_range Next.Nothing address = true
crc_in_range Next.Page address = ltb address 0x3000 && eqb (address % 32) 31

unfoldable pub sending_in_range : Sending → Held → Bus → Bool
sending_in_range Sending.PadLow held bus = true
sending_in_range Sending.PadHigh held bus = true
sending_in_range Sending.PadStatus held bus = true
sending_in_range (Sending.PadData place) held bus = from_offset held place
sending_in_range Sending.Memory held bus = ltb bus.address 0x3000
sending_in_range (Sending.CrcLow next) held bus = crc_in_range next bus.address
sending_in_range (Sending.CrcHigh next) held bus = crc_in_range next bus.address

-- how many bits are past: of a byte fewer than 8, of a password field fewer than 64, after a Copy 0 or 1, else none
unfoldable pub stage_in_range : Stage → Held → Bus → Bool
stage_in_range Stage.Over held bus = eqb bus.at 0
stage_in_range (Stage.Hears h) held bus = ltb bus.at 8 && hearing_in_range h held
stage_in_range (Stage.Gathers g) held bus = ltb bus.at 64 && guarded_in_range g
stage_in_range (Stage.Sends s) held bus = ltb bus.at 8 && sending_in_range s held bus
stage_in_range Stage.Copied held bus = ltb bus.at 2

-- the ending offset is a place that was written, or the offset itself
unfoldable pub memory_in_range : Held → Bus → Bool
memory_in_range held bus = from_offset held held.ending && stage_in_range bus.stage held bus

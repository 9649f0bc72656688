-- What a stage lets a tag do, what a question's answer is taken for, and the deed of each slot (demand 3 of the order, request
-- #109). Assumes nothing.
use Rattle.std.specs.Prelude.{Bool, true, false, ◌||◌, ℕ, eqb, ltb, if◌then◌else◌}
use Rattle.bits.specs.Bits.{digit, shift_in}
use Rattle.bus.specs.declared.Bus.{Bus}
use Rattle.bus.specs.declared.Deed.{Deed}
use Rattle.bus.specs.declared.Guarded.{Guarded}
use Rattle.bus.specs.declared.Hearing.{Hearing}
use Rattle.bus.specs.declared.Held.{Held}
use Rattle.bus.specs.declared.Next.{Next}
use Rattle.bus.specs.declared.Question.{Question}
use Rattle.bus.specs.declared.Sending.{Sending}
use Rattle.bus.specs.declared.Stage.{Stage}
use Rattle.memory.specs.Hear.{deed_of}
use Rattle.field.specs.Field.{guarded, copies}
pub mod Laws
pub mod Deeds

-- ---- the stages that a password leads to

-- a page's CRC-16, and not the scratchpad's
unfoldable pub is_page : Next → Bool
is_page Next.Page = true
is_page Next.Nothing = false

unfoldable pub sends_memory : Sending → Bool
sends_memory Sending.Memory = true
sends_memory (Sending.CrcLow next) = is_page next
sends_memory (Sending.CrcHigh next) = is_page next
sends_memory Sending.PadLow = false
sends_memory Sending.PadHigh = false
sends_memory Sending.PadStatus = false
sends_memory (Sending.PadData place) = false

-- Read Memory sends: data, or the CRC-16 behind a page
unfoldable pub reading : Stage → Bool
reading (Stage.Sends s) = sends_memory s
reading Stage.Over = false
reading (Stage.Hears h) = false
reading (Stage.Gathers g) = false
reading Stage.Copied = false

unfoldable pub confirms : Hearing → Bool
confirms (Hearing.Confirm control) = guarded control
confirms Hearing.Command = false
confirms (Hearing.Low a) = false
confirms (Hearing.High a) = false
confirms (Hearing.Data place) = false
confirms Hearing.Status = false

-- a Clear, Start or Stop waits for its FFh, or a Copy is done
unfoldable pub writing : Stage → Bool
writing (Stage.Hears h) = confirms h
writing Stage.Copied = true
writing Stage.Over = false
writing (Stage.Gathers g) = false
writing (Stage.Sends s) = false

abbrev pub opened : Stage → Bool
opened stage = reading stage || writing stage

-- ---- a question and its answer

-- the answer 1 to whether a password field may read, and to whether it may copy, clear, start or stop
unfoldable pub lets_read : Question → ℕ → Bool
lets_read (Question.MayRead field) answer = eqb answer 1
lets_read Question.Nothing answer = false
lets_read Question.Alarm answer = false
lets_read (Question.MayCopy field address) answer = false
lets_read (Question.MayControl field) answer = false
lets_read (Question.Byte address) answer = false

unfoldable pub lets_write : Question → ℕ → Bool
lets_write (Question.MayCopy field address) answer = eqb answer 1
lets_write (Question.MayControl field) answer = eqb answer 1
lets_write Question.Nothing answer = false
lets_write Question.Alarm answer = false
lets_write (Question.MayRead field) answer = false
lets_write (Question.Byte address) answer = false

abbrev pub lets : Question → ℕ → Bool
lets question answer = lets_read question answer || lets_write question answer

-- what a memory command takes of an answer: of "may it?" whether it is 1, of a byte all, else nothing
unfoldable pub takes : Question → ℕ → ℕ
takes Question.Nothing answer = 0
takes Question.Alarm answer = 0
takes (Question.MayRead field) answer = digit (eqb answer 1)
takes (Question.MayCopy field address) answer = digit (eqb answer 1)
takes (Question.MayControl field) answer = digit (eqb answer 1)
takes (Question.Byte address) answer = answer

unfoldable pub is_byte : Question → Bool
is_byte (Question.Byte address) = true
is_byte Question.Nothing = false
is_byte Question.Alarm = false
is_byte (Question.MayRead field) = false
is_byte (Question.MayCopy field address) = false
is_byte (Question.MayControl field) = false

-- ---- deeds

-- the deed of a slot: with the last bit of a control command's FFh that command, with the last bit of a Copy's password a Store
-- if the Copy is done, and in any other slot none
unfoldable pub hearing_deed : Hearing → Bus → Bool → Deed
hearing_deed (Hearing.Confirm control) bus bit =
    if ltb bus.at 7 then Deed.Nothing
    else if eqb (shift_in 8 bus.byte bit) 0xFF then deed_of control
    else Deed.Nothing
hearing_deed Hearing.Command bus bit = Deed.Nothing
hearing_deed (Hearing.Low a) bus bit = Deed.Nothing
hearing_deed (Hearing.High a) bus bit = Deed.Nothing
hearing_deed (Hearing.Data place) bus bit = Deed.Nothing
hearing_deed Hearing.Status bus bit = Deed.Nothing

unfoldable pub field_deed : Guarded → Held → Bus → Bool → Deed
field_deed Guarded.Copying held bus may =
    if ltb bus.at 63 then Deed.Nothing
    else if copies held bus may then Deed.Store
    else Deed.Nothing
field_deed Guarded.Reading held bus may = Deed.Nothing
field_deed (Guarded.Controlling control) held bus may = Deed.Nothing

unfoldable pub deed_at : Stage → Held → Bus → Bool → ℕ → Deed
deed_at (Stage.Hears h) held bus bit answer = hearing_deed h bus bit
deed_at (Stage.Gathers g) held bus bit answer = field_deed g held bus (eqb answer 1)
deed_at Stage.Over held bus bit answer = Deed.Nothing
deed_at (Stage.Sends s) held bus bit answer = Deed.Nothing
deed_at Stage.Copied held bus bit answer = Deed.Nothing

-- nothing, or a Forced Conversion: what needs no password
unfoldable pub unguarded : Deed → Bool
unguarded Deed.Nothing = true
unguarded Deed.Convert = true
unguarded Deed.Store = false
unguarded Deed.Clear = false
unguarded Deed.Start = false
unguarded Deed.Stop = false

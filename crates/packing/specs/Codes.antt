-- The enums of a record as numbers: a case by its place in the enum's declaration, from 0 on, and beside it two numbers for what it
-- holds: one thing stands in the second, and 0 where there is nothing. Whatever the numbers are, they stand for some case; those that are a case's own are told by coding it
-- again. Assumes nothing.
use Rattle.std.specs.Prelude.{Bool, ◌&&◌, ℕ, eqb, ltb, if◌then◌else◌}
use Rattle.bits.specs.Bits.{digit}
use Rattle.bus.specs.declared.Addressed.{Addressed}
use Rattle.bus.specs.declared.Control.{Control}
use Rattle.bus.specs.declared.Guarded.{Guarded}
use Rattle.bus.specs.declared.Hearing.{Hearing}
use Rattle.bus.specs.declared.Next.{Next}
use Rattle.bus.specs.declared.Sending.{Sending}
use Rattle.bus.specs.declared.Stage.{Stage}
use Rattle.select.specs.declared.Choosing.{Choosing}
use Rattle.select.specs.declared.Mode.{Mode}
use Rattle.packing.specs.declared.Coded.{Coded}
pub mod Laws

abbrev pub coded_as : ℕ → ℕ → ℕ → Coded
coded_as case first second = record { case = case; first = first; second = second }

-- ---- what a case holds

abbrev pub addressed_code : Addressed → ℕ
addressed_code Addressed.Write = 0
addressed_code Addressed.Copy = 1
addressed_code Addressed.Read = 2

unfoldable pub addressed_of : ℕ → Addressed
addressed_of code =
    if eqb code 1 then Addressed.Copy
    else if eqb code 2 then Addressed.Read
    else Addressed.Write

abbrev pub control_code : Control → ℕ
control_code Control.Clear = 0
control_code Control.Start = 1
control_code Control.Stop = 2
control_code Control.Convert = 3

unfoldable pub control_of : ℕ → Control
control_of code =
    if eqb code 1 then Control.Start
    else if eqb code 2 then Control.Stop
    else if eqb code 3 then Control.Convert
    else Control.Clear

abbrev pub next_code : Next → ℕ
next_code Next.Nothing = 0
next_code Next.Page = 1

unfoldable pub next_of : ℕ → Next
next_of code = if eqb code 1 then Next.Page else Next.Nothing

-- ---- how a tag is chosen

abbrev pub choosing_codes : Choosing → Coded
choosing_codes Choosing.Silent = coded_as 0 0 0
choosing_codes (Choosing.Command heard count) = coded_as 1 heard count
choosing_codes (Choosing.Reading at) = coded_as 2 0 at
choosing_codes (Choosing.Matching fast at) = coded_as 3 (digit fast) at
choosing_codes (Choosing.Giving at) = coded_as 4 0 at
choosing_codes (Choosing.Complementing at) = coded_as 5 0 at
choosing_codes (Choosing.Awaiting at) = coded_as 6 0 at
choosing_codes Choosing.Selected = coded_as 7 0 0

unfoldable pub choosing_of : Coded → Choosing
choosing_of codes =
    if eqb codes.case 1 then Choosing.Command codes.first codes.second
    else if eqb codes.case 2 then Choosing.Reading codes.second
    else if eqb codes.case 3 then Choosing.Matching (eqb codes.first 1) codes.second
    else if eqb codes.case 4 then Choosing.Giving codes.second
    else if eqb codes.case 5 then Choosing.Complementing codes.second
    else if eqb codes.case 6 then Choosing.Awaiting codes.second
    else if eqb codes.case 7 then Choosing.Selected
    else Choosing.Silent

abbrev pub mode_code : Mode → ℕ
mode_code Mode.Plain = 0
mode_code Mode.Marked = 1
mode_code Mode.Overdrive = 2
mode_code Mode.OverdriveMarked = 3

unfoldable pub mode_of : ℕ → Mode
mode_of code =
    if eqb code 1 then Mode.Marked
    else if eqb code 2 then Mode.Overdrive
    else if eqb code 3 then Mode.OverdriveMarked
    else Mode.Plain

-- ---- where a memory command stands

abbrev pub hearing_codes : Hearing → Coded
hearing_codes Hearing.Command = coded_as 1 0 0
hearing_codes (Hearing.Low addressed) = coded_as 1 1 (addressed_code addressed)
hearing_codes (Hearing.High addressed) = coded_as 1 2 (addressed_code addressed)
hearing_codes (Hearing.Data place) = coded_as 1 3 place
hearing_codes Hearing.Status = coded_as 1 4 0
hearing_codes (Hearing.Confirm control) = coded_as 1 5 (control_code control)

abbrev pub guarded_codes : Guarded → Coded
guarded_codes Guarded.Reading = coded_as 2 0 0
guarded_codes Guarded.Copying = coded_as 2 1 0
guarded_codes (Guarded.Controlling control) = coded_as 2 2 (control_code control)

abbrev pub sending_codes : Sending → Coded
sending_codes Sending.PadLow = coded_as 3 0 0
sending_codes Sending.PadHigh = coded_as 3 1 0
sending_codes Sending.PadStatus = coded_as 3 2 0
sending_codes (Sending.PadData place) = coded_as 3 3 place
sending_codes Sending.Memory = coded_as 3 4 0
sending_codes (Sending.CrcLow next) = coded_as 3 5 (next_code next)
sending_codes (Sending.CrcHigh next) = coded_as 3 6 (next_code next)

abbrev pub stage_codes : Stage → Coded
stage_codes Stage.Over = coded_as 0 0 0
stage_codes (Stage.Hears hearing) = hearing_codes hearing
stage_codes (Stage.Gathers guarded) = guarded_codes guarded
stage_codes (Stage.Sends sending) = sending_codes sending
stage_codes Stage.Copied = coded_as 4 0 0

unfoldable pub hearing_of : ℕ → ℕ → Hearing
hearing_of first second =
    if eqb first 1 then Hearing.Low (addressed_of second)
    else if eqb first 2 then Hearing.High (addressed_of second)
    else if eqb first 3 then Hearing.Data second
    else if eqb first 4 then Hearing.Status
    else if eqb first 5 then Hearing.Confirm (control_of second)
    else Hearing.Command

unfoldable pub guarded_of : ℕ → ℕ → Guarded
guarded_of first second =
    if eqb first 1 then Guarded.Copying
    else if eqb first 2 then Guarded.Controlling (control_of second)
    else Guarded.Reading

unfoldable pub sending_of : ℕ → ℕ → Sending
sending_of first second =
    if eqb first 1 then Sending.PadHigh
    else if eqb first 2 then Sending.PadStatus
    else if eqb first 3 then Sending.PadData second
    else if eqb first 4 then Sending.Memory
    else if eqb first 5 then Sending.CrcLow (next_of second)
    else if eqb first 6 then Sending.CrcHigh (next_of second)
    else Sending.PadLow

unfoldable pub stage_of : Coded → Stage
stage_of codes =
    if eqb codes.case 1 then Stage.Hears (hearing_of codes.first codes.second)
    else if eqb codes.case 2 then Stage.Gathers (guarded_of codes.first codes.second)
    else if eqb codes.case 3 then Stage.Sends (sending_of codes.first codes.second)
    else if eqb codes.case 4 then Stage.Copied
    else Stage.Over

-- ---- numbers that are a case's own

unfoldable pub same_codes : Coded → Coded → Bool
same_codes codes others = eqb codes.case others.case && eqb codes.first others.first && eqb codes.second others.second

unfoldable pub is_choosing : Coded → Bool
is_choosing codes = same_codes (choosing_codes (choosing_of codes)) codes

unfoldable pub is_stage : Coded → Bool
is_stage codes = same_codes (stage_codes (stage_of codes)) codes

unfoldable pub is_mode : ℕ → Bool
is_mode code = eqb (mode_code (mode_of code)) code

unfoldable pub is_flag : ℕ → Bool
is_flag code = ltb code 2

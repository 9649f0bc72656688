-- The eight password bytes, gathered whole and judged once, at their last bit (document 01, "Memory commands"). Assumes nothing.
use Rattle.std.specs.Prelude.{Bool, true, false, ◌&&◌, not, ℕ, ◌+◌, eqb, ltb, if◌then◌else◌}
use Rattle.bits.specs.Bits.{shift_in}
use Rattle.bus.specs.declared.Bus.{Bus}
use Rattle.bus.specs.declared.Control.{Control}
use Rattle.bus.specs.declared.Deed.{Deed}
use Rattle.bus.specs.declared.Guarded.{Guarded}
use Rattle.bus.specs.declared.Hearing.{Hearing}
use Rattle.bus.specs.declared.Held.{Held}
use Rattle.bus.specs.declared.Moved.{Moved}
use Rattle.bus.specs.declared.Question.{Question}
use Rattle.bus.specs.declared.Sending.{Sending}
use Rattle.bus.specs.declared.Stage.{Stage}
use Rattle.bus.specs.Bus.{go_to, gathering, status_byte, listens}

-- "96h Clear, CCh Start, 33h Stop: eight full-password bytes, then FFh; 55h Forced Conversion: FFh alone"
unfoldable pub guarded : Control → Bool
guarded Control.Clear = true
guarded Control.Start = true
guarded Control.Stop = true
guarded Control.Convert = false

-- "Wrong password or address 3000h and above: 1s. Else data"
unfoldable pub after_reading : ℕ → Bool → Stage
after_reading address may = if ltb address 0x3000 && may then Stage.Sends Sending.Memory else Stage.Over

-- what follows a control command's password
unfoldable pub after_controlling : Control → Bool → Stage
after_controlling control may = if may then Stage.Hears (Hearing.Confirm control) else Stage.Over

-- Copy: "Done exactly if the three equal the held ones, ..
unfoldable pub as_held : Held → Bus → Bool
as_held held bus = eqb bus.address held.ta && eqb bus.status (status_byte held)

-- .. ending offset 1Fh, PF 0, ..
unfoldable pub to_the_end : Held → Bool
to_the_end held = eqb held.ending 0x1F && not held.pf

-- .. address below 0200h, or below 0280h with no mission, and full password right": the last two are the image's to answer
unfoldable pub copies : Held → Bus → Bool → Bool
copies held bus may = as_held held bus && to_the_end held && may

-- "Then AA sets"
abbrev pub with_aa : Held → Held
with_aa held = record { pad = held.pad; ta = held.ta; ending = held.ending; pf = held.pf; aa = true }

-- the field is whole, and the image has said whether it may
unfoldable pub judged : Guarded → Held → Bus → Bool → Moved
judged Guarded.Reading held bus may = listens held (go_to bus (after_reading bus.address may)) Deed.Nothing
judged Guarded.Copying held bus may =
    if copies held bus may then listens (with_aa held) (go_to bus Stage.Copied) Deed.Store
    else listens held (go_to bus Stage.Over) Deed.Nothing
judged (Guarded.Controlling control) held bus may = listens held (go_to bus (after_controlling control may)) Deed.Nothing

-- one bit of the field; with the sixty-fourth it is whole
unfoldable pub gathered_bit : Guarded → Held → Bus → Bool → Bool → Moved
gathered_bit g held bus bit may =
    if ltb bus.at 63 then listens held (gathering bus (shift_in 64 bus.field bit) (bus.at + 1)) Deed.Nothing
    else judged g held bus may

-- what is asked of the image, with the field's eight bytes
abbrev pub field_question : Guarded → Bus → ℕ → Question
field_question Guarded.Reading bus field = Question.MayRead field
field_question Guarded.Copying bus field = Question.MayCopy field bus.address
field_question (Guarded.Controlling control) bus field = Question.MayControl field

unfoldable pub field_asks : Guarded → Bus → Bool → Question
field_asks g bus bit =
    if ltb bus.at 63 then Question.Nothing
    else field_question g bus (shift_in 64 bus.field bit)

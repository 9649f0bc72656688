-- One slot of a memory command, by the stage it stands at (document 01, "Memory commands"). Assumes nothing.
use Rattle.std.specs.Prelude.{Bool, ◌&&◌, ℕ, eqb}
use Rattle.bus.specs.declared.Bus.{Bus}
use Rattle.bus.specs.declared.Deed.{Deed}
use Rattle.bus.specs.declared.Held.{Held}
use Rattle.bus.specs.declared.Moved.{Moved}
use Rattle.bus.specs.declared.Question.{Question}
use Rattle.bus.specs.declared.Stage.{Stage}
use Rattle.bus.specs.Bus.{listens}
use Rattle.memory.specs.Hear.{heard_bit}
use Rattle.field.specs.Field.{gathered_bit, field_asks}
use Rattle.memory.specs.Send.{sent_bit, alternating, send_asks}
pub mod Laws
pub mod Pad

-- what a slot at a stage asks of the image
unfoldable pub stage_asks : Stage → Bus → Bool → Question
stage_asks Stage.Over bus bit = Question.Nothing
stage_asks (Stage.Hears h) bus bit = Question.Nothing
stage_asks (Stage.Gathers g) bus bit = field_asks g bus bit
stage_asks (Stage.Sends s) bus bit = send_asks s bus
stage_asks Stage.Copied bus bit = Question.Nothing

unfoldable pub asks : Bus → Bool → Question
asks bus bit = stage_asks bus.stage bus bit

-- a slot at a stage, with the tag's own bit; "after what is named .. 1s until reset"
unfoldable pub stage_slot : Stage → Held → Bus → Bool → ℕ → Moved
stage_slot Stage.Over held bus bit answer = listens held bus Deed.Nothing
stage_slot (Stage.Hears h) held bus bit answer = heard_bit h held bus bit
stage_slot (Stage.Gathers g) held bus bit answer = gathered_bit g held bus bit (eqb answer 1)
stage_slot (Stage.Sends s) held bus bit answer = sent_bit s held bus answer
stage_slot Stage.Copied held bus bit answer = alternating held bus

-- "A slot's bit is the master's bit and the tag's bit combined by AND" ("Events and what they return")
unfoldable pub on_line : Bool → Moved → Moved
on_line bit moved = record { held = moved.held; bus = moved.bus; line = bit && moved.line; deed = moved.deed }

unfoldable pub slot_of : Held → Bus → Bool → ℕ → Moved
slot_of held bus bit answer = on_line bit (stage_slot bus.stage held bus bit answer)

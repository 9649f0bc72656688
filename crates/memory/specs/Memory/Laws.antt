-- One slot by the stage it finds: where it is not the last of its byte or password field, and where it is. Assumes nothing.
use Rattle.std.specs.Prelude.{◌≡◌, refl, Bool, true, ◌&&◌, ℕ, ◌+◌, ◌<◌, ◌≤◌, eqb}
use Rattle.std.proofs.Common.{ap, ◌∙◌, lt-ltb, le-ltb, eq-eqb, ne_eqb, arith}
use Rattle.std.proofs.Math.Bool.{and-true}
use Rattle.bits.specs.Bits.{bit_of, shift_in}
use Rattle.bits.specs.Choose.{choice}
use Rattle.bus.specs.declared.Addressed.{Addressed}
use Rattle.bus.specs.declared.Bus.{Bus}
use Rattle.bus.specs.declared.Control.{Control}
use Rattle.bus.specs.declared.Deed.{Deed}
use Rattle.bus.specs.declared.Guarded.{Guarded}
use Rattle.bus.specs.declared.Hearing.{Hearing}
use Rattle.bus.specs.declared.Held.{Held}
use Rattle.bus.specs.declared.Moved.{Moved}
use Rattle.bus.specs.declared.Next.{Next}
use Rattle.bus.specs.declared.Question.{Question}
use Rattle.bus.specs.declared.Sending.{Sending}
use Rattle.bus.specs.declared.Stage.{Stage}
use Rattle.bus.specs.Bus.{passing, gathering, listens}
use Rattle.memory.specs.Hear.{under_way, address_heard, stored, confirmed, heard_whole, heard_bit, command_stage}
use Rattle.field.specs.Field.{as_held, copies, judged, gathered_bit, field_question, field_asks, guarded}
use Rattle.memory.specs.Send.{first_byte, after_memory, after_page, after_crc, sent_whole, outgoing, sent_bit, send_asks}
use Rattle.memory.specs.Memory.{asks, stage_asks, stage_slot, on_line, slot_of}

-- ---- a command

-- what holds of the stages that commands lead to holds of every command byte's
pub command_cases : (P : Stage → Type 0) (byte : ℕ)
    → P (Stage.Hears (Hearing.Low Addressed.Write)) → P (Stage.Sends Sending.PadLow) → P (Stage.Hears (Hearing.Low Addressed.Copy))
    → P (Stage.Hears (Hearing.Low Addressed.Read))
    → ((control : Control) → guarded control ≡ true → P (Stage.Gathers (Guarded.Controlling control)))
    → P (Stage.Hears (Hearing.Confirm Control.Convert)) → P Stage.Over → P (command_stage byte)
unfolding command_stage guarded
command_cases P byte write pad copy read control convert over =
    choice P (eqb byte 0x0F) write
    (choice P (eqb byte 0xAA) pad
    (choice P (eqb byte 0x99) copy
    (choice P (eqb byte 0x69) read
    (choice P (eqb byte 0x96) (control Control.Clear refl)
    (choice P (eqb byte 0xCC) (control Control.Start refl)
    (choice P (eqb byte 0x33) (control Control.Stop refl) (choice P (eqb byte 0x55) convert over)))))))

-- ---- the stage

pub asks_at : (bus : Bus) (bit : Bool) {stage : Stage} → bus.stage ≡ stage → asks bus bit ≡ stage_asks stage bus bit
unfolding asks
asks_at bus bit e = ap (λ (k : Stage). stage_asks k bus bit) e

pub slot_at : (held : Held) (bus : Bus) (bit : Bool) (answer : ℕ) {stage : Stage} → bus.stage ≡ stage →
    slot_of held bus bit answer ≡ on_line bit (stage_slot stage held bus bit answer)
unfolding slot_of
slot_at held bus bit answer e = ap (λ (k : Stage). on_line bit (stage_slot k held bus bit answer)) e

-- a tag that listens leaves the line to the master
abbrev pub heard_as : Bool → Moved → Moved
heard_as bit moved = record { held = moved.held; bus = moved.bus; line = bit; deed = moved.deed }

pub on_line_listens : (bit : Bool) (moved : Moved) → moved.line ≡ true → on_line bit moved ≡ heard_as bit moved
unfolding on_line
on_line_listens bit moved h = rw (h, and-true)

-- ---- a byte that is heard

pub whole_listens : (h : Hearing) (held : Held) (bus : Bus) (byte : ℕ) → (heard_whole h held bus byte).line ≡ true
unfolding heard_whole address_heard confirmed
whole_listens Hearing.Command held bus byte = refl
whole_listens (Hearing.Low a) held bus byte = refl
whole_listens (Hearing.High Addressed.Write) held bus byte = refl
whole_listens (Hearing.High Addressed.Copy) held bus byte = refl
whole_listens (Hearing.High Addressed.Read) held bus byte = refl
whole_listens (Hearing.Data place) held bus byte = refl
whole_listens Hearing.Status held bus byte = refl
whole_listens (Hearing.Confirm control) held bus byte = refl

-- that its bits came one by one is forgotten once it is whole: PF too
pub whole_begun : (h : Hearing) (held : Held) (bus : Bus) (heard at byte : ℕ) →
    heard_whole h (under_way h held) (passing bus heard at) byte ≡ heard_whole h held bus byte
unfolding heard_whole address_heard stored confirmed
whole_begun Hearing.Command held bus heard at byte = refl
whole_begun (Hearing.Low a) held bus heard at byte = refl
whole_begun (Hearing.High Addressed.Write) held bus heard at byte = refl
whole_begun (Hearing.High Addressed.Copy) held bus heard at byte = refl
whole_begun (Hearing.High Addressed.Read) held bus heard at byte = refl
whole_begun (Hearing.Data place) held bus heard at byte = refl
whole_begun Hearing.Status held bus heard at byte = refl
whole_begun (Hearing.Confirm control) held bus heard at byte = refl

pub heard_more : (h : Hearing) (held : Held) (bus : Bus) (bit : Bool) (answer : ℕ) → bus.stage ≡ Stage.Hears h → bus.at < 7 →
    slot_of held bus bit answer ≡ heard_as bit (listens (under_way h held) (passing bus (shift_in 8 bus.byte bit) (bus.at + 1)) Deed.Nothing)
unfolding stage_slot heard_bit
heard_more h held bus bit answer e more =
    slot_at held bus bit answer e ∙ ap (on_line bit) (rw (lt-ltb bus.at 7 more)) ∙ on_line_listens bit _ refl

pub heard_last : (h : Hearing) (held : Held) (bus : Bus) (bit : Bool) (answer : ℕ) → bus.stage ≡ Stage.Hears h → 7 ≤ bus.at →
    slot_of held bus bit answer ≡ heard_as bit (heard_whole h held bus (shift_in 8 bus.byte bit))
unfolding stage_slot heard_bit
heard_last h held bus bit answer e last =
    let byte = shift_in 8 bus.byte bit in
    slot_at held bus bit answer e ∙ ap (on_line bit) (rw (le-ltb bus.at 7 last)) ∙ on_line_listens bit (heard_whole h held bus byte) (whole_listens h held bus byte)

-- ---- a password field

pub judged_listens : (g : Guarded) (held : Held) (bus : Bus) (may : Bool) → (judged g held bus may).line ≡ true
unfolding judged
judged_listens Guarded.Reading held bus may = refl
judged_listens Guarded.Copying held bus may = choice (λ (m : Moved). m.line ≡ true) (copies held bus may) refl refl
judged_listens (Guarded.Controlling control) held bus may = refl

pub judged_gathered : (g : Guarded) (held : Held) (bus : Bus) (field at : ℕ) (may : Bool) → judged g held (gathering bus field at) may ≡ judged g held bus may
unfolding judged copies as_held
judged_gathered Guarded.Reading held bus field at may = refl
judged_gathered Guarded.Copying held bus field at may = refl
judged_gathered (Guarded.Controlling control) held bus field at may = refl

pub question_gathered : (g : Guarded) (bus : Bus) (gathered at field : ℕ) → field_question g (gathering bus gathered at) field ≡ field_question g bus field
question_gathered Guarded.Reading bus gathered at field = refl
question_gathered Guarded.Copying bus gathered at field = refl
question_gathered (Guarded.Controlling control) bus gathered at field = refl

pub field_asks_more : (g : Guarded) (bus : Bus) (bit : Bool) → bus.stage ≡ Stage.Gathers g → bus.at < 63 → asks bus bit ≡ Question.Nothing
unfolding stage_asks field_asks
field_asks_more g bus bit e more = asks_at bus bit e ∙ rw (lt-ltb bus.at 63 more)

pub field_asks_last : (g : Guarded) (bus : Bus) (bit : Bool) → bus.stage ≡ Stage.Gathers g → 63 ≤ bus.at →
    asks bus bit ≡ field_question g bus (shift_in 64 bus.field bit)
unfolding stage_asks field_asks
field_asks_last g bus bit e last = asks_at bus bit e ∙ rw (le-ltb bus.at 63 last)

pub gathered_more : (g : Guarded) (held : Held) (bus : Bus) (bit : Bool) (answer : ℕ) → bus.stage ≡ Stage.Gathers g → bus.at < 63 →
    slot_of held bus bit answer ≡ heard_as bit (listens held (gathering bus (shift_in 64 bus.field bit) (bus.at + 1)) Deed.Nothing)
unfolding stage_slot gathered_bit
gathered_more g held bus bit answer e more =
    slot_at held bus bit answer e ∙ ap (on_line bit) (rw (lt-ltb bus.at 63 more)) ∙ on_line_listens bit _ refl

pub gathered_last : (g : Guarded) (held : Held) (bus : Bus) (bit : Bool) (answer : ℕ) → bus.stage ≡ Stage.Gathers g → 63 ≤ bus.at →
    slot_of held bus bit answer ≡ heard_as bit (judged g held bus (eqb answer 1))
unfolding stage_slot gathered_bit
gathered_last g held bus bit answer e last =
    slot_at held bus bit answer e ∙ ap (on_line bit) (rw (le-ltb bus.at 63 last)) ∙ on_line_listens bit _ (judged_listens g held bus (eqb answer 1))

-- ---- a byte that goes out

-- its byte, once its first slot is past
pub outgoing_kept : (s : Sending) (held : Held) (bus : Bus) (memory : ℕ) → 0 < bus.at → outgoing s held bus memory ≡ bus.byte
unfolding outgoing
outgoing_kept s held bus memory past = rw (ne_eqb bus.at 0 (λ e. omega arith))

pub outgoing_first : (s : Sending) (held : Held) (bus : Bus) (memory : ℕ) → bus.at ≡ 0 → outgoing s held bus memory ≡ first_byte s held bus memory
unfolding outgoing
outgoing_first s held bus memory first = rw (eq-eqb bus.at 0 first)

-- a byte of memory is asked for in its first slot
pub sending_asks_nothing : (s : Sending) (bus : Bus) (bit : Bool) → bus.stage ≡ Stage.Sends s → 0 < bus.at → asks bus bit ≡ Question.Nothing
unfolding stage_asks send_asks
sending_asks_nothing s bus bit e past = asks_at bus bit e ∙ nothing s
  where
    nothing : (s : Sending) → send_asks s bus ≡ Question.Nothing
    nothing Sending.Memory = rw (ne_eqb bus.at 0 (λ e. omega arith))
    nothing Sending.PadLow = refl
    nothing Sending.PadHigh = refl
    nothing Sending.PadStatus = refl
    nothing (Sending.PadData place) = refl
    nothing (Sending.CrcLow next) = refl
    nothing (Sending.CrcHigh next) = refl

pub sent_begun : (s : Sending) (held : Held) (bus : Bus) (kept at byte : ℕ) → sent_whole s held (passing bus kept at) byte ≡ sent_whole s held bus byte
unfolding sent_whole after_memory after_crc after_page
sent_begun Sending.PadLow held bus kept at byte = refl
sent_begun Sending.PadHigh held bus kept at byte = refl
sent_begun Sending.PadStatus held bus kept at byte = refl
sent_begun (Sending.PadData place) held bus kept at byte = refl
sent_begun Sending.Memory held bus kept at byte = refl
sent_begun (Sending.CrcLow next) held bus kept at byte = refl
sent_begun (Sending.CrcHigh Next.Nothing) held bus kept at byte = refl
sent_begun (Sending.CrcHigh Next.Page) held bus kept at byte = refl

-- one slot of it: the line carries the master's bit and the byte's, combined by AND, and the byte's bit is used up
abbrev sent : Held → Bus → Bool → Moved
sent held bus line = record { held = held; bus = bus; line = line; deed = Deed.Nothing }

pub sent_more : (s : Sending) (held : Held) (bus : Bus) (bit : Bool) (memory : ℕ) {byte : ℕ} → bus.stage ≡ Stage.Sends s → outgoing s held bus memory ≡ byte → bus.at < 7 →
    slot_of held bus bit memory ≡ sent held (passing bus byte (bus.at + 1)) (bit && bit_of byte bus.at)
unfolding stage_slot sent_bit on_line
sent_more s held bus bit memory e out more = slot_at held bus bit memory e ∙ simp (out, lt-ltb bus.at 7 more)

pub sent_last : (s : Sending) (held : Held) (bus : Bus) (bit : Bool) (memory : ℕ) {byte : ℕ} → bus.stage ≡ Stage.Sends s → outgoing s held bus memory ≡ byte → 7 ≤ bus.at →
    slot_of held bus bit memory ≡ sent held (sent_whole s held bus byte) (bit && bit_of byte bus.at)
unfolding stage_slot sent_bit on_line
sent_last s held bus bit memory e out last = slot_at held bus bit memory e ∙ simp (out, le-ltb bus.at 7 last)

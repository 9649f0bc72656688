-- A scratchpad of 32 bytes stays one, and TA has 16 bits, slot by slot. Assumes nothing.
use Rattle.std.specs.Prelude.{◌≡◌, Bool, true, false, ℕ, ◌%◌, ◌<◌, eqb, ltb, length}
use Rattle.std.proofs.Math.Path.{refl}
use Rattle.std.proofs.Common.{subst, sym, ◌∙◌}
use native.Mathlib.Omega.{arith}
use Rattle.std.proofs.Math.ListN.{length-set}
use Rattle.bits.specs.Bits.{shift_in}
use Rattle.bits.specs.Bytes.{Bytes, bytes_set}
use Rattle.bits.specs.Choose.{choice}
use Rattle.bus.specs.declared.Addressed.{Addressed}
use Rattle.bus.specs.declared.Bus.{Bus}
use Rattle.bus.specs.declared.Guarded.{Guarded}
use Rattle.bus.specs.declared.Hearing.{Hearing}
use Rattle.bus.specs.declared.Held.{Held}
use Rattle.bus.specs.declared.Moved.{Moved}
use Rattle.bus.specs.declared.Next.{Next}
use Rattle.bus.specs.declared.Sending.{Sending}
use Rattle.bus.specs.declared.Stage.{Stage}
use Rattle.memory.specs.Hear.{command_stage, after_data, heard_bit, heard_whole, address_heard, confirmed, stored, under_way}
use Rattle.field.specs.Field.{judged, gathered_bit, copies, after_reading, after_controlling}
use Rattle.memory.specs.Send.{after_pad, sent_bit, sent_whole, after_memory, after_page, after_crc, alternating, outgoing}
use Rattle.memory.specs.Memory.{slot_of, stage_slot, on_line}

-- what is heard of a byte so far is a byte
abbrev pub Heard : Stage → ℕ → Type 0
Heard (Stage.Hears h) byte = byte < 256
Heard Stage.Over byte = Unit {0}
Heard (Stage.Gathers g) byte = Unit {0}
Heard (Stage.Sends s) byte = Unit {0}
Heard Stage.Copied byte = Unit {0}

pub record Padded (held : Held) (bus : Bus) : Type 0 where
  pub size : length held.pad ≡ 32
  pub bytes : Bytes held.pad
  pub address : held.ta < 65536
  pub heard : Heard bus.stage bus.byte

-- what a slot leaves has it
abbrev pub Stays : Moved → Type 0
Stays m = Padded m.held m.bus

heard_zero : (stage : Stage) → Heard stage 0
heard_zero (Stage.Hears h) = omega arith
heard_zero Stage.Over = tt
heard_zero (Stage.Gathers g) = tt
heard_zero (Stage.Sends s) = tt
heard_zero Stage.Copied = tt

abbrev HeardOn : Bus → Type 0
HeardOn bus = Heard bus.stage bus.byte

-- a byte that has gone out leaves none under way
sent_heard : (s : Sending) (held : Held) (bus : Bus) (byte : ℕ) → HeardOn (sent_whole s held bus byte)
unfolding sent_whole after_memory after_crc after_page
sent_heard Sending.PadLow held bus byte = tt
sent_heard Sending.PadHigh held bus byte = tt
sent_heard Sending.PadStatus held bus byte = tt
sent_heard (Sending.PadData place) held bus byte = heard_zero (after_pad place)
sent_heard Sending.Memory held bus byte = choice HeardOn (ltb (bus.address % 32) 31) tt tt
sent_heard (Sending.CrcLow next) held bus byte = tt
sent_heard (Sending.CrcHigh Next.Nothing) held bus byte = tt
sent_heard (Sending.CrcHigh Next.Page) held bus byte = choice HeardOn (ltb bus.address 0x2FFF) tt tt

byte_heard : (byte : ℕ) (bit : Bool) → byte < 256 → shift_in 8 byte bit < 256
unfolding shift_in
byte_heard byte true h = omega arith
byte_heard byte false h = omega arith

module _ (held : Held) (bus : Bus) (p : Padded held bus) where
  -- the same scratchpad and TA, on another bus
  same_pad : {held' : Held} {bus' : Bus} → held'.pad ≡ held.pad → held'.ta ≡ held.ta → HeardOn bus' → Padded held' bus'
  same_pad e f h = record { size = rw e p.size; bytes = rw e p.bytes; address = rw f p.address; heard = h }

  whole_padded : (h : Hearing) (byte : ℕ) → byte < 256 → Stays (heard_whole h held bus byte)
  unfolding heard_whole address_heard stored confirmed
  whole_padded Hearing.Command byte small = same_pad refl refl (heard_zero (command_stage byte))
  whole_padded (Hearing.Low a) byte small = same_pad refl refl (omega arith)
  whole_padded (Hearing.High Addressed.Write) byte small = record { size = p.size; bytes = p.bytes; address = omega arith; heard = omega arith }
  whole_padded (Hearing.High Addressed.Copy) byte small = same_pad refl refl (omega arith)
  whole_padded (Hearing.High Addressed.Read) byte small = same_pad refl refl tt
  whole_padded (Hearing.Data place) byte small =
      record { size = length-set held.pad place byte ∙ p.size; bytes = bytes_set held.pad place byte p.bytes small; address = p.address; heard = heard_zero (after_data place) }
  whole_padded Hearing.Status byte small = same_pad refl refl tt
  whole_padded (Hearing.Confirm control) byte small = same_pad refl refl tt

  under_way_lem : (h : Hearing) → ((under_way h held).pad ≡ held.pad) × ((under_way h held).ta ≡ held.ta)
  under_way_lem Hearing.Command = (refl, refl)
  under_way_lem (Hearing.Low a) = (refl, refl)
  under_way_lem (Hearing.High a) = (refl, refl)
  under_way_lem (Hearing.Data place) = (refl, refl)
  under_way_lem Hearing.Status = (refl, refl)
  under_way_lem (Hearing.Confirm control) = (refl, refl)

  hears_padded : (h : Hearing) (bit : Bool) → bus.stage ≡ Stage.Hears h → Stays (heard_bit h held bus bit)
  unfolding heard_bit
  hears_padded h bit e =
      let byte = byte_heard bus.byte bit (subst (λ (s : Stage). Heard s bus.byte) e p.heard) in
      choice Stays (ltb bus.at 7) (same_pad (under_way_lem h).0 (under_way_lem h).1 (subst (λ (s : Stage). Heard s (shift_in 8 bus.byte bit)) (sym e) byte))
      (whole_padded h (shift_in 8 bus.byte bit) byte)

  gathers_padded : (g : Guarded) (bit may : Bool) → Stays (gathered_bit g held bus bit may)
  unfolding gathered_bit judged
  gathers_padded g bit may = choice Stays (ltb bus.at 63) (same_pad refl refl p.heard) (by_field g)
    where
      by_field : (g : Guarded) → Stays (judged g held bus may)
      by_field Guarded.Reading = same_pad refl refl (heard_zero (after_reading bus.address may))
      by_field Guarded.Copying = choice Stays (copies held bus may) (same_pad refl refl tt) (same_pad refl refl tt)
      by_field (Guarded.Controlling control) = same_pad refl refl (heard_zero (after_controlling control may))

  sends_padded : (s : Sending) (answer : ℕ) → bus.stage ≡ Stage.Sends s → Stays (sent_bit s held bus answer)
  unfolding sent_bit
  sends_padded s answer e =
      let byte = outgoing s held bus answer in
      same_pad refl refl
      (choice HeardOn (ltb bus.at 7) (subst (λ (st : Stage). Heard st byte) (sym e) tt) (sent_heard s held bus byte))

  pub slot_padded : (bit : Bool) (answer : ℕ) → Stays (slot_of held bus bit answer)
  unfolding slot_of on_line stage_slot alternating
  slot_padded bit answer = by_stage bus.stage refl
    where
      by_stage : (stage : Stage) → bus.stage ≡ stage → Stays (stage_slot stage held bus bit answer)
      by_stage Stage.Over e = p
      by_stage (Stage.Hears h) e = hears_padded h bit e
      by_stage (Stage.Gathers g) e = gathers_padded g bit (eqb answer 1)
      by_stage (Stage.Sends s) e = sends_padded s answer e
      by_stage Stage.Copied e = choice Stays (eqb bus.at 0) (same_pad refl refl p.heard) (same_pad refl refl p.heard)

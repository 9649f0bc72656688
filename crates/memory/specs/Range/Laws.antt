-- What is in range stays in range, from a new tag on. Assumes nothing.
use Rattle.std.specs.Prelude.{◌≡◌, refl, Bool, true, ◌&&◌, ℕ, ◌+◌, ◌*◌, ◌%◌, ◌<◌, ◌≤◌, eqb, ltb}
use Rattle.std.proofs.Common.{sym, subst, arith, lt-ltb, le-leb, eq-eqb, ltb-true, ltb-false, leb-true}
use Rattle.std.proofs.Math.Bool.{and-eq-true_iff}
use Rattle.bits.specs.Choose.{choice, either}
use Rattle.bits.specs.Bits.{shift_in}
use Rattle.memory.specs.Memory.Laws.{command_cases}
use Rattle.bus.specs.declared.Addressed.{Addressed}
use Rattle.bus.specs.declared.Bus.{Bus}
use Rattle.bus.specs.declared.Guarded.{Guarded}
use Rattle.bus.specs.declared.Hearing.{Hearing}
use Rattle.bus.specs.declared.Held.{Held}
use Rattle.bus.specs.declared.Moved.{Moved}
use Rattle.bus.specs.declared.Next.{Next}
use Rattle.bus.specs.declared.Sending.{Sending}
use Rattle.bus.specs.declared.Stage.{Stage}
use Rattle.bus.specs.Bus.{new_held, clear_bus, go_to, passing, adding, fresh_crc}
use Rattle.memory.specs.Hear.{command_stage, address_heard, loaded, stored, after_data, under_way, confirmed, heard_whole, heard_bit}
use Rattle.field.specs.Field.{after_reading, after_controlling, copies, judged, gathered_bit}
use Rattle.memory.specs.Send.{after_pad, after_memory, after_page, after_crc, sent_whole, outgoing, sent_bit, alternating}
use Rattle.memory.specs.Memory.{stage_slot, on_line, slot_of}
use Rattle.memory.specs.Range.{from_offset, hearing_in_range, guarded_in_range, crc_in_range, sending_in_range, stage_in_range, memory_in_range}

and_intro : {a b : Bool} → a ≡ true → b ≡ true → (a && b) ≡ true
and_intro {a} {b} p q = (and-eq-true_iff a b).1 (p, q)

-- held registers and a bus state in range, and what a slot leaves
abbrev pub Ranged : Held → Bus → Type 0
Ranged held bus = (from_offset held held.ending ≡ true) × (stage_in_range bus.stage held bus ≡ true)

pub ranged : (held : Held) (bus : Bus) → memory_in_range held bus ≡ true → Ranged held bus
unfolding memory_in_range
ranged held bus h = (and-eq-true_iff _ _).0 h

in_range_lem : (held : Held) (bus : Bus) → Ranged held bus → memory_in_range held bus ≡ true
unfolding memory_in_range
in_range_lem held bus h = and_intro h.0 h.1

abbrev After : Moved → Type 0
After moved = Ranged moved.held moved.bus

abbrev OnBus : Held → Bus → Type 0
OnBus held bus = stage_in_range bus.stage held bus ≡ true

-- a stage just entered
abbrev Entered : Held → Bus → Stage → Type 0
Entered held bus stage = stage_in_range stage held (go_to bus stage) ≡ true

-- ---- places of the scratchpad

place_ranged : (held : Held) (place : ℕ) → held.ta % 32 ≤ place → place < 32 → from_offset held place ≡ true
unfolding from_offset
place_ranged held place low high = and_intro (le-leb _ _ low) (lt-ltb _ _ high)

offset_ranged : (held : Held) → from_offset held (held.ta % 32) ≡ true
offset_ranged held = place_ranged held (held.ta % 32) (omega arith) (omega arith)

next_ranged : (held : Held) (place : ℕ) → from_offset held place ≡ true → place < 31 → from_offset held (place + 1) ≡ true
unfolding from_offset
next_ranged held place h more =
    let low : held.ta % 32 ≤ place = leb-true _ _ ((and-eq-true_iff _ _).0 h).0 in
    place_ranged held (place + 1) (omega arith) (omega arith)

-- ---- whole bytes and fields

command_ranged : (held : Held) (bus : Bus) (byte : ℕ) → Entered held bus (command_stage byte)
unfolding stage_in_range hearing_in_range guarded_in_range sending_in_range
command_ranged held bus byte = command_cases (Entered held bus) byte refl refl refl refl (λ control g. g) refl refl

heard_ranged : (h : Hearing) (held : Held) (bus : Bus) (byte : ℕ) → from_offset held held.ending ≡ true → hearing_in_range h held ≡ true → After (heard_whole h held bus byte)
unfolding heard_whole address_heard stored after_data confirmed from_offset stage_in_range hearing_in_range guarded_in_range sending_in_range crc_in_range
heard_ranged Hearing.Command held bus byte e h = (e, command_ranged held (adding (fresh_crc bus) byte) byte)
heard_ranged (Hearing.Low a) held bus byte e h = (e, refl)
heard_ranged (Hearing.High Addressed.Write) held bus byte e h =
    let now = loaded held (bus.address % 256 + 256 * byte) in (offset_ranged now, offset_ranged now)
heard_ranged (Hearing.High Addressed.Copy) held bus byte e h = (e, refl)
heard_ranged (Hearing.High Addressed.Read) held bus byte e h = (e, refl)
heard_ranged (Hearing.Data place) held bus byte e h =
    let now = stored held place byte in
    (h, either (Entered now (adding bus byte)) (ltb place 31) (λ more. next_ranged now place h (ltb-true place 31 more)) (λ last. refl))
heard_ranged Hearing.Status held bus byte e h = (e, refl)
heard_ranged (Hearing.Confirm control) held bus byte e h = (e, refl)

judged_ranged : (g : Guarded) (held : Held) (bus : Bus) (may : Bool) → from_offset held held.ending ≡ true → After (judged g held bus may)
unfolding judged after_reading after_controlling from_offset stage_in_range hearing_in_range sending_in_range
judged_ranged Guarded.Reading held bus may e =
    let low = ltb bus.address 0x3000 in (e, either (Entered held bus) (low && may) (λ both. ((and-eq-true_iff low may).0 both).0) (λ shut. refl))
judged_ranged Guarded.Copying held bus may e =
    choice After (copies held bus may) (e, refl) (e, refl)
judged_ranged (Guarded.Controlling control) held bus may e = (e, choice (Entered held bus) may refl refl)

-- Read Memory's next byte, and the next page
memory_ranged : (held : Held) (bus : Bus) → ltb bus.address 0x3000 ≡ true → stage_in_range (after_memory bus).stage held (after_memory bus) ≡ true
unfolding after_memory stage_in_range sending_in_range crc_in_range
memory_ranged held bus h =
    let low : bus.address < 0x3000 = ltb-true _ _ h in
    either (OnBus held) (ltb (bus.address % 32) 31)
    (λ more. lt-ltb (bus.address + 1) 0x3000 (omega (arith, ltb-true (bus.address % 32) 31 more)))
    (λ end.
    let last : bus.address % 32 ≡ 31 = omega (arith, ltb-false (bus.address % 32) 31 end) in
    and_intro h (eq-eqb _ _ last))

sent_ranged : (s : Sending) (held : Held) (bus : Bus) (byte : ℕ) → sending_in_range s held bus ≡ true → OnBus held (sent_whole s held bus byte)
unfolding sent_whole after_pad after_crc after_page stage_in_range sending_in_range crc_in_range
sent_ranged Sending.PadLow held bus byte h = refl
sent_ranged Sending.PadHigh held bus byte h = refl
sent_ranged Sending.PadStatus held bus byte h = offset_ranged held
sent_ranged (Sending.PadData place) held bus byte h =
    either (λ (s : Sending). Entered held (adding bus byte) (Stage.Sends s)) (ltb place 31)
    (λ more. next_ranged held place h (ltb-true place 31 more))
    (λ last. refl)
sent_ranged Sending.Memory held bus byte h = memory_ranged held (adding bus byte) h
sent_ranged (Sending.CrcLow next) held bus byte h = h
sent_ranged (Sending.CrcHigh Next.Nothing) held bus byte h = refl
sent_ranged (Sending.CrcHigh Next.Page) held bus byte h =
    either (OnBus held) (ltb bus.address 0x2FFF)
    (λ more. lt-ltb (bus.address + 1) 0x3000 (omega (arith, ltb-true bus.address 0x2FFF more)))
    (λ last. refl)

-- ---- one slot

at_stage : (held : Held) (bus : Bus) {k : Stage} → bus.stage ≡ k → Ranged held bus → stage_in_range k held bus ≡ true
at_stage held bus e given = subst (λ (k : Stage). stage_in_range k held bus ≡ true) e given.1

on_bus : (held : Held) (bus : Bus) {k : Stage} → bus.stage ≡ k → stage_in_range k held bus ≡ true → OnBus held bus
on_bus held bus e h = subst (λ (k : Stage). stage_in_range k held bus ≡ true) (sym e) h

-- a data byte that has begun leaves the places as they are
begun_ranged : (h : Hearing) (held : Held) → from_offset held held.ending ≡ true → hearing_in_range h held ≡ true →
    (from_offset (under_way h held) (under_way h held).ending ≡ true) × (hearing_in_range h (under_way h held) ≡ true)
unfolding from_offset hearing_in_range
begun_ranged Hearing.Command held e h = (e, h)
begun_ranged (Hearing.Low a) held e h = (e, h)
begun_ranged (Hearing.High a) held e h = (e, h)
begun_ranged (Hearing.Data place) held e h = (e, h)
begun_ranged Hearing.Status held e h = (e, h)
begun_ranged (Hearing.Confirm control) held e h = (e, h)

heard_bit_ranged : (h : Hearing) (held : Held) (bus : Bus) (bit : Bool) → bus.stage ≡ Stage.Hears h → Ranged held bus → After (heard_bit h held bus bit)
unfolding heard_bit stage_in_range
heard_bit_ranged h held bus bit e given =
    let hearing = ((and-eq-true_iff (ltb bus.at 8) _).0 (at_stage held bus e given)).1 in
    let begun = begun_ranged h held given.0 hearing in
    either After (ltb bus.at 7)
    (λ more. (begun.0, on_bus _ _ e (and_intro (lt-ltb (bus.at + 1) 8 (omega (arith, ltb-true bus.at 7 more))) begun.1)))
    (λ last. heard_ranged h held bus (shift_in 8 bus.byte bit) given.0 hearing)

gathered_ranged : (g : Guarded) (held : Held) (bus : Bus) (bit may : Bool) → bus.stage ≡ Stage.Gathers g → Ranged held bus → After (gathered_bit g held bus bit may)
unfolding gathered_bit stage_in_range
gathered_ranged g held bus bit may e given =
    let control = ((and-eq-true_iff (ltb bus.at 64) _).0 (at_stage held bus e given)).1 in
    either After (ltb bus.at 63)
    (λ more. (given.0, on_bus _ _ e (and_intro (lt-ltb (bus.at + 1) 64 (omega (arith, ltb-true bus.at 63 more))) control)))
    (λ last. judged_ranged g held bus may given.0)

-- a bit more of a byte that goes out changes none of what its range is about
passing_ranged : (s : Sending) (held : Held) (bus : Bus) (byte at : ℕ) → sending_in_range s held bus ≡ true → sending_in_range s held (passing bus byte at) ≡ true
unfolding sending_in_range
passing_ranged Sending.PadLow held bus byte at h = h
passing_ranged Sending.PadHigh held bus byte at h = h
passing_ranged Sending.PadStatus held bus byte at h = h
passing_ranged (Sending.PadData place) held bus byte at h = h
passing_ranged Sending.Memory held bus byte at h = h
passing_ranged (Sending.CrcLow next) held bus byte at h = h
passing_ranged (Sending.CrcHigh next) held bus byte at h = h

sent_bit_ranged : (s : Sending) (held : Held) (bus : Bus) (memory : ℕ) → bus.stage ≡ Stage.Sends s → Ranged held bus → After (sent_bit s held bus memory)
unfolding sent_bit stage_in_range
sent_bit_ranged s held bus memory e given =
    let sending = ((and-eq-true_iff (ltb bus.at 8) _).0 (at_stage held bus e given)).1 in (
      given.0,
      either (OnBus held) (ltb bus.at 7)
          (λ more. on_bus _ _ e (and_intro (lt-ltb (bus.at + 1) 8 (omega (arith, ltb-true bus.at 7 more))) (passing_ranged s held bus _ _ sending)))
          (λ last. sent_ranged s held bus (outgoing s held bus memory) sending),
    )

pub slot_in_range : (held : Held) (bus : Bus) (bit : Bool) (answer : ℕ) → memory_in_range held bus ≡ true →
    memory_in_range (slot_of held bus bit answer).held (slot_of held bus bit answer).bus ≡ true
unfolding slot_of on_line stage_slot alternating stage_in_range
slot_in_range held bus bit answer h = in_range_lem _ _ (at bus.stage refl)
  where
    given : Ranged held bus
    given = ranged held bus h

    at : (k : Stage) → bus.stage ≡ k → After (stage_slot k held bus bit answer)
    at Stage.Over e = given
    at (Stage.Hears hearing) e = heard_bit_ranged hearing held bus bit e given
    at (Stage.Gathers g) e = gathered_ranged g held bus bit (eqb answer 1) e given
    at (Stage.Sends s) e = sent_bit_ranged s held bus answer e given
    at Stage.Copied e = choice After (eqb bus.at 0) (given.0, on_bus _ _ e refl) (given.0, on_bus _ _ e refl)

-- ---- a new tag, and a reset

pub new_in_range : memory_in_range new_held (clear_bus Stage.Over) ≡ true
unfolding memory_in_range from_offset stage_in_range
new_in_range = refl

pub clear_in_range : (held : Held) (bus : Bus) → memory_in_range held bus ≡ true → memory_in_range held (clear_bus (Stage.Hears Hearing.Command)) ≡ true
unfolding stage_in_range hearing_in_range
clear_in_range held bus h = in_range_lem held _ ((ranged held bus h).0, refl)

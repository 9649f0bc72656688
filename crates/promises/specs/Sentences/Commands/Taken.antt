-- "A byte is taken at its first slot": ticks between its slots leave it; and what a slot may change at all. Assumes nothing.
use Rattle.std.specs.Prelude.{◌≡◌, refl, Bool, true, List, [], ◌∷◌, ◌++◌, map, ℕ, zero, suc, ◌+◌, ◌*◌, ◌/◌, ◌%◌, ◌^◌, ◌<◌, ltb, if◌then◌else◌}
use Rattle.std.proofs.Math.Path.{ap}
use Rattle.std.proofs.Common.{◌∙◌, inl, inr, div-one, arith, ltb-true, ltb-false}
use Rattle.std.proofs.Math.Bool.{and-eq-true_iff}
use Rattle.std.proofs.Math.Logic.{dite}
use Rattle.std.proofs.Math.Decide.{dec_le}
use Rattle.bits.specs.Bits.{bit_of, bits_of, released}
use Rattle.bits.specs.Bits.Laws.{no_bits, bits_from_lem}
use Rattle.bits.specs.Choose.{either}
use Rattle.crc.specs.Crc.{crc16_run}
use Rattle.dump.specs.Lines.{bytes_from}
use Rattle.exchange.specs.declared.Exchange.{Exchange}
use Rattle.exchange.specs.Exchange as exchange
use Rattle.exchange.specs.declared.Slotted.{Slotted}
use Rattle.exchange.specs.Runs.{commanding}
use Rattle.bus.specs.declared.Bus.{Bus}
use Rattle.bus.specs.declared.Deed.{Deed}
use Rattle.bus.specs.declared.Guarded.{Guarded}
use Rattle.bus.specs.declared.Hearing.{Hearing}
use Rattle.bus.specs.declared.Held.{Held}
use Rattle.bus.specs.declared.Moved.{Moved}
use Rattle.bus.specs.declared.Question.{Question}
use Rattle.bus.specs.declared.Sending.{Sending}
use Rattle.bus.specs.declared.Stage.{Stage}
use Rattle.bus.specs.Bus.{go_to, passing}
use Rattle.event.specs.Event.{answer_to, performed, performed_counters, slotted, tick_tag}
use Rattle.image.specs.Sent as image_sent
use Rattle.memory.specs.Memory as memory
use Rattle.memory.specs.Memory.Laws.{outgoing_kept, outgoing_first, sent_more, sent_last}
use Rattle.memory.specs.Phases.{deed_at, hearing_deed, field_deed}
use Rattle.memory.specs.Phases.Deeds.{deed_is}
use Rattle.memory.specs.Range.{stage_in_range, hearing_in_range, guarded_in_range}
use Rattle.memory.specs.Runs.Scratchpad.{over_at}
use Rattle.memory.specs.Send.{first_byte, send_asks}
use Rattle.select.specs.declared.Choosing.{Choosing}
use Rattle.select.specs.Select as select
use Rattle.select.specs.declared.Mode.{Mode}
use Rattle.promises.specs.Line.ReadRun.{read_head, begun_run}
use Rattle.promises.specs.Line.Slots.{answers_of, line_event}
use Rattle.promises.specs.Ranges.{Fit}
use Rattle.promises.specs.Ranges.Laws.{fit_sound}
use Rattle.promises.specs.Runs.{State, Event, Ran, after, line_bit, run}
use Rattle.promises.specs.Runs.Laws.{Sound, sound_after, sound_run, slot_happens, tick_happens, tick_passed, code_run}
use Rattle.promises.specs.Sentences.Commands.{sent, head_of, PassesRead}
use Rattle.promises.specs.Sentences.Reading.{Reads, slot_line}
use Rattle.promises.specs.Sentences.Slots.{choosing_of, Acts}
use Rattle.promises.specs.Sentences.Commands.Cases.{chosen_cases}
use Rattle.promises.specs.Sentences.Commands.Loading.{stage_of_lem}
use Rattle.promises.specs.Sentences.Commands.Passwords.{read_may, answers_read}
use Rattle.promises.specs.Sentences.Commands.Sent.{mode_of, goes_on, sent_quiet, head_is}
use Rattle.promises.specs.Sentences.Memory.{sent_at}
use Rattle.promises.specs.Sentences.Memory.Laws.{sent_is}
use Rattle.promises.specs.Words.{low, number_of, held_of, Chosen}
use Rattle.promises.specs.Words.Laws.{low_is}

-- ---- ticks leave the line where it was

-- one tick
tick_exchange : {s : State} → Sound s → (reading : ℕ) → (after s (Event.tick reading)).tag.exchange ≡ s.tag.exchange
unfolding after tick_tag
tick_exchange {s} sound reading =
    dite (dec_le reading 2047) (λ small. rw (tick_happens sound reading small))
    (λ high. ap (λ (t : State). t.tag.exchange) (tick_passed sound reading (omega arith)))

-- and more
ticks_exchange : {s : State} → Sound s → (readings : List ℕ) → (run s (map Event.tick readings)).state.tag.exchange ≡ s.tag.exchange
unfolding run
ticks_exchange sound [] = refl
ticks_exchange {s} sound (reading ∷ readings) =
    ticks_exchange {s = after s (Event.tick reading)} (sound_after (Event.tick reading) sound) readings ∙ tick_exchange sound reading

-- ---- a slot of a chosen tag

module _ {number : ℕ} {mode : Mode} {held : Held} {bus : Bus} {u : State} (sound : Sound u)
    (at : u.tag.exchange ≡ commanding number mode held bus) (bit : Bool) where
  -- what its memory command makes of it
  abbrev moved_by : Moved
  moved_by = memory.slot_of held bus bit (answers_of u (memory.asks bus bit))

  -- the line's bit
  slot_line_lem : line_bit u (Event.slot bit) ≡ moved_by.line
  unfolding slotted exchange.slot_of exchange.asks select.is_chosen
  slot_line_lem =
      line_event u (Event.slot bit) (slot_happens sound bit)
      ∙ ap (λ (x : Exchange). (exchange.slot_of x bit (answers_of u (exchange.asks x bit))).line) at

  -- and where it stands then
  slot_exchange : (after u (Event.slot bit)).tag.exchange ≡ commanding number mode moved_by.held moved_by.bus
  unfolding after slotted exchange.slot_of exchange.asks select.is_chosen
  slot_exchange = rw (slot_happens sound bit, at)

-- ---- the slots of a byte after its first

-- no slot, and no bit of one
none_left : (es : List Event) (u : State) → Reads 0 es → slot_line u es ≡ []
unfolding Reads slot_line
none_left [] u reads = refl
none_left (Event.slot b ∷ es) u reads = absurd reads
none_left (Event.tick reading ∷ es) u reads = none_left es (after u (Event.tick reading)) reads
none_left (Event.reset ∷ es) u reads = absurd reads
none_left (Event.short ∷ es) u reads = absurd reads

-- n + 1 slots, and the bits that are left of the byte
bits_left : {number : ℕ} {mode : Mode} {held : Held} (n : ℕ) (es : List Event) (bus : Bus) {u : State} → Sound u →
    u.tag.exchange ≡ commanding number mode held bus → bus.stage ≡ Stage.Sends Sending.Memory → 0 < bus.at → bus.at + n ≡ 7 → Reads (suc n) es →
    slot_line u es ≡ bits_of (suc n) (bus.byte / 2 ^ bus.at)
unfolding Reads slot_line
bits_left n [] bus sound at e past count reads = absurd reads
bits_left n (Event.reset ∷ es) bus sound at e past count reads = absurd reads
bits_left n (Event.short ∷ es) bus sound at e past count reads = absurd reads
bits_left n (Event.tick reading ∷ es) bus sound at e past count reads =
    bits_left n es bus (sound_after (Event.tick reading) sound) (tick_exchange sound reading ∙ at) e past count reads
bits_left {held = held} zero (Event.slot b ∷ es) bus {u} sound at e past count reads =
    let slot = sent_last Sending.Memory held bus b (answers_of u (memory.asks bus b)) e (outgoing_kept Sending.Memory held bus _ past) (omega arith) in
    rw (bits_from_lem 0 bus.byte bus.at, no_bits, none_left es (after u (Event.slot b)) reads.1, slot_line_lem sound at b, slot, reads.0)
bits_left {held = held} (suc n) (Event.slot b ∷ es) bus {u} sound at e past count reads =
    let slot = sent_more Sending.Memory held bus b (answers_of u (memory.asks bus b)) e (outgoing_kept Sending.Memory held bus _ past) (omega arith) in
    let next = passing bus bus.byte (bus.at + 1) in
    let rest = bits_left n es next (sound_after (Event.slot b) sound) (rw slot at (slot_exchange sound at b)) e (omega arith) (omega arith)
    reads.1 in
    rw (bits_from_lem (suc n) bus.byte bus.at, rest, slot_line_lem sound at b, slot, reads.0)

-- ---- a byte from its first slot on

-- the byte of an address, as the image has it at that slot
takes_byte : {number : ℕ} {mode : Mode} {held : Held} (crc address : ℕ) (es : List Event) {u : State} {code : ℕ} → Sound u → u.tag.code ≡ code →
    u.tag.exchange ≡ commanding number mode held (go_to (over_at crc address) (Stage.Sends Sending.Memory)) → Reads 7 es →
    slot_line u (Event.slot true ∷ es) ≡ low 8 (sent_at u.image code address)
unfolding slot_line answer_to memory.asks memory.stage_asks send_asks first_byte
takes_byte {held = held} crc address es {u} sound is at reads =
    let bus = go_to (over_at crc address) (Stage.Sends Sending.Memory) in
    let byte = image_sent.sent_at u.image u.tag.code address in
    let slot = sent_more Sending.Memory held bus true byte refl (outgoing_first Sending.Memory held bus byte refl) (omega arith) in
    let rest = bits_left 6 es (passing bus byte 1) (sound_after (Event.slot true) sound) (rw slot at (slot_exchange sound at true)) refl
    (omega arith) (omega arith) reads in
    let bits : bits_of 8 byte ≡ bit_of byte 0 ∷ bits_of 7 (byte / 2 ^ 1) = rw div-one at (bits_from_lem 7 byte 0) in
    rw (← is, sent_is u.image sound.size u.tag.code address, low_is 8 byte, bits, rest, slot_line_lem sound at true, slot)

-- after k bytes of a page, and ticks
pub takes : {s : State} → Fit s → Chosen s → (address field k : ℕ) → field < 2 ^ 64 → PassesRead s field → address < 0x3000 →
    address % 32 + k < 32 → (readings : List ℕ) (es : List Event) → Reads 7 es →
    let there = (run (sent s (head_of 0x69 address ++ (low 64 field ++ released (k * 8)))).state (map Event.tick readings)).state in
    slot_line there (Event.slot true ∷ es) ≡ low 8 (sent_at there.image s.tag.code (address + k))
takes {s} fit ready address field k whole passes low-enough inside readings es reads =
    let head = head_of 0x69 address ++ (low 64 field ++ released (k * 8)) in
    let crc = crc16_run (crc16_run 0 (read_head address)) (bytes_from (λ a. answers_of s (Question.Byte a)) address k) in
    let bus = go_to (over_at crc (address + k)) (Stage.Sends Sending.Memory) in
    let begun : (sent s head).state ≡ goes_on s (held_of s) bus =
    rw (head_is 0x69 address, low_is 64 field)
    (ap (λ (r : Ran). r.state)
    (sent_quiet fit ready _
    (begun_run (answers_of s) (number_of s) (mode_of s) (held_of s) address field whole k low-enough (answers_read s field ∙ read_may s field passes)
    inside))) in
    let sound = sound_run (map Event.slot head) (fit_sound fit) in
    let code = code_run (map Event.tick readings) sound ∙ code_run (map Event.slot head) (fit_sound fit) in
    takes_byte crc (address + k) es (sound_run (map Event.tick readings) sound) code
    (ticks_exchange sound readings ∙ ap (λ (t : State). t.tag.exchange) begun) reads

-- ---- what a slot may change

-- neither image nor counters, but at the end of a Copy's password and of a byte FFh
pub still : {s : State} → Fit s → (b : Bool) → (Acts s → ⊥) →
    ((after s (Event.slot b)).image ≡ s.image) × ((after s (Event.slot b)).tag.counters ≡ s.tag.counters)
unfolding after slotted performed performed_counters deed_at hearing_deed field_deed stage_in_range
still {s} fit b never =
    let x = s.tag.exchange in
    let answer = answers_of s (exchange.asks x b) in
    let none = chosen_cases x b (λ (m : Slotted). m.deed ≡ Deed.Nothing) answer (λ chosen. idle chosen answer) refl in
    rw (slot_happens (fit_sound fit) b, none) (refl, refl)
  where
    bus : Bus
    bus = s.tag.exchange.bus

    unless_last : (n : ℕ) (deed : Deed) → bus.at < suc n → (bus.at ≡ n → ⊥) → (if ltb bus.at n then Deed.Nothing else deed) ≡ Deed.Nothing
    unless_last n deed few other =
        either (λ (d : Deed). d ≡ Deed.Nothing) (ltb bus.at n) (λ more. refl) (λ last. absurd (other (omega (arith, ltb-false bus.at n last))))

    idle : choosing_of s ≡ Choosing.Selected → (answer : ℕ) → (memory.slot_of (held_of s) bus b answer).deed ≡ Deed.Nothing
    idle chosen answer = deed_is (held_of s) bus b answer ∙ at bus.stage refl
      where
        at : (k : Stage) → bus.stage ≡ k → deed_at k (held_of s) bus b answer ≡ Deed.Nothing
        at Stage.Over e = refl
        at (Stage.Hears Hearing.Command) e = refl
        at (Stage.Hears (Hearing.Low a)) e = refl
        at (Stage.Hears (Hearing.High a)) e = refl
        at (Stage.Hears (Hearing.Data place)) e = refl
        at (Stage.Hears Hearing.Status) e = refl
        at (Stage.Hears (Hearing.Confirm c)) e =
            let fits = (and-eq-true_iff (ltb bus.at 8) (hearing_in_range (Hearing.Confirm c) (held_of s))).0 (rw e at (stage_of_lem fit)) in
            let few = ltb-true bus.at 8 fits.0 in
            unless_last 7 _ few (λ last. never (chosen, inr (c, e, last)))
        at (Stage.Gathers Guarded.Reading) e = refl
        at (Stage.Gathers Guarded.Copying) e =
            let fits = (and-eq-true_iff (ltb bus.at 64) (guarded_in_range Guarded.Copying)).0 (rw e at (stage_of_lem fit)) in
            let few = ltb-true bus.at 64 fits.0 in
            unless_last 63 _ few (λ last. never (chosen, inl (e, last)))
        at (Stage.Gathers (Guarded.Controlling c)) e = refl
        at (Stage.Sends sending) e = refl
        at Stage.Copied e = refl

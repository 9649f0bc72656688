-- Tags on one line go in step: of two that got the same slots and resets from a new line on, one is silent until a reset, or both hear the same
-- byte, or neither hears anything until a reset. So none listens while another sends. Assumes nothing.
use Rattle.std.specs.Prelude.{◌≡◌, Bool, ◌&&◌, ◌||◌, ◌⊎◌, [], ◌∷◌, ℕ, ◌%◌, eqb, ltb, if◌then◌else◌}
use Rattle.std.proofs.Math.Path.{refl, sym, ap}
use Rattle.std.proofs.Common.{subst, ◌∙◌, inl, inr, ⊎_elim}
use Rattle.std.proofs.Math.Bool.{true, false}
use Rattle.std.specs.Bool.{beq}
use Rattle.std.proofs.lemmas.Bool.{false≢true}
use Rattle.bits.specs.Bits.{bit_of, shift_in}
use Rattle.bits.specs.Choose.{choice, choices}
use Rattle.bus.specs.declared.Addressed.{Addressed}
use Rattle.bus.specs.declared.Bus.{Bus}
use Rattle.bus.specs.declared.Guarded.{Guarded}
use Rattle.bus.specs.declared.Hearing.{Hearing}
use Rattle.bus.specs.declared.Held.{Held}
use Rattle.bus.specs.declared.Moved.{Moved}
use Rattle.bus.specs.declared.Next.{Next}
use Rattle.bus.specs.declared.Sending.{Sending}
use Rattle.bus.specs.declared.Stage.{Stage}
use Rattle.bus.specs.declared.Deed.{Deed}
use Rattle.bus.specs.Bus.{go_to, listens}
use Rattle.event.specs.Event.{answer_to, performed, performed_counters, slotted}
use Rattle.exchange.specs.declared.Exchange.{Exchange}
use Rattle.exchange.specs.declared.Slotted.{Slotted}
use Rattle.exchange.specs.Exchange as exchange
use Rattle.field.specs.Field.{after_reading, after_controlling, copies, with_aa, judged, gathered_bit}
use Rattle.select.specs.declared.Choosing.{Choosing}
use Rattle.select.specs.declared.Mode.{Mode}
use Rattle.select.specs.declared.Select.{Select}
use Rattle.select.specs.Select.{mark_in, speed_in, keeps, clears, rom_command, command_bit, following, read_bit, whole, heard_bit, slot_at, slot_of, is_chosen, restarted}
use Rattle.select.specs.Select.Laws.{speed_of_lem}
use Rattle.memory.specs.Hear as hear
use Rattle.memory.specs.Hear.{address_heard, confirmed, heard_whole}
use Rattle.memory.specs.Memory as memory
use Rattle.promises.specs.Line.Choosing.{silent_run}
use Rattle.promises.specs.Ranges.{Fit}
use Rattle.promises.specs.Ranges.Laws.{fit_sound}
use Rattle.promises.specs.Runs.{State, Event, after, Ran, run}
use Rattle.promises.specs.Runs.Laws.{slot_happens}
use Rattle.promises.specs.Sentences.Events.{sends}
use Rattle.promises.specs.Sentences.Events.Proof.{events}
use Rattle.memory.specs.Send.{after_pad, after_memory, after_page, after_crc, sent_whole, sent_bit, alternating}

-- ---- memory commands

-- nothing is heard until a reset
unfoldable pub spent : Stage → Bool
spent Stage.Over = true
spent (Stage.Sends s) = true
spent Stage.Copied = true
spent (Stage.Hears h) = false
spent (Stage.Gathers g) = false

-- two chosen tags
pub data Buses (a b : Bus) : Type 0 where
  same : a ≡ b → Buses a b
  over_a : a.stage ≡ Stage.Over → Buses a b
  over_b : b.stage ≡ Stage.Over → Buses a b
  ended : spent a.stage ≡ true → spent b.stage ≡ true → Buses a b

buses_sym : {a b : Bus} → Buses a b → Buses b a
buses_sym (Buses.same e) = Buses.same (sym e)
buses_sym (Buses.over_a e) = Buses.over_b e
buses_sym (Buses.over_b e) = Buses.over_a e
buses_sym (Buses.ended p q) = Buses.ended q p

abbrev moved : Held → Bus → Bool → ℕ → Bus
moved held bus bit answer = (memory.slot_of held bus bit answer).bus

over_slot : (held : Held) (bus : Bus) (bit : Bool) (answer : ℕ) → bus.stage ≡ Stage.Over → (moved held bus bit answer).stage ≡ Stage.Over
unfolding memory.slot_of memory.on_line memory.stage_slot
over_slot held bus bit answer e = rw e refl

sent_spent : (s : Sending) (held : Held) (bus : Bus) (byte : ℕ) → spent (sent_whole s held bus byte).stage ≡ true
unfolding sent_whole after_pad after_memory after_crc after_page spent
sent_spent Sending.PadLow held bus byte = refl
sent_spent Sending.PadHigh held bus byte = refl
sent_spent Sending.PadStatus held bus byte = refl
sent_spent (Sending.PadData place) held bus byte = refl
sent_spent Sending.Memory held bus byte = choice (λ (b : Bus). spent b.stage ≡ true) (ltb (bus.address % 32) 31) refl refl
sent_spent (Sending.CrcLow next) held bus byte = refl
sent_spent (Sending.CrcHigh Next.Nothing) held bus byte = refl
sent_spent (Sending.CrcHigh Next.Page) held bus byte = choice (λ (b : Bus). spent b.stage ≡ true) (ltb bus.address 0x2FFF) refl refl

spent_slot : (held : Held) (bus : Bus) (bit : Bool) (answer : ℕ) → spent bus.stage ≡ true → spent (moved held bus bit answer).stage ≡ true
unfolding memory.slot_of memory.on_line memory.stage_slot sent_bit alternating spent
spent_slot held bus bit answer e = at bus.stage refl e
  where
    at : (s : Stage) → bus.stage ≡ s → spent s ≡ true → spent (memory.stage_slot s held bus bit answer).bus.stage ≡ true
    at Stage.Over p e = ap spent p
    at (Stage.Sends s) p e = choice (λ (b : Bus). spent b.stage ≡ true) (ltb bus.at 7) (ap spent p) (sent_spent s held bus _)
    at Stage.Copied p e = choice (λ (m : Moved). spent m.bus.stage ≡ true) (eqb bus.at 0) (ap spent p) (ap spent p)
    at (Stage.Hears h) p e = absurd (false≢true e)
    at (Stage.Gathers g) p e = absurd (false≢true e)

-- what is heard leads both to the same
hear_same : (h : Hearing) (held other : Held) (bus : Bus) (bit : Bool) → (hear.heard_bit h held bus bit).bus ≡ (hear.heard_bit h other bus bit).bus
unfolding hear.heard_bit heard_whole address_heard confirmed
hear_same h held other bus bit =
    choices (λ (m n : Moved). m.bus ≡ n.bus) (ltb bus.at 7) refl (whole h)
  where
    whole : (h : Hearing) → (heard_whole h held bus (shift_in 8 bus.byte bit)).bus ≡ (heard_whole h other bus (shift_in 8 bus.byte bit)).bus
    whole Hearing.Command = refl
    whole (Hearing.Low a) = refl
    whole (Hearing.High Addressed.Write) = refl
    whole (Hearing.High Addressed.Copy) = refl
    whole (Hearing.High Addressed.Read) = refl
    whole (Hearing.Data place) = refl
    whole Hearing.Status = refl
    whole (Hearing.Confirm control) = refl

-- a field that is judged may let one of them go on, and leave the other with 1s
parts : (a b : Bool) (bus : Bus) (on : Stage) → Buses (go_to bus (if a then on else Stage.Over)) (go_to bus (if b then on else Stage.Over))
parts true true bus on = Buses.same refl
parts true false bus on = Buses.over_b refl
parts false true bus on = Buses.over_a refl
parts false false bus on = Buses.same refl

gather_step : (g : Guarded) (held other : Held) (bus : Bus) (bit a b : Bool) → Buses (gathered_bit g held bus bit a).bus (gathered_bit g other bus bit b).bus
unfolding gathered_bit judged after_reading after_controlling
gather_step g held other bus bit a b =
    choices (λ (m n : Moved). Buses m.bus n.bus) (ltb bus.at 63) (Buses.same refl) (by g)
  where
    copied : (c d : Bool) → Buses
        (if c then listens (with_aa held) (go_to bus Stage.Copied) Deed.Store else listens held (go_to bus Stage.Over) Deed.Nothing).bus
        (if d then listens (with_aa other) (go_to bus Stage.Copied) Deed.Store else listens other (go_to bus Stage.Over) Deed.Nothing).bus
    copied true true = Buses.same refl
    copied true false = Buses.over_b refl
    copied false true = Buses.over_a refl
    copied false false = Buses.same refl

    by : (g : Guarded) → Buses (judged g held bus a).bus (judged g other bus b).bus
    by Guarded.Reading = parts (ltb bus.address 0x3000 && a) (ltb bus.address 0x3000 && b) bus (Stage.Sends Sending.Memory)
    by Guarded.Copying = copied (copies held bus a) (copies other bus b)
    by (Guarded.Controlling control) = parts a b bus (Stage.Hears (Hearing.Confirm control))

-- a slot
bus_step : {a b : Bus} → Buses a b → (held other : Held) (bit : Bool) (m n : ℕ) → Buses (moved held a bit m) (moved other b bit n)
unfolding memory.slot_of memory.on_line memory.stage_slot spent
bus_step {a} {b} (Buses.over_a e) held other bit m n = Buses.over_a (over_slot held a bit m e)
bus_step {a} {b} (Buses.over_b e) held other bit m n = Buses.over_b (over_slot other b bit n e)
bus_step {a} {b} (Buses.ended p q) held other bit m n = Buses.ended (spent_slot held a bit m p) (spent_slot other b bit n q)
bus_step {a} {b} (Buses.same e) held other bit m n = subst (λ (c : Bus). Buses (moved held a bit m) (moved other c bit n)) e (by a.stage refl)
  where
    at : (s : Stage) → a.stage ≡ s → Buses (memory.stage_slot s held a bit m).bus (memory.stage_slot s other a bit n).bus →
        Buses (moved held a bit m) (moved other a bit n)
    at s p = subst (λ (s : Stage). Buses (memory.stage_slot s held a bit m).bus (memory.stage_slot s other a bit n).bus) (sym p)

    by : (s : Stage) → a.stage ≡ s → Buses (moved held a bit m) (moved other a bit n)
    by Stage.Over p = at Stage.Over p (Buses.same refl)
    by (Stage.Hears h) p = at (Stage.Hears h) p (Buses.same (hear_same h held other a bit))
    by (Stage.Gathers g) p = at (Stage.Gathers g) p (gather_step g held other a bit (eqb m 1) (eqb n 1))
    by (Stage.Sends s) p = Buses.ended (spent_slot held a bit m (ap spent p)) (spent_slot other a bit n (ap spent p))
    by Stage.Copied p = Buses.ended (spent_slot held a bit m (ap spent p)) (spent_slot other a bit n (ap spent p))

-- ---- choosing

-- one that is slower than the other is silent
abbrev Slower : Mode → Mode → Type 0
Slower a b = (speed_in a ≡ false) ⊎ (speed_in b ≡ true)

pub data Selects (a b : Select) : Type 0 where
  together : a.choosing ≡ b.choosing → speed_in a.mode ≡ speed_in b.mode → Selects a b
  silent_a : a.choosing ≡ Choosing.Silent → Slower a.mode b.mode → Selects a b
  silent_b : b.choosing ≡ Choosing.Silent → Slower b.mode a.mode → Selects a b

slower_same : (a b : Mode) → speed_in a ≡ speed_in b → Slower a b
slower_same a b e = by (speed_in a) refl
  where
    by : (fast : Bool) → speed_in a ≡ fast → Slower a b
    by false p = inl p
    by true p = inr (sym e ∙ p)

or-true : (v : Bool) → (v || true) ≡ true
or-true true = refl
or-true false = refl

slower_whole : (a b : Mode) (fast : Bool) → speed_in a ≡ speed_in b → Slower a (whole fast b)
slower_whole a b fast e = by (speed_in a) refl
  where
    by : (v : Bool) → speed_in a ≡ v → Slower a (whole fast b)
    by false p = inl p
    by true p = inr (speed_of_lem true (fast || speed_in b) ∙ ap (λ (v : Bool). fast || v) (sym e ∙ p) ∙ or-true fast)

drops_a : {a b : Select} → speed_in a.mode ≡ speed_in b.mode → a.choosing ≡ Choosing.Silent → Selects a b
drops_a {a} {b} e k = Selects.silent_a k (slower_same a.mode b.mode e)

drops_b : {a b : Select} → speed_in a.mode ≡ speed_in b.mode → b.choosing ≡ Choosing.Silent → Selects a b
drops_b {a} {b} e k = Selects.silent_b k (slower_same b.mode a.mode (sym e))

module _ (a b : Mode) (e : speed_in a ≡ speed_in b) where
  -- the same byte is whole; an alarm or a Resume mark may part them
  cleared : (k : Choosing) → Selects (clears (speed_in a) k) (clears (speed_in b) k)
  cleared k = Selects.together refl (speed_of_lem false (speed_in a) ∙ e ∙ sym (speed_of_lem false (speed_in b)))

  joined : (p q : Bool) →
      Selects (clears (speed_in a) (if p then Choosing.Giving 0 else Choosing.Silent)) (clears (speed_in b) (if q then Choosing.Giving 0 else Choosing.Silent))
  joined true true = cleared (Choosing.Giving 0)
  joined false false = cleared Choosing.Silent
  joined true false = drops_b (speed_of_lem false (speed_in a) ∙ e ∙ sym (speed_of_lem false (speed_in b))) refl
  joined false true = drops_a (speed_of_lem false (speed_in a) ∙ e ∙ sym (speed_of_lem false (speed_in b))) refl

  resumed : (p q : Bool) → Selects (keeps a (if p then Choosing.Selected else Choosing.Silent)) (keeps b (if q then Choosing.Selected else Choosing.Silent))
  resumed true true = Selects.together refl e
  resumed false false = Selects.together refl e
  resumed true false = drops_b e refl
  resumed false true = drops_a e refl

  rom_step : (byte : ℕ) (p q : Bool) → Selects (rom_command byte a p) (rom_command byte b q)
  unfolding rom_command
  rom_step byte p q =
      choices Selects (eqb byte 0x33) (cleared _)
      (choices Selects (eqb byte 0x55) (cleared _)
      (choices Selects (eqb byte 0x69) (cleared _)
      (choices Selects (eqb byte 0xF0) (cleared _)
      (choices Selects (eqb byte 0xEC) (joined p q)
      (choices Selects (eqb byte 0xCC) (cleared _)
      (choices Selects (eqb byte 0x3C) (Selects.together refl refl)
      (choices Selects (eqb byte 0xA5) (resumed (mark_in a) (mark_in b)) (Selects.together refl e))))))))

  -- a bit of Match or Search, which each holds against its own number
  heard_step : (m n at : ℕ) (bit : Bool) (next : Choosing) (fast : Bool) → Selects (heard_bit m at bit next fast a) (heard_bit n at bit next fast b)
  unfolding heard_bit
  heard_step m n at bit next fast = by (beq (bit_of m at) bit) (beq (bit_of n at) bit) (ltb at 63)
    where
      by : (p q more : Bool) →
          Selects (if p then (if more then keeps a next else keeps (whole fast a) Choosing.Selected) else keeps a Choosing.Silent)
          (if q then (if more then keeps b next else keeps (whole fast b) Choosing.Selected) else keeps b Choosing.Silent)
      by true true true = Selects.together refl e
      by true true false = Selects.together refl (speed_of_lem true (fast || speed_in a) ∙ ap (λ (v : Bool). fast || v) e ∙ sym (speed_of_lem true (fast || speed_in b)))
      by true false true = drops_b e refl
      by true false false = Selects.silent_b refl (slower_whole b a fast (sym e))
      by false true true = drops_a e refl
      by false true false = Selects.silent_a refl (slower_whole a b fast e)
      by false false more = Selects.together refl e

-- a slot of two tags that stand at the same place
choosing_step : (k : Choosing) (a b : Mode) → speed_in a ≡ speed_in b → (m n : ℕ) (bit p q : Bool) →
    Selects (slot_at k a m bit p).select (slot_at k b n bit q).select
unfolding slot_at command_bit read_bit
choosing_step Choosing.Silent a b e m n bit p q = Selects.together refl e
choosing_step (Choosing.Command heard count) a b e m n bit p q =
    choices Selects (ltb count 7) (Selects.together refl e) (rom_step a b e (shift_in 8 heard bit) p q)
choosing_step (Choosing.Reading at) a b e m n bit p q = Selects.together refl e
choosing_step (Choosing.Matching fast at) a b e m n bit p q = heard_step a b e m n at bit (Choosing.Matching fast (following at)) fast
choosing_step (Choosing.Giving at) a b e m n bit p q = Selects.together refl e
choosing_step (Choosing.Complementing at) a b e m n bit p q = Selects.together refl e
choosing_step (Choosing.Awaiting at) a b e m n bit p q = heard_step a b e m n at bit (Choosing.Giving (following at)) false
choosing_step Choosing.Selected a b e m n bit p q = Selects.together refl e

-- no slot ends overdrive
fast_stays : (k : Choosing) (mode : Mode) (number : ℕ) (bit alarm : Bool) → speed_in mode ≡ true →
    speed_in (slot_at k mode number bit alarm).select.mode ≡ true
unfolding slot_at command_bit rom_command read_bit heard_bit
fast_stays k mode number bit alarm fast = at k
  where
    kept : (k : Choosing) → speed_in (clears (speed_in mode) k).mode ≡ true
    kept k = speed_of_lem false (speed_in mode) ∙ fast

    rom : (byte : ℕ) → speed_in (rom_command byte mode alarm).mode ≡ true
    rom byte =
        choice (λ (s : Select). speed_in s.mode ≡ true) (eqb byte 0x33) (kept (Choosing.Reading 0))
        (choice (λ (s : Select). speed_in s.mode ≡ true) (eqb byte 0x55) (kept (Choosing.Matching false 0))
        (choice (λ (s : Select). speed_in s.mode ≡ true) (eqb byte 0x69) (kept (Choosing.Matching true 0))
        (choice (λ (s : Select). speed_in s.mode ≡ true) (eqb byte 0xF0) (kept (Choosing.Giving 0))
        (choice (λ (s : Select). speed_in s.mode ≡ true) (eqb byte 0xEC) (kept (if alarm then Choosing.Giving 0 else Choosing.Silent))
        (choice (λ (s : Select). speed_in s.mode ≡ true) (eqb byte 0xCC) (kept Choosing.Selected)
        (choice (λ (s : Select). speed_in s.mode ≡ true) (eqb byte 0x3C) (speed_of_lem false true)
        (choice (λ (s : Select). speed_in s.mode ≡ true) (eqb byte 0xA5) fast fast)))))))

    told : (at : ℕ) (next : Choosing) (quick : Bool) → speed_in (heard_bit number at bit next quick mode).mode ≡ true
    told at next quick =
        choice (λ (s : Select). speed_in s.mode ≡ true) (beq (bit_of number at) bit)
        (choice (λ (s : Select). speed_in s.mode ≡ true) (ltb at 63) fast
        (speed_of_lem true (quick || speed_in mode) ∙ ap (λ (v : Bool). quick || v) fast ∙ or-true quick))
        fast

    at : (k : Choosing) → speed_in (slot_at k mode number bit alarm).select.mode ≡ true
    at Choosing.Silent = fast
    at (Choosing.Command heard count) = choice (λ (s : Select). speed_in s.mode ≡ true) (ltb count 7) fast (rom (shift_in 8 heard bit))
    at (Choosing.Reading n) = fast
    at (Choosing.Matching quick n) = told n (Choosing.Matching quick (following n)) quick
    at (Choosing.Giving n) = fast
    at (Choosing.Complementing n) = fast
    at (Choosing.Awaiting n) = told n (Choosing.Giving (following n)) false
    at Choosing.Selected = fast

-- ---- the line

-- two tags on it
pub data InStep (x y : Exchange) : Type 0 where
  together : x.select.choosing ≡ y.select.choosing → speed_in x.select.mode ≡ speed_in y.select.mode → Buses x.bus y.bus → InStep x y
  silent_x : x.select.choosing ≡ Choosing.Silent → Slower x.select.mode y.select.mode → InStep x y
  silent_y : y.select.choosing ≡ Choosing.Silent → Slower y.select.mode x.select.mode → InStep x y

pub step_sym : {x y : Exchange} → InStep x y → InStep y x
step_sym (InStep.together k s b) = InStep.together (sym k) (sym s) (buses_sym b)
step_sym (InStep.silent_x k s) = InStep.silent_y k s
step_sym (InStep.silent_y k s) = InStep.silent_x k s

-- a slot of a tag that is not chosen, and of one that is
unchosen_slot : (x : Exchange) (bit : Bool) (answer : ℕ) → is_chosen x.select.choosing ≡ false →
    exchange.slot_of x bit answer ≡ exchange.choosing x (slot_of x.select x.number bit (eqb answer 1))
unfolding exchange.slot_of
unchosen_slot x bit answer e = rw e refl

chosen_slot : (x : Exchange) (bit : Bool) (answer : ℕ) → is_chosen x.select.choosing ≡ true →
    exchange.slot_of x bit answer ≡ exchange.commanded x (memory.slot_of x.held x.bus bit answer)
unfolding exchange.slot_of
chosen_slot x bit answer e = rw e refl

silent_slot : (x : Exchange) (bit : Bool) (answer : ℕ) → x.select.choosing ≡ Choosing.Silent → (exchange.slot_of x bit answer).exchange ≡ x
unfolding exchange.slot_of is_chosen slot_of slot_at
silent_slot x bit answer k = rw k refl

fast_slot : (x : Exchange) (bit : Bool) (answer : ℕ) → speed_in x.select.mode ≡ true → speed_in (exchange.slot_of x bit answer).exchange.select.mode ≡ true
unfolding exchange.slot_of slot_of
fast_slot x bit answer fast =
    choice (λ (m : Slotted). speed_in m.exchange.select.mode ≡ true) (is_chosen x.select.choosing) fast
    (fast_stays x.select.choosing x.select.mode x.number bit (eqb answer 1) fast)

-- two that are being chosen, after a slot
go_on : (x y : Exchange) → Buses x.bus y.bus → {a b : Select} → Selects a b →
    InStep (record { number = x.number; select = a; held = x.held; bus = x.bus }) (record { number = y.number; select = b; held = y.held; bus = y.bus })
go_on x y buses (Selects.together k s) = InStep.together k s buses
go_on x y buses (Selects.silent_a k s) = InStep.silent_x k s
go_on x y buses (Selects.silent_b k s) = InStep.silent_y k s

-- a slot of both
pub slot_step : {x y : Exchange} → InStep x y → (bit : Bool) (m n : ℕ) → InStep (exchange.slot_of x bit m).exchange (exchange.slot_of y bit n).exchange
unfolding slot_of
slot_step {x} {y} (InStep.silent_x k slower) bit m n =
    rw (silent_slot x bit m k)
    (InStep.silent_x k (⊎_elim (λ slow. inl slow) (λ fast. inr (fast_slot y bit n fast)) slower))
slot_step {x} {y} (InStep.silent_y k slower) bit m n =
    rw (silent_slot y bit n k)
    (InStep.silent_y k (⊎_elim (λ slow. inl slow) (λ fast. inr (fast_slot x bit m fast)) slower))
slot_step {x} {y} (InStep.together k s b) bit m n = by (is_chosen x.select.choosing) refl
  where
    by : (chosen : Bool) → is_chosen x.select.choosing ≡ chosen → InStep (exchange.slot_of x bit m).exchange (exchange.slot_of y bit n).exchange
    by true e =
        rw (chosen_slot x bit m e, chosen_slot y bit n (ap is_chosen (sym k) ∙ e)) (InStep.together k s (bus_step b x.held y.held bit m n))
    by false e =
        rw (unchosen_slot x bit m e, unchosen_slot y bit n (ap is_chosen (sym k) ∙ e))
        (go_on x y b (subst (λ (c : Choosing). Selects (slot_of x.select x.number bit (eqb m 1)).select (slot_at c y.select.mode y.number bit (eqb n 1)).select) k
        (choosing_step x.select.choosing x.select.mode y.select.mode s x.number y.number bit (eqb m 1) (eqb n 1))))

-- ---- resets

pub reset_step : (x y : Exchange) → InStep (exchange.after_reset x) (exchange.after_reset y)
reset_step x y =
    InStep.together refl (speed_of_lem (mark_in x.select.mode) false ∙ sym (speed_of_lem (mark_in y.select.mode) false)) (Buses.same refl)

-- a short one: both hear it, or the one that does not is silent
pub short_step : {x y : Exchange} → InStep x y → InStep (exchange.after_short x) (exchange.after_short y)
unfolding exchange.after_short
short_step {x} {y} step = by (speed_in x.select.mode) (speed_in y.select.mode) refl refl step
  where
    by : (p q : Bool) → speed_in x.select.mode ≡ p → speed_in y.select.mode ≡ q → InStep x y →
        InStep (if p then exchange.begun x (restarted x.select) else x) (if q then exchange.begun y (restarted y.select) else y)
    by true true e f step = InStep.together refl (e ∙ sym f) (Buses.same refl)
    by false false e f step = step
    by true false e f (InStep.together k s b) = absurd (false≢true (sym f ∙ sym s ∙ e))
    by true false e f (InStep.silent_x k (inl slow)) = absurd (false≢true (sym slow ∙ e))
    by true false e f (InStep.silent_x k (inr fast)) = absurd (false≢true (sym f ∙ fast))
    by true false e f (InStep.silent_y k s) = InStep.silent_y k (inl f)
    by false true e f (InStep.together k s b) = absurd (false≢true (sym e ∙ s ∙ f))
    by false true e f (InStep.silent_x k s) = InStep.silent_x k (inl e)
    by false true e f (InStep.silent_y k (inl slow)) = absurd (false≢true (sym slow ∙ f))
    by false true e f (InStep.silent_y k (inr fast)) = absurd (false≢true (sym e ∙ fast))

-- ---- a tag that listens while the other sends

-- a tag to which the master's bit makes no difference: it sends, and uses up its bit, or hears nothing until a reset
pub data Deaf (k : Choosing) (stage : Stage) : Type 0 where
  sending : sends k stage ≡ true → Deaf k stage
  silent : k ≡ Choosing.Silent → Deaf k stage
  over : k ≡ Choosing.Selected → stage ≡ Stage.Over → Deaf k stage

-- two chosen tags of which the first sends
bus_deaf : {a b : Bus} → Buses a b → sends Choosing.Selected a.stage ≡ true → Deaf Choosing.Selected b.stage
unfolding sends spent
bus_deaf {a} {b} (Buses.same e) sent = Deaf.sending (ap (λ (c : Bus). sends Choosing.Selected c.stage) (sym e) ∙ sent)
bus_deaf {a} {b} (Buses.over_a e) sent = absurd (false≢true (ap (sends Choosing.Selected) (sym e) ∙ sent))
bus_deaf {a} {b} (Buses.over_b e) sent = Deaf.over refl e
bus_deaf {a} {b} (Buses.ended p q) sent = by b.stage refl q
  where
    by : (s : Stage) → b.stage ≡ s → spent s ≡ true → Deaf Choosing.Selected b.stage
    by Stage.Over e q = Deaf.over refl e
    by (Stage.Sends s) e q = Deaf.sending (ap (sends Choosing.Selected) e)
    by Stage.Copied e q = Deaf.sending (ap (sends Choosing.Selected) e)
    by (Stage.Hears h) e q = absurd (false≢true q)
    by (Stage.Gathers g) e q = absurd (false≢true q)

pub deaf : {x y : Exchange} → InStep x y → sends x.select.choosing x.bus.stage ≡ true → Deaf y.select.choosing y.bus.stage
unfolding sends
deaf {x} {y} (InStep.silent_x k s) e = absurd (false≢true (ap (λ (c : Choosing). sends c x.bus.stage) (sym k) ∙ e))
deaf {x} {y} (InStep.silent_y k s) e = Deaf.silent k
deaf {x} {y} (InStep.together k s b) e = subst (λ (c : Choosing). Deaf c y.bus.stage) k (by x.select.choosing e)
  where
    by : (c : Choosing) → sends c x.bus.stage ≡ true → Deaf c y.bus.stage
    by (Choosing.Reading at) e = Deaf.sending refl
    by (Choosing.Giving at) e = Deaf.sending refl
    by (Choosing.Complementing at) e = Deaf.sending refl
    by Choosing.Selected e = bus_deaf b e
    by Choosing.Silent e = absurd (false≢true e)
    by (Choosing.Command heard count) e = absurd (false≢true e)
    by (Choosing.Matching fast at) e = absurd (false≢true e)
    by (Choosing.Awaiting at) e = absurd (false≢true e)

over_whole : (held : Held) (bus : Bus) (bit : Bool) (answer : ℕ) → bus.stage ≡ Stage.Over →
    memory.slot_of held bus bit answer ≡ record { held = held; bus = bus; line = bit && true; deed = Deed.Nothing }
unfolding memory.slot_of memory.on_line memory.stage_slot
over_whole held bus bit answer e = rw e refl

-- a slot to such a tag
pub deaf_slot : {s : State} → Fit s → Deaf s.tag.exchange.select.choosing s.tag.exchange.bus.stage →
    after s (Event.slot false) ≡ after s (Event.slot true)
unfolding run after slotted performed performed_counters is_chosen
deaf_slot {s} fit (Deaf.sending e) = events.sent fit e
deaf_slot {s} fit (Deaf.silent e) = quiet false ∙ sym (quiet true)
  where
    quiet : (bit : Bool) → after s (Event.slot bit) ≡ s
    quiet bit = ap (λ (r : Ran). r.state) (silent_run s (bit ∷ []) (fit_sound fit) e)
deaf_slot {s} fit (Deaf.over k e) = quiet false ∙ sym (quiet true)
  where
    quiet : (bit : Bool) → after s (Event.slot bit) ≡ s
    quiet bit =
        let x = s.tag.exchange in
        let answer = answer_to s.image s.tag.code (exchange.asks x bit) in
        let same = chosen_slot x bit answer (ap is_chosen k) ∙ ap (exchange.commanded x) (over_whole x.held x.bus bit answer e) in
        rw (slot_happens (fit_sound fit) bit, same) refl

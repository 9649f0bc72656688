-- Which slots may change the Resume mark and the speed: by where choosing stands. Assumes nothing.
use Rattle.std.specs.Prelude.{Bool, true, false, ◌≡◌, refl, ℕ, ◌<◌, ltb}
use Rattle.std.specs.Bool.{beq}
use Rattle.std.proofs.Common.{inl, inr, ap, arith, lt-ltb, ltb-false, ltb-true}
use Rattle.std.proofs.Math.Logic.{dite}
use Rattle.std.proofs.Math.Decide.{dec_lt}
use Rattle.bits.specs.Bits.{bit_of}
use Rattle.bits.specs.Choose.{choice, either}
use Rattle.exchange.specs.Exchange.Laws.{parts, slot_cases}
use Rattle.select.specs.declared.Choosing.{Choosing}
use Rattle.select.specs.declared.Mode.{Mode}
use Rattle.select.specs.declared.Select.{Select}
use Rattle.select.specs.Select.{command_bit, read_bit, heard_bit, slot_at, slot_of, choosing_in_range}
use Rattle.event.specs.Event.{slotted}
use Rattle.record.specs.Record.Laws.{ranges_of}
use Rattle.promises.specs.Line.Slots.{answers_of}
use Rattle.promises.specs.Ranges.{Fit}
use Rattle.promises.specs.Ranges.Laws.{fit_sound}
use Rattle.promises.specs.Runs.{State, Event, after}
use Rattle.promises.specs.Runs.Laws.{slot_happens}
use Rattle.promises.specs.Sentences.Choosing.{Marks}

-- a bit of a number that is told
told_mode : (number at : ℕ) (bit : Bool) (next : Choosing) (fast : Bool) (mode : Mode) → at < 64 → (at ≡ 63 → ⊥) →
    (heard_bit number at bit next fast mode).mode ≡ mode
unfolding heard_bit
told_mode number at bit next fast mode fits early =
    choice (λ (s : Select). s.mode ≡ mode) (beq (bit_of number at) bit)
    (rw (lt-ltb at 63 (omega (arith, lt_or_eq at fits early)))) refl
  where
    lt_or_eq : (n : ℕ) → n < 64 → (n ≡ 63 → ⊥) → n < 63
    lt_or_eq n h other = dite (dec_lt n 63) (λ less. less) (λ more. absurd (other (omega arith)))

-- a slot in which the tag is being chosen
choosing_mode : (c : Choosing) (mode : Mode) (number : ℕ) (bit alarm : Bool) → choosing_in_range c ≡ true → (Marks c → ⊥) →
    (slot_at c mode number bit alarm).select.mode ≡ mode
unfolding slot_at read_bit choosing_in_range command_bit
choosing_mode Choosing.Silent mode number bit alarm fits quiet = refl
choosing_mode (Choosing.Command heard count) mode number bit alarm fits quiet =
    either (λ (s : Select). s.mode ≡ mode) (ltb count 7) (λ more. refl)
    (λ last.
    let whole : count ≡ 7 = omega (arith, ltb-false count 7 last, ltb-true count 8 fits) in
    absurd (quiet (inl (heard, ap (Choosing.Command heard) whole))))
choosing_mode (Choosing.Reading at) mode number bit alarm fits quiet = refl
choosing_mode (Choosing.Matching fast at) mode number bit alarm fits quiet =
    told_mode number at bit _ fast mode (ltb-true at 64 fits) (λ last. quiet (inr (inl (fast, ap (Choosing.Matching fast) last))))
choosing_mode (Choosing.Giving at) mode number bit alarm fits quiet = refl
choosing_mode (Choosing.Complementing at) mode number bit alarm fits quiet = refl
choosing_mode (Choosing.Awaiting at) mode number bit alarm fits quiet =
    told_mode number at bit _ false mode (ltb-true at 64 fits) (λ last. quiet (inr (inr (ap Choosing.Awaiting last))))
choosing_mode Choosing.Selected mode number bit alarm fits quiet = refl

-- no other slot of a fit tag changes them
pub mode_stays : {s : State} → Fit s → (b : Bool) → (Marks s.tag.exchange.select.choosing → ⊥) →
    (after s (Event.slot b)).tag.exchange.select.mode ≡ s.tag.exchange.select.mode
unfolding after slotted slot_of
mode_stays {s} fit b quiet =
    let x = s.tag.exchange in
    let ranges = ranges_of s.tag (fit_sound fit).ranges in
    rw (slot_happens (fit_sound fit) b)
    (slot_cases (λ q t. (t (answers_of s q)).exchange.select.mode ≡ x.select.mode) x b refl
    (choosing_mode x.select.choosing x.select.mode x.number b _ (parts x ranges.line).0 quiet))

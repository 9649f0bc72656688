-- What a slot may change of scratchpad, TA and E/S: by where the memory command stands. Assumes nothing.
use Rattle.std.specs.Prelude.{Bool, true, ◌⊎◌, ◌≡◌, refl, ℕ, ◌<◌, eqb, ltb}
use Rattle.std.proofs.Math.Bool.{and-eq-true_iff}
use Rattle.std.proofs.Common.{inl, inr, arith, ltb-false, ltb-true}
use Rattle.bits.specs.Choose.{either, choice}
use Rattle.bus.specs.declared.Addressed.{Addressed}
use Rattle.bus.specs.declared.Bus.{Bus}
use Rattle.bus.specs.declared.Guarded.{Guarded}
use Rattle.bus.specs.declared.Hearing.{Hearing}
use Rattle.bus.specs.declared.Held.{Held}
use Rattle.bus.specs.declared.Moved.{Moved}
use Rattle.bus.specs.declared.Stage.{Stage}
use Rattle.exchange.specs.declared.Slotted.{Slotted}
use Rattle.exchange.specs.Exchange.Laws.{parts}
use Rattle.field.specs.Field.{gathered_bit, judged}
use Rattle.memory.specs.Hear.{heard_bit, heard_whole, address_heard, confirmed}
use Rattle.memory.specs.Memory as memory
use Rattle.memory.specs.Range.{stage_in_range}
use Rattle.memory.specs.Range.Laws.{ranged}
use Rattle.memory.specs.Send.{sent_bit, alternating}
use Rattle.event.specs.Event.{slotted}
use Rattle.record.specs.Record.Laws.{ranges_of}
use Rattle.promises.specs.Ranges.{Fit}
use Rattle.promises.specs.Ranges.Laws.{fit_sound}
use Rattle.promises.specs.Runs.{State, Event, after}
use Rattle.promises.specs.Runs.Laws.{slot_happens}
use Rattle.promises.specs.Sentences.Slots.{Loads}
use Rattle.promises.specs.Sentences.Commands.Cases.{chosen_cases}
use Rattle.promises.specs.Words.{held_of}

-- a place in which Write Scratchpad loads or a Copy ends, by the stage and the bits past
abbrev LoadsAt : Stage → ℕ → Type 0
LoadsAt g at =
    ((g ≡ Stage.Hears (Hearing.High Addressed.Write)) × (at ≡ 7))
    ⊎ (((place : ℕ) × (g ≡ Stage.Hears (Hearing.Data place))) ⊎ ((g ≡ Stage.Gathers Guarded.Copying) × (at ≡ 63)))

-- a byte that is heard
heard_held : (h : Hearing) (held : Held) (bus : Bus) (bit : Bool) → bus.at < 8 → (LoadsAt (Stage.Hears h) bus.at → ⊥) →
    (heard_bit h held bus bit).held ≡ held
unfolding heard_bit heard_whole address_heard confirmed
heard_held (Hearing.Data place) held bus bit few quiet = absurd (quiet (inr (inl (place, refl))))
heard_held (Hearing.High Addressed.Write) held bus bit few quiet =
    either (λ (m : Moved). m.held ≡ held) (ltb bus.at 7) (λ more. refl)
    (λ last. absurd (quiet (inl (refl, omega (arith, ltb-false bus.at 7 last)))))
heard_held (Hearing.High Addressed.Copy) held bus bit few quiet = choice (λ (m : Moved). m.held ≡ held) (ltb bus.at 7) refl refl
heard_held (Hearing.High Addressed.Read) held bus bit few quiet = choice (λ (m : Moved). m.held ≡ held) (ltb bus.at 7) refl refl
heard_held Hearing.Command held bus bit few quiet = choice (λ (m : Moved). m.held ≡ held) (ltb bus.at 7) refl refl
heard_held (Hearing.Low a) held bus bit few quiet = choice (λ (m : Moved). m.held ≡ held) (ltb bus.at 7) refl refl
heard_held Hearing.Status held bus bit few quiet = choice (λ (m : Moved). m.held ≡ held) (ltb bus.at 7) refl refl
heard_held (Hearing.Confirm c) held bus bit few quiet = choice (λ (m : Moved). m.held ≡ held) (ltb bus.at 7) refl refl

-- a bit of a password field
gathered_held : (g : Guarded) (held : Held) (bus : Bus) (bit may : Bool) → bus.at < 64 → (LoadsAt (Stage.Gathers g) bus.at → ⊥) →
    (gathered_bit g held bus bit may).held ≡ held
unfolding gathered_bit judged
gathered_held Guarded.Copying held bus bit may few quiet =
    either (λ (m : Moved). m.held ≡ held) (ltb bus.at 63) (λ more. refl)
    (λ last. absurd (quiet (inr (inr (refl, omega (arith, ltb-false bus.at 63 last))))))
gathered_held Guarded.Reading held bus bit may few quiet = choice (λ (m : Moved). m.held ≡ held) (ltb bus.at 63) refl refl
gathered_held (Guarded.Controlling c) held bus bit may few quiet = choice (λ (m : Moved). m.held ≡ held) (ltb bus.at 63) refl refl

-- any slot, by its stage
stage_held : (g : Stage) (held : Held) (bus : Bus) (bit : Bool) (answer : ℕ) → stage_in_range g held bus ≡ true → (LoadsAt g bus.at → ⊥) →
    (memory.stage_slot g held bus bit answer).held ≡ held
unfolding memory.stage_slot sent_bit alternating stage_in_range
stage_held Stage.Over held bus bit answer fits quiet = refl
stage_held (Stage.Hears h) held bus bit answer fits quiet =
    heard_held h held bus bit (ltb-true bus.at 8 ((and-eq-true_iff _ _).0 fits).0) quiet
stage_held (Stage.Gathers g) held bus bit answer fits quiet =
    gathered_held g held bus bit _ (ltb-true bus.at 64 ((and-eq-true_iff _ _).0 fits).0) quiet
stage_held (Stage.Sends s) held bus bit answer fits quiet = refl
stage_held Stage.Copied held bus bit answer fits quiet = choice (λ (m : Moved). m.held ≡ held) (eqb bus.at 0) refl refl

-- how many bits are past at the stage of a fit tag
pub stage_of_lem : {s : State} → Fit s → stage_in_range s.tag.exchange.bus.stage (held_of s) s.tag.exchange.bus ≡ true
stage_of_lem {s} fit =
    let x = s.tag.exchange in
    (ranged x.held x.bus (parts x (ranges_of s.tag (fit_sound fit).ranges).line).1).1

-- no other slot of a fit tag changes what is held
pub held_stays : {s : State} → Fit s → (b : Bool) → (Loads s → ⊥) → held_of (after s (Event.slot b)) ≡ held_of s
unfolding after slotted memory.slot_of memory.on_line
held_stays {s} fit b quiet =
    let x = s.tag.exchange in
    rw (slot_happens (fit_sound fit) b)
    (chosen_cases x b (λ (m : Slotted). m.exchange.held ≡ x.held) _
    (λ chosen. stage_held x.bus.stage x.held x.bus b _ (stage_of_lem fit) (λ loads. quiet (chosen, loads))) refl)

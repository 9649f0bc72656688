-- What a slot does: nothing but in the slots of a command's last bit, and without a password nothing but a Forced Conversion.
-- Assumes nothing.
use Rattle.std.specs.Prelude.{◌≡◌, refl, Bool, true, false, ℕ, ◌≤◌, eqb, ltb, if◌then◌else◌}
use Rattle.std.proofs.Common.{sym, ap, ◌∙◌, true≢false, ltb-false, eqb-true}
use Rattle.bits.specs.Choose.{choice, choices}
use Rattle.bits.specs.Bits.{shift_in}
use Rattle.memory.specs.Phases.Laws.{copies_not}
use Rattle.bus.specs.declared.Addressed.{Addressed}
use Rattle.bus.specs.declared.Bus.{Bus}
use Rattle.bus.specs.declared.Control.{Control}
use Rattle.bus.specs.declared.Deed.{Deed}
use Rattle.bus.specs.declared.Guarded.{Guarded}
use Rattle.bus.specs.declared.Hearing.{Hearing}
use Rattle.bus.specs.declared.Held.{Held}
use Rattle.bus.specs.declared.Moved.{Moved}
use Rattle.bus.specs.declared.Question.{Question}
use Rattle.bus.specs.declared.Stage.{Stage}
use Rattle.memory.specs.Hear.{address_heard, confirmed, deed_of, heard_whole, heard_bit}
use Rattle.field.specs.Field.{guarded, copies, judged, gathered_bit, field_asks}
use Rattle.memory.specs.Send.{sent_bit, alternating}
use Rattle.memory.specs.Memory.{asks, stage_asks, stage_slot, on_line, slot_of}
use Rattle.memory.specs.Phases.{confirms, writing, lets_write, hearing_deed, field_deed, deed_at, unguarded}

abbrev Does : Moved → Deed → Type 0
Does moved deed = moved.deed ≡ deed

abbrev Idle : Moved → Type 0
Idle moved = Does moved Deed.Nothing

pub deed_is : (held : Held) (bus : Bus) (bit : Bool) (answer : ℕ) → (slot_of held bus bit answer).deed ≡ deed_at bus.stage held bus bit answer
unfolding slot_of on_line stage_slot heard_bit heard_whole address_heard confirmed gathered_bit judged sent_bit alternating deed_at hearing_deed field_deed
deed_is held bus bit answer = at bus.stage
  where
    at : (k : Stage) → (stage_slot k held bus bit answer).deed ≡ deed_at k held bus bit answer
    at Stage.Over = refl
    at (Stage.Hears Hearing.Command) = choice Idle (ltb bus.at 7) refl refl
    at (Stage.Hears (Hearing.Low a)) = choice Idle (ltb bus.at 7) refl refl
    at (Stage.Hears (Hearing.High Addressed.Write)) = choice Idle (ltb bus.at 7) refl refl
    at (Stage.Hears (Hearing.High Addressed.Copy)) = choice Idle (ltb bus.at 7) refl refl
    at (Stage.Hears (Hearing.High Addressed.Read)) = choice Idle (ltb bus.at 7) refl refl
    at (Stage.Hears (Hearing.Data place)) = choice Idle (ltb bus.at 7) refl refl
    at (Stage.Hears Hearing.Status) = choice Idle (ltb bus.at 7) refl refl
    at (Stage.Hears (Hearing.Confirm control)) = choices Does (ltb bus.at 7) refl refl
    at (Stage.Gathers Guarded.Reading) = choice Idle (ltb bus.at 63) refl refl
    at (Stage.Gathers Guarded.Copying) = choices Does (ltb bus.at 63) refl (choices Does (copies held bus (eqb answer 1)) refl refl)
    at (Stage.Gathers (Guarded.Controlling control)) = choice Idle (ltb bus.at 63) refl refl
    at (Stage.Sends s) = refl
    at Stage.Copied = choice Idle (eqb bus.at 0) refl refl

-- what holds of no deed at any stage, of a control command's at its last byte and of a Copy's at its password, holds of every slot's
deed_cases : (P : Stage → Deed → Type 0) (held : Held) (bus : Bus) (bit : Bool) (answer : ℕ) →
    ((k : Stage) → P k Deed.Nothing) →
    ((control : Control) → P (Stage.Hears (Hearing.Confirm control)) (hearing_deed (Hearing.Confirm control) bus bit)) →
    P (Stage.Gathers Guarded.Copying) (field_deed Guarded.Copying held bus (eqb answer 1)) →
    P bus.stage (slot_of held bus bit answer).deed
unfolding deed_at hearing_deed field_deed
deed_cases P held bus bit answer none control copy = rw (deed_is held bus bit answer) (at bus.stage)
  where
    at : (k : Stage) → P k (deed_at k held bus bit answer)
    at Stage.Over = none _
    at (Stage.Hears Hearing.Command) = none _
    at (Stage.Hears (Hearing.Low a)) = none _
    at (Stage.Hears (Hearing.High a)) = none _
    at (Stage.Hears (Hearing.Data place)) = none _
    at (Stage.Hears Hearing.Status) = none _
    at (Stage.Hears (Hearing.Confirm c)) = control c
    at (Stage.Gathers Guarded.Reading) = none _
    at (Stage.Gathers Guarded.Copying) = copy
    at (Stage.Gathers (Guarded.Controlling c)) = none _
    at (Stage.Sends s) = none _
    at Stage.Copied = none _

-- without a field that may write nothing is done but a Forced Conversion
pub unguarded_deed : (held : Held) (bus : Bus) (bit : Bool) (answer : ℕ) →
    writing bus.stage ≡ false → lets_write (asks bus bit) answer ≡ false → unguarded (slot_of held bus bit answer).deed ≡ true
unfolding asks stage_asks field_asks lets_write hearing_deed field_deed unguarded writing confirms guarded
unguarded_deed held bus bit answer =
    deed_cases (λ k d. writing k ≡ false → lets_write (stage_asks k bus bit) answer ≡ false → unguarded d ≡ true) held bus bit answer
    (λ k h unwritten. refl)
    (λ control h unwritten. confirm control h)
    (λ h unwritten. choices (λ (q : Question) (d : Deed). lets_write q answer ≡ false → unguarded d ≡ true) (ltb bus.at 63) (λ e. refl) (λ e. simp (e, copies_not)) unwritten)
  where
    confirm : (control : Control) → guarded control ≡ false → unguarded (hearing_deed (Hearing.Confirm control) bus bit) ≡ true
    confirm Control.Clear h = cc
    confirm Control.Start h = cc
    confirm Control.Stop h = cc
    confirm Control.Convert h =
        choice (λ (d : Deed). unguarded d ≡ true) (ltb bus.at 7) refl
        (choice (λ (d : Deed). unguarded d ≡ true) (eqb (shift_in 8 bus.byte bit) 0xFF) refl refl)

-- which control command a deed is of, and whether it is of one; any will do for a deed that is of none
control_of : Deed → Control
control_of Deed.Clear = Control.Clear
control_of Deed.Start = Control.Start
control_of Deed.Stop = Control.Stop
control_of Deed.Convert = Control.Convert
control_of Deed.Nothing = Control.Convert
control_of Deed.Store = Control.Convert

is_control : Deed → Bool
is_control Deed.Clear = true
is_control Deed.Start = true
is_control Deed.Stop = true
is_control Deed.Convert = true
is_control Deed.Nothing = false
is_control Deed.Store = false

control_of_lem : (control : Control) → (control_of (deed_of control) ≡ control) × (is_control (deed_of control) ≡ true)
unfolding control_of is_control
control_of_lem Control.Clear = (refl, refl)
control_of_lem Control.Start = (refl, refl)
control_of_lem Control.Stop = (refl, refl)
control_of_lem Control.Convert = (refl, refl)

-- a control command is done only in the slot of the last bit of its FFh
pub control_done : (held : Held) (bus : Bus) (bit : Bool) (answer : ℕ) (control : Control) → (slot_of held bus bit answer).deed ≡ deed_of control →
    (bus.stage ≡ Stage.Hears (Hearing.Confirm control)) × (7 ≤ bus.at) × (shift_in 8 bus.byte bit ≡ 0xFF)
unfolding hearing_deed field_deed is_control
control_done held bus bit answer control =
    deed_cases (λ k d. d ≡ deed_of control → (k ≡ Stage.Hears (Hearing.Confirm control)) × (7 ≤ bus.at) × (shift_in 8 bus.byte bit ≡ 0xFF)) held bus bit answer
    (λ k d. no refl d)
    (λ c d. done c (ltb bus.at 7) (eqb (shift_in 8 bus.byte bit) 0xFF) refl refl d)
    (λ d. no (choice (λ (x : Deed). is_control x ≡ false) (ltb bus.at 63) refl (choice (λ (x : Deed). is_control x ≡ false) (copies held bus (eqb answer 1)) refl refl)) d)
  where
    no : {A : Type 0} {d : Deed} → is_control d ≡ false → d ≡ deed_of control → A
    no e p = absurd (true≢false (sym (control_of_lem control).1 ∙ sym (ap is_control p) ∙ e))

    done :
        (c : Control) (more last : Bool) →
        ltb bus.at 7 ≡ more →
        eqb (shift_in 8 bus.byte bit) 0xFF ≡ last →
        (if more then Deed.Nothing else if last then deed_of c else Deed.Nothing) ≡ deed_of control →
        (Stage.Hears (Hearing.Confirm c) ≡ Stage.Hears (Hearing.Confirm control)) × (7 ≤ bus.at) × (shift_in 8 bus.byte bit ≡ 0xFF)
    done c true last p q d = no refl d
    done c false false p q d = no refl d
    done c false true p q d =
        let same : c ≡ control = sym (control_of_lem c).0 ∙ ap control_of d ∙ (control_of_lem control).0 in
        (ap (λ (k : Control). Stage.Hears (Hearing.Confirm k)) same, ltb-false _ _ p, eqb-true _ _ q)

is_store : Deed → Bool
is_store Deed.Store = true
is_store Deed.Nothing = false
is_store Deed.Clear = false
is_store Deed.Start = false
is_store Deed.Stop = false
is_store Deed.Convert = false

-- bytes are stored only in the slot of the last bit of a Copy's password, and only if the Copy is done
pub store_done : (held : Held) (bus : Bus) (bit : Bool) (answer : ℕ) → (slot_of held bus bit answer).deed ≡ Deed.Store →
    (bus.stage ≡ Stage.Gathers Guarded.Copying) × (63 ≤ bus.at) × (copies held bus (eqb answer 1) ≡ true)
unfolding hearing_deed field_deed is_store
store_done held bus bit answer =
    deed_cases (λ k d. d ≡ Deed.Store → (k ≡ Stage.Gathers Guarded.Copying) × (63 ≤ bus.at) × (copies held bus (eqb answer 1) ≡ true)) held bus bit answer
    (λ k d. no refl d)
    (λ c d. no (choice (λ (x : Deed). is_store x ≡ false) (ltb bus.at 7) refl (choice (λ (x : Deed). is_store x ≡ false) (eqb (shift_in 8 bus.byte bit) 0xFF) (control c) refl)) d)
    (λ d. done (ltb bus.at 63) (copies held bus (eqb answer 1)) refl refl d)
  where
    no : {A : Type 0} {d : Deed} → is_store d ≡ false → d ≡ Deed.Store → A
    no e p = absurd (true≢false (sym (ap is_store p) ∙ e))

    control : (c : Control) → is_store (deed_of c) ≡ false
    control Control.Clear = refl
    control Control.Start = refl
    control Control.Stop = refl
    control Control.Convert = refl

    done :
        (more may : Bool) →
        ltb bus.at 63 ≡ more →
        copies held bus (eqb answer 1) ≡ may →
        (if more then Deed.Nothing else if may then Deed.Store else Deed.Nothing) ≡ Deed.Store →
        (Stage.Gathers Guarded.Copying ≡ Stage.Gathers Guarded.Copying) × (63 ≤ bus.at) × (copies held bus (eqb answer 1) ≡ true)
    done true may p q d = no refl d
    done false false p q d = no refl d
    done false true p q d = (refl, ltb-false _ _ p, q)

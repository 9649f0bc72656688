-- Runs one after the other, and a run as select's or memory's own. Assumes nothing.
use Rattle.std.specs.Prelude.{◌≡◌, refl, Bool, true, false, not, List, [], ◌∷◌, ◌++◌, ℕ, eqb}
use Rattle.std.proofs.Common.{ap, ◌∙◌}
use Rattle.std.proofs.Math.Bool.{and-eq-true_iff}
use Rattle.std.proofs.lemmas.List.{map-append}
use Rattle.std.proofs.lemmas.Bool.{not-true}
use Rattle.bus.specs.declared.Bus.{Bus}
use Rattle.bus.specs.declared.Held.{Held}
use Rattle.bus.specs.declared.Question.{Question}
use Rattle.memory.specs.Memory as memory
use Rattle.memory.specs.Runs as memory-runs
use Rattle.select.specs.declared.Mode.{Mode}
use Rattle.select.specs.declared.Select.{Select}
use Rattle.select.specs.Select as select
use Rattle.select.specs.Select.Laws.{slots_agree}
use Rattle.select.specs.Runs as select-runs
use Rattle.exchange.specs.declared.Exchange.{Exchange}
use Rattle.exchange.specs.declared.Slotted.{Slotted}
use Rattle.exchange.specs.Exchange.{asks, slot_of, choosing, commanded}
use Rattle.exchange.specs.Runs.{Ran, run, follows, quietly, commanding}

-- ---- joining runs

abbrev one : Slotted → Ran
one slot = record { exchange = slot.exchange; line = slot.line ∷ []; deeds = slot.deed ∷ [] }

pub run_nil : (answers : Question → ℕ) (x : Exchange) → run answers x [] ≡ quietly x []
unfolding run
run_nil answers x = refl

pub run_append : (answers : Question → ℕ) (x : Exchange) (bits more : List Bool) →
    run answers x (bits ++ more) ≡ follows (run answers x bits) (run answers (run answers x bits).exchange more)
unfolding run
run_append answers x [] more = refl
run_append answers x (bit ∷ bits) more =
    let slot = slot_of x bit (answers (asks x bit)) in
    ap (follows (one slot)) (run_append answers slot.exchange bits more)

-- a run, and the run of what follows it
pub run_then : (answers : Question → ℕ) (x : Exchange) (bits more : List Bool) {first rest : Ran} →
    run answers x bits ≡ first → run answers first.exchange more ≡ rest → run answers x (bits ++ more) ≡ follows first rest
run_then answers x bits more p q = run_append answers x bits more ∙ rw (p, q)

-- two runs that do nothing are one
pub quiet_then : (answers : Question → ℕ) (x : Exchange) (bits more : List Bool) {y z : Exchange} {line rest : List Bool} →
    run answers x bits ≡ quietly y line → run answers y more ≡ quietly z rest → run answers x (bits ++ more) ≡ quietly z (line ++ rest)
quiet_then answers x bits more {y} {z} {line} {rest} p q = run_then answers x bits more p q ∙ simp map-append

-- ---- before the tag is chosen

-- the exchange with another place of choosing
abbrev selecting : Exchange → Select → Exchange
selecting x s = record { number = x.number; select = s; held = x.held; bus = x.bus }

-- whether BOR, THF or TLF is 1
abbrev pub alarm_in : (Question → ℕ) → Bool
alarm_in answers = eqb (answers Question.Alarm) 1

-- a slot of it is select's, with the image's alarm
choosing_slot : (answers : Question → ℕ) (x : Exchange) (bit : Bool) → select.is_selected x.select ≡ false →
    slot_of x bit (answers (asks x bit)) ≡ choosing x (select.slot_of x.select x.number bit (alarm_in answers))
unfolding slot_of asks
choosing_slot answers x bit e =
    rw e
    (ap (choosing x)
    (slots_agree x.select x.number bit _ (alarm_in answers) (λ asked. rw asked)))

-- slots in which the tag is still being chosen are select's, and do nothing
pub run_choosing : (answers : Question → ℕ) (x : Exchange) (bits : List Bool) →
    select-runs.still_choosing x.select x.number (alarm_in answers) bits ≡ true →
    let ran = select-runs.run x.select x.number (alarm_in answers) bits in
    run answers x bits ≡ quietly (selecting x ran.select) ran.line
unfolding run select-runs.run select-runs.still_choosing
run_choosing answers x [] h = refl
run_choosing answers x (bit ∷ bits) h =
    let parts = (and-eq-true_iff (not (select.is_selected x.select)) _).0 h in
    let next = select.slot_of x.select x.number bit (alarm_in answers) in
    let slot : slot_of x bit (answers (asks x bit)) ≡ choosing x next = choosing_slot answers x bit (not-true (select.is_selected x.select) parts.0) in
    rw slot (ap (follows (one (choosing x next))) (run_choosing answers (selecting x next.select) bits parts.1))

-- ---- a chosen tag

-- what memory's run comes to for the tag
abbrev pub ran : ℕ → Mode → memory-runs.Ran → Ran
ran number mode m = record { exchange = commanding number mode m.held m.bus; line = m.line; deeds = m.deeds }

-- its slots are its memory command's
pub run_commanded : (answers : Question → ℕ) (number : ℕ) (mode : Mode) (held : Held) (bus : Bus) (bits : List Bool) →
    run answers (commanding number mode held bus) bits ≡ ran number mode (memory-runs.run answers held bus bits)
unfolding run memory-runs.run slot_of asks select.is_chosen
run_commanded answers number mode held bus [] = refl
run_commanded answers number mode held bus (bit ∷ bits) =
    let moved = memory.slot_of held bus bit (answers (memory.asks bus bit)) in
    ap (follows (one (commanded (commanding number mode held bus) moved))) (run_commanded answers number mode moved.held moved.bus bits)

-- a memory command that does nothing
pub run_quiet : (answers : Question → ℕ) (number : ℕ) (mode : Mode) (held : Held) (bus : Bus) (bits : List Bool) {held' : Held} {bus' : Bus} {line : List Bool} →
    memory-runs.run answers held bus bits ≡ memory-runs.quietly held' bus' line →
    run answers (commanding number mode held bus) bits ≡ quietly (commanding number mode held' bus') line
run_quiet answers number mode held bus bits e = run_commanded answers number mode held bus bits ∙ ap (ran number mode) e

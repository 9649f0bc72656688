-- `board::fault` meets its contract. The loop's invariant: the faults from the i-th place on are those of all. Assumes nothing.
use mathlib.Core.Path.{sym, ◌∙◌}
use native.Mathlib.Omega.{arith}
use Rattle.board.specs.Board.Laws.{fault_next, fault_over}
use Rattle.board.proofs.fault.Goals as goal

pub returns-then-not-good_number : goal.returns-then-not-good_number
returns-then-not-good_number c =
    let l = c.loop-i in
    let wrong = sym c.good_number.ensures ∙ c.if-not-good_number.true in
    sym (sym l.invariant ∙ fault_next _ _ l.i _ (omega arith) ∙ rw wrong)

pub returns-then-not-good_code : goal.returns-then-not-good_code
returns-then-not-good_code c =
    let l = c.loop-i in
    let right = sym c.good_number.ensures ∙ c.if-not-good_number.false in
    let wrong = sym c.good_code.ensures ∙ c.if-not-good_code.true in
    sym (sym l.invariant ∙ fault_next _ _ l.i _ (omega arith) ∙ rw (right, ← c.peek.ensures, wrong))

pub loop-i-preserved : goal.loop-i-preserved
loop-i-preserved c =
    let l = c.loop-i in
    let right = sym c.good_number.ensures ∙ c.if-not-good_number.false in
    let fits = sym c.good_code.ensures ∙ c.if-not-good_code.false in
    sym (fault_next _ _ l.i _ (omega arith) ∙ rw (right, ← c.peek.ensures, fits)) ∙ l.invariant

pub returns : goal.returns
returns c = sym (sym c.loop-i.invariant ∙ fault_over _ _ c.loop-i.i _ (omega arith))

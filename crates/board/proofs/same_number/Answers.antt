-- `board::same_number` meets its contract. The loop's invariant: of the numbers before the i-th no two are the same. Assumes nothing.
use mathlib.Core.Path.{◌≡◌, sym, ◌∙◌}
use mathlib.Core.Logic.{dite}
use Prim.Native.Nat.{ℕ, ◌+◌, ◌<◌}
use native.Mathlib.Decide.{dec_lt}
use native.Mathlib.Omega.{arith}
use lib.ListN.{length, get_or, take}
use lib.Seq.{length-take-le, get_or-take}
use Rattle.board.specs.Board.Numbers.{stands_where, stands_not, same_found, same_none}
use Rattle.board.proofs.same_number.Goals as goal

pub returns-then-stands_in : goal.returns-then-stands_in
returns-then-stands_in c =
    let i = c.loop-i.i in
    let numbers = c.args.numbers.now in
    let there = stands_where (take i numbers) _ (sym c.stands_in.ensures ∙ c.if-stands_in.true) in
    let before : there.0 < i = omega (arith, there.1, length-take-le i numbers (omega arith)) in
    sym (same_found (length numbers) _ there.0 i (omega (arith, before)) (omega arith) (λ e. absurd (omega (arith, e, before)))
    (sym (get_or-take i numbers there.0 0 before) ∙ there.2))

pub loop-i-preserved : goal.loop-i-preserved
loop-i-preserved c =
    let l = c.loop-i in
    let numbers = c.args.numbers.now in
    let none = stands_not (take l.i numbers) _ (sym c.stands_in.ensures ∙ c.if-stands_in.false) in
    let no : (k : ℕ) → k < l.i → get_or numbers k 0 ≡ get_or numbers l.i 0 → ⊥ =
    λ k h e. none k (omega (arith, h, length-take-le l.i numbers (omega arith))) (get_or-take l.i numbers k 0 h ∙ e) in
    let here : (k : ℕ) → k < l.i + 1 → (k < l.i → ⊥) → k ≡ l.i = λ k h ge. omega (arith, h, ge) in
    λ k m hk hm e.
    dite (dec_lt k l.i)
    (λ lk. dite (dec_lt m l.i) (λ lm. l.invariant k m lk lm e) (λ gm. absurd (no k lk (rw (← here m hm gm) e))))
    (λ gk. dite (dec_lt m l.i) (λ lm. absurd (no m lm (rw (← here k hk gk) (sym e)))) (λ gm. here k hk gk ∙ sym (here m hm gm)))

pub returns : goal.returns
returns c = sym (same_none _ _ (λ k m hk hm. c.loop-i.invariant k m (omega (arith, hk)) (omega (arith, hm))))

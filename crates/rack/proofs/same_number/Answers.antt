-- `rack::same_number` meets its contract. Assumes nothing.
use Rattle.std.proofs.Common.{List, ◌≡◌, sym, ap, ◌∙◌, refl, ℕ, ◌≤◌, length, get_or, take, length-take-le, rules, arith}
use Rattle.board.specs.Board.{same_number}
use Rattle.board.specs.Board.Reading.{same_read}
use Rattle.packing.specs.Arrays.{made_is}
use Rattle.rack.specs.Rack.{seven, number_held, whole_in, same_held}
use Rattle.rack.specs.Rack.Laws.{seven_at, whole_some}
use Rattle.rack.proofs.same_number.Goals as goal

-- as many are there as a board has places, at most
few : (size count : ℕ) {n : ℕ} → n ≡ whole_in size count → n ≤ 7
few size count e = omega (arith, e, whole_some size count)

pub slice_bounds-numbers-end : goal.slice_bounds-numbers-end
slice_bounds-numbers-end c = omega (arith, few _ _ c.whole-end.ensures, c.from_fn-numbers.ensures.items.long)

pub slice_bounds-same_number-end : goal.slice_bounds-same_number-end
slice_bounds-same_number-end c = sym (length-take-le _ _ (omega (arith, few _ _ c.whole-end.ensures, c.from_fn-numbers.ensures.items.long)))

pub returns : goal.returns
unfolding same_held
returns c =
    let a = c.args in
    let end = c.whole-end.result in
    let held = number_held a.records.now in
    let some : end ≤ 7 = few _ _ c.whole-end.ensures in
    let numbers : c.from_fn-numbers.result ≡ seven held =
    made_is _ _ held (λ i y q called. search rules) c.from_fn-numbers.result (seven held) 7 0 c.from_fn-numbers.ensures.items refl
    (λ k lt. seven_at held 0 k lt) in
    c.same_number.ensures
    ∙ ap (λ (l : List ℕ). same_number (length (take end l)) (λ k. get_or (take end l) k 0)) numbers
    ∙ same_read (seven held) held end some (λ k h. seven_at held 0 k (omega (arith, h, some)))
    ∙ ap (λ (n : ℕ). same_number n held) c.whole-end.ensures

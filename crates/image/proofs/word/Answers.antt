-- `image::word` does not overflow: before the last turn at most seven bytes are gathered. Assumes nothing.
use Prim.Native.Nat.{◌+◌, ◌-◌}
use native.Mathlib.Omega.{arith}
use Rattle.image.specs.Fields.Laws.{word_seven}
use Rattle.image.proofs.word.Goals as goal

pub overflow_mul-v : goal.overflow_mul-v
overflow_mul-v c =
    let a = c.args in
    let n = c.min-i.result in
    let i = c.loop-i.i in
    omega (arith, c.min-i.ensures, word_seven a.image.now (a.at + i) (n - i) (λ k. (c.type_inv.image k).fits) (omega (arith, c.min-i.ensures)))

pub overflow_add-v : goal.overflow_add-v
overflow_add-v c =
    let a = c.args in
    let n = c.min-i.result in
    let i = c.loop-i.i in
    omega (arith, c.min-i.ensures, word_seven a.image.now (a.at + i) (n - i) (λ k. (c.type_inv.image k).fits) (omega (arith, c.min-i.ensures)))

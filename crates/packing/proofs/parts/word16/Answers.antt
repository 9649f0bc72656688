-- `packing::parts::word16` meets its contract. Assumes nothing.
use Rattle.std.proofs.Common.{arith}
use Rattle.image.specs.Fields.Laws.{word_lt}
use Rattle.packing.proofs.parts.word16.Goals as goal

pub overflow_cast-result : goal.overflow_cast-result
overflow_cast-result c =
    let a = c.args in
    omega (arith, c.word.ensures, word_lt a.lent.now a.at 2 (λ k. (c.type_inv.lent k).fits))

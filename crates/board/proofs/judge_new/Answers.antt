-- `board::judge_new`: a count that a line can have is at most 7, so that the block's length fits. Assumes nothing.
use mathlib.Core.Path.{sym, ◌∙◌}
use native.Mathlib.Omega.{arith}
use Rattle.board.specs.Board.Laws.{counted}
use Rattle.board.proofs.judge_new.Goals as goal

pub overflow_mul-numbers : goal.overflow_mul-numbers
overflow_mul-numbers c = omega (arith, (counted _ (sym c.is_count.ensures ∙ c.if-not-is_count.false)).1)

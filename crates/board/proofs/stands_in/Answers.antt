-- `board::stands_in` meets its contract: what `contains` finds is at a place, and what stands at a place it finds. Assumes nothing.
use mathlib.Core.Path.{◌∙◌}
use Rattle.std.specs.Bool.{one_answer}
use Rattle.std.specs.Cmp.{unsigned_Decides}
use Rattle.std.proofs.lemmas.List.Elements.{contains_decides}
use Rattle.board.specs.Board.Numbers.{stands_at, stands_where}
use Rattle.board.specs.Board.Places.{get_d_any}
use Rattle.board.proofs.stands_in.Goals as goal

pub returns : goal.returns
returns c =
    let numbers = c.args.numbers.now in
    let number = c.args.number in
    one_answer _ _ (contains_decides _ unsigned_Decides numbers number _ c.contains.ensures.cases) (
      λ e. let there = stands_where numbers number e in
          (there.0, there.1, λ d. get_d_any numbers there.0 d 0 there.1 ∙ there.2),
      λ there. stands_at numbers number there.0 there.1 (there.2 0),
    )

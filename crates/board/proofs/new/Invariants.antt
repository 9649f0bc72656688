-- `board::new` meets its contract. The loop makes the tags that are left, and what it has left to do leads to what all of it does.
-- Assumes nothing.
use mathlib.Core.Bool.{true}
use mathlib.Core.List.{List}
use mathlib.Core.Path.{◌≡◌}
use Prim.Native.Nat.{ℕ, ◌-◌}
use lib.ListN.{length}
use Rattle.record.specs.declared.Tag.{Tag}
use Rattle.board.specs.declared.Board.{Board}
use Rattle.board.specs.Board.{Going, begun, empty_board, new_at, across}
use Rattle.board.proofs.new.Given as goal

abbrev pub of : List Tag → ℕ → Board
of tags count = record { tags = tags; count = count }

abbrev pub going : List ℕ → List Tag → ℕ → Going
going block tags count = record { block = block; board = of tags count; line = true }

abbrev pub invariant-loop-i : goal.invariant-loop-i
invariant-loop-i l =
    (length l.block ≡ length l.initial.block) × (length l.tags ≡ 7)
    × (across (new_at l.numbers l.codes) l.i (length l.numbers - l.i) (going l.block l.tags (length l.numbers))
    ≡ across (new_at l.numbers l.codes) 0 (length l.numbers) (begun l.initial.block (empty_board (length l.numbers))))

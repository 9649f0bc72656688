-- `board::same_number` meets its contract. The loop's invariant: of the numbers before the i-th no two are the same. Assumes nothing.
use mathlib.Core.Path.{◌≡◌}
use Prim.Native.Nat.{ℕ, ◌<◌}
use lib.ListN.{get_or}
use Rattle.board.proofs.same_number.Given as goal

abbrev pub invariant-loop-i : goal.invariant-loop-i
invariant-loop-i l = (k m : ℕ) → k < l.i → m < l.i → get_or l.numbers k 0 ≡ get_or l.numbers m 0 → k ≡ m

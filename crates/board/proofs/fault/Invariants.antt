-- `board::fault` meets its contract. The loop's invariant: the faults from the i-th place on are those of all. Assumes nothing.
use mathlib.Core.Path.{◌≡◌}
use Prim.Native.Nat.{◌-◌}
use lib.ListN.{length}
use Rattle.board.specs.Board.{new_fault}
use Rattle.board.proofs.fault.Given as goal

abbrev pub invariant-loop-i : goal.invariant-loop-i
invariant-loop-i l = new_fault l.numbers l.codes l.i (length l.numbers - l.i) ≡ new_fault l.numbers l.codes 0 (length l.numbers)

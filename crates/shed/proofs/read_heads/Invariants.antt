-- `shed::read_heads` meets its contract: as many heads are read as turns are done.
use Rattle.std.proofs.Common.{◌≡◌}
use Rattle.shed.proofs.read_heads.Given as goal

abbrev pub invariant-loop-number : goal.invariant-loop-number
invariant-loop-number l = l.heads ≡ l.number-index

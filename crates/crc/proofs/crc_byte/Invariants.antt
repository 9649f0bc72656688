-- `crc::crc_byte` meets its contract. The loop's invariant: the zeros that are left bring the register to where all of the byte's bits
-- bring the first (`ByteSoFar`). Assumes nothing.
use Rattle.crc.specs.Crc.Laws.{ByteSoFar}
use Rattle.crc.proofs.crc_byte.Given as goal

abbrev pub invariant-loop : goal.invariant-loop
invariant-loop g l = ByteSoFar g.row.MASK l.crc l.byte l.r 0 l.counter

-- `bits::bit` meets its contract: past the top of a number of 64 bits there are only zeros. Assumes nothing.
use Rattle.std.proofs.Common.{sym, ◌∙◌, le-ltb}
use Rattle.bits.specs.Bits.Laws.{bit_past}
use Rattle.bits.proofs.bit.Goals as goal

pub returns-else-at-lt64 : goal.returns-else-at-lt64
returns-else-at-lt64 c = le-ltb _ _ c.if-at-lt64.false ∙ sym (bit_past 64 c.ranges.n.fits c.if-at-lt64.false)

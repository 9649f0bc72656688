-- `crc::crc_byte` meets its contract: a turn is a zero that comes in. Assumes nothing.
use Rattle.bits.specs.Bits.{bit_of}
use Rattle.crc.specs.Crc.Laws.{byte_turns}
use Rattle.crc.proofs.crc_byte.Goals as goal

pub loop-preserved : goal.loop-preserved
unfolding bit_of
loop-preserved g c = let turn = c.loop in rw c.crc_bit-r.ensures (byte_turns _ _ _ turn.r 0 turn.counter c.loop-test.true turn.invariant)

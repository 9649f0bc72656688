-- `crc::crc_bit` meets its contract: the bit that falls out differs from the new one if register and bit together are odd. Assumes nothing.
use Rattle.std.proofs.Common.{◌≡◌, refl, Bool, true, false}
use borrow.Author.Tests.{ne_eqb}
use mir.Val.{bool_byte}
use Rattle.bits.specs.Bits.{bit_of}
use Rattle.crc.specs.Crc.Laws.{bit_parity}
use Rattle.crc.proofs.crc_bit.Goals as goal

own_lowest : (b : Bool) → bit_of (bool_byte b) 0 ≡ b
unfolding bit_of
own_lowest true = refl
own_lowest false = refl

pub returns-then-crc-from-eq1 : goal.returns-then-crc-from-eq1
returns-then-crc-from-eq1 g c = rw (← own_lowest c.args.bit, bit_parity, ← c.from.ensures, c.if-crc-from-eq1.true)

pub returns-else-crc-from-eq1 : goal.returns-else-crc-from-eq1
returns-else-crc-from-eq1 g c = rw (← own_lowest c.args.bit, bit_parity, ← c.from.ensures, ne_eqb _ _ c.if-crc-from-eq1.false)

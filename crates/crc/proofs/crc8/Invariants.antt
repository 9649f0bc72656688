-- `crc::crc8` meets its contract. The loop's invariant: the bytes that are left bring the register, which stays one of 8 bits, to the CRC of
-- all seven. Assumes nothing.
use Rattle.std.proofs.Common.{◌≡◌, ◌<◌, drop}
use Rattle.crc.specs.Crc.{crc_run, mask8, crc8_of}
use Rattle.crc.proofs.crc8.Given as goal

abbrev pub invariant-loop-byte : goal.invariant-loop-byte
invariant-loop-byte l = record {
  small : l.r < 256;
  so_far : crc_run mask8 l.r (drop l.byte-index l.byte-items) ≡ crc8_of l.number;
}

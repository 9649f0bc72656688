-- `crc::crc16_run` meets its contract. Both loops' invariant: the run of the bytes that are left from the register so far is the run of
-- them all from the start. Assumes nothing.
use Rattle.std.proofs.Common.{◌≡◌, ◌*◌, drop}
use Rattle.crc.specs.Crc.{crc16_run}
use Rattle.crc.proofs.crc16_run.Given as goal

abbrev pub invariant-loop-a : goal.invariant-loop-a
invariant-loop-a l = crc16_run l.r (drop (4 * l.a-index) l.bytes) ≡ crc16_run l.crc l.bytes

abbrev pub invariant-loop-byte : goal.invariant-loop-byte
invariant-loop-byte l = crc16_run l.r (drop l.byte-index l.rest) ≡ crc16_run l.crc l.bytes

-- `crc::crc8` meets its contract, a byte a turn. Assumes nothing.
use Rattle.std.proofs.Common.{◌≡◌, ℕ, take, sym, arith}
use Rattle.std.specs.Int.{w64, to_le_bytes}
use Rattle.std.proofs.Math.Nat.{div-div-eq-div-mul}
use Rattle.crc.specs.Crc.{bytes_of, mask8, taps}
use Rattle.crc.specs.Crc.Laws.{byte_lt, run_more, crc8_bytes, mask8_lt}
use Rattle.crc.proofs.crc8.Goals as goal

-- the low seven bytes of a number
low_bytes : (n : ℕ) → take 7 (to_le_bytes w64 n) ≡ bytes_of 7 n
unfolding bytes_of
low_bytes n = simp div-div-eq-div-mul

pub loop-byte-init : goal.loop-byte-init
loop-byte-init c =
    let number = c.args.number in
    record { small = omega arith; so_far = rw (c.to_le_bytes.ensures, low_bytes number) (sym (crc8_bytes number)) }

pub loop-byte-preserved : goal.loop-byte-preserved
unfolding mask8 taps
loop-byte-preserved c =
    let turn = c.loop-byte in
    record {
      small = rw c.crc_byte-r.ensures (byte_lt 8 mask8_lt _ turn.invariant.small);
      so_far = rw (c.crc_byte-r.ensures, ← run_more mask8 turn.r _ turn.byte-index c.loop-byte-test.true) turn.invariant.so_far;
    }

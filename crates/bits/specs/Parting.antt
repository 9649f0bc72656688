-- "for two numbers, the first bit where they part. For equal numbers that bit is given as 64" (request #107), once for every width. Assumes
-- nothing.
use Rattle.std.specs.Bool.{beq}
use Rattle.std.specs.Prelude.{ℕ, zero, suc, ◌/◌, if◌then◌else◌}
use Rattle.bits.specs.Bits.{bit_of}
pub mod Laws

-- the least of the low w bits in which two numbers differ, w if they differ in none
unfoldable pub parting_of : ℕ → ℕ → ℕ → ℕ
parting_of zero a b = 0
parting_of (suc w) a b = if beq (bit_of a 0) (bit_of b 0) then suc (parting_of w (a / 2) (b / 2)) else 0

-- The two kinds of field that the registers have: a word, some bytes "low first", and a flag, one bit of a byte
-- (document 01, "Memory"). A register's place in the image is its address. Assumes nothing.
use Rattle.std.specs.Prelude.{Bool, ◌||◌, List, ℕ, zero, suc, ◌+◌, ◌-◌, ◌*◌, ◌/◌, ◌%◌, ◌^◌, ltb, leb, get_or, set, if◌then◌else◌}
use Rattle.std.specs.Int.Bits.{bit_and, bit_or}
use Rattle.bits.specs.Bits.{digit, bit_of}
pub mod Laws

-- the number in `count` bytes from `at` on, low byte first
unfoldable pub word_at : List ℕ → ℕ → ℕ → ℕ
word_at image at zero = 0
word_at image at (suc count) = get_or image at 0 + 256 * word_at image (suc at) count

-- the image with v there, as much of it as `count` bytes hold
unfoldable pub put_word : List ℕ → ℕ → ℕ → ℕ → List ℕ
put_word image at zero v = image
put_word image at (suc count) v = put_word (set image at (v % 256)) (suc at) count (v / 256)

-- bit i of the byte at `at`
unfoldable pub flag_at : List ℕ → ℕ → ℕ → Bool
flag_at image at i = bit_of (get_or image at 0) i

-- a byte with bit i made b; its other bits stay
unfoldable pub with_bit : ℕ → ℕ → Bool → ℕ
with_bit n i b = bit_or (bit_and n (255 - 2 ^ i)) (digit b * 2 ^ i)

-- the image with that bit made b; a byte has eight bits, so from 8 on there is nothing to change
unfoldable pub put_flag : List ℕ → ℕ → ℕ → Bool → List ℕ
put_flag image at i b = if ltb i 8 then set image at (with_bit (get_or image at 0) i b) else image

-- a run of m bytes from `at` and one of n bytes from `at'` have no byte in common
abbrev pub apart : ℕ → ℕ → ℕ → ℕ → Bool
apart at m at' n = leb (at + m) at' || leb (at' + n) at

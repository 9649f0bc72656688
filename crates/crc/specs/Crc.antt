-- "CRC-8 is x^8+x^5+x^4+1, low bit first, from 0" (document 01, "Choosing a tag on the line"), and "CRC-16 is x^16+x^15+x^2+1,
-- from 0, sent inverted, low byte first" ("Memory commands"): one definition, over the width and the polynomial. Assumes nothing.
use Rattle.std.specs.Prelude.{Bool, List, [], ◌∷◌, ℕ, zero, suc, ◌+◌, ◌-◌, ◌/◌, ◌%◌, ◌^◌, eqb, if◌then◌else◌}
use Rattle.std.specs.Bool.{xor}
use Rattle.std.specs.Int.Bits.{bit_xor}
use Rattle.bits.specs.Bits.{bit_of, bits_of}
pub mod Laws
pub mod Linear
pub mod Halves

-- ---- any width and polynomial

-- A polynomial of degree w by its exponents below w, as the bits of a register of w bits: low bit first, the register's top bit
-- is the term 1, and its lowest x^(w-1).
unfoldable pub taps : ℕ → List ℕ → ℕ
taps w [] = 0
taps w (e ∷ es) = 2 ^ (w - 1 - e) + taps w es

-- the register with one more bit: it moves down, and the polynomial comes in if the bit that falls out differs from the new one
unfoldable pub crc_bit : ℕ → ℕ → Bool → ℕ
crc_bit mask r b = if xor (bit_of r 0) b then bit_xor mask (r / 2) else r / 2

-- with all of these bits
unfoldable pub crc_bits : ℕ → ℕ → List Bool → ℕ
crc_bits mask r [] = r
crc_bits mask r (b ∷ bs) = crc_bits mask (crc_bit mask r b) bs

-- with a byte, low bit first
unfoldable pub crc_byte : ℕ → ℕ → ℕ → ℕ
crc_byte mask r byte = crc_bits mask r (bits_of 8 byte)

-- with all of these bytes
unfoldable pub crc_run : ℕ → ℕ → List ℕ → ℕ
crc_run mask r [] = r
crc_run mask r (byte ∷ bytes) = crc_run mask (crc_byte mask r byte) bytes

-- the k low bytes of a number, low byte first
unfoldable pub bytes_of : ℕ → ℕ → List ℕ
bytes_of zero n = []
bytes_of (suc k) n = n % 256 ∷ bytes_of k (n / 256)

-- ---- "CRC-16 is x^16+x^15+x^2+1, from 0, sent inverted, low byte first"

unfoldable pub mask16 : ℕ
mask16 = taps 16 (15 ∷ 2 ∷ 0 ∷ [])

abbrev pub crc16_bit : ℕ → Bool → ℕ
crc16_bit r b = crc_bit mask16 r b

abbrev pub crc16_byte : ℕ → ℕ → ℕ
crc16_byte r byte = crc_byte mask16 r byte

abbrev pub crc16_run : ℕ → List ℕ → ℕ
crc16_run r bytes = crc_run mask16 r bytes

-- the byte sent first, and the second
unfoldable pub sent_low : ℕ → ℕ
sent_low r = 255 - r % 256

unfoldable pub sent_high : ℕ → ℕ
sent_high r = 255 - r / 256 % 256

-- ---- "CRC-8 is x^8+x^5+x^4+1, low bit first, from 0"

unfoldable pub mask8 : ℕ
mask8 = taps 8 (5 ∷ 4 ∷ 0 ∷ [])

abbrev pub crc8_bit : ℕ → Bool → ℕ
crc8_bit r b = crc_bit mask8 r b

abbrev pub crc8_byte : ℕ → ℕ → ℕ
crc8_byte r byte = crc_byte mask8 r byte

-- of the first seven bytes of a registration number, whose bits are the number's, low bit first
unfoldable pub crc8_of : ℕ → ℕ
crc8_of number = crc_bits mask8 0 (bits_of 56 number)

-- the eighth byte is that CRC
unfoldable pub good_crc : ℕ → Bool
good_crc number = eqb (crc8_of number) (number / 2 ^ 56 % 256)

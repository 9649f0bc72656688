-- Published points, and those of the ruling on request #105, computed from the definitions; the points of document 01 stand in `promises`
-- `Points`. Assumes nothing.
use Rattle.std.specs.Prelude.{◌≡◌, refl, List, [], ◌∷◌, ℕ, replicate}
use Rattle.std.proofs.Math.Bool.{xor}
use Rattle.bits.specs.Bits.{bit_of, bits_of}
use Rattle.crc.specs.Crc.{taps, crc_bit, crc_bits, crc_byte, crc_run, mask16, crc16_byte, crc16_run, sent_low, sent_high}
use Rattle.crc.specs.Crc.Halves.{tabled}

-- the published check of this CRC-16, the ASCII digits 1 to 9: BB3Dh
pub digits_point : crc16_run 0 (0x31 ∷ 0x32 ∷ 0x33 ∷ 0x34 ∷ 0x35 ∷ 0x36 ∷ 0x37 ∷ 0x38 ∷ 0x39 ∷ []) ≡ 0xBB3D
unfolding taps crc_bit crc_bits crc_byte crc_run mask16 bit_of bits_of xor
digits_point = refl

-- a published step of it: 75 from 90F1
pub byte_point : crc16_byte 0x90F1 0x75 ≡ 0x6390
unfolding taps crc_bit crc_bits crc_byte mask16 bit_of bits_of xor
byte_point = refl

-- what a table by bytes would have at 01, 02, 80 and FF, and what the table after 4 zeros has at 1, 2, 8 and F
pub entry_points :
    crc16_byte 0 0x01 ∷ crc16_byte 0 0x02 ∷ crc16_byte 0 0x80 ∷ crc16_byte 0 0xFF ∷ tabled 0 0x1 ∷ tabled 0 0x2 ∷ tabled 0 0x8 ∷ tabled 0 0xF ∷ []
    ≡ 0xC0C1 ∷ 0xC181 ∷ 0xA001 ∷ 0x4040 ∷ 0xCC01 ∷ 0xD801 ∷ 0xA001 ∷ 0x4400 ∷ []
unfolding taps crc_bit crc_bits crc_byte mask16 bit_of bits_of xor
entry_points = refl

-- the two bytes that are sent, in their order
abbrev sent : ℕ → List ℕ
sent crc = sent_low crc ∷ sent_high crc ∷ []

-- a page of zeros: alone it leaves 0000, and FF FF go out; read first at 0200h, by 69 00 02, its line ends in 83 30
pub zeros_points :
    (sent (crc16_run 0 (replicate 32 0)) ≡ 0xFF ∷ 0xFF ∷ []) × (sent (crc16_run 0 (0x69 ∷ 0x00 ∷ 0x02 ∷ replicate 32 0)) ≡ 0x83 ∷ 0x30 ∷ [])
unfolding taps crc_bit crc_bits crc_byte crc_run mask16 sent_low sent_high bit_of bits_of xor
zeros_points = (refl, refl)

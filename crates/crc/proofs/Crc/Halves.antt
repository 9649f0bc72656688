-- CRC-16 by half-bytes (request #105): the rule of the tables' entries, and what the code makes of them. The rule is one test, computed at
-- all 128 entries. Assumes nothing.
use Rattle.std.specs.Prelude.{◌≡◌, Bool, [], ◌∷◌, ℕ, suc, ◌+◌, ◌*◌, ◌/◌, ◌%◌, ◌^◌, ◌<◌, T, eqb, get_or}
use Rattle.std.proofs.Common.{ap, ◌∙◌, mod-lt, arith, eqb→eq}
use Rattle.std.proofs.Math.Bool.{xor}
use Rattle.std.specs.Int.Bits.{bit_xor}
use Rattle.std.proofs.lemmas.Nat.{xor_lt}
use Rattle.bits.specs.Bits.{bit_of, bits_of}
use Rattle.bits.specs.Each.{each, each_at}
use Rattle.crc.specs.Crc.{taps, crc_bit, crc_bits, mask16, crc16_byte, crc16_run}
use Rattle.crc.specs.Crc.Linear.{after_zeros, zeros_at_once, byte_at_once, four_at_once}
use Rattle.crc.specs.Crc.Halves.{tables, tabled, byte_tabled}

-- ---- their rule: an entry is what its half-byte becomes after the table's zeros

right : ℕ → ℕ → Bool
right t half = eqb (get_or (get_or tables t []) half 0) (after_zeros mask16 (4 * t + 4) half)

all_right : T (each 8 (λ t. each 16 (right t)))
unfolding right taps crc_bit crc_bits mask16 bit_of bits_of xor
all_right = tt

pub table_rule : (t half : ℕ) → t < 8 → tabled t half ≡ after_zeros mask16 (4 * t + 4) (half % 16)
unfolding right
table_rule t half h =
    eqb→eq (tabled t half) (after_zeros mask16 (4 * t + 4) (half % 16))
    (each_at 16 (right t) (each_at 8 (λ t. each 16 (right t)) all_right t h) (half % 16) (omega arith))

-- a byte becomes after 8, 12 .. 32 zeros what the tables say of its halves
byte_rule : (t : ℕ) {byte : ℕ} → t < 7 → byte < 256 → after_zeros mask16 (4 * t + 8) byte ≡ byte_tabled t byte
byte_rule t {byte} h small =
    let high : byte / 16 % 16 ≡ byte / 16 = omega arith in
    let low : 4 * suc t + 4 ≡ 4 * t + 8 = omega arith in
    let more : 4 * t + 8 ≡ 4 + (4 * t + 4) = omega arith in
    rw (table_rule (suc t) byte (omega arith), table_rule t (byte / 16) (omega arith), high, low, more) (zeros_at_once mask16 4 (4 * t + 4) byte)

-- ---- the register by the tables, with one byte more and with four

pub byte_tabled_lem : (r : ℕ) {byte : ℕ} → byte < 256 → crc16_byte r byte ≡ bit_xor (byte_tabled 0 (bit_xor (r % 256) byte)) (r / 256)
byte_tabled_lem r small =
    byte_at_once mask16 r small ∙ ap (λ (x : ℕ). bit_xor x (r / 256)) (byte_rule 0 (omega arith) (xor_lt 8 _ _ (mod-lt r (omega arith)) small))

pub four_tabled : {r a b c d : ℕ} → r < 2 ^ 16 → a < 256 → b < 256 → c < 256 → d < 256 → crc16_run r (a ∷ b ∷ c ∷ d ∷ [])
    ≡ bit_xor (bit_xor (bit_xor (byte_tabled 2 c) (byte_tabled 0 d)) (byte_tabled 4 (bit_xor (r / 256) b))) (byte_tabled 6 (bit_xor (r % 256) a))
four_tabled {r} small ha hb hc hd =
    let low = byte_rule 6 (omega arith) (xor_lt 8 _ _ (mod-lt r (omega arith)) ha) in
    let high : r / 256 < 256 = omega arith in
    four_at_once mask16 small ha hb hc hd
    ∙ rw (low, byte_rule 4 (omega arith) (xor_lt 8 _ _ high hb), byte_rule 2 (omega arith) hc, byte_rule 0 (omega arith) hd)

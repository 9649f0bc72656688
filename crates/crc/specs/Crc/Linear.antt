-- A CRC is linear, for every width and polynomial: the bits that fall out of a register change what comes after in the same way whatever
-- stays in it. So k bits at once are an entry of a table, by the k bits that fall out, and the rest moved down. Assumes nothing.
use Rattle.std.specs.Prelude.{◌≡◌, refl, Bool, true, false, List, [], ◌∷◌, ℕ, zero, suc, ◌+◌, ◌*◌, ◌/◌, ◌%◌, ◌^◌, ◌<◌, length, if◌then◌else◌}
use Rattle.std.proofs.Common.{sym, ap, ◌∙◌, div-add-mod', mod-lt, mod-eq_of_lt, zero-mul, zero-add, arith, pow_pos}
use Rattle.std.proofs.Math.Bool.{xor}
use Rattle.std.proofs.Math.Nat.{zero-div, div-eq_of_lt}
use Rattle.std.proofs.Math.Arith.{bin_ind, digits_div, digits_mod}
use Rattle.std.specs.Int.Bits.{bit_xor, xor_zero_l, xor_zero_r, xor_self}
use Rattle.std.proofs.lemmas.Nat.{xor_comm, xor_shr, xor_mod, xor_block}
use Rattle.bits.specs.Bits.{bit_of, bits_of}
use Rattle.bits.specs.Bits.Laws.{bits_add, bits_mod}
use Rattle.crc.specs.Crc.{crc_bit, crc_bits, crc_byte, crc_run}
use Rattle.crc.specs.Crc.Laws.{same_low, bit_sum, bits_join, bits_out, run_nil, run_cons}

-- the register after k zeros
abbrev pub after_zeros : ℕ → ℕ → ℕ → ℕ
after_zeros mask k r = crc_bits mask r (bits_of k 0)

-- ---- numbers added without carry

bool_assoc : (x y z : Bool) → xor (xor x y) z ≡ xor x (xor y z)
unfolding xor
bool_assoc false false false = refl
bool_assoc false false true = refl
bool_assoc false true false = refl
bool_assoc false true true = refl
bool_assoc true false false = refl
bool_assoc true false true = refl
bool_assoc true true false = refl
bool_assoc true true true = refl

-- two numbers with the same half and the same lowest bit are one
same_bits : (a b : ℕ) → a / 2 ≡ b / 2 → bit_of a 0 ≡ bit_of b 0 → a ≡ b
same_bits a b halves low =
    let odd = same_low a b low in
    omega arith

pub xor_assoc : (a b c : ℕ) → bit_xor (bit_xor a b) c ≡ bit_xor a (bit_xor b c)
xor_assoc = bin_ind (λ (a : ℕ). (b c : ℕ) → bit_xor (bit_xor a b) c ≡ bit_xor a (bit_xor b c)) (λ b c. rw (xor_zero_l b, xor_zero_l (bit_xor b c))) more
  where
    more : (a : ℕ) → ((b c : ℕ) → bit_xor (bit_xor (a / 2) b) c ≡ bit_xor (a / 2) (bit_xor b c)) → (b c : ℕ) → bit_xor (bit_xor a b) c ≡ bit_xor a (bit_xor b c)
    more a half b c =
        same_bits (bit_xor (bit_xor a b) c) (bit_xor a (bit_xor b c))
        (rw (xor_shr (bit_xor a b) c 1, xor_shr a (bit_xor b c) 1, xor_shr a b 1, xor_shr b c 1) (half (b / 2) (c / 2)))
        (rw (bit_sum (bit_xor a b) c, bit_sum a (bit_xor b c), bit_sum a b, bit_sum b c) (bool_assoc (bit_of a 0) (bit_of b 0) (bit_of c 0)))

-- a number added twice is gone
xor_twice : (a b : ℕ) → bit_xor (bit_xor a b) b ≡ a
xor_twice a b = rw (xor_assoc a b b, xor_self b, xor_zero_r a)

-- ---- one bit, and many

xor_false : (b : Bool) → xor b false ≡ b
unfolding xor
xor_false true = refl
xor_false false = refl

-- the polynomial comes into a sum exactly if it comes into one of the two alone: in both, it is gone
taps_added : (mask u v : ℕ) (p q : Bool) → (if xor p q then bit_xor mask (bit_xor u v) else bit_xor u v)
    ≡ bit_xor (if p then bit_xor mask u else u) (if q then bit_xor mask v else v)
unfolding xor
taps_added mask u v true true = rw (xor_comm mask u, xor_assoc u mask (bit_xor mask v), ← xor_assoc mask mask v, xor_self mask, xor_zero_l v)
taps_added mask u v true false = sym (xor_assoc mask u v)
taps_added mask u v false true = rw (← xor_assoc u mask v, xor_comm u mask, xor_assoc mask u v)
taps_added mask u v false false = refl

-- a register added to another: its own step, with a zero, comes beside the other's
pub bit_linear : (mask r s : ℕ) (b : Bool) → crc_bit mask (bit_xor r s) b ≡ bit_xor (crc_bit mask r false) (crc_bit mask s b)
unfolding crc_bit
bit_linear mask r s b =
    rw (bit_sum r s, xor_shr r s 1, bool_assoc (bit_of r 0) (bit_of s 0) b, xor_false (bit_of r 0))
    (taps_added mask (r / 2) (s / 2) (bit_of r 0) (xor (bit_of s 0) b))

pub bits_linear : (mask k r s n : ℕ) → crc_bits mask (bit_xor r s) (bits_of k n) ≡ bit_xor (after_zeros mask k r) (crc_bits mask s (bits_of k n))
unfolding crc_bits bits_of bit_of
bits_linear mask zero r s n = refl
bits_linear mask (suc k) r s n =
    rw (crc_bits, bit_linear mask r s (bit_of n 0)) (bits_linear mask k (crc_bit mask r false) (crc_bit mask s (bit_of n 0)) (n / 2))

-- ---- bits at once

-- j bits fall out of a register, added to the j that come in, and what stays goes on with the others
pub bits_at_once : (mask j k r n : ℕ) → crc_bits mask r (bits_of (j + k) n)
    ≡ bit_xor (after_zeros mask (j + k) (bit_xor r n % 2 ^ j)) (crc_bits mask (r / 2 ^ j) (bits_of k (n / 2 ^ j)))
bits_at_once mask j k r n =
    ap (λ (x : ℕ). crc_bits mask x (bits_of (j + k) n)) (sym whole)
    ∙ bits_linear mask (j + k) out stay n
    ∙ ap (bit_xor (after_zeros mask (j + k) out)) goes_on
  where
    out : ℕ
    out = bit_xor r n % 2 ^ j

    -- what stays, above the bits that come in
    stay : ℕ
    stay = r / 2 ^ j * 2 ^ j + n % 2 ^ j

    whole : bit_xor out stay ≡ r
    whole =
        rw (zero-mul, zero-add) at (xor_block j 0 (r / 2 ^ j) out (n % 2 ^ j) (mod-lt (bit_xor r n) (pow_pos j)) (mod-lt n (pow_pos j)))
        ∙ rw (xor_zero_l (r / 2 ^ j), xor_mod r n j, xor_twice (r % 2 ^ j) (n % 2 ^ j)) (div-add-mod' r (2 ^ j))

    low : bits_of j n ≡ bits_of j stay
    low = sym (bits_mod j n) ∙ ap (bits_of j) (sym (digits_mod (r / 2 ^ j) (mod-lt n (pow_pos j)))) ∙ bits_mod j stay

    high : stay / 2 ^ j ≡ r / 2 ^ j
    high = digits_div (r / 2 ^ j) (mod-lt n (pow_pos j))

    goes_on : crc_bits mask stay (bits_of (j + k) n) ≡ crc_bits mask (r / 2 ^ j) (bits_of k (n / 2 ^ j))
    goes_on = rw (bits_add j k n, bits_join mask stay, low, bits_out mask j stay, high)

-- the same with zeros that come in
pub zeros_at_once : (mask j k r : ℕ) → after_zeros mask (j + k) r ≡ bit_xor (after_zeros mask (j + k) (r % 2 ^ j)) (after_zeros mask k (r / 2 ^ j))
zeros_at_once mask j k r = rw (xor_zero_r, zero-div) at (bits_at_once mask j k r 0)

-- zeros after zeros
zeros_join : (mask j k r : ℕ) → after_zeros mask k (after_zeros mask j r) ≡ after_zeros mask (j + k) r
zeros_join mask j k r = rw (bits_add j k 0, zero-div) (sym (bits_join mask r (bits_of j 0) (bits_of k 0)))

-- ---- bytes

run_linear : (mask r s : ℕ) (bytes : List ℕ) → crc_run mask (bit_xor r s) bytes ≡ bit_xor (after_zeros mask (length bytes * 8) r) (crc_run mask s bytes)
unfolding crc_run crc_byte crc_bits bits_of
run_linear mask r s [] = refl
run_linear mask r s (byte ∷ bytes) =
    let more : length (byte ∷ bytes) * 8 ≡ 8 + length bytes * 8 = omega arith in
    rw (more, ← zeros_join mask 8 (length bytes * 8) r, bits_linear mask 8 r s byte)
    (run_linear mask (after_zeros mask 8 r) (crc_bits mask s (bits_of 8 byte)) bytes)

-- one byte: what falls out of the register, added to the byte that comes in, and what stays
pub byte_at_once : (mask r : ℕ) {byte : ℕ} → byte < 256 → crc_byte mask r byte ≡ bit_xor (after_zeros mask 8 (bit_xor (r % 256) byte)) (r / 256)
unfolding crc_byte crc_bits bits_of
byte_at_once mask r {byte} small =
    let out : bit_xor r byte % 2 ^ 8 ≡ bit_xor (r % 256) byte = xor_mod r byte 8 ∙ ap (bit_xor (r % 256)) (mod-eq_of_lt small) in
    rw out at (bits_at_once mask 8 0 r byte)

-- so a byte may as well be added to the register before eight zeros come in
pub byte_zeros : (mask r : ℕ) {byte : ℕ} → byte < 256 → crc_byte mask r byte ≡ after_zeros mask 8 (bit_xor r byte)
unfolding crc_bits bits_of
byte_zeros mask r {byte} small =
    let low : bit_xor r byte % 2 ^ 8 ≡ bit_xor (r % 256) byte = xor_mod r byte 8 ∙ ap (bit_xor (r % 256)) (mod-eq_of_lt small) in
    let high : bit_xor r byte / 2 ^ 8 ≡ r / 256 = xor_shr r byte 8 ∙ ap (bit_xor (r / 256)) (div-eq_of_lt small) ∙ xor_zero_r (r / 256) in
    byte_at_once mask r small ∙ sym (rw (low, high) at (zeros_at_once mask 8 0 (bit_xor r byte)))

-- and with more bytes after it
pub run_at_once : (mask r : ℕ) {byte : ℕ} (bytes : List ℕ) → byte < 256 → crc_run mask r (byte ∷ bytes)
    ≡ bit_xor (after_zeros mask (8 + length bytes * 8) (bit_xor (r % 256) byte)) (crc_run mask (r / 256) bytes)
run_at_once mask r {byte} bytes small =
    rw (run_cons mask r byte bytes, byte_at_once mask r small, ← zeros_join mask 8 (length bytes * 8) (bit_xor (r % 256) byte))
    (run_linear mask (after_zeros mask 8 (bit_xor (r % 256) byte)) (r / 256) bytes)

-- four bytes into a register of 16 bits; the two that meet it stand last, as in the code
pub four_at_once : (mask : ℕ) {r a b c d : ℕ} → r < 2 ^ 16 → a < 256 → b < 256 → c < 256 → d < 256 → crc_run mask r (a ∷ b ∷ c ∷ d ∷ [])
    ≡ bit_xor (bit_xor (bit_xor (after_zeros mask 16 c) (after_zeros mask 8 d)) (after_zeros mask 24 (bit_xor (r / 256) b))) (after_zeros mask 32 (bit_xor (r % 256) a))
four_at_once mask {r} {a} {b} {c} {d} small ha hb hc hd =
    let high : r / 256 % 256 ≡ r / 256 = omega arith in
    let gone : r / 256 / 256 ≡ 0 = omega arith in
    rw (run_at_once mask r (b ∷ c ∷ d ∷ []) ha, run_at_once mask (r / 256) (c ∷ d ∷ []) hb, high, gone)
    (rw (run_at_once mask 0 (d ∷ []) hc, run_at_once mask 0 [] hd, xor_zero_l c, xor_zero_l d, run_nil mask 0, xor_zero_r (after_zeros mask 8 d))
    (rw (xor_comm (bit_xor (after_zeros mask 16 c) (after_zeros mask 8 d))) (xor_comm (after_zeros mask 32 (bit_xor (r % 256) a)) _)))

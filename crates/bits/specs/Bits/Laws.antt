-- What bits taken low first add up to, once for every width. Assumes nothing.
use Rattle.std.specs.Prelude.{◌≡◌, refl, false, Bool, true, ℕ, zero, suc, ◌+◌, ◌-◌, ◌*◌, ◌/◌, ◌%◌, ◌^◌, ◌≤◌, ◌<◌, eqb, length, get_or}
use Rattle.std.proofs.Common.{sym, ap, ◌∙◌, div-one, mul_comm, mod-eq_of_lt, mul_assoc, add-suc, suc-add, add-zero, zero-add, le_of_suc-le-suc, not-suc-le-zero, lt_of_lt_of_le, zero-mul, mul-one, add-mul, mul_left_comm, add_assoc, arith, add-one, pow_pos, pow_mono, pow-add}
use mathlib.Core.List.{◌∷◌, ◌++◌, List, [], flat_map, append_assoc}
use Rattle.std.proofs.Math.Nat.{pow-succ', div-div-eq-div-mul, mod-one, div-eq_of_lt, add-mul-div_right}
use Rattle.std.proofs.lemmas.List.{replicate-append-replicate}
use Rattle.std.proofs.lemmas.Nat.{mod-pow-add}
use Rattle.std.proofs.Math.Pow.{field, mod-mod-pow}
use Rattle.bits.specs.Bits.{digit, bit_of, bits_of, number_of, shift_in, shift_all, slots_of, released}

-- bit i + 1 of a number is bit i of its half
pub bit_suc : (n i : ℕ) → bit_of n (suc i) ≡ bit_of (n / 2) i
unfolding bit_of
bit_suc n i = simp (pow-succ', ← div-div-eq-div-mul)

-- past its top a number has only zeros
pub bit_past : (w : ℕ) {n i : ℕ} → n < 2 ^ w → w ≤ i → bit_of n i ≡ false
unfolding bit_of
bit_past w {n} {i} fits past =
    let small : n < 2 ^ i = lt_of_lt_of_le fits (pow_mono past) in
    rw (div-eq_of_lt small)

-- the lowest bit, as a number, is the remainder by 2
pub digit_bit : (n : ℕ) → digit (bit_of n 0) ≡ n % 2
unfolding bit_of
digit_bit n = rw (div-one n) (cases (n % 2) (omega arith))
  where
    cases : (r : ℕ) → r < 2 → digit (eqb r 1) ≡ r
    cases zero h = refl
    cases (suc zero) h = refl
    cases (suc (suc r)) h = absurd (not-suc-le-zero (le_of_suc-le-suc (le_of_suc-le-suc h)))

-- a bit's number is at most 1, is 1 exactly if the bit is, and tells which bit it is
pub digit_le : (b : Bool) → digit b ≤ 1
digit_le true = omega arith
digit_le false = omega arith

pub digit_one : (b : Bool) → eqb (digit b) 1 ≡ b
digit_one true = refl
digit_one false = refl

pub digit_same : (a b : Bool) → digit a ≡ digit b → a ≡ b
digit_same a b e = sym (digit_one a) ∙ ap (λ (n : ℕ). eqb n 1) e ∙ digit_one b

-- the low w + 1 bits: the lowest, and w bits of the half
mod_pow_suc : (n w : ℕ) → n % 2 ^ suc w ≡ n % 2 + 2 * (n / 2 % 2 ^ w)
mod_pow_suc n w = omega (arith, rw add-one at (mod-pow-add n w 1))

-- the lowest bit is 1 exactly if the number is odd
pub bit_low : (n : ℕ) → bit_of n 0 ≡ eqb (n % 2) 1
unfolding bit_of
bit_low n = rw (div-one n)

-- w bits of a number, low first, are the number below 2 ^ w
pub number_bits : (w n : ℕ) → number_of (bits_of w n) ≡ n % 2 ^ w
unfolding number_of bits_of
number_bits zero n = sym (mod-one n)
number_bits (suc w) n = rw (digit_bit, number_bits w (n / 2), mod_pow_suc)

-- and bits are those of the number that they are, which has no more of them
pub bits_number : (bits : List Bool) → bits_of (length bits) (number_of bits) ≡ bits
unfolding bits_of number_of
bits_number [] = refl
bits_number (b ∷ bs) =
    let low : (digit b + 2 * number_of bs) % 2 ≡ digit b = omega (arith, digit_le b) in
    let high : (digit b + 2 * number_of bs) / 2 ≡ number_of bs = omega (arith, digit_le b) in
    rw (bit_low (digit b + 2 * number_of bs), low, high, digit_one b, bits_number bs)

pub number_lt : (bits : List Bool) → number_of bits < 2 ^ length bits
unfolding number_of
number_lt [] = omega arith
number_lt (b ∷ bs) = rw (pow-succ' 2 (length bs)) (omega (arith, digit_le b, number_lt bs))

-- there are w of them, and the one at i is bit i
pub length_bits : (w n : ℕ) → length (bits_of w n) ≡ w
unfolding bits_of
length_bits zero n = refl
length_bits (suc w) n = ap suc (length_bits w (n / 2))

pub bits_at : (w n i : ℕ) → i < w → get_or (bits_of w n) i false ≡ bit_of n i
unfolding bits_of
bits_at zero n i h = absurd (not-suc-le-zero h)
bits_at (suc w) n zero h = refl
bits_at (suc w) n (suc i) h = bits_at w (n / 2) i (le_of_suc-le-suc h) ∙ sym (bit_suc n i)

pub no_bits : (n : ℕ) → bits_of 0 n ≡ []
unfolding bits_of
no_bits n = refl

-- a + b bits: a bits, and b bits of what is above them
pub bits_add : (a b n : ℕ) → bits_of (a + b) n ≡ bits_of a n ++ bits_of b (n / 2 ^ a)
unfolding bits_of
bits_add zero b n = rw (zero-add, div-one)
bits_add (suc a) b n = rw (suc-add, bits_add a b (n / 2), div-div-eq-div-mul, ← pow-succ')

-- a bits don't see what is above them
pub bits_mod : (a n : ℕ) → bits_of a (n % 2 ^ a) ≡ bits_of a n
unfolding bits_of
bits_mod zero n = refl
bits_mod (suc a) n =
    let low : bit_of (n % 2 ^ suc a) 0 ≡ bit_of n 0 = rw (bit_low (n % 2 ^ suc a), bit_low n, rw add-one at (mod-mod-pow n a 1)) in
    rw (low, rw add-one at (field n a 1), bits_mod a (n / 2))

-- the bits of a number from bit `at` on: that bit, and those from the next on
pub bits_from_lem : (k number at : ℕ) → bits_of (suc k) (number / 2 ^ at) ≡ bit_of number at ∷ bits_of k (number / 2 ^ (at + 1))
unfolding bits_of bit_of
bits_from_lem k number at = simp (div-one, div-div-eq-div-mul, add-one, pow-succ', mul_comm)

-- ---- slots

-- the slots of some bytes, and of more
pub slots_append : (xs ys : List ℕ) → slots_of (xs ++ ys) ≡ slots_of xs ++ slots_of ys
unfolding flat_map
slots_append [] ys = refl
slots_append (x ∷ xs) ys = rw (append_assoc, ← slots_append xs ys)

pub released_more : (n : ℕ) → released (suc n * 8) ≡ released 8 ++ released (n * 8)
released_more n = let more : suc n * 8 ≡ 8 + n * 8 = omega arith in rw (more, replicate-append-replicate 8 (n * 8) true)

-- ---- a register that hears bits

spread : (d a p : ℕ) → d * p + a * (2 * p) ≡ (d + 2 * a) * p
spread d a p = simp (add-mul, mul_assoc, mul_left_comm)

-- k bits of n heard by a register of k + m bits: they stand at its top, above what is left of what it held
shifted : (k m r n : ℕ) → shift_all (k + m) r (bits_of k n) ≡ r / 2 ^ k + n % 2 ^ k * 2 ^ m
unfolding shift_all bits_of shift_in
shifted zero m r n = rw (div-one, mod-one) (omega (arith, zero-mul (2 ^ m)))
shifted (suc k) m r n =
    let top : k + suc m - 1 ≡ m + k = omega arith in
    rw (suc-add k m, ← add-suc k m, shifted k (suc m), shift_in, top, pow-add 2 m k, ← mul_assoc, add-mul-div_right _ _ (pow_pos k))
    (rw (div-div-eq-div-mul, ← pow-succ', digit_bit, mod_pow_suc, pow-succ' 2 m, add_assoc, spread))

-- a register of w bits that hears w bits of a number holds the number, whatever it held before
pub heard_whole_lem : (w : ℕ) {r n : ℕ} → r < 2 ^ w → n < 2 ^ w → shift_all w r (bits_of w n) ≡ n
heard_whole_lem w {r} {n} hr hn = rw (add-zero, div-eq_of_lt hr, mod-eq_of_lt hn, mul-one, zero-add) at (shifted w 0 r n)

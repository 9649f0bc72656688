-- What a CRC keeps and leaves, once for every width and polynomial; below, what that says of CRC-16 and CRC-8. Assumes nothing.
use Rattle.std.specs.Prelude.{◌≡◌, refl, ◌↔◌, ◌⊎◌, Bool, true, false, eqb, length, get_or, drop, if◌then◌else◌}
use Rattle.std.proofs.Math.Path.{sym}
use Rattle.std.proofs.Common.{ap, ◌∙◌, inl, inr, ⊎_elim, mod-lt, div-one, lt_of_lt_of_le, zero-mul, not-suc-le-zero, le_of_suc-le-suc, add-one, eqb-true, eq-eqb, drop_of_length-le, pow_pos, pow_mono, drop-cons}
use Rattle.std.proofs.Math.Bool.{xor}
use mathlib.Core.List.{List, [], ◌∷◌, ◌++◌}
use Prim.Native.Nat.{ℕ, zero, suc, ◌+◌, ◌-◌, ◌*◌, ◌/◌, ◌%◌, ◌^◌, ◌≤◌, ◌<◌}
use Rattle.std.proofs.Math.Nat.{mod-one, div-div-eq-div-mul, div-eq_of_lt, pow-succ'}
use native.Mathlib.Omega.{arith}
use Rattle.std.specs.Int.Bits.{bit_xor, xor_zero_r}
use Rattle.std.proofs.lemmas.Nat.{xor_lt, xor_shr, xor_mod, mod-pow-add}
use Rattle.std.proofs.Math.Pow.{split}
use Rattle.bits.specs.Choose.{choice}
use Rattle.bits.specs.Bits.{digit, bit_of, bits_of}
use Rattle.bits.specs.Bits.Laws.{digit_bit, digit_one, bit_low, bits_add, bits_mod}
use Rattle.crc.specs.Crc.{taps, crc_bit, crc_bits, crc_byte, crc_run, bytes_of, mask16, crc16_run, sent_low, sent_high, mask8, crc8_of, good_crc}

-- ---- the register stays below 2 ^ width

module _ (w : ℕ) {mask : ℕ} (fits : mask < 2 ^ w) where
  pub bit_lt : {r : ℕ} (b : Bool) → r < 2 ^ w → crc_bit mask r b < 2 ^ w
  unfolding crc_bit
  bit_lt {r} b h =
      let half : r / 2 < 2 ^ w = omega arith in
      choice (λ (n : ℕ). n < 2 ^ w) (xor (bit_of r 0) b) (xor_lt w mask (r / 2) fits half) half

  pub bits_lt : {r : ℕ} (bs : List Bool) → r < 2 ^ w → crc_bits mask r bs < 2 ^ w
  unfolding crc_bits
  bits_lt [] h = h
  bits_lt {r = r} (b ∷ bs) h = bits_lt {r = crc_bit mask r b} bs (bit_lt b h)

  pub byte_lt : {r : ℕ} (byte : ℕ) → r < 2 ^ w → crc_byte mask r byte < 2 ^ w
  unfolding crc_byte
  byte_lt byte h = bits_lt (bits_of 8 byte) h

  pub run_lt : {r : ℕ} (bytes : List ℕ) → r < 2 ^ w → crc_run mask r bytes < 2 ^ w
  unfolding crc_run
  run_lt [] h = h
  run_lt {r = r} (byte ∷ bytes) h = run_lt {r = crc_byte mask r byte} bytes (byte_lt byte h)

-- ---- a joined input: the run of the second part from the register of the first

pub bits_join : (mask r : ℕ) (xs ys : List Bool) → crc_bits mask r (xs ++ ys) ≡ crc_bits mask (crc_bits mask r xs) ys
unfolding crc_bits
bits_join mask r [] ys = refl
bits_join mask r (x ∷ xs) ys = bits_join mask (crc_bit mask r x) xs ys

pub run_nil : (mask r : ℕ) → crc_run mask r [] ≡ r
unfolding crc_run
run_nil mask r = refl

pub run_cons : (mask r byte : ℕ) (bytes : List ℕ) → crc_run mask r (byte ∷ bytes) ≡ crc_run mask (crc_byte mask r byte) bytes
unfolding crc_run
run_cons mask r byte bytes = refl

pub run_join : (mask r : ℕ) (xs ys : List ℕ) → crc_run mask r (xs ++ ys) ≡ crc_run mask (crc_run mask r xs) ys
unfolding crc_run
run_join mask r [] ys = refl
run_join mask r (x ∷ xs) ys = run_join mask (crc_byte mask r x) xs ys

-- ---- inputs taken one by one

-- numbers with the same lowest bit are both odd or both even
pub same_low : (a b : ℕ) → bit_of a 0 ≡ bit_of b 0 → a % 2 ≡ b % 2
same_low a b low = sym (digit_bit a) ∙ ap digit low ∙ digit_bit b

digit_sum : (x y : Bool) → bit_xor (digit x) (digit y) ≡ digit (xor x y)
unfolding xor
digit_sum true true = refl
digit_sum true false = refl
digit_sum false true = refl
digit_sum false false = refl

-- the lowest bit of two numbers added without carry
pub bit_sum : (a b : ℕ) → bit_of (bit_xor a b) 0 ≡ xor (bit_of a 0) (bit_of b 0)
bit_sum a b =
    rw (bit_low (bit_xor a b), xor_mod a b 1, ← digit_bit a, ← digit_bit b, digit_sum (bit_of a 0) (bit_of b 0))
    (digit_one (xor (bit_of a 0) (bit_of b 0)))

-- with the lowest bit of a number: by the parity of the register and the number together
pub bit_parity : (mask r n : ℕ) → crc_bit mask r (bit_of n 0) ≡ (if eqb (bit_xor r n % 2) 1 then bit_xor mask (r / 2) else r / 2)
unfolding crc_bit
bit_parity mask r n = rw (← bit_sum r n, bit_low (bit_xor r n))

-- What the loop over a byte's bits holds at its turn i: the bits that are left in `rest` bring its register to where all of
-- the byte's bring the first.
abbrev pub ByteSoFar : ℕ → ℕ → ℕ → ℕ → ℕ → ℕ → Type 0
ByteSoFar mask first byte r rest i = (i ≤ 8) × (crc_bits mask r (bits_of (8 - i) rest) ≡ crc_byte mask first byte)

pub byte_begins : (mask r byte : ℕ) → ByteSoFar mask r byte r byte 0
unfolding crc_byte
byte_begins mask r byte = (omega arith, refl)

pub byte_turns : (mask first byte r rest i : ℕ) → i < 8 → ByteSoFar mask first byte r rest i
    → ByteSoFar mask first byte (crc_bit mask r (bit_of rest 0)) (rest / 2) (i + 1)
unfolding crc_bits bits_of
byte_turns mask first byte r rest i h so =
    let more : 8 - i ≡ suc (8 - (i + 1)) = omega arith in
    (omega arith, rw more at so.1)

pub byte_ends : (mask first byte r rest i : ℕ) → 8 ≤ i → ByteSoFar mask first byte r rest i → r ≡ crc_byte mask first byte
unfolding crc_bits bits_of
byte_ends mask first byte r rest i h so =
    let none : 8 - i ≡ 0 = omega arith in
    rw none at so.1

pub bits_none : (mask r n k : ℕ) → k ≤ 0 → crc_bits mask r (bits_of k n) ≡ r
unfolding crc_bits bits_of
bits_none mask r n zero h = refl
bits_none mask r n (suc k) h = absurd (not-suc-le-zero h)

-- bytes from place i on: the one at i, and those from i + 1 on
pub run_more : (mask r : ℕ) (bytes : List ℕ) (i : ℕ) → i < length bytes → crc_run mask r (drop i bytes) ≡ crc_run mask (crc_byte mask r (get_or bytes i 0)) (drop (i + 1) bytes)
unfolding crc_run
run_more mask r bytes i h = rw (add-one, drop-cons bytes i 0)

-- and four of them
pub run_four : (mask r : ℕ) (bytes : List ℕ) (i : ℕ) → i + 4 ≤ length bytes → crc_run mask r (drop i bytes)
    ≡ crc_run mask (crc_run mask r (get_or bytes i 0 ∷ get_or bytes (i + 1) 0 ∷ get_or bytes (i + 2) 0 ∷ get_or bytes (i + 3) 0 ∷ [])) (drop (i + 4) bytes)
unfolding crc_run
run_four mask r bytes i h = one r i (i + 1) refl (omega arith)
    ∙ one _ (i + 1) (i + 2) (omega arith) (omega arith)
    ∙ one _ (i + 2) (i + 3) (omega arith) (omega arith)
    ∙ one _ (i + 3) (i + 4) (omega arith) (omega arith)
  where
    one : (s j k : ℕ) → j + 1 ≡ k → j < length bytes → crc_run mask s (drop j bytes) ≡ crc_run mask (crc_byte mask s (get_or bytes j 0)) (drop k bytes)
    one s j k e inside = rw (← e) (run_more mask s bytes j inside)

pub run_none : (mask r : ℕ) (bytes : List ℕ) (i : ℕ) → length bytes ≤ i → crc_run mask r (drop i bytes) ≡ r
unfolding crc_run
run_none mask r bytes i h = rw (drop_of_length-le bytes h)

-- k bytes of a number: the lowest, and k - 1 of what is above it
pub number_more : (mask r n k : ℕ) → 0 < k → crc_run mask r (bytes_of k n) ≡ crc_run mask (crc_byte mask r (n % 256)) (bytes_of (k - 1) (n / 256))
unfolding crc_run bytes_of
number_more mask r n zero h = absurd (not-suc-le-zero h)
number_more mask r n (suc k) h = let less : suc k - 1 ≡ k = omega arith in rw less

pub number_none : (mask r n k : ℕ) → k ≤ 0 → crc_run mask r (bytes_of k n) ≡ r
unfolding crc_run bytes_of
number_none mask r n zero h = refl
number_none mask r n (suc k) h = absurd (not-suc-le-zero h)

-- bytes of a number are its bits
pub run_number : (mask r n x : ℕ) → crc_run mask r (bytes_of n x) ≡ crc_bits mask r (bits_of (n * 8) x)
unfolding crc_run crc_byte bytes_of
run_number mask r zero x = sym (bits_none mask r x (zero * 8) (omega arith))
run_number mask r (suc n) x =
    let more : suc n * 8 ≡ 8 + n * 8 = omega arith in
    rw (run_number mask (crc_bits mask r (bits_of 8 (x % 256))) n (x / 256), bits_mod 8 x, ← bits_join mask r (bits_of 8 x), ← bits_add 8 (n * 8) x, more)

-- ---- a message followed by its own CRC leaves 0

xor_same : (b : Bool) → xor b b ≡ false
unfolding xor
xor_same true = refl
xor_same false = refl

pub bit_same : (mask r : ℕ) → crc_bit mask r (bit_of r 0) ≡ r / 2
unfolding crc_bit
bit_same mask r = rw (xor_same (bit_of r 0))

-- a register's own low bits shifted in after it: it only moves down
pub bits_out : (mask k r : ℕ) → crc_bits mask r (bits_of k r) ≡ r / 2 ^ k
unfolding crc_bits bits_of
bits_out mask zero r = sym (div-one r)
bits_out mask (suc k) r = rw (crc_bits, bit_same mask r, bits_out mask k (r / 2), div-div-eq-div-mul, ← pow-succ')

pub bits_own : (mask w : ℕ) {r : ℕ} → r < 2 ^ w → crc_bits mask r (bits_of w r) ≡ 0
bits_own mask w {r} h = bits_out mask w r ∙ div-eq_of_lt h

-- bits, and bytes with the CRC's n bytes low byte first
pub bits_message : (w : ℕ) {mask r : ℕ} → mask < 2 ^ w → r < 2 ^ w → (bs : List Bool) → crc_bits mask r (bs ++ bits_of w (crc_bits mask r bs)) ≡ 0
bits_message w {mask} {r} fits h bs = rw bits_join (bits_own mask w (bits_lt w fits bs h))

pub run_message : (n : ℕ) {mask r : ℕ} → mask < 2 ^ (n * 8) → r < 2 ^ (n * 8) → (bytes : List ℕ) → crc_run mask r (bytes ++ bytes_of n (crc_run mask r bytes)) ≡ 0
run_message n {mask} {r} fits h bytes =
    rw (run_join, run_number) (bits_own mask (n * 8) (run_lt (n * 8) fits bytes h))

-- ---- and nothing else does, if the polynomial has the term 1, which is the register's top bit

-- two bits differ, or are the same
part_or_meet : (p q : Bool) → (xor p q ≡ true) ⊎ (p ≡ q)
unfolding xor
part_or_meet true true = inr refl
part_or_meet true false = inl refl
part_or_meet false true = inl refl
part_or_meet false false = inr refl

pub bit_other : (mask r : ℕ) (b : Bool) → xor (bit_of r 0) b ≡ true → crc_bit mask r b ≡ bit_xor mask (r / 2)
unfolding crc_bit
bit_other mask r b e = rw e

module _ (v : ℕ) {mask : ℕ} (fits : mask < 2 ^ suc v) (top : 2 ^ v ≤ mask) where
  -- where the polynomial comes in, the register is not small
  xor_top : {s : ℕ} → s < 2 ^ v → bit_xor mask s < 2 ^ v → ⊥
  xor_top {s} hs hx =
      let none : mask / 2 ^ v ≡ 0 =
      sym (rw (div-eq_of_lt hs, xor_zero_r) at (xor_shr mask s v)) ∙ div-eq_of_lt hx in
      omega (arith, rw (none, zero-mul) at (split mask v), mod-lt mask (pow_pos v))

  -- one bit back: a register that the lowest bit of x leaves at x's next k bits was x's k + 1 bits
  bit_back : (k r x : ℕ) → k ≤ v → r < 2 ^ suc v → crc_bit mask r (bit_of x 0) ≡ x / 2 % 2 ^ k → r ≡ x % 2 ^ suc k
  bit_back k r x h hr left = ⊎_elim parted met (part_or_meet (bit_of r 0) (bit_of x 0))
    where
      parted : xor (bit_of r 0) (bit_of x 0) ≡ true → r ≡ x % 2 ^ suc k
      parted p =
          let half : r / 2 < 2 ^ v = omega (arith, rw (pow-succ' 2 v) at hr) in
          let small : x / 2 % 2 ^ k < 2 ^ v = lt_of_lt_of_le (mod-lt (x / 2) (pow_pos k)) (pow_mono h) in
          absurd (xor_top half (rw (← bit_other mask r (bit_of x 0) p, left) small))

      met : bit_of r 0 ≡ bit_of x 0 → r ≡ x % 2 ^ suc k
      met p =
          let halves : r / 2 ≡ x / 2 % 2 ^ k = sym (bit_same mask r) ∙ ap (crc_bit mask r) p ∙ left in
          let lows = same_low r x p in
          omega (arith, rw add-one at (mod-pow-add x k 1))

  -- k bits, at most the width, that leave 0 were the register
  pub bits_zero : (k r x : ℕ) → k ≤ suc v → r < 2 ^ suc v → crc_bits mask r (bits_of k x) ≡ 0 → r ≡ x % 2 ^ k
  unfolding crc_bits bits_of
  bits_zero zero r x h hr e = e ∙ sym (mod-one x)
  bits_zero (suc k) r x h hr e =
      let s = crc_bit mask r (bit_of x 0) in
      bit_back k r x (le_of_suc-le-suc h) hr
      (bits_zero k s (x / 2) (omega arith) (bit_lt (suc v) fits (bit_of x 0) hr) e)

-- ---- CRC-16

pub mask16_lt : mask16 < 2 ^ 16
unfolding mask16 taps
mask16_lt = omega arith

-- a message and its two CRC bytes, not inverted
pub crc16_message : (bytes : List ℕ) → crc16_run 0 (bytes ++ bytes_of 2 (crc16_run 0 bytes)) ≡ 0
crc16_message = run_message 2 mask16_lt (omega arith)

-- which are the two bytes sent, inverted again
pub sent_inverted : (r : ℕ) → (255 - sent_low r) ∷ (255 - sent_high r) ∷ [] ≡ bytes_of 2 r
unfolding sent_low sent_high bytes_of
sent_inverted r =
    let low : 255 - (255 - r % 256) ≡ r % 256 = omega arith in
    let high : 255 - (255 - r / 256 % 256) ≡ r / 256 % 256 = omega arith in
    rw (low, high)

-- ---- CRC-8

pub mask8_lt : mask8 < 2 ^ 8
unfolding mask8 taps
mask8_lt = omega arith

mask8_top : 2 ^ 7 ≤ mask8
unfolding mask8 taps
mask8_top = omega arith

pub crc8_lt : (number : ℕ) → crc8_of number < 2 ^ 8
unfolding crc8_of
crc8_lt number = bits_lt 8 mask8_lt (bits_of 56 number) (omega arith)

-- it is the run of the first seven bytes
pub crc8_bytes : (number : ℕ) → crc8_of number ≡ crc_run mask8 0 (bytes_of 7 number)
unfolding crc8_of
crc8_bytes number = sym (run_number mask8 0 7 number)

-- a message and its CRC byte
pub crc8_message : (bytes : List ℕ) → crc_run mask8 0 (bytes ++ bytes_of 1 (crc_run mask8 0 bytes)) ≡ 0
crc8_message = run_message 1 mask8_lt (omega arith)

-- all eight bytes of a number: its eighth after the CRC of the others
eighth : (number : ℕ) → crc_run mask8 0 (bytes_of 8 number) ≡ crc_bits mask8 (crc8_of number) (bits_of 8 (number / 2 ^ 56))
unfolding crc8_of
eighth number = run_number mask8 0 8 number ∙ rw (bits_add 56 8 number) (bits_join mask8 0 (bits_of 56 number) (bits_of 8 (number / 2 ^ 56)))

-- a number's CRC is right exactly if the run of all its eight bytes leaves 0
pub good_crc_lem : (number : ℕ) → good_crc number ≡ true ↔ crc_run mask8 0 (bytes_of 8 number) ≡ 0
unfolding good_crc
good_crc_lem number = (there, back)
  where
    there : good_crc number ≡ true → crc_run mask8 0 (bytes_of 8 number) ≡ 0
    there e =
        rw (eighth, ← bits_mod 8 (number / 2 ^ 56), ← eqb-true (crc8_of number) (number / 2 ^ 56 % 256) e)
        (bits_own mask8 8 (crc8_lt number))

    back : crc_run mask8 0 (bytes_of 8 number) ≡ 0 → good_crc number ≡ true
    back e =
        eq-eqb (crc8_of number) (number / 2 ^ 56 % 256)
        (bits_zero 7 mask8_lt mask8_top 8 (crc8_of number) (number / 2 ^ 56) (omega arith) (crc8_lt number) (sym (eighth number) ∙ e))

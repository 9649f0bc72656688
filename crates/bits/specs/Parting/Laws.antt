-- Where two numbers part is the least bit in which they differ, and the trailing zeros of their XOR. Assumes nothing.
use Rattle.std.specs.Prelude.{Bool, true, false, ◌≢◌, ◌≡◌, refl, ℕ, zero, suc, ◌+◌, ◌*◌, ◌/◌, ◌%◌, ◌^◌, ◌≤◌, ◌<◌, if◌then◌else◌}
use Rattle.std.specs.Bool.{beq}
use Rattle.std.proofs.Common.{true≢false, sym, ap, ◌∙◌, le_of_suc-le-suc, not-suc-le-zero, arith}
use Rattle.std.proofs.lemmas.Bool.{false≢true}
use Rattle.std.proofs.Math.Nat.{pow-succ'}
use Rattle.std.specs.Int.Bits.{bit_xor, xor_step, differ}
use Rattle.std.specs.Int.Count.{under, count_trailing_zeros}
use Rattle.bits.specs.Bits.{digit, bit_of}
use Rattle.bits.specs.Bits.Laws.{bit_suc, digit_bit}
use Rattle.bits.specs.Parting.{parting_of}

-- ---- the least bit in which they differ

pub parting_le : (w a b : ℕ) → parting_of w a b ≤ w
unfolding parting_of
parting_le zero a b = omega arith
parting_le (suc w) a b = by (beq (bit_of a 0) (bit_of b 0)) (parting_le w (a / 2) (b / 2))
  where
    by : (same : Bool) → parting_of w (a / 2) (b / 2) ≤ w → (if same then suc (parting_of w (a / 2) (b / 2)) else 0) ≤ suc w
    by true rest = omega (arith, rest)
    by false rest = omega arith

-- below it they are the same
pub parting_same : (w a b i : ℕ) → i < parting_of w a b → bit_of a i ≡ bit_of b i
unfolding parting_of
parting_same zero a b i h = absurd (not-suc-le-zero h)
parting_same (suc w) a b i h = by (bit_of a 0) (bit_of b 0) refl refl i (λ j. parting_same w (a / 2) (b / 2) j) h
  where
    by : (p q : Bool) → bit_of a 0 ≡ p → bit_of b 0 ≡ q → (i : ℕ) → ((j : ℕ) → j < parting_of w (a / 2) (b / 2) → bit_of (a / 2) j ≡ bit_of (b / 2) j) →
        i < (if beq p q then suc (parting_of w (a / 2) (b / 2)) else 0) → bit_of a i ≡ bit_of b i
    by true false ea eb i rest h = absurd (not-suc-le-zero h)
    by false true ea eb i rest h = absurd (not-suc-le-zero h)
    by true true ea eb zero rest h = ea ∙ sym eb
    by false false ea eb zero rest h = ea ∙ sym eb
    by true true ea eb (suc i) rest h = bit_suc a i ∙ rest i (le_of_suc-le-suc h) ∙ sym (bit_suc b i)
    by false false ea eb (suc i) rest h = bit_suc a i ∙ rest i (le_of_suc-le-suc h) ∙ sym (bit_suc b i)

-- and there they are not
pub parting_differs : (w a b : ℕ) → parting_of w a b < w → bit_of a (parting_of w a b) ≢ bit_of b (parting_of w a b)
unfolding parting_of
parting_differs zero a b h = absurd (not-suc-le-zero h)
parting_differs (suc w) a b h = by (bit_of a 0) (bit_of b 0) refl refl (parting_differs w (a / 2) (b / 2)) h
  where
    at : ℕ
    at = parting_of w (a / 2) (b / 2)

    deeper : (at < w → bit_of (a / 2) at ≢ bit_of (b / 2) at) → suc at < suc w → bit_of a (suc at) ≢ bit_of b (suc at)
    deeper rest h e = rest (le_of_suc-le-suc h) (sym (bit_suc a at) ∙ e ∙ bit_suc b at)

    by : (p q : Bool) → bit_of a 0 ≡ p → bit_of b 0 ≡ q → (at < w → bit_of (a / 2) at ≢ bit_of (b / 2) at) →
        (if beq p q then suc at else 0) < suc w →
        bit_of a (if beq p q then suc at else 0) ≢ bit_of b (if beq p q then suc at else 0)
    by true false ea eb rest h e = true≢false (sym ea ∙ e ∙ eb)
    by false true ea eb rest h e = false≢true (sym ea ∙ e ∙ eb)
    by true true ea eb rest h e = deeper rest h e
    by false false ea eb rest h e = deeper rest h e

-- ---- equal numbers

pub parting_equal : (w a : ℕ) → parting_of w a a ≡ w
unfolding parting_of
parting_equal zero a = refl
parting_equal (suc w) a = by (bit_of a 0) (parting_equal w (a / 2))
  where
    by : (p : Bool) → parting_of w (a / 2) (a / 2) ≡ w → (if beq p p then suc (parting_of w (a / 2) (a / 2)) else 0) ≡ suc w
    by true rest = ap suc rest
    by false rest = ap suc rest

-- numbers of w bits that part nowhere are equal
pub parting_none : (w : ℕ) {a b : ℕ} → a < 2 ^ w → b < 2 ^ w → parting_of w a b ≡ w → a ≡ b
unfolding parting_of
parting_none zero {a} {b} ha hb e = omega (arith, ha, hb)
parting_none (suc w) {a} {b} ha hb e =
    let half : (n : ℕ) → n < 2 ^ suc w → n / 2 < 2 ^ w = λ n h. omega (arith, h, pow-succ' 2 w) in
    by (bit_of a 0) (bit_of b 0) refl refl (parting_none w (half a ha) (half b hb)) e
  where
    joined : digit (bit_of a 0) ≡ digit (bit_of b 0) → a / 2 ≡ b / 2 → a ≡ b
    joined low high = omega (arith, sym (digit_bit a) ∙ low ∙ digit_bit b, high)

    by : (p q : Bool) → bit_of a 0 ≡ p → bit_of b 0 ≡ q → (parting_of w (a / 2) (b / 2) ≡ w → a / 2 ≡ b / 2) →
        (if beq p q then suc (parting_of w (a / 2) (b / 2)) else 0) ≡ suc w → a ≡ b
    by true false ea eb rest e = absurd (omega (arith, e))
    by false true ea eb rest e = absurd (omega (arith, e))
    by true true ea eb rest e = joined (ap digit (ea ∙ sym eb)) (rest (omega (arith, e)))
    by false false ea eb rest e = joined (ap digit (ea ∙ sym eb)) (rest (omega (arith, e)))

-- ---- the trailing zeros of their XOR

pub trailing_parting : (w a b : ℕ) → count_trailing_zeros w (bit_xor a b) ≡ parting_of w a b
unfolding parting_of count_trailing_zeros
trailing_parting zero a b = refl
trailing_parting (suc w) a b = by (bit_of a 0) (bit_of b 0) refl refl (trailing_parting w (a / 2) (b / 2))
  where
    rest : ℕ
    rest = bit_xor (a / 2) (b / 2)

    -- the digit that they make, and what is above it
    made : (p q : Bool) → bit_of a 0 ≡ p → bit_of b 0 ≡ q → bit_xor a b ≡ rest * 2 + differ (digit p) (digit q)
    made p q ea eb =
        xor_step a b ∙ (λ i. rest * 2 + differ ((sym (digit_bit a) ∙ ap digit ea) i) ((sym (digit_bit b) ∙ ap digit eb) i))

    same : bit_xor a b ≡ rest * 2 + 0 → count_trailing_zeros w rest ≡ parting_of w (a / 2) (b / 2) →
        under (bit_xor a b % 2) (count_trailing_zeros w (bit_xor a b / 2)) ≡ suc (parting_of w (a / 2) (b / 2))
    same e onward =
        let even : bit_xor a b % 2 ≡ 0 = omega (arith, e) in
        let above : bit_xor a b / 2 ≡ rest = omega (arith, e) in
        rw (even, above) (ap suc onward)

    by : (p q : Bool) → bit_of a 0 ≡ p → bit_of b 0 ≡ q → count_trailing_zeros w rest ≡ parting_of w (a / 2) (b / 2) →
        under (bit_xor a b % 2) (count_trailing_zeros w (bit_xor a b / 2)) ≡ (if beq p q then suc (parting_of w (a / 2) (b / 2)) else 0)
    by true true ea eb onward = same (made true true ea eb) onward
    by false false ea eb onward = same (made false false ea eb) onward
    by true false ea eb onward = let odd : bit_xor a b % 2 ≡ 1 = omega (arith, made true false ea eb) in rw odd refl
    by false true ea eb onward = let odd : bit_xor a b % 2 ≡ 1 = omega (arith, made false true ea eb) in rw odd refl

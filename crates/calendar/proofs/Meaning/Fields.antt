-- One field's step in plain numbers, for any lowest and last value that are BCD. Assumes nothing.
use Rattle.std.specs.Prelude.{◌≡◌, true, false, ◌⊎◌, ℕ, zero, suc, ◌+◌, ◌*◌, ◌/◌, ◌%◌, ◌≤◌, ◌<◌, T, leb, eqb}
use Rattle.std.proofs.Common.{ap, ◌∙◌, inl, inr, ⊎_elim, le_of_suc-le-suc, not-suc-le-zero, arith, eqb→eq, lit≤}
use Rattle.std.proofs.Math.Decide.{dec_lt}
use Rattle.calendar.specs.Calendar.{decimal, Digits, plus_one, step_field}
use Rattle.calendar.proofs.Calendar.Laws.{Between, plus_one_lem, step_last, step_on}
use Rattle.calendar.specs.Meaning.{Writes}

-- ---- BCD bytes in the order of their numbers

pub decimal_lt : {a b : ℕ} → Digits a → a < b → decimal a < decimal b
unfolding decimal
decimal_lt {a} {b} d h = go (dec_lt (a / 16) (b / 16))
  where
    go : Dec (a / 16 < b / 16) → 10 * (a / 16) + a % 16 < 10 * (b / 16) + b % 16
    go (yes l) = omega arith
    go (no n) = omega arith

-- a number has one BCD byte
pub decimal_injective : {a b : ℕ} → Digits a → Digits b → decimal a ≡ decimal b → a ≡ b
decimal_injective {a} {b} d f e =
    let not-less : ¬ (a < b) = λ h. omega (arith, decimal_lt d h) in
    let not_more : ¬ (b < a) = λ h. omega (arith, decimal_lt f h) in
    omega arith

decimal_le : {a b : ℕ} → Digits b → decimal a ≤ decimal b → a ≤ b
decimal_le {a} {b} f e =
    let not_more : ¬ (b < a) = λ h. omega (arith, decimal_lt f h) in
    omega arith

pub decimal_plus_one : {byte : ℕ} → Digits byte → decimal (plus_one byte) ≡ decimal byte + 1
unfolding decimal
decimal_plus_one {byte} d = ⊎_elim (λ n. rw n.1 (omega arith)) (λ n. rw n.1 (omega arith)) (plus_one_lem byte)

digits_plus_one : {last byte : ℕ} → Digits last → Digits byte → byte < last → Digits (plus_one byte)
digits_plus_one {last} {byte} h d b = ⊎_elim (λ n. rw n.1 (omega arith)) (λ n. rw n.1 (omega arith)) (plus_one_lem byte)

-- ---- bytes that are written out

-- the BCD byte of a number
pub record Spells (number byte : ℕ) : Type 0 where
  pub digits : Digits byte
  pub value : decimal byte ≡ number

pub spelled : {number byte : ℕ} → T (leb (byte / 16) 9) → T (leb (byte % 16) 9) → T (eqb (10 * (byte / 16) + byte % 16) number) → Spells number byte
unfolding decimal
spelled t o e = record { digits = record { tens = lit≤ t; ones = lit≤ o }; value = eqb→eq _ _ e }

pub written : {low high byte : ℕ} →
    T (leb (byte / 16) 9) → T (leb (byte % 16) 9) → T (leb low (10 * (byte / 16) + byte % 16)) → T (leb (10 * (byte / 16) + byte % 16) high) → Writes low high byte
unfolding decimal
written t o a b = record { digits = record { tens = lit≤ t; ones = lit≤ o }; above = lit≤ a; below = lit≤ b }

-- a bit is 0 or 1
pub by_bit : (P : ℕ → Type 0) → P 0 → P 1 → (bit : ℕ) → bit ≤ 1 → P bit
by_bit P p q zero h = p
by_bit P p q (suc zero) h = q
by_bit P p q (suc (suc bit)) h = absurd (not-suc-le-zero (le_of_suc-le-suc h))

-- ---- the step of a field that writes a number from low to high

-- at its last value, it returns to its lowest
pub record Returns (high lowest last byte : ℕ) : Type 0 where
  pub at_last : decimal byte ≡ high
  pub stepped : step_field lowest last byte ≡ record { byte = lowest; carry = true }

-- else it writes one more
pub record GoesOn (low high lowest last byte : ℕ) : Type 0 where
  pub stepped : step_field lowest last byte ≡ record { byte = plus_one byte; carry = false }
  pub counts : decimal (plus_one byte) ≡ decimal byte + 1
  pub writes : Writes low high (plus_one byte)

module _ {low high lowest last byte : ℕ} (l : Spells low lowest) (h : Spells high last) (w : Writes low high byte) where
  pub writes_between : Between lowest last byte
  writes_between =
      record {
        digits = w.digits;
        above = decimal_le w.digits (rw l.value w.above);
        below = decimal_le h.digits (rw h.value w.below);
      }

  pub step_writes : Returns high lowest last byte ⊎ GoesOn low high lowest last byte
  step_writes = go (dec_lt byte last)
    where
      go : Dec (byte < last) → Returns high lowest last byte ⊎ GoesOn low high lowest last byte
      go (yes before) =
          let counts = decimal_plus_one w.digits in
          let less = rw h.value at (decimal_lt w.digits before) in
          inr (record {
            stepped = step_on writes_between before;
            counts = counts;
            writes = record { digits = digits_plus_one h.digits w.digits before; above = omega (arith, w.above, counts); below = omega (arith, less, counts) };
          })
      go (no n) =
          let same : byte ≡ last = omega (arith, writes_between.below) in
          inl (record { at_last = ap decimal same ∙ h.value; stepped = rw same (step_last lowest last) })

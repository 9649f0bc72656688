-- A test that is computed at every number below a bound, and what it shows of each: how a table's rule is proved once for
-- the whole table. Assumes nothing.
use Rattle.std.specs.Prelude.{◌≡◌, refl, Bool, true, false, ◌&&◌, ℕ, zero, suc, ◌<◌, T}
use Rattle.std.proofs.Common.{subst, sym, ap, ◌∙◌, true≢false, ⊎_elim, eq-or-lt_of_le, le_of_suc-le-suc, not-suc-le-zero, arith}
use Rattle.std.proofs.Math.Bool.{and_comm}
use Rattle.std.specs.Float.Ieee.Fits.{and_l, and_r}

-- the test passes at each number below n
abbrev pub each : ℕ → (ℕ → Bool) → Bool
each zero f = true
each (suc n) f = f n && each n f

-- and at each pair of numbers below n
abbrev pub each_pair : ℕ → (ℕ → ℕ → Bool) → Bool
each_pair n f = each n (λ i. each n (f i))

pub each_at : (n : ℕ) (f : ℕ → Bool) → T (each n f) → (k : ℕ) → k < n → T (f k)
each_at zero f t k h = absurd (not-suc-le-zero h)
each_at (suc n) f t k h =
    ⊎_elim (λ e. subst (λ (i : ℕ). T (f i)) (sym e) (and_l (f n) (each n f) t))
    (λ lt. each_at n f (and_r (f n) (each n f) t) k lt)
    (eq-or-lt_of_le (le_of_suc-le-suc h))

pub each_pair_at : (n : ℕ) (f : ℕ → ℕ → Bool) → T (each_pair n f) → (i j : ℕ) → i < n → j < n → T (f i j)
each_pair_at n f t i j hi hj = each_at n (f i) (each_at n (λ k. each n (f k)) t i hi) j hj

-- ---- as an equation: the test passes at all of them, or fails at one

pub each_true : (n : ℕ) (f : ℕ → Bool) → ((k : ℕ) → k < n → f k ≡ true) → each n f ≡ true
each_true zero f h = refl
each_true (suc n) f h = rw (h n (omega arith), each_true n f (λ k lt. h k (omega arith)))

pub each_false : (n : ℕ) (f : ℕ → Bool) (k : ℕ) → k < n → f k ≡ false → each n f ≡ false
each_false zero f k h e = absurd (not-suc-le-zero h)
each_false (suc n) f k h e =
    ⊎_elim (λ same. ap (λ (b : Bool). b && each n f) (ap f (sym same) ∙ e)) (λ lt. below (f n) (each_false n f k lt e))
    (eq-or-lt_of_le (le_of_suc-le-suc h))
  where
    below : (b : Bool) → each n f ≡ false → (b && each n f) ≡ false
    below true e = e
    below false e = refl

pub each_holds : (n : ℕ) (f : ℕ → Bool) → each n f ≡ true → (k : ℕ) → k < n → f k ≡ true
each_holds n f e k h = by (f k) refl
  where
    by : (b : Bool) → f k ≡ b → f k ≡ true
    by true p = p
    by false p = absurd (true≢false (sym e ∙ each_false n f k h p))

-- where it fails
pub record Fails (n : ℕ) (f : ℕ → Bool) : Type 0 where
  pub at : ℕ
  pub below : at < n
  pub fails : f at ≡ false

pub each_fails : (n : ℕ) (f : ℕ → Bool) → each n f ≡ false → Fails n f
each_fails zero f e = absurd (true≢false e)
each_fails (suc n) f e = by (f n) refl (each_fails n f) e
  where
    wider : Fails n f → Fails (suc n) f
    wider p = record { at = p.at; below = omega (arith, p.below); fails = p.fails }

    by : (b : Bool) → f n ≡ b → (each n f ≡ false → Fails n f) → (b && each n f) ≡ false → Fails (suc n) f
    by true p rest q = wider (rest q)
    by false p rest q = record { at = n; below = omega arith; fails = p }

-- tests that agree below n pass together
pub each_same : (n : ℕ) (f g : ℕ → Bool) → ((k : ℕ) → k < n → f k ≡ g k) → each n f ≡ each n g
each_same zero f g h = refl
each_same (suc n) f g h = λ i. h n (omega arith) i && each_same n f g (λ k lt. h k (omega arith)) i

-- one more of them is tested
pub each_next : (n : ℕ) (f : ℕ → Bool) (so next : Bool) → so ≡ each n f → next ≡ f n → (so && next) ≡ each (suc n) f
each_next n f so next p q = rw (p, q) (and_comm (each n f) (f n))

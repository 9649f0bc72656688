-- Running sums, for any terms: they grow, and a sum with a part of its next term is told apart from every other. Assumes nothing.
use Rattle.std.specs.Prelude.{◌≡◌, ℕ, suc, ◌+◌, ◌≤◌, ◌<◌}
use Rattle.std.proofs.Math.Path.{refl}
use Rattle.std.proofs.Common.{sym, ap, le_refl, arith}
use Rattle.std.proofs.Math.Decide.{le_ind}
use Rattle.calendar.specs.Meaning.{sum_below}

module _ (f : ℕ → ℕ) where
  pub sum_suc : (n : ℕ) → sum_below f (suc n) ≡ sum_below f n + f n
  unfolding sum_below
  sum_suc n = refl

  pub sum_grows : {n : ℕ} (m : ℕ) → n ≤ m → sum_below f n ≤ sum_below f m
  sum_grows {n} m h = le_ind (λ m. sum_below f n ≤ sum_below f m) (le_refl _) (λ m _ ih. omega (arith, sum_suc m)) m h

  -- what is left over falls short of the next term, so no fewer terms can make up for it
  short : (n m a b : ℕ) → a < f n → sum_below f n + a ≡ sum_below f m + b → n < m → ⊥
  short n m a b h e l = omega (arith, sum_suc n, sum_grows m l)

  -- so the sum and the part tell how many terms there are
  pub sum_terms : (n m a b : ℕ) → a < f n → b < f m → sum_below f n + a ≡ sum_below f m + b → (n ≡ m) × (a ≡ b)
  sum_terms n m a b h k e =
      let same : n ≡ m = omega (arith, short n m a b h e, short m n b a k (sym e)) in
      (same, omega (arith, e, ap (sum_below f) same))

-- Laws of tests that are joined, beside the library's. Assumes nothing.
use Rattle.std.specs.Prelude.{◌≡◌, refl, Bool, true, false, ◌||◌, ◌⊎◌, T}
use Rattle.std.specs.Bool.{beq}
use Rattle.std.proofs.Common.{inl, inr, ⊎_elim}

-- neither of two passes
pub neither : (a b : Bool) → (a || b) ≡ false → (a ≡ false) × (b ≡ false)
neither true b e = (e, cc)
neither false b e = (refl, e)

-- one of two passes
pub or_cases : (p q : Bool) → T (p || q) → T p ⊎ T q
or_cases true q t = inl tt
or_cases false q t = inr t

pub or_of : (p q : Bool) → T p ⊎ T q → T (p || q)
or_of true q h = tt
or_of false q h = ⊎_elim (λ t. absurd t) (λ t. t) h

-- two that are found equal
pub beq_eq : (a b : Bool) → T (beq a b) → a ≡ b
beq_eq true true t = refl
beq_eq true false t = absurd t
beq_eq false true t = absurd t
beq_eq false false t = refl

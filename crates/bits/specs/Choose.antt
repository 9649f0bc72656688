-- A choice between two values, written as a reader says it, and its laws. Assumes nothing.
use Rattle.std.specs.Prelude.{Bool, true, false, ◌≡◌, refl, if◌then◌else◌}

-- what holds of both, each where it is chosen, holds of the choice between them
pub either : {A : Type 0} (P : A → Type 0) (test : Bool) {a b : A} → (test ≡ true → P a) → (test ≡ false → P b) →
    P (if test then a else b)
either P true p q = p refl
either P false p q = q refl

-- what holds of both in any case holds of the choice, and of two choices by one test
pub choice : {A : Type 0} (P : A → Type 0) (test : Bool) {a b : A} → P a → P b → P (if test then a else b)
choice P test p q = either P test (λ e. p) (λ e. q)

pub choices : {A B : Type 0} (P : A → B → Type 0) (test : Bool) {a b : A} {c d : B} → P a c → P b d →
    P (if test then a else b) (if test then c else d)
choices P true p q = p
choices P false p q = q

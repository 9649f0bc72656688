-- What a mission's definitions say of each other. Assumes nothing.
use Rattle.std.specs.Prelude.{◌≡◌, List, ℕ, ◌<◌, ◌≤◌}
use Rattle.std.proofs.Common.{arith}
use Rattle.bits.specs.Choose.{choice}
use Rattle.image.specs.Registers.{rate, ehss}
use Rattle.mission.specs.Mission.{period_of, period}

-- with a rate there is a period
pub period_pos : (image : List ℕ) → (rate image ≡ 0 → ⊥) → 0 < period image
unfolding period period_of
period_pos image h = choice (λ (n : ℕ). 0 < n) (ehss image) (omega arith) (omega arith)

-- "rate 16383 in minutes: 982,980 s" is the longest period
pub period_le : (image : List ℕ) → period image ≤ 982980
unfolding period period_of
period_le image = choice (λ (n : ℕ). n ≤ 982980) (ehss image) (omega arith) (omega arith)

-- Digits stored in a list, from the last one back. Assumes nothing.
use Rattle.std.specs.Prelude.{◌≡◌, refl, List, [], ◌∷◌, ◌++◌, ℕ, zero, suc, ◌+◌, ◌-◌, ◌/◌, ◌≤◌, ◌<◌, length, take, drop, set}
use Rattle.std.proofs.Common.{ap, ◌∙◌, arith}
use Rattle.std.proofs.lemmas.List.Edits.{sets, sets-eq}
use Rattle.std.proofs.lemmas.List.{set_comm}
use Rattle.bits.specs.Stores.{sets_join}
pub use Rattle.bits.specs.Stores.{sets_past}
use Rattle.hexadecimal.specs.Hex.{hex_digit, hex_of}
use Rattle.hexadecimal.specs.Hex.Laws.{length_hex}

-- a store past a run of stores may as well come before it
pub sets_set : (l : List ℕ) (i : ℕ) (vs : List ℕ) (j a : ℕ) → i + length vs ≤ j → set (sets l i vs) j a ≡ sets (set l j a) i vs
sets_set l i [] j a h = refl
sets_set l i (v ∷ vs) j a h =
    sets_set (set l i v) (suc i) vs j a (omega arith)
    ∙ ap (λ (m : List ℕ). sets m (suc i) vs) (set_comm l i j v a (omega arith))

-- the last digit first, then those before it
pub put_last : (out : List ℕ) (at count n : ℕ) → 0 < count
    → sets out at (hex_of count n) ≡ sets (set out (at + (count - 1)) (hex_digit n)) at (hex_of (count - 1) (n / 16))
unfolding hex_of
put_last out at zero n h = absurd (omega arith)
put_last out at (suc count) n h =
    let less : suc count - 1 ≡ count = omega arith in
    let before = hex_of count (n / 16) in
    rw (
      less,
      sets_join out at before (hex_digit n ∷ []),
      sets_set out at before (at + length before) (hex_digit n) (omega arith),
      length_hex count (n / 16),
    )

pub put_none : (out : List ℕ) (at count n : ℕ) → count ≤ 0 → sets out at (hex_of count n) ≡ out
unfolding hex_of
put_none out at zero n h = refl
put_none out at (suc count) n h = absurd (omega arith)

-- where there is room, the digits stand in their place and the rest stays
pub put_fits : (out : List ℕ) (at count n : ℕ) → at + count ≤ length out
    → sets out at (hex_of count n) ≡ take at out ++ hex_of count n ++ drop (at + count) out
put_fits out at count n h =
    let long : length (hex_of count n) ≡ count = length_hex count n in
    rw long at (sets-eq (hex_of count n) out at (rw long h))

-- A list in parts of one width, one behind the other: that at a place, as code lends it. Assumes nothing.
use Rattle.std.specs.Prelude.{◌≡◌, List, ℕ, ◌+◌, ◌*◌, ◌-◌, ◌≤◌, length, take, drop}
use Rattle.std.proofs.Common.{ap, arith, length-drop, length-take-le}

module _ {A : Type 0} (width : ℕ) (l : List A) (place : ℕ) where
  -- `&l[from..from + width]` from `place * width` on
  pub part_lent : take (place * width + width - place * width) (drop (place * width) l) ≡ take width (drop (place * width) l)
  part_lent =
      let n : place * width + width - place * width ≡ width = omega arith in
      ap (λ (n : ℕ). take n (drop (place * width) l)) n

  pub length_part : place * width + width ≤ length l → length (take width (drop (place * width) l)) ≡ width
  length_part has = length-take-le width (drop (place * width) l) (omega (arith, length-drop (place * width) l, has))

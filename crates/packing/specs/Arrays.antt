-- What `array::from_fn` makes, by a closure that answers with one function of the place: that function's values in their order. Assumes
-- nothing.
use denote.Param.Members.{Mut, Called}
use Rattle.std.specs.Prelude.{◌≡◌, List, ℕ, zero, suc, ◌+◌, ◌<◌, length, get_or}
use Rattle.std.specs.Array.{IsFromFnResult, IsFromFnResultFrom}
use Rattle.std.proofs.Common.{◌∙◌, sym, ap, subst, add-zero, zero-add, arith}
use Rattle.std.proofs.lemmas.List.{ext_get_or}

module _ {F B : Type 0} (g : Mut F (ℕ × Unit {0}) B) (f : F) (h : ℕ → B) (steady : (i : ℕ) (y : B) (q : F) → Called g f (i, tt) y q → (q ≡ f) × (y ≡ h i)) where
  made_at : (ys : List B) (i n : ℕ) → IsFromFnResultFrom g f ys i n → (k : ℕ) → k < n → (d : B) → get_or ys (i + k) d ≡ h (i + k)
  made_at ys i zero made k lt d = absurd (omega arith)
  made_at ys i (suc n) made zero lt d =
      let answer = steady i made.1 made.0 made.3 in
      ap (λ (m : ℕ). get_or ys m d) (add-zero i) ∙ made.2.1 d ∙ answer.1 ∙ ap h (sym (add-zero i))
  made_at ys i (suc n) made (suc k) lt d =
      let answer = steady i made.1 made.0 made.3 in
      let rest = subst (λ (q : F). IsFromFnResultFrom g q ys (i + 1) n) answer.0 made.4 in
      let next : i + 1 + k ≡ i + suc k = omega arith in
      ap (λ (m : ℕ). get_or ys m d) (sym next) ∙ made_at ys (i + 1) n rest k (omega arith) d ∙ ap h next

  -- a list that has them is the one that is made
  pub made_is : (ys zs : List B) (n : ℕ) (d : B) → IsFromFnResult g f ys n → length zs ≡ n → ((k : ℕ) → k < n → get_or zs k d ≡ h k) → ys ≡ zs
  made_is ys zs n d made size values =
      ext_get_or d ys zs (made.long ∙ sym size)
      (λ k lt.
      let below : k < n = omega (arith, lt, made.long) in
      ap (λ (m : ℕ). get_or ys m d) (sym (zero-add k)) ∙ made_at ys 0 n made.each k below d ∙ ap h (zero-add k) ∙ sym (values k below))

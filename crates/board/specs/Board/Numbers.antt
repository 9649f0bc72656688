-- Two tags with the same number: how they are found, and what it means that there are none. Assumes nothing.
use Rattle.std.specs.Prelude.{◌≡◌, Bool, true, false, ◌||◌, List, ◌≢◌, ℕ, ◌<◌, eqb, length, get_or}
use Rattle.std.proofs.Common.{sym, ◌∙◌}
use Rattle.std.proofs.Math.Path.{ap}
use Rattle.std.proofs.Math.Bool.{not, true≢false}
use Rattle.std.proofs.lemmas.Bool.{false≢true}
use Rattle.std.proofs.Math.Logic.{dite}
use Rattle.std.proofs.Math.Decide.{ℕ_discrete}
use borrow.Author.Tests.{eqb-true, eq-eqb, ne_eqb, not-true, not-false}
use Rattle.bits.specs.Each.{each, each_true, each_false, each_holds, each_fails, each_same}
use Rattle.board.specs.Board.{same_number}

-- ---- one number among others

unfoldable pub stands_in : List ℕ → ℕ → Bool
stands_in numbers number = not (each (length numbers) (λ i. not (eqb (get_or numbers i 0) number)))

module _ (numbers : List ℕ) (number : ℕ) where
  pub stands_at : (i : ℕ) → i < length numbers → get_or numbers i 0 ≡ number → stands_in numbers number ≡ true
  unfolding stands_in
  stands_at i h e = ap not (each_false (length numbers) _ i h (rw (eq-eqb (get_or numbers i 0) number e)))

  pub stands_nowhere : ((i : ℕ) → i < length numbers → get_or numbers i 0 ≢ number) → stands_in numbers number ≡ false
  unfolding stands_in
  stands_nowhere h = ap not (each_true (length numbers) _ (λ i lt. rw (ne_eqb (get_or numbers i 0) number (h i lt))))

  pub stands_where : stands_in numbers number ≡ true → (i : ℕ) × (i < length numbers) × (get_or numbers i 0 ≡ number)
  unfolding stands_in
  stands_where e =
      let f = each_fails (length numbers) (λ i. not (eqb (get_or numbers i 0) number)) (not-true _ e) in
      (f.at, f.below, eqb-true _ _ (not-false _ f.fails))

  pub stands_not : stands_in numbers number ≡ false → (i : ℕ) → i < length numbers → get_or numbers i 0 ≢ number
  unfolding stands_in
  stands_not e i h same =
      true≢false
      (sym (each_holds (length numbers) (λ k. not (eqb (get_or numbers k 0) number)) (not-false _ e) i h)
      ∙ ap not (eq-eqb (get_or numbers i 0) number same))

-- ---- two of them

apart : (ℕ → ℕ) → ℕ → ℕ → Bool
apart number i j = eqb i j || not (eqb (number i) (number j))

apart_not : (number : ℕ → ℕ) (i j : ℕ) → i ≢ j → number i ≡ number j → apart number i j ≡ false
unfolding apart
apart_not number i j other same = rw (ne_eqb i j other, eq-eqb (number i) (number j) same)

apart_true : (number : ℕ → ℕ) (i j : ℕ) → (number i ≡ number j → i ≡ j) → apart number i j ≡ true
unfolding apart
apart_true number i j own =
    dite (ℕ_discrete i j) (λ same. rw (eq-eqb i j same)) (λ other. rw (ne_eqb i j other, ne_eqb (number i) (number j) (λ e. other (own e))))

-- two places have one number
pub same_found : (count : ℕ) (number : ℕ → ℕ) (i j : ℕ) → i < count → j < count → i ≢ j → number i ≡ number j →
    same_number count number ≡ true
unfolding same_number apart
same_found count number i j hi hj other same =
    ap not (each_false count _ i hi (each_false count (apart number i) j hj (apart_not number i j other same)))

-- no two have
pub same_none : (count : ℕ) (number : ℕ → ℕ) → ((i j : ℕ) → i < count → j < count → number i ≡ number j → i ≡ j) →
    same_number count number ≡ false
unfolding same_number apart
same_none count number own =
    ap not (each_true count _ (λ i hi. each_true count (apart number i) (λ j hj. apart_true number i j (own i j hi hj))))

pub own_numbers : (count : ℕ) (number : ℕ → ℕ) → same_number count number ≡ false →
    (i j : ℕ) → i < count → j < count → number i ≡ number j → i ≡ j
unfolding same_number apart
own_numbers count number e i j hi hj same =
    dite (ℕ_discrete i j) (λ own. own)
    (λ other. absurd (false≢true (sym (apart_not number i j other same)
    ∙ each_holds count (apart number i) (each_holds count _ (not-false _ e) i hi) j hj)))

-- it is a matter of the numbers below the count
pub same_numbers : (count : ℕ) (f g : ℕ → ℕ) → ((i : ℕ) → i < count → f i ≡ g i) → same_number count f ≡ same_number count g
unfolding same_number
same_numbers count f g h =
    ap not
    (each_same count _ _ (λ i hi. each_same count _ _ (λ j hj. λ k. eqb i j || not (eqb (h i hi k) (h j hj k)))))

-- A run of stores in a list (`sets` of lib.Seq), in parts, past the list's end, and in a part that is lent. Assumes nothing.
use Rattle.std.proofs.Math.Logic.{dite}
use Rattle.std.specs.Prelude.{◌≡◌, refl, List, [], ◌∷◌, ◌++◌, ℕ, suc, ◌+◌, ◌-◌, ◌≤◌, min, length, set, take, drop}
use Rattle.std.proofs.Common.{sym, ap, ◌∙◌, append-nil, append_assoc, add-zero, zero-add, add-suc, suc-add, arith, length-append, length-drop, take-append-drop, drop_of_length-le, take_all, drop-set-lt}
use Rattle.std.proofs.Math.Decide.{dec_le}
use Rattle.std.proofs.lemmas.List.Edits.{sets, sets-eq}
use Rattle.std.proofs.Math.Seq.{set_out, take-set-lt, drop-length, drop-append-add}
use Rattle.std.proofs.lemmas.List.{take-set-le, drop-set-add}

module _ {A : Type 0} where
  -- one run behind another
  pub sets_join : (l : List A) (i : ℕ) (vs ws : List A) → sets l i (vs ++ ws) ≡ sets (sets l i vs) (i + length vs) ws
  sets_join l i [] ws = rw add-zero
  sets_join l i (v ∷ vs) ws = rw (sets_join (set l i v) (suc i) vs ws, suc-add, add-suc)

  -- nothing is stored past the end
  pub sets_past : (l : List A) (i : ℕ) (vs : List A) → length l ≤ i → sets l i vs ≡ l
  sets_past l i [] h = refl
  sets_past l i (v ∷ vs) h = rw (set_out l i v h) (sets_past l (suc i) vs (omega arith))

  -- as many as there are places, and what was there is gone
  pub sets_whole : (l vs : List A) → length vs ≡ length l → sets l 0 vs ≡ vs
  sets_whole l vs e = rw (sets-eq vs l 0 (omega arith), zero-add, e, drop-length l) (append-nil vs)

  -- two runs into two lists that are joined
  pub sets_append : (l m vs ws : List A) → length vs ≡ length l → length ws ≤ length m →
      sets (l ++ m) 0 (vs ++ ws) ≡ sets l 0 vs ++ sets m 0 ws
  sets_append l m vs ws e h =
      let both : 0 + length (vs ++ ws) ≤ length (l ++ m) = rw (length-append vs ws, length-append l m) (omega arith) in
      let at-end = sets-eq (vs ++ ws) (l ++ m) 0 both in
      rw (sets_whole l vs e, sets-eq ws m 0 (omega arith), zero-add)
      (rw (zero-add, length-append vs ws, e, drop-append-add l m (length ws), append_assoc vs ws) at at-end)

  -- a run of stores in what lies behind a place
  sets_behind : (l : List A) (n i : ℕ) (vs : List A) → take n l ++ sets (drop n l) i vs ≡ sets l (n + i) vs
  sets_behind l n i [] = take-append-drop n l
  sets_behind l n i (v ∷ vs) =
      rw (← drop-set-add n l i v, ← take-set-le n l (n + i) v (omega arith))
      (sets_behind (set l (n + i) v) n (suc i) vs ∙ ap (λ (k : ℕ). sets (set l (n + i) v) k vs) (add-suc n i))

  -- from a place on, or from the end where there is none, in the part that the code lends
  pub sets_from : (l : List A) (at from : ℕ) → from ≡ min at (length l) → (vs : List A) →
      take from l ++ (sets (take (length l - from) (drop from l)) 0 vs ++ drop (length l - from) (drop from l)) ≡ sets l at vs
  sets_from l at from clipped vs =
      let all : length (drop from l) ≤ length l - from = omega (arith, length-drop from l) in
      rw (take_all (length l - from) (drop from l) all, drop_of_length-le (drop from l) all, append-nil (sets (drop from l) 0 vs))
      (sets_behind l from 0 vs
      ∙ dite (dec_le at (length l)) (λ there. let n : from + 0 ≡ at = omega (arith, clipped, there) in ap (λ (k : ℕ). sets l k vs) n)
      (λ past. sets_past l (from + 0) vs (omega (arith, clipped, past)) ∙ sym (sets_past l at vs (omega (arith, past)))))

  -- a run of stores in what lies before a place
  pub sets_front : (n : ℕ) (l : List A) (i : ℕ) (vs : List A) → i + length vs ≤ n → sets (take n l) i vs ++ drop n l ≡ sets l i vs
  sets_front n l i [] h = take-append-drop n l
  sets_front n l i (v ∷ vs) h =
      rw (← take-set-lt n l i v (omega arith), ← drop-set-lt n l i v (omega arith)) (sets_front n (set l i v) (suc i) vs (omega arith))

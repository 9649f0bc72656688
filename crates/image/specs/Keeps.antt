-- A frame: what a change leaves. The bytes that it may touch are runs, each a place and a count; on numerals the tests
-- compute, and `tt` closes them. Assumes nothing.
use Rattle.std.specs.Prelude.{◌≡◌, refl, Bool, true, false, ◌&&◌, ◌||◌, List, [], ◌∷◌, ℕ, ◌+◌, ◌≤◌, ◌<◌, T, leb, length, get_or, set}
use Rattle.std.proofs.Common.{◌∙◌, ⊎_elim, arith, leb→le, length-set}
use Rattle.std.specs.Float.Ieee.Fits.{and_l, and_r, and_i}
use Rattle.bits.specs.Tests.{or_cases}
use Rattle.image.specs.Fields.{word_at, put_word, flag_at, put_flag, apart}
use Rattle.image.specs.Fields.Laws.{apart_sym, apart_part, byte_set_other, word_same}
use Rattle.image.specs.Fields.Laws.{length_put_word, byte_put_word_other, length_put_flag, byte_put_flag_other}

-- a place and a count of bytes
abbrev pub Run : Type 0
Run = ℕ × ℕ

-- the second run lies inside the first
abbrev pub inside : Run → Run → Bool
inside s r = leb s.0 r.0 && leb (r.0 + r.1) (s.0 + s.1)

-- none of the n bytes from `at` on lies in a run
abbrev pub free : List Run → ℕ → ℕ → Bool
free [] at n = true
free (r ∷ rs) at n = apart r.0 r.1 at n && free rs at n

-- the run r lies inside one of these
abbrev pub covers : List Run → Run → Bool
covers [] r = false
covers (s ∷ ss) r = inside s r || covers ss r

-- and so does each of the second list
abbrev pub covers_all : List Run → List Run → Bool
covers_all ss [] = true
covers_all ss (r ∷ rs) = covers ss r && covers_all ss rs

-- `after` is as long as `before`, and has its byte wherever no run lies
pub record Keeps (runs : List Run) (before after : List ℕ) : Type 0 where
  pub lengths : length after ≡ length before
  pub bytes : (k : ℕ) → T (free runs k 1) → get_or after k 0 ≡ get_or before k 0

-- nothing done keeps all, and one change after another keeps what both keep
module _ {runs : List Run} where
  pub keeps_same : {image : List ℕ} → Keeps runs image image
  keeps_same = record { lengths = refl; bytes = λ k t. refl }

  pub keeps_then : {a b c : List ℕ} → Keeps runs a b → Keeps runs b c → Keeps runs a c
  keeps_then p q = record { lengths = q.lengths ∙ p.lengths; bytes = λ k t. q.bytes k t ∙ p.bytes k t }

-- what no run of a list touches, none touches that the list covers
pub free_covered : (ss : List Run) (r : Run) (k : ℕ) → T (covers ss r) → T (free ss k 1) → T (apart r.0 r.1 k 1)
free_covered [] r k c f = absurd c
free_covered (s ∷ ss) r k c f =
    ⊎_elim here (λ d. free_covered ss r k d (and_r (apart s.0 s.1 k 1) (free ss k 1) f))
    (or_cases (inside s r) (covers ss r) c)
  where
    here : T (inside s r) → T (apart r.0 r.1 k 1)
    here i =
        apart_sym k 1 r.0 r.1
        (apart_part k 1 s.0 s.1 r.0 r.1
        (leb→le _ _ (and_l (leb s.0 r.0) (leb (r.0 + r.1) (s.0 + s.1)) i))
        (leb→le _ _ (and_r (leb s.0 r.0) (leb (r.0 + r.1) (s.0 + s.1)) i))
        (apart_sym s.0 s.1 k 1 (and_l (apart s.0 s.1 k 1) (free ss k 1) f)))

pub free_all : (ss rs : List Run) (k : ℕ) → T (covers_all ss rs) → T (free ss k 1) → T (free rs k 1)
free_all ss [] k t f = tt
free_all ss (r ∷ rs) k t f =
    and_i (apart r.0 r.1 k 1) (free rs k 1) (free_covered ss r k (and_l (covers ss r) (covers_all ss rs) t) f)
    (free_all ss rs k (and_r (covers ss r) (covers_all ss rs) t) f)

-- what is free of the runs is so in each part
pub free_part : (runs : List Run) (at n k j : ℕ) → at ≤ k → k + j ≤ at + n → T (free runs at n) → T (free runs k j)
free_part [] at n k j lo hi t = tt
free_part (r ∷ rs) at n k j lo hi t =
    and_i (apart r.0 r.1 k j) (free rs k j)
    (apart_part r.0 r.1 at n k j lo hi (and_l (apart r.0 r.1 at n) (free rs at n) t))
    (free_part rs at n k j lo hi (and_r (apart r.0 r.1 at n) (free rs at n) t))

-- more runs may be named than a change touches
pub keeps_wider : (ss rs : List Run) {a b : List ℕ} → T (covers_all ss rs) → Keeps rs a b → Keeps ss a b
keeps_wider ss rs t p = record { lengths = p.lengths; bytes = λ k f. p.bytes k (free_all ss rs k t f) }

-- ---- what the puts keep

-- a store within a run
pub keeps_within : (image : List ℕ) (at n k b : ℕ) → at ≤ k → k < at + n → Keeps ((at, n) ∷ []) image (set image k b)
keeps_within image at n k b lo hi =
    record {
      lengths = length-set image k b;
      bytes = λ j t. byte_set_other image k b j
          (apart_sym j 1 k 1 (apart_part j 1 at n k 1 lo (omega arith) (apart_sym at n j 1 (and_l (apart at n j 1) true t))));
    }

pub keeps_put_word : (image : List ℕ) (at n v : ℕ) → Keeps ((at, n) ∷ []) image (put_word image at n v)
keeps_put_word image at n v =
    record { lengths = length_put_word image at n v; bytes = λ k t. byte_put_word_other image at n v k (and_l (apart at n k 1) true t) }

pub keeps_put_flag : (image : List ℕ) (at i : ℕ) (b : Bool) → Keeps ((at, 1) ∷ []) image (put_flag image at i b)
keeps_put_flag image at i b =
    record { lengths = length_put_flag image at i b; bytes = λ k t. byte_put_flag_other image at i b k (and_l (apart at 1 k 1) true t) }

-- ---- what is kept: every word and every flag that is free of the runs

pub word_kept : {runs : List Run} {before after : List ℕ} (at n : ℕ) → Keeps runs before after → T (free runs at n)
    → word_at after at n ≡ word_at before at n
word_kept {runs} {before} {after} at n p t =
    word_same after before at n (λ k lo hi. p.bytes k (free_part runs at n k 1 lo (omega arith) t))

pub flag_kept : {runs : List Run} {before after : List ℕ} (at i : ℕ) → Keeps runs before after → T (free runs at 1)
    → flag_at after at i ≡ flag_at before at i
unfolding flag_at
flag_kept at i p t = rw (p.bytes at t)

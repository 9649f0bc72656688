-- A frame down to the bit: what a change leaves. Beside the runs of bytes that it may touch stand the flags that it may put,
-- each a byte's place and a bit of it; on numerals the tests compute, and `tt` closes them. Assumes nothing.
use Rattle.std.specs.Prelude.{◌≡◌, refl, Bool, true, false, not, ◌&&◌, ◌||◌, List, [], ◌∷◌, ℕ, T, ltb, eqb, get_or, set, length, if◌then◌else◌}
use Rattle.std.proofs.Common.{sym, ◌∙◌, ⊎_elim, inl, eqb→eq, length-set, get_or-set_same, get_or-set_other, arith}
use Rattle.std.proofs.Math.Logic.{dite}
use Rattle.std.specs.Float.Ieee.Fits.{and_l, and_r, and_i}
use Rattle.std.proofs.Math.Seq.{set_out}
use Rattle.std.proofs.Math.Decide.{ℕ_discrete, dec_lt}
use Rattle.bits.specs.Bits.{bit_of}
use Rattle.bits.specs.Choose.{choice}
use Rattle.bits.specs.Tests.{or_cases, or_of}
use Rattle.image.specs.Fields.{word_at, put_word, flag_at, put_flag, apart}
use Rattle.image.specs.Fields.Laws.{flag_put_flag_other}
use Rattle.image.specs.Keeps.{Run, free, covers, covers_all, Keeps, keeps_same, keeps_then, keeps_wider, keeps_put_word, keeps_put_flag, word_kept, flag_kept, free_covered, free_all}

abbrev pub Flag : Type 0
Flag = ℕ × ℕ

-- bit i of the byte at `at` is none of these flags
abbrev pub spares : List Flag → ℕ → ℕ → Bool
spares [] at i = true
spares (f ∷ fs) at i = (apart f.0 1 at 1 || not (eqb f.1 i)) && spares fs at i

-- the runs, and the bytes that the flags lie in
abbrev pub touched : List Run → List Flag → List Run
touched runs [] = runs
touched runs (f ∷ fs) = (f.0, 1) ∷ touched runs fs

-- `after` is as long as `before`, has its byte wherever neither a run nor a flag lies, and its bit wherever no run lies and
-- the bit is no flag
pub record Leaves (runs : List Run) (flags : List Flag) (before after : List ℕ) : Type 0 where
  pub keeps : Keeps (touched runs flags) before after
  pub bits : (at i : ℕ) → T (free runs at 1) → T (spares flags at i) → T (ltb i 8) → flag_at after at i ≡ flag_at before at i

module _ {runs : List Run} {flags : List Flag} where
  pub leaves_same : {image : List ℕ} → Leaves runs flags image image
  leaves_same = record { keeps = keeps_same; bits = λ at i f s b. refl }

  pub leaves_then : {a b c : List ℕ} → Leaves runs flags a b → Leaves runs flags b c → Leaves runs flags a c
  leaves_then p q =
      record {
        keeps = keeps_then p.keeps q.keeps;
        bits = λ at i f s b. q.bits at i f s b ∙ p.bits at i f s b;
      }

  pub leaves_choice : (t : Bool) {a b c : List ℕ} → Leaves runs flags a b → Leaves runs flags a c
      → Leaves runs flags a (if t then b else c)
  leaves_choice t p q = choice (Leaves runs flags _) t p q

  pub leaves_sym : {a b : List ℕ} → Leaves runs flags a b → Leaves runs flags b a
  leaves_sym p =
      record {
        keeps = record { lengths = sym p.keeps.lengths; bytes = λ k t. sym (p.keeps.bytes k t) };
        bits = λ at i f s b. sym (p.bits at i f s b);
      }

  -- ---- what is left

  pub word_left : {before after : List ℕ} (at n : ℕ) → Leaves runs flags before after → T (free (touched runs flags) at n)
      → word_at after at n ≡ word_at before at n
  word_left at n p t = word_kept at n p.keeps t

-- ---- more runs and flags may be named than a change touches

-- this flag is one of these
abbrev pub among : List Flag → Flag → Bool
among [] g = false
among (f ∷ fs) g = (eqb f.0 g.0 && eqb f.1 g.1) || among fs g

-- each of these flags lies in a run, or is one of the flags
abbrev pub reaches : List Run → List Flag → List Flag → Bool
reaches runs flags [] = true
reaches runs flags (g ∷ gs) = (covers runs (g.0, 1) || among flags g) && reaches runs flags gs

spares_among : (fs : List Flag) (g : Flag) (at i : ℕ) → T (among fs g) → T (spares fs at i)
    → T (apart g.0 1 at 1 || not (eqb g.1 i))
spares_among [] g at i m s = absurd m
spares_among (f ∷ fs) g at i m s =
    ⊎_elim here (λ d. spares_among fs g at i d (and_r (apart f.0 1 at 1 || not (eqb f.1 i)) (spares fs at i) s))
    (or_cases (eqb f.0 g.0 && eqb f.1 g.1) (among fs g) m)
  where
    here : T (eqb f.0 g.0 && eqb f.1 g.1) → T (apart g.0 1 at 1 || not (eqb g.1 i))
    here e =
        let place : f.0 ≡ g.0 = eqb→eq _ _ (and_l (eqb f.0 g.0) (eqb f.1 g.1) e) in
        let bit : f.1 ≡ g.1 = eqb→eq _ _ (and_r (eqb f.0 g.0) (eqb f.1 g.1) e) in
        rw (← place, ← bit) (and_l (apart f.0 1 at 1 || not (eqb f.1 i)) (spares fs at i) s)

spares_all : (ss : List Run) (fs gs : List Flag) (at i : ℕ) → T (reaches ss fs gs) → T (free ss at 1) → T (spares fs at i)
    → T (spares gs at i)
spares_all ss fs [] at i t f s = tt
spares_all ss fs (g ∷ gs) at i t f s =
    and_i (apart g.0 1 at 1 || not (eqb g.1 i)) (spares gs at i)
    (⊎_elim (λ c. or_of (apart g.0 1 at 1) (not (eqb g.1 i)) (inl (free_covered ss (g.0, 1) at c f)))
    (λ m. spares_among fs g at i m s)
    (or_cases (covers ss (g.0, 1)) (among fs g) (and_l (covers ss (g.0, 1) || among fs g) (reaches ss fs gs) t)))
    (spares_all ss fs gs at i (and_r (covers ss (g.0, 1) || among fs g) (reaches ss fs gs) t) f s)

-- the first runs and flags take in the second
abbrev pub widens : List Run → List Flag → List Run → List Flag → Bool
widens ss fs rs gs = covers_all (touched ss fs) (touched rs gs) && (covers_all ss rs && reaches ss fs gs)

pub leaves_wider : {ss rs : List Run} {fs gs : List Flag} {a b : List ℕ} → T (widens ss fs rs gs) → Leaves rs gs a b → Leaves ss fs a b
leaves_wider {ss} {rs} {fs} {gs} t p =
    let both : T (covers_all ss rs && reaches ss fs gs) = and_r (covers_all (touched ss fs) (touched rs gs)) (covers_all ss rs && reaches ss fs gs) t in
    record {
      keeps = keeps_wider (touched ss fs) (touched rs gs) (and_l (covers_all (touched ss fs) (touched rs gs)) (covers_all ss rs && reaches ss fs gs) t) p.keeps;
      bits = λ at i f s b. p.bits at i (free_all ss rs at (and_l (covers_all ss rs) (reaches ss fs gs) both) f)
          (spares_all ss fs gs at i (and_r (covers_all ss rs) (reaches ss fs gs) both) f s) b;
    }

-- ---- what the puts leave

-- what keeps every byte outside its runs leaves every bit there
pub leaves_keeps : {runs : List Run} {before after : List ℕ} → Keeps runs before after → Leaves runs [] before after
leaves_keeps p = record { keeps = p; bits = λ at i f s b. flag_kept at i p f }

pub leaves_put_word : (image : List ℕ) (at n v : ℕ) → Leaves ((at, n) ∷ []) [] image (put_word image at n v)
leaves_put_word image at n v = leaves_keeps (keeps_put_word image at n v)

pub leaves_put_flag : (image : List ℕ) (at i : ℕ) (b : Bool) → T (ltb i 8) → Leaves [] ((at, i) ∷ []) image (put_flag image at i b)
leaves_put_flag image at i b t =
    record {
      keeps = keeps_put_flag image at i b;
      bits = λ at' j f s u. flag_put_flag_other image at i b at' j t u (and_l (apart at 1 at' 1 || not (eqb i j)) true s);
    }

-- ---- two images that differ only there differ only there after the same store to both

-- what two images have alike at a place they have alike after it
same_set : {X : Type 0} (f : ℕ → X) (a b : List ℕ) (at v k : ℕ) → length b ≡ length a → f (get_or b k 0) ≡ f (get_or a k 0) →
    f (get_or (set b at v) k 0) ≡ f (get_or (set a at v) k 0)
same_set f a b at v k long h =
    dite (ℕ_discrete k at)
    (λ e. dite (dec_lt at (length a))
    (λ inside. rw (e, get_or-set_same a at v 0 inside, get_or-set_same b at v 0 (omega arith)))
    (λ outside. rw (set_out a at v (omega arith), set_out b at v (omega arith)) h))
    (λ ne. rw (get_or-set_other a at k v 0 ne, get_or-set_other b at k v 0 ne) h)

pub leaves_set_both : {runs : List Run} {flags : List Flag} {a b : List ℕ} (at v : ℕ) → Leaves runs flags a b
    → Leaves runs flags (set a at v) (set b at v)
unfolding flag_at
leaves_set_both {a} {b} at v p =
    record {
      keeps = record {
        lengths = length-set b at v ∙ p.keeps.lengths ∙ sym (length-set a at v);
        bytes = λ k t. same_set (λ n. n) a b at v k p.keeps.lengths (p.keeps.bytes k t);
      };
      bits = λ k i t s u. same_set (λ n. bit_of n i) a b at v k p.keeps.lengths (p.bits k i t s u);
    }

-- Lists of bytes. Assumes nothing.
use Rattle.std.specs.Prelude.{◌≡◌, Bool, true, ◌&&◌, List, [], ◌∷◌, ℕ, zero, suc, ◌<◌, T, ltb, get_or, set, replicate}
use Rattle.std.proofs.Math.Logic.{dite}
use Rattle.std.proofs.Math.Decide.{dec_lt}
use Rattle.std.proofs.Common.{arith, ltb→lt}
use Rattle.std.specs.Float.Ieee.Fits.{and_l, and_r}
use Rattle.std.proofs.lemmas.List.{length-replicate, get_or-replicate}
use Rattle.std.proofs.Math.ListN.{get_or-eq_default}

-- every element is a byte; past the end there are zeros
abbrev pub Bytes : List ℕ → Type 0
Bytes bs = (k : ℕ) → get_or bs k 0 < 256

-- of a list that is written out, by a test
abbrev pub all_bytes : List ℕ → Bool
all_bytes [] = true
all_bytes (b ∷ bs) = ltb b 256 && all_bytes bs

pub bytes_of : (bs : List ℕ) → T (all_bytes bs) → Bytes bs
bytes_of [] t k = omega arith
bytes_of (b ∷ bs) t zero = ltb→lt b 256 (and_l (ltb b 256) (all_bytes bs) t)
bytes_of (b ∷ bs) t (suc k) = bytes_of bs (and_r (ltb b 256) (all_bytes bs) t) k

-- a store of a byte leaves bytes
pub bytes_set : (bs : List ℕ) (at b : ℕ) → Bytes bs → b < 256 → Bytes (set bs at b)
bytes_set [] at b bytes small k = bytes k
bytes_set (x ∷ xs) zero b bytes small zero = small
bytes_set (x ∷ xs) zero b bytes small (suc k) = bytes (suc k)
bytes_set (x ∷ xs) (suc at) b bytes small zero = bytes zero
bytes_set (x ∷ xs) (suc at) b bytes small (suc k) = bytes_set xs at b (λ i. bytes (suc i)) small k

-- ---- n bytes of zero

abbrev pub blank : ℕ → List ℕ
blank n = replicate n 0

pub byte_blank : (n k : ℕ) → get_or (blank n) k 0 ≡ 0
byte_blank n k =
    dite (dec_lt k n) (λ lt. get_or-replicate n k 0 0 lt)
    (λ ge. get_or-eq_default (blank n) 0 (rw (length-replicate {A = ℕ} n 0) (omega arith)))

pub bytes_blank : (n : ℕ) → Bytes (blank n)
bytes_blank n k = rw (byte_blank n k) (omega arith)

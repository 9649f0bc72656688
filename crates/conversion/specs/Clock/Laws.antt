-- What is stored as a clock is read back, and a change that leaves the clock's bytes leaves the clock. Assumes nothing.
use Rattle.std.specs.Prelude.{◌≡◌, refl, List, [], ◌∷◌, ℕ, zero, suc, ◌+◌, ◌≤◌, ◌<◌, T, length, get_or, set}
use Rattle.std.proofs.Common.{◌∙◌, ap, sym, suc-add, add-suc, not-suc-le-zero, add-zero, arith, length-set, get_or-set_same, get_or-set_other}
use Rattle.std.specs.Int.Bits.{bit_and}
use Rattle.std.proofs.lemmas.List.Edits.{sets}
use Rattle.calendar.specs.declared.Clock.{Clock}
use Rattle.image.specs.Fields.{word_at}
use Rattle.image.specs.Keeps.{Run, free, free_part, Keeps, keeps_same, keeps_then, keeps_within}
use Rattle.image.specs.Registers.{stamp, eosc}
use Rattle.image.specs.Tables.{register_at, named}
use Rattle.image.specs.Leaves.{Leaves, leaves_same, leaves_choice, leaves_keeps}
use Rattle.conversion.specs.Clock.{clocked, clock_of, stamp_of, put_bytes, put_clock}

-- ---- bytes

-- stores within a run
pub keeps_put_bytes : (image : List ℕ) (at n k : ℕ) (bs : List ℕ) → at ≤ k → k + length bs ≤ at + n
    → Keeps ((at, n) ∷ []) image (put_bytes image k bs)
unfolding put_bytes
keeps_put_bytes image at n k [] lo hi = keeps_same
keeps_put_bytes image at n k (b ∷ bs) lo hi =
    keeps_then (keeps_within image at n k b lo (omega arith)) (keeps_put_bytes (set image k b) at n (suc k) bs (omega arith) (omega arith))

below_put_bytes : (image : List ℕ) (at k : ℕ) (bs : List ℕ) → k < at → get_or (put_bytes image at bs) k 0 ≡ get_or image k 0
unfolding put_bytes
below_put_bytes image at k [] h = refl
below_put_bytes image at k (b ∷ bs) h =
    below_put_bytes (set image at b) (suc at) k bs (omega arith) ∙ get_or-set_other image at k b 0 (omega arith)

-- each is read back
pub byte_put_bytes : (image : List ℕ) (at i : ℕ) (bs : List ℕ) → i < length bs → at + length bs ≤ length image
    → get_or (put_bytes image at bs) (at + i) 0 ≡ get_or bs i 0
unfolding put_bytes
byte_put_bytes image at i [] h fits = absurd (not-suc-le-zero h)
byte_put_bytes image at zero (b ∷ bs) h fits =
    rw (add-zero at)
    (below_put_bytes (set image at b) (suc at) at bs (omega arith) ∙ get_or-set_same image at b 0 (omega arith))
byte_put_bytes image at (suc i) (b ∷ bs) h fits =
    rw (add-suc at i, ← suc-add at i)
    (byte_put_bytes (set image at b) (suc at) i bs (omega arith) (rw (length-set image at b) (omega arith)))

-- bytes stored one after the other are a run of stores
pub put_is_sets : (image : List ℕ) (at : ℕ) (bytes : List ℕ) → sets image at bytes ≡ put_bytes image at bytes
unfolding put_bytes
put_is_sets image at [] = refl
put_is_sets image at (b ∷ bytes) = put_is_sets (set image at b) (suc at) bytes

-- ---- a clock in the image

pub keeps_put_clock : (image : List ℕ) (at : ℕ) (c : Clock) → Keeps ((at, 6) ∷ []) image (put_clock image at c)
unfolding put_clock
keeps_put_clock image at c = keeps_put_bytes image at 6 at _ (omega arith) (omega arith)

-- the six bytes from a place on, as a clock: the stamp's are these
abbrev pub six_at : List ℕ → ℕ → Clock
six_at image at =
    record {
      seconds = get_or image at 0;
      minutes = get_or image (at + 1) 0;
      hours = get_or image (at + 2) 0;
      date = get_or image (at + 3) 0;
      month = get_or image (at + 4) 0;
      year = get_or image (at + 5) 0;
    }

-- a change that leaves them leaves it
pub six_kept : {runs : List Run} {before after : List ℕ} (at : ℕ) → Keeps runs before after → T (free runs at 6) → six_at after at ≡ six_at before at
six_kept {runs} {before} {after} at p t =
    let same : (k : ℕ) → at ≤ k → k < at + 6 → get_or after k 0 ≡ get_or before k 0 =
    λ k lo hi. p.bytes k (free_part runs at 6 k 1 lo (omega arith) t) in
    rw (
      same at (omega arith) (omega arith),
      same (at + 1) (omega arith) (omega arith),
      same (at + 2) (omega arith) (omega arith),
      same (at + 3) (omega arith) (omega arith),
      same (at + 4) (omega arith) (omega arith),
      same (at + 5) (omega arith) (omega arith),
    )

-- and a clock that is put there is read back
pub six_put_clock : (image : List ℕ) (at : ℕ) (c : Clock) → at + 6 ≤ length image → six_at (put_clock image at c) at ≡ c
unfolding put_clock
six_put_clock image at c fits =
    let six : List ℕ = c.seconds ∷ c.minutes ∷ c.hours ∷ c.date ∷ c.month ∷ c.year ∷ [] in
    let back : (i : ℕ) → i < 6 → get_or (put_clock image at c) (at + i) 0 ≡ get_or six i 0 =
    λ i h. byte_put_bytes image at i six h fits in
    let first : at + 0 ≡ at = omega arith in
    rw (
      rw first at (back 0 (omega arith)),
      back 1 (omega arith),
      back 2 (omega arith),
      back 3 (omega arith),
      back 4 (omega arith),
      back 5 (omega arith),
    )

pub stamp_kept : {runs : List Run} {before after : List ℕ} → Keeps runs before after → T (free runs 0x0219 6)
    → stamp_of after ≡ stamp_of before
unfolding stamp_of
stamp_kept p t = six_kept 0x0219 p t

pub stamp_put_clock : (image : List ℕ) (c : Clock) → 0x021F ≤ length image → stamp_of (put_clock image 0x0219 c) ≡ c
unfolding stamp_of
stamp_put_clock image c fits = six_put_clock image 0x0219 c fits

-- the clock's own are those at 0200h, their named bits alone
abbrev pub named_bits : Clock → Clock
named_bits c =
    record {
      seconds = bit_and c.seconds 0x7F;
      minutes = bit_and c.minutes 0x7F;
      hours = bit_and c.hours 0x7F;
      date = bit_and c.date 0x3F;
      month = bit_and c.month 0x9F;
      year = bit_and c.year 0xFF;
    }

pub clock_six : (image : List ℕ) → clock_of image ≡ named_bits (six_at image 0x0200)
unfolding clock_of register_at named
clock_six image = refl

pub clock_kept : {runs : List Run} {before after : List ℕ} → Keeps runs before after → T (free runs 0x0200 6)
    → clock_of after ≡ clock_of before
clock_kept {before = before} {after = after} p t = clock_six after ∙ ap named_bits (six_kept 0x0200 p t) ∙ sym (clock_six before)

-- a stamp that is the number 0 is six zeros
pub stamp_zero : (image : List ℕ) → stamp image ≡ 0
    → stamp_of image ≡ record { seconds = 0; minutes = 0; hours = 0; date = 0; month = 0; year = 0 }
unfolding stamp_of word_at
stamp_zero image e =
    let seconds : get_or image 0x0219 0 ≡ 0 = omega arith in
    let minutes : get_or image 0x021A 0 ≡ 0 = omega arith in
    let hours : get_or image 0x021B 0 ≡ 0 = omega arith in
    let date : get_or image 0x021C 0 ≡ 0 = omega arith in
    let month : get_or image 0x021D 0 ≡ 0 = omega arith in
    let year : get_or image 0x021E 0 ≡ 0 = omega arith in
    rw (seconds, minutes, hours, date, month, year)

-- ---- one second on

pub leaves_clocked : (image : List ℕ) → Leaves ((0x0200, 6) ∷ []) [] image (clocked image)
unfolding clocked
leaves_clocked image = leaves_choice (eosc image) (leaves_keeps (keeps_put_clock image 0x0200 _)) leaves_same

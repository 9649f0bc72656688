-- What a store changes, and what it leaves. A byte that Copy can change lies in the image at its address. Assumes nothing.
use Rattle.std.specs.Prelude.{◌≡◌, refl, true, not, ◌&&◌, ◌||◌, List, [], ◌∷◌, ◌≢◌, ◌⊎◌, ℕ, zero, suc, ◌+◌, ◌-◌, ◌%◌, ◌≤◌, ◌<◌, T, eqb, length, get_or, set, drop}
use Rattle.std.proofs.Common.{◌∙◌, inl, inr, ⊎_elim, add-zero, not-suc-le-zero, le_of_suc-le-suc, mod-eq_of_lt, arith, T_not, eqb→eq, length-set, length-drop, get_or-set_same, get_or-set_other, get_or-drop}
use Rattle.std.proofs.Math.Logic.{dite}
use Rattle.std.proofs.Math.Decide.{dec_lt}
use Rattle.std.specs.Int.Bits.{bit_and, and_zero_r, or_zero_r}
use Rattle.std.proofs.lemmas.Nat.{and_le_r, or_lt, and_mask}
use Rattle.std.specs.Float.Ieee.Fits.{and_l, and_i, and_r}
use Rattle.std.proofs.Math.ListN.{get_or-eq_default}
use Rattle.std.proofs.lemmas.List.{set-get_or}
use Rattle.bits.specs.Bytes.{Bytes, bytes_set}
use Rattle.bits.specs.Tests.{or_cases}
use Rattle.bits.specs.Each.{each_at}
use Rattle.image.specs.Fields.{apart}
use Rattle.image.specs.Fields.Laws.{apart_cases, apart_of}
use Rattle.image.specs.Keeps.{Keeps, Run, free}
use Rattle.image.specs.Map.{region_at, index_of, byte_in}
use Rattle.image.specs.Map.Laws.{Lies, in_user, in_registers, in_calibration, in_reserved, in_log, past_log, region_lies}
use Rattle.image.specs.Map.Laws.{region_registers, index_low}
use Rattle.image.specs.Stored.{blend, stored_byte, stored_in, stored_at, stored_run, stored_page}
use Rattle.image.specs.Tables.{writable}
use Rattle.image.specs.Tables.Laws.{writable_lt}
use Rattle.image.specs.declared.Region.{Region}
use Rattle.image.specs.declared.Region.TheVariants.{User, Registers, Calibration, Reserved, Log}

-- ---- one byte

-- a store at an address is a store in its region
pub stored_in_lem : (image : List ℕ) (a b : ℕ) {r : Region} → region_at a ≡ r → stored_at image a b ≡ stored_in image r b
unfolding stored_at
stored_in_lem image a b e = rw e

-- below 0280h it is a store at the address
pub stored_low : (image : List ℕ) (a b : ℕ) → a < 0x0280 → stored_at image a b ≡ set image a (stored_byte (region_at a) (get_or image a 0) b)
unfolding stored_at stored_in
stored_low image a b h = rw (index_low a h)

-- a register takes the writable bits
pub stored_register : (image : List ℕ) (a b : ℕ) → 0x0200 ≤ a → a < 0x0240
    → stored_at image a b ≡ set image a (blend (get_or writable (a - 0x0200) 0) (get_or image a 0) b)
unfolding stored_byte
stored_register image a b h k = stored_low image a b (omega arith) ∙ rw (region_registers a h k)

-- from 0280h on every byte stays
pub stays_high : (a old new : ℕ) → 0x0280 ≤ a → stored_byte (region_at a) old new ≡ old
unfolding stored_byte
stays_high a old new high = stays (region_lies a)
  where
    stays : {r : Region} → Lies a r → stored_byte r old new ≡ old
    stays (in_user h) = absurd (omega arith)
    stays (in_registers h k) = absurd (omega arith)
    stays (in_calibration h k) = absurd (omega arith)
    stays (in_reserved h k) = refl
    stays (in_log h k) = refl
    stays (past_log h) = refl

pub stored_high : (image : List ℕ) (a b : ℕ) → 0x0280 ≤ a → stored_at image a b ≡ image
unfolding stored_at stored_in
stored_high image a b h = rw (stays_high a (byte_in image (region_at a)) b h) (set-get_or image (index_of (region_at a)) 0)

-- a store keeps the length
pub length_stored : (image : List ℕ) (a b : ℕ) → length (stored_at image a b) ≡ length image
unfolding stored_at stored_in
length_stored image a b = length-set image (index_of (region_at a)) _

-- it leaves every byte but the one at its address
pub stored_other : (image : List ℕ) (a b k : ℕ) → k ≢ a → get_or (stored_at image a b) k 0 ≡ get_or image k 0
stored_other image a b k ne =
    dite (dec_lt a 0x0280) (λ low. rw (stored_low image a b low) (get_or-set_other image a k _ 0 ne))
    (λ high. rw (stored_high image a b (omega arith)))

-- and that one becomes what its region says
pub stored_at_lem : (image : List ℕ) (a b : ℕ) → a < length image → get_or (stored_at image a b) a 0 ≡ stored_byte (region_at a) (get_or image a 0) b
stored_at_lem image a b inside =
    dite (dec_lt a 0x0280) (λ low. rw (stored_low image a b low) (get_or-set_same image a _ 0 inside))
    (λ high. rw (stored_high image a b (omega arith), stays_high a (get_or image a 0) b (omega arith)))

-- a blend is a byte
pub blend_lt : (mask old new : ℕ) → mask < 256 → blend mask old new < 256
unfolding blend
blend_lt mask old new h =
    or_lt 8 (bit_and old (255 - mask)) (bit_and new mask) (omega (arith, and_le_r old (255 - mask))) (omega (arith, and_le_r new mask))

-- a store of a byte leaves bytes
pub bytes_stored : (image : List ℕ) (a b : ℕ) → Bytes image → b < 256 → Bytes (stored_at image a b)
unfolding stored_at stored_in stored_byte
bytes_stored image a b bytes small = bytes_set image (index_of (region_at a)) _ bytes (byte (region_at a))
  where
    byte : (r : Region) → stored_byte r (byte_in image r) b < 256
    byte (User o) = small
    byte (Registers o) = blend_lt _ _ b (writable_lt o)
    byte (Calibration o) = small
    byte Reserved = bytes 8832
    byte (Log o) = bytes (640 + o)

-- ---- a run of bytes

pub length_stored_run : (image : List ℕ) (a : ℕ) (bs : List ℕ) → length (stored_run image a bs) ≡ length image
unfolding stored_run
length_stored_run image a [] = refl
length_stored_run image a (b ∷ bs) = length_stored_run (stored_at image a b) (suc a) bs ∙ length_stored image a b

run_outside : (image : List ℕ) (a : ℕ) (bs : List ℕ) (k : ℕ) → (a + length bs ≤ k) ⊎ (k + 1 ≤ a)
    → get_or (stored_run image a bs) k 0 ≡ get_or image k 0
unfolding stored_run
run_outside image a [] k h = refl
run_outside image a (b ∷ bs) k h =
    run_outside (stored_at image a b) (suc a) bs k (⊎_elim (λ l. inl (omega arith)) (λ l. inr (omega arith)) h)
    ∙ stored_other image a b k (⊎_elim (λ l e. omega arith) (λ l e. omega arith) h)

-- it leaves every byte outside the run
pub keeps_stored_run : (image : List ℕ) (a : ℕ) (bs : List ℕ) → Keeps ((a, length bs) ∷ []) image (stored_run image a bs)
keeps_stored_run image a bs =
    record {
      lengths = length_stored_run image a bs;
      bytes = λ k t. run_outside image a bs k (apart_cases a (length bs) k 1 (and_l (apart a (length bs) k 1) true t));
    }

-- and stores each byte of it at its address
pub stored_run_at : (image : List ℕ) (a : ℕ) (bs : List ℕ) (i : ℕ) → i < length bs → a + i < length image
    → get_or (stored_run image a bs) (a + i) 0 ≡ stored_byte (region_at (a + i)) (get_or image (a + i) 0) (get_or bs i 0)
unfolding stored_run
stored_run_at image a [] i h inside = absurd (not-suc-le-zero h)
stored_run_at image a (b ∷ bs) zero h inside =
    rw (add-zero a) (run_outside (stored_at image a b) (suc a) bs a (inr (omega arith)) ∙ stored_at_lem image a b (omega arith))
stored_run_at image a (b ∷ bs) (suc i) h inside =
    let next : a + suc i ≡ suc a + i = omega arith in
    rw next
    (stored_run_at (stored_at image a b) (suc a) bs i (le_of_suc-le-suc h) (rw (length_stored image a b) (omega arith))
    ∙ rw (stored_other image a b (suc a + i) (λ e. omega arith)))

pub bytes_stored_run : (image : List ℕ) (a : ℕ) (bs : List ℕ) → Bytes image → Bytes bs → Bytes (stored_run image a bs)
unfolding stored_run
bytes_stored_run image a [] bytes small = bytes
bytes_stored_run image a (b ∷ bs) bytes small =
    bytes_stored_run (stored_at image a b) (suc a) bs (bytes_stored image a b bytes (small 0)) (λ i. small (suc i))

-- ---- a page

rest_length : (pad : List ℕ) (a : ℕ) → length pad ≡ 32 → length (drop (a % 32) pad) ≡ 32 - a % 32
rest_length pad a whole = rw (length-drop (a % 32) pad, whole)

-- Copy leaves every byte outside the rest of the page
pub keeps_stored_page : (image pad : List ℕ) (a : ℕ) → length pad ≡ 32 → Keeps ((a, 32 - a % 32) ∷ []) image (stored_page image pad a)
unfolding stored_page
keeps_stored_page image pad a whole = rw (rest_length pad a whole) at (keeps_stored_run image a (drop (a % 32) pad))

-- and stores each byte of the rest at its address
pub stored_page_at : (image pad : List ℕ) (a k : ℕ) → length pad ≡ 32 → a ≤ k → k < a + (32 - a % 32) → k < length image
    → get_or (stored_page image pad a) k 0 ≡ stored_byte (region_at k) (get_or image k 0) (get_or pad (k % 32) 0)
unfolding stored_page
stored_page_at image pad a k whole lo hi inside =
    let there : a + (k - a) ≡ k = omega arith in
    let offset : a % 32 + (k - a) ≡ k % 32 = omega arith in
    rw there at
    (rw (get_or-drop (a % 32) pad (k - a) 0, offset) at
    (stored_run_at image a (drop (a % 32) pad) (k - a) (rw (rest_length pad a whole) (omega arith)) (omega arith)))

-- so a byte after a Copy is what it was, or, in the rest of the page, what its region stores
stored_page_cases : (P : ℕ → Type 0) (image pad : List ℕ) (a k : ℕ) → length pad ≡ 32 → P (get_or image k 0)
    → (a ≤ k → k < a + (32 - a % 32) → P (stored_byte (region_at k) (get_or image k 0) (get_or pad (k % 32) 0)))
    → P (get_or (stored_page image pad a) k 0)
stored_page_cases P image pad a k whole same stored =
    dite (dec_lt k (length image))
    (λ inside.
    dite (dec_lt k a) (λ below. outside (inr (omega arith)))
    (λ from.
    dite (dec_lt k (a + (32 - a % 32)))
    (λ within. rw (stored_page_at image pad a k whole (omega arith) within inside) (stored (omega arith) within))
    (λ past. outside (inl (omega arith)))))
    (λ past.
    let long = (keeps_stored_page image pad a whole).lengths in
    let none : length image ≤ k = omega arith in
    let after : length (stored_page image pad a) ≤ k = omega arith in
    rw (get_or-eq_default (stored_page image pad a) 0 after) (rw (get_or-eq_default image 0 none) at same))
  where
    outside : (a + (32 - a % 32) ≤ k) ⊎ (k + 1 ≤ a) → P (get_or (stored_page image pad a) k 0)
    outside o =
        rw ((keeps_stored_page image pad a whole).bytes k
        (and_i (apart a (32 - a % 32) k 1) true (apart_of a (32 - a % 32) k 1 o) tt))
        same

-- a Copy outside the registers leaves all but user memory and calibration
pub keeps_apart : (image pad : List ℕ) (a : ℕ) → length pad ≡ 32 → (a < 0x0200) ⊎ (0x0240 ≤ a)
    → Keeps ((0, 512) ∷ (576, 64) ∷ []) image (stored_page image pad a)
keeps_apart image pad a whole out =
    record {
      lengths = (keeps_stored_page image pad a whole).lengths;
      bytes = λ k t. stored_page_cases (λ b. b ≡ get_or image k 0) image pad a k whole refl (stays k t);
    }
  where
    stays : (k : ℕ) → T (free ((0, 512) ∷ (576, 64) ∷ []) k 1) → a ≤ k → k < a + (32 - a % 32)
        → stored_byte (region_at k) (get_or image k 0) (get_or pad (k % 32) 0) ≡ get_or image k 0
    stays k t from to =
        let user = apart_cases 0 512 k 1 (and_l (apart 0 512 k 1) (apart 576 64 k 1 && true) t) in
        let calibration = apart_cases 576 64 k 1 (and_l (apart 576 64 k 1) true (and_r (apart 0 512 k 1) (apart 576 64 k 1 && true) t)) in
        stays_high k _ _
        (⊎_elim (λ u. ⊎_elim (λ c. c) (λ c. ⊎_elim (λ l. absurd (omega arith)) (λ l. absurd (omega arith)) out) calibration)
        (λ u. absurd (omega arith))
        user)

-- the runs outside of which no bit is writable: 0214h, 0215h and 0219h-0226h are the tag's own
abbrev pub open_runs : List Run
open_runs = (0x0000, 0x0214) ∷ (0x0216, 3) ∷ (0x0227, 0x0059) ∷ []

blend_shut : (old new : ℕ) → old < 256 → blend 0 old new ≡ old
unfolding blend
blend_shut old new h = rw (and_mask old 8, and_zero_r new, or_zero_r (old % 256)) (mod-eq_of_lt h)

-- any Copy leaves them
pub keeps_shut : (image pad : List ℕ) (a : ℕ) → length pad ≡ 32 → Bytes image → Keeps open_runs image (stored_page image pad a)
unfolding stored_byte writable
keeps_shut image pad a whole bytes =
    record {
      lengths = (keeps_stored_page image pad a whole).lengths;
      bytes = λ k t. stored_page_cases (λ b. b ≡ get_or image k 0) image pad a k whole refl (λ from to. stays k t (get_or pad (k % 32) 0));
    }
  where
    own : (k : ℕ) → T (free open_runs k 1) → (0x0214 ≤ k) × ((0x0280 ≤ k) ⊎ (k + 1 ≤ 0x0227))
    own k t =
        let rest = and_r (apart 0x0000 0x0214 k 1) (free ((0x0216, 3) ∷ (0x0227, 0x0059) ∷ []) k 1) t in
        let last = and_r (apart 0x0216 3 k 1) (apart 0x0227 0x0059 k 1 && true) rest in (
          ⊎_elim (λ l. l) (λ l. absurd (omega arith)) (apart_cases 0x0000 0x0214 k 1 (and_l (apart 0x0000 0x0214 k 1) _ t)),
          apart_cases 0x0227 0x0059 k 1 (and_l (apart 0x0227 0x0059 k 1) true last),
        )

    stays : (k : ℕ) → T (free open_runs k 1) → (new : ℕ) → stored_byte (region_at k) (get_or image k 0) new ≡ get_or image k 0
    stays k t new =
        let from = (own k t).0 in
        ⊎_elim (λ past. stays_high k (get_or image k 0) new past)
        (λ to.
        let o = k - 0x0200 in
        let back : 0x0200 + (k - 0x0200) ≡ k = omega arith in
        let test = each_at 64 (λ i. not (free open_runs (0x0200 + i) 1) || eqb (get_or writable i 0) 0) tt o (omega arith) in
        let none : get_or writable (k - 0x0200) 0 ≡ 0 =
        ⊎_elim (λ n. absurd (T_not (free open_runs k 1) (rw back at n) t)) (eqb→eq _ _)
        (or_cases (not (free open_runs (0x0200 + o) 1)) (eqb (get_or writable o 0) 0) test) in
        rw (region_registers k (omega arith) (omega arith), none) (blend_shut (get_or image k 0) new (bytes k)))
        (own k t).1

pub bytes_stored_page : (image pad : List ℕ) (a : ℕ) → Bytes image → Bytes pad → Bytes (stored_page image pad a)
unfolding stored_page
bytes_stored_page image pad a bytes small =
    bytes_stored_run image a (drop (a % 32) pad) bytes (λ i. rw (get_or-drop (a % 32) pad i 0) (small (a % 32 + i)))

-- The words are what the crates' definitions say: one law a word. Assumes nothing.
use Rattle.std.specs.Prelude.{Bool, true, false, not, ◌&&◌, ◌||◌, ◌⊎◌, ◌≡◌, T, eqb, leb, ltb, length, get_or, replicate, if◌then◌else◌}
use Rattle.std.specs.Bool.{xor}
use Rattle.std.proofs.lemmas.Bool.{false≢true, eqb-false, lt-leb}
use mathlib.Core.List.{List, [], ◌∷◌, ◌++◌, map, flat_map, append-nil, map-append}
use Rattle.std.proofs.Common.{inl, inr, sym, ap, ◌∙◌, le_of_suc-le-suc, not-suc-le-zero, add-one, arith, ltb-true, leb-false, lt-ltb, le-ltb, le-leb, leb→le, ltb→lt, lt→ltb, pow_pos}
use Rattle.std.proofs.Math.Logic.{dite}
use Rattle.std.proofs.Math.Path.{refl}
use Prim.Native.Nat.{ℕ, zero, suc, ◌+◌, ◌-◌, ◌*◌, ◌/◌, ◌%◌, ◌^◌, ◌≤◌, ◌<◌}
use Rattle.std.proofs.Math.Nat.{div-eq_of_lt, pow-succ'}
use Rattle.std.proofs.Math.Decide.{dec_le, dec_lt}
use Rattle.std.specs.Int.Bits.{bit_xor}
use Rattle.std.proofs.lemmas.Nat.{xor_shr}
use Rattle.std.specs.Float.Ieee.Fits.{and_l, and_r, and_i}
use Rattle.std.proofs.Math.ListN.{get_or-eq_default}
use Rattle.bits.specs.Bits.{digit, bit_of, bits_of, slots_of}
use Rattle.bits.specs.Bits.Laws.{bit_low as lowest, bits_add, bits_mod}
use Rattle.bits.specs.Choose.{either, choices}
use Rattle.bits.specs.Tests.{neither, or_of}
use Rattle.bus.specs.Bus.{status_byte}
use Rattle.bus.specs.declared.Held.{Held}
use Rattle.crc.specs.Crc.{taps, crc_bit, crc_bits, crc_byte, crc_run, mask16, crc16_run, sent_low, sent_high, mask8}
use Rattle.crc.specs.Crc.Laws.{bit_lt, bits_join, bit_sum, mask16_lt, mask8_lt}
use Rattle.image.specs.declared.Region.{Region}
use Rattle.image.specs.Fields as fields
use Rattle.image.specs.Fields.{flag_at, apart}
use Rattle.image.specs.Fields.Laws.{apart_of}
use Rattle.image.specs.Keeps.{Run, free}
use Rattle.image.specs.Leaves.{Flag, Leaves, touched, spares, widens, leaves_wider}
use Rattle.image.specs.Map.{region_at, index_of}
use Rattle.image.specs.Map.Laws.{Lies, region_lies}
use Rattle.select.specs.declared.Mode.{Mode}
use Rattle.select.specs.Select as select
use Rattle.promises.specs.Words.{among, bit, low, slots, polynomial, plus, remainder, crc8, crc16, byte_at, bit_at, word_at, in_runs, is_flag, has_flag, Stays, status_of, mark_in, speed_in}

-- ---- bits on the line

-- bit i of a number
pub bit_is : (n i : ℕ) → bit n i ≡ bit_of n i
unfolding bit bit_of
bit_is n i = refl

-- the low w bits of a number
pub low_is : (w n : ℕ) → low w n ≡ bits_of w n
unfolding low bits_of
low_is zero n = refl
low_is (suc w) n = rw (bit_is n 0, low_is w (n / 2))

-- the slots of some bytes
pub slots_are : (bytes : List ℕ) → slots bytes ≡ slots_of bytes
slots_are bytes = ap (λ (f : ℕ → List Bool). flat_map f bytes) (λ i n. low_is 8 n i)

-- two bytes, low byte first
pub two_bytes : (a : ℕ) → slots_of (a % 256 ∷ a / 256 ∷ []) ≡ low 16 a
unfolding flat_map
two_bytes a = rw (low_is 16 a, bits_add 8 8 a, append-nil, bits_mod 8 a)

-- ---- CRCs

-- sums of coefficients are those of the numbers added without carry
plus_bits : (w a b : ℕ) → plus (bits_of w a) (bits_of w b) ≡ bits_of w (bit_xor a b)
unfolding plus bits_of
plus_bits zero a b = refl
plus_bits (suc w) a b = rw (bit_sum a b, xor_shr a b 1, plus_bits w (a / 2) (b / 2))

-- a number with room above it has a zero there
bits_top : (w : ℕ) {n : ℕ} → n < 2 ^ w → bits_of w n ++ (false ∷ []) ≡ bits_of (suc w) n
unfolding bits_of bit_of
bits_top w {n} small = sym (ap (λ (k : ℕ). bits_of k n) (sym (add-one w)) ∙ bits_add w 1 n ∙ rw (div-eq_of_lt small))

-- one step of the division is the register's with one more bit
remainder_step : (v mask : ℕ) {r : ℕ} → r < 2 ^ suc v → (b : Bool)
    → (if xor (bit_of r 0) b then plus (bits_of (suc v) mask) (bits_of v (r / 2) ++ (false ∷ [])) else bits_of v (r / 2) ++ (false ∷ []))
    ≡ bits_of (suc v) (crc_bit mask r b)
unfolding crc_bit
remainder_step v mask {r} small b =
    rw (bits_top v (half small), plus_bits (suc v) mask (r / 2))
    (choices (λ (x : List Bool) (y : ℕ). x ≡ bits_of (suc v) y) (xor (bit_of r 0) b) refl refl)
  where
    half : r < 2 ^ suc v → r / 2 < 2 ^ v
    half h = omega (arith, rw (pow-succ' 2 v) at h)

-- the remainder, for every width and polynomial, is the register after the same bits
pub remainder_is : (v : ℕ) {mask r : ℕ} → mask < 2 ^ suc v → r < 2 ^ suc v → (bits : List Bool)
    → remainder (bits_of (suc v) mask) (bits_of (suc v) r) bits ≡ bits_of (suc v) (crc_bits mask r bits)
unfolding remainder crc_bits bits_of
remainder_is v fits small [] = refl
remainder_is v {mask} {r} fits small (b ∷ bits) =
    ap (λ (rest : List Bool). remainder (bits_of (suc v) mask) rest bits) (remainder_step v mask small b)
    ∙ remainder_is v {r = crc_bit mask r b} fits (bit_lt (suc v) fits b small) bits

-- a run of bytes is that of their bits
pub crc_slots : (mask r : ℕ) (bytes : List ℕ) → crc_run mask r bytes ≡ crc_bits mask r (slots_of bytes)
unfolding crc_run crc_byte crc_bits flat_map
crc_slots mask r [] = refl
crc_slots mask r (byte ∷ bytes) = crc_slots mask (crc_bits mask r (bits_of 8 byte)) bytes ∙ sym (bits_join mask r (bits_of 8 byte) (slots_of bytes))

-- the two polynomials as a register has them, and the first remainder
zeros : (w : ℕ) → replicate w false ≡ bits_of w 0
unfolding bits_of bit_of
zeros zero = refl
zeros (suc w) = ap (λ (bits : List Bool). false ∷ bits) (zeros w)

polynomial16 : polynomial 16 (15 ∷ 2 ∷ 0 ∷ []) ≡ bits_of 16 mask16
unfolding polynomial among bits_of bit_of mask16 taps
polynomial16 = refl

polynomial8 : polynomial 8 (5 ∷ 4 ∷ 0 ∷ []) ≡ bits_of 8 mask8
unfolding polynomial among bits_of bit_of mask8 taps
polynomial8 = refl

-- a CRC from 0, by its polynomial
from_zeros : (v : ℕ) {mask : ℕ} {g : List Bool} → mask < 2 ^ suc v → g ≡ bits_of (suc v) mask → (bits : List Bool)
    → remainder g (replicate (suc v) false) bits ≡ low (suc v) (crc_bits mask 0 bits)
from_zeros v {mask} fits e bits =
    rw (e, zeros (suc v), low_is (suc v) (crc_bits mask 0 bits)) (remainder_is v fits (pow_pos (suc v)) bits)

-- CRC-16 of bits, and of bytes
pub crc16_bits : (bits : List Bool) → crc16 bits ≡ low 16 (crc_bits mask16 0 bits)
unfolding crc16
crc16_bits bits = from_zeros 15 mask16_lt polynomial16 bits

pub crc16_is : (bytes : List ℕ) → crc16 (slots bytes) ≡ low 16 (crc16_run 0 bytes)
crc16_is bytes = rw (slots_are bytes, crc_slots mask16 0 bytes) (crc16_bits (slots_of bytes))

-- CRC-8 of bits
pub crc8_bits : (bits : List Bool) → crc8 bits ≡ low 8 (crc_bits mask8 0 bits)
unfolding crc8
crc8_bits bits = from_zeros 7 mask8_lt polynomial8 bits

-- a number taken from all ones has its bits inverted
pub bits_not : (w : ℕ) {n : ℕ} → n < 2 ^ w → bits_of w (2 ^ w - 1 - n) ≡ map not (bits_of w n)
unfolding bits_of
bits_not zero small = refl
bits_not (suc w) {n} small =
    let p = 2 ^ w in
    let all : 2 ^ suc w ≡ 2 * p = pow-succ' 2 w in
    let half : (2 * p - 1 - n) / 2 ≡ p - 1 - n / 2 = omega arith in
    let odd : (2 * p - 1 - n) % 2 ≡ 1 - n % 2 = omega arith in
    rw (all, half, bits_not w {n = n / 2} (omega arith), lowest (2 * p - 1 - n), lowest n, odd, turned (n % 2) (omega arith))
  where
    turned : (r : ℕ) → r < 2 → eqb (1 - r) 1 ≡ not (eqb r 1)
    turned zero h = refl
    turned (suc zero) h = refl
    turned (suc (suc r)) h = absurd (not-suc-le-zero (le_of_suc-le-suc (le_of_suc-le-suc h)))

-- the two bytes sent are a register's 16 bits, inverted
pub sent_is : (r : ℕ) → slots_of (sent_low r ∷ sent_high r ∷ []) ≡ map not (low 16 r)
unfolding sent_low sent_high flat_map
sent_is r =
    rw (low_is 16 r, bits_add 8 8 r, map-append, append-nil, bits_not 8 {n = r % 256} (omega arith), bits_not 8 {n = r / 256 % 256} (omega arith), bits_mod 8 r, bits_mod 8 (r / 256))

-- "sent inverted, low byte first": the CRC-16 of some bytes as the line carries it
pub crc_sent : (bytes : List ℕ) → slots_of (sent_low (crc16_run 0 bytes) ∷ sent_high (crc16_run 0 bytes) ∷ []) ≡ map not (crc16 (slots_of bytes))
crc_sent bytes = sent_is (crc16_run 0 bytes) ∙ ap (map not) (sym (rw slots_are at (crc16_is bytes)))

-- ---- the record

-- the Resume mark
pub mark_is : (mode : Mode) → mark_in mode ≡ select.mark_in mode
unfolding select.mark_in
mark_is Mode.Plain = refl
mark_is Mode.Marked = refl
mark_is Mode.Overdrive = refl
mark_is Mode.OverdriveMarked = refl

-- the speed
pub speed_is : (mode : Mode) → speed_in mode ≡ select.speed_in mode
unfolding select.speed_in
speed_is Mode.Plain = refl
speed_is Mode.Marked = refl
speed_is Mode.Overdrive = refl
speed_is Mode.OverdriveMarked = refl

-- E/S as a byte
status_top : (aa pf : Bool) → bits_of 3 (4 * digit aa + digit pf) ≡ pf ∷ false ∷ aa ∷ []
unfolding bits_of bit_of
status_top true true = refl
status_top true false = refl
status_top false true = refl
status_top false false = refl

pub status_is : (held : Held) → bits_of 8 (status_byte held) ≡ status_of held
unfolding status_byte
status_is held = at held.aa held.pf held.ending
  where
    at : (aa pf : Bool) (ending : ℕ) → bits_of 8 (128 * digit aa + 32 * digit pf + ending % 32) ≡ low 5 ending ++ (pf ∷ false ∷ aa ∷ [])
    at aa pf ending =
        let n = 128 * digit aa + 32 * digit pf + ending % 32 in
        let low_part : n % 32 ≡ ending % 32 = omega arith in
        let high_part : n / 32 ≡ 4 * digit aa + digit pf = omega arith in
        bits_add 5 3 n ∙ rw (← bits_mod 5 n, low_part, high_part, bits_mod 5 ending, low_is 5 ending, status_top aa pf)

-- ---- the image

module _ (image : List ℕ) where
  -- below 0280h a byte lies at its address
  pub byte_low : (address : ℕ) → address < 0x0280 → byte_at image address ≡ get_or image address 0
  byte_low address low = rw (lt-ltb address 0x0280 low)

  -- the log's bytes lie behind the first 640
  pub byte_logged_lem : (address : ℕ) → 0x1000 ≤ address → address < 0x3000 → byte_at image address ≡ get_or image (640 + (address - 0x1000)) 0
  byte_logged_lem address from to = rw (le-ltb address 0x0280 (omega arith), le-leb 0x1000 address from, lt-ltb address 0x3000 to)

  pub byte_log : (j : ℕ) → j < 8192 → byte_at image (0x1000 + j) ≡ get_or image (640 + j) 0
  byte_log j inside =
      let back : 0x1000 + j - 0x1000 ≡ j = omega arith in
      byte_logged_lem (0x1000 + j) (omega arith) (omega arith) ∙ rw back

  -- at no other address is there a byte
  pub byte_none : (address : ℕ) → 0x0280 ≤ address → address < 0x1000 → byte_at image address ≡ 0
  byte_none address from to = rw (le-ltb address 0x0280 from, lt-leb 0x1000 address to)

  pub byte_past : (address : ℕ) → 0x3000 ≤ address → byte_at image address ≡ 0
  byte_past address past =
      rw (le-ltb address 0x0280 (omega arith), le-leb 0x1000 address (omega arith), le-ltb address 0x3000 past)

  -- below 0280h a bit of a byte is the image's flag
  pub bit_low : (address i : ℕ) → address < 0x0280 → bit_at image address i ≡ flag_at image address i
  unfolding flag_at
  bit_low address i low = rw (byte_low address low, bit_is)

  -- below 0280h some bytes as a number are the image's word
  pub word_is : (at count : ℕ) → at + count ≤ 0x0280 → word_at image at count ≡ fields.word_at image at count
  unfolding fields.word_at
  word_is at zero fits = refl
  word_is at (suc count) fits = rw (byte_low at (omega arith), word_is (suc at) count (omega arith))

  -- in a whole image every byte lies where the map has it
  pub byte_region : (address : ℕ) → length image ≡ 8832 → byte_at image address ≡ get_or image (index_of (region_at address)) 0
  byte_region address size = at (region_lies address)
    where
      at : {r : Region} → Lies address r → byte_at image address ≡ get_or image (index_of r) 0
      at (Lies.in_user h) = byte_low address (omega arith)
      at (Lies.in_registers h k) = let e : 512 + (address - 0x0200) ≡ address = omega arith in rw e (byte_low address (omega arith))
      at (Lies.in_calibration h k) = let e : 576 + (address - 0x0240) ≡ address = omega arith in rw e (byte_low address k)
      at (Lies.in_reserved h k) = rw (byte_none address h k, get_or-eq_default image 0 {n = 8832} (omega arith))
      at (Lies.in_log h k) = byte_logged_lem address h k
      at (Lies.past_log h) = rw (byte_past address h, get_or-eq_default image 0 {n = 8832} (omega arith))

-- ---- what stays

-- the run of the image's bytes that lie at these addresses, from the first to the last
abbrev pub image_run : ℕ × ℕ → Run
image_run run = (if ltb run.1 0x0280 then run.0 else 640 + (run.0 - 0x1000), suc run.1 - run.0)

abbrev pub image_runs : List (ℕ × ℕ) → List Run
image_runs [] = []
image_runs (run ∷ runs) = image_run run ∷ image_runs runs

-- each run lies below 0280h or in the log, and each flag below 0280h
abbrev pub runs_placed : List (ℕ × ℕ) → Bool
runs_placed [] = true
runs_placed (run ∷ runs) = (ltb run.1 0x0280 || (leb 0x1000 run.0 && ltb run.1 0x3000)) && runs_placed runs

abbrev pub flags_placed : List Flag → Bool
flags_placed [] = true
flags_placed (flag ∷ flags) = ltb flag.0 0x0280 && flags_placed flags

-- where in the image the byte of an address lies
data Place (address : ℕ) : ℕ → Type 0 where
  at_low : address < 0x0280 → Place address address
  in_log : 0x1000 ≤ address → address < 0x3000 → Place address (640 + (address - 0x1000))

-- what two images have alike in every such place they have alike at the address
same_byte : {X : Type 0} (f : ℕ → X) (before after : List ℕ) (address : ℕ)
    → ((k : ℕ) → Place address k → f (get_or after k 0) ≡ f (get_or before k 0)) → f (byte_at after address) ≡ f (byte_at before address)
same_byte f before after address same =
    dite (dec_lt address 0x0280)
    (λ low. rw (byte_low after address low, byte_low before address low) (same address (at_low low)))
    (λ high. dite (dec_lt address 0x1000)
    (λ none. rw (byte_none after address (omega arith) none, byte_none before address (omega arith) none))
    (λ from. dite (dec_lt address 0x3000)
    (λ log. rw (byte_logged_lem after address (omega arith) log, byte_logged_lem before address (omega arith) log)
    (same (640 + (address - 0x1000)) (in_log (omega arith) log)))
    (λ past. rw (byte_past after address (omega arith), byte_past before address (omega arith)))))

-- an address outside a run has its byte outside the run's bytes
outside : (first last address : ℕ) → (leb first address && leb address last) ≡ false → (address < first) ⊎ (last < address)
outside first last address e =
    dite (dec_lt address first) inl (λ from. inr (leb-false address last (rw (le-leb first address (omega arith)) at e)))

apart_by : (at n k : ℕ) → (k < at + n → k < at) → T (apart at n k 1)
apart_by at n k below = apart_of at n k 1 (dite (dec_le (at + n) k) inl (λ no. inr (omega (arith, below (omega arith)))))

run_apart : (run : ℕ × ℕ) {address k : ℕ} → Place address k → T (ltb run.1 0x0280 || (leb 0x1000 run.0 && ltb run.1 0x3000))
    → (leb run.0 address && leb address run.1) ≡ false → T (apart (image_run run).0 (image_run run).1 k 1)
run_apart run {address} {k} place placed e =
    either (λ (at : ℕ). T (apart at (suc run.1 - run.0) k 1)) (ltb run.1 0x0280)
    (λ low. let last = ltb-true run.1 0x0280 low in apart_by run.0 (suc run.1 - run.0) k
    (λ h. below place out last h))
    (λ log.
    let in_log : T (leb 0x1000 run.0 && ltb run.1 0x3000) = rw log at placed in
    let from = leb→le 0x1000 run.0 (and_l (leb 0x1000 run.0) (ltb run.1 0x3000) in_log) in
    apart_by (640 + (run.0 - 0x1000)) (suc run.1 - run.0) k (λ h. above place out from h))
  where
    out : (address < run.0) ⊎ (run.1 < address)
    out = outside run.0 run.1 address e

    below : {k : ℕ} → Place address k → (address < run.0) ⊎ (run.1 < address) → run.1 < 0x0280 → k < run.0 + (suc run.1 - run.0) → k < run.0
    below (at_low a) (inl b) last h = b
    below (at_low a) (inr b) last h = omega arith
    below (in_log a c) b last h = omega arith

    above : {k : ℕ} → Place address k → (address < run.0) ⊎ (run.1 < address) → 0x1000 ≤ run.0
        → k < 640 + (run.0 - 0x1000) + (suc run.1 - run.0) → k < 640 + (run.0 - 0x1000)
    above (at_low a) b from h = omega arith
    above (in_log a c) (inl b) from h = omega arith
    above (in_log a c) (inr b) from h = omega arith

runs_free : (runs : List (ℕ × ℕ)) {address k : ℕ} → Place address k → T (runs_placed runs) → in_runs runs address ≡ false
    → T (free (image_runs runs) k 1)
runs_free [] place placed e = tt
runs_free (run ∷ runs) {address} {k} place placed e =
    let here = ltb run.1 0x0280 || (leb 0x1000 run.0 && ltb run.1 0x3000) in
    let no = neither (leb run.0 address && leb address run.1) (in_runs runs address) e in
    and_i (apart (image_run run).0 (image_run run).1 k 1) (free (image_runs runs) k 1)
    (run_apart run place (and_l here (runs_placed runs) placed) no.0)
    (runs_free runs place (and_r here (runs_placed runs) placed) no.1)

-- so has an address without a flag, and a bit that is none
flag_apart : (flag : ℕ) {address k : ℕ} → Place address k → flag < 0x0280 → eqb flag address ≡ false → T (apart flag 1 k 1)
flag_apart flag {address} (at_low a) low e = apart_by flag 1 address (λ h. let no = eqb-false flag address e in omega arith)
flag_apart flag {address} (in_log a c) low e = apart_by flag 1 (640 + (address - 0x1000)) (λ h. omega arith)

flags_free : (runs : List Run) (flags : List Flag) {address k : ℕ} → Place address k → T (flags_placed flags)
    → has_flag flags address ≡ false → T (free runs k 1) → T (free (touched runs flags) k 1)
flags_free runs [] place placed e t = t
flags_free runs (flag ∷ flags) {address} {k} place placed e t =
    let no = neither (eqb flag.0 address) (has_flag flags address) e in
    and_i (apart flag.0 1 k 1) (free (touched runs flags) k 1)
    (flag_apart flag.0 place (ltb→lt flag.0 0x0280 (and_l (ltb flag.0 0x0280) (flags_placed flags) placed)) no.0)
    (flags_free runs flags place (and_r (ltb flag.0 0x0280) (flags_placed flags) placed) no.1 t)

flags_spare : (flags : List Flag) {address k : ℕ} (i : ℕ) → Place address k → T (flags_placed flags)
    → is_flag flags address i ≡ false → T (spares flags k i)
flags_spare [] i place placed e = tt
flags_spare (flag ∷ flags) {address} {k} i place placed e =
    let no = neither (eqb flag.0 address && eqb flag.1 i) (is_flag flags address i) e in
    and_i (apart flag.0 1 k 1 || not (eqb flag.1 i)) (spares flags k i)
    (other (eqb flag.0 address) refl (eqb flag.1 i) no.0)
    (flags_spare flags i place (and_r (ltb flag.0 0x0280) (flags_placed flags) placed) no.1)
  where
    other : (here : Bool) → eqb flag.0 address ≡ here → (bit : Bool) → (here && bit) ≡ false → T (apart flag.0 1 k 1 || not bit)
    other here p false n = or_of (apart flag.0 1 k 1) true (inr tt)
    other false p true n = or_of (apart flag.0 1 k 1) false
        (inl (flag_apart flag.0 place (ltb→lt flag.0 0x0280 (and_l (ltb flag.0 0x0280) (flags_placed flags) placed)) p))
    other true p true n = absurd (false≢true (sym n))

-- what leaves the bytes of these addresses and these flags
pub stays_placed : (runs : List (ℕ × ℕ)) (flags : List Flag) {before after : List ℕ} → T (runs_placed runs && flags_placed flags)
    → Leaves (image_runs runs) flags before after → Stays runs flags before after
unfolding flag_at bit bit_of
stays_placed runs flags {before} {after} placed leaves =
    let ps = and_l (runs_placed runs) (flags_placed flags) placed in
    let fs = and_r (runs_placed runs) (flags_placed flags) placed in
    record {
      size = leaves.keeps.lengths;
      bytes = λ address out no. same_byte (λ n. n) before after address
          (λ k place. leaves.keeps.bytes k (flags_free (image_runs runs) flags place fs no (runs_free runs place ps out)));
      bits = λ address i small out no. same_byte (λ n. bit n i) before after address
          (λ k place. leaves.bits k i (runs_free runs place ps out) (flags_spare flags i place fs no) (lt→ltb i 8 small));
    }

-- the addresses and flags take in the image's runs and flags; on numerals `tt` closes the test
abbrev pub takes_in : List (ℕ × ℕ) → List Flag → List Run → List Flag → Bool
takes_in runs flags image-runs image-flags = (runs_placed runs && flags_placed flags) && widens (image_runs runs) flags image-runs image-flags

pub stays_left : {runs : List (ℕ × ℕ)} {flags : List Flag} {rs : List Run} {fs : List Flag} {before after : List ℕ}
    → Leaves rs fs before after → T (takes_in runs flags rs fs) → Stays runs flags before after
stays_left {runs} {flags} {rs} {fs} leaves t =
    let first = runs_placed runs && flags_placed flags in
    let second = widens (image_runs runs) flags rs fs in
    stays_placed runs flags (and_l first second t) (leaves_wider (and_r first second t) leaves)

module _ {runs flags : List (ℕ × ℕ)} where
  -- nothing done leaves all, so does what leaves the image as it was, and one change after another leaves what both leave
  pub stays_same : {image : List ℕ} → Stays runs flags image image
  stays_same = record { size = refl; bytes = λ address out no. refl; bits = λ address i small out no. refl }

  pub stays_equal : {before after : List ℕ} → after ≡ before → Stays runs flags before after
  stays_equal e = rw e stays_same

  pub stays_then : {a b c : List ℕ} → Stays runs flags a b → Stays runs flags b c → Stays runs flags a c
  stays_then p q =
      record {
        size = q.size ∙ p.size;
        bytes = λ address out no. q.bytes address out no ∙ p.bytes address out no;
        bits = λ address i small out no. q.bits address i small out no ∙ p.bits address i small out no;
      }

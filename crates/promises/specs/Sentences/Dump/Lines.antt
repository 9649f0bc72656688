-- A dump's lines as document 01 reads them, character by character, are those that the dock reads: the number of the first line that is refused,
-- and the byte of every address. Assumes nothing.
use Rattle.std.specs.Prelude.{Bool, true, false, not, ◌&&◌, ◌≢◌, ◌≡◌, eqb, leb, ltb, drop, if◌then◌else◌, Ok, Err}
use Rattle.std.proofs.Math.Bool.{and_assoc, and-false, or-true, and-eq-true_iff}
use mathlib.Core.List.{List, [], ◌∷◌, ◌++◌, flat_map}
use Rattle.std.proofs.Math.Path.{refl, sym, fun_ext}
use Rattle.std.proofs.Common.{ap, ◌∙◌, mod-eq_of_lt, length-drop}
use Prim.Native.Nat.{ℕ, zero, suc, ◌+◌, ◌-◌, ◌*◌, ◌/◌, ◌%◌, ◌≤◌, ◌<◌}
use Rattle.std.proofs.Math.Decide.{dec_le, dec_lt}
use Rattle.std.proofs.Math.Nat.{add-zero, zero-add}
use native.Mathlib.Omega.{arith}
use borrow.Author.Tests.{eq-eqb, eqb-true, lt-ltb, le-leb, lt-leb, ltb-true, leb-true}
use Rattle.std.proofs.Math.ListN.{length, get_or, take}
use Rattle.std.proofs.Math.Seq.{length-take-le, drop-cons, get_or-take, get_or-drop}
use Rattle.answer.specs.Answer.{Answer}
use Rattle.answer.specs.declared.Refusal.{Refusal}
use Rattle.bits.specs.Bits.{number_of}
use Rattle.bits.specs.Bits.Laws.{number_bits}
use Rattle.crc.specs.Crc.{crc16_run, sent_low, sent_high}
use Rattle.dump.specs.Check.{formed, crc_right, check_text, check_line, first_refusal, check_lines, check_of}
use Rattle.dump.specs.Check.Laws.{check_lines_lem}
use Rattle.dump.specs.Check.Unique.{lines_each}
use Rattle.dump.specs.Lines.{page_of, page_crc, line_at, bytes_in, page_in, data_in, crc_in, data_of, dumped_at}
use Rattle.hexadecimal.specs.Hex.{nibble_of, pair_of, pair_at, is_byte, byte_of, all_digits}
use Rattle.hexadecimal.specs.Hex.Laws.{nibble_decimal, nibble_letter, nibble_below, nibble_between, nibble_above, pair_byte}
use Rattle.hexadecimal.specs.Hex.Text.{bytes_at_lem, length_bytes, bytes_small}
use Rattle.hexadecimal.specs.declared.Pair.{Pair}
use Rattle.promises.specs.Ranges.{same}
use Rattle.promises.specs.Ranges.Laws.{same_refl, same_eq}
use Rattle.promises.specs.Sentences.Commands.{crc_of}
use Rattle.promises.specs.Sentences.Dump.{is_digit, digit_value, all, page_at, shown, shown_from, line_number, lines_number, dumped}
use Rattle.promises.specs.Sentences.Events.{number_in}
use Rattle.promises.specs.Sentences.Events.Proof.{numbered, number_accepts}
use Rattle.promises.specs.Words.{low, slots}
use Rattle.promises.specs.Words.Laws.{low_is, slots_are, two_bytes, crc_sent}

-- ---- characters

-- a character that stands for something is a digit, and stands for its value
nibble_digit : (c : ℕ) → ltb (nibble_of c) 16 ≡ is_digit c
nibble_digit c = by (dec_lt c 0x30) (dec_lt c 0x3A) (dec_lt c 0x41) (dec_lt c 0x47)
  where
    by : Dec (c < 0x30) → Dec (c < 0x3A) → Dec (c < 0x41) → Dec (c < 0x47) → ltb (nibble_of c) 16 ≡ is_digit c
    by (yes below) ten between letter = rw (nibble_below c below) (simp (lt-leb 0x30 c below, lt-leb 0x41 c (omega arith)))
    by (no from) (yes ten) between letter =
        rw (nibble_decimal c (omega arith) (omega arith), lt-ltb (c - 0x30) 16 (omega arith))
        (simp (le-leb 0x30 c (omega arith), le-leb c 0x39 (omega arith)))
    by (no from) (no above) (yes between) letter =
        rw (nibble_between c (omega arith) between) (simp (lt-leb c 0x39 (omega arith), lt-leb 0x41 c between, and-false))
    by (no from) (no above) (no a) (yes letter) =
        rw (nibble_letter c (omega arith) (omega arith), lt-ltb (c - 0x37) 16 (omega arith))
        (simp (le-leb 0x41 c (omega arith), le-leb c 0x46 (omega arith), or-true))
    by (no from) (no above) (no a) (no f) =
        rw (nibble_above c (omega arith)) (simp (lt-leb c 0x39 (omega arith), lt-leb c 0x46 (omega arith), and-false))

nibble_value : (c : ℕ) → nibble_of c < 16 → nibble_of c ≡ digit_value c
nibble_value c is = by (dec_le 0x30 c) (dec_le c 0x39) (dec_le 0x41 c) (dec_le c 0x46)
  where
    by : Dec (0x30 ≤ c) → Dec (c ≤ 0x39) → Dec (0x41 ≤ c) → Dec (c ≤ 0x46) → nibble_of c ≡ digit_value c
    by (no below) ten letter f = absurd (omega (arith, nibble_below c (omega arith)))
    by (yes from) (yes ten) letter f = rw (le-leb c 0x39 ten) (nibble_decimal c from ten)
    by (yes from) (no above) (no between) f = absurd (omega (arith, nibble_between c (omega arith) (omega arith)))
    by (yes from) (no above) (yes letter) (yes f) = rw (lt-leb c 0x39 (omega arith)) (nibble_letter c letter f)
    by (yes from) (no above) (yes letter) (no past) = absurd (omega (arith, nibble_above c (omega arith)))

-- two characters are a byte exactly if both are digits
pair_digits : (high low : ℕ) → is_byte (pair_of high low) ≡ is_digit high && is_digit low
unfolding pair_of
pair_digits high low = rw (nibble_digit high, nibble_digit low) (by (is_digit high && is_digit low) _)
  where
    by : (both : Bool) (byte : ℕ) → is_byte (if both then Pair.Byte byte else Pair.Bad) ≡ both
    by true byte = refl
    by false byte = refl

-- and stand for that byte
pair_value : (high low : ℕ) → is_digit high ≡ true → is_digit low ≡ true → byte_of (pair_of high low) ≡ 16 * digit_value high + digit_value low
pair_value high low h l =
    let first : nibble_of high < 16 = ltb-true (nibble_of high) 16 (nibble_digit high ∙ h) in
    let second : nibble_of low < 16 = ltb-true (nibble_of low) 16 (nibble_digit low ∙ l) in
    rw (pair_byte high low first second, ← nibble_value high first, ← nibble_value low second) (omega arith)

-- what passes at every place passes at each
all_at : (test : ℕ → Bool) (at count : ℕ) → all test at count ≡ true → (k : ℕ) → k < count → test (at + k) ≡ true
unfolding all
all_at test at zero e k h = absurd (omega arith)
all_at test at (suc count) e zero h = rw add-zero ((and-eq-true_iff (test at) (all test (suc at) count)).0 e).0
all_at test at (suc count) e (suc k) h =
    let more : at + suc k ≡ suc at + k = omega arith in
    rw more (all_at test (suc at) count ((and-eq-true_iff (test at) (all test (suc at) count)).0 e).1 k (omega arith))

-- ---- a line

module _ (dump : List ℕ) (line : ℕ) where
  -- the 72 characters, and the line feed
  abbrev digits : Bool
  digits = all (λ at. is_digit (get_or dump at 0)) (73 * line) 72

  abbrev form : Bool
  form = digits && eqb (get_or dump (73 * line + 72) 0) 0x0A

  -- character i of its text, and pairs of characters one by one
  line_char : (i : ℕ) → i < 73 → get_or (line_at dump line) i 0 ≡ get_or dump (73 * line + i) 0
  unfolding line_at
  line_char i h = get_or-take 73 (drop (73 * line) dump) i 0 h ∙ get_or-drop (73 * line) dump i 0

  pairs_are : (at n : ℕ) → at + 2 * n ≤ 73
      → all_digits (line_at dump line) at n ≡ all (λ at. is_digit (get_or dump at 0)) (73 * line + at) (2 * n)
  unfolding all_digits all pair_at
  pairs_are at zero h = refl
  pairs_are at (suc n) h =
      let more : 2 * suc n ≡ suc (suc (2 * n)) = omega arith in
      let one : 73 * line + (at + 1) ≡ suc (73 * line + at) = omega arith in
      let two : 73 * line + (at + 2) ≡ suc (suc (73 * line + at)) = omega arith in
      rw (
        more,
        pair_digits (get_or (line_at dump line) at 0) (get_or (line_at dump line) (at + 1) 0),
        line_char at (omega arith),
        line_char (at + 1) (omega arith),
        pairs_are (at + 2) n (omega arith),
        one,
        two,
      )
      (and_assoc (is_digit (get_or dump (73 * line + at) 0)) (is_digit (get_or dump (suc (73 * line + at)) 0)) _)

  module _ (size : length dump ≡ 18834) (there : line < 258) where
    -- 73 characters, and the dock's test of them
    line_long : length (line_at dump line) ≡ 73
    unfolding line_at
    line_long = length-take-le 73 (drop (73 * line) dump) (rw (length-drop (73 * line) dump, size) (omega arith))

    line_formed : formed (line_at dump line) ≡ form
    unfolding formed
    line_formed = rw (eq-eqb (length (line_at dump line)) 73 line_long, pairs_are 0 36 (omega arith), add-zero, line_char 72 (omega arith))

  -- where the characters are digits, byte i is the one that the dock reads
  module _ (are : digits ≡ true) where
    shown_is : (i : ℕ) → i < 36 → shown dump line i ≡ get_or (bytes_in (line_at dump line)) i 0
    unfolding pair_at
    shown_is i h =
        let first = all_at (λ at. is_digit (get_or dump at 0)) (73 * line) 72 are (2 * i) (omega arith) in
        let second = all_at (λ at. is_digit (get_or dump at 0)) (73 * line) 72 are (2 * i + 1) (omega arith) in
        let next : 73 * line + (2 * i + 1) ≡ 73 * line + 2 * i + 1 = omega arith in
        rw (bytes_at_lem (line_at dump line) 0 36 i h, zero-add, line_char (2 * i) (omega arith), line_char (2 * i + 1) (omega arith), next)
        (sym (pair_value (get_or dump (73 * line + 2 * i) 0) (get_or dump (73 * line + 2 * i + 1) 0) first (rw next at second)))

    -- it is below 256; and some of them, one after the other
    pub shown_small : (i : ℕ) → i < 36 → shown dump line i < 256
    shown_small i h = rw (shown_is i h) (bytes_small (line_at dump line) 0 36 i)

    shown_from_lem : (i count : ℕ) → i + count ≤ 36 → shown_from dump line i count ≡ take count (drop i (bytes_in (line_at dump line)))
    unfolding shown_from
    shown_from_lem i zero h = refl
    shown_from_lem i (suc count) h =
        let inside : i < length (bytes_in (line_at dump line)) = rw (length_bytes (line_at dump line) 0 36) (omega arith) in
        rw (shown_is i (omega arith), shown_from_lem (suc i) count (omega arith), drop-cons (bytes_in (line_at dump line)) i 0 inside)

    -- byte i of a line's data
    pub shown_data : (i : ℕ) → i < 32 → shown dump line (2 + i) ≡ data_of dump line i
    unfolding data_of data_in
    shown_data i h =
        shown_is (2 + i) (omega arith)
        ∙ sym (get_or-take 32 (drop 2 (bytes_in (line_at dump line))) i 0 h ∙ get_or-drop 2 (bytes_in (line_at dump line)) i 0)

-- ---- a line's CRC

-- two tests that follow from each other are the same
alike : (a b : Bool) → (a ≡ true → b ≡ true) → (b ≡ true → a ≡ true) → a ≡ b
alike true b to from = sym (to refl)
alike false true to from = from refl
alike false false to from = refl

-- two bytes on the line, "low first", are a number
pub two_low : (a b : ℕ) → a < 256 → slots (a ∷ b ∷ []) ≡ low 16 (a + 256 * b)
two_low a b small =
    let first : (a + 256 * b) % 256 ≡ a = omega arith in
    let second : (a + 256 * b) / 256 ≡ b = omega arith in
    slots_are (a ∷ b ∷ []) ∙ (rw (first, second) at (two_bytes (a + 256 * b)))

two_number : (a b : ℕ) → a < 256 → b < 256 → number_of (slots (a ∷ b ∷ [])) ≡ a + 256 * b
two_number a b p q =
    rw (two_low a b p, low_is 16 (a + 256 * b)) (number_bits 16 (a + 256 * b) ∙ mod-eq_of_lt (omega arith))

-- and two are the same there exactly if they are the same bytes
two_same : (a b c d : ℕ) → a < 256 → b < 256 → c < 256 → d < 256
    → same (slots (a ∷ b ∷ [])) (slots (c ∷ d ∷ [])) ≡ (eqb a c && eqb b d)
two_same a b c d p q r t =
    alike _ _
    (λ e.
    let equal : a + 256 * b ≡ c + 256 * d =
    sym (two_number a b p q) ∙ ap number_of (same_eq (slots (a ∷ b ∷ [])) (slots (c ∷ d ∷ [])) e) ∙ two_number c d r t in
    rw (eq-eqb a c (omega arith), eq-eqb b d (omega arith)))
    (λ e.
    let both = (and-eq-true_iff (eqb a c) (eqb b d)).0 e in
    rw (eqb-true a c both.0, eqb-true b d both.1) (same_refl (slots (c ∷ d ∷ []))))

-- the two bytes that Read Memory sends of a page's CRC
page_crc_lem : (low_byte high_byte : ℕ) (bytes : List ℕ) →
    let crc = crc16_run 0 (0x69 ∷ low_byte ∷ high_byte ∷ bytes) in
    crc_of (low 8 0x69 ++ (low 8 low_byte ++ (low 8 high_byte ++ slots bytes))) ≡ slots (sent_low crc ∷ sent_high crc ∷ [])
unfolding flat_map
page_crc_lem low_byte high_byte bytes =
    let covered : List ℕ = 0x69 ∷ low_byte ∷ high_byte ∷ bytes in
    let crc = crc16_run 0 covered in
    ap crc_of (slots_are covered) ∙ sym (crc_sent covered) ∙ sym (slots_are (sent_low crc ∷ sent_high crc ∷ []))

-- ---- a line's number

-- the number of an answer that is chosen, where what is left counts only if the test fails
numbered_when : (test : Bool) (a b : Answer) {m n : ℕ} → number_in a ≡ m → (test ≡ false → number_in b ≡ n)
    → number_in (if test then a else b) ≡ (if test then m else n)
numbered_when true a b p q = p
numbered_when false a b p q = q refl

-- a number is 0 only if the test before it has not failed
passed : (test : Bool) {m : ℕ} (n : ℕ) → n ≢ 0 → (if not test then n else m) ≡ 0 → (test ≡ true) × (m ≡ 0)
passed true n refuses e = (refl, e)
passed false n refuses e = absurd (refuses e)

-- a test that does not fail passes
not-false : (test : Bool) → not test ≡ false → test ≡ true
not-false true e = refl
not-false false e = sym e

-- the page of a line
pub page_is : (line : ℕ) → line < 258 → page_of line ≡ page_at line
unfolding page_of
page_is line h = rw (lt-ltb line 258 h)

module _ (dump : List ℕ) (line : ℕ) where
  -- the CRC bytes of a line, and those that its page and data ask
  abbrev crc_bits : List Bool
  crc_bits = crc_of (low 8 0x69 ++ (low 8 (shown dump line 1) ++ (low 8 (shown dump line 0) ++ slots (shown_from dump line 2 32))))

  abbrev crc : Bool
  crc = same (slots (shown_from dump line 34 2)) crc_bits

  -- where the characters are digits, the page and the CRC are those that the dock reads
  module _ (are : digits dump line ≡ true) where
    line_page : page_in (bytes_in (line_at dump line)) ≡ 256 * shown dump line 0 + shown dump line 1
    unfolding page_in
    line_page = rw (shown_is dump line are 0 (omega arith), shown_is dump line are 1 (omega arith)) (omega arith)

    line_crc : crc_right (bytes_in (line_at dump line)) ≡ crc
    unfolding crc_right crc_in page_crc data_in shown_from sent_low sent_high
    line_crc =
        let bytes = bytes_in (line_at dump line) in
        let small = bytes_small (line_at dump line) 0 36 in
        let crc = crc16_run 0 (0x69 ∷ get_or bytes 1 0 ∷ get_or bytes 0 0 ∷ take 32 (drop 2 bytes)) in
        rw (
          shown_from_lem dump line are 2 32 (omega arith),
          shown_is dump line are 0 (omega arith),
          shown_is dump line are 1 (omega arith),
          shown_is dump line are 34 (omega arith),
          shown_is dump line are 35 (omega arith),
          page_crc_lem (get_or bytes 1 0) (get_or bytes 0 0) (take 32 (drop 2 bytes)),
        )
        (sym (two_same (get_or bytes 34 0) (get_or bytes 35 0) (sent_low crc) (sent_high crc) (small 34) (small 35) (omega arith) (omega arith)))

  -- what a line says that is not refused
  pub record Right : Type 0 where
    pub are : digits dump line ≡ true
    pub page : 256 * shown dump line 0 + shown dump line 1 ≡ page_at line
    pub bits : slots (shown_from dump line 34 2) ≡ crc_bits

  pub line_right : line_number dump line ≡ 0 → Right
  unfolding line_number
  line_right e =
      let formed = passed (form dump line) 7 (λ z. omega (arith, z)) e in
      let paged = passed (eqb (256 * shown dump line 0 + shown dump line 1) (page_at line)) 9 (λ z. omega (arith, z)) formed.1 in
      let crced = passed crc 8 (λ z. omega (arith, z)) paged.1 in
      record {
        are = ((and-eq-true_iff (digits dump line) (eqb (get_or dump (73 * line + 72) 0) 0x0A)).0 formed.0).0;
        page = eqb-true _ _ paged.0;
        bits = same_eq _ _ crced.0;
      }

  module _ (size : length dump ≡ 18834) (there : line < 258) where
    -- "7, 9, 8"
    line_number_lem : number_in (check_line dump line) ≡ line_number dump line
    unfolding check_line check_text line_number
    line_number_lem =
        rw (line_formed dump line size there, page_is line there)
        (numbered_when (not (form dump line)) (Err Refusal.DumpForm) _ refl
        (λ is.
        let are = ((and-eq-true_iff (digits dump line) (eqb (get_or dump (73 * line + 72) 0) 0x0A)).0 (not-false (form dump line) is)).0 in
        rw (line_page are, line_crc are)
        (numbered (not (eqb (256 * shown dump line 0 + shown dump line 1) (page_at line))) (Err Refusal.LinePage) _ refl
        (numbered (not crc) (Err Refusal.LineCrc) (Ok tt) refl refl))))

-- ---- line by line

-- the first of two numbers that refuses
pub first_number : (a b : Answer) {m n : ℕ} → number_in a ≡ m → number_in b ≡ n → number_in (first_refusal a b) ≡ (if eqb m 0 then n else m)
unfolding first_refusal
first_number a b p q = rw (← p) (numbered (eqb (number_in a) 0) b a q refl)

-- two choices by one address's place
pub where_in : (low address high : ℕ) {p q r t : ℕ} → (low ≤ address → address < high → p ≡ q) → r ≡ t
    → (if leb low address && ltb address high then p else r) ≡ (if leb low address && ltb address high then q else t)
where_in low address high {p} {q} {r} {t} inside outside = by (leb low address) (ltb address high) refl refl
  where
    by : (from to : Bool) → leb low address ≡ from → ltb address high ≡ to → (if from && to then p else r) ≡ (if from && to then q else t)
    by true true e f = inside (leb-true low address e) (ltb-true address high f)
    by true false e f = outside
    by false to e f = outside

module _ (dump : List ℕ) (size : length dump ≡ 18834) where
  -- of some lines, and of all
  lines_number_lem : (line count : ℕ) → line + count ≤ 258 → number_in (check_lines dump line count) ≡ lines_number dump line count
  unfolding check_lines lines_number
  lines_number_lem line zero h = refl
  lines_number_lem line (suc count) h =
      first_number (check_line dump line) (check_lines dump (suc line) count)
      (line_number_lem dump line size (omega arith)) (lines_number_lem (suc line) count (omega arith))

  pub all_number : number_in (check_lines dump 0 258) ≡ lines_number dump 0 258
  all_number = lines_number_lem 0 258 (omega arith)

  module _ (none : lines_number dump 0 258 ≡ 0) where
    -- each line says what its place asks
    pub lines_right : (line : ℕ) → line < 258 → Right dump line
    lines_right line h =
        line_right dump line
        (sym (line_number_lem dump line size h) ∙ rw zero-add at (lines_each dump 0 258 (all_number ∙ none) line h))

    -- so the dock accepts them, and reads the same bytes
    pub lines_check : check_of dump ≡ Ok tt
    lines_check = check_lines_lem dump size ∙ number_accepts (all_number ∙ none)

    pub dumped_is : dumped dump ≡ dumped_at dump
    unfolding dumped dumped_at
    dumped_is =
        fun_ext λ address.
        where_in 0x0200 address 0x0240
        (λ from to.
        let line = (address - 0x0200) / 32 in
        shown_data dump line (lines_right line (omega arith)).are (address % 32) (omega arith))
        (where_in 0x1000 address 0x3000
        (λ from to.
        let line = 2 + (address - 0x1000) / 32 in
        shown_data dump line (lines_right line (omega arith)).are (address % 32) (omega arith))
        refl)

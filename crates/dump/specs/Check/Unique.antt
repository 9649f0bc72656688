-- And back: a dump that is accepted is the text of its bytes, so two of them with the same bytes are the same. Assumes nothing.
use Rattle.std.specs.Prelude.{◌≡◌, refl, Bool, true, false, ◌&&◌, not, Ok, Err, ℕ, zero, suc, ◌+◌, ◌*◌, ◌/◌, ◌%◌, ◌<◌, take, if◌then◌else◌}
use Rattle.std.proofs.Common.{sym, ap, ◌∙◌, add-zero, add-suc, suc-add, length-take, length-drop, take-append-drop, take-add, drop-drop, ext_get_or}
use Rattle.std.proofs.Math.Path.{fun_ext}
use Rattle.std.proofs.Math.Bool.{and-eq-true_iff}
use mathlib.Core.List.{List, [], ◌∷◌, ◌++◌}
use Rattle.std.proofs.Math.Nat.{zero-add}
use native.Mathlib.Omega.{arith}
use borrow.Author.Tests.{eqb-true, eqb-false}
use Rattle.std.proofs.Math.Dec.{eqb}
use Rattle.std.proofs.Math.ListN.{length, get_or, drop, drop_of_length-le}
use Rattle.std.proofs.Math.Seq.{drop-cons, take_all}
use Rattle.answer.specs.Answer.{Answer, answer_number}
use Rattle.answer.specs.declared.Refusal.TheVariants.{DumpForm, LineCrc, LinePage}
use Rattle.crc.specs.Crc.{sent_low, sent_high}
use Rattle.hexadecimal.specs.Hex.{hex_text, all_digits}
use Rattle.hexadecimal.specs.Hex.Text.{text_bytes, length_bytes, bytes_small}
use Rattle.dump.specs.Lines.{page_of, line_bytes, line_of, bytes_from, lines_from, dump_text, line_at, bytes_in, page_in, data_in, crc_in, data_of, dumped_at}
use Rattle.dump.specs.Lines.Laws.{dumped_page}
use Rattle.dump.specs.Lines.Written.{length_from, from_at}
use Rattle.dump.specs.Check.{formed, crc_right, check_text, check_line, first_refusal, check_lines, check_of}

-- ---- a line

-- the answer is 0 only if the test before it has not failed
passed : (t : Bool) (a b : Answer) → (answer_number b ≡ 0 → ⊥) → answer_number (if not t then b else a) ≡ 0
    → (t ≡ true) × (answer_number a ≡ 0)
passed true a b refuses e = (refl, e)
passed false a b refuses e = absurd (refuses e)

-- 36 bytes: two, 32, and two
next_two : (l : List ℕ) (i : ℕ) → suc i < length l → drop i l ≡ get_or l i 0 ∷ get_or l (suc i) 0 ∷ drop (suc (suc i)) l
next_two l i h = let first : i < length l = omega arith in rw (drop-cons l i 0 first, drop-cons l (suc i) 0 h)

bytes_parted : (bytes : List ℕ) → length bytes ≡ 36
    → bytes ≡ get_or bytes 0 0 ∷ get_or bytes 1 0 ∷ (take 32 (drop 2 bytes) ++ (get_or bytes 34 0 ∷ get_or bytes 35 0 ∷ []))
bytes_parted bytes long =
    let ends : drop 32 (drop 2 bytes) ≡ get_or bytes 34 0 ∷ get_or bytes 35 0 ∷ [] =
    drop-drop 32 2 bytes ∙ next_two bytes 34 (omega arith) ∙ rw (drop_of_length-le bytes {i = 36} (omega arith)) in
    next_two bytes 0 (omega arith) ∙ rw (← ends, take-append-drop 32 (drop 2 bytes))

module _ (text : List ℕ) (page : ℕ) (accepted : answer_number (check_text text page) ≡ 0) where
  tests : (formed text ≡ true) × (eqb (page_in (bytes_in text)) page ≡ true) × (crc_right (bytes_in text) ≡ true)
  unfolding check_text
  tests =
      let form = passed (formed text) _ (Err DumpForm) (λ e. omega arith) accepted in
      let shown = passed (eqb (page_in (bytes_in text)) page) _ (Err LinePage) (λ e. omega arith) form.1 in
      (form.0, shown.0, (passed (crc_right (bytes_in text)) (Ok tt) (Err LineCrc) (λ e. omega arith) shown.1).0)

  -- its text is that of its bytes
  text_whole : hex_text (bytes_in text) ++ (0x0A ∷ []) ≡ text
  unfolding formed
  text_whole =
      let parts = (and-eq-true_iff (eqb (length text) 73) (all_digits text 0 36 && eqb (get_or text 72 0) 0x0A)).0 tests.0 in
      let rest = (and-eq-true_iff (all_digits text 0 36) (eqb (get_or text 72 0) 0x0A)).0 parts.1 in
      let long : length text ≡ 73 = eqb-true (length text) 73 parts.0 in
      let ended : get_or text 72 0 ≡ 0x0A = eqb-true (get_or text 72 0) 0x0A rest.1 in
      let end : drop 72 text ≡ 0x0A ∷ [] =
      drop-cons text 72 0 (omega arith) ∙ rw (ended, drop_of_length-le text {i = 73} (omega arith)) in
      rw (text_bytes text 0 36 (omega arith) rest.0, ← end) (take-append-drop 72 text)

  -- and these are those of a line for its page and its data
  bytes_whole : line_bytes (page / 256) (page % 256) (data_in (bytes_in text)) ≡ bytes_in text
  unfolding line_bytes data_in page_in crc_right crc_in
  bytes_whole =
      let bytes = bytes_in text in
      let shown : get_or bytes 0 0 * 256 + get_or bytes 1 0 ≡ page = eqb-true (page_in bytes) page tests.1 in
      let small = bytes_small text 0 36 1 in
      let high : page / 256 ≡ get_or bytes 0 0 = omega arith in
      let low : page % 256 ≡ get_or bytes 1 0 = omega arith in
      let sent_low_lem = sent_low (crc_in bytes) in
      let sent-high = sent_high (crc_in bytes) in
      let crc = (and-eq-true_iff (eqb (get_or bytes 34 0) sent_low_lem) (eqb (get_or bytes 35 0) sent-high)).0 tests.2 in
      let first = eqb-true (get_or bytes 34 0) sent_low_lem crc.0 in
      let second = eqb-true (get_or bytes 35 0) sent-high crc.1 in
      rw (high, low, ← first, ← second) (sym (bytes_parted bytes (length_bytes text 0 36)))

  pub line_unique : line_of page (data_in (bytes_in text)) ≡ text
  unfolding line_of
  line_unique = rw bytes_whole text_whole

-- ---- line by line

first_none : (a b : Answer) → answer_number (first_refusal a b) ≡ 0 → (answer_number a ≡ 0) × (answer_number b ≡ 0)
unfolding first_refusal
first_none a b = split (eqb (answer_number a) 0) refl
  where
    split : (t : Bool) → eqb (answer_number a) 0 ≡ t → answer_number (if t then b else a) ≡ 0
        → (answer_number a ≡ 0) × (answer_number b ≡ 0)
    split true t e = (eqb-true (answer_number a) 0 t, e)
    split false t e = absurd (eqb-false (answer_number a) 0 t e)

pub lines_each : (dump : List ℕ) (line count : ℕ) → answer_number (check_lines dump line count) ≡ 0 → (k : ℕ) → k < count
    → answer_number (check_line dump (line + k)) ≡ 0
unfolding check_lines
lines_each dump line zero e k h = absurd (omega arith)
lines_each dump line (suc count) e zero h =
    rw add-zero (first_none (check_line dump line) (check_lines dump (suc line) count) e).0
lines_each dump line (suc count) e (suc k) h =
    let rest = (first_none (check_line dump line) (check_lines dump (suc line) count) e).1 in
    rw (add-suc, ← suc-add) (lines_each dump (suc line) count rest k (omega arith))

-- lines of a dump that are those of a memory are a part of it
lines_joined : (byte : ℕ → ℕ) (dump : List ℕ) (line count : ℕ)
    → ((k : ℕ) → k < count → line_of (page_of (line + k)) (bytes_from byte (page_of (line + k)) 32) ≡ line_at dump (line + k))
    → lines_from byte line count ≡ take (73 * count) (drop (73 * line) dump)
unfolding lines_from line_at
lines_joined byte dump line zero each = refl
lines_joined byte dump line (suc count) each =
    let rest = drop (73 * line) dump in
    let first : line_of (page_of line) (bytes_from byte (page_of line) 32) ≡ take 73 rest = rw add-zero at (each 0 (omega arith)) in
    let others =
    lines_joined byte dump (suc line) count (λ k h. rw (suc-add, ← add-suc) (each (suc k) (omega arith))) in
    let more : 73 * suc count ≡ 73 + 73 * count = omega arith in
    let next : 73 * suc line ≡ 73 * line + 73 = omega arith in
    rw (first, others, more, take-add 73 (73 * count) rest, drop-drop 73 (73 * line) dump, next)

-- ---- the dump

-- the data of a line, as the bytes of its addresses
data_dumped : (dump : List ℕ) (line : ℕ) → line < 258
    → bytes_from (dumped_at dump) (page_of line) 32 ≡ data_in (bytes_in (line_at dump line))
unfolding data_in data_of
data_dumped dump line h =
    let bytes = bytes_in (line_at dump line) in
    let long : length (take 32 (drop 2 bytes)) ≡ 32 =
    rw (
      length-take 32 (drop 2 bytes),
      length-drop 2 bytes,
      length_bytes (line_at dump line) 0 36,
    )
    in
    let count = length_from (dumped_at dump) (page_of line) 32 in
    ext_get_or 0 (bytes_from (dumped_at dump) (page_of line) 32) (take 32 (drop 2 bytes)) (count ∙ sym long)
    (λ i k. from_at (dumped_at dump) (page_of line) 32 i (omega arith) ∙ dumped_page dump line i h (omega arith))

module _ (dump : List ℕ) (accepted : check_of dump ≡ Ok tt) where
  accepted_parts : (eqb (length dump) 18834 ≡ true) × (answer_number (check_lines dump 0 258) ≡ 0)
  unfolding check_of
  accepted_parts = passed (eqb (length dump) 18834) (check_lines dump 0 258) (Err DumpForm) (λ e. omega arith) (ap answer_number accepted)

  pub accepted_length : length dump ≡ 18834
  accepted_length = eqb-true (length dump) 18834 accepted_parts.0

  pub accepted_text : dump_text (dumped_at dump) ≡ dump
  unfolding dump_text check_line
  accepted_text =
      lines_joined (dumped_at dump) dump 0 258 each ∙ take_all 18834 dump (omega (arith, accepted_length))
    where
      each : (k : ℕ) → k < 258 → line_of (page_of (0 + k)) (bytes_from (dumped_at dump) (page_of (0 + k)) 32) ≡ line_at dump (0 + k)
      each k h =
          let answer = rw zero-add at (lines_each dump 0 258 accepted_parts.1 k h) in
          rw (zero-add, data_dumped dump k h) (line_unique (line_at dump k) (page_of k) answer)

pub accepted_unique : (d e : List ℕ) → check_of d ≡ Ok tt → check_of e ≡ Ok tt → ((a : ℕ) → dumped_at d a ≡ dumped_at e a)
    → d ≡ e
accepted_unique d e p q same = sym (accepted_text d p) ∙ ap dump_text (fun_ext same) ∙ accepted_text e q

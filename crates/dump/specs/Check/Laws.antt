-- What each answer says of a line. Assumes nothing.
use Rattle.std.specs.Prelude.{◌≡◌, refl, true, false, List, ℕ, zero, suc, ◌+◌, ◌-◌, ◌≤◌, ◌<◌, get_or, Ok, Err}
use Rattle.std.proofs.Math.Bool.{and-false}
use Rattle.std.proofs.Common.{add-one, arith}
use borrow.Author.Tests.{eq-eqb, ne_eqb}
use Rattle.std.proofs.Math.ListN.{length}
use Rattle.std.specs.Result.{result_and}
use Rattle.answer.specs.Answer.{Answer, answer_number}
use Rattle.answer.specs.declared.Refusal.{Refusal}
use Rattle.answer.specs.declared.Refusal.TheVariants.{DumpForm, LinePage, LineCrc}
use Rattle.crc.specs.Crc.{sent_low, sent_high}
use Rattle.hexadecimal.specs.Hex.{all_digits}
use Rattle.dump.specs.Lines.{bytes_in, page_in, data_in, crc_in, dumped_at, data_lines, memory_at}
use Rattle.dump.specs.Lines.Memory.{length_data_lines, memory_dumped}
use Rattle.dump.specs.Check.{formed, crc_right, check_text, check_line, first_refusal, check_lines, check_of, read_text, read_of}

-- ---- a line's form

pub formed_not_long : (text : List ℕ) → (length text ≡ 73 → ⊥) → formed text ≡ false
unfolding formed
formed_not_long text h = rw (ne_eqb (length text) 73 h)

pub formed_not_digits : (text : List ℕ) → all_digits text 0 36 ≡ false → formed text ≡ false
unfolding formed
formed_not_digits text h = simp (h, and-false)

pub formed_not_ended : (text : List ℕ) → (get_or text 72 0 ≡ 0x0A → ⊥) → formed text ≡ false
unfolding formed
formed_not_ended text h = simp (ne_eqb (get_or text 72 0) 0x0A h, and-false)

pub formed_whole : (text : List ℕ) → length text ≡ 73 → all_digits text 0 36 ≡ true → get_or text 72 0 ≡ 0x0A → formed text ≡ true
unfolding formed
formed_whole text long digits ended = simp (eq-eqb (length text) 73 long, digits, eq-eqb (get_or text 72 0) 0x0A ended)

-- ---- a line's CRC bytes

pub crc_both : (bytes : List ℕ) → get_or bytes 34 0 ≡ sent_low (crc_in bytes) → get_or bytes 35 0 ≡ sent_high (crc_in bytes)
    → crc_right bytes ≡ true
unfolding crc_right
crc_both bytes first second =
    simp (
      eq-eqb (get_or bytes 34 0) (sent_low (crc_in bytes)) first,
      eq-eqb (get_or bytes 35 0) (sent_high (crc_in bytes)) second,
    )

-- ---- the answer on a line

pub check_form : (text : List ℕ) (page : ℕ) → formed text ≡ false → check_text text page ≡ Err DumpForm
unfolding check_text
check_form text page f = rw f

module _ (text : List ℕ) (page : ℕ) {bytes : List ℕ} (read : bytes_in text ≡ bytes) (whole : formed text ≡ true) where
  pub check_page : (page_in bytes ≡ page → ⊥) → check_text text page ≡ Err LinePage
  unfolding check_text
  check_page h = simp (whole, read, ne_eqb (page_in bytes) page h)

  module _ (right : page_in bytes ≡ page) where
    pub check_crc : crc_right bytes ≡ false → check_text text page ≡ Err LineCrc
    unfolding check_text
    check_crc h = simp (whole, read, eq-eqb (page_in bytes) page right, h)

    pub check_accepted : crc_right bytes ≡ true → check_text text page ≡ Ok tt
    unfolding check_text
    check_accepted h = simp (whole, read, eq-eqb (page_in bytes) page right, h)

-- ---- line by line

pub first_refused : (a b : Answer) → (answer_number a ≡ 0 → ⊥) → first_refusal a b ≡ a
unfolding first_refusal
first_refused a b h = rw (ne_eqb (answer_number a) 0 h)

pub first_accepted : (a b : Answer) → answer_number a ≡ 0 → first_refusal a b ≡ b
unfolding first_refusal
first_accepted a b h = rw (eq-eqb (answer_number a) 0 h)

pub lines_more : (dump : List ℕ) (line count : ℕ) → 0 < count
    → check_lines dump line count ≡ first_refusal (check_line dump line) (check_lines dump (line + 1) (count - 1))
unfolding check_lines
lines_more dump line zero h = absurd (omega arith)
lines_more dump line (suc count) h = let less : suc count - 1 ≡ count = omega arith in rw (less, add-one)

pub lines_none : (dump : List ℕ) (line count : ℕ) → count ≤ 0 → check_lines dump line count ≡ Ok tt
unfolding check_lines
lines_none dump line zero h = refl
lines_none dump line (suc count) h = absurd (omega arith)

-- ---- the whole dump

pub check_length : (dump : List ℕ) → (length dump ≡ 18834 → ⊥) → check_of dump ≡ Err DumpForm
unfolding check_of
check_length dump h = rw (ne_eqb (length dump) 18834 h)

pub check_lines_lem : (dump : List ℕ) → length dump ≡ 18834 → check_of dump ≡ check_lines dump 0 258
unfolding check_of
check_lines_lem dump h = rw (eq-eqb (length dump) 18834 h)

-- ---- what is read

-- bytes that come with an answer: it refused, or it accepted and they are those
pub and_refused : (answer : Answer) (bytes : List ℕ) {refusal : Refusal} → result_and answer (Ok bytes) ≡ Err refusal → answer ≡ Err refusal
and_refused (Ok accepted) bytes e = cc
and_refused (Err refusal) bytes e = cc

pub and_accepted : (answer : Answer) (bytes : List ℕ) {read : List ℕ} → result_and answer (Ok bytes) ≡ Ok read
    → (answer ≡ Ok tt) × (read ≡ bytes)
and_accepted (Ok accepted) bytes e = (refl, cc)
and_accepted (Err refusal) bytes e = (cc, cc)

module _ (text : List ℕ) (page : ℕ) where
  pub text_refused : {refusal : Refusal} → check_text text page ≡ Err refusal → read_text text page ≡ Err refusal
  unfolding read_text
  text_refused e = rw e

  pub text_accepted : check_text text page ≡ Ok tt → read_text text page ≡ Ok (data_in (bytes_in text))
  unfolding read_text
  text_accepted e = rw e

module _ (dump : List ℕ) where
  pub read_refused : {refusal : Refusal} → check_of dump ≡ Err refusal → read_of dump ≡ Err refusal
  unfolding read_of
  read_refused e = rw e

  pub read_accepted : check_of dump ≡ Ok tt → read_of dump ≡ Ok (data_lines dump 0 258)
  unfolding read_of
  read_accepted e = rw e

  -- it tells the answer
  pub answer_read : result_and (read_of dump) (Ok tt) ≡ check_of dump
  unfolding read_of
  answer_read = told (check_of dump)
    where
      told : (answer : Answer) → result_and (result_and answer (Ok (data_lines dump 0 258))) (Ok tt) ≡ answer
      told (Ok accepted) = refl
      told (Err refusal) = refl

  -- 8,256 bytes, where it is accepted
  pub length_read : {memory : List ℕ} → read_of dump ≡ Ok memory → length memory ≡ 8256
  unfolding read_of
  length_read e = rw (and_accepted (check_of dump) (data_lines dump 0 258) e).1 (length_data_lines dump 0 258)

  -- and they are the dumped ones
  pub memory_read : {memory : List ℕ} → read_of dump ≡ Ok memory → memory_at memory ≡ dumped_at dump
  unfolding read_of
  memory_read e = rw (and_accepted (check_of dump) (data_lines dump 0 258) e).1 (memory_dumped dump)

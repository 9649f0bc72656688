-- The round trip: a dump that is written is accepted, and gives back every byte. Assumes nothing.
use Rattle.std.specs.Prelude.{◌≡◌, refl, true, Ok, ℕ, zero, suc, ◌+◌, ◌-◌, ◌*◌, ◌/◌, ◌%◌, ◌≤◌, ◌<◌, length, get_or}
use Rattle.std.proofs.Common.{sym, ap, ◌∙◌, add-zero, zero-add, add-suc, suc-add, arith}
use mathlib.Core.List.{List, [], ◌∷◌}
use Rattle.std.proofs.lemmas.List.{get_or_at}
use Rattle.answer.specs.Answer.{answer_number}
use Rattle.crc.specs.Crc.{sent_low, sent_high}
use Rattle.hexadecimal.specs.Hex.{hex_text}
use Rattle.hexadecimal.specs.Hex.Text.{length_text, digits_text}
use Rattle.dump.specs.Lines.{page_of, line_bytes, line_of, bytes_from, dump_text, data_of, dumped_at}
use Rattle.dump.specs.Lines.Laws.{page_register, page_log, dumped_page}
use Rattle.dump.specs.Lines.Written.{length_from, from_at, from_small, length_line_bytes, page_in_line, data_in_line, crc_in_line, crc_first, crc_second, line_bytes_small, length_line, bytes_in_line, page_lt, length_dump, line_at_lem}
use Rattle.dump.specs.Check.{formed, check_text, check_line, check_lines, check_of}
use Rattle.dump.specs.Check.Laws.{formed_whole, crc_both, check_accepted, first_accepted, check_lines_lem}

-- ---- a line

module _ (page : ℕ) (bytes : List ℕ) (long : length bytes ≡ 32) (fits : page < 65536)
    (small : (i : ℕ) → get_or bytes i 0 < 256) where
  pub line_formed : formed (line_of page bytes) ≡ true
  unfolding line_of
  line_formed =
      let all = line_bytes (page / 256) (page % 256) bytes in
      let there = length_line_bytes (page / 256) (page % 256) bytes long in
      let all_small = line_bytes_small (page / 256) (page % 256) bytes long (omega arith) (omega arith) small in
      formed_whole (line_of page bytes) (length_line page bytes long)
      (digits_text all (0x0A ∷ []) all_small 0 36 (omega arith))
      (get_or_at (hex_text all) 0x0A [] 0 72 (omega (arith, length_text all)))

  pub line_accepted : check_text (line_of page bytes) page ≡ Ok tt
  line_accepted =
      let high = page / 256 in
      let low = page % 256 in
      let whole : high * 256 + low ≡ page = omega arith in
      let crc = crc_in_line high low bytes long in
      check_accepted (line_of page bytes) page (bytes_in_line page bytes long fits small) line_formed
      (page_in_line high low bytes long ∙ whole)
      (crc_both (line_bytes high low bytes)
      (crc_first high low bytes long ∙ ap sent_low (sym crc))
      (crc_second high low bytes long ∙ ap sent_high (sym crc)))

-- ---- line by line

pub lines_accepted : (dump : List ℕ) (line count : ℕ) → ((k : ℕ) → k < count → check_line dump (line + k) ≡ Ok tt)
    → check_lines dump line count ≡ Ok tt
unfolding check_lines
lines_accepted dump line zero all = refl
lines_accepted dump line (suc count) all =
    let first : check_line dump line ≡ Ok tt = rw add-zero at (all 0 (omega arith)) in
    first_accepted (check_line dump line) (check_lines dump (suc line) count) (ap answer_number first)
    ∙ lines_accepted dump (suc line) count (λ k h. rw (suc-add, ← add-suc) (all (suc k) (omega arith)))

-- ---- the dump of a memory

module _ (byte : ℕ → ℕ) (small : (a : ℕ) → byte a < 256) where
  pub check_written : check_of (dump_text byte) ≡ Ok tt
  unfolding check_line
  check_written =
      check_lines_lem (dump_text byte) (length_dump byte) ∙ lines_accepted (dump_text byte) 0 258 each
    where
      each : (k : ℕ) → k < 258 → check_line (dump_text byte) (0 + k) ≡ Ok tt
      each k h =
          let page = page_of k in
          rw (zero-add, line_at_lem byte k h)
          (line_accepted page (bytes_from byte page 32) (length_from byte page 32) (page_lt k) (from_small byte small page 32))

  pub data_written : (line i : ℕ) → line < 258 → i < 32 → data_of (dump_text byte) line i ≡ byte (page_of line + i)
  unfolding data_of
  data_written line i h k =
      let page = page_of line in
      let bytes = bytes_from byte page 32 in
      let long = length_from byte page 32 in
      rw (
        line_at_lem byte line h,
        bytes_in_line page bytes long (page_lt line) (from_small byte small page 32),
        data_in_line (page / 256) (page % 256) bytes long,
      )
      (from_at byte page 32 i k)

  -- for an address in the page of a line, and so for any that is dumped: what the memory has there
  dumped_written : (line i : ℕ) {address : ℕ} → line < 258 → i < 32 → page_of line + i ≡ address
      → dumped_at (dump_text byte) address ≡ byte address
  dumped_written line i h k there =
      rw there at (dumped_page (dump_text byte) line i h k ∙ data_written line i h k)

  pub dumped_written_register : (address : ℕ) → 0x0200 ≤ address → address < 0x0240
      → dumped_at (dump_text byte) address ≡ byte address
  dumped_written_register address h k =
      let line = (address - 0x0200) / 32 in
      dumped_written line (address % 32) (omega arith) (omega arith) (rw (page_register line (omega arith)) (omega arith))

  pub dumped_written_log : (address : ℕ) → 0x1000 ≤ address → address < 0x3000 → dumped_at (dump_text byte) address ≡ byte address
  dumped_written_log address h k =
      let line = 2 + (address - 0x1000) / 32 in
      dumped_written line (address % 32) (omega arith) (omega arith) (rw (page_log line (omega arith) (omega arith)) (omega arith))

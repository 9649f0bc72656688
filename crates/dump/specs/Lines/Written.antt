-- A dump that is written: its lines one by one, and in each its page, its data and its CRC. Assumes nothing.
use Rattle.std.specs.Prelude.{◌≡◌, List, [], ◌∷◌, ◌++◌, ltb, get_or, take, drop}
use Rattle.std.proofs.Math.Path.{refl, ap}
use Rattle.std.proofs.Common.{◌∙◌, suc-add, arith, ltb-true, length-append, get_or-append-add}
use Prim.Native.Nat.{ℕ, zero, suc, ◌+◌, ◌*◌, ◌/◌, ◌%◌, ◌<◌}
use Rattle.std.proofs.Math.Nat.{add-zero, zero-add, add-suc}
use Rattle.std.proofs.Math.ListN.{length}
use Rattle.std.proofs.Math.Seq.{take_at, take_all, drop-append-add, get_or_at}
use Rattle.bits.specs.Choose.{either}
use Rattle.crc.specs.Crc.{sent_low, sent_high}
use Rattle.hexadecimal.specs.Hex.{hex_text}
use Rattle.hexadecimal.specs.Hex.Text.{length_text, bytes_text}
use Rattle.dump.specs.Lines.{page_of, page_crc, line_bytes, line_of, bytes_from, lines_from, dump_text, line_at, bytes_in, page_in, data_in, crc_in}

-- ---- bytes of a memory

pub length_from : (byte : ℕ → ℕ) (address count : ℕ) → length (bytes_from byte address count) ≡ count
unfolding bytes_from
length_from byte address zero = refl
length_from byte address (suc count) = ap suc (length_from byte (suc address) count)

pub from_at : (byte : ℕ → ℕ) (address count i : ℕ) → i < count → get_or (bytes_from byte address count) i 0 ≡ byte (address + i)
unfolding bytes_from
from_at byte address zero i h = absurd (omega arith)
from_at byte address (suc count) zero h = rw add-zero
from_at byte address (suc count) (suc i) h = rw (add-suc, ← suc-add) (from_at byte (suc address) count i (omega arith))

pub from_small : (byte : ℕ → ℕ) → ((a : ℕ) → byte a < 256) → (address count i : ℕ)
    → get_or (bytes_from byte address count) i 0 < 256
unfolding bytes_from
from_small byte small address zero i = omega arith
from_small byte small address (suc count) zero = small address
from_small byte small address (suc count) (suc i) = from_small byte small (suc address) count i

-- ---- the 36 bytes of a line

-- what is small in two lists is small in both joined
small_append : (xs ys : List ℕ) → ((i : ℕ) → get_or xs i 0 < 256) → ((i : ℕ) → get_or ys i 0 < 256) → (i : ℕ)
    → get_or (xs ++ ys) i 0 < 256
small_append [] ys xs-small ys-small i = ys-small i
small_append (x ∷ xs) ys xs-small ys-small zero = xs-small 0
small_append (x ∷ xs) ys xs-small ys-small (suc i) = small_append xs ys (λ j. xs-small (suc j)) ys-small i

module _ (high low : ℕ) (bytes : List ℕ) (long : length bytes ≡ 32) where
  pub length_line_bytes : length (line_bytes high low bytes) ≡ 36
  unfolding line_bytes
  length_line_bytes = rw (length-append, long)

  pub page_in_line : page_in (line_bytes high low bytes) ≡ high * 256 + low
  unfolding line_bytes page_in
  page_in_line = refl

  pub data_in_line : data_in (line_bytes high low bytes) ≡ bytes
  unfolding line_bytes data_in
  data_in_line = take_at bytes _ 32 long

  pub crc_in_line : crc_in (line_bytes high low bytes) ≡ page_crc high low bytes
  unfolding crc_in line_bytes
  crc_in_line = ap (page_crc high low) data_in_line

  pub crc_first : get_or (line_bytes high low bytes) 34 0 ≡ sent_low (page_crc high low bytes)
  unfolding line_bytes
  crc_first = get_or_at bytes _ _ 0 32 long

  pub crc_second : get_or (line_bytes high low bytes) 35 0 ≡ sent_high (page_crc high low bytes)
  unfolding line_bytes
  crc_second =
      let crc = page_crc high low bytes in
      rw long at (get_or-append-add bytes (sent_low crc ∷ sent_high crc ∷ []) 1 0)

  pub line_bytes_small : high < 256 → low < 256 → ((i : ℕ) → get_or bytes i 0 < 256) → (i : ℕ)
      → get_or (line_bytes high low bytes) i 0 < 256
  unfolding line_bytes sent_low sent_high
  line_bytes_small high_small low_small small zero = high_small
  line_bytes_small high_small low_small small (suc zero) = low_small
  line_bytes_small high_small low_small small (suc (suc i)) = small_append bytes (sent_low crc ∷ sent_high crc ∷ []) small lasts i
    where
      crc : ℕ
      crc = page_crc high low bytes

      lasts : (i : ℕ) → get_or (sent_low crc ∷ sent_high crc ∷ []) i 0 < 256
      lasts zero = omega arith
      lasts (suc zero) = omega arith
      lasts (suc (suc i)) = omega arith

-- ---- the text of a line

module _ (page : ℕ) (bytes : List ℕ) (long : length bytes ≡ 32) where
  pub length_line : length (line_of page bytes) ≡ 73
  unfolding line_of
  length_line =
      let all = line_bytes (page / 256) (page % 256) bytes in
      rw (length-append (hex_text all) (0x0A ∷ []), length_text all, length_line_bytes (page / 256) (page % 256) bytes long)

  module _ (fits : page < 65536) (small : (i : ℕ) → get_or bytes i 0 < 256) where
    pub bytes_in_line : bytes_in (line_of page bytes) ≡ line_bytes (page / 256) (page % 256) bytes
    unfolding line_of
    bytes_in_line =
        let high = page / 256 in
        let low = page % 256 in
        let all = line_bytes high low bytes in
        let there = length_line_bytes high low bytes long in
        let all_small = line_bytes_small high low bytes long (omega arith) (omega arith) small in
        bytes_text all (0x0A ∷ []) all_small 0 36 (omega arith) ∙ take_all 36 all (omega arith)

-- ---- the lines of a dump

pub page_lt : (line : ℕ) → page_of line < 65536
unfolding page_of
page_lt line =
    either (λ n. n < 65536) (ltb line 2) (λ t. omega (arith, ltb-true line 2 t))
    (λ t. either (λ n. n < 65536) (ltb line 258) (λ u. omega (arith, ltb-true line 258 u)) (λ u. omega arith))

module _ (byte : ℕ → ℕ) where
  -- the line of a place
  abbrev line_for : ℕ → List ℕ
  line_for line = line_of (page_of line) (bytes_from byte (page_of line) 32)

  length_for : (line : ℕ) → length (line_for line) ≡ 73
  length_for line = length_line (page_of line) (bytes_from byte (page_of line) 32) (length_from byte (page_of line) 32)

  pub length_lines : (line count : ℕ) → length (lines_from byte line count) ≡ 73 * count
  unfolding lines_from
  length_lines line zero = refl
  length_lines line (suc count) = rw (length-append, length_for line, length_lines (suc line) count) (omega arith)

  -- line k of the lines from a line on
  pub line_of_lines : (line count k : ℕ) → k < count
      → take 73 (drop (73 * k) (lines_from byte line count)) ≡ line_of (page_of (line + k)) (bytes_from byte (page_of (line + k)) 32)
  unfolding lines_from
  line_of_lines line zero k h = absurd (omega arith)
  line_of_lines line (suc count) zero h =
      rw add-zero (take_at (line_for line) (lines_from byte (suc line) count) 73 (length_for line))
  line_of_lines line (suc count) (suc k) h =
      let past : 73 * suc k ≡ length (line_for line) + 73 * k = omega (arith, length_for line) in
      rw (past, drop-append-add (line_for line) (lines_from byte (suc line) count) (73 * k), add-suc, ← suc-add)
      (line_of_lines (suc line) count k (omega arith))

  pub length_dump : length (dump_text byte) ≡ 18834
  unfolding dump_text
  length_dump = length_lines 0 258

  pub line_at_lem : (line : ℕ) → line < 258 → line_at (dump_text byte) line ≡ line_of (page_of line) (bytes_from byte (page_of line) 32)
  unfolding dump_text line_at
  line_at_lem line h = rw zero-add at (line_of_lines 0 258 line h)

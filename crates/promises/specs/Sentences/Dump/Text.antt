-- The listing's text is written from what the dump's own characters say. Assumes nothing.
use Rattle.std.specs.Prelude.{List, ◌∷◌, ◌++◌, ◌≡◌, eqb, ltb, ℤ, pos, negsuc, length, get_or}
use Rattle.std.proofs.Common.{append_assoc, sym, ◌∙◌, arith}
use Rattle.std.proofs.Math.Path.{refl}
use Prim.Native.Nat.{ℕ, zero, suc, ◌+◌, ◌-◌, ◌/◌, ◌^◌, ◌≤◌, ◌<◌}
use Rattle.std.proofs.Math.Nat.{add-zero, add-suc}
use Rattle.std.proofs.Math.IntN.{sub_ℕ}
use Rattle.bits.specs.Choose.{choice}
use Rattle.dock.specs.Listing.{listing_of, temperatures_of}
use Rattle.hexadecimal.specs.Hex.{hex_digit, hex_of, hex_text}
use Rattle.text.specs.Text as text
use Rattle.text.specs.Text.{twos_complement, head_line, entry_line, listing_text}
use Rattle.text.specs.Text.Laws.{temperature_digits}
use Rattle.promises.specs.Sentences.Dump.{dumped, dump_number, listed_by}
use Rattle.promises.specs.Sentences.Listing.{digits_of, signed, entries, held, reading_at, temperature_at, seconds_for, first_line, entry_lines}
use Rattle.promises.specs.Sentences.Dump.Listed.{seconds_is, listing_is, place_held}

-- ---- numbers

-- the last digits of a number
digits_are : (count n : ℕ) → digits_of count n ≡ hex_of count n
unfolding digits_of hex_of hex_digit
digits_are zero n = refl
digits_are (suc count) n = rw (digits_are count (n / 16))

-- sixteen digits write all of a signed number
seconds_digits : (z : ℤ) → hex_of 16 (twos_complement z) ≡ digits_of 16 (signed 16 z)
unfolding twos_complement
seconds_digits (pos n) = sym (digits_are 16 n)
seconds_digits (negsuc n) = sym (digits_are 16 (16 ^ 16 - suc n))

-- and four one that is not below -65,536
four_digits : (r c : ℕ) → c < 2 ^ 16 → hex_of 4 (twos_complement (sub_ℕ r c)) ≡ digits_of 4 (signed 4 (sub_ℕ r c))
unfolding twos_complement
four_digits r c small =
    choice (λ (z : ℤ). hex_of 4 (twos_complement z) ≡ digits_of 4 (signed 4 z)) (ltb r c)
    (temperature_digits (c - suc r) (omega arith) ∙ sym (digits_are 4 (16 ^ 4 - suc (c - suc r)))) (sym (digits_are 4 (r - c)))

-- so they do a temperature
temperature_four : (byte : ℕ → ℕ) (k : ℕ) → hex_of 4 (twos_complement (temperature_at byte k)) ≡ digits_of 4 (signed 4 (temperature_at byte k))
unfolding temperature_at
temperature_four byte k =
    choice (λ (z : ℤ). hex_of 4 (twos_complement z) ≡ digits_of 4 (signed 4 z)) (eqb (byte 0x0226) 0x40)
    (four_digits (reading_at byte k) 656 (omega arith)) (four_digits (reading_at byte k) 16 (omega arith))

-- ---- lines

-- the first line, an entry's, and those of some entries
head_is : (byte : ℕ → ℕ) → head_line (listed_by byte) ≡ first_line byte
unfolding head_line first_line hex_text hex_of hex_digit digits_of
head_is byte = refl

entry_is : (k : ℕ) (seconds temperature : ℤ) (rest : List ℕ)
    → hex_of 4 (twos_complement temperature) ≡ digits_of 4 (signed 4 temperature)
    → entry_line k seconds temperature ++ rest
    ≡ digits_of 8 k ++ (digits_of 16 (signed 16 seconds) ++ (digits_of 4 (signed 4 temperature) ++ (0x0A ∷ rest)))
unfolding entry_line
entry_is k seconds temperature rest e = rw (digits_are 8 k, ← seconds_digits seconds, ← e) (simp append_assoc)

module _ (byte : ℕ → ℕ) (temperatures : List ℤ)
    (each : (i : ℕ) → i < held byte → get_or temperatures i (pos 0) ≡ temperature_at byte (entries byte - held byte + i)) where
  lines_are : (i count : ℕ) → i + count ≤ held byte
      → text.entry_lines (listed_by byte) temperatures i count ≡ entry_lines byte (entries byte - held byte + i) count
  unfolding text.entry_lines entry_lines
  lines_are i zero h = refl
  lines_are i (suc count) h =
      let k = entries byte - held byte + i in
      rw (seconds_is byte i, each i (omega arith), lines_are (suc i) count (omega arith), add-suc (entries byte - held byte) i)
      (entry_is k (seconds_for byte k) (temperature_at byte k) (entry_lines byte (suc k) count) (temperature_four byte k))

  listed_text : listing_text (listed_by byte) temperatures ≡ first_line byte ++ entry_lines byte (entries byte - held byte) (held byte)
  unfolding listing_text
  listed_text = rw (head_is byte, lines_are 0 (held byte) (omega arith), add-zero (entries byte - held byte))

-- the whole text of a dump that is accepted
pub text_is : (dump : List ℕ) (lent : List ℤ) → dump_number dump (length lent) ≡ 0 → let byte = dumped dump in
    listing_text (listing_of dump (length lent)) (temperatures_of dump lent) ≡ first_line byte ++ entry_lines byte (entries byte - held byte) (held byte)
text_is dump lent accepted =
    rw (listing_is dump lent accepted) (listed_text (dumped dump) (temperatures_of dump lent) (place_held dump lent accepted))

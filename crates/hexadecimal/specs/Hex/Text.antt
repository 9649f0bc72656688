-- Bytes and their text lead back to each other. Assumes nothing.
use Rattle.std.specs.Prelude.{◌≡◌, true, false, ◌&&◌, List, [], ◌∷◌, ◌++◌, get_or, take, drop, set}
use Rattle.std.proofs.Math.Path.{refl}
use Rattle.std.proofs.Common.{sym, ap, ◌∙◌, suc-add, add-one, take-suc, take-suc-set, take_all}
use Rattle.std.proofs.Math.Bool.{and-eq-true_iff}
use Prim.Native.Nat.{ℕ, zero, suc, ◌+◌, ◌-◌, ◌*◌, ◌/◌, ◌%◌, ◌≤◌, ◌<◌}
use native.Mathlib.Omega.{arith}
use Rattle.std.proofs.Math.Numerals.{add-two}
use Rattle.std.proofs.Math.ListN.{length}
use Rattle.std.proofs.Math.Seq.{drop-cons}
use Rattle.hexadecimal.specs.Hex.{hex_digit, hex_of, hex_text, nibble_of, pair_of, pair_at, is_byte, byte_of, all_digits, bytes_at}
use Rattle.hexadecimal.specs.Hex.Laws.{digit_mod, digit_nibble, pair_byte, pair_hex, pair_small, pair_digits}
use Rattle.hexadecimal.specs.declared.Pair.TheVariants.{Byte, Bad}

-- ---- bytes as text

pub text_cons : (b : ℕ) (bs : List ℕ) → hex_text (b ∷ bs) ≡ hex_digit (b / 16) ∷ hex_digit b ∷ hex_text bs
unfolding hex_text hex_of
text_cons b bs = refl

pub length_text : (bytes : List ℕ) → length (hex_text bytes) ≡ 2 * length bytes
unfolding hex_text hex_of
length_text [] = refl
length_text (b ∷ bs) = omega (arith, length_text bs)

-- the pair of place k is byte k
pub pair_text : (bytes rest : List ℕ) (k : ℕ) → k < length bytes → get_or bytes k 0 < 256
    → pair_at (hex_text bytes ++ rest) (2 * k) ≡ Byte (get_or bytes k 0)
unfolding pair_at
pair_text [] rest k h small = absurd (omega arith)
pair_text (b ∷ bs) rest zero h small = rw text_cons (pair_hex b small)
pair_text (b ∷ bs) rest (suc k) h small =
    let two : 2 * suc k ≡ suc (suc (2 * k)) = omega arith in
    rw (text_cons, two, suc-add, suc-add) (pair_text bs rest k (omega arith) small)

module _ (bytes rest : List ℕ) (small : (i : ℕ) → get_or bytes i 0 < 256) where
  -- so the pairs from place k on are all digits, and are the bytes from k on
  pub digits_text : (k n : ℕ) → k + n ≤ length bytes → all_digits (hex_text bytes ++ rest) (2 * k) n ≡ true
  unfolding all_digits
  digits_text k zero h = refl
  digits_text k (suc n) h =
      let next : 2 * k + 2 ≡ 2 * suc k = omega arith in
      rw (pair_text bytes rest k (omega arith) (small k), next) (digits_text (suc k) n (omega arith))

  pub bytes_text : (k n : ℕ) → k + n ≤ length bytes → bytes_at (hex_text bytes ++ rest) (2 * k) n ≡ take n (drop k bytes)
  unfolding bytes_at
  bytes_text k zero h = refl
  bytes_text k (suc n) h =
      let next : 2 * k + 2 ≡ 2 * suc k = omega arith in
      let inside : k < length bytes = omega arith in
      rw (pair_text bytes rest k inside (small k), next, bytes_text (suc k) n (omega arith), drop-cons bytes k 0 inside)

-- ---- text as bytes

pub length_bytes : (text : List ℕ) (at n : ℕ) → length (bytes_at text at n) ≡ n
unfolding bytes_at
length_bytes text at zero = refl
length_bytes text at (suc n) = ap suc (length_bytes text (at + 2) n)

-- the pair at a place, and those after it
pub all_more : (text : List ℕ) (at n : ℕ) → 0 < n
    → all_digits text at n ≡ (is_byte (pair_at text at) && all_digits text (at + 2) (n - 1))
unfolding all_digits
all_more text at zero h = absurd (omega arith)
all_more text at (suc n) h = let less : suc n - 1 ≡ n = omega arith in rw less

-- byte i is that of pair i
pub bytes_at_lem : (text : List ℕ) (at n i : ℕ) → i < n → get_or (bytes_at text at n) i 0 ≡ byte_of (pair_at text (at + 2 * i))
unfolding bytes_at
bytes_at_lem text at zero i h = absurd (omega arith)
bytes_at_lem text at (suc n) zero h = let here : at ≡ at + 2 * 0 = omega arith in ap (λ (p : ℕ). byte_of (pair_at text p)) here
bytes_at_lem text at (suc n) (suc i) h =
    let next : at + 2 + 2 * i ≡ at + 2 * suc i = omega arith in
    bytes_at_lem text (at + 2) n i (omega arith) ∙ ap (λ (p : ℕ). byte_of (pair_at text p)) next

pub bytes_small : (text : List ℕ) (at n i : ℕ) → get_or (bytes_at text at n) i 0 < 256
unfolding bytes_at pair_at
bytes_small text at zero i = omega arith
bytes_small text at (suc n) zero = pair_small (get_or text at 0) (get_or text (at + 1) 0)
bytes_small text at (suc n) (suc i) = bytes_small text (at + 2) n i

-- two digits that are a byte are its text
pair_written : (high low : ℕ) → is_byte (pair_of high low) ≡ true
    → (hex_digit (byte_of (pair_of high low) / 16) ≡ high) × (hex_digit (byte_of (pair_of high low)) ≡ low)
pair_written high low e =
    let digits = pair_digits high low e in
    let b = nibble_of high * 16 + nibble_of low in
    let top : b / 16 ≡ nibble_of high = omega arith in
    let end : b % 16 ≡ nibble_of low = omega arith in
    rw (pair_byte high low digits.0 digits.1)
    (rw top (digit_nibble high digits.0), sym (digit_mod b) ∙ rw end (digit_nibble low digits.1))

-- pairs that are all digits are the text of their bytes
pub text_bytes : (text : List ℕ) (at n : ℕ) → at + 2 * n ≤ length text → all_digits text at n ≡ true
    → hex_text (bytes_at text at n) ≡ take (2 * n) (drop at text)
unfolding bytes_at all_digits hex_text hex_of pair_at
text_bytes text at zero h e = refl
text_bytes text at (suc n) h e =
    let both = (and-eq-true_iff (is_byte (pair_at text at)) (all_digits text (at + 2) n)).0 e in
    let written = pair_written (get_or text at 0) (get_or text (at + 1) 0) both.0 in
    let two : 2 * suc n ≡ suc (suc (2 * n)) = omega arith in
    let first : at < length text = omega arith in
    let second : suc at < length text = omega arith in
    rw (
      written.0,
      written.1,
      text_bytes text (at + 2) n (omega arith) both.1,
      two,
      drop-cons text at 0 first,
      drop-cons text (suc at) 0 second,
      add-one,
      add-two,
    )

-- ---- n pairs read one after the other into a list

module _ (text : List ℕ) (n i : ℕ) where
  module _ (inside : i < n) where
    -- the next one is no byte: not all are digits
    pub read_bad : pair_at text (2 * i) ≡ Bad → all_digits text (2 * i) (n - i) ≡ false
    read_bad bad = all_more text (2 * i) (n - i) (omega arith) ∙ rw bad

    -- it is one: it takes its place in the list, and those after it are left
    pub read_byte : {b : ℕ} → pair_at text (2 * i) ≡ Byte b
        → all_digits text (2 * (i + 1)) (n - (i + 1)) ≡ all_digits text (2 * i) (n - i)
    read_byte byte =
        let next : 2 * (i + 1) ≡ 2 * i + 2 = omega arith in
        let less : n - (i + 1) ≡ n - i - 1 = omega arith in
        rw (next, less, all_more text (2 * i) (n - i) (omega arith), byte)

    pub read_more : (bytes : List ℕ) {b : ℕ} → length bytes ≡ n → pair_at text (2 * i) ≡ Byte b
        → take i bytes ≡ take i (bytes_at text 0 n) → take (i + 1) (set bytes i b) ≡ take (i + 1) (bytes_at text 0 n)
    read_more bytes {b} long byte so_far =
        let all = bytes_at text 0 n in
        let place : 0 + 2 * i ≡ 2 * i = omega arith in
        let here : get_or all i 0 ≡ b = bytes_at_lem text 0 n i inside ∙ rw (place, byte) in
        let within : i < length bytes = omega arith in
        let within_all : i < length all = omega (arith, length_bytes text 0 n) in
        rw (add-one, take-suc-set bytes i b within, take-suc all i 0 within_all, so_far, here)

  -- all are read
  pub read_all : (bytes : List ℕ) → length bytes ≡ n → n ≤ i → take i bytes ≡ take i (bytes_at text 0 n)
      → bytes ≡ bytes_at text 0 n
  read_all bytes long past so_far =
      let all = bytes_at text 0 n in
      sym (take_all i bytes (omega arith)) ∙ so_far ∙ take_all i all (omega (arith, length_bytes text 0 n))

  pub read_done : n ≤ i → all_digits text (2 * i) (n - i) ≡ true
  unfolding all_digits
  read_done past = let none : n - i ≡ 0 = omega arith in rw none

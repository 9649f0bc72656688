-- Digits and the numbers that they stand for lead back to each other. Assumes nothing.
use Rattle.std.specs.Prelude.{◌≡◌, refl, Some, None, Bool, true, false, List, [], ◌∷◌, ℕ, zero, suc, ◌+◌, ◌-◌, ◌*◌, ◌/◌, ◌%◌, ◌≤◌, ◌<◌, ltb, eqb, length, get_or, drop, if◌then◌else◌}
use Rattle.std.proofs.Common.{sym, ◌∙◌, arith, lt-ltb, le-ltb, le-leb, ltb-true, eqb→eq, length-append, length-drop, take_all, add-zero}
use Rattle.std.proofs.Math.Bool.{and-eq-true_iff, and-false}
use Rattle.std.proofs.Math.Nat.{mod-mod}
use Rattle.std.proofs.Math.Decide.{dec_lt}
use Rattle.std.proofs.lemmas.Bool.{lt-leb}
use Rattle.std.specs.List.{slice_range}
use Rattle.std.proofs.lemmas.List.{get_or-drop}
use Rattle.std.proofs.lemmas.Option.{cond_some, none-some}
use Rattle.std.proofs.Math.ListN.{get_or-eq_default}
use Rattle.bits.specs.Each.{each_at}
use Rattle.hexadecimal.specs.Hex.{hex_digit, hex_of, nibble_of, digit_of, pair_of, pair_at, is_byte, byte_of}
use Rattle.hexadecimal.specs.declared.Pair.TheVariants.{Byte, Bad}

-- ---- one digit

-- only the low four bits count
pub digit_mod : (n : ℕ) → hex_digit (n % 16) ≡ hex_digit n
unfolding hex_digit
digit_mod n = rw (mod-mod n 16)

-- what a character is worth, by where it lies
pub nibble_decimal : (c : ℕ) → 0x30 ≤ c → c ≤ 0x39 → nibble_of c ≡ c - 0x30
unfolding nibble_of
nibble_decimal c h k = simp (le-leb 0x30 c h, le-leb c 0x39 k)

pub nibble_letter : (c : ℕ) → 0x41 ≤ c → c ≤ 0x46 → nibble_of c ≡ c - 0x37
unfolding nibble_of
nibble_letter c h k = simp (le-leb 0x30 c (omega arith), lt-leb c 0x39 (omega arith), le-leb 0x41 c h, le-leb c 0x46 k)

pub nibble_below : (c : ℕ) → c < 0x30 → nibble_of c ≡ 16
unfolding nibble_of
nibble_below c h = simp (lt-leb 0x30 c h, lt-leb 0x41 c (omega arith))

pub nibble_between : (c : ℕ) → 0x39 < c → c < 0x41 → nibble_of c ≡ 16
unfolding nibble_of
nibble_between c h k = simp (le-leb 0x30 c (omega arith), lt-leb c 0x39 h, lt-leb 0x41 c k)

pub nibble_above : (c : ℕ) → 0x46 < c → nibble_of c ≡ 16
unfolding nibble_of
nibble_above c h = simp (le-leb 0x30 c (omega arith), lt-leb c 0x39 (omega arith), le-leb 0x41 c (omega arith), lt-leb c 0x46 h)

-- the same of the answer that says which characters are digits
pub digit_value : (c : ℕ) {n : ℕ} → digit_of c ≡ Some n → (nibble_of c ≡ n) × (n < 16)
unfolding digit_of
digit_value c {n} e =
    let some = cond_some (ltb (nibble_of c) 16) (nibble_of c) n e in
    (some.1, omega (arith, some.1, ltb-true (nibble_of c) 16 some.0))

pub digit_none : (c : ℕ) → digit_of c ≡ None → 16 ≤ nibble_of c
unfolding digit_of
digit_none c e = by (dec_lt (nibble_of c) 16)
  where
    by : Dec (nibble_of c < 16) → 16 ≤ nibble_of c
    by (yes h) = absurd (none-some (nibble_of c) (sym (rw (lt-ltb (nibble_of c) 16 h) at e)))
    by (no h) = omega arith

-- which digit a number's low four bits have
pub digit_decimal : (n : ℕ) → n % 16 < 10 → hex_digit n ≡ 0x30 + n % 16
unfolding hex_digit
digit_decimal n h = rw (lt-ltb (n % 16) 10 h)

pub digit_letter : (n : ℕ) → 10 ≤ n % 16 → hex_digit n ≡ 0x37 + n % 16
unfolding hex_digit
digit_letter n h = rw (le-ltb (n % 16) 10 h)

-- the sixteen digits in their order, and where each stands among them
abbrev pub sixteen : List ℕ
sixteen =
    0x30 ∷ 0x31 ∷ 0x32 ∷ 0x33 ∷ 0x34 ∷ 0x35 ∷ 0x36 ∷ 0x37 ∷ 0x38 ∷ 0x39 ∷ 0x41 ∷ 0x42 ∷ 0x43 ∷ 0x44 ∷ 0x45 ∷ 0x46 ∷ []

pub digit_listed : (n : ℕ) → get_or sixteen (n % 16) 0 ≡ hex_digit n
unfolding hex_digit
digit_listed n =
    eqb→eq _ _ (each_at 16 (λ k. eqb (get_or sixteen k 0) (hex_digit k)) tt (n % 16) (omega arith)) ∙ digit_mod n

-- a digit read again
pub nibble_digit : (n : ℕ) → nibble_of (hex_digit n) ≡ n % 16
nibble_digit n = split (dec_lt (n % 16) 10)
  where
    split : Dec (n % 16 < 10) → nibble_of (hex_digit n) ≡ n % 16
    split (yes h) = rw (digit_decimal n h, nibble_decimal (0x30 + n % 16) (omega arith) (omega arith)) (omega arith)
    split (no h) =
        let big : 10 ≤ n % 16 = omega arith in
        rw (digit_letter n big, nibble_letter (0x37 + n % 16) (omega arith) (omega arith)) (omega arith)

-- a digit written again
pub digit_nibble : (c : ℕ) → nibble_of c < 16 → hex_digit (nibble_of c) ≡ c
digit_nibble c is = below (dec_lt c 0x30)
  where
    letter : Dec (c < 0x47) → 0x41 ≤ c → hex_digit (nibble_of c) ≡ c
    letter (yes k) h = rw (nibble_letter c h (omega arith), digit_letter (c - 0x37) (omega arith)) (omega arith)
    letter (no k) h = absurd (omega (arith, nibble_above c (omega arith)))

    between : Dec (c < 0x41) → 0x3A ≤ c → hex_digit (nibble_of c) ≡ c
    between (yes k) h = absurd (omega (arith, nibble_between c h k))
    between (no k) h = letter (dec_lt c 0x47) (omega arith)

    decimal : Dec (c < 0x3A) → 0x30 ≤ c → hex_digit (nibble_of c) ≡ c
    decimal (yes k) h =
        rw (nibble_decimal c h (omega arith), digit_decimal (c - 0x30) (omega arith)) (omega arith)
    decimal (no k) h = between (dec_lt c 0x41) (omega arith)

    below : Dec (c < 0x30) → hex_digit (nibble_of c) ≡ c
    below (yes k) = absurd (omega (arith, nibble_below c k))
    below (no k) = decimal (dec_lt c 0x3A) (omega arith)

-- ---- two digits

pub pair_byte : (high low : ℕ) → nibble_of high < 16 → nibble_of low < 16
    → pair_of high low ≡ Byte (nibble_of high * 16 + nibble_of low)
unfolding pair_of
pair_byte high low h l = simp (lt-ltb (nibble_of high) 16 h, lt-ltb (nibble_of low) 16 l)

pub pair_bad_high : (high low : ℕ) → 16 ≤ nibble_of high → pair_of high low ≡ Bad
unfolding pair_of
pair_bad_high high low h = simp (le-ltb (nibble_of high) 16 h)

pub pair_bad_low : (high low : ℕ) → 16 ≤ nibble_of low → pair_of high low ≡ Bad
unfolding pair_of
pair_bad_low high low h = simp (le-ltb (nibble_of low) 16 h, and-false)

-- past the end there is no pair
pub pair_past : (text : List ℕ) (at : ℕ) → length text ≤ at + 1 → pair_at text at ≡ Bad
unfolding pair_at
pair_past text at h =
    rw (get_or-eq_default text 0 h) (pair_bad_low (get_or text at 0) 0 (omega (arith, nibble_below 0 (omega arith))))

-- before it, the pair is of the first two characters of the rest
pub pair_rest : (text : List ℕ) (at : ℕ) → pair_at text at ≡ pair_of (get_or (slice_range text at (length text)) 0 0) (get_or (slice_range text at (length text)) 1 0)
unfolding pair_at
pair_rest text at =
    let whole = take_all (length text - at) (drop at text) (omega (arith, length-drop at text)) in
    rw (whole, get_or-drop at text 0 0, get_or-drop at text 1 0, add-zero)

-- the two digits of a byte read again
pub pair_hex : (b : ℕ) → b < 256 → pair_of (hex_digit (b / 16)) (hex_digit b) ≡ Byte b
pair_hex b h =
    let whole : b / 16 % 16 * 16 + b % 16 ≡ b = omega arith in
    let high : nibble_of (hex_digit (b / 16)) ≡ b / 16 % 16 = nibble_digit (b / 16) in
    let low : nibble_of (hex_digit b) ≡ b % 16 = nibble_digit b in
    pair_byte (hex_digit (b / 16)) (hex_digit b) (omega arith) (omega arith) ∙ rw (high, low, whole)

-- what two digits say is below 256
pub pair_small : (high low : ℕ) → byte_of (pair_of high low) < 256
pair_small high low = first (dec_lt (nibble_of high) 16)
  where
    second : Dec (nibble_of low < 16) → nibble_of high < 16 → byte_of (pair_of high low) < 256
    second (yes k) h = rw (pair_byte high low h k) (omega arith)
    second (no k) h = rw (pair_bad_low high low (omega arith)) (omega arith)

    first : Dec (nibble_of high < 16) → byte_of (pair_of high low) < 256
    first (yes h) = second (dec_lt (nibble_of low) 16) h
    first (no h) = rw (pair_bad_high high low (omega arith)) (omega arith)

-- a pair is a byte exactly if both are digits
is_byte_lem : (t : Bool) (b : ℕ) → is_byte (if t then Byte b else Bad) ≡ t
is_byte_lem true b = refl
is_byte_lem false b = refl

pub pair_digits : (high low : ℕ) → is_byte (pair_of high low) ≡ true → (nibble_of high < 16) × (nibble_of low < 16)
unfolding pair_of
pair_digits high low e =
    let both = (and-eq-true_iff (ltb (nibble_of high) 16) (ltb (nibble_of low) 16)).0 (sym (is_byte_lem _ _) ∙ e) in
    (ltb-true (nibble_of high) 16 both.0, ltb-true (nibble_of low) 16 both.1)

-- ---- a number's digits

pub length_hex : (count n : ℕ) → length (hex_of count n) ≡ count
unfolding hex_of
length_hex zero n = refl
length_hex (suc count) n = rw (length-append, length_hex count (n / 16)) (omega arith)

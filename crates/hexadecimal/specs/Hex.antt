-- Numbers as text: "digits 0-9 A-F" (document 01, "Events and what they return", number 7), "numbers high byte first, upper
-- case" ("The dump and its listing"). A text is the list of its characters' codes. Assumes nothing.
use Rattle.std.specs.Prelude.{Option, Some, None, Bool, true, false, ◌&&◌, List, [], ◌∷◌, ◌++◌, ℕ, zero, suc, ◌+◌, ◌-◌, ◌*◌, ◌/◌, ◌%◌, ltb, leb, get_or, if◌then◌else◌}
use Rattle.hexadecimal.specs.declared.Pair.{Pair}
use Rattle.hexadecimal.specs.declared.Pair.TheVariants.{Byte, Bad}
pub mod Laws
pub mod Text
pub mod Stores

-- ---- from numbers to text

-- the digit of the low four bits of a number: 0-9 are 30h-39h, A-F are 41h-46h
unfoldable pub hex_digit : ℕ → ℕ
hex_digit n = if ltb (n % 16) 10 then 0x30 + n % 16 else 0x37 + n % 16

-- the last `count` digits of a number, high digit first
unfoldable pub hex_of : ℕ → ℕ → List ℕ
hex_of zero n = []
hex_of (suc count) n = hex_of count (n / 16) ++ (hex_digit n ∷ [])

-- bytes, two digits each
unfoldable pub hex_text : List ℕ → List ℕ
hex_text [] = []
hex_text (byte ∷ bytes) = hex_of 2 byte ++ hex_text bytes

-- ---- and back

-- what a digit stands for; 16 for any other character
unfoldable pub nibble_of : ℕ → ℕ
nibble_of c =
    if leb 0x30 c && leb c 0x39 then c - 0x30
    else if leb 0x41 c && leb c 0x46 then c - 0x37
    else 16

-- and as an answer that says which characters are digits
unfoldable pub digit_of : ℕ → Option ℕ
digit_of c = if ltb (nibble_of c) 16 then Some (nibble_of c) else None

-- two digits, high digit first
unfoldable pub pair_of : ℕ → ℕ → Pair
pair_of high low =
    if ltb (nibble_of high) 16 && ltb (nibble_of low) 16 then Byte (nibble_of high * 16 + nibble_of low)
    else Bad

-- the two characters at a place; 00h, which is no digit, stands past the end
unfoldable pub pair_at : List ℕ → ℕ → Pair
pair_at text at = pair_of (get_or text at 0) (get_or text (at + 1) 0)

-- are both digits?
abbrev pub is_byte : Pair → Bool
is_byte (Byte b) = true
is_byte Bad = false

-- the byte of a pair; 0 where there is none
abbrev pub byte_of : Pair → ℕ
byte_of (Byte b) = b
byte_of Bad = 0

-- are `count` pairs from a place on all digits, and which bytes are they?
unfoldable pub all_digits : List ℕ → ℕ → ℕ → Bool
all_digits text at zero = true
all_digits text at (suc count) = is_byte (pair_at text at) && all_digits text (at + 2) count

unfoldable pub bytes_at : List ℕ → ℕ → ℕ → List ℕ
bytes_at text at zero = []
bytes_at text at (suc count) = byte_of (pair_at text at) ∷ bytes_at text (at + 2) count

-- "Bytes travel low bit first" (document 01, "Choosing a tag on the line"). Assumes nothing.
use Rattle.std.specs.Prelude.{Bool, true, false, cond, ℕ, zero, suc, ◌+◌, ◌-◌, ◌*◌, ◌/◌, ◌%◌, ◌^◌, eqb, replicate}
use mathlib.Core.List.{List, [], ◌∷◌, flat_map}
pub mod Laws

-- the number of a bit
abbrev pub digit : Bool → ℕ
digit b = cond b 1 0

-- bit i of n, counted from the low end
unfoldable pub bit_of : ℕ → ℕ → Bool
bit_of n i = eqb (n / 2 ^ i % 2) 1

-- the low w bits of n, low bit first: what w slots carry
unfoldable pub bits_of : ℕ → ℕ → List Bool
bits_of zero n = []
bits_of (suc w) n = bit_of n 0 ∷ bits_of w (n / 2)

-- the slots of these bytes, and n slots with the line released
abbrev pub slots_of : List ℕ → List Bool
slots_of bytes = flat_map (bits_of 8) bytes

abbrev pub released : ℕ → List Bool
released n = replicate n true

-- the number that these bits are, low bit first
unfoldable pub number_of : List Bool → ℕ
number_of [] = 0
number_of (b ∷ bs) = digit b + 2 * number_of bs

-- a register of w bits with one more bit heard: what it held moves down, and the bit comes in at the top
unfoldable pub shift_in : ℕ → ℕ → Bool → ℕ
shift_in w r b = r / 2 + digit b * 2 ^ (w - 1)

-- the register after all of these bits
unfoldable pub shift_all : ℕ → ℕ → List Bool → ℕ
shift_all w r [] = r
shift_all w r (b ∷ bs) = shift_all w (shift_in w r b) bs

-- The words of the sentences (`Sentences`): bits, bytes on the line, the CRCs by their polynomials, the bytes of the image at their addresses
-- on the line, and the parts of the record. From the crates below come the record's types alone; numbers, lists and tests are the library's.
-- With `Runs`, what a reader has to believe begins here. Assumes nothing.
use Rattle.std.specs.Prelude.{Bool, true, false, ◌&&◌, ◌||◌, cond, ◌≡◌, ℕ, zero, suc, ◌+◌, ◌-◌, ◌*◌, ◌/◌, ◌%◌, ◌^◌, ◌<◌, eqb, leb, ltb, length, get_or, replicate, if◌then◌else◌}
use Rattle.std.specs.Bool.{xor}
use mathlib.Core.List.{List, [], ◌∷◌, ◌++◌, flat_map}
use Rattle.bus.specs.declared.Hearing.{Hearing}
use Rattle.bus.specs.declared.Held.{Held}
use Rattle.bus.specs.declared.Stage.{Stage}
use Rattle.select.specs.declared.Choosing.{Choosing}
use Rattle.select.specs.declared.Mode.{Mode}
use Rattle.promises.specs.Runs.{State}
pub mod Laws

-- one of these numbers
unfoldable pub among : List ℕ → ℕ → Bool
among [] n = false
among (this ∷ these) n = eqb n this || among these n

-- ---- bits on the line

-- bit i of a number, from the low end
unfoldable pub bit : ℕ → ℕ → Bool
bit n i = eqb (n / 2 ^ i % 2) 1

-- the low w bits of a number, "low bit first": what w slots carry
unfoldable pub low : ℕ → ℕ → List Bool
low zero n = []
low (suc w) n = bit n 0 ∷ low w (n / 2)

-- bytes written or read, eight slots each; and slots with the line released, in which a master reads
abbrev pub slots : List ℕ → List Bool
slots bytes = flat_map (low 8) bytes

abbrev pub released : ℕ → List Bool
released n = replicate n true

-- ---- CRCs

-- A polynomial of degree w over 0 and 1, by the exponents of its terms below x^w: their coefficients, that of x^(w-1) first.
unfoldable pub polynomial : ℕ → List ℕ → List Bool
polynomial zero exponents = []
polynomial (suc w) exponents = among exponents w ∷ polynomial w exponents

-- the sum of two, coefficient by coefficient
unfoldable pub plus : List Bool → List Bool → List Bool
plus [] qs = []
plus (p ∷ ps) [] = []
plus (p ∷ ps) (q ∷ qs) = xor p q ∷ plus ps qs

-- What is left of a message times x^w when it is divided by x^w + g, from a first remainder: a bit more of the message multiplies by x, and
-- the x^w that this and the bit make is taken away by adding g.
unfoldable pub remainder : List Bool → List Bool → List Bool → List Bool
remainder g rest [] = rest
remainder g [] (b ∷ bits) = []
remainder g (top ∷ rest) (b ∷ bits) =
    remainder g (if xor top b then plus g (rest ++ (false ∷ [])) else rest ++ (false ∷ [])) bits

-- "CRC-8 is x^8+x^5+x^4+1, low bit first, from 0"; "CRC-16 is x^16+x^15+x^2+1, from 0": of bits as they go over the line, the coefficients
-- as they follow on it
unfoldable pub crc8 : List Bool → List Bool
crc8 bits = remainder (polynomial 8 (5 ∷ 4 ∷ 0 ∷ [])) (replicate 8 false) bits

unfoldable pub crc16 : List Bool → List Bool
crc16 bits = remainder (polynomial 16 (15 ∷ 2 ∷ 0 ∷ [])) (replicate 16 false) bits

-- ---- the image

-- "a lent image of 8,832 bytes: user memory 512, register pages 64, calibration 64, log 8,192", and "User 0000h-01FFh, registers 0200h-023Fh,
-- calibration 0240h-027Fh, log 1000h-2FFFh": the first three lie at their addresses, and the log behind them
abbrev pub byte_at : List ℕ → ℕ → ℕ
byte_at image address =
    if ltb address 0x0280 then get_or image address 0
    else if leb 0x1000 address && ltb address 0x3000 then get_or image (640 + (address - 0x1000)) 0
    else 0

abbrev pub bit_at : List ℕ → ℕ → ℕ → Bool
bit_at image address i = bit (byte_at image address) i

-- some bytes as a number, "low first"
abbrev pub word_at : List ℕ → ℕ → ℕ → ℕ
word_at image address zero = 0
word_at image address (suc count) = byte_at image address + 256 * word_at image (suc address) count

-- what a change may touch: bytes, each run by its first and last address, and single bits, each by its address and place
abbrev pub in_runs : List (ℕ × ℕ) → ℕ → Bool
in_runs [] address = false
in_runs (run ∷ runs) address = (leb run.0 address && leb address run.1) || in_runs runs address

abbrev pub is_flag : List (ℕ × ℕ) → ℕ → ℕ → Bool
is_flag [] address i = false
is_flag (flag ∷ flags) address i = (eqb flag.0 address && eqb flag.1 i) || is_flag flags address i

abbrev pub has_flag : List (ℕ × ℕ) → ℕ → Bool
has_flag [] address = false
has_flag (flag ∷ flags) address = eqb flag.0 address || has_flag flags address

-- and everything else stays, byte by byte, and bit by bit in a byte of which some bits may change
pub record Stays (runs flags : List (ℕ × ℕ)) (before after : List ℕ) : Type 0 where
  pub size : length after ≡ length before
  pub bytes : (address : ℕ) → in_runs runs address ≡ false → has_flag flags address ≡ false → byte_at after address ≡ byte_at before address
  pub bits : (address i : ℕ) → i < 8 → in_runs runs address ≡ false → is_flag flags address i ≡ false
      → bit_at after address i ≡ bit_at before address i

-- ---- the record

abbrev pub number_of : State → ℕ
number_of s = s.tag.exchange.number

-- scratchpad, TA and E/S
abbrev pub held_of : State → Held
held_of s = s.tag.exchange.held

-- E/S on the line: the ending offset in bits 4-0, PF in bit 5, AA in bit 7
abbrev pub status_of : Held → List Bool
status_of held = low 5 held.ending ++ (held.pf ∷ false ∷ held.aa ∷ [])

-- the Resume mark and, of request #103, the speed, true at overdrive
abbrev pub mark_in : Mode → Bool
mark_in Mode.Plain = false
mark_in Mode.Marked = true
mark_in Mode.Overdrive = false
mark_in Mode.OverdriveMarked = true

abbrev pub speed_in : Mode → Bool
speed_in Mode.Plain = false
speed_in Mode.Marked = false
speed_in Mode.Overdrive = true
speed_in Mode.OverdriveMarked = true

abbrev pub mark_of : State → Bool
mark_of s = mark_in s.tag.exchange.select.mode

abbrev pub speed_of : State → Bool
speed_of s = speed_in s.tag.exchange.select.mode

-- "silent until reset"
abbrev pub Silent : State → Type 0
Silent s = s.tag.exchange.select.choosing ≡ Choosing.Silent

-- the tag is chosen, and no bit of a memory command has come yet
pub record Chosen (s : State) : Type 0 where
  pub chosen : s.tag.exchange.select.choosing ≡ Choosing.Selected
  pub bus : s.tag.exchange.bus
      ≡ record { stage = Stage.Hears Hearing.Command; byte = 0; at = 0; crc = 0; address = 0; status = 0; field = 0 }

-- Document 01, "Memory", with request #104's bit of 0202h: what Read Memory sends at each address, and what a Copy leaves there, by the
-- document's tables. `Sentences.Commands` says when either is done. Assumes nothing.
use Rattle.std.specs.Prelude.{◌&&◌, List, [], ◌∷◌, ◌≡◌, ℕ, zero, suc, ◌+◌, ◌-◌, ◌%◌, eqb, leb, ltb, length, get_or, if◌then◌else◌}
use Rattle.std.specs.Int.Bits.{bit_and, bit_or}
use Rattle.promises.specs.Words.{byte_at}
pub mod Laws

-- ---- the tables

-- a first and a last address, and the bits of each register byte between them
abbrev pub Row : Type 0
Row = ℕ × ℕ × ℕ

unfoldable pub bits_at : List Row → ℕ → ℕ
bits_at [] address = 0
bits_at (row ∷ rows) address = if leb row.0 address && leb address row.1 then row.2 else bits_at rows address

-- "Writable bits by Copy .. the rest none"; "Make 0202h's writable bits 7F" (request #104)
unfoldable pub writable : List Row
writable =
    (0x0200, 0x0200, 0x7F) ∷ (0x0201, 0x0201, 0x7F) ∷ (0x0202, 0x0202, 0x7F) ∷ (0x0203, 0x0203, 0x3F) ∷ (0x0204, 0x0204, 0x9F)
    ∷ (0x0205, 0x0206, 0xFF) ∷ (0x0207, 0x0207, 0x3F) ∷ (0x0208, 0x0209, 0xFF) ∷ (0x0210, 0x0210, 0x03) ∷ (0x0212, 0x0212, 0x03)
    ∷ (0x0213, 0x0213, 0x35) ∷ (0x0216, 0x0218, 0xFF) ∷ (0x0227, 0x0237, 0xFF) ∷ []

-- "Always one"
unfoldable pub ones : List Row
ones = (0x0211, 0x0211, 0xFC) ∷ (0x0213, 0x0213, 0xC0) ∷ (0x0214, 0x0214, 0x70) ∷ (0x0215, 0x0215, 0xC0) ∷ []

-- the bits that have a name; "Passwords (0228h, 0230h) read 00h. Unnamed bits read 0"
unfoldable pub named : List Row
named =
    -- clock: seconds, minutes, hours with their form in bit 6, date, month with CENT in bit 7, year
    (0x0200, 0x0202, 0x7F) ∷ (0x0203, 0x0203, 0x3F) ∷ (0x0204, 0x0204, 0x9F) ∷ (0x0205, 0x0205, 0xFF)
    -- rate low, high; low and high threshold; latest reading
    ∷ (0x0206, 0x0206, 0xFF) ∷ (0x0207, 0x0207, 0x3F) ∷ (0x0208, 0x0209, 0xFF) ∷ (0x020C, 0x020C, 0xE0) ∷ (0x020D, 0x020D, 0xFF)
    -- ETLA, ETHA; EOSC, EHSS; ETL, TLFS, RO, SUTA; TLF, THF, BOR; MIP, MEMCLR, WFTA
    ∷ (0x0210, 0x0210, 0x03) ∷ (0x0212, 0x0212, 0x03) ∷ (0x0213, 0x0213, 0x35) ∷ (0x0214, 0x0214, 0x83) ∷ (0x0215, 0x0215, 0x1A)
    -- delay, stamp, mission samples, device samples, password control
    ∷ (0x0216, 0x0218, 0xFF) ∷ (0x0219, 0x021E, 0xFF) ∷ (0x0220, 0x0222, 0xFF) ∷ (0x0223, 0x0225, 0xFF) ∷ (0x0227, 0x0227, 0xFF) ∷ []

-- ---- a byte

-- what Read Memory sends at an address: "User 0000h-01FFh, registers 0200h-023Fh, calibration 0240h-027Fh, log 1000h-2FFFh; 0280h-0FFFh
-- reads 00h"; "0226h is the code"; of any other register the named bits that it holds, and the bits that are always one
unfoldable pub sent_at : List ℕ → ℕ → ℕ → ℕ
sent_at image code address =
    if leb 0x0200 address && ltb address 0x0240 then
    (if eqb address 0x0226 then code else bit_or (bit_and (byte_at image address) (bits_at named address)) (bits_at ones address))
    else byte_at image address

-- what a byte becomes by a Copy of another over it: user memory and calibration take it, a register its writable bits
unfoldable pub copied_over : ℕ → ℕ → ℕ → ℕ
copied_over address old new =
    if leb 0x0200 address && ltb address 0x0240 then
    bit_or (bit_and old (255 - bits_at writable address)) (bit_and new (bits_at writable address))
    else new

-- `count` bytes that Read Memory sends from an address on
unfoldable pub sent_from : List ℕ → ℕ → ℕ → ℕ → List ℕ
sent_from image code address zero = []
sent_from image code address (suc count) = sent_at image code address ∷ sent_from image code (suc address) count

-- ---- a page

-- "bytes from the offset to the page's end are stored", and no other byte changes: `pad` is the scratchpad, whose places are a page's
pub record Stored (address : ℕ) (pad before after : List ℕ) : Type 0 where
  pub size : length after ≡ length before
  pub bytes : (a : ℕ) → byte_at after a
      ≡ (if leb address a && ltb a (address + (32 - address % 32)) then copied_over a (byte_at before a) (get_or pad (a % 32) 0)
      else byte_at before a)

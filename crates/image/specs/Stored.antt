-- What Copy stores (document 01, "Memory commands" and "Memory"). Assumes nothing.
use Rattle.std.specs.Prelude.{List, [], ◌∷◌, ℕ, suc, ◌-◌, ◌%◌, get_or, set, drop}
use Rattle.std.specs.Int.Bits.{bit_and, bit_or}
use Rattle.image.specs.Map.{region_at, index_of, byte_in}
use Rattle.image.specs.Tables.{writable}
use Rattle.image.specs.declared.Region.{Region}
use Rattle.image.specs.declared.Region.TheVariants.{User, Registers, Calibration, Reserved, Log}
pub mod Laws

-- the old byte's bits outside the mask, the new byte's inside
unfoldable pub blend : ℕ → ℕ → ℕ → ℕ
blend mask old new = bit_or (bit_and old (255 - mask)) (bit_and new mask)

-- what a byte becomes: user memory and calibration take the new one, a register its writable bits; nothing else is written
unfoldable pub stored_byte : Region → ℕ → ℕ → ℕ
stored_byte (User o) old new = new
stored_byte (Registers o) old new = blend (get_or writable o 0) old new
stored_byte (Calibration o) old new = new
stored_byte Reserved old new = old
stored_byte (Log o) old new = old

unfoldable pub stored_in : List ℕ → Region → ℕ → List ℕ
stored_in image r b = set image (index_of r) (stored_byte r (byte_in image r) b)

unfoldable pub stored_at : List ℕ → ℕ → ℕ → List ℕ
stored_at image address b = stored_in image (region_at address) b

-- bytes stored one after the other from an address on
unfoldable pub stored_run : List ℕ → ℕ → List ℕ → List ℕ
stored_run image address [] = image
stored_run image address (b ∷ bs) = stored_run (stored_at image address b) (suc address) bs

-- "bytes from the offset to the page's end are stored": the offset is T4..T0, and the scratchpad is as long as a page
unfoldable pub stored_page : List ℕ → List ℕ → ℕ → List ℕ
stored_page image pad address = stored_run image address (drop (address % 32) pad)

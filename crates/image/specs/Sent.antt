-- What Read Memory sends at an address (document 01, "Memory"). Assumes nothing.
use Rattle.std.specs.Prelude.{List, ℕ, eqb, get_or, if◌then◌else◌}
use Rattle.std.specs.Int.Bits.{bit_and, bit_or}
use Rattle.image.specs.Map.{region_at, byte_in}
use Rattle.image.specs.Tables.{always_one, named}
use Rattle.image.specs.declared.Region.{Region}
use Rattle.image.specs.declared.Region.TheVariants.{User, Registers, Calibration, Reserved, Log}
pub mod Laws

-- what is sent of a byte: of user memory, calibration and log the byte; of a register its named bits, and the bits that are always
-- one; "0226h is the code"; "0280h-0FFFh reads 00h"
unfoldable pub sent_byte : ℕ → Region → ℕ → ℕ
sent_byte code (User o) byte = byte
sent_byte code (Registers o) byte = if eqb o 0x26 then code else bit_or (bit_and byte (get_or named o 0)) (get_or always_one o 0)
sent_byte code (Calibration o) byte = byte
sent_byte code Reserved byte = 0
sent_byte code (Log o) byte = byte

unfoldable pub sent_in : List ℕ → ℕ → Region → ℕ
sent_in image code r = sent_byte code r (byte_in image r)

unfoldable pub sent_at : List ℕ → ℕ → ℕ → ℕ
sent_at image code address = sent_in image code (region_at address)

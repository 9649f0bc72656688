-- What the line asks of the image (document 01, "Choosing a tag on the line" and "Memory commands"). Assumes nothing.
use Rattle.std.specs.Prelude.{Bool, true, ◌&&◌, ◌||◌, not, List, ℕ, eqb, ltb, if◌then◌else◌}
use Rattle.image.specs.Registers.{bor, thf, tlf, mip, password_control, read_password, full_password}
pub mod Laws

-- "Conditional Search is joined only if BOR, THF or TLF is 1"
unfoldable pub alarmed : List ℕ → Bool
alarmed image = bor image || thf image || tlf image

-- "With 0227h equal to AAh passwords are checked, else any eight bytes pass"
unfoldable pub checked : List ℕ → Bool
checked image = eqb (password_control image) 0xAA

-- Clear, Start, Stop: "eight full-password bytes"
unfoldable pub may_control : List ℕ → ℕ → Bool
may_control image field = if checked image then eqb field (full_password image) else true

-- Read Memory: "eight password bytes, read or full"
unfoldable pub may_read : List ℕ → ℕ → Bool
may_read image field = may_control image field || eqb field (read_password image)

-- Copy: "address below 0200h, or below 0280h with no mission, and full password right"
unfoldable pub may_copy : List ℕ → ℕ → ℕ → Bool
may_copy image field address =
    (ltb address 0x0200 || (ltb address 0x0280 && not (mip image))) && may_control image field

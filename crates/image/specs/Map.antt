-- "User 0000h-01FFh, registers 0200h-023Fh, calibration 0240h-027Fh, log 1000h-2FFFh" (document 01, "Memory"), and where
-- each byte lies in the lent image: "user memory 512, register pages 64, calibration 64, log 8,192". Assumes nothing.
use Rattle.std.specs.Prelude.{List, ℕ, ◌+◌, ◌-◌, ltb, get_or, if◌then◌else◌}
use Rattle.image.specs.declared.Region.{Region}
use Rattle.image.specs.declared.Region.TheVariants.{User, Registers, Calibration, Reserved, Log}
pub mod Laws

-- the region of an address, with the offset inside it. 0280h-0FFFh is reserved; so is 3000h and above, where nothing is
unfoldable pub region_at : ℕ → Region
region_at address =
    if ltb address 0x0200 then User address
    else if ltb address 0x0240 then Registers (address - 0x0200)
    else if ltb address 0x0280 then Calibration (address - 0x0240)
    else if ltb address 0x1000 then Reserved
    else if ltb address 0x3000 then Log (address - 0x1000)
    else Reserved

-- where a region's byte lies in the image; what is reserved lies nowhere, and 8832 is past the end
abbrev pub index_of : Region → ℕ
index_of (User o) = o
index_of (Registers o) = 512 + o
index_of (Calibration o) = 576 + o
index_of (Log o) = 640 + o
index_of Reserved = 8832

-- the byte that the image holds there
abbrev pub byte_in : List ℕ → Region → ℕ
byte_in image r = get_or image (index_of r) 0

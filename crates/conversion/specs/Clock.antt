-- The clock and the stamp in the image (document 01, "Memory": "0200h-0205h clock", "0219h stamp, 6 bytes"). Assumes nothing.
use Rattle.std.specs.Prelude.{List, [], ◌∷◌, ℕ, suc, get_or, set, if◌then◌else◌}
use Rattle.calendar.specs.Calendar.{next_second}
use Rattle.calendar.specs.declared.Clock.{Clock}
use Rattle.image.specs.Registers.{eosc}
use Rattle.image.specs.Tables.{register_at}
pub mod Laws
pub mod Named

-- "0200h-0205h clock: seconds, minutes, hours, date, month with CENT in bit 7, year". Unnamed bits count as 0
unfoldable pub clock_of : List ℕ → Clock
clock_of image =
    record {
      seconds = register_at image 0x00;
      minutes = register_at image 0x01;
      hours = register_at image 0x02;
      date = register_at image 0x03;
      month = register_at image 0x04;
      year = register_at image 0x05;
    }

-- "0219h stamp, 6 bytes", in the clock's order. They are named whole
unfoldable pub stamp_of : List ℕ → Clock
stamp_of image =
    record {
      seconds = get_or image 0x0219 0;
      minutes = get_or image 0x021A 0;
      hours = get_or image 0x021B 0;
      date = get_or image 0x021C 0;
      month = get_or image 0x021D 0;
      year = get_or image 0x021E 0;
    }

-- bytes stored one after the other from `at` on
unfoldable pub put_bytes : List ℕ → ℕ → List ℕ → List ℕ
put_bytes image at [] = image
put_bytes image at (b ∷ bs) = put_bytes (set image at b) (suc at) bs

-- a clock's six bytes stored there
unfoldable pub put_clock : List ℕ → ℕ → Clock → List ℕ
put_clock image at c =
    put_bytes image at (c.seconds ∷ c.minutes ∷ c.hours ∷ c.date ∷ c.month ∷ c.year ∷ [])

-- "Each tick first advances the clock if EOSC is 1"
unfoldable pub clocked : List ℕ → List ℕ
clocked image = if eosc image then put_clock image 0x0200 (next_second (clock_of image)) else image

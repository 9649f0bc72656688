-- What a step makes of fields that are not valid, computed from the definition. Assumes nothing.
use Rattle.std.specs.Prelude.{◌≡◌, refl, ℕ}
use Rattle.bits.specs.Bits.{bit_of}
use Rattle.calendar.specs.declared.Clock.{Clock}
use Rattle.calendar.specs.Calendar.{decimal, is_valid, plus_one, step_along, step_field, carried, step_hours, step_month, flipped, is_leap, days_in, next_day, next_second}

-- six bytes as the document prints them
abbrev pub bytes : ℕ → ℕ → ℕ → ℕ → ℕ → ℕ → Clock
bytes seconds minutes hours date month year = record { seconds = seconds; minutes = minutes; hours = hours; date = date; month = month; year = year }

-- A date past its month's last, 31 April, returns to 01 and carries, and so does 00. Digits above 9 in seconds and hours carry,
-- and in minutes that do not step they stay. An invalid month has 31 days, and CENT is kept as it steps. An invalid year
-- has no leap day, and becomes 00 and flips CENT as it carries.
pub invalid_points :
    (next_second (bytes 0x59 0x59 0x23 0x31 0x04 0x23) ≡ bytes 0x00 0x00 0x00 0x01 0x05 0x23)
    × (next_second (bytes 0x59 0x59 0x23 0x00 0x05 0x23) ≡ bytes 0x00 0x00 0x00 0x01 0x06 0x23)
    × (next_second (bytes 0x5A 0x59 0x1F 0x07 0x08 0x23) ≡ bytes 0x00 0x00 0x00 0x08 0x08 0x23)
    × (next_second (bytes 0x58 0x7F 0x23 0x07 0x08 0x23) ≡ bytes 0x59 0x7F 0x23 0x07 0x08 0x23)
    × (next_second (bytes 0x59 0x59 0x23 0x31 0x9F 0x23) ≡ bytes 0x00 0x00 0x00 0x01 0x81 0x24)
    × (next_second (bytes 0x59 0x59 0x23 0x28 0x02 0x2C) ≡ bytes 0x00 0x00 0x00 0x01 0x03 0x2C)
    × (next_second (bytes 0x59 0x59 0x23 0x31 0x92 0xFF) ≡ bytes 0x00 0x00 0x00 0x01 0x01 0x00)
unfolding bit_of next_second next_day carried step_hours step_month step_along step_field is_valid plus_one flipped is_leap days_in decimal
invalid_points = (refl, refl, refl, refl, refl, refl, refl)

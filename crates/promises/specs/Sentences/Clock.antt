-- The clock of document 01 ("Memory": "0200h-0205h clock: seconds, minutes, hours, date, month with CENT in bit 7, year, all BCD"; "A mission":
-- what a second does to it), its hours in either form (request #104), told in decimal numbers. Assumes nothing.
use Rattle.std.specs.Prelude.{Bool, not, ◌&&◌, ◌||◌, List, [], ◌∷◌, ℕ, zero, suc, ◌+◌, ◌-◌, ◌*◌, ◌/◌, ◌%◌, eqb, leb, if◌then◌else◌}
use Rattle.std.specs.Int.Bits.{bit_and}
use Rattle.calendar.specs.declared.Clock.{Clock}
use Rattle.promises.specs.Words.{among, bit, byte_at}
pub mod Laws

-- ---- BCD

-- what a byte says, and the byte of a number below 100
abbrev pub decimal : ℕ → ℕ
decimal byte = 10 * (byte / 16) + byte % 16

abbrev pub bcd : ℕ → ℕ
bcd n = 16 * (n / 10) + n % 10

-- "valid": no digit above 9, and a number from the lowest to the last
abbrev pub is_valid : ℕ → ℕ → ℕ → Bool
is_valid lowest last byte = leb (byte / 16) 9 && leb (byte % 16) 9 && leb lowest (decimal byte) && leb (decimal byte) last

-- ---- a field

-- "a field at its last value, or not valid, returns to its lowest and carries"
abbrev pub carries : ℕ → ℕ → ℕ → Bool
carries lowest last byte = not (is_valid lowest last byte) || eqb (decimal byte) last

abbrev pub stepped : ℕ → ℕ → ℕ → ℕ
stepped lowest last byte = if carries lowest last byte then bcd lowest else bcd (decimal byte + 1)

-- ---- the hours

-- "With bit 6 one, bit 5 is PM and the rest runs 12, 1 to 11" (#104): 12 AM is hour 0, 12 PM hour 12; above bit 6 stands nothing
abbrev pub is_hour : ℕ → Bool
is_hour byte = if bit byte 6 then eqb (byte / 128) 0 && is_valid 1 12 (byte % 32) else is_valid 0 23 byte

abbrev pub hour_of : ℕ → ℕ
hour_of byte = if bit byte 6 then decimal (byte % 32) % 12 + 12 * (byte / 32 % 2) else decimal byte

-- the byte of an hour from 0 to 23, in the twelve-hour form or not
abbrev pub hour_byte : Bool → ℕ → ℕ
hour_byte twelve hour =
    if twelve then 0x40 + 0x20 * (hour / 12) + bcd (if eqb (hour % 12) 0 then 12 else hour % 12)
    else bcd hour

-- "11 AM goes to 12 PM and 11 PM goes to 12 AM with the next date. An hour not valid in its form returns to 00 or to 12 AM and carries, and
-- the form bit stays"
abbrev pub hour_carries : ℕ → Bool
hour_carries byte = not (is_hour byte) || eqb (hour_of byte) 23

abbrev pub hour_stepped : ℕ → ℕ
hour_stepped byte = hour_byte (bit byte 6) (if hour_carries byte then 0 else hour_of byte + 1)

-- ---- the date

-- "February has 29 days when the year divides by 4; an invalid month has 31, an invalid year no leap day"
abbrev pub days_in : ℕ → ℕ → ℕ
days_in month year =
    if not (is_valid 1 12 month) then 31
    else if eqb (decimal month) 2 then (if is_valid 0 99 year && eqb (decimal year % 4) 0 then 29 else 28)
    else if among (4 ∷ 6 ∷ 9 ∷ 11 ∷ []) (decimal month) then 30
    else 31

-- a day on. CENT is bit 7 above the month, which is bits 4-0: "the year's carry flips CENT"
unfoldable pub day_on : Clock → Clock
day_on c =
    let month = c.month % 32 in
    let cent = c.month / 128 in
    let date-carries = carries 1 (days_in month c.year) c.date in
    let month-carries = date-carries && carries 1 12 month in
    let year-carries = month-carries && carries 0 99 c.year in
    record {
      seconds = c.seconds;
      minutes = c.minutes;
      hours = c.hours;
      date = stepped 1 (days_in month c.year) c.date;
      month = if date-carries then stepped 1 12 month + 128 * (if year-carries then 1 - cent else cent) else c.month;
      year = if month-carries then stepped 0 99 c.year else c.year;
    }

-- "Each tick first advances the clock": a second on, each field on the carry of the one before it
unfoldable pub second_on : Clock → Clock
second_on c =
    let minute = carries 0 59 c.seconds in
    let hour = minute && carries 0 59 c.minutes in
    let day = hour && hour_carries c.hours in
    let today : Clock =
    record {
      seconds = stepped 0 59 c.seconds;
      minutes = if minute then stepped 0 59 c.minutes else c.minutes;
      hours = if hour then hour_stepped c.hours else c.hours;
      date = c.date;
      month = c.month;
      year = c.year;
    } in
    if day then day_on today else today

unfoldable pub seconds_on : ℕ → Clock → Clock
seconds_on zero c = c
seconds_on (suc n) c = second_on (seconds_on n c)

-- ---- in the image

-- 0200h to 0205h, of each the bits that have a name: unnamed bits count as 0
unfoldable pub clock_at : List ℕ → Clock
clock_at image =
    record {
      seconds = bit_and (byte_at image 0x0200) 0x7F;
      minutes = bit_and (byte_at image 0x0201) 0x7F;
      hours = bit_and (byte_at image 0x0202) 0x7F;
      date = bit_and (byte_at image 0x0203) 0x3F;
      month = bit_and (byte_at image 0x0204) 0x9F;
      year = bit_and (byte_at image 0x0205) 0xFF;
    }

-- six bytes from an address on, in the clock's order; "0219h stamp, 6 bytes"
unfoldable pub six_at : List ℕ → ℕ → Clock
six_at image address =
    record {
      seconds = byte_at image address;
      minutes = byte_at image (address + 1);
      hours = byte_at image (address + 2);
      date = byte_at image (address + 3);
      month = byte_at image (address + 4);
      year = byte_at image (address + 5);
    }

unfoldable pub stamp_at : List ℕ → Clock
stamp_at image = six_at image 0x0219

-- The clock, "seconds, minutes, hours, date, month with CENT in bit 7, year, all BCD" (document 01, "Memory"), its hours in the form
-- that bit 6 gives (request #104), and one second on ("A mission"). Assumes nothing.
use Rattle.std.specs.Prelude.{Bool, true, false, not, ◌&&◌, ◌||◌, ℕ, zero, suc, ◌+◌, ◌-◌, ◌*◌, ◌/◌, ◌%◌, ◌≤◌, leb, ltb, eqb, if◌then◌else◌}
use Rattle.bits.specs.Bits.{bit_of}
use Rattle.calendar.specs.declared.Clock.{Clock}
use Rattle.calendar.specs.declared.Stepped.{Stepped}

-- ---- BCD

-- tens in the high half, ones in the low half
unfoldable pub decimal : ℕ → ℕ
decimal byte = 10 * (byte / 16) + byte % 16

-- no digit above 9
pub record Digits (byte : ℕ) : Type 0 where
  pub tens : byte / 16 ≤ 9
  pub ones : byte % 16 ≤ 9

-- ---- one field

-- what a field runs through: which bytes are its values, the first and the last of them, and what follows any but the last
pub record Order : Type 0 where
  pub lowest : ℕ
  pub last : ℕ
  pub is_value : ℕ → Bool
  pub after : ℕ → ℕ

-- "a field at its last value, or not valid, returns to its lowest and carries"
unfoldable pub step_along : Order → ℕ → Stepped
step_along order byte =
    if eqb byte order.last || not (order.is_value byte) then record { byte = order.lowest; carry = true }
    else record { byte = order.after byte; carry = false }

-- no digit above 9, and not outside lowest .. last (BCD bytes stand in the order of their numbers)
unfoldable pub is_valid : ℕ → ℕ → ℕ → Bool
is_valid lowest last byte = leb (byte / 16) 9 && leb (byte % 16) 9 && leb lowest byte && leb byte last

-- the BCD byte of the next number
unfoldable pub plus_one : ℕ → ℕ
plus_one byte = if eqb (byte % 16) 9 then byte + 7 else byte + 1

-- a field that counts in BCD from lowest to last
abbrev pub counting : ℕ → ℕ → Order
counting lowest last = record { lowest = lowest; last = last; is_value = is_valid lowest last; after = plus_one }

-- its step
unfoldable pub step_field : ℕ → ℕ → ℕ → Stepped
step_field lowest last byte = step_along (counting lowest last) byte

-- a field steps on the carry of the field before it; else it stays, whatever it holds
unfoldable pub carried : Stepped → (ℕ → Stepped) → ℕ → Stepped
carried before step byte = if before.carry then step byte else record { byte = byte; carry = false }

-- ---- the fields that are not alike

-- "With bit 6 one, bit 5 is PM and the rest runs 12, 1 to 11; 11 AM goes to 12 PM" (#104): 52 (12 AM), 41 to 49, 50, 51, then
-- 72 (12 PM), 61 to 69, 70, 71
unfoldable pub hour_after : ℕ → ℕ
hour_after byte =
    if eqb byte 0x52 then 0x41
    else if eqb byte 0x51 then 0x72
    else if eqb byte 0x72 then 0x61
    else plus_one byte

abbrev pub twelve_hours : Order
twelve_hours =
    record { lowest = 0x52; last = 0x71; is_value = λ byte. is_valid 0x41 0x52 byte || is_valid 0x61 0x72 byte; after = hour_after }

-- the hours' values, in the form of the byte
abbrev pub hours_in : ℕ → Order
hours_in byte = if bit_of byte 6 then twelve_hours else counting 0x00 0x23

-- "An hour not valid in its form returns to 00 or to 12 AM and carries, and the form bit stays"
unfoldable pub step_hours : ℕ → Stepped
step_hours byte = step_along (hours_in byte) byte

-- "month with CENT in bit 7": the month is bits 4-0, which step below CENT
unfoldable pub step_month : ℕ → Stepped
step_month byte =
    let month = step_field 0x01 0x12 (byte % 32) in
    record { byte = month.byte + 128 * (byte / 128); carry = month.carry }

-- "the year's carry flips CENT"
unfoldable pub flipped : ℕ → ℕ
flipped byte = if ltb byte 128 then byte + 128 else byte - 128

-- "the year divides by 4"; "an invalid year no leap day"
unfoldable pub is_leap : ℕ → Bool
is_leap year = is_valid 0x00 0x99 year && eqb (decimal year % 4) 0

-- "February has 29 days when the year divides by 4; an invalid month has 31": the date's last value, in BCD
unfoldable pub days_in : ℕ → ℕ → ℕ
days_in month year =
    if eqb month 0x02 then (if is_leap year then 0x29 else 0x28)
    else if eqb month 0x04 || eqb month 0x06 || eqb month 0x09 || eqb month 0x11 then 0x30
    else 0x31

-- ---- the clock

-- the date, month and year one day on, by the month and year that the day ends in
unfoldable pub next_day : Clock → Clock
next_day c =
    let date = step_field 0x01 (days_in (c.month % 32) c.year) c.date in
    let month = carried date step_month c.month in
    let year = carried month (step_field 0x00 0x99) c.year in
    record {
      seconds = c.seconds;
      minutes = c.minutes;
      hours = c.hours;
      date = date.byte;
      month = if year.carry then flipped month.byte else month.byte;
      year = year.byte;
    }

-- "Each tick first advances the clock": one second on
unfoldable pub next_second : Clock → Clock
next_second c =
    let seconds = step_field 0x00 0x59 c.seconds in
    let minutes = carried seconds (step_field 0x00 0x59) c.minutes in
    let hours = carried minutes step_hours c.hours in
    let same_day : Clock = record { seconds = seconds.byte; minutes = minutes.byte; hours = hours.byte; date = c.date; month = c.month; year = c.year } in
    if hours.carry then next_day same_day else same_day

-- n seconds on
unfoldable pub clock_after : ℕ → Clock → Clock
clock_after zero c = c
clock_after (suc n) c = next_second (clock_after n c)

-- The clock in plain numbers: what a valid clock is, and how many seconds of its century are over. Nothing here looks at the
-- clock's step, so that the two can be held against each other. Assumes nothing.
use Rattle.std.specs.Prelude.{◌≡◌, [], ◌∷◌, ◌⊎◌, ℕ, zero, suc, ◌+◌, ◌-◌, ◌*◌, ◌/◌, ◌%◌, ◌≤◌, eqb, get_or, if◌then◌else◌}
use Rattle.calendar.specs.declared.Clock.{Clock}
use Rattle.calendar.specs.Calendar.{decimal, Digits}

-- ---- years and months, counted from 0

-- the sum of f 0 .. f (n - 1)
unfoldable pub sum_below : (ℕ → ℕ) → ℕ → ℕ
sum_below f zero = 0
sum_below f (suc n) = sum_below f n + f n

-- "February has 29 days when the year divides by 4" (document 01, "A mission"); year 00 does
unfoldable pub leap_day : ℕ → ℕ
leap_day year = if eqb (year % 4) 0 then 1 else 0

unfoldable pub year_length : ℕ → ℕ
year_length year = 365 + leap_day year

-- January is month 0
unfoldable pub month_length : ℕ → ℕ → ℕ
month_length year month =
    get_or (31 ∷ (28 + leap_day year) ∷ 31 ∷ 30 ∷ 31 ∷ 30 ∷ 31 ∷ 31 ∷ 30 ∷ 31 ∷ 30 ∷ 31 ∷ []) month 0

-- ---- what a clock says

-- "month with CENT in bit 7" (document 01, "Memory")
unfoldable pub cent_of : Clock → ℕ
cent_of c = c.month / 128

unfoldable pub year_of : Clock → ℕ
year_of c = decimal c.year

-- the months of the year that are over
unfoldable pub months_over : Clock → ℕ
months_over c = decimal (c.month % 128) - 1

-- the days of the century that are over: of whole years, of whole months, and of the month
unfoldable pub days_over : Clock → ℕ
days_over c = sum_below year_length (year_of c) + sum_below (month_length (year_of c)) (months_over c) + (decimal c.date - 1)

-- the form of the hours' byte, by bit 6 (request #104): 1 the twelve-hour form, 0 the other
unfoldable pub form_of : ℕ → ℕ
form_of hours = hours / 64 % 2

-- the hours of the day that are over: "With bit 6 one, bit 5 is PM and the rest runs 12, 1 to 11"
unfoldable pub hour_of : ℕ → ℕ
hour_of hours = if eqb (form_of hours) 1 then decimal (hours % 32) % 12 + 12 * (hours / 32 % 2) else decimal hours

-- the seconds of the century that are over
unfoldable pub seconds_of : Clock → ℕ
seconds_of c = decimal c.seconds + 60 * (decimal c.minutes + 60 * (hour_of c.hours + 24 * days_over c))

-- a hundred years: 36,525 days
abbrev pub century : ℕ
century = 86400 * 36525

-- the seconds that are over in the two centuries that CENT tells apart
unfoldable pub moment : Clock → ℕ
moment c = seconds_of c + century * cent_of c

-- ---- which clocks there are

-- a BCD byte that writes a number from lowest to last
pub record Writes (lowest last byte : ℕ) : Type 0 where
  pub digits : Digits byte
  pub above : lowest ≤ decimal byte
  pub below : decimal byte ≤ last

-- an hour in its form: from 0 to 23; or, above it bit 6 and PM alone, from 1 to 12
abbrev pub WritesHour : ℕ → Type 0
WritesHour hours = Writes 0 23 hours ⊎ (hours / 64 ≡ 1 × Writes 1 12 (hours % 32))

-- each field "BCD" and in its range, the date's by its month and year; above the month stands CENT alone
pub record Valid (c : Clock) : Type 0 where
  pub seconds : Writes 0 59 c.seconds
  pub minutes : Writes 0 59 c.minutes
  pub hours : WritesHour c.hours
  pub date : Writes 1 (month_length (year_of c) (months_over c)) c.date
  pub month : Writes 1 12 (c.month % 128)
  pub cent : cent_of c ≤ 1
  pub year : Writes 0 99 c.year

-- One day on: a valid clock stays valid at the same time of day, and its days go on by one, round the two centuries that CENT
-- tells apart. In plain numbers first, and then field by field as the step carries. Assumes nothing.
use Rattle.std.specs.Prelude.{◌≡◌, Bool, true, false, ℕ, suc, ◌+◌, ◌-◌, ◌*◌, ◌/◌, ◌%◌, ◌≤◌, ◌<◌, T, ltb, eqb}
use Rattle.std.proofs.Math.Path.{refl}
use Rattle.std.proofs.Common.{◌∙◌, ⊎_elim, add-zero, ltb→lt, lit<, lit≤, lt-ltb, le-ltb}
use native.Mathlib.Omega.{arith}
use Rattle.bits.specs.Each.{each, each_at}
use Rattle.calendar.specs.declared.Clock.{Clock}
use Rattle.calendar.specs.Calendar.{decimal, plus_one, carried, step_month, flipped, days_in, next_day}
use Rattle.calendar.specs.Meaning.{sum_below, leap_day, year_length, month_length, cent_of, year_of, months_over, days_over, Writes, Valid}
use Rattle.calendar.proofs.Meaning.Sums.{sum_suc, sum_grows}
use Rattle.calendar.proofs.Meaning.Fields.{Spells, spelled, written, by_bit, GoesOn, step_writes}
use Rattle.calendar.proofs.Meaning.Months.{last_date}

-- ---- years and centuries

-- twelve months are a year, and a hundred years a century
year_sum : (year : ℕ) → sum_below (month_length year) 12 ≡ year_length year
unfolding sum_below month_length year_length
year_sum year = omega arith

century_sum : sum_below year_length 100 ≡ 36525
unfolding sum_below year_length leap_day
century_sum = refl

-- no month is empty
month_long : (year : ℕ) {month : ℕ} → month < 12 → 0 < month_length year month
unfolding month_length leap_day
month_long year {month} h = ltb→lt 0 (month_length year month) (each_at 12 (λ m. ltb 0 (month_length year m)) (go (eqb (year % 4) 0) refl) month h)
  where
    go : (leap : Bool) → eqb (year % 4) 0 ≡ leap → T (each 12 (λ m. ltb 0 (month_length year m)))
    go true e = rw e tt
    go false e = rw e tt

-- what is over of the year falls short of it, and so of the century
pub year_lt : {c : Clock} → Valid c → sum_below (month_length (year_of c)) (months_over c) + (decimal c.date - 1) < year_length (year_of c)
unfolding year_of months_over
year_lt {c} v =
    let y = decimal c.year in
    let m = decimal (c.month % 128) - 1 in
    let months : suc m ≤ 12 = omega (arith, v.month) in
    omega (arith, v.date, sum_suc (month_length y) m, sum_grows (month_length y) 12 months, year_sum y)

pub days_lt : {c : Clock} → Valid c → days_over c < 36525
unfolding days_over year_of
days_lt {c} v =
    let y = decimal c.year in
    let years : suc y ≤ 100 = omega (arith, v.year) in
    omega (arith, year_lt v, sum_suc year_length y, sum_grows year_length 100 years, century_sum)

-- ---- days in plain numbers

-- the days that are over before the date, with the century that CENT tells
abbrev days_to : ℕ → ℕ → ℕ → ℕ → ℕ
days_to date month cent year = sum_below year_length year + sum_below (month_length year) (month - 1) + (date - 1) + 36525 * cent

to_next_date : (date month cent year : ℕ) → 1 ≤ date → days_to (date + 1) month cent year ≡ days_to date month cent year + 1
to_next_date date month cent year h = omega arith

to_next_month : (month cent year : ℕ) → 1 ≤ month → month ≤ 12 → days_to 1 (month + 1) cent year ≡ days_to (month_length year (month - 1)) month cent year + 1
to_next_month month cent year h l =
    let over : month + 1 - 1 ≡ suc (month - 1) = omega arith in
    let fits : month - 1 < 12 = omega arith in
    rw over (omega (arith, sum_suc (month_length year) (month - 1), month_long year fits))

to_next_year : (cent year : ℕ) → days_to 1 1 cent (year + 1) ≡ days_to (month_length year 11) 12 cent year + 1
unfolding sum_below
to_next_year cent year =
    let next : year + 1 ≡ suc year = omega arith in
    rw next (omega (arith, sum_suc year_length year, year_sum year, sum_suc (month_length year) 11, month_long year {month = 11} (lit< tt)))

to_next_century : (cent : ℕ) → cent ≤ 1 → days_to 1 1 (1 - cent) 0 ≡ (days_to (month_length 99 11) 12 cent 99 + 1) % 73050
unfolding sum_below year_length month_length leap_day
to_next_century = by_bit (λ cent. days_to 1 1 (1 - cent) 0 ≡ (days_to (month_length 99 11) 12 cent 99 + 1) % 73050) refl refl

-- ---- one day on

-- the days that are over, with the century that CENT tells
unfoldable pub day_number : Clock → ℕ
day_number c = days_over c + 36525 * cent_of c

-- 73,050 days are two centuries
pub record DayOn (c d : Clock) : Type 0 where
  pub valid : Valid d
  pub seconds : d.seconds ≡ c.seconds
  pub minutes : d.minutes ≡ c.minutes
  pub hours : d.hours ≡ c.hours
  pub counts : day_number d ≡ (day_number c + 1) % 73050

-- the clock at the same time of another day
abbrev on_day : Clock → ℕ → ℕ → ℕ → Clock
on_day c date month year = record { seconds = c.seconds; minutes = c.minutes; hours = c.hours; date = date; month = month; year = year }

-- ---- bytes of a month

month_small : {month : ℕ} → Writes 1 12 month → month < 128
unfolding decimal
month_small w = omega (arith, w)

january : Writes 1 12 0x01
january = written tt tt tt tt

-- every month has a first
first : (year : ℕ) {month : ℕ} → Writes 1 12 month → Writes 1 (month_length year (decimal month - 1)) 0x01
unfolding decimal
first year {month} m = record { digits = (spelled {number = 1} tt tt tt).digits; above = lit≤ tt; below = month_long year (omega (arith, m)) }

-- CENT above a month
pub month_below : {month : ℕ} (cent : ℕ) → month < 128 → (month + 128 * cent) % 128 ≡ month
month_below cent h = omega arith

pub cent_above : {month : ℕ} (cent : ℕ) → month < 128 → (month + 128 * cent) / 128 ≡ cent
cent_above cent h = omega arith

cent_flipped : {month : ℕ} (cent : ℕ) → month < 128 → cent ≤ 1 → flipped (month + 128 * cent) ≡ month + 128 * (1 - cent)
unfolding flipped
cent_flipped {month} cent h =
    by_bit (λ cent. flipped (month + 128 * cent) ≡ month + 128 * (1 - cent))
    (rw (add-zero month, lt-ltb month 128 h)) (rw (le-ltb (month + 128) 128 (omega arith)) (omega arith))
    cent

-- ---- the step

module _ (c : Clock) (v : Valid c) where
  -- another day that there is
  module _ (date month cent year : ℕ) (d : Writes 1 (month_length (decimal year) (decimal month - 1)) date) (m : Writes 1 12 month) (e : cent ≤ 1) (y : Writes 0 99 year) where
    number_on : day_number (on_day c date (month + 128 * cent) year) ≡ days_to (decimal date) (decimal month) cent (decimal year)
    unfolding day_number days_over year_of months_over cent_of
    number_on = rw (month_below cent (month_small m), cent_above cent (month_small m))

    valid_on : Valid (on_day c date (month + 128 * cent) year)
    unfolding year_of months_over cent_of
    valid_on =
        record {
          seconds = v.seconds;
          minutes = v.minutes;
          hours = v.hours;
          date = rw (month_below cent (month_small m)) d;
          month = rw (month_below cent (month_small m)) m;
          cent = rw (cent_above cent (month_small m)) e;
          year = y;
        }

    day_of : days_to (decimal date) (decimal month) cent (decimal year) ≡ (day_number c + 1) % 73050 → DayOn c (on_day c date (month + 128 * cent) year)
    day_of n = record { valid = valid_on; seconds = refl; minutes = refl; hours = refl; counts = number_on ∙ n }

    -- short of the two centuries' end nothing is taken off
    day_within : days_to (decimal date) (decimal month) cent (decimal year) ≡ day_number c + 1 → DayOn c (on_day c date (month + 128 * cent) year)
    unfolding day_number cent_of
    day_within n = day_of (omega (arith, n, number_on, days_lt valid_on, valid_on.cent))

  number : day_number c ≡ days_to (decimal c.date) (decimal (c.month % 128)) (c.month / 128) (decimal c.year)
  unfolding day_number days_over year_of months_over cent_of
  number = refl

  -- of a valid month bits 6-5 are 0
  month_bits : c.month % 32 ≡ c.month % 128
  unfolding decimal
  month_bits = omega (arith, v.month)

  last : Spells (month_length (decimal c.year) (decimal (c.month % 128) - 1)) (days_in (c.month % 128) c.year)
  last = last_date v.month v.year

  on_date : GoesOn 1 (month_length (decimal c.year) (decimal (c.month % 128) - 1)) 0x01 (days_in (c.month % 128) c.year) c.date → DayOn c (on_day c (plus_one c.date) c.month c.year)
  unfolding year_of months_over cent_of
  on_date g =
      let whole : c.month % 128 + 128 * (c.month / 128) ≡ c.month = omega arith in
      rw whole at
      (day_within (plus_one c.date) (c.month % 128) (c.month / 128) c.year g.writes v.month v.cent v.year
      (rw (g.counts, number) (to_next_date _ _ _ _ v.date.above)))

  -- the date was the month's last, and returns to 01
  module _ (d : decimal c.date ≡ month_length (decimal c.year) (decimal (c.month % 128) - 1)) where
    on_month : GoesOn 1 12 0x01 0x12 (c.month % 128) → DayOn c (on_day c 0x01 (plus_one (c.month % 128) + 128 * (c.month / 128)) c.year)
    unfolding cent_of decimal
    on_month g =
        day_within 0x01 (plus_one (c.month % 128)) (c.month / 128) c.year (first _ g.writes) g.writes v.cent v.year
        (rw (g.counts, number, d) (to_next_month _ (c.month / 128) _ v.month.above v.month.below))

    -- and so was the month
    module _ (m : decimal (c.month % 128) ≡ 12) where
      on_year : GoesOn 0 99 0x00 0x99 c.year → DayOn c (on_day c 0x01 (0x01 + 128 * (c.month / 128)) (plus_one c.year))
      unfolding cent_of decimal
      on_year g =
          day_within 0x01 0x01 (c.month / 128) (plus_one c.year) (first _ january) january v.cent g.writes
          (rw (g.counts, number, d, m) (to_next_year (c.month / 128) (decimal c.year)))

      on_century : decimal c.year ≡ 99 → DayOn c (on_day c 0x01 (flipped (0x01 + 128 * (c.month / 128))) 0x00)
      unfolding cent_of decimal
      on_century y =
          rw (cent_flipped {month = 0x01} (c.month / 128) (lit< tt) v.cent)
          (day_of 0x01 0x01 (1 - c.month / 128) 0x00 (first _ january) january (omega arith) (written tt tt tt tt) (rw (number, d, m, y) (to_next_century (c.month / 128) v.cent)))

  pub day_on_lem : DayOn c (next_day c)
  unfolding next_day carried step_month year_of months_over
  day_on_lem =
      rw month_bits
      (⊎_elim
      (λ d. rw d.stepped
      (⊎_elim
      (λ m. rw m.stepped
      (⊎_elim (λ y. rw y.stepped (on_century d.at_last m.at_last y.at_last)) (λ g. rw g.stepped (on_year d.at_last m.at_last g))
      (step_writes {lowest = 0x00} {last = 0x99} (spelled tt tt tt) (spelled tt tt tt) v.year)))
      (λ g. rw g.stepped (on_month d.at_last g))
      (step_writes {lowest = 0x01} {last = 0x12} (spelled tt tt tt) (spelled tt tt tt) v.month)))
      (λ g. rw g.stepped (on_date g))
      (step_writes {lowest = 0x01} (spelled tt tt tt) last v.date))

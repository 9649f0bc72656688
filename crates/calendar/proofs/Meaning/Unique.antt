-- The seconds that are over name the clock of a form: the time of day by its rests, the day by its running sums. Assumes nothing.
use Rattle.std.specs.Prelude.{◌≡◌, ◌+◌, ◌-◌, ◌<◌}
use Rattle.std.proofs.Common.{arith}
use Rattle.calendar.specs.declared.Clock.{Clock}
use Rattle.calendar.specs.Calendar.{decimal}
use Rattle.calendar.specs.Meaning.{sum_below, year_length, month_length, cent_of, year_of, months_over, days_over, form_of, hour_of, seconds_of, Valid}
use Rattle.calendar.proofs.Meaning.Sums.{sum_terms}
use Rattle.calendar.proofs.Meaning.Fields.{decimal_injective}
use Rattle.calendar.proofs.Meaning.Hours.{hour_lt, hour_injective}
use Rattle.calendar.proofs.Meaning.Days.{year_lt}

module _ (c d : Clock) (v : Valid c) (w : Valid d) (e : days_over c ≡ days_over d) where
  same_year : (year_of c ≡ year_of d) × (sum_below (month_length (year_of c)) (months_over c) + (decimal c.date - 1) ≡ sum_below (month_length (year_of d)) (months_over d) + (decimal d.date - 1))
  unfolding days_over
  same_year = sum_terms year_length (year_of c) (year_of d) _ _ (year_lt v) (year_lt w) (omega (arith, e))

  same_date : (months_over c ≡ months_over d) × (decimal c.date - 1 ≡ decimal d.date - 1)
  same_date =
      let month = month_length (year_of c) in
      let long : decimal d.date - 1 < month (months_over d) = rw same_year.0 (omega (arith, w.date)) in
      sum_terms month (months_over c) (months_over d) _ _ (omega (arith, v.date)) long (rw (← same_year.0) at same_year.1)

same_time : (c d : Clock) → Valid c → Valid d → seconds_of c ≡ seconds_of d →
    (decimal c.seconds ≡ decimal d.seconds) × (decimal c.minutes ≡ decimal d.minutes) × (hour_of c.hours ≡ hour_of d.hours) × (days_over c ≡ days_over d)
unfolding seconds_of
same_time c d v w e =
    omega (arith, e, v.seconds.below, v.minutes.below, hour_lt v.hours, w.seconds.below, w.minutes.below, hour_lt w.hours)

-- two valid clocks of one form with equal seconds and equal CENT are one
pub seconds_injective : {c d : Clock} → Valid c → Valid d → form_of c.hours ≡ form_of d.hours → seconds_of c ≡ seconds_of d → cent_of c ≡ cent_of d → c ≡ d
unfolding cent_of year_of months_over
seconds_injective {c} {d} v w form e f =
    let time = same_time c d v w e in
    let seconds = decimal_injective v.seconds.digits w.seconds.digits time.0 in
    let minutes = decimal_injective v.minutes.digits w.minutes.digits time.1 in
    let hours = hour_injective v.hours w.hours form time.2 in
    let year = decimal_injective v.year.digits w.year.digits (same_year c d v w time.3).0 in
    let day = same_date c d v w time.3 in
    let date = decimal_injective v.date.digits w.date.digits (omega (arith, day.1, v.date.above, w.date.above)) in
    let bits = decimal_injective v.month.digits w.month.digits (omega (arith, day.0, v.month.above, w.month.above)) in
    let month : c.month ≡ d.month = omega (arith, bits, f) in
    λ i. record { seconds = seconds i; minutes = minutes i; hours = hours i; date = date i; month = month i; year = year i }

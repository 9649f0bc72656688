-- The date's last value is the month's length: one test over every month's byte, whatever the year. Assumes nothing.
use Rattle.std.specs.Prelude.{◌≡◌, refl, Bool, true, false, not, ◌&&◌, ◌||◌, ℕ, ◌-◌, ◌/◌, ◌%◌, T, leb, eqb, if◌then◌else◌}
use Rattle.std.proofs.Math.Bool.{and-eq-true_iff}
use Rattle.std.proofs.Common.{arith, eqb-true, leb-true}
use Rattle.std.specs.Float.Ieee.Bits.{is_true}
use Rattle.bits.specs.Bits.{digit}
use Rattle.bits.specs.Each.{each, each_at}
use Rattle.calendar.specs.Calendar.{decimal, is_valid, is_leap, days_in}
use Rattle.calendar.proofs.Calendar.Laws.{between_valid}
use Rattle.calendar.specs.Meaning.{leap_day, month_length, Writes}
use Rattle.calendar.proofs.Meaning.Fields.{Spells, spelled, writes_between}

leap_day_lem : {year : ℕ} → Writes 0 99 year → leap_day (decimal year) ≡ digit (is_leap year)
unfolding leap_day is_leap
leap_day_lem {year} w = rw (between_valid {lowest = 0x00} {last = 0x99} (record { digits = w.digits; above = omega arith; below = omega (arith, w.digits) })) (number (eqb (decimal year % 4) 0))
  where
    number : (b : Bool) → (if b then 1 else 0) ≡ digit b
    number true = refl
    number false = refl

-- ---- the last date

-- of a valid month it is two digits, and writes the month's length
right : ℕ → ℕ → Bool
right year month =
    not (is_valid 0x01 0x12 month)
    || (eqb (decimal (days_in month year)) (month_length (decimal year) (decimal month - 1)) && leb (days_in month year / 16) 9 && leb (days_in month year % 16) 9)

all_right : {year : ℕ} → Writes 0 99 year → T (each 0x13 (right year))
unfolding right days_in month_length decimal is_valid
all_right {year} w = go (is_leap year) refl
  where
    go : (leap : Bool) → is_leap year ≡ leap → T (each 0x13 (right year))
    go true e = rw (leap_day_lem w, e) tt
    go false e = rw (leap_day_lem w, e) tt

pub last_date : {month year : ℕ} → Writes 1 12 month → Writes 0 99 year → Spells (month_length (decimal year) (decimal month - 1)) (days_in month year)
unfolding right
last_date {month} {year} m y =
    let b = writes_between {lowest = 0x01} {last = 0x12} (spelled tt tt tt) (spelled tt tt tt) m in
    let e = is_true _ (rw (between_valid b) at (each_at 0x13 (right year) (all_right y) month (omega (arith, b.below)))) in
    let three = (and-eq-true_iff _ _).0 e in
    let two = (and-eq-true_iff _ _).0 three.0 in
    record {
      digits = record { tens = leb-true (days_in month year / 16) 9 two.1; ones = leb-true (days_in month year % 16) 9 three.1 };
      value = eqb-true (decimal (days_in month year)) (month_length (decimal year) (decimal month - 1)) two.0;
    }

-- The clock's step gives the next time that there is: a valid clock stays valid in its form, its seconds go on by one, and the
-- seconds name the clock of that form. Assumes nothing.
use Rattle.std.specs.Prelude.{◌≡◌, refl, true, ◌↔◌, ℕ, zero, suc, ◌+◌, ◌-◌, ◌*◌, ◌%◌, ◌≤◌, ◌<◌}
use Rattle.std.proofs.Common.{sym, ap, ◌∙◌, arith, lit<}
use Rattle.bits.specs.Bits.{bit_of}
use Rattle.bits.specs.Choose.{choice}
use Rattle.calendar.specs.declared.Clock.{Clock}
use Rattle.calendar.specs.declared.Stepped.{Stepped}
use Rattle.calendar.specs.Calendar.{decimal, is_valid, plus_one, step_along, counting, hour_after, step_field, carried, step_hours, step_month, is_leap, days_in, flipped, next_day, next_second, clock_after}
use Rattle.calendar.proofs.Calendar.Laws.{along_carries, after_zero, after_suc}
use Rattle.calendar.specs.Meaning.{sum_below, leap_day, year_length, month_length, century, cent_of, year_of, months_over, days_over, form_of, hour_of, seconds_of, moment, WritesHour, Valid}
use Rattle.calendar.proofs.Meaning.Fields.{written, by_bit}
use Rattle.calendar.proofs.Meaning.Hours.{hour_byte, form_le, hour_lt, shown, hour_invalid, form_stays}
use Rattle.calendar.proofs.Meaning.Days.{days_lt, month_below, cent_above}
use Rattle.calendar.proofs.Meaning.Seconds.{second_on_lem}
use Rattle.calendar.proofs.Meaning.Unique.{seconds_injective}

-- ---- one second on

pub valid_next : {c : Clock} → Valid c → Valid (next_second c)
valid_next {c} v = (second_on_lem c v).valid

-- round the two centuries that CENT tells apart
pub moment_next : {c : Clock} → Valid c → moment (next_second c) ≡ (moment c + 1) % (2 * century)
moment_next {c} v = (second_on_lem c v).counts

-- the form stays, whatever the six bytes are
pub form_next : (c : Clock) → form_of (next_second c).hours ≡ form_of c.hours
unfolding next_second next_day carried
form_next c =
    let seconds = step_field 0x00 0x59 c.seconds in
    let minutes = carried seconds (step_field 0x00 0x59) c.minutes in
    let hours = carried minutes step_hours c.hours in
    let stays : form_of hours.byte ≡ form_of c.hours = choice (λ (s : Stepped). form_of s.byte ≡ form_of c.hours) minutes.carry (form_stays c.hours) refl in
    choice (λ (d : Clock). form_of d.hours ≡ form_of c.hours) hours.carry stays stays

-- "An hour not valid in its form returns to 00 or to 12 AM and carries", to hour 0 of its form, whatever the six bytes are, where
-- seconds and minutes carry
pub next_invalid : (c : Clock) → (step_field 0x00 0x59 c.seconds).carry ≡ true → (step_field 0x00 0x59 c.minutes).carry ≡ true → ¬ WritesHour c.hours →
    next_second c ≡ next_day (record { seconds = 0x00; minutes = 0x00; hours = hour_byte (form_of c.hours) 0; date = c.date; month = c.month; year = c.year })
unfolding next_second carried step_field
next_invalid c s m n =
    rw (along_carries (counting 0x00 0x59) c.seconds s, along_carries (counting 0x00 0x59) c.minutes m, hour_invalid c.hours n)

pub seconds_lt : {c : Clock} → Valid c → seconds_of c < century
unfolding seconds_of
seconds_lt v = omega (arith, v.seconds.below, v.minutes.below, hour_lt v.hours, days_lt v)

pub moment_lt : {c : Clock} → Valid c → moment c < 2 * century
unfolding moment
moment_lt v = omega (arith, seconds_lt v, v.cent)

-- ---- the ends of a century

-- 00 00 00 01 01 00 and 59 59 23 31 12 99, or with 52 and 71 for hours, with CENT above the month
abbrev pub first_second : ℕ → ℕ → Clock
first_second form cent = record { seconds = 0x00; minutes = 0x00; hours = hour_byte form 0; date = 0x01; month = 0x01 + 128 * cent; year = 0x00 }

abbrev pub last_second : ℕ → ℕ → Clock
last_second form cent = record { seconds = 0x59; minutes = 0x59; hours = hour_byte form 23; date = 0x31; month = 0x12 + 128 * cent; year = 0x99 }

-- in both forms, and in both centuries
by_both : (P : ℕ → ℕ → Type 0) → P 0 0 → P 0 1 → P 1 0 → P 1 1 → (form cent : ℕ) → form ≤ 1 → cent ≤ 1 → P form cent
by_both P p q r s form cent f h = by_bit (λ form. P form cent) (by_bit (P 0) p q cent h) (by_bit (P 1) r s cent h) form f

-- "the year's carry flips CENT"
pub last_next : (form cent : ℕ) → form ≤ 1 → cent ≤ 1 → next_second (last_second form cent) ≡ first_second form (1 - cent)
unfolding next_second next_day carried step_hours step_month step_field step_along hour_after bit_of is_valid plus_one flipped is_leap days_in decimal
last_next = by_both (λ form cent. next_second (last_second form cent) ≡ first_second form (1 - cent)) refl refl refl refl

pub first_seconds : (form cent : ℕ) → form ≤ 1 → cent ≤ 1 → seconds_of (first_second form cent) ≡ 0
unfolding seconds_of days_over year_of months_over hour_of form_of sum_below decimal
first_seconds = by_both (λ form cent. seconds_of (first_second form cent) ≡ 0) refl refl refl refl

pub last_seconds : (form cent : ℕ) → form ≤ 1 → cent ≤ 1 → seconds_of (last_second form cent) + 1 ≡ century
unfolding seconds_of days_over year_of months_over hour_of form_of sum_below year_length month_length leap_day decimal
last_seconds = by_both (λ form cent. seconds_of (last_second form cent) + 1 ≡ century) refl refl refl refl

cent_last : (form cent : ℕ) → cent_of (last_second form cent) ≡ cent
unfolding cent_of
cent_last form cent = cent_above {month = 0x12} cent (lit< tt)

pub valid_last : (form cent : ℕ) → form ≤ 1 → cent ≤ 1 → Valid (last_second form cent)
unfolding cent_of year_of months_over month_length leap_day decimal
valid_last form cent f h =
    let month = month_below {month = 0x12} cent (lit< tt) in
    record {
      seconds = written tt tt tt tt;
      minutes = written tt tt tt tt;
      hours = (shown {form = form} {hour = 23} f (lit< tt)).writes;
      date = rw month (written tt tt tt tt);
      month = rw month (written tt tt tt tt);
      cent = rw (cent_last form cent) h;
      year = written tt tt tt tt;
    }

-- ---- the seconds of one century

-- the last second of a clock's century, in its form
abbrev pub last_of : Clock → Clock
last_of c = last_second (form_of c.hours) (cent_of c)

-- a valid clock with as many seconds as the last is the last
is_last : {c : Clock} → Valid c → seconds_of c + 1 ≡ century → c ≡ last_of c
is_last {c} v e =
    let form = form_le c.hours in
    seconds_injective v (valid_last (form_of c.hours) (cent_of c) form v.cent) (sym (shown {form = form_of c.hours} {hour = 23} form (lit< tt)).formed)
    (omega (arith, e, last_seconds (form_of c.hours) (cent_of c) form v.cent)) (sym (cent_last (form_of c.hours) (cent_of c)))

-- any other valid clock goes on by one second, and CENT stays
pub seconds_next : {c : Clock} → Valid c → ¬ (c ≡ last_of c) → (seconds_of (next_second c) ≡ seconds_of c + 1) × (cent_of (next_second c) ≡ cent_of c)
unfolding moment
seconds_next {c} v n =
    let more : ¬ (seconds_of c + 1 ≡ century) = λ e. n (is_last v e) in
    omega (arith, more, moment_next v, seconds_lt v, seconds_lt (valid_next v), v.cent, (valid_next v).cent)

-- ---- the clocks of one moment

-- two valid clocks of one moment are one if their forms are, and only then
pub moment_injective : {c d : Clock} → Valid c → Valid d → moment c ≡ moment d → (form_of c.hours ≡ form_of d.hours) ↔ (c ≡ d)
unfolding moment
moment_injective {c} {d} v w e =
    (λ form. seconds_injective v w form (omega (arith, e, seconds_lt v, seconds_lt w)) (omega (arith, e, seconds_lt v, seconds_lt w)), λ same. ap (λ (c : Clock). form_of c.hours) same)

-- so the step gives the only valid clock of its form at the next moment
pub next_only : {c d : Clock} → Valid c → Valid d → form_of d.hours ≡ form_of c.hours → moment d ≡ (moment c + 1) % (2 * century) → d ≡ next_second c
next_only {c} v w form e = (moment_injective w (valid_next v) (e ∙ sym (moment_next v))).0 (form ∙ sym (form_next c))

-- the clock with its hour in this form
abbrev pub in_form : ℕ → Clock → Clock
in_form form c = record { seconds = c.seconds; minutes = c.minutes; hours = hour_byte form (hour_of c.hours); date = c.date; month = c.month; year = c.year }

-- in either form there is a valid clock that shows the moment
pub both_forms : (form : ℕ) {c : Clock} → form ≤ 1 → Valid c → Valid (in_form form c) × (form_of (in_form form c).hours ≡ form) × (moment (in_form form c) ≡ moment c)
unfolding moment seconds_of cent_of days_over year_of months_over
both_forms form {c} f v =
    let s = shown {form = form} {hour = hour_of c.hours} f (hour_lt v.hours) in
    (record { seconds = v.seconds; minutes = v.minutes; hours = s.writes; date = v.date; month = v.month; cent = v.cent; year = v.year }, s.formed, rw s.counts)

-- ---- n seconds on

pub valid_after : (n : ℕ) {c : Clock} → Valid c → Valid (clock_after n c)
valid_after zero {c} v = rw (after_zero c) v
valid_after (suc n) {c} v = rw (after_suc n c) (valid_next (valid_after n v))

pub moment_after : (n : ℕ) {c : Clock} → Valid c → moment (clock_after n c) ≡ (moment c + n) % (2 * century)
moment_after zero {c} v = rw (after_zero c) (omega (arith, moment_lt v))
moment_after (suc n) {c} v = rw (after_suc n c, moment_next (valid_after n v), moment_after n v) (omega arith)

-- clocks that show one moment, in one form or in both, show one moment after every second
pub moment_stays : (n : ℕ) {c d : Clock} → Valid c → Valid d → moment c ≡ moment d → moment (clock_after n c) ≡ moment (clock_after n d)
moment_stays n v w e = rw (moment_after n v, moment_after n w, e)

pub form_after : (n : ℕ) (c : Clock) → form_of (clock_after n c).hours ≡ form_of c.hours
form_after zero c = rw (after_zero c)
form_after (suc n) c = rw (after_suc n c) (form_next (clock_after n c) ∙ form_after n c)

-- The clock told in decimal numbers is the calendar's, a second on and any number of them, and in the image it is the one that the tag keeps.
-- Assumes nothing.
use Rattle.std.specs.Prelude.{◌≡◌, Bool, true, false, ◌&&◌, ◌||◌, List, ℕ, zero, suc, ◌+◌, ◌-◌, ◌*◌, ◌/◌, ◌%◌, ◌≤◌, ◌<◌, T, eqb, leb, if◌then◌else◌}
use Rattle.std.proofs.Math.Path.{refl}
use Rattle.std.proofs.Common.{sym, ap, ◌∙◌, ⊎_elim, arith, leb-true, le-leb, lt-ltb, le-ltb, eq-eqb, ne_eqb, eqb→eq, leb→le}
use Rattle.std.specs.Bool.{beq}
use Rattle.std.proofs.Math.Bool.{or-true}
use Rattle.std.proofs.Math.Logic.{dite}
use Rattle.std.proofs.Math.Decide.{dec_le, ℕ_discrete}
use Rattle.std.proofs.lemmas.Bool.{lt-leb}
use Rattle.std.specs.Float.Ieee.Fits.{and_l, and_r}
use Rattle.bits.specs.Bits.{bit_of}
use Rattle.bits.specs.Each.{each, each_at}
use Rattle.bits.specs.Tests.{beq_eq}
use Rattle.calendar.specs.Calendar
use Rattle.calendar.specs.Calendar.{next_second, next_day, clock_after, step_field, step_along, step_month, step_hours, carried, flipped, hour_after, plus_one}
use Rattle.calendar.proofs.Calendar.Laws.{valid_between, step_le}
use Rattle.calendar.proofs.Calendar.Named.{Named, named_next}
use Rattle.calendar.specs.Meaning.{leap_day, month_length, cent_of, year_of, months_over, Valid}
use Rattle.calendar.specs.declared.Clock.{Clock}
use Rattle.calendar.specs.declared.Stepped.{Stepped}
use Rattle.conversion.specs.Clock.{clock_of, stamp_of}
use Rattle.conversion.specs.Clock.Named.{clock_named}
use Rattle.image.specs.Tables.{register_at, named}
use Rattle.promises.specs.Sentences.Clock.{decimal, bcd, is_valid, carries, stepped, hour_carries, hour_stepped, days_in, day_on, second_on, seconds_on, clock_at, six_at, stamp_at}
use Rattle.promises.specs.Words.{among, bit}

-- ---- a field

-- BCD bytes stand in the order of their numbers
module _ (byte : ℕ) (tens : byte / 16 ≤ 9) (ones : byte % 16 ≤ 9) where
  -- from a number on, up to it, and at it
  from : (n : ℕ) → leb (bcd n) byte ≡ leb n (decimal byte)
  from n =
      dite (dec_le n (decimal byte)) (λ h. rw (le-leb n (decimal byte) h) (le-leb (bcd n) byte (omega arith)))
      (λ h. rw (lt-leb n (decimal byte) (omega arith)) (lt-leb (bcd n) byte (omega arith)))

  upto : (n : ℕ) → leb byte (bcd n) ≡ leb (decimal byte) n
  upto n =
      dite (dec_le (decimal byte) n) (λ h. rw (le-leb (decimal byte) n h) (le-leb byte (bcd n) (omega arith)))
      (λ h. rw (lt-leb (decimal byte) n (omega arith)) (lt-leb byte (bcd n) (omega arith)))

  at_last : (n : ℕ) → eqb byte (bcd n) ≡ eqb (decimal byte) n
  at_last n =
      dite (ℕ_discrete (decimal byte) n) (λ h. rw (eq-eqb (decimal byte) n h) (eq-eqb byte (bcd n) (omega arith)))
      (λ h. rw (ne_eqb (decimal byte) n h) (ne_eqb byte (bcd n) (λ e. h (omega arith))))

  -- one more
  one_more : plus_one byte ≡ bcd (decimal byte + 1)
  unfolding plus_one
  one_more =
      dite (ℕ_discrete (byte % 16) 9) (λ h. rw (eq-eqb (byte % 16) 9 h) (omega arith)) (λ h. rw (ne_eqb (byte % 16) 9 h) (omega arith))

-- so the valid ones are the calendar's
valid_is : (lowest last byte : ℕ) → Calendar.is_valid (bcd lowest) (bcd last) byte ≡ is_valid lowest last byte
unfolding Calendar.is_valid
valid_is lowest last byte = by_digits (leb (byte / 16) 9) (leb (byte % 16) 9) refl refl
  where
    by_digits : (t o : Bool) → leb (byte / 16) 9 ≡ t → leb (byte % 16) 9 ≡ o → Calendar.is_valid (bcd lowest) (bcd last) byte ≡ is_valid lowest last byte
    by_digits true true x y =
        let tens = leb-true (byte / 16) 9 x in
        let ones = leb-true (byte % 16) 9 y in
        rw (from byte tens ones lowest, upto byte tens ones last)
    by_digits true false x y = rw (x, y)
    by_digits false o x y = rw x

-- and a step by decimal numbers is the calendar's
field_is : (lowest last byte : ℕ)
    → step_field (bcd lowest) (bcd last) byte ≡ record { byte = stepped lowest last byte; carry = carries lowest last byte }
unfolding step_field step_along
field_is lowest last byte = by_valid (is_valid lowest last byte) refl
  where
    by_valid : (v : Bool) → is_valid lowest last byte ≡ v
        → step_field (bcd lowest) (bcd last) byte ≡ record { byte = stepped lowest last byte; carry = carries lowest last byte }
    by_valid true v =
        let digits = (valid_between (valid_is lowest last byte ∙ v)).digits in
        rw (valid_is lowest last byte, v, at_last byte digits.tens digits.ones last, one_more byte digits.tens digits.ones)
        (by_last (eqb (decimal byte) last))
      where
        by_last : (b : Bool)
            → ◌≡◌ {A = Stepped}
            (if b || false then record { byte = bcd lowest; carry = true } else record { byte = bcd (decimal byte + 1); carry = false })
            (record { byte = if b then bcd lowest else bcd (decimal byte + 1); carry = b })
        by_last true = refl
        by_last false = refl
    by_valid false v = rw (valid_is lowest last byte, v, or-true (eqb byte (bcd last)))

-- ---- the hours

-- computed of every byte
abbrev hour_same : ℕ → Bool
hour_same byte = eqb (step_hours byte).byte (hour_stepped byte) && beq (step_hours byte).carry (hour_carries byte)

hours_same : T (each 256 hour_same)
unfolding step_hours step_field step_along Calendar.is_valid hour_after plus_one bit_of bit
hours_same = tt

-- a step by its two fields
step_of : {s : Stepped} {byte : ℕ} {carry : Bool} → s.byte ≡ byte → s.carry ≡ carry → s ≡ record { byte = byte; carry = carry }
step_of p q = λ i. record { byte = p i; carry = q i }

-- so is the hours' step the calendar's
hours_are : (byte : ℕ) → byte < 256 → step_hours byte ≡ record { byte = hour_stepped byte; carry = hour_carries byte }
hours_are byte small =
    let same = each_at 256 hour_same hours_same byte small in
    let steps = eqb (step_hours byte).byte (hour_stepped byte) in
    let alike = beq (step_hours byte).carry (hour_carries byte) in
    step_of (eqb→eq _ _ (and_l steps alike same)) (beq_eq _ _ (and_r steps alike same))

-- ---- the date

-- whether a year has a leap day
leap_is : (year : ℕ) → Calendar.is_leap year ≡ (is_valid 0 99 year && eqb (decimal year % 4) 0)
unfolding Calendar.is_leap Calendar.decimal
leap_is year = rw (valid_is 0 99 year)

-- the last day of a month: by the leap day, computed of every month
days_are : (month year : ℕ) → month < 32 → Calendar.days_in month year ≡ bcd (days_in month year)
unfolding Calendar.days_in Calendar.is_leap Calendar.is_valid Calendar.decimal among
days_are month year small = by_leap (is_valid 0 99 year && eqb (decimal year % 4) 0) refl
  where
    by_leap : (leap : Bool) → (is_valid 0 99 year && eqb (decimal year % 4) 0) ≡ leap → Calendar.days_in month year ≡ bcd (days_in month year)
    by_leap true e = rw (leap_is year ∙ e, e) (eqb→eq _ _ (each_at 32 (λ m. eqb (Calendar.days_in m 0x00) (bcd (days_in m 0x00))) tt month small))
    by_leap false e = rw (leap_is year ∙ e, e) (eqb→eq _ _ (each_at 32 (λ m. eqb (Calendar.days_in m 0x01) (bcd (days_in m 0x01))) tt month small))

-- "the year's carry flips CENT"
cent_flips : (month byte : ℕ) → month < 128 → byte < 256 → flipped (month + 128 * (byte / 128)) ≡ month + 128 * (1 - byte / 128)
unfolding flipped
cent_flips month byte low small =
    dite (dec_le 128 byte) (λ h. rw (le-ltb (month + 128 * (byte / 128)) 128 (omega arith)) (omega arith))
    (λ h. rw (lt-ltb (month + 128 * (byte / 128)) 128 (omega arith)) (omega arith))

-- a day on
day_is : (c : Clock) → c.month < 256 → next_day c ≡ day_on c
unfolding next_day day_on step_month carried
day_is c small =
    let month = c.month % 32 in
    let low = rw (field_is 1 12 month) at (step_le {lowest = 0x01} {last = 0x12} month (omega arith) (omega arith)) in
    rw (days_are month c.year (omega arith), field_is 1 (days_in month c.year) c.date, field_is 1 12 month, field_is 0 99 c.year)
    (by_carries (carries 1 (days_in month c.year) c.date) (carries 1 12 month) (carries 0 99 c.year) _ _ _ (omega arith))
  where
    by_carries : (d m y : Bool) (date month year : ℕ) → month < 128 →
        ◌≡◌ {A = Clock}
        (let months : Stepped = if d then record { byte = month + 128 * (c.month / 128); carry = m } else record { byte = c.month; carry = false } in
        let years : Stepped = if months.carry then record { byte = year; carry = y } else record { byte = c.year; carry = false } in
        record {
          seconds = c.seconds;
          minutes = c.minutes;
          hours = c.hours;
          date = date;
          month = if years.carry then flipped months.byte else months.byte;
          year = years.byte;
        })
        (record {
          seconds = c.seconds;
          minutes = c.minutes;
          hours = c.hours;
          date = date;
          month = if d then month + 128 * (if d && m && y then 1 - c.month / 128 else c.month / 128) else c.month;
          year = if d && m then year else c.year;
        })
    by_carries true true true date month year low = rw (cent_flips month c.month low small)
    by_carries true true false date month year low = refl
    by_carries true false y date month year low = refl
    by_carries false m y date month year low = refl

-- ---- seconds

-- a second on
pub second_is : (c : Clock) → Named c → second_on c ≡ next_second c
unfolding second_on next_second carried
second_is c n =
    rw (field_is 0 59 c.seconds, field_is 0 59 c.minutes, hours_are c.hours (omega (arith, n)))
    (by_carries (carries 0 59 c.seconds) (carries 0 59 c.minutes) (hour_carries c.hours) _ _ _)
  where
    today : ℕ → ℕ → ℕ → Clock
    today seconds minutes hours = record { seconds = seconds; minutes = minutes; hours = hours; date = c.date; month = c.month; year = c.year }

    by_carries : (s m h : Bool) (seconds minutes hours : ℕ) →
        ◌≡◌ {A = Clock}
        (let now = today seconds (if s then minutes else c.minutes) (if s && m then hours else c.hours) in
        if s && m && h then day_on now else now)
        (let second : Stepped = if s then record { byte = minutes; carry = m } else record { byte = c.minutes; carry = false } in
        let minute : Stepped = if second.carry then record { byte = hours; carry = h } else record { byte = c.hours; carry = false } in
        let now = today seconds second.byte minute.byte in
        if minute.carry then next_day now else now)
    by_carries true true true seconds minutes hours = sym (day_is (today seconds minutes hours) n.cent)
    by_carries true true false seconds minutes hours = refl
    by_carries true false h seconds minutes hours = refl
    by_carries false m h seconds minutes hours = refl

-- unnamed bits stay 0
named_after : (n : ℕ) {c : Clock} → Named c → Named (clock_after n c)
unfolding clock_after
named_after zero named = named
named_after (suc n) {c} named = named_next (clock_after n c) (named_after n named)

-- and any number of them
pub seconds_are : (n : ℕ) {c : Clock} → Named c → seconds_on n c ≡ clock_after n c
unfolding seconds_on clock_after
seconds_are zero named = refl
seconds_are (suc n) {c} named = rw (seconds_are n named) (second_is (clock_after n c) (named_after n named))

-- the second that comes first may as well be taken first
pub seconds_next : (n : ℕ) (c : Clock) → seconds_on n (second_on c) ≡ seconds_on (suc n) c
unfolding seconds_on
seconds_next zero c = refl
seconds_next (suc n) c = ap second_on (seconds_next n c)

-- ---- a clock with its ranges

-- no month has more than 31 days
month_le : (year month : ℕ) → month < 12 → month_length year month ≤ 31
unfolding month_length leap_day
month_le year month h = leb→le (month_length year month) 31 (each_at 12 (λ m. leb (month_length year m) 31) (by_leap (eqb (year % 4) 0) refl) month h)
  where
    by_leap : (leap : Bool) → eqb (year % 4) 0 ≡ leap → T (each 12 (λ m. leb (month_length year m) 31))
    by_leap true e = rw e tt
    by_leap false e = rw e tt

-- has its named bits alone
pub valid_named : {c : Clock} → Valid c → Named c
unfolding Calendar.decimal year_of months_over cent_of
valid_named {c} v =
    let days = month_le (year_of c) (months_over c) (omega (arith, v.month)) in
    record {
      seconds = omega (arith, v.seconds);
      minutes = omega (arith, v.minutes);
      hours = ⊎_elim (λ w. omega (arith, w)) (λ w. omega (arith, w.0)) v.hours;
      date = omega (arith, v.date, days);
      month = omega (arith, v.month);
      cent = omega (arith, v.cent);
      year = omega (arith, v.year);
    }

-- ---- in the image

module _ (image : List ℕ) where
  -- the clock
  pub clock_is : clock_at image ≡ clock_of image
  unfolding clock_at clock_of register_at named
  clock_is = refl

  -- with its named bits alone
  pub clock_at_named : Named (clock_at image)
  clock_at_named = rw clock_is (clock_named image)

  -- the stamp
  pub stamp_is : stamp_at image ≡ stamp_of image
  unfolding stamp_at six_at stamp_of
  stamp_is = refl

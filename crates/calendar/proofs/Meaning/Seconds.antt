-- One second on: a valid clock stays valid, and its seconds go on by one, round the two centuries that CENT tells apart, field
-- by field as the step carries. Assumes nothing.
use Rattle.std.specs.Prelude.{◌≡◌, refl, ℕ, ◌+◌, ◌*◌, ◌%◌, ◌<◌, if◌then◌else◌}
use Rattle.std.proofs.Math.Logic.{⊎_elim}
use Rattle.std.proofs.Common.{arith}
use Rattle.bits.specs.Choose.{either}
use Rattle.calendar.specs.declared.Clock.{Clock}
use Rattle.calendar.specs.Calendar.{decimal, plus_one, carried, step_hours, next_day, next_second}
use Rattle.calendar.specs.Meaning.{century, moment, cent_of, year_of, months_over, days_over, hour_of, seconds_of, Writes, WritesHour, Valid}
use Rattle.calendar.proofs.Meaning.Fields.{spelled, written, step_writes}
use Rattle.calendar.proofs.Meaning.Hours.{hour_lt, hour_on}
use Rattle.calendar.proofs.Meaning.Days.{days_lt, day_number, day_on_lem}

pub record SecondOn (c d : Clock) : Type 0 where
  pub valid : Valid d
  pub counts : moment d ≡ (moment c + 1) % (2 * century)

-- the moment of a time of day
abbrev moment_at : ℕ → ℕ → ℕ → ℕ → ℕ
moment_at seconds minutes hours days = seconds + 60 * (minutes + 60 * (hours + 24 * days))

-- the last second of a day, round two centuries
round : (days : ℕ) → moment_at 0 0 0 ((days + 1) % 73050) ≡ (moment_at 59 59 23 days + 1) % (2 * century)
round days = omega arith

moment_at_lem : (c : Clock) → moment c ≡ moment_at (decimal c.seconds) (decimal c.minutes) (hour_of c.hours) (day_number c)
unfolding moment seconds_of day_number
moment_at_lem c = omega arith

-- the clock at another time of the same day
abbrev at_time : Clock → ℕ → ℕ → ℕ → Clock
at_time c seconds minutes hours = record { seconds = seconds; minutes = minutes; hours = hours; date = c.date; month = c.month; year = c.year }

none : decimal 0x00 ≡ 0
unfolding decimal
none = refl

day_lt : {c : Clock} → Valid c → day_number c < 73050
unfolding day_number
day_lt v = omega (arith, days_lt v, v.cent)

module _ (c : Clock) (v : Valid c) where
  valid_at : {seconds minutes hours : ℕ} → Writes 0 59 seconds → Writes 0 59 minutes → WritesHour hours → Valid (at_time c seconds minutes hours)
  unfolding year_of months_over cent_of
  valid_at s m h = record { seconds = s; minutes = m; hours = h; date = v.date; month = v.month; cent = v.cent; year = v.year }

  moment_on : (seconds minutes hours : ℕ) → moment (at_time c seconds minutes hours) ≡ moment_at (decimal seconds) (decimal minutes) (hour_of hours) (day_number c)
  unfolding day_number days_over year_of months_over cent_of
  moment_on seconds minutes hours = moment_at_lem (at_time c seconds minutes hours)

  time_on : (seconds minutes hours : ℕ) → Writes 0 59 seconds → Writes 0 59 minutes → WritesHour hours →
      moment_at (decimal seconds) (decimal minutes) (hour_of hours) (day_number c) ≡ moment c + 1 → SecondOn c (at_time c seconds minutes hours)
  time_on seconds minutes hours s m h e =
      record { valid = valid_at s m h; counts = omega (arith, moment_on seconds minutes hours, e, s.below, m.below, hour_lt h, day_lt v) }

  -- midnight: the same time of the next day
  midnight_on : {midnight : ℕ} → WritesHour midnight → hour_of midnight ≡ 0 → decimal c.seconds ≡ 59 → decimal c.minutes ≡ 59 → hour_of c.hours ≡ 23 →
      SecondOn c (next_day (at_time c 0x00 0x00 midnight))
  unfolding day_number days_over year_of months_over cent_of
  midnight_on {midnight} w z s m h =
      let d = day_on_lem (at_time c 0x00 0x00 midnight) (valid_at (written tt tt tt tt) (written tt tt tt tt) w) in
      record { valid = d.valid; counts = rw (moment_at_lem (next_day (at_time c 0x00 0x00 midnight)), d.seconds, d.minutes, d.hours, d.counts, moment_at_lem c, s, m, h, z, none) (round (day_number c)) }

  -- an hour on, in the form of the clock
  hour_next : decimal c.seconds ≡ 59 → decimal c.minutes ≡ 59 →
      SecondOn c (if (step_hours c.hours).carry then next_day (at_time c 0x00 0x00 (step_hours c.hours).byte) else at_time c 0x00 0x00 (step_hours c.hours).byte)
  hour_next s m =
      let h = hour_on v.hours in
      either (SecondOn c) (step_hours c.hours).carry
      (λ t.
      let counts = rw t at h.counts in
      midnight_on h.writes (omega (arith, counts, hour_lt v.hours)) s m (omega (arith, counts, hour_lt v.hours)))
      (λ t.
      let counts = rw t at h.counts in
      time_on 0x00 0x00 (step_hours c.hours).byte (written tt tt tt tt) (written tt tt tt tt) h.writes (omega (arith, none, s, m, counts, moment_at_lem c)))

  pub second_on_lem : SecondOn c (next_second c)
  unfolding next_second carried
  second_on_lem =
      ⊎_elim
      (λ s. rw s.stepped
      (⊎_elim
      (λ m. rw m.stepped (hour_next s.at_last m.at_last))
      (λ g. rw g.stepped (time_on 0x00 (plus_one c.minutes) c.hours (written tt tt tt tt) g.writes v.hours (omega (arith, none, s.at_last, g.counts, moment_at_lem c))))
      (step_writes {lowest = 0x00} {last = 0x59} (spelled tt tt tt) (spelled tt tt tt) v.minutes)))
      (λ g. rw g.stepped (time_on (plus_one c.seconds) c.minutes c.hours g.writes v.minutes v.hours (omega (arith, g.counts, moment_at_lem c))))
      (step_writes {lowest = 0x00} {last = 0x59} (spelled tt tt tt) (spelled tt tt tt) v.seconds)

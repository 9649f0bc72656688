-- A clock whose unnamed bits are 0 keeps them so. Assumes nothing.
use Rattle.std.specs.Prelude.{◌||◌, ℕ, ◌%◌, ◌≤◌, ◌<◌, ltb, eqb}
use Rattle.std.proofs.Common.{arith, ltb-true, ltb-false}
use Rattle.bits.specs.Choose.{either}
use Rattle.calendar.specs.declared.Clock.{Clock}
use Rattle.calendar.specs.declared.Stepped.{Stepped}
use Rattle.calendar.specs.Calendar.{step_field, carried, step_hours, step_month, flipped, is_leap, days_in, next_day, next_second}
use Rattle.calendar.proofs.Calendar.Laws.{step_le, hours_lt}

-- CENT and bits 4-0
record MonthNamed (byte : ℕ) : Type 0 where
  pub month : byte % 0x80 < 0x20
  pub cent : byte < 0x100

-- no bit is set outside 7F 7F 7F 3F 9F FF, the bits that 0200h-0205h name ("Writable bits by Copy", document 01, "Memory"; 0202h by request #104)
pub record Named (c : Clock) : Type 0 where
  pub seconds : c.seconds < 0x80
  pub minutes : c.minutes < 0x80
  pub hours : c.hours < 0x80
  pub date : c.date < 0x40
  pub month : c.month % 0x80 < 0x20
  pub cent : c.month < 0x100
  pub year : c.year < 0x100

carried_keeps : (P : ℕ → Type 0) (before : Stepped) (step : ℕ → Stepped) (byte : ℕ) → P byte → P (step byte).byte → P (carried before step byte).byte
unfolding carried
carried_keeps P before step byte p q = either (λ (s : Stepped). P s.byte) before.carry (λ t. q) (λ t. p)

flipped_keeps : (byte : ℕ) → MonthNamed byte → MonthNamed (flipped byte)
unfolding flipped
flipped_keeps byte h =
    either MonthNamed (ltb byte 128) (λ t. omega (arith, h, ltb-true byte 128 t)) (λ t. omega (arith, h, ltb-false byte 128 t))

-- a month's last date is BCD, from 01 to 31
abbrev LastDate : ℕ → Type 0
LastDate last = (last % 16 ≤ 9) × (1 ≤ last) × (last ≤ 0x31)

days_last : (month year : ℕ) → LastDate (days_in month year)
unfolding days_in
days_last month year =
    either LastDate (eqb month 0x02) (λ t. either LastDate (is_leap year) (λ u. omega arith) (λ u. omega arith))
    (λ t. either LastDate (eqb month 0x04 || eqb month 0x06 || eqb month 0x09 || eqb month 0x11) (λ u. omega arith) (λ u. omega arith))

module _ (c : Clock) (n : Named c) where
  named_day : Named (next_day c)
  unfolding next_day step_month
  named_day =
      let last = days_last (c.month % 32) c.year in
      let date = step_field 0x01 (days_in (c.month % 32) c.year) c.date in
      let month = carried date step_month c.month in
      let year = carried month (step_field 0x00 0x99) c.year in
      let steps = step_le {lowest = 0x01} {last = 0x12} (c.month % 32) (omega arith) (omega arith) in
      let stepped : MonthNamed month.byte = carried_keeps MonthNamed date step_month c.month (omega arith) (omega arith) in
      let flips = either MonthNamed year.carry (λ t. flipped_keeps month.byte stepped) (λ t. stepped) in
      let years = step_le {lowest = 0x00} {last = 0x99} c.year (omega arith) (omega arith) in
      record {
        seconds = n.seconds;
        minutes = n.minutes;
        hours = n.hours;
        date = omega (arith, step_le c.date last.0 last.1);
        month = flips.month;
        cent = flips.cent;
        year = carried_keeps (λ b. b < 0x100) month (step_field 0x00 0x99) c.year n.year (omega arith);
      }

pub named_next : (c : Clock) → Named c → Named (next_second c)
unfolding next_second
named_next c n =
    let seconds = step_field 0x00 0x59 c.seconds in
    let minutes = carried seconds (step_field 0x00 0x59) c.minutes in
    let hours = carried minutes step_hours c.hours in
    let second-le = step_le {lowest = 0x00} {last = 0x59} c.seconds (omega arith) (omega arith) in
    let minute-le = step_le {lowest = 0x00} {last = 0x59} c.minutes (omega arith) (omega arith) in
    let same : Named (record { seconds = seconds.byte; minutes = minutes.byte; hours = hours.byte; date = c.date; month = c.month; year = c.year }) =
    record {
      seconds = omega arith;
      minutes = carried_keeps (λ b. b < 0x80) seconds (step_field 0x00 0x59) c.minutes n.minutes (omega arith);
      hours = carried_keeps (λ b. b < 0x80) minutes step_hours c.hours n.hours (hours_lt c.hours);
      date = n.date;
      month = n.month;
      cent = n.cent;
      year = n.year;
    } in
    either Named hours.carry (λ t. named_day _ same) (λ t. same)

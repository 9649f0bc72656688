-- The (P) points of document 01, "Points on both sides of a line": one table of what the definitions give and what the document says,
-- one test that is computed over it, one statement. Beside it a table of other bytes that follow from its sentences, and of the
-- ruling on request #104. Assumes nothing.
use Rattle.std.specs.Prelude.{Bool, true, false, ◌&&◌, ℕ, suc, T, eqb, ℤ, pos, negsuc, take, drop}
use Rattle.std.proofs.Math.Bool.{xor}
use mathlib.Core.List.{List, [], ◌∷◌, ◌++◌, flat_map}
use Rattle.bits.specs.Bits.{digit, bit_of, bits_of, number_of, shift_in, slots_of, released}
use Rattle.calendar.specs.Calendar.{next_second, next_day, carried, step_hours, step_month, step_along, hour_after, step_field, is_valid, plus_one, flipped, is_leap, days_in, decimal}
use Rattle.calendar.specs.declared.Clock.{Clock}
use Rattle.crc.specs.Crc.{taps, crc_bit, crc_bits, crc_byte, mask8, crc8_of, mask16, sent_low, sent_high}
use Rattle.dock.specs.Entries
use Rattle.dock.specs.Entries.{temperature_of}
use Rattle.bus.specs.declared.Hearing.{Hearing}
use Rattle.bus.specs.declared.Stage.{Stage}
use Rattle.bus.specs.Bus.{new_held, clear_bus}
use Rattle.memory.specs.Hear.{command_stage, address_heard, stored, after_data, heard_whole, heard_bit}
use Rattle.memory.specs.Memory.{stage_asks, asks, stage_slot, on_line, slot_of}
use Rattle.memory.specs.Runs.{Ran, run}
use Rattle.memory.specs.Send.{first_byte, after_crc, sent_whole, outgoing, sent_bit, send_asks}
use Rattle.mission.specs.Mission
use Rattle.conversion.specs.Conversion.{is_high, is_low}
use Rattle.promises.specs.History.{Settings, period}

-- ---- how a point is written

-- what a definition gives, and what the document says it gives, as numbers
pub record Point : Type 0 where
  pub given : List ℕ
  pub said : List ℕ

infix 5 ◌gives◌
abbrev pub ◌gives◌ : List ℕ → List ℕ → Point
given gives said = record { given = given; said = said }

-- a signed number: whether it is below zero, and its size
abbrev pub signed : ℤ → List ℕ
signed (pos n) = 0 ∷ n ∷ []
signed (negsuc n) = 1 ∷ suc n ∷ []

abbrev pub clock : ℕ → ℕ → ℕ → ℕ → ℕ → ℕ → Clock
clock seconds minutes hours date month year = record { seconds = seconds; minutes = minutes; hours = hours; date = date; month = month; year = year }

abbrev pub six : Clock → List ℕ
six c = c.seconds ∷ c.minutes ∷ c.hours ∷ c.date ∷ c.month ∷ c.year ∷ []

-- a new tag that hears the first n bytes of a Write Scratchpad to 013Ch, slot by slot
abbrev pub writing : ℕ → Ran
writing n =
    run (λ question. 0) new_held (clear_bus (Stage.Hears Hearing.Command))
    (slots_of (take n (0x0F ∷ 0x3C ∷ 0x01 ∷ 0xA0 ∷ 0xA1 ∷ 0xA2 ∷ 0xA3 ∷ [])))

-- whether it sends, and no longer listens
abbrev pub sends : Stage → ℕ
sends (Stage.Sends s) = 1
sends (Stage.Hears h) = 0
sends Stage.Over = 0
sends (Stage.Gathers g) = 0
sends Stage.Copied = 0

-- the next two bytes that go out after a run
abbrev pub sent : Ran → List ℕ
sent ran =
    let line = (run (λ question. 0) ran.held ran.bus (released 16)).line in
    number_of (take 8 line) ∷ number_of (drop 8 line) ∷ []

-- date and month after a day of the year 23 has ended
abbrev pub day_after : ℕ → ℕ → List ℕ
day_after date month =
    let c = next_second (clock 0x59 0x59 0x23 date month 0x23) in
    c.date ∷ c.month ∷ []

-- a month of 31 days and one of 30, with the month after it
abbrev pub long : ℕ → ℕ → Point
long month next = day_after 0x30 month ++ day_after 0x31 month gives 0x31 ∷ month ∷ 0x01 ∷ next ∷ []

abbrev pub short : ℕ → ℕ → Point
short month next = day_after 0x29 month ++ day_after 0x30 month gives 0x30 ∷ month ∷ 0x01 ∷ next ∷ []

-- hours and date after an hour of 15 June 24 has ended
abbrev pub on_hour : ℕ → List ℕ
on_hour hours =
    let c = next_second (clock 0x59 0x59 hours 0x15 0x06 0x24) in
    c.hours ∷ c.date ∷ []

-- a mission's settings with this rate in minutes, for its history
abbrev pub minutes : ℕ → Settings
minutes rate =
    record {
      rate = rate;
      ehss = false;
      delay = 0;
      suta = false;
      ro = false;
      tlfs = false;
      low = 0;
      high = 0;
      etla = false;
      etha = false;
      clock = clock 0 0 0 0 0 0;
    }

-- ---- the table

unfoldable pub table : List Point
table =
    -- ROM 41 2B C5 FB 00 00 00 has CRC-8 A1
    (crc8_of 0xFBC52B41 ∷ [] gives 0xA1 ∷ [])
    -- L: 672 gives 16, 0 gives −656, 2047 gives 1391
    ∷ (signed (temperature_of 0x40 672) gives 0 ∷ 16 ∷ [])
    ∷ (signed (temperature_of 0x40 0) gives 1 ∷ 656 ∷ [])
    ∷ (signed (temperature_of 0x40 2047) gives 0 ∷ 1391 ∷ [])
    -- T: 672 gives 656, 0 gives −16
    ∷ (signed (temperature_of 0x60 672) gives 0 ∷ 656 ∷ [])
    ∷ (signed (temperature_of 0x60 0) gives 1 ∷ 16 ∷ [])
    -- clock 59 59 23 31 12 99 becomes 00 00 00 01 81 00
    ∷ (six (next_second (clock 0x59 0x59 0x23 0x31 0x12 0x99)) gives 0x00 ∷ 0x00 ∷ 0x00 ∷ 0x01 ∷ 0x81 ∷ 0x00 ∷ [])
    -- 59 59 23 28 02 23 becomes 00 00 00 01 03 23; year 24 gives 29 02
    ∷ (six (next_second (clock 0x59 0x59 0x23 0x28 0x02 0x23)) gives 0x00 ∷ 0x00 ∷ 0x00 ∷ 0x01 ∷ 0x03 ∷ 0x23 ∷ [])
    ∷ (six (next_second (clock 0x59 0x59 0x23 0x28 0x02 0x24)) gives 0x00 ∷ 0x00 ∷ 0x00 ∷ 0x29 ∷ 0x02 ∷ 0x24 ∷ [])
    -- high 54h: 671 no, 672 yes
    ∷ (digit (is_high 0x54 671) ∷ digit (is_high 0x54 672) ∷ [] gives 0 ∷ 1 ∷ [])
    -- low 54h: 679 yes, 680 no
    ∷ (digit (is_low 0x54 679) ∷ digit (is_low 0x54 680) ∷ [] gives 1 ∷ 0 ∷ [])
    -- rate 16383 in minutes: 982,980 s, to the mission, to the dock and to the history
    ∷ (Mission.period_of false 16383 ∷ Entries.period_of 16383 false ∷ period (minutes 16383) ∷ [] gives 982980 ∷ 982980 ∷ 982980 ∷ [])
    -- address 013Ch: offset 1Ch, full after 4 bytes: the ending offset after the address and after each byte, and when the CRC-16 follows
    ∷ ((writing 3).held.ending ∷ (writing 4).held.ending ∷ (writing 5).held.ending ∷ (writing 6).held.ending ∷ (writing 7).held.ending ∷ []
    gives 0x1C ∷ 0x1C ∷ 0x1D ∷ 0x1E ∷ 0x1F ∷ [])
    ∷ (sends (writing 3).bus.stage ∷ sends (writing 6).bus.stage ∷ sends (writing 7).bus.stage ∷ [] gives 0 ∷ 0 ∷ 1 ∷ [])
    ∷ []

-- ---- beside it

unfoldable pub further : List Point
further =
    -- "CRC-16 is x^16+x^15+x^2+1, from 0, sent inverted, low byte first": of 0F 3C 01 A0 A1 A2 A3 it is 078Dh, and 72 F8 go out
    (sent (writing 7) gives 0x72 ∷ 0xF8 ∷ [])
    -- the months but February
    ∷ long 0x01 0x02
    ∷ long 0x03 0x04
    ∷ short 0x04 0x05
    ∷ long 0x05 0x06
    ∷ short 0x06 0x07
    ∷ long 0x07 0x08
    ∷ long 0x08 0x09
    ∷ short 0x09 0x10
    ∷ long 0x10 0x11
    ∷ short 0x11 0x12
    ∷ long 0x12 0x01
    -- "a field at its last value, or not valid, returns to its lowest and carries": 31 April, second 5A, minute 60, hour 24, date 00
    ∷ (day_after 0x31 0x04 gives 0x01 ∷ 0x05 ∷ [])
    ∷ (six (next_second (clock 0x5A 0x00 0x00 0x01 0x01 0x23)) gives 0x00 ∷ 0x01 ∷ 0x00 ∷ 0x01 ∷ 0x01 ∷ 0x23 ∷ [])
    ∷ (six (next_second (clock 0x59 0x60 0x00 0x01 0x01 0x23)) gives 0x00 ∷ 0x00 ∷ 0x01 ∷ 0x01 ∷ 0x01 ∷ 0x23 ∷ [])
    ∷ (six (next_second (clock 0x59 0x59 0x24 0x01 0x01 0x23)) gives 0x00 ∷ 0x00 ∷ 0x00 ∷ 0x02 ∷ 0x01 ∷ 0x23 ∷ [])
    ∷ (day_after 0x00 0x04 gives 0x01 ∷ 0x05 ∷ [])
    -- "an invalid month has 31, an invalid year no leap day": month 13, which then carries into the year; year A4
    ∷ long 0x13 0x01
    ∷ (six (next_second (clock 0x59 0x59 0x23 0x31 0x13 0x23)) gives 0x00 ∷ 0x00 ∷ 0x00 ∷ 0x01 ∷ 0x01 ∷ 0x24 ∷ [])
    ∷ (six (next_second (clock 0x59 0x59 0x23 0x28 0x02 0xA4)) gives 0x00 ∷ 0x00 ∷ 0x00 ∷ 0x01 ∷ 0x03 ∷ 0xA4 ∷ [])
    -- request #104: "the rest runs 12, 1 to 11; 11 AM goes to 12 PM", 12 AM to 1, 9 to 10, 11 AM, 12 PM to 1, 9 PM to 10
    ∷ (on_hour 0x52 ++ on_hour 0x49 ++ on_hour 0x51 ++ on_hour 0x72 ++ on_hour 0x69 gives
    0x41 ∷ 0x15 ∷ 0x50 ∷ 0x15 ∷ 0x72 ∷ 0x15 ∷ 0x61 ∷ 0x15 ∷ 0x70 ∷ 0x15 ∷ [])
    -- "and 11 PM goes to 12 AM with the next date"
    ∷ (on_hour 0x71 gives 0x52 ∷ 0x16 ∷ [])
    -- "An hour not valid in its form returns to 00 or to 12 AM and carries, and the form bit stays": 0, 13, digit A, 0 PM, all ones; and
    -- 23 and 24 of the other form
    ∷ (on_hour 0x40 ++ on_hour 0x53 ++ on_hour 0x4A ++ on_hour 0x60 ++ on_hour 0x7F gives
    0x52 ∷ 0x16 ∷ 0x52 ∷ 0x16 ∷ 0x52 ∷ 0x16 ∷ 0x52 ∷ 0x16 ∷ 0x52 ∷ 0x16 ∷ [])
    ∷ (on_hour 0x23 ++ on_hour 0x24 gives 0x00 ∷ 0x16 ∷ 0x00 ∷ 0x16 ∷ [])
    -- the century's end at 11 PM, noon on 28 February, and the leap day
    ∷ (six (next_second (clock 0x59 0x59 0x71 0x31 0x12 0x99)) gives 0x00 ∷ 0x00 ∷ 0x52 ∷ 0x01 ∷ 0x81 ∷ 0x00 ∷ [])
    ∷ (six (next_second (clock 0x59 0x59 0x51 0x28 0x02 0x23)) gives 0x00 ∷ 0x00 ∷ 0x72 ∷ 0x28 ∷ 0x02 ∷ 0x23 ∷ [])
    ∷ (six (next_second (clock 0x59 0x59 0x71 0x28 0x02 0x24)) gives 0x00 ∷ 0x00 ∷ 0x52 ∷ 0x29 ∷ 0x02 ∷ 0x24 ∷ [])
    ∷ []

-- ---- the test, and the statements

abbrev pub same : List ℕ → List ℕ → Bool
same [] [] = true
same [] (y ∷ ys) = false
same (x ∷ xs) [] = false
same (x ∷ xs) (y ∷ ys) = eqb x y && same xs ys

abbrev pub right : List Point → Bool
right [] = true
right (p ∷ ps) = same p.given p.said && right ps

pub points : T (right table)
unfolding table taps crc_bit crc_bits mask8 crc8_of bit_of bits_of xor temperature_of
    next_second next_day carried step_hours step_month step_along hour_after step_field is_valid plus_one flipped is_leap days_in decimal is_high is_low Mission.period_of Entries.period_of period
    run slot_of stage_slot on_line asks stage_asks heard_bit heard_whole address_heard stored command_stage after_data shift_in flat_map
points = tt

pub further_points : T (right further)
unfolding further taps crc_bit crc_bits crc_byte mask16 sent_low sent_high bit_of bits_of number_of xor
    next_second next_day carried step_hours step_month step_along hour_after step_field is_valid plus_one flipped is_leap days_in decimal
    run slot_of stage_slot on_line asks stage_asks heard_bit heard_whole address_heard stored command_stage after_data shift_in flat_map first_byte after_crc sent_whole outgoing sent_bit send_asks
further_points = tt

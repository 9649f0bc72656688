-- Counters in their ranges stay there: over ticks with a reading, and over Start. Assumes nothing.
use Rattle.std.specs.Prelude.{◌≡◌, true, ◌&&◌, List, ℕ, ◌≤◌, ◌<◌, leb, ltb, eqb}
use Rattle.std.proofs.Math.Bool.{and-eq-true_iff}
use Rattle.std.proofs.Common.{arith, le-leb, leb-true, leb-false, lt-ltb, ltb-true}
use Rattle.bits.specs.Choose.{choice, either}
use Rattle.conversion.specs.Clock.{clocked}
use Rattle.mission.specs.Mission.{may_start, started_counters, delaying, minute_over, converting, next_minute, next_wait, ticked_counters, counters_in_range}
use Rattle.mission.specs.Mission.Laws.{period_le}
use Rattle.mission.specs.declared.Counters.{Counters}

-- the ranges as facts
pub record InRange (c : Counters) : Type 0 where
  pub reading : c.reading ≤ 2047
  pub minute : c.minute < 60
  pub wait : c.wait < 982980

pub range_facts : (c : Counters) → counters_in_range c ≡ true → InRange c
unfolding counters_in_range
range_facts c e =
    let two = (and-eq-true_iff (leb c.reading 2047 && ltb c.minute 60) (ltb c.wait 982980)).0 e in
    let one = (and-eq-true_iff (leb c.reading 2047) (ltb c.minute 60)).0 two.0 in
    record {
      reading = leb-true c.reading 2047 one.0;
      minute = ltb-true c.minute 60 one.1;
      wait = ltb-true c.wait 982980 two.1;
    }

pub facts_range : (c : Counters) → InRange c → counters_in_range c ≡ true
unfolding counters_in_range
facts_range c r = rw (le-leb c.reading 2047 r.reading, lt-ltb c.minute 60 r.minute, lt-ltb c.wait 982980 r.wait)

minute_lt : (image : List ℕ) (c : Counters) → c.minute < 60 → next_minute image c < 60
unfolding next_minute minute_over
minute_lt image c h =
    let P : ℕ → Type 0 = λ n. n < 60 in
    choice P (delaying image) (either P (leb 59 c.minute) (λ e. omega arith) (λ e. omega (arith, leb-false 59 c.minute e))) h

wait_lt : (image : List ℕ) (c : Counters) → c.wait < 982980 → next_wait image c < 982980
unfolding next_wait
wait_lt image c h =
    let P : ℕ → Type 0 = λ n. n < 982980 in
    choice P (converting image) (choice P (eqb c.wait 0) (omega (arith, period_le image)) (omega arith)) h

pub range_ticked : (image : List ℕ) (c : Counters) (reading : ℕ) → counters_in_range c ≡ true → reading ≤ 2047
    → counters_in_range (ticked_counters image c reading) ≡ true
unfolding ticked_counters
range_ticked image c reading e h =
    let r = range_facts c e in
    facts_range _ (record { reading = h; minute = minute_lt (clocked image) c r.minute; wait = wait_lt (clocked image) c r.wait })

pub range_started : (image : List ℕ) (c : Counters) → counters_in_range c ≡ true → counters_in_range (started_counters image c) ≡ true
unfolding started_counters
range_started image c e =
    choice (λ (k : Counters). counters_in_range k ≡ true) (may_start image)
    (facts_range _ (record { reading = (range_facts c e).reading; minute = omega arith; wait = omega arith }))
    e

-- Request #102, the first logged sample of an alarm start: "While it waits for an alarm, the device converts to 8 bits only .. Document 01 is
-- wrong to store entry 0 to its full 11 bits: with SUTA and the 16-bit format its low byte is 00h, and the latest reading of every waiting
-- conversion has its low three bits 0. Flags, and entries from 1 on, don't change." Said by the bytes of the image, for any record and image
-- that no event refuses; that "The dock's listing of entry 0 follows" is `Demand2`, by `History.kept`, and `Demand2.Met` has such a mission
-- in numbers. A Forced Conversion "to 11 bits" is `Sentences.Mission.Forced`. Assumes nothing.
use Rattle.std.specs.Prelude.{◌≡◌, Bool, List, [], ℕ, ◌+◌, ◌*◌, ◌/◌, ◌%◌, ◌≤◌, ◌<◌, length, if◌then◌else◌}
use Rattle.std.proofs.Math.Path.{refl}
use Rattle.std.proofs.Common.{◌∙◌, arith}
use Rattle.std.proofs.Math.Bool.{true, false}
use borrow.Author.Tests.{eq-eqb, ne_eqb, lt-leb}
use Rattle.bits.specs.Choose.{choice}
use Rattle.promises.specs.History
use Rattle.promises.specs.History.{Settings}
use Rattle.promises.specs.History.Laws.{most_pos}
use Rattle.promises.specs.Line.Converting.{mission_waits, mission_makes}
use Rattle.promises.specs.Ranges.{Fit}
use Rattle.promises.specs.Ranges.Laws.{reached_fit}
use Rattle.promises.specs.Runs.{State, Event, after, run, Reached, Always}
use Rattle.promises.specs.Runs.Laws.{reached_after, reached_run}
use Rattle.promises.specs.Sentences.Course.{Starts, Going, mission_ticks, settings_of}
use Rattle.promises.specs.Sentences.Mission.{wide, waits, alarms}
use Rattle.promises.specs.Sentences.Ticking.{entry_number, log_byte, makes, Converted}
use Rattle.promises.specs.Sentences.Mission.Ticks.{ticks}
use Rattle.promises.specs.Words.{byte_at}

-- what a waiting conversion leaves. The latest reading is in 020Ch and 020Dh; entry 0 is the log's first, at 1000h
pub record EightBits (reading : ℕ) (before after : List ℕ) : Type 0 where
  -- in either format
  pub latest : (byte_at after 0x020C ≡ 0x00) × (byte_at after 0x020D ≡ reading / 8)
  -- the alarming one
  pub entry : alarms before reading ≡ true → byte_at after 0x1000 ≡ reading / 8
  pub entry_low : alarms before reading ≡ true → wide before ≡ true → byte_at after 0x1001 ≡ 0x00
  -- every other leaves the log as it is
  pub waits_on : alarms before reading ≡ false → (j : ℕ) → j < 8192 → byte_at after (0x1000 + j) ≡ byte_at before (0x1000 + j)
  -- flags, counters and the rest, as of every conversion
  pub converted : Converted reading before after

-- what one that does not wait leaves in the 16-bit format. With SUTA it is entry 1 or a later one
pub record ElevenBits (reading : ℕ) (before after : List ℕ) : Type 0 where
  pub latest : (byte_at after 0x020C ≡ reading % 8 * 32) × (byte_at after 0x020D ≡ reading / 8)
  pub entry : byte_at after (0x1000 + 2 * (entry_number before % 4096)) ≡ reading / 8
  pub entry_low : byte_at after (0x1000 + (2 * (entry_number before % 4096) + 1)) ≡ reading % 8 * 32
  pub converted : Converted reading before after

-- ---- from what becomes of the registers and the log

-- entry 0 at the log's first byte, in the 16-bit format at its first two; and there any entry at its own two
module _ (reading old : ℕ) where
  log_first : (tlfs : Bool) → log_byte tlfs 0 reading 0 old ≡ reading / 8
  unfolding log_byte
  log_first true = refl
  log_first false = refl

  log_high : (k : ℕ) → log_byte true k reading (2 * (k % 4096)) old ≡ reading / 8
  unfolding log_byte
  log_high k = rw (eq-eqb (2 * (k % 4096)) (2 * (k % 4096)) refl)

  log_low : (k : ℕ) → log_byte true k reading (2 * (k % 4096) + 1) old ≡ reading % 8 * 32
  unfolding log_byte
  log_low k =
      let q = 2 * (k % 4096) in
      rw (ne_eqb (q + 1) q (omega arith), eq-eqb (q + 1) (q + 1) refl)

module _ {reading : ℕ} {before after : List ℕ} (made : Converted reading before after) where
  eight_by : waits before ≡ true → EightBits reading before after
  eight_by waiting =
      let taken = reading / 8 * 8 in
      let eighths : taken / 8 ≡ reading / 8 = omega arith in
      let shown : (if wide before then taken else taken) ≡ taken = choice (λ (n : ℕ). n ≡ taken) (wide before) refl refl in
      let stored = rw shown at (rw waiting at made.latest) in
      record {
        latest = (stored.0 ∙ omega arith, stored.1 ∙ eighths);
        entry = λ alarm. made.log 0 (omega arith) ∙ rw (waiting, alarm) (log_first taken (byte_at before 0x1000) (wide before) ∙ eighths);
        entry_low = λ alarm long. made.log 1 (omega arith) ∙ rw (waiting, alarm, long) (log_low taken (byte_at before 0x1001) 0 ∙ omega arith);
        waits_on = λ none j h. made.log j h ∙ rw (waiting, none);
        converted = made;
      }

  eleven_by : waits before ≡ false → wide before ≡ true → ElevenBits reading before after
  eleven_by going long =
      let k = entry_number before in
      let logged : (j : ℕ) → j < 8192 → byte_at after (0x1000 + j) ≡ log_byte true k reading j (byte_at before (0x1000 + j)) =
      λ j h. made.log j h ∙ rw (going, long) in
      record {
        latest = rw (going, long) at made.latest;
        entry = logged (2 * (k % 4096)) (omega arith) ∙ log_high reading _ k;
        entry_low = logged (2 * (k % 4096) + 1) (omega arith) ∙ log_low reading _ k;
        converted = made;
      }

-- ---- a tick with a valid reading that makes a conversion

module _ {s : State} (fit : Fit s) (reading : ℕ) (small : reading ≤ 2047) (made : makes s ≡ true) where
  -- SUTA and WFTA are 1 as it begins
  pub waiting_tick : waits s.image ≡ true → EightBits reading s.image (after s (Event.tick reading)).image
  waiting_tick waiting = eight_by ((ticks fit reading small).converts made) waiting

  -- one of the two is 0
  pub logging_tick : waits s.image ≡ false → wide s.image ≡ true → ElevenBits reading s.image (after s (Event.tick reading)).image
  logging_tick going long = eleven_by ((ticks fit reading small).converts made) going long

-- ---- the same of a mission, from its settings and readings alone: a Start is done in the event e; then come these events, none of which
-- writes a register, clears or stops, and by which nothing is logged; and then a tick at a conversion time

module _ {s : State} (e : Event) (events : List Event) (reached : Reached s) (starts : Starts s e) (going : Always Going (after s e) events) where
  abbrev there : State
  there = (run (after s e) events).state

  abbrev settings : Settings
  settings = settings_of s.image

  pub mission_waiting : (reading : ℕ) → reading ≤ 2047 → settings.suta ≡ true
      → History.history settings (mission_ticks (after s e) events) ≡ []
      → History.is_time settings (length (mission_ticks (after s e) events) + 1) ≡ true
      → EightBits reading there.image (after there (Event.tick reading)).image
  mission_waiting reading small suta none time =
      waiting_tick (reached_fit (reached_run events (reached_after reached e))) reading small
      (mission_makes e events reached starts going ∙ rw (time, none, lt-leb (History.most settings) 0 (most_pos settings)))
      (mission_waits e events reached starts going ∙ rw (none, suta))

-- What one tick does, case by case: no mission, the delay, between conversion times, and a conversion time.
-- Assumes nothing.
use Rattle.std.specs.Prelude.{◌≡◌, refl, Bool, true, false, not, ◌&&◌, List, [], ◌∷◌, ℕ, ◌-◌, ◌%◌, ◌≤◌, eqb, length, if◌then◌else◌}
use Rattle.std.proofs.Common.{sym, ◌∙◌, arith}
use Rattle.std.proofs.lemmas.Bool.{false≢true}
use Rattle.bits.specs.Choose.{choices}
use Rattle.calendar.specs.Calendar.{next_second}
use Rattle.calendar.proofs.Calendar.Named.{named_next}
use Rattle.calendar.specs.declared.Clock.{Clock}
use Rattle.image.specs.Fields.Laws.{word_lt, word_put_word}
use Rattle.image.specs.Leaves.{Leaves, leaves_same, leaves_then, leaves_choice, leaves_wider, leaves_put_word, word_left}
use Rattle.image.specs.Registers.{eosc, mip, rate, delay, wfta, mission_samples, put_delay}
use Rattle.conversion.specs.Clock.{clock_of, clocked}
use Rattle.conversion.specs.Clock.Named.{clock_named, clock_put_clock}
use Rattle.conversion.specs.Conversion.{ended, taken, converted}
use Rattle.mission.specs.Mission.{delaying, minute_over, converting, due, mission_ticked, next_minute, next_wait, ticked, ticked_counters}
use Rattle.conversion.specs.Conversion.Converts.{Converts, converts, ended_same, taken_same, records_shift}
use Rattle.conversion.specs.Clock.Laws.{leaves_clocked}
use Rattle.conversion.specs.Conversion.Frames.{leaves_converted}
use Rattle.conversion.specs.Conversion.Settings.{SameSettings, settings_then, settings_left, resolved_same, alarms_high_same, alarms_low_same}
use Rattle.mission.specs.Mission.Settings.{period_same}
use Rattle.conversion.specs.Conversion.Whole.{Whole, whole_clocked}
use Rattle.mission.specs.declared.Counters.{Counters}

-- ---- the clock

pub clock_clocked : (image : List ℕ) → 0x0206 ≤ length image
    → clock_of (clocked image) ≡ if eosc image then next_second (clock_of image) else clock_of image
unfolding clocked
clock_clocked image fits =
    choices (λ (i : List ℕ) (c : Clock). clock_of i ≡ c) (eosc image)
    (clock_put_clock image (next_second (clock_of image)) fits (named_next (clock_of image) (clock_named image)))
    refl

-- ---- what a tick goes by is not the clock

module _ (image : List ℕ) where
  pub settings_clocked : SameSettings image (clocked image)
  settings_clocked = settings_left (leaves_clocked image) tt tt tt tt tt

  pub mip_clocked : mip (clocked image) ≡ mip image
  mip_clocked = (leaves_clocked image).bits 0x0215 1 tt tt tt

  pub wfta_clocked : wfta (clocked image) ≡ wfta image
  wfta_clocked = (leaves_clocked image).bits 0x0215 4 tt tt tt

  pub delay_clocked : delay (clocked image) ≡ delay image
  delay_clocked = word_left 0x0216 3 (leaves_clocked image) tt

  pub samples_clocked : mission_samples (clocked image) ≡ mission_samples image
  samples_clocked = word_left 0x0220 3 (leaves_clocked image) tt

  pub delaying_clocked : delaying (clocked image) ≡ delaying image
  unfolding delaying
  delaying_clocked = rw (mip_clocked, delay_clocked)

  pub converting_clocked : converting (clocked image) ≡ converting image
  unfolding converting
  converting_clocked = rw (mip_clocked, delay_clocked, settings_clocked.rate)

  pub due_clocked : (c : Counters) → due (clocked image) c ≡ due image c
  unfolding due
  due_clocked c = rw converting_clocked

  pub ended_clocked : ended (clocked image) ≡ ended image
  ended_clocked = ended_same settings_clocked wfta_clocked samples_clocked

-- no conversion time comes while the delay runs
pub due_not_delaying : (image : List ℕ) (c : Counters) → due image c ≡ true → delaying image ≡ false
unfolding due converting delaying
due_not_delaying image c e = by_tests (mip image) (eqb (delay image) 0) (eqb (rate image) 0) (eqb c.wait 0) e
  where
    by_tests : (m d r w : Bool) → (m && d && not r && w) ≡ true → (m && not d) ≡ false
    by_tests true true r w e = refl
    by_tests true false r w e = absurd (false≢true e)
    by_tests false d r w e = refl

-- ---- the counters

-- the counters after a tick go by the image as it is before
pub counters_ticked : (image : List ℕ) (c : Counters) (reading : ℕ)
    → ticked_counters image c reading ≡ record { reading = reading; minute = next_minute image c; wait = next_wait image c }
unfolding ticked_counters next_minute next_wait
counters_ticked image c reading =
    rw (delaying_clocked image, converting_clocked image, period_same (settings_clocked image))

-- ---- the image

module _ (image : List ℕ) (c : Counters) (reading : ℕ) where
  -- with no mission a tick advances the clock, and nothing else
  pub ticked_idle : mip image ≡ false → ticked image c reading ≡ clocked image
  unfolding ticked mission_ticked delaying converting due
  ticked_idle e = rw (mip_clocked image, e)

  -- while the delay runs no conversion is made
  pub ticked_delaying : delaying image ≡ true
      → ticked image c reading ≡ if minute_over c then put_delay (clocked image) (delay image - 1) else clocked image
  unfolding ticked mission_ticked
  ticked_delaying e = rw (delaying_clocked image, e, delay_clocked image)

  -- a tick that is no conversion time, as every one with rate 0
  pub ticked_between : delaying image ≡ false → due image c ≡ false → ticked image c reading ≡ clocked image
  unfolding ticked mission_ticked
  ticked_between e f = rw (delaying_clocked image, e, due_clocked image c, f)

  -- a conversion time
  pub ticked_due : due image c ≡ true → ticked image c reading ≡ converted (clocked image) reading
  unfolding ticked mission_ticked
  ticked_due f = rw (delaying_clocked image, due_not_delaying image c f, due_clocked image c, f)

  -- a conversion time after the mission's conversions have ended
  pub ticked_ended : due image c ≡ true → ended image ≡ true → ticked image c reading ≡ clocked image
  unfolding converted
  ticked_ended f e = ticked_due f ∙ rw (ended_clocked image, e)

  -- a tick that makes no conversion moves the clock and the delay alone
  pub leaves_quiet : (due image c && not (ended image)) ≡ false → Leaves ((0x0200, 6) ∷ (0x0216, 3) ∷ []) [] image (ticked image c reading)
  leaves_quiet e = by_tests (delaying image) (due image c) (ended image) refl refl refl e
    where
      by_tests : (d u f : Bool) → delaying image ≡ d → due image c ≡ u → ended image ≡ f → (u && not f) ≡ false
          → Leaves ((0x0200, 6) ∷ (0x0216, 3) ∷ []) [] image (ticked image c reading)
      by_tests true u f x y z e =
          rw (ticked_delaying x)
          (leaves_then (leaves_wider tt (leaves_clocked image))
          (leaves_choice (minute_over c) (leaves_wider tt (leaves_put_word _ 0x0216 3 _)) leaves_same))
      by_tests false false f x y z e = rw (ticked_between x y) (leaves_wider tt (leaves_clocked image))
      by_tests false true true x y z e = rw (ticked_ended y z) (leaves_wider tt (leaves_clocked image))
      by_tests false true false x y z e = absurd (false≢true (sym e))

  -- the delay falls as its minute is over, and only then
  pub delay_ticked : Whole image → delay (ticked image c reading) ≡ if delaying image && minute_over c then delay image - 1 else delay image
  delay_ticked w = by_tests (delaying image) (minute_over c) refl refl
    where
      fall : delaying image ≡ true → minute_over c ≡ true → delay (ticked image c reading) ≡ delay image - 1
      fall e o =
          rw (ticked_delaying e, o, word_put_word (clocked image) 0x0216 3 (delay image - 1) (omega (arith, (whole_clocked w).size)))
          (omega (arith, word_lt image 0x0216 3 w.bytes))

      by_tests : (t u : Bool) → delaying image ≡ t → minute_over c ≡ u
          → delay (ticked image c reading) ≡ if t && u then delay image - 1 else delay image
      by_tests true true e o = fall e o
      by_tests true false e o = rw (ticked_delaying e, o) (delay_clocked image)
      by_tests false u e o = not_due (due image c) refl
        where
          not_due : (t : Bool) → due image c ≡ t → delay (ticked image c reading) ≡ delay image
          not_due true f = rw (ticked_due f) (word_left 0x0216 3 (leaves_converted (clocked image) reading) tt ∙ delay_clocked image)
          not_due false f = rw (ticked_between e f) (delay_clocked image)

  -- a conversion that is made: what it does to each field, and the clock as the tick has advanced it
  pub converts_ticked : Whole image → due image c ≡ true → ended image ≡ false
      → Converts image (if eosc image then next_second (clock_of image) else clock_of image) (taken image reading) (ticked image c reading)
  converts_ticked w f e =
      let v = whole_clocked w in
      let k = leaves_clocked image in
      let same = settings_clocked image in
      let result = taken image reading in
      let r = rw (taken_same same (wfta_clocked image) reading) at (converts v reading (ended_clocked image ∙ e)) in
      rw (ticked_due f, ← clock_clocked image (omega (arith, w.size)))
      (record {
        settings = settings_then same r.settings;
        device_samples = rw (word_left 0x0223 3 k tt) at r.device_samples;
        latest = rw (resolved_same same (result % 2048)) at r.latest;
        thf = rw (alarms_high_same same result, k.bits 0x0214 1 tt tt tt) at r.thf;
        tlf = rw (alarms_low_same same result, k.bits 0x0214 0 tt tt tt) at r.tlf;
        log = records_shift same (wfta_clocked image) (samples_clocked image) k.keeps tt tt tt r.log;
      })

-- a tick's image goes by two of the counters alone
pub ticked_by : (image : List ℕ) (c d : Counters) (reading : ℕ) → c.minute ≡ d.minute → c.wait ≡ d.wait
    → ticked image c reading ≡ ticked image d reading
unfolding ticked mission_ticked minute_over due
ticked_by image c d reading m w = rw (m, w)

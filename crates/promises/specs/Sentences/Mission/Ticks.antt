-- What a tick does to any image and record that no event refuses (`Sentences.Ticking`, `ticks`), from the laws of the mission's tick. Assumes
-- nothing.
use Rattle.std.specs.Prelude.{◌≡◌, refl, Bool, true, false, not, ◌&&◌, List, [], ◌∷◌, ℕ, ◌+◌, ◌*◌, ◌/◌, ◌%◌, ◌≤◌, ◌<◌, T, eqb, get_or, if◌then◌else◌}
use Rattle.std.proofs.Common.{sym, ◌∙◌, arith}
use Rattle.std.proofs.Math.Bool.{and-eq-true_iff}
use Rattle.std.proofs.lemmas.Bool.{not-true}
use Rattle.bits.specs.Bits.{bit_of}
use Rattle.calendar.specs.Calendar.{next_second}
use Rattle.calendar.specs.declared.Clock.{Clock}
use Rattle.image.specs.Fields.{flag_at}
use Rattle.image.specs.Fields as fields
use Rattle.image.specs.Keeps.{Run, free, free_part, Keeps}
use Rattle.image.specs.Leaves.{Leaves, leaves_then, leaves_wider}
use Rattle.conversion.specs.Clock.{clock_of, stamp_of, clocked}
use Rattle.conversion.specs.Clock.Laws.{six_kept, six_put_clock, clock_kept, leaves_clocked}
use Rattle.conversion.specs.Conversion as conversion
use Rattle.conversion.specs.Conversion.Converts.{Converts, logs, taken_le, eighths_taken, high_taken, low_taken, alarms_taken, logs_taken}
use Rattle.conversion.specs.Conversion.Frames.{leaves_converted}
use Rattle.conversion.specs.Conversion.Reads.{byte_logged}
use Rattle.conversion.specs.Conversion.Whole.{Whole}
use Rattle.mission.specs.Mission as mission
use Rattle.mission.specs.Mission.Frames.{leaves_mission_ticked}
use Rattle.mission.specs.Mission.Ticks.{clock_clocked, counters_ticked, delay_ticked, ticked_due, leaves_quiet, converts_ticked}
use Rattle.mission.specs.Mission.Whole.{whole_ticked}
use Rattle.mission.specs.declared.Counters.{Counters}
use Rattle.promises.specs.Demand2.Course.{tick_leaves}
use Rattle.promises.specs.Ranges.{Fit}
use Rattle.promises.specs.Ranges.Laws.{fit_sound, fit_whole}
use Rattle.promises.specs.Runs.{State, Event, after}
use Rattle.promises.specs.Sentences.Clock.{clock_at, six_at}
use Rattle.promises.specs.Sentences.Clock.Laws.{second_is, clock_is, clock_at_named, stamp_is}
use Rattle.promises.specs.Sentences.Mission.{waits, samples_of}
use Rattle.promises.specs.Sentences.Ticking.{makes, log_byte, Converted, Ticked}
use Rattle.promises.specs.Words.{bit, bit_at}
use Rattle.promises.specs.Words.Laws.{byte_low, byte_log, stays_left}

-- ---- a conversion that is made

-- the latest reading's two bytes, as they are written
pub two_bytes : (low high reading : ℕ) → low < 256 → high < 256 → low + 256 * (high + 256 * 0) ≡ 32 * reading →
    (low ≡ reading % 8 * 32) × (high ≡ reading / 8)
two_bytes low high reading l h e = (omega arith, omega arith)

-- which clock the stamp is
stamp_of_lem : (waits none : Bool) (now before : Clock) →
    (if waits then before else if none then now else before) ≡ (if not waits && none then now else before)
stamp_of_lem true none now before = refl
stamp_of_lem false none now before = refl

-- from what the mission's laws say of it
converted_by : {before after : List ℕ} (reading : ℕ) → reading ≤ 2047 → Whole after →
    Converts before (clock_of after) (conversion.taken before reading) after →
    Leaves ((0x0200, 6) ∷ (0x020C, 2) ∷ (0x0219, 6) ∷ (0x0220, 3) ∷ (0x0223, 3) ∷ (640, 8192) ∷ [])
    ((0x0214, 0) ∷ (0x0214, 1) ∷ (0x0215, 4) ∷ []) before after →
    Converted reading before after
unfolding bit bit_of flag_at fields.word_at conversion.resolved conversion.alarms conversion.alarms_high conversion.alarms_low conversion.is_high
    conversion.is_low conversion.waiting conversion.taken conversion.next_entry logs byte_logged log_byte
converted_by {before} {after} reading small whole made left =
    let result = conversion.taken before reading in
    let full : result % 2048 ≡ result = omega (arith, taken_le before reading) in
    let byte : result / 8 % 256 ≡ result / 8 = omega (arith, taken_le before reading) in
    let eighths : result / 8 ≡ reading / 8 = eighths_taken before reading in
    record {
      device = made.device_samples;
      latest = two_bytes _ _ _ (whole.bytes 0x020C) (whole.bytes 0x020D) (rw (full, eighths) at made.latest);
      thf = made.thf ∙ rw (high_taken before reading);
      tlf = made.tlf ∙ rw (low_taken before reading);
      samples = made.log.mission_samples;
      stamp = rw (stamp_is after, stamp_is before, clock_is after)
          (made.log.stamp ∙ stamp_of_lem (waits before) (eqb (samples_of before) 0) (clock_of after) (stamp_of before));
      wfta = made.log.wfta ∙ rw (alarms_taken before reading);
      log = λ j h. rw (byte_log after j h, byte_log before j h) (rw (byte, logs_taken before reading) at (made.log.bytes j h));
      rest = stays_left left tt;
    }

-- ---- any tick

-- whether it makes one
pub makes_is : (s : State) → makes s ≡ (mission.due s.image s.tag.counters && not (conversion.ended s.image))
unfolding bit bit_of flag_at fields.word_at mission.converting mission.due conversion.ended conversion.places conversion.next_entry conversion.waiting
makes_is s = refl

-- what leaves the clock's bytes leaves each of them
clock_bytes : {runs : List Run} {before after : List ℕ} → Keeps runs before after → T (free runs 0x0200 6) → (a : ℕ) → a < 6
    → get_or after (0x0200 + a) 0 ≡ get_or before (0x0200 + a) 0
clock_bytes {runs} kept left a low = kept.bytes (0x0200 + a) (free_part runs 0x0200 6 (0x0200 + a) 1 (omega arith) (omega arith) left)

module _ {s : State} (fit : Fit s) (reading : ℕ) (small : reading ≤ 2047) where
  abbrev image : List ℕ
  image = s.image

  abbrev counters : Counters
  counters = s.tag.counters

  abbrev end : List ℕ
  end = mission.ticked image counters reading

  whole : Whole image
  whole = fit_whole fit

  -- the clock, advanced if EOSC is 1
  clock_end : clock_of end ≡ (if bit_at image 0x0212 0 then next_second (clock_of image) else clock_of image)
  unfolding mission.ticked bit bit_of flag_at
  clock_end =
      clock_kept (leaves_mission_ticked (clocked image) counters reading).keeps tt ∙ clock_clocked image (omega (arith, whole.size))

  -- with EOSC 0 its bytes stay
  still_end : bit_at image 0x0212 0 ≡ false → (a : ℕ) → a < 6 → get_or end (0x0200 + a) 0 ≡ get_or image (0x0200 + a) 0
  unfolding mission.ticked clocked bit bit_of flag_at
  still_end stops a low =
      clock_bytes (leaves_mission_ticked (clocked image) counters reading).keeps tt a low ∙ rw stops

  -- else they are a second on
  stored_end : bit_at image 0x0212 0 ≡ true → six_at end 0x0200 ≡ next_second (clock_of image)
  unfolding mission.ticked clocked bit bit_of flag_at six_at
  stored_end runs =
      six_kept 0x0200 (leaves_mission_ticked (clocked image) counters reading).keeps tt
      ∙ rw runs (six_put_clock image 0x0200 (next_second (clock_of image)) (omega (arith, whole.size)))

  -- a conversion is made
  converts_end : mission.due image counters ≡ true → conversion.ended image ≡ false → Converted reading image end
  unfolding bit bit_of flag_at
  converts_end due going =
      converted_by reading small (whole_ticked counters reading whole)
      (rw (sym clock_end) at (converts_ticked image counters reading whole due going))
      (rw (ticked_due image counters reading due)
      (leaves_then (leaves_wider tt (leaves_clocked image)) (leaves_wider tt (leaves_converted (clocked image) reading))))

  -- by the image and the counters
  ticked_end : Ticked reading s
      (record {
        image = end;
        tag = record { code = s.tag.code; counters = mission.ticked_counters image counters reading; exchange = s.tag.exchange };
      })
  unfolding bit bit_of flag_at fields.word_at mission.delaying mission.minute_over mission.converting mission.next_minute mission.next_wait
      mission.period mission.period_of
  ticked_end =
      record {
        clock = rw (clock_is end, second_is (clock_at image) (clock_at_named image), clock_is image) clock_end;
        stored = λ runs. rw (second_is (clock_at image) (clock_at_named image), clock_is image) (stored_end runs);
        still = λ stops a low. rw (byte_low end (0x0200 + a) (omega arith), byte_low image (0x0200 + a) (omega arith)) (still_end stops a low);
        delay = delay_ticked image counters reading whole;
        minute = rw (counters_ticked image counters reading);
        wait = rw (counters_ticked image counters reading);
        reading = rw (counters_ticked image counters reading);
        converts = λ made. let both = (and-eq-true_iff _ _).0 (rw (makes_is s) at made) in converts_end both.0 (not-true _ both.1);
        rests = λ quiet. stays_left (leaves_quiet image counters reading (rw (makes_is s) at quiet)) tt;
      }

-- of any state that fits
pub ticks : {s : State} → Fit s → (reading : ℕ) → reading ≤ 2047 → Ticked reading s (after s (Event.tick reading))
ticks fit reading small = rw (tick_leaves (fit_sound fit) reading small) (ticked_end fit reading small)

-- A tick of a running mission is one more tick of its history. Assumes nothing.
use Rattle.std.specs.Prelude.{◌≡◌, Bool, true, ◌&&◌, List, [], ◌∷◌, ◌++◌, ℕ, ◌+◌, ◌*◌, ◌/◌, ◌%◌, ◌≤◌, ◌<◌, eqb, leb, get_or, if◌then◌else◌}
use Rattle.std.proofs.Math.Path.{refl, sym}
use Rattle.std.proofs.Common.{◌∙◌, append-nil, mod-lt, arith}
use Rattle.std.proofs.Math.Bool.{false, not, and-false}
use Rattle.std.proofs.Math.Logic.{dite}
use Rattle.std.proofs.Math.Decide.{ℕ_discrete}
use Rattle.std.proofs.Math.Numerals.{add-one}
use borrow.Author.Tests.{eq-eqb, ne_eqb}
use Rattle.std.proofs.Math.ListN.{length, length-append, get_or-append}
use Rattle.std.proofs.Math.Seq.{get_or-append_seam}
use Rattle.calendar.specs.Calendar.{next_second, clock_after}
use Rattle.image.specs.Registers
use Rattle.conversion.specs.Clock.{clock_of, clocked}
use Rattle.conversion.specs.Clock.Laws.{clock_kept}
use Rattle.conversion.specs.Clock.Named.{clock_named}
use Rattle.conversion.specs.Conversion as conversion
use Rattle.mission.specs.Mission
use Rattle.conversion.specs.Conversion.Converts.{Converts, taken_le, logs_taken}
use Rattle.conversion.specs.Conversion.Converts as Conversions
use Rattle.conversion.specs.Conversion.Reads.{byte_logged}
use Rattle.mission.specs.Mission.Frames.{leaves_mission_ticked, leaves_ticked}
use Rattle.conversion.specs.Conversion.Settings.{settings_left, settings_then, places_same, resolved_same, alarms_same}
use Rattle.mission.specs.Mission.Ticks.{clock_clocked, leaves_quiet, converts_ticked}
use Rattle.mission.specs.Mission.Times.{due_time, on_time_ticked}
use Rattle.mission.specs.Mission.Whole.{whole_ticked}
use Rattle.mission.specs.declared.Counters.{Counters}
use Rattle.promises.specs.Demand2.Counts.{next_count, count_more, first_count, end_count, flags_more, flags_same, unlogged_waits, unlogged_quiet, waits_no_more, waits_on, waits_while}
use Rattle.promises.specs.Demand2.Holds.{Listed, Running, listed_left}
use Rattle.promises.specs.Demand2.AtStart.{suta_of, clock_of_lem, is_time_of, most_of, alarms_of, kept_of, places_pos, places_le, place_apart}
use Rattle.promises.specs.History
use Rattle.promises.specs.History.{Conversion}
use Rattle.promises.specs.History.Laws.{is_none, logs, adds, added, stamp_more, none_length, none_more}
use Rattle.promises.specs.Sentences.Clock.Laws.{seconds_are}
use Rattle.promises.specs.Sentences.Course.{settings_of, none}

-- past an entry's place its bytes are not
unplaced : (t : Bool) (n reading j old : ℕ) → j < 8192 → n + 1 ≤ (if t then j / 2 else j) → byte_logged t n reading j old ≡ old
unfolding byte_logged
unplaced true n reading j old inside ge = rw (ne_eqb j (2 * (n % 4096)) (omega arith), ne_eqb j (2 * (n % 4096) + 1) (omega arith))
unplaced false n reading j old inside ge = rw (ne_eqb j (n % 8192) (omega arith))

module _ {start image : List ℕ} {es : List Conversion} {t : ℕ} {c : Counters} (p : Listed start es image) (q : Running start es t image c) where
  -- ---- where the mission stands

  pub due_of : Mission.due image c ≡ History.is_time (settings_of start) (t + 1)
  due_of = rw (add-one t, is_time_of start) (due_time q.time)

  pub waiting_of : conversion.waiting image ≡ Registers.suta start && is_none es
  unfolding conversion.waiting
  waiting_of = rw (p.settings.suta, q.wfta) (waits_while (Registers.suta start) (is_none es))

  pub next_entry_of : conversion.next_entry image ≡ length es
  unfolding conversion.next_entry
  next_entry_of =
      rw (waiting_of, p.settings.suta)
      (next_count (Registers.suta start) (is_none es) (length es) (Registers.mission_samples image) (sym (none_length es)) p.samples)

  pub ended_of : length es ≤ History.most (settings_of start) → conversion.ended image ≡ leb (History.most (settings_of start)) (length es)
  unfolding conversion.ended
  ended_of le =
      rw (next_entry_of, places_same p.settings, p.settings.ro, most_of start)
      (end_count (Registers.ro start) (Registers.suta start) (conversion.places start) (length es) (Registers.mission_samples image) (places_le start) p.samples (rw (most_of start) at le))

  -- ---- the clock

  module _ (reading : ℕ) where
    second_later : (if Registers.eosc image then next_second (clock_of image) else clock_of image) ≡ clock_after (t + 1) (clock_of start)
    unfolding clock_after
    second_later = rw (q.eosc, q.clock, add-one t)

    next_clock : clock_of (Mission.ticked image c reading) ≡ clock_after (t + 1) (clock_of start)
    unfolding Mission.ticked
    next_clock =
        clock_kept (leaves_mission_ticked (clocked image) c reading).keeps tt
        ∙ clock_clocked image (omega (arith, p.whole.size))
        ∙ second_later

    running_ticked : {after : List Conversion}
        → Registers.wfta (Mission.ticked image c reading) ≡ Registers.suta start && is_none after
        → Running start after (t + 1) (Mission.ticked image c reading) (Mission.ticked_counters image c reading)
    running_ticked e =
        let l = leaves_ticked image c reading in
        record {
          time = rw (add-one t) (on_time_ticked q.time p.whole reading);
          eosc = l.bits 0x0212 0 tt tt tt ∙ q.eosc;
          clock = next_clock;
          wfta = e;
        }

    -- ---- a tick that makes no conversion

    listed_quiet : (Mission.due image c && not (conversion.ended image)) ≡ false → Listed start es (Mission.ticked image c reading)
    listed_quiet e =
        let l = leaves_quiet image c reading e in
        listed_left l (settings_left l tt tt tt tt tt) (whole_ticked c reading p.whole) tt tt tt tt tt tt tt tt tt p

    wfta_quiet : (Mission.due image c && not (conversion.ended image)) ≡ false
        → Registers.wfta (Mission.ticked image c reading) ≡ Registers.suta start && is_none es
    wfta_quiet e = (leaves_quiet image c reading e).bits 0x0215 4 tt tt tt ∙ q.wfta

    -- ---- a conversion that is made

    -- the reading that it takes
    abbrev result : ℕ
    result = conversion.taken image reading

    logs_of : Conversions.logs image result ≡ logs (settings_of start) es reading
    unfolding Conversions.logs logs
    logs_of = logs_taken image reading ∙ rw (waiting_of, alarms_same p.settings reading, alarms_of start reading, suta_of start)

    -- is what the log keeps of the next entry's
    kept_result : reading ≤ 2047 → conversion.resolved image (result % 2048) ≡ History.kept (settings_of start) (length es) reading
    unfolding conversion.taken
    kept_result small =
        let whole : result % 2048 ≡ result = omega (arith, taken_le image reading) in
        rw (whole, resolved_same p.settings result, waiting_of, none_length es, kept_of start (length es) reading)

    module _ (small : reading ≤ 2047) (due : Mission.due image c ≡ true) (going : conversion.ended image ≡ false) where
      made : Converts image (if Registers.eosc image then next_second (clock_of image) else clock_of image) result (Mission.ticked image c reading)
      made = converts_ticked image c reading p.whole due going

      kept_general : Registers.memclr (Mission.ticked image c reading) ≡ false
      kept_general = (leaves_ticked image c reading).bits 0x0215 3 tt tt tt ∙ p.memclr

      place_lt : (k : ℕ) → k % conversion.places start < conversion.places image
      place_lt k = rw (places_same p.settings) (mod-lt k (places_pos start))

      -- a byte of the log
      byte_end : (j : ℕ) → j < 8192
          → get_or (Mission.ticked image c reading) (640 + j) 0
          ≡ if logs (settings_of start) es reading then byte_logged (Registers.tlfs start) (length es) result j (get_or image (640 + j) 0)
          else get_or image (640 + j) 0
      byte_end j inside = rw (logs_of, next_entry_of, p.settings.tlfs) at (made.log.bytes j inside)

      -- one that goes on waiting is not logged
      listed_unlogged : logs (settings_of start) es reading ≡ false → Listed start es (Mission.ticked image c reading)
      unfolding Conversions.logs conversion.alarms
      listed_unlogged e =
          let unlogged : Conversions.logs image result ≡ false = logs_of ∙ e in
          let waits = unlogged_waits (conversion.waiting image) (conversion.alarms image result) unlogged in
          let quiet = unlogged_quiet (conversion.waiting image) (conversion.alarms image result) unlogged in
          record {
            whole = whole_ticked c reading p.whole;
            memclr = kept_general;
            settings = settings_then p.settings made.settings;
            samples = made.log.mission_samples ∙ rw waits p.samples;
            flags = λ s. rw (made.thf, made.tlf)
                (flags_same (conversion.alarms_high image result) (conversion.alarms_low image result) (Registers.thf image) (Registers.tlf image) quiet ∙ p.flags s);
            stamp = made.log.stamp ∙ rw waits p.stamp;
            entries = λ k lt ge. made.log.entries (k % conversion.places start) (place_lt k) ∙ rw unlogged (p.entries k lt ge);
            written = record {
              low = λ wide k lt. rw (byte_end (2 * (k % 4096) + 1) (omega arith), e) (p.written.low wide k lt);
              past = λ j inside ge. byte_end j inside ∙ rw e (p.written.past j inside ge);
            };
          }

      -- every other is the next entry
      abbrev next : Conversion
      next = record { tick = t + 1; reading = reading }

      module _ (e : logs (settings_of start) es reading ≡ true) where
        some : is_none (es ++ next ∷ []) ≡ false
        some = none_more es next

        entry_at_lem : (k : ℕ) → k < length (es ++ next ∷ []) → length (es ++ next ∷ []) ≤ k + conversion.places start
            → conversion.entry_at (Mission.ticked image c reading) (k % conversion.places start)
            ≡ History.kept (settings_of start) k (get_or (es ++ next ∷ []) k none).reading
        entry_at_lem k lt ge =
            made.log.entries (k % conversion.places start) (place_lt k)
            ∙ rw (logs_of ∙ e, next_entry_of, places_same p.settings) (dite (ℕ_discrete k (length es)) last earlier)
          where
            last : k ≡ length es
                → (if eqb (k % conversion.places start) (length es % conversion.places start) then conversion.resolved image (result % 2048)
                else conversion.entry_at image (k % conversion.places start))
                ≡ History.kept (settings_of start) k (get_or (es ++ next ∷ []) k none).reading
            last same =
                rw (same, eq-eqb (length es % conversion.places start) (length es % conversion.places start) refl, get_or-append_seam es next [] none)
                (kept_result small)

            earlier : (k ≡ length es → ⊥)
                → (if eqb (k % conversion.places start) (length es % conversion.places start) then conversion.resolved image (result % 2048)
                else conversion.entry_at image (k % conversion.places start))
                ≡ History.kept (settings_of start) k (get_or (es ++ next ∷ []) k none).reading
            earlier other =
                let n : length (es ++ next ∷ []) ≡ length es + 1 = length-append es (next ∷ []) in
                let before : k < length es = omega arith in
                rw (
                  ne_eqb (k % conversion.places start) (length es % conversion.places start) (place_apart start k (length es) before (omega arith)),
                  get_or-append es (next ∷ []) none k before,
                )
                (p.entries k before (omega arith))

        low_at : Registers.tlfs start ≡ true → (k : ℕ) → k < length (es ++ next ∷ [])
            → get_or (Mission.ticked image c reading) (640 + (2 * (k % 4096) + 1)) 0 % 32 ≡ 0
        unfolding byte_logged
        low_at wide k lt =
            let n : length (es ++ next ∷ []) ≡ length es + 1 = length-append es (next ∷ []) in
            rw (byte_end (2 * (k % 4096) + 1) (omega arith), e, wide, ne_eqb (2 * (k % 4096) + 1) (2 * (length es % 4096)) (omega arith))
            (dite (ℕ_discrete (k % 4096) (length es % 4096))
            (λ same. rw (same, eq-eqb (2 * (length es % 4096) + 1) (2 * (length es % 4096) + 1) refl) (omega arith))
            (λ other. rw (ne_eqb (2 * (k % 4096) + 1) (2 * (length es % 4096) + 1) (omega arith))
            (p.written.low wide k (dite (ℕ_discrete k (length es)) (λ same. absurd (other (rw same))) (λ ne. omega arith)))))

        past_at : (j : ℕ) → j < 8192 → length (es ++ next ∷ []) ≤ (if Registers.tlfs start then j / 2 else j)
            → get_or (Mission.ticked image c reading) (640 + j) 0 ≡ get_or start (640 + j) 0
        past_at j inside ge =
            let n : length (es ++ next ∷ []) ≡ length es + 1 = length-append es (next ∷ []) in
            byte_end j inside ∙ rw e (unplaced (Registers.tlfs start) (length es) result j (get_or image (640 + j) 0) inside (rw n at ge))
            ∙ p.written.past j inside (omega (arith, n))

        listed_logged : Listed start (es ++ next ∷ []) (Mission.ticked image c reading)
        unfolding Conversions.logs conversion.alarms
        listed_logged =
            record {
              whole = whole_ticked c reading p.whole;
              memclr = kept_general;
              settings = settings_then p.settings made.settings;
              samples = made.log.mission_samples
                  ∙ rw (waiting_of, length-append es (next ∷ []))
                  (count_more (Registers.suta start) (is_none es) (length es) (Registers.mission_samples image) (sym (none_length es)) p.samples);
              flags = λ s. rw (made.thf, made.tlf, some)
                  (flags_more (conversion.alarms_high image result) (conversion.alarms_low image result) (Registers.thf image) (Registers.tlf image) (is_none es)
                  (p.flags s)
                  (rw (waiting_of, s) at (logs_of ∙ e)));
              stamp = made.log.stamp
                  ∙ rw (waiting_of, second_later, p.stamp, stamp_more (settings_of start) es next, suta_of start, clock_of_lem start, seconds_are (t + 1) (clock_named start))
                  (first_count (Registers.suta start) (is_none es) (length es) (Registers.mission_samples image) _ _ (sym (none_length es)) p.samples);
              entries = entry_at_lem;
              written = record { low = low_at; past = past_at };
            }

        wfta_logged : Registers.wfta (Mission.ticked image c reading) ≡ Registers.suta start && is_none (es ++ next ∷ [])
        unfolding Conversions.logs
        wfta_logged =
            made.log.wfta
            ∙ rw (q.wfta, some, ← waiting_of)
            (waits_no_more (conversion.waiting image) (conversion.alarms image result) (logs_of ∙ e) ∙ sym (and-false (Registers.suta start)))

      wfta_unlogged : logs (settings_of start) es reading ≡ false
          → Registers.wfta (Mission.ticked image c reading) ≡ Registers.suta start && is_none es
      unfolding Conversions.logs
      wfta_unlogged e =
          made.log.wfta
          ∙ rw (q.wfta, ← waiting_of) (waits_on (conversion.waiting image) (conversion.alarms image result) (logs_of ∙ e))

    -- ---- one more tick

    pub more : length es ≤ History.most (settings_of start) → reading ≤ 2047
        → Listed start (es ++ added (settings_of start) es (t + 1) reading) (Mission.ticked image c reading)
        × Running start (es ++ added (settings_of start) es (t + 1) reading) (t + 1) (Mission.ticked image c reading) (Mission.ticked_counters image c reading)
    unfolding adds
    more le small =
        by_tests (History.is_time (settings_of start) (t + 1)) (leb (History.most (settings_of start)) (length es)) (logs (settings_of start) es reading) refl refl refl
      where
        unchanged : (Mission.due image c && not (conversion.ended image)) ≡ false
            → Listed start (es ++ []) (Mission.ticked image c reading)
            × Running start (es ++ []) (t + 1) (Mission.ticked image c reading) (Mission.ticked_counters image c reading)
        unchanged e = rw (append-nil es) (listed_quiet e, running_ticked (wfta_quiet e))

        by_tests : (a b l : Bool) → History.is_time (settings_of start) (t + 1) ≡ a → leb (History.most (settings_of start)) (length es) ≡ b → logs (settings_of start) es reading ≡ l
            → Listed start (es ++ (if a && (not b && l) then record { tick = t + 1; reading = reading } ∷ [] else [])) (Mission.ticked image c reading)
            × Running start (es ++ (if a && (not b && l) then record { tick = t + 1; reading = reading } ∷ [] else [])) (t + 1) (Mission.ticked image c reading) (Mission.ticked_counters image c reading)
        by_tests false b l x y z = unchanged (rw (due_of ∙ x))
        by_tests true true l x y z = unchanged (rw (due_of ∙ x, ended_of le ∙ y))
        by_tests true false true x y z =
            (listed_logged small (due_of ∙ x) (ended_of le ∙ y) z, running_ticked (wfta_logged small (due_of ∙ x) (ended_of le ∙ y) z))
        by_tests true false false x y z =
            rw (append-nil es)
            (listed_unlogged small (due_of ∙ x) (ended_of le ∙ y) z, running_ticked (wfta_unlogged small (due_of ∙ x) (ended_of le ∙ y) z))

-- A tick of a running mission is one more tick of its history, in what its conversions measure too. Assumes nothing.
use Rattle.std.specs.Prelude.{◌≡◌, refl, Bool, true, false, not, ◌&&◌, ◌||◌, ℕ, ◌+◌, ◌*◌, ◌/◌, ◌%◌, ◌≤◌, leb, if◌then◌else◌}
use Rattle.std.proofs.Math.Path.{ap}
use Rattle.std.proofs.Common.{◌∙◌}
use Rattle.std.proofs.Math.Bool.{and-eq-true_iff}
use mathlib.Core.List.{List, [], ◌∷◌, ◌++◌}
use native.Mathlib.Omega.{arith}
use Rattle.std.proofs.lemmas.Bool.{not-true}
use Rattle.std.proofs.Math.ListN.{length, length-append}
use Rattle.std.proofs.Math.Seq.{get_or-append_seam}
use Rattle.bits.specs.Bits.{bit_of}
use Rattle.image.specs.Fields.{flag_at}
use Rattle.image.specs.Registers
use Rattle.conversion.specs.Conversion as conversion
use Rattle.conversion.specs.Conversion.Converts.{taken_le, high_taken, low_taken}
use Rattle.conversion.specs.Conversion.Settings.{alarms_high_same, alarms_low_same}
use Rattle.mission.specs.Mission
use Rattle.mission.specs.Mission.Ticks.{leaves_quiet, converts_ticked}
use Rattle.mission.specs.declared.Counters.{Counters}
use Rattle.promises.specs.Demand2.Counts.{stores}
use Rattle.promises.specs.Demand2.Holds.{Listed, Running, Measured, Holds, measured_left}
use Rattle.promises.specs.Demand2.Ticks.{due_of, waiting_of, ended_of, more}
use Rattle.promises.specs.History
use Rattle.promises.specs.History.{Settings, Conversion}
use Rattle.promises.specs.History.Laws.{is_none, history_more, history_le}
use Rattle.promises.specs.History.Made.{made_more, none_made, some_more, waited_number}
use Rattle.promises.specs.Sentences.Course.{settings_of, none}
use Rattle.promises.specs.Words.{bit}

module _ {start image : List ℕ} {waited es : List Conversion} {t : ℕ} {c : Counters}
    (p : Listed start es image) (q : Running start es t image c) (m : Measured start waited es image) (reading : ℕ) (small : reading ≤ 2047) where
  -- the reading as it is stored
  stored : conversion.resolved image (conversion.taken image reading % 2048)
      ≡ (if not (settings_of start).tlfs || ((settings_of start).suta && is_none es) then reading / 8 * 8 else reading)
  unfolding conversion.resolved conversion.taken settings_of bit flag_at bit_of
  stored =
      let whole : conversion.taken image reading % 2048 ≡ conversion.taken image reading = omega (arith, taken_le image reading) in
      rw (whole, p.settings.tlfs, waiting_of p q) (stores (Registers.tlfs start) (Registers.suta start && is_none es) reading)

  -- a conversion is one more of those made, waited through or logged
  measured_made : Mission.due image c ≡ true → conversion.ended image ≡ false → (waits after : List Conversion)
      → waits ++ after ≡ (waited ++ es) ++ record { tick = t + 1; reading = reading } ∷ []
      → leb (length (waited ++ es)) (length waits) ≡ is_none es
      → Measured start waits after (Mission.ticked image c reading)
  unfolding conversion.alarms_high conversion.alarms_low conversion.is_high conversion.is_low settings_of bit flag_at bit_of
  measured_made due going waits after all last =
      let made = converts_ticked image c reading p.whole due going in
      let next : Conversion = record { tick = t + 1; reading = reading } in
      let before = waited ++ es in
      let count : length (waits ++ after) ≡ length before + 1 = ap length all ∙ length-append before (next ∷ []) in
      record {
        device = made.device_samples ∙ rw (m.device, count) (omega arith);
        thf = made.thf
            ∙ rw (high_taken image reading, alarms_high_same p.settings reading, m.thf, all, some_more (History.high_alarm (settings_of start)) before next);
        tlf = made.tlf
            ∙ rw (low_taken image reading, alarms_low_same p.settings reading, m.tlf, all, some_more (History.low_alarm (settings_of start)) before next);
        latest = λ i e.
            let same : i ≡ length before = omega arith in
            made.latest ∙ ap (λ (n : ℕ). 32 * n) stored ∙ rw (same, all, get_or-append_seam before next [] none, last);
        no_latest = λ e. absurd (omega arith);
      }

measured_ticked : {start image rs : List ℕ} {c : Counters} → Holds start rs image c → (reading : ℕ) → reading ≤ 2047
    → let after = rs ++ reading ∷ [] in
    Measured start (History.waited (settings_of start) after) (History.history (settings_of start) after) (Mission.ticked image c reading)
unfolding History.made
measured_ticked {start} {image} {rs} {c} h reading small =
    by (History.is_time settings (length rs + 1) && not (leb (History.most settings) (length (History.history settings rs)))) refl
  where
    settings : Settings
    settings = settings_of start

    due : Mission.due image c ≡ History.is_time settings (length rs + 1)
    due = due_of h.listed h.running

    ended : conversion.ended image ≡ leb (History.most settings) (length (History.history settings rs))
    ended = ended_of h.listed h.running (history_le settings rs)

    by : (made : Bool) → (History.is_time settings (length rs + 1) && not (leb (History.most settings) (length (History.history settings rs)))) ≡ made
        → Measured start (History.waited settings (rs ++ reading ∷ [])) (History.history settings (rs ++ reading ∷ [])) (Mission.ticked image c reading)
    by true e =
        let both = (and-eq-true_iff _ _).0 e in
        measured_made h.listed h.running h.measured reading small (due ∙ both.0) (ended ∙ not-true _ both.1) _ _
        (made_more settings rs reading ∙ rw e) (waited_number settings rs reading)
    by false e =
        let same = none_made settings rs reading e in
        rw (same.0, same.1)
        (measured_left (leaves_quiet image c reading (rw (due, ended) e)) tt tt tt tt tt h.measured)

-- a tick with a reading keeps the mission to its history
pub holds_ticked : {start image rs : List ℕ} {c : Counters} → Holds start rs image c → (reading : ℕ) → reading ≤ 2047
    → Holds start (rs ++ reading ∷ []) (Mission.ticked image c reading) (Mission.ticked_counters image c reading)
holds_ticked {start} {image} {rs} {c} h reading small =
    let after = more h.listed h.running reading (history_le (settings_of start) rs) small in
    record {
      listed = rw (history_more (settings_of start) rs reading) after.0;
      running = rw (history_more (settings_of start) rs reading, length-append rs (reading ∷ [])) after.1;
      measured = measured_ticked h reading small;
    }

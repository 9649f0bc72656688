-- What a slot's deed leaves of a mission, while it runs and after it. Assumes nothing.
use Rattle.std.specs.Prelude.{◌≡◌, refl, true, false, List, ◌⊎◌, ℕ, ◌≤◌, ◌<◌}
use Rattle.std.proofs.Common.{sym, ◌∙◌}
use Rattle.std.proofs.lemmas.Bool.{false≢true}
use Rattle.exchange.specs.Exchange.Pad.{PaddedIn}
use Rattle.exchange.specs.declared.Exchange.{Exchange}
use Rattle.image.specs.Leaves.{leaves_keeps}
use Rattle.image.specs.Registers
use Rattle.image.specs.Stored.Laws.{keeps_apart}
use Rattle.bus.specs.declared.Deed.{Deed}
use Rattle.conversion.specs.Clock.Laws.{clock_kept, leaves_clocked}
use Rattle.mission.specs.Mission
use Rattle.mission.specs.Mission.Commands.{cleared_mission, started_not, mip_stopped, forced_mission}
use Rattle.mission.specs.Mission.Frames.{leaves_stopped, leaves_forced}
use Rattle.conversion.specs.Conversion.Settings.{settings_left}
use Rattle.mission.specs.Mission.Ticks.{ticked_idle}
use Rattle.mission.specs.Mission.Times.{on_time_left}
use Rattle.conversion.specs.Conversion.Whole.{whole_clocked}
use Rattle.mission.specs.Mission.Whole.{whole_stopped, whole_forced}
use Rattle.mission.specs.declared.Counters.{Counters}
use Rattle.event.specs.Event.{performed, performed_counters}
use Rattle.promises.specs.Demand2.Events.{is_stop}
use Rattle.promises.specs.Demand2.Holds.{Listed, Holds, listed_left, measured_left}
use Rattle.promises.specs.History.{Conversion}
use Rattle.promises.specs.Runs.Whole.{whole_stored}

-- ---- no Start is done where MEMCLR is 0

shut_start : (image : List ℕ) → Registers.memclr image ≡ false → Mission.may_start image ≡ false
unfolding Mission.may_start
shut_start image e = rw e

module _ {start readings image : List ℕ} {c : Counters} (x : Exchange) (padded : PaddedIn x) where
  -- ---- while the mission runs

  pub holds_performed : (deed : Deed) → is_stop deed ≡ false
      → (deed ≡ Deed.Store → (x.held.ta < 0x0200) ⊎ (0x0240 ≤ x.held.ta))
      → Holds start readings image c → Holds start readings (performed deed x c image) (performed_counters deed c image)
  unfolding performed performed_counters is_stop Mission.started_counters
  holds_performed Deed.Nothing n s h = h
  holds_performed Deed.Store n s h =
      let l = leaves_keeps (keeps_apart image x.held.pad x.held.ta padded.size (s refl)) in
      let same = settings_left l tt tt tt tt tt in
      let p = h.listed in
      let q = h.running in
      record {
        listed = listed_left l same (whole_stored x.held.pad x.held.ta padded.size padded.bytes p.whole) tt tt tt tt tt tt tt tt tt p;
        running = record {
          time = on_time_left l same tt tt tt q.time;
          eosc = l.bits 0x0212 0 tt tt tt ∙ q.eosc;
          clock = clock_kept l.keeps tt ∙ q.clock;
          wfta = l.bits 0x0215 4 tt tt tt ∙ q.wfta;
        };
        measured = measured_left l tt tt tt tt tt h.measured;
      }
  holds_performed Deed.Clear n s h = rw (cleared_mission image h.running.time.running) h
  holds_performed Deed.Start n s h =
      let no = shut_start image h.listed.memclr in
      rw (started_not image no, no) h
  holds_performed Deed.Stop n s h = absurd (false≢true (sym n))
  holds_performed Deed.Convert n s h = rw (forced_mission image c h.running.time.running) h

-- ---- after it

pub record Stopped (start : List ℕ) (es : List Conversion) (image : List ℕ) : Type 0 where
  pub listed : Listed start es image
  pub mip : Registers.mip image ≡ false

pub stopped_stop : {start image : List ℕ} {es : List Conversion} → Listed start es image → Stopped start es (Mission.stopped image)
stopped_stop {image = image} p =
    let l = leaves_stopped image in
    record {
      listed = listed_left l (settings_left l tt tt tt tt tt) (whole_stopped p.whole) tt tt tt tt tt tt tt tt tt p;
      mip = mip_stopped p.whole;
    }

pub stopped_ticked : {start image : List ℕ} {es : List Conversion} (c : Counters) (reading : ℕ) → Stopped start es image
    → Stopped start es (Mission.ticked image c reading)
stopped_ticked {image = image} c reading h =
    let l = leaves_clocked image in
    rw (ticked_idle image c reading h.mip)
    (record {
      listed = listed_left l (settings_left l tt tt tt tt tt) (whole_clocked h.listed.whole) tt tt tt tt tt tt tt tt tt h.listed;
      mip = l.bits 0x0215 1 tt tt tt ∙ h.mip;
    })

module _ {start image : List ℕ} {es : List Conversion} (c : Counters) (x : Exchange) (padded : PaddedIn x) where
  pub stopped_performed : (deed : Deed)
      → (deed ≡ Deed.Store → (x.held.ta < 0x0200) ⊎ (0x0240 ≤ x.held.ta))
      → (deed ≡ Deed.Clear → Registers.mip image ≡ true)
      → Stopped start es image → Stopped start es (performed deed x c image)
  unfolding performed
  stopped_performed Deed.Nothing s m h = h
  stopped_performed Deed.Store s m h =
      let l = leaves_keeps (keeps_apart image x.held.pad x.held.ta padded.size (s refl)) in
      record {
        listed = listed_left l (settings_left l tt tt tt tt tt) (whole_stored x.held.pad x.held.ta padded.size padded.bytes h.listed.whole) tt tt tt tt tt tt tt tt tt h.listed;
        mip = l.bits 0x0215 1 tt tt tt ∙ h.mip;
      }
  stopped_performed Deed.Clear s m h = absurd (false≢true (sym h.mip ∙ m refl))
  stopped_performed Deed.Start s m h = rw (started_not image (shut_start image h.listed.memclr)) h
  stopped_performed Deed.Stop s m h = stopped_stop h.listed
  stopped_performed Deed.Convert s m h =
      let l = leaves_forced image c in
      record {
        listed = listed_left l (settings_left l tt tt tt tt tt) (whole_forced c h.listed.whole) tt tt tt tt tt tt tt tt tt h.listed;
        mip = l.bits 0x0215 1 tt tt tt ∙ h.mip;
      }

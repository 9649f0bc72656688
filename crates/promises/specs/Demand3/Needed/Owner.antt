-- What an owner does to a tag, each command after a reset and Skip: while it checks no passwords he stores by Write Scratchpad and
-- Copy, and clears; with a password that may he starts a mission; then a Write Scratchpad from 0000h on and a reset leave the tag waiting, with a known exchange.
-- Assumes nothing.
use Rattle.std.specs.Prelude.{◌≡◌, Bool, false, ℕ, ◌+◌, ◌%◌, ◌^◌, ◌<◌, length}
use Rattle.std.proofs.Math.Path.{refl, ap}
use Rattle.std.proofs.Common.{◌∙◌, arith}
use Rattle.std.proofs.Math.Bool.{true}
use mathlib.Core.List.{List, ◌∷◌, ◌++◌, map}
use Rattle.bits.specs.Bits.{bits_of}
use Rattle.bits.specs.Bytes.{Bytes}
use Rattle.exchange.specs.declared.Exchange.{Exchange}
use Rattle.exchange.specs.Exchange as exchange
use Rattle.exchange.specs.Runs.{commanding, Way, way_slots, way_mode}
use Rattle.image.specs.Answers.{checked, may_control, may_copy}
use Rattle.image.specs.Answers.Laws.{control_open, copy_idle}
use Rattle.image.specs.Registers.{mip}
use Rattle.image.specs.Stored.{stored_run}
use Rattle.bus.specs.declared.Control.{Control}
use Rattle.bus.specs.declared.Deed.{Deed}
use Rattle.bus.specs.declared.Hearing.{Hearing}
use Rattle.bus.specs.declared.Stage.{Stage}
use Rattle.bus.specs.Bus.{clear_bus, go_to}
use Rattle.field.specs.Field.{guarded}
use Rattle.mission.specs.Mission.{cleared, started, started_counters}
use Rattle.select.specs.Select.{mark_in, mode_of, unmarked, listening}
use Rattle.event.specs.Event.{performed, performed_counters, reset_tag}
use Rattle.promises.specs.Demand3.{JustReset}
use Rattle.promises.specs.Line.ControlRun.{control_slots, control_bus}
use Rattle.promises.specs.Line.Slots.{greeting, after_deed}
use Rattle.promises.specs.Line.Sessions.{write_slots, writes_scratchpad, copy_slots, writes_and_copies, controls}
use Rattle.promises.specs.Ranges.Laws.{reached_fit}
use Rattle.promises.specs.Runs.{State, Event, after, Ran, run, Reached}
use Rattle.promises.specs.Runs.Laws.{Sound, reached_run, reached_sound, number_run, reset_happens}
use Rattle.promises.specs.Words.{number_of}

-- ---- a reset, Skip, and a command's slots

abbrev pub skipping : List Bool → List Event
skipping bits = Event.reset ∷ map Event.slot (bits_of 8 0xCC ++ bits)

abbrev pub told : State → List Bool → State
told s bits = (run s (skipping bits)).state

told_reached : {s : State} (bits : List Bool) → Reached s → Reached (told s bits)
told_reached bits = reached_run (skipping bits)

-- ---- the commands; any field passes

abbrev pub stored : State → ℕ → List ℕ → State
stored s address bytes = told (told s (write_slots address bytes)) (copy_slots address 0x1F 0 0)

abbrev pub cleared_by : State → State
cleared_by s = told s (control_slots Control.Clear 0 0xFF)

abbrev pub started_by : State → ℕ → State
started_by s field = told s (control_slots Control.Start field 0xFF)

abbrev pub ready : State → List ℕ → State
ready s bytes = after (told s (write_slots 0x0000 bytes)) Event.reset

-- ---- what is known of the tag

pub record Owned (number : ℕ) (image : List ℕ) (s : State) : Type 0 where
  pub reached : Reached s
  pub numbered : number_of s ≡ number
  pub holds : s.image ≡ image

-- after a command that leaves this image
pub told_owned : {number : ℕ} {image new : List ℕ} {s : State} (bits : List Bool) → Owned number image s → (told s bits).image ≡ new →
    Owned number new (told s bits)
told_owned bits o e =
    record {
      reached = told_reached bits o.reached;
      numbered = number_run (skipping bits) (reached_sound o.reached) ∙ o.numbered;
      holds = e;
    }

-- the exchange of a tag that waits with these bytes in its scratchpad
abbrev pub waiting : ℕ → List ℕ → Exchange
waiting number bytes =
    record {
      number = number;
      select = listening (unmarked false);
      held = record { pad = bytes; ta = 0x0000; ending = 0x1F; pf = false; aa = false };
      bus = clear_bus (Stage.Hears Hearing.Command);
    }

pub record Ready (number : ℕ) (image bytes : List ℕ) (s : State) : Type 0 where
  pub reset : JustReset s
  pub holds : s.image ≡ image
  pub waits : s.tag.exchange ≡ waiting number bytes

module _ {number : ℕ} {image : List ℕ} {s : State} (o : Owned number image s) where
  sound : Sound s
  sound = reached_sound o.reached

  long : length s.tag.exchange.held.pad ≡ 32
  long = (reached_fit o.reached).pad

  written_owned : (address : ℕ) (bytes : List ℕ) → address < 0x0280 → address % 32 + length bytes ≡ 32 → Bytes bytes →
      Owned number image (told s (write_slots address bytes))
  unfolding way_slots
  written_owned address bytes low whole small =
      let wrote = writes_scratchpad s sound (Way.skip false) address bytes long (omega arith) whole small in
      told_owned (write_slots address bytes) o (ap (λ (r : Ran). r.state.image) wrote ∙ o.holds)

  module _ (off : checked image ≡ false) where
    pub stored_owned : (address : ℕ) (bytes : List ℕ) → address < 0x0280 → address % 32 + length bytes ≡ 32 → Bytes bytes →
        mip image ≡ false → Owned number (stored_run image address bytes) (stored s address bytes)
    unfolding way_slots
    stored_owned address bytes low whole small idle =
        let may : may_copy s.image 0 address ≡ true =
        rw o.holds (copy_idle image 0 address low idle ∙ control_open image 0 off) in
        told_owned (copy_slots address 0x1F 0 0) (written_owned address bytes low whole small)
        (writes_and_copies s sound (Way.skip false) (Way.skip false) address 0 0 bytes long (omega arith) whole small (omega arith) may
        ∙ ap (λ (i : List ℕ). stored_run i address bytes) o.holds)

    pub cleared_owned : Owned number (cleared image) (cleared_by s)
    unfolding way_slots guarded performed
    cleared_owned =
        let may : may_control s.image 0 ≡ true = rw o.holds (control_open image 0 off) in
        told_owned (control_slots Control.Clear 0 0xFF) o
        (ap (λ (r : Ran). r.state.image) (controls s sound (Way.skip false) 0 (omega arith) may Control.Clear refl) ∙ ap cleared o.holds)

  -- with a password that may
  module _ (field : ℕ) (fits : field < 2 ^ 64) (may : may_control image field ≡ true) where
    starting : run s (skipping (control_slots Control.Start field 0xFF)) ≡
        record {
          line = greeting s (Way.skip false) ++ control_slots Control.Start field 0xFF;
          state = after_deed Deed.Start s (commanding (number_of s) (way_mode (Way.skip false) false) s.tag.exchange.held (go_to (control_bus Control.Start) Stage.Over));
        }
    unfolding way_slots guarded
    starting = controls s sound (Way.skip false) field fits (rw o.holds may) Control.Start refl

    pub started_owned : Owned number (started image) (started_by s field)
    unfolding performed
    started_owned = told_owned (control_slots Control.Start field 0xFF) o (ap (λ (r : Ran). r.state.image) starting ∙ ap started o.holds)

    pub started_counters_lem : (started_by s field).tag.counters ≡ started_counters image s.tag.counters
    unfolding performed_counters
    started_counters_lem =
        ap (λ (r : Ran). r.state.tag.counters) starting ∙ ap (λ (i : List ℕ). started_counters i s.tag.counters) o.holds

  pub is_ready : (bytes : List ℕ) → length bytes ≡ 32 → Bytes bytes → Ready number image bytes (ready s bytes)
  unfolding after reset_tag way_slots way_mode mark_in mode_of
  is_ready bytes whole small =
      let written = written_owned 0x0000 bytes (omega arith) (omega arith) small in
      let happens = reset_happens (reached_sound written.reached) in
      let wrote = writes_scratchpad s sound (Way.skip false) 0x0000 bytes long (omega arith) (omega arith) small in
      record {
        reset = record { before = told s (write_slots 0x0000 bytes); reached = written.reached; reset = refl };
        holds = rw happens written.holds;
        waits = rw happens (ap (λ (r : Ran). exchange.after_reset r.state.tag.exchange) wrote ∙ rw o.numbered);
      }

  pub ready_counters : (bytes : List ℕ) → length bytes ≡ 32 → Bytes bytes → (ready s bytes).tag.counters ≡ s.tag.counters
  unfolding after reset_tag way_slots
  ready_counters bytes whole small =
      let written = written_owned 0x0000 bytes (omega arith) (omega arith) small in
      let wrote = writes_scratchpad s sound (Way.skip false) 0x0000 bytes long (omega arith) (omega arith) small in
      rw (reset_happens (reached_sound written.reached)) (ap (λ (r : Ran). r.state.tag.counters) wrote)

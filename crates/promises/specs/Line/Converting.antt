-- Of a mission that goes on: whether it waits for an alarm, and whether its next tick makes a conversion. Assumes nothing.
use Rattle.std.specs.Prelude.{◌≡◌, not, ◌&&◌, List, [], ℕ, ◌+◌, leb, length}
use Rattle.std.proofs.Common.{◌∙◌}
use Rattle.bits.specs.Bits.{bit_of}
use Rattle.image.specs.Fields.{flag_at}
use Rattle.conversion.specs.Conversion as conversion
use Rattle.promises.specs.Demand2.AtStart.{suta_of}
use Rattle.promises.specs.Demand2.Course.{reached_solid, starts_after}
use Rattle.promises.specs.Demand2.Holds.{Holds}
use Rattle.promises.specs.Demand2.Going.{holds_run}
use Rattle.promises.specs.Demand2.Ticks.{due_of, waiting_of, ended_of}
use Rattle.promises.specs.History
use Rattle.promises.specs.History.{Settings}
use Rattle.promises.specs.History.Laws.{is_none, history_le}
use Rattle.promises.specs.Runs.{State, Event, after, run, Reached, Always}
use Rattle.promises.specs.Sentences.Course.{Starts, Going, mission_ticks, settings_of}
use Rattle.promises.specs.Sentences.Mission.{waits}
use Rattle.promises.specs.Sentences.Ticking.{makes}
use Rattle.promises.specs.Sentences.Mission.Ticks.{makes_is}
use Rattle.promises.specs.Words.{bit}

-- ---- a mission that goes on

-- e is the event in which a Start was done; then come these events, none of which writes a register, clears or stops
module _ {s : State} (e : Event) (events : List Event) (reached : Reached s) (starts : Starts s e) (going : Always Going (after s e) events) where
  abbrev begun : State
  begun = after s e

  abbrev there : State
  there = (run begun events).state

  abbrev readings : List ℕ
  readings = mission_ticks begun events

  abbrev settings : Settings
  settings = settings_of s.image

  found : settings_of begun.image ≡ settings
  found = (starts_after e (reached_solid reached) starts).settings

  holding : Holds begun.image readings there.image there.tag.counters
  holding =
      let began = starts_after e (reached_solid reached) starts in
      (holds_run {readings = []} events began.solid began.holds going).1

  -- "With SUTA nothing is logged until a conversion alarms": while there is no entry the tag waits, and only then
  pub mission_waits : waits there.image ≡ settings.suta && is_none (History.history settings readings)
  unfolding conversion.waiting bit bit_of flag_at
  mission_waits = rw found at (rw (← suta_of begun.image) at (waiting_of holding.listed holding.running))

  -- the next tick makes a conversion at a conversion time, while conversions have not ended
  pub mission_makes : makes there
      ≡ (History.is_time settings (length readings + 1) && not (leb (History.most settings) (length (History.history settings readings))))
  mission_makes =
      let listed = holding.listed in
      let running = holding.running in
      makes_is there
      ∙ rw (due_of listed running, ended_of listed running (history_le (settings_of begun.image) readings), found)

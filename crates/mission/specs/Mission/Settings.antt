-- A mission's settings: the fields that no tick and no control command touches, and what is read off them alone.
-- Assumes nothing.
use Rattle.std.specs.Prelude.{◌≡◌, List, ℕ}
use Rattle.conversion.specs.Conversion.Settings.{SameSettings, settings_left}
use Rattle.mission.specs.Mission.{cleared, started, stopped, period, ticked, forced}
use Rattle.mission.specs.Mission.Frames.{leaves_ticked, leaves_cleared, leaves_started, leaves_stopped, leaves_forced}
use Rattle.mission.specs.declared.Counters.{Counters}

-- ---- no tick and no control command touches them

pub settings_ticked : (image : List ℕ) (c : Counters) (reading : ℕ) → SameSettings image (ticked image c reading)
settings_ticked image c reading = settings_left (leaves_ticked image c reading) tt tt tt tt tt

pub settings_cleared : (image : List ℕ) → SameSettings image (cleared image)
settings_cleared image = settings_left (leaves_cleared image) tt tt tt tt tt

pub settings_started : (image : List ℕ) → SameSettings image (started image)
settings_started image = settings_left (leaves_started image) tt tt tt tt tt

pub settings_stopped : (image : List ℕ) → SameSettings image (stopped image)
settings_stopped image = settings_left (leaves_stopped image) tt tt tt tt tt

pub settings_forced : (image : List ℕ) (c : Counters) → SameSettings image (forced image c)
settings_forced image c = settings_left (leaves_forced image c) tt tt tt tt tt

-- ---- what is read off them alone

pub period_same : {before after : List ℕ} → SameSettings before after → period after ≡ period before
unfolding period
period_same s = rw (s.ehss, s.rate)

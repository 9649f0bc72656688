-- Two images beside each other: one that ticks alone have changed, and one that Forced Conversions have changed too. Assumes nothing.
use Rattle.std.specs.Prelude.{◌≡◌, refl, Bool, true, false, List, [], ◌∷◌, ℕ, ◌<◌, length}
use Rattle.std.proofs.Common.{sym, ◌∙◌}
use Rattle.image.specs.Keeps.{Run}
use Rattle.image.specs.Leaves.{Leaves, leaves_then, leaves_wider}
use Rattle.image.specs.Registers.{eosc, mip}
use Rattle.mission.specs.declared.Counters.{Counters}
use Rattle.conversion.specs.Clock.{clocked}
use Rattle.mission.specs.Mission.{delaying, converting, next_minute, next_wait, ticked, ticked_counters, forced}
use Rattle.mission.specs.Mission.Alike.{clocked_both, clocked_apart, eosc_clocked, eosc_forced}
use Rattle.mission.specs.Mission.Frames.{leaves_forced}
use Rattle.mission.specs.Mission.Ticks.{mip_clocked, counters_ticked, ticked_idle}
use Rattle.promises.specs.Demand3.{spoilt_bytes, spoilt_flags}
use Rattle.promises.specs.Words.{Stays}
use Rattle.promises.specs.Words.Laws.{stays_left}

-- a tick moves of the counters the reading alone
pub counters_idle : (image : List ℕ) (c : Counters) (reading : ℕ) → mip image ≡ false →
    ticked_counters image c reading ≡ record { reading = reading; minute = c.minute; wait = c.wait }
unfolding next_minute next_wait delaying converting
counters_idle image c reading idle = counters_ticked image c reading ∙ rw idle

-- the bytes that Forced Conversions may change, as runs of the image
abbrev pub spoilt_runs : Bool → List Run
spoilt_runs true = (0x020C, 2) ∷ (0x0223, 3) ∷ []
spoilt_runs false = (0x0200, 6) ∷ (0x020C, 2) ∷ (0x0223, 3) ∷ []

pub spoilt_stays : (runs : Bool) {a b : List ℕ} → Leaves (spoilt_runs runs) spoilt_flags a b → Stays (spoilt_bytes runs) spoilt_flags a b
spoilt_stays true left = stays_left left tt
spoilt_stays false left = stays_left left tt

-- the first image is what ticks leave, the second what Forced Conversions leave besides; `runs` is whether the clock ran from the start
pub record Spoilt (runs : Bool) (a b : List ℕ) : Type 0 where
  pub leaves : Leaves (spoilt_runs runs) spoilt_flags a b
  pub idle : mip a ≡ false
  pub clocks : runs ≡ true → (eosc a ≡ true) × (eosc b ≡ true)

-- neither has a mission
pub spoilt_idle : {runs : Bool} {a b : List ℕ} → Spoilt runs a b → mip b ≡ false
spoilt_idle {runs = true} p = p.leaves.bits 0x0215 1 tt tt tt ∙ p.idle
spoilt_idle {runs = false} p = p.leaves.bits 0x0215 1 tt tt tt ∙ p.idle

pub spoilt_forced : {runs : Bool} {a b : List ℕ} (c : Counters) → 0x0212 < length b → Spoilt runs a b → Spoilt runs a (forced b c)
spoilt_forced {runs} {a} {b} c fits p =
    record {
      leaves = leaves_then p.leaves (wide runs);
      idle = p.idle;
      clocks = λ run. ((p.clocks run).0, eosc_forced b c fits (p.clocks run).1);
    }
  where
    wide : (runs : Bool) → Leaves (spoilt_runs runs) spoilt_flags b (forced b c)
    wide true = leaves_wider tt (leaves_forced b c)
    wide false = leaves_wider tt (leaves_forced b c)

-- clocks that both run show the same, and go on alike; otherwise they may differ
spoilt_clocked : (runs : Bool) {a b : List ℕ} → Spoilt runs a b → Leaves (spoilt_runs runs) spoilt_flags (clocked a) (clocked b)
spoilt_clocked true p = clocked_both p.leaves tt ((p.clocks refl).1 ∙ sym (p.clocks refl).0)
spoilt_clocked false p = clocked_apart p.leaves tt

pub spoilt_ticked : {runs : Bool} {a b : List ℕ} (c : Counters) (reading : ℕ) → Spoilt runs a b → Spoilt runs (ticked a c reading) (ticked b c reading)
spoilt_ticked {runs} {a} {b} c reading p =
    rw (ticked_idle a c reading p.idle, ticked_idle b c reading (spoilt_idle p))
    (record {
      leaves = spoilt_clocked runs p;
      idle = mip_clocked a ∙ p.idle;
      clocks = λ run. (eosc_clocked a ∙ (p.clocks run).0, eosc_clocked b ∙ (p.clocks run).1);
    })

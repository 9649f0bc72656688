-- The ticks of the mission, and what its history makes of them: its entries and its stamp in numbers. Assumes nothing.
use Rattle.std.specs.Prelude.{◌≡◌, refl, Bool, true, false, ◌&&◌, List, [], ◌∷◌, map, ℕ, T, leb, ltb, length}
use Rattle.std.proofs.Common.{ap, ◌∙◌, arith, le-leb, leb→le}
use Rattle.std.proofs.Math.Logic.{dite}
use Rattle.std.proofs.Math.Decide.{dec_lt}
use Rattle.std.specs.Float.Ieee.Fits.{and_l, and_r}
use Rattle.bits.specs.Bits.{bit_of}
use Rattle.image.specs.Fields.{flag_at}
use Rattle.image.specs.Leaves.{spares}
use Rattle.image.specs.Registers
use Rattle.mission.specs.Mission.Frames.{leaves_ticked}
use Rattle.promises.specs.Demand2.Course.{Solid, tick_leaves, solid_after}
use Rattle.promises.specs.Demand2.Met.{readings}
use Rattle.promises.specs.Demand2.Met.Page.{settings}
use Rattle.promises.specs.History
use Rattle.promises.specs.History.{Conversion}
use Rattle.promises.specs.Runs.{State, Event, after, Always}
use Rattle.promises.specs.Runs.Laws.{tick_passed}
use Rattle.promises.specs.Sentences.Clock.{day_on, second_on, seconds_on}
use Rattle.promises.specs.Sentences.Course.{Spares, Going, mission_ticks}
use Rattle.promises.specs.Words.{among, bit}

-- ---- ticks alone

-- they leave what is on the line, and MIP and MEMCLR
module _ {s : State} (solid : Solid s) (r : ℕ) where
  exchange_stays : (after s (Event.tick r)).tag.exchange ≡ s.tag.exchange
  exchange_stays =
      dite (dec_lt 2047 r) (λ high. rw (tick_passed solid.sound r high)) (λ low. rw (tick_leaves solid.sound r (omega arith)))

  bit_stays : (i : ℕ) → T (spares ((0x0214, 0) ∷ (0x0214, 1) ∷ (0x0215, 4) ∷ []) 0x0215 i) → T (ltb i 8)
      → flag_at (after s (Event.tick r)).image 0x0215 i ≡ flag_at s.image 0x0215 i
  bit_stays i other small =
      dite (dec_lt 2047 r) (λ high. rw (tick_passed solid.sound r high))
      (λ low. rw (tick_leaves solid.sound r (omega arith)) ((leaves_ticked s.image s.tag.counters r).bits 0x0215 i tt other small))

-- so they spare the mission, and it goes on
pub ticks_go : {s : State} → Solid s → Registers.memclr s.image ≡ false → Registers.mip s.image ≡ true → (rs : List ℕ) →
    Always Going s (map Event.tick rs)
unfolding Always bit flag_at bit_of
ticks_go solid clear runs [] = tt
ticks_go {s} solid clear runs (r ∷ rs) =
    let stays = bit_stays solid r 3 tt tt ∙ clear in
    let goes = bit_stays solid r 1 tt tt ∙ runs in
    let spares : Spares s (Event.tick r) =
    record {
      store = λ before done. absurd (let same = exchange_stays solid r in let no : ◌≡◌ {A = ℕ} 0 1 = cc in omega arith);
      clear = stays;
    } in
    (record { spares = spares; goes = goes }, ticks_go {s = after s (Event.tick r)} (solid_after solid (Event.tick r)) stays goes rs)

-- and with valid readings are its ticks
abbrev pub valid : List ℕ → Bool
valid [] = true
valid (r ∷ rs) = leb r 2047 && valid rs

pub ticks_all : {s : State} → Solid s → Registers.mip s.image ≡ true → (rs : List ℕ) → T (valid rs) → mission_ticks s (map Event.tick rs) ≡ rs
unfolding mission_ticks bit flag_at bit_of
ticks_all solid runs [] small = refl
ticks_all {s} solid runs (r ∷ rs) small =
    rw (runs, le-leb r 2047 (leb→le r 2047 (and_l (leb r 2047) (valid rs) small)))
    (ap (◌∷◌ r)
    (ticks_all {s = after s (Event.tick r)} (solid_after solid (Event.tick r)) (bit_stays solid r 1 tt tt ∙ runs) rs
    (and_r (leb r 2047) (valid rs) small)))

-- ---- the mission's

abbrev pub entries : List Conversion
entries = record { tick = 63; reading = 679 } ∷ record { tick = 65; reading = 687 } ∷ record { tick = 67; reading = 7 } ∷ []

pub history_is : History.history settings readings ≡ entries
unfolding History.history History.most History.places History.to_log History.from_alarm History.alarms History.conversions_from History.is_time History.period
history_is = refl

pub stamp_is : History.stamp settings entries ≡ record { seconds = 0x00; minutes = 0x00; hours = 0x52; date = 0x01; month = 0x81; year = 0x00 }
unfolding History.stamp History.clock_at seconds_on second_on day_on among bit
stamp_is = refl

-- the conversion that it waited through
pub waited_is : History.waited settings readings ≡ record { tick = 61; reading = 671 } ∷ []
unfolding History.waited History.before_alarm History.alarms History.conversions_from History.is_time History.period
waited_is = refl

pub made_is : History.made settings readings ≡ record { tick = 61; reading = 671 } ∷ entries
unfolding History.made
made_is = rw (waited_is, history_is)

-- the clock after the last tick
pub clock_is : seconds_on (length readings) settings.clock
    ≡ record { seconds = 0x03; minutes = 0x00; hours = 0x52; date = 0x01; month = 0x81; year = 0x00 }
unfolding seconds_on second_on day_on among bit
clock_is = refl

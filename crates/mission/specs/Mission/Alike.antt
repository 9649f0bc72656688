-- Two images that differ only where a change may touch them stay so: under the same stores, and under ticks with no mission.
-- So what a Forced Conversion changes stays all that is changed. Assumes nothing.
use Rattle.std.specs.Prelude.{◌≡◌, true, ℕ, suc, ◌<◌, T, length}
use Rattle.std.proofs.Common.{◌∙◌, arith}
use mathlib.Core.List.{List, [], ◌∷◌}
use Rattle.bits.specs.Choose.{choice, choices}
use Rattle.calendar.specs.Calendar.{next_second}
use Rattle.calendar.specs.declared.Clock.{Clock}
use Rattle.image.specs.Fields.Laws.{flag_put_flag}
use Rattle.image.specs.Keeps.{Run, free}
use Rattle.image.specs.Leaves.{Flag, touched, widens, Leaves, leaves_then, leaves_sym, leaves_wider, leaves_put_word, leaves_set_both}
use Rattle.image.specs.Registers.{eosc, mip, put_latest, put_eosc}
use Rattle.conversion.specs.Clock.{clock_of, put_bytes, put_clock, clocked}
use Rattle.conversion.specs.Clock.Laws.{clock_kept, leaves_clocked}
use Rattle.conversion.specs.Conversion.{device_counted}
use Rattle.mission.specs.Mission.{forced}
use Rattle.conversion.specs.Conversion.Frames.{leaves_device_counted}
use Rattle.mission.specs.Mission.Frames.{leaves_wfta_cleared}
use Rattle.mission.specs.declared.Counters.{Counters}

-- ---- the same clock stored in both

module _ {runs : List Run} {flags : List Flag} where
  leaves_put_bytes_both : {a b : List ℕ} (at : ℕ) (bs : List ℕ) → Leaves runs flags a b
      → Leaves runs flags (put_bytes a at bs) (put_bytes b at bs)
  unfolding put_bytes
  leaves_put_bytes_both at [] p = p
  leaves_put_bytes_both at (v ∷ bs) p = leaves_put_bytes_both (suc at) bs (leaves_set_both at v p)

  leaves_put_clock_both : {a b : List ℕ} (at : ℕ) (c : Clock) → Leaves runs flags a b
      → Leaves runs flags (put_clock a at c) (put_clock b at c)
  unfolding put_clock
  leaves_put_clock_both at c p = leaves_put_bytes_both at _ p

  -- ---- the same tick to both, with no mission

  -- where the clocks are the same, and run or stand together, they stay the same
  pub clocked_both : {a b : List ℕ} → Leaves runs flags a b → T (free (touched runs flags) 0x0200 6) → eosc b ≡ eosc a
      → Leaves runs flags (clocked a) (clocked b)
  unfolding clocked
  clocked_both {a} {b} p t e =
      rw (e, clock_kept p.keeps t)
      (choices (Leaves runs flags) (eosc a) (leaves_put_clock_both 0x0200 (next_second (clock_of a)) p) p)

  -- where the clocks may differ, they may differ after it
  pub clocked_apart : {a b : List ℕ} → Leaves runs flags a b → T (widens runs flags ((0x0200, 6) ∷ []) [])
      → Leaves runs flags (clocked a) (clocked b)
  clocked_apart {a} {b} p t =
      leaves_then (leaves_sym (leaves_wider t (leaves_clocked a))) (leaves_then p (leaves_wider t (leaves_clocked b)))

-- ---- a clock that runs goes on running

pub eosc_clocked : (image : List ℕ) → eosc (clocked image) ≡ eosc image
eosc_clocked image = (leaves_clocked image).bits 0x0212 0 tt tt tt

pub eosc_forced : (image : List ℕ) (c : Counters) → 0x0212 < length image → eosc image ≡ true → eosc (forced image c) ≡ true
unfolding forced
eosc_forced image c fits runs =
    choice (λ (i : List ℕ). eosc i ≡ true) (mip image) runs
    ((leaves_wfta_cleared (put_eosc counted true) c.reading).bits 0x0212 0 tt tt tt
    ∙ flag_put_flag counted 0x0212 0 true (omega (arith, long)) tt)
  where
    counted : List ℕ
    counted = device_counted (put_latest image c.reading)

    long : length counted ≡ length image
    long = (leaves_device_counted (put_latest image c.reading)).keeps.lengths ∙ (leaves_put_word image 0x020C 2 _).keeps.lengths

-- What a Start finds: while MEMCLR is 1 there is no mission, nothing is counted, no alarm flag is set and the stamp is zeros.
-- An image stays so under every tick, every control command and every Copy. Assumes nothing.
use Rattle.std.specs.Prelude.{◌≡◌, refl, Bool, true, false, List, ℕ, T, length}
use Rattle.std.proofs.Common.{sym, ◌∙◌}
use Rattle.std.proofs.lemmas.Bool.{false≢true}
use Rattle.image.specs.Keeps.{Run, free}
use Rattle.image.specs.Leaves.{Flag, spares, touched, Leaves, word_left, leaves_keeps}
use Rattle.image.specs.Registers
use Rattle.image.specs.Stored.{stored_page}
use Rattle.image.specs.Stored.Laws.{keeps_shut}
use Rattle.conversion.specs.Clock.{stamp_of}
use Rattle.conversion.specs.Clock.Laws.{stamp_kept, leaves_clocked}
use Rattle.mission.specs.Mission.{cleared, may_start, started, stopped, ticked, forced}
use Rattle.mission.specs.Mission.Commands.{cleared_mission, clears, started_not, starts, mip_stopped}
use Rattle.mission.specs.Mission.Frames.{leaves_ticked, leaves_stopped, leaves_forced, mip_cleared, mip_forced}
use Rattle.mission.specs.Mission.Ticks.{ticked_idle, mip_clocked}
use Rattle.conversion.specs.Conversion.Whole.{Whole}
use Rattle.mission.specs.declared.Counters.{Counters}

-- nothing of a mission is there
pub record Blank (image : List ℕ) : Type 0 where
  pub mip : Registers.mip image ≡ false
  pub mission_samples : Registers.mission_samples image ≡ 0
  pub thf : Registers.thf image ≡ false
  pub tlf : Registers.tlf image ≡ false
  pub stamp : stamp_of image ≡ record { seconds = 0; minutes = 0; hours = 0; date = 0; month = 0; year = 0 }

-- while MEMCLR is 1
abbrev pub Fresh : List ℕ → Type 0
Fresh image = Registers.memclr image ≡ true → Blank image

-- a change that touches neither samples, flags nor stamp, and leaves no mission, leaves a blank image blank
pub blank_left : {runs : List Run} {flags : List Flag} {before after : List ℕ} → Leaves runs flags before after
    → T (free (touched runs flags) 0x0220 3)
    → T (free (touched runs flags) 0x0219 6)
    → T (free runs 0x0214 1)
    → T (spares flags 0x0214 0)
    → T (spares flags 0x0214 1)
    → Registers.mip after ≡ false
    → Blank before
    → Blank after
blank_left p samples stamp byte low high m b =
    record {
      mip = m;
      mission_samples = word_left 0x0220 3 p samples ∙ b.mission_samples;
      thf = p.bits 0x0214 1 byte high tt ∙ b.thf;
      tlf = p.bits 0x0214 0 byte low tt ∙ b.tlf;
      stamp = stamp_kept p.keeps stamp ∙ b.stamp;
    }

module _ {image : List ℕ} (f : Fresh image) where
  pub fresh_ticked : (c : Counters) (reading : ℕ) → Fresh (ticked image c reading)
  fresh_ticked c reading e =
      let b = f (sym ((leaves_ticked image c reading).bits 0x0215 3 tt tt tt) ∙ e) in
      rw (ticked_idle image c reading b.mip) (blank_left (leaves_clocked image) tt tt tt tt tt (mip_clocked image ∙ b.mip) b)

  pub fresh_cleared : Whole image → Fresh (cleared image)
  fresh_cleared w = by_test (Registers.mip image) refl
    where
      by_test : (t : Bool) → Registers.mip image ≡ t → Fresh (cleared image)
      by_test true m = rw (cleared_mission image m) f
      by_test false m = λ e.
          let r = clears w m in
          record { mip = mip_cleared image ∙ m; mission_samples = r.mission_samples; thf = r.thf; tlf = r.tlf; stamp = r.stamp }

  -- a Start that is done ends it
  pub fresh_started : Whole image → Fresh (started image)
  fresh_started w = by_test (may_start image) refl
    where
      by_test : (t : Bool) → may_start image ≡ t → Fresh (started image)
      by_test true m = λ e. absurd (false≢true (sym (starts w m).memclr ∙ e))
      by_test false m = rw (started_not image m) f

  pub fresh_stopped : Whole image → Fresh (stopped image)
  fresh_stopped w e =
      let p = leaves_stopped image in blank_left p tt tt tt tt tt (mip_stopped w) (f (sym (p.bits 0x0215 3 tt tt tt) ∙ e))

  pub fresh_forced : (c : Counters) → Fresh (forced image c)
  fresh_forced c e =
      let p = leaves_forced image c in
      let b = f (sym (p.bits 0x0215 3 tt tt tt) ∙ e) in
      blank_left p tt tt tt tt tt (mip_forced image c ∙ b.mip) b

  -- Copy writes none of these registers
  pub fresh_stored : Whole image → (pad : List ℕ) (a : ℕ) → length pad ≡ 32 → Fresh (stored_page image pad a)
  fresh_stored w pad a whole e =
      let p = leaves_keeps (keeps_shut image pad a whole w.bytes) in
      let b = f (sym (p.bits 0x0215 3 tt tt tt) ∙ e) in
      blank_left p tt tt tt tt tt (p.bits 0x0215 1 tt tt tt ∙ b.mip) b

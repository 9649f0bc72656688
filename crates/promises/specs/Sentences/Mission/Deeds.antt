-- What Clear, Start, Stop and Forced Conversion leave in an image, from the mission's laws. Assumes nothing.
use Rattle.std.specs.Prelude.{◌≡◌, true, false, List, ℕ, ◌≤◌}
use Rattle.std.proofs.Common.{sym, ◌∙◌, arith, ne_eqb}
use Rattle.std.proofs.Math.Path.{ap}
use Rattle.bits.specs.Bits.{bit_of}
use Rattle.calendar.specs.declared.Clock.{Clock}
use Rattle.conversion.specs.Clock.{stamp_of}
use Rattle.conversion.specs.Conversion as conversion
use Rattle.conversion.specs.Conversion.Whole.{Whole}
use Rattle.image.specs.Fields as fields
use Rattle.image.specs.Fields.{flag_at}
use Rattle.image.specs.Registers
use Rattle.mission.specs.Mission
use Rattle.mission.specs.Mission.Commands as commands
use Rattle.mission.specs.Mission.Frames.{leaves_cleared, leaves_started, leaves_stopped, leaves_forced}
use Rattle.mission.specs.Mission.Whole.{whole_forced}
use Rattle.mission.specs.declared.Counters.{Counters}
use Rattle.promises.specs.Sentences.Mission.{rate_of, Cleared, MayStart, Started, Stopped, Forced}
use Rattle.promises.specs.Words.{bit, bit_at}
use Rattle.promises.specs.Words.Laws.{word_is, stays_left}

-- "rate not 0"
rate_is : (image : List ℕ) → rate_of image ≡ Registers.rate image
rate_is image = rw (word_is image 0x0206 2 (omega arith))

-- what a Start asks for
pub start_may : {image : List ℕ} → MayStart image → Mission.may_start image ≡ true
unfolding Mission.may_start bit bit_of flag_at
start_may {image} may =
    rw (may.memclr, may.mip, may.etl, ne_eqb (Registers.rate image) 0 (λ none. may.rate (rate_is image ∙ none)))

-- and conversely
pub may_start_lem : (image : List ℕ) → Mission.may_start image ≡ true → MayStart image
unfolding bit bit_of flag_at
may_start_lem image e =
    let may = commands.may_start_lem image e in
    record { memclr = may.memclr; mip = may.mip; etl = may.etl; rate = λ none. may.rate (sym (rate_is image) ∙ none) }

module _ {image : List ℕ} (whole : Whole image) where
  -- Clear
  pub is_cleared : bit_at image 0x0215 1 ≡ false → Cleared image (Mission.cleared image)
  unfolding bit bit_of flag_at stamp_of
  is_cleared idle =
      let done = commands.clears whole idle in
      record {
        stamp = rw (
          ap (λ (c : Clock). c.seconds) done.stamp,
          ap (λ (c : Clock). c.minutes) done.stamp,
          ap (λ (c : Clock). c.hours) done.stamp,
          ap (λ (c : Clock). c.date) done.stamp,
          ap (λ (c : Clock). c.month) done.stamp,
          ap (λ (c : Clock). c.year) done.stamp,
        );
        samples = word_is (Mission.cleared image) 0x0220 3 (omega arith) ∙ done.mission_samples;
        bor = done.bor;
        thf = done.thf;
        tlf = done.tlf;
        memclr = done.memclr;
        rest = stays_left (leaves_cleared image) tt;
      }

  -- Start
  pub is_started : Mission.may_start image ≡ true → Started image (Mission.started image)
  unfolding bit bit_of flag_at
  is_started may =
      let done = commands.starts whole may in
      record { mip = done.mip; memclr = done.memclr; eosc = done.eosc; wfta = done.wfta; rest = stays_left (leaves_started image) tt }

  -- Stop
  pub is_stopped : Stopped image (Mission.stopped image)
  unfolding bit bit_of flag_at
  is_stopped = record { mip = commands.mip_stopped whole; rest = stays_left (leaves_stopped image) tt }

  -- Forced Conversion
  pub is_forced : (c : Counters) → c.reading ≤ 2047 → bit_at image 0x0215 1 ≡ false → Forced c.reading image (Mission.forced image c)
  unfolding bit bit_of flag_at fields.word_at conversion.alarms conversion.alarms_high conversion.alarms_low conversion.is_high conversion.is_low
  is_forced c small idle =
      let done = commands.forces whole c idle in
      let low = (whole_forced c whole).bytes 0x020C in
      record {
        latest = (omega (arith, done.latest), omega (arith, done.latest));
        device = rw (word_is (Mission.forced image c) 0x0223 3 (omega arith), word_is image 0x0223 3 (omega arith)) done.device_samples;
        eosc = done.eosc;
        wfta = done.wfta;
        rest = stays_left (leaves_forced image c) tt;
      }

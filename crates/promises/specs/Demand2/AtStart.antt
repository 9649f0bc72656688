-- What the tag reads off the image that Start finds is what the history reads off the settings. Assumes nothing.
use Rattle.std.specs.Prelude.{◌≡◌, ◌&&◌, List, ℕ, ◌+◌, ◌*◌, ◌/◌, ◌%◌, ◌≤◌, ◌<◌, min, if◌then◌else◌}
use Rattle.std.proofs.Math.Path.{refl}
use Rattle.std.proofs.Common.{sym, mul_comm, arith}
use Rattle.std.proofs.Math.Dec.{eqb}
use Rattle.bits.specs.Bits.{digit, bit_of}
use Rattle.bits.specs.Choose.{choice}
use Rattle.image.specs.Fields.{word_at, flag_at}
use Rattle.image.specs.Registers
use Rattle.conversion.specs.Clock.{clock_of}
use Rattle.conversion.specs.Conversion as conversion
use Rattle.mission.specs.Mission
use Rattle.mission.specs.Mission.Frames.{leaves_started}
use Rattle.mission.specs.Mission.Times.{is_time}
use Rattle.promises.specs.Demand2.Counts.{stores, places_apart}
use Rattle.promises.specs.History
use Rattle.promises.specs.Sentences.Clock.{clock_at}
use Rattle.promises.specs.Sentences.Clock.Laws.{clock_is}
use Rattle.promises.specs.Sentences.Course.{settings_of}
use Rattle.promises.specs.Sentences.Mission.{rate_of}
use Rattle.promises.specs.Words.{bit}

module _ (image : List ℕ) where
  pub rate_of_lem : rate_of image ≡ Registers.rate image
  unfolding word_at
  rate_of_lem = refl

  pub delay_of_lem : (settings_of image).delay ≡ Registers.delay image
  unfolding settings_of word_at
  delay_of_lem = refl

  pub suta_of : (settings_of image).suta ≡ Registers.suta image
  unfolding settings_of bit flag_at bit_of
  suta_of = refl

  pub clock_of_lem : (settings_of image).clock ≡ clock_of image
  unfolding settings_of
  clock_of_lem = clock_is image

  period_of_lem : History.period (settings_of image) ≡ Mission.period image
  unfolding settings_of bit flag_at bit_of History.period Mission.period Mission.period_of
  period_of_lem = rw rate_of_lem

  pub is_time_of : (t : ℕ) → History.is_time (settings_of image) t ≡ is_time (Registers.delay image) (Mission.period image) t
  unfolding History.is_time is_time
  is_time_of t = rw (← period_of_lem, delay_of_lem)

  pub most_of : History.most (settings_of image)
      ≡ (let countable = 0xFFFFFF + digit (Registers.suta image) in
      if Registers.ro image then countable else min (conversion.places image) countable)
  unfolding settings_of bit flag_at bit_of History.most History.places conversion.places
  most_of = refl

  pub alarms_of : (reading : ℕ) → History.alarms (settings_of image) reading ≡ conversion.alarms image reading
  unfolding settings_of bit flag_at bit_of History.alarms conversion.alarms conversion.alarms_high conversion.alarms_low conversion.is_high conversion.is_low
  alarms_of reading = refl

  pub kept_of : (k reading : ℕ)
      → History.kept (settings_of image) k reading
      ≡ conversion.resolved image (if Registers.suta image && eqb k 0 then reading / 8 * 8 else reading)
  unfolding settings_of bit flag_at bit_of History.kept conversion.resolved
  kept_of k reading = rw (mul_comm 8 (reading / 8)) (sym (stores (Registers.tlfs image) (Registers.suta image && eqb k 0) reading))

  -- a Start leaves them as it finds them
  pub settings_found : settings_of (Mission.started image) ≡ settings_of image
  unfolding settings_of clock_at bit flag_at bit_of
  settings_found =
      let left = leaves_started image in
      let same = left.keeps.bytes in
      rw (
        left.bits 0x0212 1 tt tt tt,
        same 0x0200 tt,
        same 0x0201 tt,
        same 0x0202 tt,
        same 0x0203 tt,
        same 0x0204 tt,
        same 0x0205 tt,
        same 0x0206 tt,
        same 0x0207 tt,
        same 0x0208 tt,
        same 0x0209 tt,
        same 0x0210 tt,
        same 0x0213 tt,
        same 0x0216 tt,
        same 0x0217 tt,
        same 0x0218 tt,
      )

  pub places_pos : 0 < conversion.places image
  unfolding conversion.places
  places_pos = choice (λ (n : ℕ). 0 < n) (Registers.tlfs image) (omega arith) (omega arith)

  pub places_le : conversion.places image ≤ 8192
  unfolding conversion.places
  places_le = choice (λ (n : ℕ). n ≤ 8192) (Registers.tlfs image) (omega arith) (omega arith)

  -- two entries that are less than the log apart lie at different places
  pub place_apart : (k n : ℕ) → k < n → n < k + conversion.places image → k % conversion.places image ≡ n % conversion.places image → ⊥
  unfolding conversion.places
  place_apart k n lo = places_apart (Registers.tlfs image) k n lo

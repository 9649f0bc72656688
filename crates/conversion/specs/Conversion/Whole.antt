-- An image of 8,832 bytes stays one: after every conversion and every step of the clock. Assumes nothing.
use Rattle.std.specs.Prelude.{◌≡◌, Bool, true, false, List, ℕ, ◌<◌, ltb, eqb, length, set, if◌then◌else◌}
use Rattle.std.proofs.Common.{◌∙◌, arith, length-set}
use Rattle.bits.specs.Bytes.{Bytes, bytes_set}
use Rattle.bits.specs.Choose.{choice}
use Rattle.calendar.proofs.Calendar.Named.{Named, named_next}
use Rattle.calendar.specs.declared.Clock.{Clock}
use Rattle.image.specs.Fields.{put_word, put_flag}
use Rattle.image.specs.Fields.Laws.{length_put_word, bytes_put_word, length_put_flag, bytes_put_flag}
use Rattle.image.specs.Registers.{eosc, tlfs, mission_samples, device_samples}
use Rattle.conversion.specs.Clock.{clock_of, put_bytes, put_clock, clocked}
use Rattle.conversion.specs.Clock.Named.{clock_named}
use Rattle.conversion.specs.Conversion.{device_counted, latest_stored, alarms_high, alarms_low, alarms, thf_set, tlf_set, measured, waiting, next_entry, logged, stamped, counted, recorded, ended, taken, converted}

pub record Whole (image : List ℕ) : Type 0 where
  pub size : length image ≡ 8832
  pub bytes : Bytes image

-- ---- puts

pub whole_choice : (t : Bool) {a b : List ℕ} → Whole a → Whole b → Whole (if t then a else b)
whole_choice t p q = choice Whole t p q

pub whole_set : {image : List ℕ} (at b : ℕ) → Whole image → b < 256 → Whole (set image at b)
whole_set {image} at b w small =
    record { size = length-set image at b ∙ w.size; bytes = bytes_set image at b w.bytes small }

pub whole_put_word : {image : List ℕ} (at n v : ℕ) → Whole image → Whole (put_word image at n v)
whole_put_word {image} at n v w =
    record { size = length_put_word image at n v ∙ w.size; bytes = bytes_put_word image at n v w.bytes }

pub whole_put_flag : {image : List ℕ} (at i : ℕ) (b : Bool) → Whole image → Whole (put_flag image at i b)
whole_put_flag {image} at i b w =
    record { size = length_put_flag image at i b ∙ w.size; bytes = bytes_put_flag image at i b w.bytes }

pub whole_put_clock : {image : List ℕ} (at : ℕ) (c : Clock) → Whole image → Named c → Whole (put_clock image at c)
unfolding put_clock put_bytes
whole_put_clock at c w n =
    whole_set _ c.year
    (whole_set _ c.month
    (whole_set _ c.date
    (whole_set _ c.hours (whole_set _ c.minutes (whole_set _ c.seconds w (omega arith)) (omega arith)) (omega arith))
    (omega arith))
    (omega arith))
    (omega arith)

-- ---- a conversion

pub whole_device_counted : {image : List ℕ} → Whole image → Whole (device_counted image)
unfolding device_counted
whole_device_counted {image} w = whole_choice (ltb (device_samples image) 0xFFFFFF) (whole_put_word 0x0223 3 _ w) w

pub whole_latest_stored : {image : List ℕ} (reading : ℕ) → Whole image → Whole (latest_stored image reading)
unfolding latest_stored
whole_latest_stored reading w = whole_put_word 0x020C 2 _ w

pub whole_thf_set : {image : List ℕ} (reading : ℕ) → Whole image → Whole (thf_set image reading)
unfolding thf_set
whole_thf_set {image} reading w = whole_choice (alarms_high image reading) (whole_put_flag 0x0214 1 true w) w

pub whole_tlf_set : {image : List ℕ} (reading : ℕ) → Whole image → Whole (tlf_set image reading)
unfolding tlf_set
whole_tlf_set {image} reading w = whole_choice (alarms_low image reading) (whole_put_flag 0x0214 0 true w) w

pub whole_measured : {image : List ℕ} (reading : ℕ) → Whole image → Whole (measured image reading)
unfolding measured
whole_measured reading w = whole_tlf_set reading (whole_thf_set reading (whole_latest_stored reading (whole_device_counted w)))

pub whole_logged : {image : List ℕ} (k reading : ℕ) → Whole image → Whole (logged image k reading)
unfolding logged
whole_logged {image} k reading w =
    whole_choice (tlfs image) (whole_set _ _ (whole_set _ _ w (omega arith)) (omega arith)) (whole_set _ _ w (omega arith))

pub whole_counted : {image : List ℕ} → Whole image → Whole (counted image)
unfolding counted stamped
whole_counted {image} w =
    whole_put_word 0x0220 3 _
    (whole_choice (eqb (mission_samples image) 0) (whole_put_clock 0x0219 (clock_of image) w (clock_named image)) w)

pub whole_recorded : {image : List ℕ} (reading : ℕ) → Whole image → Whole (recorded image reading)
unfolding recorded
whole_recorded {image} reading w =
    whole_choice (waiting image)
    (whole_choice (alarms image reading) (whole_logged 0 reading (whole_put_flag 0x0215 4 false w)) w)
    (whole_counted (whole_logged (next_entry image) reading w))

pub whole_converted : {image : List ℕ} (reading : ℕ) → Whole image → Whole (converted image reading)
unfolding converted
whole_converted {image} reading w =
    let result = taken image reading in
    whole_choice (ended image) w (whole_recorded result (whole_measured result w))

-- ---- the clock

pub whole_clocked : {image : List ℕ} → Whole image → Whole (clocked image)
unfolding clocked
whole_clocked {image} w = whole_choice (eosc image) (whole_put_clock 0x0200 _ w (named_next (clock_of image) (clock_named image))) w

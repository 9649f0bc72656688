-- What each part of a conversion leaves: every byte outside the runs that its law names, and every bit that is none of its
-- flags. What lies apart from them is read as before by the laws of `Leaves`, where the tests compute. Assumes nothing.
use Rattle.std.specs.Prelude.{Bool, true, false, List, [], ◌∷◌, ℕ, ◌+◌, ◌*◌, ◌/◌, ◌%◌, ltb, eqb, set, if◌then◌else◌}
use Rattle.std.proofs.Common.{arith}
use Rattle.image.specs.Keeps.{Keeps, keeps_then, keeps_within}
use Rattle.image.specs.Leaves.{Leaves, leaves_same, leaves_then, leaves_choice, leaves_wider, leaves_keeps, leaves_put_word, leaves_put_flag}
use Rattle.image.specs.Registers.{tlfs, mission_samples, device_samples}
use Rattle.conversion.specs.Clock.Laws.{keeps_put_clock}
use Rattle.conversion.specs.Conversion.{device_counted, latest_stored, alarms_high, alarms_low, alarms, thf_set, tlf_set, measured, waiting, places, logged, stamped, counted, recorded, ended, taken, converted}

-- ---- the parts of a conversion

pub leaves_device_counted : (image : List ℕ) → Leaves ((0x0223, 3) ∷ []) [] image (device_counted image)
unfolding device_counted
leaves_device_counted image = leaves_choice (ltb (device_samples image) 0xFFFFFF) (leaves_put_word image 0x0223 3 _) leaves_same

pub leaves_latest_stored : (image : List ℕ) (reading : ℕ) → Leaves ((0x020C, 2) ∷ []) [] image (latest_stored image reading)
unfolding latest_stored
leaves_latest_stored image reading = leaves_put_word image 0x020C 2 _

pub leaves_thf_set : (image : List ℕ) (reading : ℕ) → Leaves [] ((0x0214, 1) ∷ []) image (thf_set image reading)
unfolding thf_set
leaves_thf_set image reading = leaves_choice (alarms_high image reading) (leaves_put_flag image 0x0214 1 true tt) leaves_same

pub leaves_tlf_set : (image : List ℕ) (reading : ℕ) → Leaves [] ((0x0214, 0) ∷ []) image (tlf_set image reading)
unfolding tlf_set
leaves_tlf_set image reading = leaves_choice (alarms_low image reading) (leaves_put_flag image 0x0214 0 true tt) leaves_same

pub leaves_measured : (image : List ℕ) (reading : ℕ)
    → Leaves ((0x020C, 2) ∷ (0x0223, 3) ∷ []) ((0x0214, 0) ∷ (0x0214, 1) ∷ []) image (measured image reading)
unfolding measured
leaves_measured image reading =
    leaves_then (leaves_wider tt (leaves_device_counted _))
    (leaves_then (leaves_wider tt (leaves_latest_stored _ reading))
    (leaves_then (leaves_wider tt (leaves_thf_set _ reading)) (leaves_wider tt (leaves_tlf_set _ reading))))

-- ---- the log

pub leaves_logged : (image : List ℕ) (k reading : ℕ) → Leaves ((640, 8192) ∷ []) [] image (logged image k reading)
unfolding logged places
leaves_logged image k reading = leaves_keeps (by_format (tlfs image))
  where
    by_format : (t : Bool) →
        let place = k % (if t then 4096 else 8192) in
        Keeps ((640, 8192) ∷ []) image
        (if t then set (set image (640 + 2 * place) (reading / 8 % 256)) (641 + 2 * place) (reading % 8 * 32)
        else set image (640 + place) (reading / 8 % 256))
    by_format true =
        keeps_then (keeps_within _ 640 8192 _ _ (omega arith) (omega arith)) (keeps_within _ 640 8192 _ _ (omega arith) (omega arith))
    by_format false = keeps_within _ 640 8192 _ _ (omega arith) (omega arith)

pub leaves_stamped : (image : List ℕ) → Leaves ((0x0219, 6) ∷ []) [] image (stamped image)
unfolding stamped
leaves_stamped image = leaves_choice (eqb (mission_samples image) 0) (leaves_keeps (keeps_put_clock image 0x0219 _)) leaves_same

pub leaves_counted : (image : List ℕ) → Leaves ((0x0219, 6) ∷ (0x0220, 3) ∷ []) [] image (counted image)
unfolding counted
leaves_counted image = leaves_then (leaves_wider tt (leaves_stamped image)) (leaves_wider tt (leaves_put_word _ 0x0220 3 _))

pub leaves_recorded : (image : List ℕ) (reading : ℕ)
    → Leaves ((0x0219, 6) ∷ (0x0220, 3) ∷ (640, 8192) ∷ []) ((0x0215, 4) ∷ []) image (recorded image reading)
unfolding recorded
leaves_recorded image reading =
    leaves_choice (waiting image)
    (leaves_choice (alarms image reading)
    (leaves_then (leaves_wider tt (leaves_put_flag image 0x0215 4 false tt)) (leaves_wider tt (leaves_logged _ 0 reading)))
    leaves_same)
    (leaves_then (leaves_wider tt (leaves_logged image _ reading)) (leaves_wider tt (leaves_counted _)))

-- ---- a conversion

pub leaves_converted : (image : List ℕ) (reading : ℕ)
    → Leaves ((0x020C, 2) ∷ (0x0219, 6) ∷ (0x0220, 3) ∷ (0x0223, 3) ∷ (640, 8192) ∷ [])
    ((0x0214, 0) ∷ (0x0214, 1) ∷ (0x0215, 4) ∷ [])
    image
    (converted image reading)
unfolding converted
leaves_converted image reading =
    let result = taken image reading in
    leaves_choice (ended image) leaves_same
    (leaves_then (leaves_wider tt (leaves_measured image result)) (leaves_wider tt (leaves_recorded _ result)))

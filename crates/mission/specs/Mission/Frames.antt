-- What each step of a mission leaves: every byte outside the runs that its law names, and every bit that is none of its
-- flags. What lies apart from them is read as before by the laws of `Leaves`, where the tests compute. Assumes nothing.
use Rattle.std.specs.Prelude.{◌≡◌, false, List, [], ◌∷◌, ℕ}
use Rattle.image.specs.Leaves.{Leaves, leaves_same, leaves_then, leaves_choice, leaves_wider, leaves_put_word, leaves_put_flag}
use Rattle.image.specs.Registers.{mip}
use Rattle.conversion.specs.Conversion.{alarms}
use Rattle.conversion.specs.Clock.Laws.{leaves_clocked}
use Rattle.conversion.specs.Conversion.Frames.{leaves_device_counted, leaves_converted}
use Rattle.mission.specs.Mission.{cleared, may_start, started, stopped, delaying, minute_over, due, mission_ticked, ticked, wfta_cleared, forced}
use Rattle.mission.specs.declared.Counters.{Counters}

-- ---- a tick

-- a mission's tick, once the clock is advanced
pub leaves_mission_ticked : (image : List ℕ) (c : Counters) (reading : ℕ)
    → Leaves ((0x020C, 2) ∷ (0x0216, 3) ∷ (0x0219, 6) ∷ (0x0220, 3) ∷ (0x0223, 3) ∷ (640, 8192) ∷ [])
    ((0x0214, 0) ∷ (0x0214, 1) ∷ (0x0215, 4) ∷ [])
    image
    (mission_ticked image c reading)
unfolding mission_ticked
leaves_mission_ticked image c reading =
    leaves_choice (delaying image)
    (leaves_choice (minute_over c) (leaves_wider tt (leaves_put_word image 0x0216 3 _)) leaves_same)
    (leaves_choice (due image c) (leaves_wider tt (leaves_converted image reading)) leaves_same)

pub leaves_ticked : (image : List ℕ) (c : Counters) (reading : ℕ)
    → Leaves ((0x0200, 6) ∷ (0x020C, 2) ∷ (0x0216, 3) ∷ (0x0219, 6) ∷ (0x0220, 3) ∷ (0x0223, 3) ∷ (640, 8192) ∷ [])
    ((0x0214, 0) ∷ (0x0214, 1) ∷ (0x0215, 4) ∷ [])
    image
    (ticked image c reading)
unfolding ticked
leaves_ticked image c reading =
    leaves_then (leaves_wider tt (leaves_clocked image)) (leaves_wider tt (leaves_mission_ticked _ c reading))

-- ---- Clear, Start, Stop, Forced Conversion

pub leaves_cleared : (image : List ℕ)
    → Leaves ((0x0219, 6) ∷ (0x0220, 3) ∷ []) ((0x0214, 0) ∷ (0x0214, 1) ∷ (0x0214, 7) ∷ (0x0215, 3) ∷ []) image (cleared image)
unfolding cleared
leaves_cleared image =
    leaves_choice (mip image) leaves_same
    (leaves_then (leaves_wider tt (leaves_put_word _ 0x0219 6 _))
    (leaves_then (leaves_wider tt (leaves_put_word _ 0x0220 3 _))
    (leaves_then (leaves_wider tt (leaves_put_flag _ 0x0214 7 _ tt))
    (leaves_then (leaves_wider tt (leaves_put_flag _ 0x0214 1 _ tt))
    (leaves_then (leaves_wider tt (leaves_put_flag _ 0x0214 0 _ tt)) (leaves_wider tt (leaves_put_flag _ 0x0215 3 _ tt)))))))

pub leaves_started : (image : List ℕ)
    → Leaves [] ((0x0212, 0) ∷ (0x0215, 1) ∷ (0x0215, 3) ∷ (0x0215, 4) ∷ []) image (started image)
unfolding started
leaves_started image =
    leaves_choice (may_start image)
    (leaves_then (leaves_wider tt (leaves_put_flag _ 0x0215 1 _ tt))
    (leaves_then (leaves_wider tt (leaves_put_flag _ 0x0215 3 _ tt))
    (leaves_then (leaves_wider tt (leaves_put_flag _ 0x0212 0 _ tt)) (leaves_wider tt (leaves_put_flag _ 0x0215 4 _ tt)))))
    leaves_same

pub leaves_stopped : (image : List ℕ) → Leaves [] ((0x0215, 1) ∷ []) image (stopped image)
unfolding stopped
leaves_stopped image = leaves_put_flag image 0x0215 1 false tt

pub leaves_wfta_cleared : (image : List ℕ) (reading : ℕ) → Leaves [] ((0x0215, 4) ∷ []) image (wfta_cleared image reading)
unfolding wfta_cleared
leaves_wfta_cleared image reading = leaves_choice (alarms image reading) (leaves_put_flag image 0x0215 4 false tt) leaves_same

pub leaves_forced : (image : List ℕ) (c : Counters)
    → Leaves ((0x020C, 2) ∷ (0x0223, 3) ∷ []) ((0x0212, 0) ∷ (0x0215, 4) ∷ []) image (forced image c)
unfolding forced
leaves_forced image c =
    leaves_choice (mip image) leaves_same
    (leaves_then (leaves_wider tt (leaves_put_word _ 0x020C 2 _))
    (leaves_then (leaves_wider tt (leaves_device_counted _))
    (leaves_then (leaves_wider tt (leaves_put_flag _ 0x0212 0 _ tt)) (leaves_wider tt (leaves_wfta_cleared _ c.reading)))))

-- ---- MIP changes by Start and Stop alone

pub mip_ticked : (image : List ℕ) (c : Counters) (reading : ℕ) → mip (ticked image c reading) ≡ mip image
mip_ticked image c reading = (leaves_ticked image c reading).bits 0x0215 1 tt tt tt

pub mip_cleared : (image : List ℕ) → mip (cleared image) ≡ mip image
mip_cleared image = (leaves_cleared image).bits 0x0215 1 tt tt tt

pub mip_forced : (image : List ℕ) (c : Counters) → mip (forced image c) ≡ mip image
mip_forced image c = (leaves_forced image c).bits 0x0215 1 tt tt tt

-- An image of 8,832 bytes stays one: after every tick and every control command. Assumes nothing.
use Rattle.std.specs.Prelude.{true, false, List, ℕ}
use Rattle.image.specs.Registers.{mip}
use Rattle.conversion.specs.Conversion.{alarms}
use Rattle.conversion.specs.Conversion.Whole.{Whole, whole_choice, whole_put_word, whole_put_flag, whole_device_counted, whole_converted, whole_clocked}
use Rattle.mission.specs.Mission.{cleared, may_start, started, stopped, delaying, minute_over, due, mission_ticked, ticked, wfta_cleared, forced}
use Rattle.mission.specs.declared.Counters.{Counters}

-- ---- ticks and control commands

pub whole_ticked : {image : List ℕ} (c : Counters) (reading : ℕ) → Whole image → Whole (ticked image c reading)
unfolding ticked mission_ticked
whole_ticked c reading w =
    let v = whole_clocked w in
    whole_choice (delaying _) (whole_choice (minute_over c) (whole_put_word 0x0216 3 _ v) v)
    (whole_choice (due _ c) (whole_converted reading v) v)

pub whole_cleared : {image : List ℕ} → Whole image → Whole (cleared image)
unfolding cleared
whole_cleared {image} w =
    whole_choice (mip image) w
    (whole_put_flag 0x0215 3 true
    (whole_put_flag 0x0214 0 false
    (whole_put_flag 0x0214 1 false (whole_put_flag 0x0214 7 false (whole_put_word 0x0220 3 0 (whole_put_word 0x0219 6 0 w))))))

pub whole_started : {image : List ℕ} → Whole image → Whole (started image)
unfolding started
whole_started {image} w =
    whole_choice (may_start image)
    (whole_put_flag 0x0215 4 _ (whole_put_flag 0x0212 0 true (whole_put_flag 0x0215 3 false (whole_put_flag 0x0215 1 true w))))
    w

pub whole_stopped : {image : List ℕ} → Whole image → Whole (stopped image)
unfolding stopped
whole_stopped w = whole_put_flag 0x0215 1 false w

pub whole_forced : {image : List ℕ} (c : Counters) → Whole image → Whole (forced image c)
unfolding forced wfta_cleared
whole_forced {image} c w =
    let v = whole_put_flag 0x0212 0 true (whole_device_counted (whole_put_word 0x020C 2 _ w)) in
    whole_choice (mip image) w (whole_choice (alarms _ c.reading) (whole_put_flag 0x0215 4 false v) v)

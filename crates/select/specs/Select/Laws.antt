-- What one slot does, in the words that runs of slots are proved by; where the alarm counts. Assumes nothing.
use Rattle.std.specs.Prelude.{◌≡◌, refl, Bool, true, false, ℕ, ◌+◌, ◌<◌, ◌≤◌, ltb, eqb}
use Rattle.std.proofs.Common.{ap, lt-ltb, le-ltb}
use Rattle.std.specs.Bool.{beq}
use Rattle.std.specs.Cmp.{bool_eq_equiv}
use Rattle.bits.specs.Bits.{bit_of, shift_in}
use Rattle.bits.specs.Choose.{choice}
use Rattle.select.specs.Select.{mark_in, speed_in, mode_of, keeps, rom_command, whole, command_bit, following, read_bit, heard_bit, listens, slot_at, slot_of, ends_command, asks_alarm}
use Rattle.select.specs.declared.Choosing.{Choosing}
use Rattle.select.specs.declared.Choosing.TheVariants.{Silent, Command, Reading, Matching, Giving, Complementing, Awaiting, Selected}
use Rattle.select.specs.declared.Mode.{Mode}
use Rattle.select.specs.declared.Select.{Select}

-- ---- mark and speed

pub mark_of_lem : (mark speed : Bool) → mark_in (mode_of mark speed) ≡ mark
unfolding mark_in mode_of
mark_of_lem false false = refl
mark_of_lem true false = refl
mark_of_lem false true = refl
mark_of_lem true true = refl

pub speed_of_lem : (mark speed : Bool) → speed_in (mode_of mark speed) ≡ speed
unfolding speed_in mode_of
speed_of_lem false false = refl
speed_of_lem true false = refl
speed_of_lem false true = refl
speed_of_lem true true = refl

-- and there is nothing else in a mode
pub mode_of_lem : (mode : Mode) → mode_of (mark_in mode) (speed_in mode) ≡ mode
unfolding mark_in speed_in mode_of
mode_of_lem Mode.Plain = refl
mode_of_lem Mode.Marked = refl
mode_of_lem Mode.Overdrive = refl
mode_of_lem Mode.OverdriveMarked = refl

-- ---- one slot, where it is not the last of its kind and where it is

pub command_more : (heard count : ℕ) (mode : Mode) (bit alarm : Bool) → count < 7 →
    command_bit heard count mode bit alarm ≡ keeps mode (Command (shift_in 8 heard bit) (count + 1))
unfolding command_bit
command_more heard count mode bit alarm h = rw (lt-ltb _ _ h)

pub command_last : (heard count : ℕ) (mode : Mode) (bit alarm : Bool) → 7 ≤ count →
    command_bit heard count mode bit alarm ≡ rom_command (shift_in 8 heard bit) mode alarm
unfolding command_bit
command_last heard count mode bit alarm h = rw (le-ltb _ _ h)

-- what holds of where ROM commands lead holds of every command byte's
pub command_cases : (P : Choosing → Type 0) (byte : ℕ) (mode : Mode) (alarm : Bool) → P (Reading 0) → ((fast : Bool) → P (Matching fast 0)) → P (Giving 0) → P Selected → P Silent →
    P (rom_command byte mode alarm).choosing
unfolding rom_command
command_cases P byte mode alarm reading matching giving selected silent =
    let Q : Select → Type 0 = λ s. P s.choosing in
    choice Q (eqb byte 0x33) reading
    (choice Q (eqb byte 0x55) (matching false)
    (choice Q (eqb byte 0x69) (matching true)
    (choice Q (eqb byte 0xF0) giving
    (choice Q (eqb byte 0xEC) (choice P alarm giving silent)
    (choice Q (eqb byte 0xCC) selected
    (choice Q (eqb byte 0x3C) selected
    (choice Q (eqb byte 0xA5) (choice P (mark_in mode) selected silent) silent)))))))

pub following_more : (at : ℕ) → at < 63 → following at ≡ at + 1
unfolding following
following_more at h = rw (lt-ltb _ _ h)

pub read_more : (at : ℕ) (mode : Mode) → at < 63 → read_bit at mode ≡ keeps mode (Reading (at + 1))
unfolding read_bit
read_more at mode h = simp (lt-ltb _ _ h, following_more at h)

pub read_last : (at : ℕ) (mode : Mode) → 63 ≤ at → read_bit at mode ≡ keeps mode Selected
unfolding read_bit
read_last at mode h = rw (le-ltb _ _ h)

pub same_bit : (b : Bool) → beq b b ≡ true
same_bit b = bool_eq_equiv.refl b

pub heard_right_more : (number at : ℕ) (next : Choosing) (fast : Bool) (mode : Mode) → at < 63 →
    heard_bit number at (bit_of number at) next fast mode ≡ keeps mode next
unfolding heard_bit
heard_right_more number at next fast mode h = simp (same_bit, lt-ltb _ _ h)

pub heard_right_last : (number at : ℕ) (next : Choosing) (fast : Bool) (mode : Mode) → 63 ≤ at →
    heard_bit number at (bit_of number at) next fast mode ≡ keeps (whole fast mode) Selected
unfolding heard_bit
heard_right_last number at next fast mode h = simp (same_bit, le-ltb _ _ h)

pub heard_wrong : (number at : ℕ) (bit : Bool) (next : Choosing) (fast : Bool) (mode : Mode) → beq (bit_of number at) bit ≡ false →
    heard_bit number at bit next fast mode ≡ keeps mode Silent
unfolding heard_bit
heard_wrong number at bit next fast mode h = rw h

-- ---- the alarm counts only where it is asked for

rom_alarm : (byte : ℕ) (mode : Mode) (a b : Bool) → eqb byte 0xEC ≡ false → rom_command byte mode a ≡ rom_command byte mode b
unfolding rom_command
rom_alarm byte mode a b h = rw h

command_alarm : (heard count : ℕ) (mode : Mode) (bit a b : Bool) (more : Bool) → ltb count 7 ≡ more →
    asks_alarm (keeps mode (Command heard count)) bit ≡ false →
    command_bit heard count mode bit a ≡ command_bit heard count mode bit b
unfolding command_bit ends_command
command_alarm heard count mode bit a b true more h = simp more
command_alarm heard count mode bit a b false more h = simp more (rom_alarm _ mode a b (simp more at h))

-- a slot that is not the last bit of a Conditional Search command
pub alarm_unasked : (select : Select) (number : ℕ) (bit a b : Bool) → asks_alarm select bit ≡ false →
    slot_of select number bit a ≡ slot_of select number bit b
unfolding slot_of slot_at
alarm_unasked select number bit a b h = at select.choosing h
  where
    at : (k : Choosing) → asks_alarm (keeps select.mode k) bit ≡ false →
        slot_at k select.mode number bit a ≡ slot_at k select.mode number bit b
    at Silent h = refl
    at (Command heard count) h = ap (listens bit) (command_alarm heard count select.mode bit a b (ltb count 7) refl h)
    at (Reading n) h = refl
    at (Matching fast n) h = refl
    at (Giving n) h = refl
    at (Complementing n) h = refl
    at (Awaiting n) h = refl
    at Selected h = refl

-- two tags that stand alike stay alike, given the same alarm where it is asked for
pub slots_agree : (select : Select) (number : ℕ) (bit a b : Bool) → (asks_alarm select bit ≡ true → a ≡ b) →
    slot_of select number bit a ≡ slot_of select number bit b
slots_agree select number bit a b same = by (asks_alarm select bit) refl
  where
    by : (asked : Bool) → asks_alarm select bit ≡ asked → slot_of select number bit a ≡ slot_of select number bit b
    by true asked = ap (slot_of select number bit) (same asked)
    by false asked = alarm_unasked select number bit a b asked

-- The ranges of docs/RANGES.md hold of a new tag and after a reset, and a slot keeps them. Assumes nothing.
use Rattle.std.specs.Prelude.{◌≡◌, refl, Bool, true, false, ℕ, ◌+◌, ◌<◌, ltb}
use Rattle.std.specs.Bool.{beq}
use Rattle.std.proofs.Common.{arith, lt-ltb, ltb-true}
use Rattle.bits.specs.Choose.{either, choice}
use Rattle.bits.specs.Bits.{bit_of, shift_in}
use Rattle.select.specs.Select.{new_select, listening, rom_command, command_bit, following, read_bit, heard_bit, slot_at, slot_of, choosing_in_range, select_in_range}
use Rattle.select.specs.Select.Laws.{command_cases}
use Rattle.select.specs.declared.Choosing.{Choosing}
use Rattle.select.specs.declared.Choosing.TheVariants.{Silent, Command, Reading, Matching, Giving, Complementing, Awaiting, Selected}
use Rattle.select.specs.declared.Mode.{Mode}
use Rattle.select.specs.declared.Select.{Select}

pub new_in_range : select_in_range new_select ≡ true
unfolding choosing_in_range
new_in_range = refl

pub listening_in_range : (mode : Mode) → select_in_range (listening mode) ≡ true
unfolding choosing_in_range
listening_in_range mode = refl

abbrev InRange : Choosing → Type 0
InRange choosing = choosing_in_range choosing ≡ true

abbrev SelectInRange : Select → Type 0
SelectInRange select = InRange select.choosing

rom_in_range : (byte : ℕ) (mode : Mode) (alarm : Bool) → SelectInRange (rom_command byte mode alarm)
unfolding choosing_in_range
rom_in_range byte mode alarm = command_cases InRange byte mode alarm refl (λ fast. refl) refl refl refl

command_in_range : (heard count : ℕ) (mode : Mode) (bit alarm : Bool) → SelectInRange (command_bit heard count mode bit alarm)
unfolding command_bit choosing_in_range
command_in_range heard count mode bit alarm =
    either SelectInRange (ltb count 7)
    (λ e. lt-ltb (count + 1) 8 (omega (arith, ltb-true count 7 e)))
    (λ e. rom_in_range (shift_in 8 heard bit) mode alarm)

following_lt : (at : ℕ) → at < 64 → following at < 64
unfolding following
following_lt at h = either (λ (n : ℕ). n < 64) (ltb at 63) (λ e. omega (arith, ltb-true at 63 e)) (λ e. h)

heard_in_range : (number at : ℕ) (bit : Bool) (next : Choosing) (fast : Bool) (mode : Mode) → InRange next →
    SelectInRange (heard_bit number at bit next fast mode)
unfolding heard_bit choosing_in_range
heard_in_range number at bit next fast mode h =
    choice SelectInRange (beq (bit_of number at) bit) (choice SelectInRange (ltb at 63) h refl) refl

-- a slot keeps the ranges
pub slot_in_range : (select : Select) (number : ℕ) (bit alarm : Bool) → select_in_range select ≡ true →
    select_in_range (slot_of select number bit alarm).select ≡ true
unfolding slot_of slot_at read_bit choosing_in_range
slot_in_range select number bit alarm h = at select.choosing select.mode h
  where
    step : (at : ℕ) → ltb at 64 ≡ true → ltb (following at) 64 ≡ true
    step at h = lt-ltb _ _ (following_lt at (ltb-true _ _ h))

    at : (k : Choosing) (mode : Mode) → InRange k → InRange (slot_at k mode number bit alarm).select.choosing
    at Silent mode h = refl
    at (Command heard count) mode h = command_in_range heard count mode bit alarm
    at (Reading n) mode h = choice InRange (ltb n 63) (step n h) refl
    at (Matching fast n) mode h = heard_in_range number n bit (Matching fast (following n)) fast mode (step n h)
    at (Giving n) mode h = h
    at (Complementing n) mode h = h
    at (Awaiting n) mode h = heard_in_range number n bit (Giving (following n)) false mode (step n h)
    at Selected mode h = refl

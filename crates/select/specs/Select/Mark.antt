-- The ROM commands by what they share, and the rule of the Resume mark. Assumes nothing.
use Rattle.std.specs.Prelude.{◌≡◌, refl, List, [], ◌∷◌, Bool, true, false, ◌&&◌, ◌||◌, ℕ, ◌+◌, ltb, eqb, if◌then◌else◌}
use Rattle.std.specs.Bool.{beq}
use Rattle.std.proofs.Common.{eqb-true}
use Rattle.bits.specs.Bits.{bit_of, shift_in}
use Rattle.select.specs.Select.{mark_in, speed_in, keeps, clears, rom_command, command_bit, following, read_bit, whole, heard_bit, slot_at, slot_of, ends_command}
use Rattle.select.specs.Select.Laws.{mark_of_lem}
use Rattle.select.specs.declared.Choosing.{Choosing}
use Rattle.select.specs.declared.Choosing.TheVariants.{Silent, Command, Reading, Matching, Giving, Complementing, Awaiting, Selected}
use Rattle.select.specs.declared.Mode.{Mode}
use Rattle.select.specs.declared.Select.{Select}

-- "Conditional Search is joined only if BOR, THF or TLF is 1", Search always
unfoldable pub joins : ℕ → Bool → Bool
joins byte alarm = eqb byte 0xF0 || (eqb byte 0xEC && alarm)

-- one of these bytes
unfoldable pub among : List ℕ → ℕ → Bool
among [] byte = false
among (this ∷ these) byte = eqb byte this || among these byte

-- "Read, Match, both Searches and Skip clear the Resume mark", and so do the overdrive Match and Skip
unfoldable pub clearing : ℕ → Bool
clearing byte = among (0x33 ∷ 0x55 ∷ 0x69 ∷ 0xF0 ∷ 0xEC ∷ 0xCC ∷ 0x3C ∷ []) byte

-- with Resume these are all the commands
unfoldable pub known : ℕ → Bool
known byte = among (0x33 ∷ 0x55 ∷ 0x69 ∷ 0xF0 ∷ 0xEC ∷ 0xCC ∷ 0x3C ∷ 0xA5 ∷ []) byte

-- "a whole Match or either whole Search": this slot is its last bit, and it is right
unfoldable pub ends_whole : Choosing → ℕ → Bool → Bool
ends_whole (Matching fast at) number bit = if ltb at 63 then false else beq (bit_of number at) bit
ends_whole (Awaiting at) number bit = if ltb at 63 then false else beq (bit_of number at) bit
ends_whole Silent number bit = false
ends_whole (Command heard count) number bit = false
ends_whole (Reading at) number bit = false
ends_whole (Giving at) number bit = false
ends_whole (Complementing at) number bit = false
ends_whole Selected number bit = false

-- ---- what `rom_command` says of them

pub rom_joined : (byte : ℕ) (mode : Mode) (alarm : Bool) → joins byte alarm ≡ true → rom_command byte mode alarm ≡ clears (speed_in mode) (Giving 0)
unfolding rom_command joins
rom_joined byte mode alarm = by (eqb byte 0xF0) (eqb byte 0xEC) alarm refl refl
  where
    by : (search conditional alarm : Bool) → eqb byte 0xF0 ≡ search → eqb byte 0xEC ≡ conditional →
        (search || (conditional && alarm)) ≡ true →
        rom_command byte mode alarm ≡ clears (speed_in mode) (Giving 0)
    by true conditional alarm e f h = rw (eqb-true byte 0xF0 e)
    by false true true e f h = rw (eqb-true byte 0xEC f)
    by false true false e f h = cc
    by false false alarm e f h = cc

-- one command more that clears the mark
clears_too : (P : Select → Bool → Bool → Type 0) (test : Bool) {a b : Select} {c k : Bool} → P a true true → P b c k →
    P (if test then a else b) (test || c) (test || k)
clears_too P true p q = p
clears_too P false p q = q

-- a command that clears the mark, Resume, and one that is not known
rom_cases : (P : Select → Bool → Bool → Type 0) (byte : ℕ) (mode : Mode) (alarm : Bool) →
    ((speed : Bool) (k : Choosing) → P (clears speed k) true true) →
    ((k : Choosing) → P (keeps mode k) false true) →
    P (keeps mode Silent) false false →
    P (rom_command byte mode alarm) (clearing byte) (known byte)
unfolding rom_command clearing known among
rom_cases P byte mode alarm cleared resumed unknown =
    clears_too P (eqb byte 0x33) (cleared _ _)
    (clears_too P (eqb byte 0x55) (cleared _ _)
    (clears_too P (eqb byte 0x69) (cleared _ _)
    (clears_too P (eqb byte 0xF0) (cleared _ _)
    (clears_too P (eqb byte 0xEC) (cleared _ _)
    (clears_too P (eqb byte 0xCC) (cleared _ _)
    (clears_too P (eqb byte 0x3C) (cleared _ _)
    (rest (eqb byte 0xA5))))))))
  where
    rest : (resume : Bool) → P (if resume then keeps mode (if mark_in mode then Selected else Silent) else keeps mode Silent) false (resume || false)
    rest true = resumed _
    rest false = unknown

pub rom_mark : (byte : ℕ) (mode : Mode) (alarm : Bool) → mark_in (rom_command byte mode alarm).mode ≡ (if clearing byte then false else mark_in mode)
rom_mark byte mode alarm =
    rom_cases (λ s cleared known. mark_in s.mode ≡ (if cleared then false else mark_in mode)) byte mode alarm
    (λ speed k. mark_of_lem false speed) (λ k. refl) refl

pub rom_unknown : (byte : ℕ) (mode : Mode) (alarm : Bool) → known byte ≡ false → rom_command byte mode alarm ≡ keeps mode Silent
rom_unknown byte mode alarm =
    rom_cases (λ s cleared known. known ≡ false → s ≡ keeps mode Silent) byte mode alarm (λ speed k e. cc) (λ k e. cc) (λ e. refl)

-- ---- the mark after a slot

-- the mark that a slot leaves, by whether it ends a command that clears it
command_mark : (heard count : ℕ) (mode : Mode) (bit alarm : Bool) →
    mark_in (command_bit heard count mode bit alarm).mode ≡ (if ends_command clearing (Command heard count) bit then false else mark_in mode)
unfolding command_bit ends_command
command_mark heard count mode bit alarm = by (ltb count 7)
  where
    byte : ℕ
    byte = shift_in 8 heard bit

    by : (more : Bool) →
        mark_in (if more then keeps mode (Command byte (count + 1)) else rom_command byte mode alarm).mode ≡
        (if (if more then false else clearing byte) then false else mark_in mode)
    by true = refl
    by false = rom_mark byte mode alarm

heard_mark : (number at : ℕ) (bit : Bool) (next : Choosing) (fast : Bool) (mode : Mode) →
    mark_in (heard_bit number at bit next fast mode).mode ≡
    (if (if ltb at 63 then false else beq (bit_of number at) bit) then true else mark_in mode)
unfolding heard_bit
heard_mark number at bit next fast mode = by (ltb at 63) (beq (bit_of number at) bit)
  where
    by : (more right : Bool) →
        mark_in (if right then (if more then keeps mode next else keeps (whole fast mode) Selected) else keeps mode Silent).mode ≡
        (if (if more then false else right) then true else mark_in mode)
    by true true = refl
    by true false = refl
    by false true = mark_of_lem true (fast || speed_in mode)
    by false false = refl

-- the mark after any slot: cleared, set, or left
pub mark_after : (select : Select) (number : ℕ) (bit alarm : Bool) →
    mark_in (slot_of select number bit alarm).select.mode ≡
    (if ends_command clearing select.choosing bit then false else if ends_whole select.choosing number bit then true else mark_in select.mode)
unfolding slot_of slot_at read_bit ends_command ends_whole
mark_after select number bit alarm = at select.choosing select.mode
  where
    at : (k : Choosing) (mode : Mode) →
        mark_in (slot_at k mode number bit alarm).select.mode ≡
        (if ends_command clearing k bit then false else if ends_whole k number bit then true else mark_in mode)
    at Silent mode = refl
    at (Command heard count) mode = command_mark heard count mode bit alarm
    at (Reading n) mode = refl
    at (Matching fast n) mode = heard_mark number n bit (Matching fast (following n)) fast mode
    at (Giving n) mode = refl
    at (Complementing n) mode = refl
    at (Awaiting n) mode = heard_mark number n bit (Giving (following n)) false mode
    at Selected mode = refl

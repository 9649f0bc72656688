-- Demand 3 of the order: what a person without a password can learn from the line, and what he can spoil. First the words that the
-- statement uses, then its premises, then what it concludes. `demand3` in Demand3/Proof.antt proves it. Assumes nothing.
use Rattle.std.specs.Prelude.{◌≡◌, Bool, true, false, List, [], ◌∷◌, ◌≢◌, ◌⊎◌, ℕ, ◌+◌, ◌*◌, ◌/◌, ◌^◌, ◌≤◌, eqb, ltb, if◌then◌else◌}
use Rattle.exchange.specs.declared.Exchange.{Exchange}
use Rattle.bus.specs.declared.Control.{Control}
use Rattle.bus.specs.declared.Guarded.{Guarded}
use Rattle.bus.specs.declared.Hearing.{Hearing}
use Rattle.bus.specs.declared.Stage.{Stage}
use Rattle.select.specs.declared.Choosing.{Choosing}
use Rattle.promises.specs.Runs.{State, Event, after, run, ticks_of, Reached, Always, Together, OnSlots}
use Rattle.promises.specs.Sentences.Choosing.{alarm}
use Rattle.promises.specs.Words.{byte_at, bit_at, word_at, mark_of, Stays}
pub mod Slot
pub mod Image
pub mod Left
pub mod Reset
pub mod Proof
pub mod Needed

-- ---- three kinds of slot, read off the record and the master's bit

-- *field*: this slot is the last bit of a password field, and these are its eight bytes as a number, low byte first. The tag is chosen,
-- by "a ROM command that was not failed", and gathers what follows 99h TA1 TA2 E/S, 69h TA1 TA2, 96h, CCh or 33h.
pub record EndsField (x : Exchange) (bit : Bool) (field : ℕ) : Type 0 where
  pub chosen : x.select.choosing ≡ Choosing.Selected
  pub gathered : (g : Guarded) × (x.bus.stage ≡ Stage.Gathers g)
  pub last : x.bus.at ≡ 63
  -- a bit is heard at the top, and what was heard before it has moved down
  pub bytes : x.bus.field / 2 + (if bit then 1 else 0) * 2 ^ 63 ≡ field

-- *conditional*: this slot is the last bit of a ROM command byte ECh
unfoldable pub conditional : Choosing → Bool → Bool
conditional (Choosing.Command heard count) bit = if ltb count 7 then false else eqb (heard / 2 + (if bit then 1 else 0) * 2 ^ 7) 0xEC
conditional Choosing.Silent bit = false
conditional (Choosing.Reading at) bit = false
conditional (Choosing.Matching fast at) bit = false
conditional (Choosing.Giving at) bit = false
conditional (Choosing.Complementing at) bit = false
conditional (Choosing.Awaiting at) bit = false
conditional Choosing.Selected bit = false

abbrev pub Conditional : Exchange → Bool → Type 0
Conditional x bit = conditional x.select.choosing bit ≡ true

-- this slot is the last bit of FFh after 55h
pub record Forces (x : Exchange) (bit : Bool) : Type 0 where
  pub chosen : x.select.choosing ≡ Choosing.Selected
  pub awaited : x.bus.stage ≡ Stage.Hears (Hearing.Confirm Control.Convert)
  pub last : x.bus.at ≡ 7
  pub byte : x.bus.byte / 2 + (if bit then 1 else 0) * 2 ^ 7 ≡ 0xFF

-- *converted*: and MIP is 0 in the image, so a Forced Conversion is done
abbrev pub Converted : State → Bool → Type 0
Converted s bit = Forces s.tag.exchange bit × (bit_at s.image 0x0215 1 ≡ false)

-- ---- the premises

-- 1. "two tags just after a reset", each reached from a new one by events; "the reset that the two tags start from is a long one"
pub record JustReset (s : State) : Type 0 where
  pub before : State
  pub reached : Reached before
  pub reset : s ≡ after before Event.reset

-- 3. "the same slots and resets", of either kind, "and ticks at the same places with valid readings that may differ"
pub data Alike : Event → Event → Type 0 where
  slots : (bit : Bool) → Alike (Event.slot bit) (Event.slot bit)
  resets : Alike Event.reset Event.reset
  shorts : Alike Event.short Event.short
  ticks : (p q : ℕ) → p ≤ 2047 → q ≤ 2047 → Alike (Event.tick p) (Event.tick q)

-- 4. "no password field ever carries" a password of this image
abbrev pub NoPassword : List ℕ → State → Event → Type 0
NoPassword image = OnSlots (λ s bit. (field : ℕ) → EndsField s.tag.exchange bit field → (field ≢ word_at image 0x0228 8) × (field ≢ word_at image 0x0230 8))

-- 5. "at each completed Conditional Search command both or neither have an alarm flag (BOR, THF or TLF) set"
abbrev pub AlarmsAgree : State → Event → State → Event → Type 0
AlarmsAgree s e t f = OnSlots (λ u bit. Conditional u.tag.exchange bit → alarm s ≡ alarm t) s e

-- premises 1 to 3
pub record Begins (s t : State) (E F : List Event) : Type 0 where
  pub reset_s : JustReset s
  pub reset_t : JustReset t
  -- 2. "with password checking on, the same registration number, and equal scratchpad, address registers and Resume mark"; `held` is
  -- scratchpad, TA and E/S. "All else may differ"
  pub checked_s : byte_at s.image 0x0227 ≡ 0xAA
  pub checked_t : byte_at t.image 0x0227 ≡ 0xAA
  pub number : s.tag.exchange.number ≡ t.tag.exchange.number
  pub held : s.tag.exchange.held ≡ t.tag.exchange.held
  pub mark : mark_of s ≡ mark_of t
  pub alike : Together (λ u e v f. Alike e f) s E t F

-- premise 4: in neither run a field carries any of "their four passwords"
abbrev pub NoneCarried : State → State → List Event → List Event → Type 0
NoneCarried s t E F =
    Always (λ u e. NoPassword s.image u e × NoPassword t.image u e) s E
    × Always (λ u e. NoPassword s.image u e × NoPassword t.image u e) t F

pub record Premises (s t : State) (E F : List Event) : Type 0 where
  pub begins : Begins s t E F
  pub fields : NoneCarried s t E F
  pub alarms : Together AlarmsAgree s E t F

-- ---- what follows

-- no Forced Conversion is done
abbrev pub Unconverted : State → List Event → Type 0
Unconverted s E = Always (OnSlots (λ u bit. Converted u bit → ⊥)) s E

-- what Forced Conversions "may change": "the latest reading, the device samples counter", "and the clock", if it stood still at first;
abbrev pub spoilt_bytes : Bool → List (ℕ × ℕ)
spoilt_bytes true = (0x020C, 0x020D) ∷ (0x0223, 0x0225) ∷ []
spoilt_bytes false = (0x0200, 0x0205) ∷ (0x020C, 0x020D) ∷ (0x0223, 0x0225) ∷ []

-- "the oscillator bit", bit 0 of 0212h, and "the waiting bit", bit 4 of 0215h
abbrev pub spoilt_flags : List (ℕ × ℕ)
spoilt_flags = (0x0212, 0) ∷ (0x0215, 4) ∷ []

-- "Outside the scratchpad, address registers, Resume mark and bus state, each tag ends as the ticks alone would have left it, save that
-- Forced Conversions with no mission running may change" this
pub record LeftToTicks (s : State) (E : List Event) : Type 0 where
  pub number : (run s E).state.tag.exchange.number ≡ (run s (ticks_of E)).state.tag.exchange.number
  pub code : (run s E).state.tag.code ≡ (run s (ticks_of E)).state.tag.code
  pub counters : (run s E).state.tag.counters ≡ (run s (ticks_of E)).state.tag.counters
  pub untouched : (bit_at s.image 0x0215 1 ≡ true) ⊎ Unconverted s E → (run s E).state.image ≡ (run s (ticks_of E)).state.image
  pub spoilt : Stays (spoilt_bytes (bit_at s.image 0x0212 0)) spoilt_flags (run s (ticks_of E)).state.image (run s E).state.image

pub record Conclusions (s t : State) (E F : List Event) : Type 0 where
  -- "every bit on the line is the same"
  pub line : (run s E).line ≡ (run t F).line
  pub left_s : LeftToTicks s E
  pub left_t : LeftToTicks t F

abbrev pub Demand3 : Type 0
Demand3 = (s t : State) (E F : List Event) → Premises s t E F → Conclusions s t E F

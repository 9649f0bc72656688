-- Demand 3 says something: all its premises can be met, without a mission and in one, and the last two are needed. Five statements,
-- each of two tags and two runs that there are: `premises_met`, `fields_needed`, `alarms_needed` and `spoils_with_password` in
-- Needed/Proof.antt and `mission_met` in Needed/Mission.antt prove them. Assumes nothing.
use Rattle.std.specs.Prelude.{◌≡◌, Bool, true, List, ◌∷◌, ◌++◌, ◌≢◌, ℕ, get_or}
use Rattle.image.specs.Registers.{mip, read_password, full_password}
use Rattle.select.specs.Select.{speed_in}
use Rattle.bus.specs.declared.Control.{Control}
use Rattle.bus.specs.declared.Guarded.{Guarded}
use Rattle.bus.specs.declared.Stage.{Stage}
use Rattle.field.specs.Field.{copies}
use Rattle.promises.specs.Demand3.{EndsField, Conditional, Converted, AlarmsAgree, NoneCarried, Begins, Premises, LeftToTicks}
use Rattle.promises.specs.Runs.{State, Event, run, ticks_of, Together}
use Rattle.promises.specs.Sentences.Choosing.{alarm}
pub mod Walk
pub mod Stranger
pub mod Fields
pub mod Alarms
pub mod Owner
pub mod Keys
pub mod Tags
pub mod Proof
pub mod Mission

-- ---- (i) all premises can be met, while a stranger tries every command

-- at some place of the run a slot comes of which this holds
pub record Sometime (P : State → Bool → Type 0) (s : State) (E : List Event) : Type 0 where
  pub before : List Event
  pub bit : Bool
  pub rest : List Event
  pub split : E ≡ before ++ (Event.slot bit ∷ rest)
  pub holds : P (run s before).state bit

-- the slot is the last bit of this command's password field, and the field carries these eight bytes
abbrev pub Offers : Guarded → ℕ → State → Bool → Type 0
Offers g field u bit = (u.tag.exchange.bus.stage ≡ Stage.Gathers g) × EndsField u.tag.exchange bit field

-- of a Copy, too: TA and E/S are as held, and up to the page's end, so that only the password is wrong
abbrev pub OffersCopy : ℕ → State → Bool → Type 0
OffersCopy field u bit =
    Offers Guarded.Copying field u bit × (copies u.tag.exchange.held u.tag.exchange.bus true ≡ true)

-- the tag is at overdrive
abbrev pub Overdriven : State → Type 0
Overdriven u = speed_in u.tag.exchange.select.mode ≡ true

-- Copy, Read Memory, Clear, Start and Stop, each with this whole field, and a Forced Conversion, which asks for none and is done; Stop at
-- overdrive
pub record Tried (field : ℕ) (s : State) (E : List Event) : Type 0 where
  pub copy : Sometime (OffersCopy field) s E
  pub read_memory : Sometime (Offers Guarded.Reading field) s E
  pub clear : Sometime (Offers (Guarded.Controlling Control.Clear) field) s E
  pub start : Sometime (Offers (Guarded.Controlling Control.Start) field) s E
  pub stop : Sometime (λ u bit. Offers (Guarded.Controlling Control.Stop) field u bit × Overdriven u) s E
  pub convert : Sometime Converted s E

pub record PremisesMet : Type 0 where
  pub s : State
  pub t : State
  pub E : List Event
  pub F : List Event
  pub premises : Premises s t E F
  -- the tags differ in both passwords, in the first byte of user memory and in whether an alarm flag is set; the runs in readings
  pub read : read_password s.image ≢ read_password t.image
  pub full : full_password s.image ≢ full_password t.image
  pub memory : get_or s.image 0x0000 0 ≢ get_or t.image 0x0000 0
  pub flags : alarm s ≢ alarm t
  pub readings : ticks_of E ≢ ticks_of F
  -- and in both runs all is tried with one field
  pub field : ℕ
  pub tried_s : Tried field s E
  pub tried_t : Tried field t F

-- ---- (ii) and (iii): all premises but one hold, that one fails, and the bits on the line differ

-- premise 4 alone fails: a field carries a password
pub record FieldCarried (s t : State) (E F : List Event) : Type 0 where
  pub begins : Begins s t E F
  pub alarms : Together AlarmsAgree s E t F
  pub carried : NoneCarried s t E F → ⊥

-- (ii) then the bits differ
pub record FieldsNeeded : Type 0 where
  pub s : State
  pub t : State
  pub E : List Event
  pub F : List Event
  pub given : FieldCarried s t E F
  pub differ : (run s E).line ≢ (run t F).line

-- (iii) premise 5 alone fails: at a Conditional Search one tag has an alarm flag set, and the other none
pub record AlarmsNeeded : Type 0 where
  pub s : State
  pub t : State
  pub E : List Event
  pub F : List Event
  pub begins : Begins s t E F
  pub fields : NoneCarried s t E F
  pub disagree : Together AlarmsAgree s E t F → ⊥
  pub differ : (run s E).line ≢ (run t F).line

-- ---- (iv) all premises can be met in a mission, with a Conditional Search that both tags join

-- the slot is the last bit of a ROM command byte ECh, and an alarm flag is set
abbrev pub Joins : State → Bool → Type 0
Joins u bit = Conditional u.tag.exchange bit × (alarm u ≡ true)

pub record MissionMet : Type 0 where
  pub s : State
  pub t : State
  pub E : List Event
  pub F : List Event
  pub premises : Premises s t E F
  pub running_s : mip s.image ≡ true
  pub running_t : mip t.image ≡ true
  -- the tags differ in both passwords, the runs in readings
  pub read : read_password s.image ≢ read_password t.image
  pub full : full_password s.image ≢ full_password t.image
  pub readings : ticks_of E ≢ ticks_of F
  pub joined_s : Sometime Joins s E
  pub joined_t : Sometime Joins t F

-- ---- (v) premise 4 alone fails, as in (ii), and a tag does not end as the ticks alone would have left it

pub record SpoilsWithPassword : Type 0 where
  pub s : State
  pub t : State
  pub E : List Event
  pub F : List Event
  pub given : FieldCarried s t E F
  pub spoilt : LeftToTicks s E → ⊥

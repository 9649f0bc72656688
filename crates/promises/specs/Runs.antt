-- Runs: events one after the other, and the states that they reach from a new tag (document 01, "Events and what they return"; request
-- #103). Assumes nothing.
use Rattle.std.specs.Prelude.{Bool, cond, List, [], ◌∷◌, ◌≡◌, ℕ, Ok}
use Rattle.record.specs.declared.Tag.{Tag}
use Rattle.record.specs.Record.{Outcome}
use Rattle.tag.specs.Tag.{new_tag, step}
pub mod Laws
pub mod Whole

-- the lent image, and the record "that goes in and comes back"
pub record State : Type 0 where
  pub image : List ℕ
  pub tag : Tag

-- "0 slot with the line held low, 1 slot with the line released, 2 reset, 3 tick of one second"; "Event code 4 is a short reset"
pub data Event : Type 0 where
  slot : Bool → Event
  reset : Event
  tick : ℕ → Event
  short : Event

abbrev pub code_of : Event → ℕ
code_of (Event.slot bit) = cond bit 1 0
code_of Event.reset = 2
code_of (Event.tick reading) = 3
code_of Event.short = 4

-- "The reading counts only with code 3"
abbrev pub reading_of : Event → ℕ
reading_of (Event.slot bit) = 0
reading_of Event.reset = 0
reading_of (Event.tick reading) = reading
reading_of Event.short = 0

-- ---- one event

abbrev pub leaves : Outcome → State
leaves o = record { image = o.image; tag = o.answered.tag }

-- what an event gives: answer, record, line bit and image
abbrev pub happens : State → Event → Outcome
happens s e = step s.image s.tag (code_of e) (reading_of e)

unfoldable pub after : State → Event → State
after s e = leaves (happens s e)

abbrev pub line_bit : State → Event → Bool
line_bit s e = (happens s e).answered.line

abbrev pub Accepts : State → Event → Type 0
Accepts s e = (happens s e).answered.answer ≡ Ok tt

-- ---- events one after the other

pub record Ran : Type 0 where
  pub line : List Bool
  pub state : State

unfoldable pub run : State → List Event → Ran
run s [] = record { line = []; state = s }
run s (e ∷ es) =
    let rest = run (after s e) es in
    record { line = line_bit s e ∷ rest.line; state = rest.state }

-- the ticks alone, in their order
unfoldable pub ticks_of : List Event → List Event
ticks_of [] = []
ticks_of (Event.slot bit ∷ es) = ticks_of es
ticks_of (Event.reset ∷ es) = ticks_of es
ticks_of (Event.tick reading ∷ es) = Event.tick reading ∷ ticks_of es
ticks_of (Event.short ∷ es) = ticks_of es

-- ---- what stays

-- nothing has changed but the bus state and the Resume mark; `held` is scratchpad, TA and E/S
pub record Kept (before after : State) : Type 0 where
  pub image : after.image ≡ before.image
  pub code : after.tag.code ≡ before.tag.code
  pub counters : after.tag.counters ≡ before.tag.counters
  pub number : after.tag.exchange.number ≡ before.tag.exchange.number
  pub held : after.tag.exchange.held ≡ before.tag.exchange.held

-- ---- "tags reached from a new one by events"

pub data Reached : State → Type 0 where
  new : (image : List ℕ) (number code : ℕ) → (new_tag image number code).answered.answer ≡ Ok tt →
      Reached (leaves (new_tag image number code))
  event : {s : State} (e : Event) → Reached s → Accepts s e → Reached (after s e)

-- ---- what holds at each place of a run

-- of the state there and the event that comes
unfoldable pub Always : (State → Event → Type 0) → State → List Event → Type 0
Always P s [] = Unit {0}
Always P s (e ∷ es) = P s e × Always P (after s e) es

-- of two runs side by side, with as many events each
unfoldable pub Together : (State → Event → State → Event → Type 0) → State → List Event → State → List Event → Type 0
Together P s [] t [] = Unit {0}
Together P s [] t (f ∷ fs) = ⊥
Together P s (e ∷ es) t [] = ⊥
Together P s (e ∷ es) t (f ∷ fs) = P s e t f × Together P (after s e) es (after t f) fs

-- of a slot with this bit of the master; nothing is said of resets and ticks
abbrev pub OnSlots : (State → Bool → Type 0) → State → Event → Type 0
OnSlots P s (Event.slot bit) = P s bit
OnSlots P s Event.reset = Unit {0}
OnSlots P s (Event.tick reading) = Unit {0}
OnSlots P s Event.short = Unit {0}

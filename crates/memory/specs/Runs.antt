-- Runs of slots of a memory command: what the line carries, what is asked of the image and what is to be done to it. Assumes nothing.
use Rattle.std.specs.Prelude.{Bool, List, [], ◌∷◌, ◌++◌, map, ℕ}
use Rattle.bus.specs.declared.Bus.{Bus}
use Rattle.bus.specs.declared.Deed.{Deed}
use Rattle.bus.specs.declared.Held.{Held}
use Rattle.bus.specs.declared.Question.{Question}
use Rattle.memory.specs.Memory.{asks, slot_of}
pub mod Laws
pub mod Scratchpad

-- what a run of slots gives: for each slot the line's bit, what was asked and what is to be done
pub record Ran : Type 0 where
  pub held : Held
  pub bus : Bus
  pub line : List Bool
  pub asked : List Question
  pub deeds : List Deed

-- the slots with these bits of the master, one after the other, over an image that answers as `image` does
unfoldable pub run : (Question → ℕ) → Held → Bus → List Bool → Ran
run image held bus [] = record { held = held; bus = bus; line = []; asked = []; deeds = [] }
run image held bus (bit ∷ bits) =
    let moved = slot_of held bus bit (image (asks bus bit)) in
    let rest = run image moved.held moved.bus bits in
    record {
      held = rest.held;
      bus = rest.bus;
      line = moved.line ∷ rest.line;
      asked = asks bus bit ∷ rest.asked;
      deeds = moved.deed ∷ rest.deeds;
    }

-- one run and then another
abbrev pub follows : Ran → Ran → Ran
follows first rest =
    record {
      held = rest.held;
      bus = rest.bus;
      line = first.line ++ rest.line;
      asked = first.asked ++ rest.asked;
      deeds = first.deeds ++ rest.deeds;
    }

-- a run that asks nothing and does nothing, and leaves this
abbrev pub quietly : Held → Bus → List Bool → Ran
quietly held bus line =
    record {
      held = held;
      bus = bus;
      line = line;
      asked = map (λ bit. Question.Nothing) line;
      deeds = map (λ bit. Deed.Nothing) line;
    }

-- Runs of slots of a tag: what the line carries and what is to be done, over an image that answers as `answers` does. Assumes nothing.
use Rattle.std.specs.Prelude.{Bool, true, ◌||◌, List, [], ◌∷◌, ◌++◌, map, ℕ}
use Rattle.bits.specs.Bits.{bits_of, released}
use Rattle.bus.specs.declared.Bus.{Bus}
use Rattle.bus.specs.declared.Deed.{Deed}
use Rattle.bus.specs.declared.Hearing.{Hearing}
use Rattle.bus.specs.declared.Held.{Held}
use Rattle.bus.specs.declared.Question.{Question}
use Rattle.bus.specs.declared.Stage.{Stage}
use Rattle.bus.specs.Bus.{clear_bus}
use Rattle.select.specs.declared.Choosing.TheVariants.{Selected}
use Rattle.select.specs.declared.Mode.{Mode}
use Rattle.select.specs.Select.{mode_of, keeps, unmarked}
use Rattle.select.specs.Runs.{match_byte, skip_byte, search_with, search_answers}
use Rattle.exchange.specs.declared.Exchange.{Exchange}
use Rattle.exchange.specs.Exchange.{asks, slot_of}
pub mod Laws
pub mod Choosing
pub mod Commands

-- what a run of slots gives: for each slot the line's bit and what is to be done
pub record Ran : Type 0 where
  pub exchange : Exchange
  pub line : List Bool
  pub deeds : List Deed

-- the slots with these bits of the master, one after the other
unfoldable pub run : (Question → ℕ) → Exchange → List Bool → Ran
run answers x [] = record { exchange = x; line = []; deeds = [] }
run answers x (bit ∷ bits) =
    let slot = slot_of x bit (answers (asks x bit)) in
    let rest = run answers slot.exchange bits in
    record { exchange = rest.exchange; line = slot.line ∷ rest.line; deeds = slot.deed ∷ rest.deeds }

-- one run and then another
abbrev pub follows : Ran → Ran → Ran
follows first rest =
    record { exchange = rest.exchange; line = first.line ++ rest.line; deeds = first.deeds ++ rest.deeds }

-- a run that does nothing, and leaves this exchange
abbrev pub quietly : Exchange → List Bool → Ran
quietly x line = record { exchange = x; line = line; deeds = map (λ bit. Deed.Nothing) line }

-- ---- a chosen tag

-- a tag with this number that is chosen, with this Resume mark and speed: a memory command goes on over what is held
abbrev pub commanding : ℕ → Mode → Held → Bus → Exchange
commanding number mode held bus = record { number = number; select = keeps mode Selected; held = held; bus = bus }

-- it has just been chosen: a memory command is heard next
abbrev pub chosen : ℕ → Mode → Held → Exchange
chosen number mode held = commanding number mode held (clear_bus (Stage.Hears Hearing.Command))

-- ---- the ways to choose a tag after a reset

-- Match and Skip in two ways each; the fast one is the overdrive one
pub data Way : Type 0 where
  read : Way
  match : (fast : Bool) → Way
  search : Way
  skip : (fast : Bool) → Way

-- the slots of the ROM command, to the tag with this number
unfoldable pub way_slots : Way → ℕ → List Bool
way_slots read number = bits_of 8 0x33 ++ released 64
way_slots (match fast) number = bits_of 8 (match_byte fast) ++ bits_of 64 number
way_slots search number = bits_of 8 0xF0 ++ search_with (bits_of 64 number)
way_slots (skip fast) number = bits_of 8 (skip_byte fast)

-- what the line carries in them
unfoldable pub way_line : Way → ℕ → List Bool
way_line read number = bits_of 8 0x33 ++ bits_of 64 number
way_line (match fast) number = bits_of 8 (match_byte fast) ++ bits_of 64 number
way_line search number = bits_of 8 0xF0 ++ search_answers (bits_of 64 number)
way_line (skip fast) number = bits_of 8 (skip_byte fast)

-- the Resume mark and the speed after them, by the speed before: "a whole Match or either whole Search sets" the mark; 3Ch and 69h set the speed
unfoldable pub way_mode : Way → Bool → Mode
way_mode read speed = unmarked speed
way_mode (match fast) speed = mode_of true (fast || speed)
way_mode search speed = mode_of true speed
way_mode (skip fast) speed = unmarked (fast || speed)

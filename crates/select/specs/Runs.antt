-- Runs of slots after a reset: what the line carries, and where choosing stands at the end. Assumes nothing.
use Rattle.std.specs.Prelude.{Bool, true, false, not, ◌&&◌, ℕ}
use mathlib.Core.List.{List, [], ◌∷◌, flat_map}
use Rattle.select.specs.Select.{slot_of, is_selected}
use Rattle.select.specs.declared.Select.{Select}
pub mod Laws
pub mod Through

-- what a run of slots gives
pub record Ran : Type 0 where
  pub select : Select
  pub line : List Bool

-- the slots with these bits of the master, one after the other; the alarm is the same in all
unfoldable pub run : Select → ℕ → Bool → List Bool → Ran
run select number alarm [] = record { select = select; line = [] }
run select number alarm (bit ∷ bits) =
    let slot = slot_of select number bit alarm in
    let rest = run slot.select number alarm bits in
    record { select = rest.select; line = slot.line ∷ rest.line }

-- in each of these slots the tag is still being chosen: none is a memory command's
unfoldable pub still_choosing : Select → ℕ → Bool → List Bool → Bool
still_choosing select number alarm [] = true
still_choosing select number alarm (bit ∷ bits) =
    not (is_selected select) && still_choosing (slot_of select number bit alarm).select number alarm bits

-- the command bytes of Match and of Skip, each in two ways; the fast one is the overdrive one of request #103
abbrev pub match_byte : Bool → ℕ
match_byte false = 0x55
match_byte true = 0x69

abbrev pub skip_byte : Bool → ℕ
skip_byte false = 0xCC
skip_byte true = 0x3C

-- a Search pass with these choices: per bit two slots released, then the choice
abbrev pub search_with : List Bool → List Bool
search_with choices = flat_map (λ choice. true ∷ true ∷ choice ∷ []) choices

-- a Search pass as the tag answers it that has these bits and is chosen: per bit the bit, its complement, the choice
abbrev pub search_answers : List Bool → List Bool
search_answers bits = flat_map (λ bit. bit ∷ not bit ∷ bit ∷ []) bits

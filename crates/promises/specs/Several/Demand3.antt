-- Demand 3 for the line (request #106): "from just after a long reset: every tag has password checking on, all tags' numbers, scratchpads,
-- address registers, Resume marks and silence are equal in both runs, no field reaches a selected tag carrying one of that tag's passwords of
-- either run, and alarm flags agree tag by tag at each Conditional Search". `line_demand3` in Demand3/Proof.antt proves it, by demand 3 of each
-- tag. Assumes nothing.
use Rattle.std.specs.Prelude.{List, [], ◌∷◌, ◌≡◌, Bool, ℕ, ◌≤◌, ◌<◌}
use Rattle.promises.specs.Demand3.{JustReset, NoneCarried, AlarmsAgree, LeftToTicks}
use Rattle.promises.specs.Runs as alone
use Rattle.promises.specs.Several.{Line, LineEvent, FitLine, count_of, tag_at, run, heard}
use Rattle.promises.specs.Words.{byte_at, number_of, held_of, mark_of}
pub mod Proof

-- "same slots, resets of both kinds, and ticks at the same places for the same tag", which is one of them, with valid readings that may differ
pub data Alike (count : ℕ) : LineEvent → LineEvent → Type 0 where
  slots : (bit : Bool) → Alike count (LineEvent.slot bit) (LineEvent.slot bit)
  resets : Alike count LineEvent.reset LineEvent.reset
  shorts : Alike count LineEvent.short LineEvent.short
  ticks : (place p q : ℕ) → place < count → p ≤ 2047 → q ≤ 2047 → Alike count (LineEvent.tick place p) (LineEvent.tick place q)

unfoldable pub AllAlike : ℕ → List LineEvent → List LineEvent → Type 0
AllAlike count [] [] = Unit {0}
AllAlike count [] (f ∷ fs) = ⊥
AllAlike count (e ∷ es) [] = ⊥
AllAlike count (e ∷ es) (f ∷ fs) = Alike count e f × AllAlike count es fs

-- of the tag at a place, in both runs. `JustReset` is reached from a new tag by events, and then a long reset; `held_of` is scratchpad, TA and
-- E/S. "Silence" is equal by itself: just after a long reset no tag is silent
pub record TagBegins (s t : alone.State) : Type 0 where
  pub reset_s : JustReset s
  pub reset_t : JustReset t
  pub checked_s : byte_at s.image 0x0227 ≡ 0xAA
  pub checked_t : byte_at t.image 0x0227 ≡ 0xAA
  pub number : number_of s ≡ number_of t
  pub held : held_of s ≡ held_of t
  pub mark : mark_of s ≡ mark_of t

pub record LinePremises (l m : Line) (E F : List LineEvent) : Type 0 where
  pub fit_l : FitLine l
  pub fit_m : FitLine m
  pub count : count_of l ≡ count_of m
  pub begins : (place : ℕ) → place < count_of l → TagBegins (tag_at l place) (tag_at m place)
  pub alike : AllAlike (count_of l) E F
  -- in neither run a field ends at this tag, while it is selected, that carries one of its passwords of either run: another tag's it may
  pub fields : (place : ℕ) → place < count_of l → NoneCarried (tag_at l place) (tag_at m place) (heard place E) (heard place F)
  -- both or neither have an alarm flag at the last bit of ECh, of each tag that hears it
  pub alarms : (place : ℕ) → place < count_of l →
      alone.Together AlarmsAgree (tag_at l place) (heard place E) (tag_at m place) (heard place F)

pub record LineConclusions (l m : Line) (E F : List LineEvent) : Type 0 where
  -- "every bit on the line is the same"
  pub line : (run l E).line ≡ (run m F).line
  -- and each tag ends, on the line, where it ends alone; and there as demand 3 says: as its own ticks leave it, but for Forced Conversions
  pub end_l : (place : ℕ) → place < count_of l → tag_at (run l E).end place ≡ (alone.run (tag_at l place) (heard place E)).state
  pub end_m : (place : ℕ) → place < count_of l → tag_at (run m F).end place ≡ (alone.run (tag_at m place) (heard place F)).state
  pub left_l : (place : ℕ) → place < count_of l → LeftToTicks (tag_at l place) (heard place E)
  pub left_m : (place : ℕ) → place < count_of l → LeftToTicks (tag_at m place) (heard place F)

abbrev pub LineDemand3 : Type 0
LineDemand3 = (l m : Line) (E F : List LineEvent) → LinePremises l m E F → LineConclusions l m E F

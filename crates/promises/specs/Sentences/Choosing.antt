-- Document 01, "Choosing a tag on the line", with the overdrive commands of request #103: what each ROM command after a reset puts on the
-- line, whether it chooses the tag, and what becomes of the Resume mark and the speed. From any state that is fit, whatever went on
-- before. `choosing` in Choosing/Proof.antt proves it; what a short reset does is `Overdrive`. Assumes nothing.
use Rattle.std.specs.Prelude.{Bool, true, false, not, ◌||◌, ◌≡◌, ◌≢◌, ◌⊎◌, ℕ, ◌≤◌, ◌<◌, length, drop}
use mathlib.Core.List.{List, [], ◌∷◌, ◌++◌, map, flat_map}
use Rattle.select.specs.declared.Choosing as stage
use Rattle.promises.specs.Ranges.{Fit}
use Rattle.promises.specs.Runs.{State, Event, after, Ran, run, Kept}
use Rattle.promises.specs.Words.{among, bit, low, released, bit_at, number_of, mark_of, speed_of, Silent, Chosen}
pub mod Modes
pub mod Proof

-- a reset, a ROM command's byte, and these slots
abbrev pub rom : ℕ → List Bool → List Event
rom byte bits = Event.reset ∷ map Event.slot (low 8 byte ++ bits)

-- of a run from s: "0 (presence)" and these bits are on the line; nothing has changed but the bus state; the Resume mark and the speed are
-- these
pub record Gives (s : State) (seen : List Bool) (marked fast : Bool) (ran : Ran) : Type 0 where
  pub line : ran.line ≡ false ∷ seen
  pub kept : Kept s ran.state
  pub mark : mark_of ran.state ≡ marked
  pub speed : speed_of ran.state ≡ fast

-- and memory commands follow; or the tag is "silent until reset"
abbrev pub Chooses : State → List Bool → Bool → Bool → Ran → Type 0
Chooses s seen marked fast ran = Gives s seen marked fast ran × Chosen ran.state

abbrev pub Silences : State → List Bool → Bool → Bool → Ran → Type 0
Silences s seen marked fast ran = Gives s seen marked fast ran × Silent ran.state

-- "Search: per bit, low first, the tag gives the bit, then its complement, then reads the choice": a master that reads two bits and then
-- chooses, and the line with a tag that has these bits where the choices are its own
abbrev pub searching : List Bool → List Bool
searching choices = flat_map (λ choice. true ∷ true ∷ choice ∷ []) choices

abbrev pub answered : List Bool → List Bool
answered own = flat_map (λ b. b ∷ not b ∷ b ∷ []) own

-- "BOR, THF or TLF is 1": "0214h TLF 0, THF 1, BOR 7"
abbrev pub alarm : State → Bool
alarm s = bit_at s.image 0x0214 7 || bit_at s.image 0x0214 1 || bit_at s.image 0x0214 0

-- the last bit of a ROM command's byte, of a Match, or of a Search's last choice
abbrev pub Marks : stage.Choosing → Type 0
Marks c =
    ((heard : ℕ) × (c ≡ stage.Choosing.Command heard 7))
    ⊎ (((fast : Bool) × (c ≡ stage.Choosing.Matching fast 63)) ⊎ (c ≡ stage.Choosing.Awaiting 63))

pub record Choosing : Type 0 where
  -- "After reset comes a ROM command"; a reset alone keeps the Resume mark, and so does a command's byte that is not whole
  pub begun : {s : State} → Fit s → (bits : List Bool) → length bits < 8 →
      Gives s bits (mark_of s) false (run s (Event.reset ∷ map Event.slot bits))
  -- "Read 33h": the number, low bit first
  pub read : {s : State} → Fit s →
      Chooses s (low 8 0x33 ++ low 64 (number_of s)) false false (run s (rom 0x33 (released 64)))
  -- "Match 55h": with the number; "a whole Match .. sets it", the mark; and 69h, "ROM commands 3Ch and 69h work as Skip and Match that set it",
  -- the speed
  pub match : {s : State} → Fit s → Chooses s (low 8 0x55 ++ low 64 (number_of s)) true false (run s (rom 0x55 (low 64 (number_of s))))
  pub fast_match : {s : State} → Fit s → Chooses s (low 8 0x69 ++ low 64 (number_of s)) true true (run s (rom 0x69 (low 64 (number_of s))))
  -- with any other 64 bits, whatever follows; "Match 69h sets the speed only when the whole number matches"
  pub other_match : {s : State} → Fit s → (byte : ℕ) → among (0x55 ∷ 0x69 ∷ []) byte ≡ true → (bits more : List Bool) →
      length bits ≡ 64 → bits ≢ low 64 (number_of s) →
      Silences s (low 8 byte ++ (bits ++ more)) false false (run s (rom byte (bits ++ more)))
  -- and one that is broken off has cleared the mark, and sets neither
  pub part_match : {s : State} → Fit s → (byte : ℕ) → among (0x55 ∷ 0x69 ∷ []) byte ≡ true → (bits : List Bool) → length bits < 64 →
      Gives s (low 8 byte ++ bits) false false (run s (rom byte bits))
  -- "Search F0h": with the number's bits as choices; "either whole Search sets" the mark
  pub search : {s : State} → Fit s →
      Chooses s (low 8 0xF0 ++ answered (low 64 (number_of s))) true false (run s (rom 0xF0 (searching (low 64 (number_of s)))))
  -- "drops out if it differs": the choices are the number's first k bits, and then not bit k; whatever follows
  pub other_search : {s : State} → Fit s → (k : ℕ) → k ≤ 63 → (more : List Bool) →
      let own = bit (number_of s) k in
      Silences s (low 8 0xF0 ++ (answered (low k (number_of s)) ++ (own ∷ not own ∷ not own ∷ more))) false false
      (run s (rom 0xF0 (searching (low k (number_of s)) ++ (true ∷ true ∷ not own ∷ more))))
  -- one that is broken off sets no mark
  pub part_search : {s : State} → Fit s → (k : ℕ) → k ≤ 63 →
      Gives s (low 8 0xF0 ++ answered (low k (number_of s))) false false (run s (rom 0xF0 (searching (low k (number_of s)))))
  -- "Conditional Search ECh .. joined only if BOR, THF or TLF is 1 when the command byte ends"
  pub joined : {s : State} → Fit s → alarm s ≡ true →
      Chooses s (low 8 0xEC ++ answered (low 64 (number_of s))) true false (run s (rom 0xEC (searching (low 64 (number_of s)))))
  -- once joined it is a Search: whatever slots follow the byte
  pub joined_search : {s : State} → Fit s → alarm s ≡ true → (bits : List Bool) →
      ((run s (rom 0xEC bits)).state ≡ (run s (rom 0xF0 bits)).state)
      × (drop 9 (run s (rom 0xEC bits)).line ≡ drop 9 (run s (rom 0xF0 bits)).line)
  pub not_joined : {s : State} → Fit s → alarm s ≡ false → (more : List Bool) →
      Silences s (low 8 0xEC ++ more) false false (run s (rom 0xEC more))
  -- "Skip CCh", and 3Ch that sets the speed
  pub skip : {s : State} → Fit s → Chooses s (low 8 0xCC) false false (run s (rom 0xCC []))
  pub fast_skip : {s : State} → Fit s → Chooses s (low 8 0x3C) false true (run s (rom 0x3C []))
  -- "Resume needs it", and leaves it
  pub resume : {s : State} → Fit s → mark_of s ≡ true → Chooses s (low 8 0xA5) true false (run s (rom 0xA5 []))
  pub no_resume : {s : State} → Fit s → mark_of s ≡ false → (more : List Bool) →
      Silences s (low 8 0xA5 ++ more) false false (run s (rom 0xA5 more))
  -- "Any other byte: silent until reset"; the mark stays
  pub other : {s : State} → Fit s → (byte : ℕ) → byte < 256 →
      among (0x33 ∷ 0x55 ∷ 0x69 ∷ 0xF0 ∷ 0xEC ∷ 0xCC ∷ 0x3C ∷ 0xA5 ∷ []) byte ≡ false → (more : List Bool) →
      Silences s (low 8 byte ++ more) (mark_of s) false (run s (rom byte more))
  -- no slot changes mark or speed but those that end a ROM command's byte, a Match or a Search
  pub same_mode : {s : State} → Fit s → (b : Bool) → (Marks s.tag.exchange.select.choosing → ⊥) →
      (after s (Event.slot b)).tag.exchange.select.mode ≡ s.tag.exchange.select.mode
  -- a silent tag "gives 1", and stays as it is
  pub silent : {s : State} → Fit s → Silent s → (bits : List Bool) → run s (map Event.slot bits) ≡ record { line = bits; state = s }

-- Document 01, "Memory commands": Clear, Start, Stop and Forced Conversion, and any other command byte; what the first four change and leave is in
-- `Sentences.Mission`. `controlling` in Commands/Proof.antt proves it. Assumes nothing.
use Rattle.std.specs.Prelude.{Bool, true, false, List, [], ◌∷◌, ◌++◌, ◌≢◌, ◌≡◌, ℕ, ◌^◌, ◌<◌}
use Rattle.promises.specs.Ranges.{Fit}
use Rattle.promises.specs.Runs.{State, Kept}
use Rattle.promises.specs.Sentences.Commands.{sent, Nothing, PassesFull}
use Rattle.promises.specs.Sentences.Mission.{Beside, Cleared, MayStart, Started, Stopped, Forced}
use Rattle.promises.specs.Words.{among, low, bit_at, held_of, Chosen}

pub record Controlling : Type 0 where
  -- "96h Clear, CCh Start, 33h Stop: eight full-password bytes, then FFh .. Replies are always 1s"
  pub clear : {s : State} → Fit s → Chosen s → (field : ℕ) (more : List Bool) → field < 2 ^ 64 → PassesFull s field →
      let bits = low 8 0x96 ++ (low 64 field ++ (low 8 0xFF ++ more)) in
      ((sent s bits).line ≡ bits)
      × (bit_at s.image 0x0215 1 ≡ false →
      Cleared s.image (sent s bits).state.image × Beside s.tag.counters s (sent s bits).state × (held_of (sent s bits).state ≡ held_of s))
      × (bit_at s.image 0x0215 1 ≡ true → Kept s (sent s bits).state)
  pub start : {s : State} → Fit s → Chosen s → (field : ℕ) (more : List Bool) → field < 2 ^ 64 → PassesFull s field →
      let bits = low 8 0xCC ++ (low 64 field ++ (low 8 0xFF ++ more)) in
      ((sent s bits).line ≡ bits)
      × (MayStart s.image →
      Started s.image (sent s bits).state.image
      × Beside (record { reading = s.tag.counters.reading; minute = 0; wait = 0 }) s (sent s bits).state
      × (held_of (sent s bits).state ≡ held_of s))
      × ((MayStart s.image → ⊥) → Kept s (sent s bits).state)
  pub stop : {s : State} → Fit s → Chosen s → (field : ℕ) (more : List Bool) → field < 2 ^ 64 → PassesFull s field →
      let bits = low 8 0x33 ++ (low 64 field ++ (low 8 0xFF ++ more)) in
      ((sent s bits).line ≡ bits) × Stopped s.image (sent s bits).state.image
      × Beside s.tag.counters s (sent s bits).state × (held_of (sent s bits).state ≡ held_of s)
  -- with a wrong password, whatever follows; and "Another last byte: not done (R)"
  pub no_control : {s : State} → Fit s → Chosen s → (byte field : ℕ) (more : List Bool) → among (0x96 ∷ 0xCC ∷ 0x33 ∷ []) byte ≡ true →
      field < 2 ^ 64 → (PassesFull s field → ⊥) → Nothing s (low 8 byte ++ (low 64 field ++ more))
  pub other_last : {s : State} → Fit s → Chosen s → (byte field last : ℕ) (more : List Bool) → among (0x96 ∷ 0xCC ∷ 0x33 ∷ []) byte ≡ true →
      field < 2 ^ 64 → last < 256 → last ≢ 0xFF → Nothing s (low 8 byte ++ (low 64 field ++ (low 8 last ++ more)))
  -- "55h Forced Conversion: FFh alone"
  pub force : {s : State} → Fit s → Chosen s → (more : List Bool) →
      let bits = low 8 0x55 ++ (low 8 0xFF ++ more) in
      ((sent s bits).line ≡ bits)
      × (bit_at s.image 0x0215 1 ≡ false →
      Forced s.tag.counters.reading s.image (sent s bits).state.image × Beside s.tag.counters s (sent s bits).state
      × (held_of (sent s bits).state ≡ held_of s))
      × (bit_at s.image 0x0215 1 ≡ true → Kept s (sent s bits).state)
  pub no_force : {s : State} → Fit s → Chosen s → (last : ℕ) (more : List Bool) → last < 256 → last ≢ 0xFF →
      Nothing s (low 8 0x55 ++ (low 8 last ++ more))
  -- "after any other command byte, 1s until reset"
  pub other : {s : State} → Fit s → Chosen s → (byte : ℕ) (more : List Bool) → byte < 256 →
      among (0x0F ∷ 0xAA ∷ 0x99 ∷ 0x69 ∷ 0x96 ∷ 0xCC ∷ 0x33 ∷ 0x55 ∷ []) byte ≡ false → Nothing s (low 8 byte ++ more)

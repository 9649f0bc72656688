-- Document 01, "Memory commands": Write Scratchpad, Read Scratchpad and Copy. `scratchpad` in Commands/Proof.antt proves it. Assumes nothing.
use Rattle.std.specs.Prelude.{Bool, true, false, ◌||◌, List, [], ◌∷◌, ◌++◌, ◌⊎◌, ◌≡◌, ℕ, zero, suc, ◌+◌, ◌-◌, ◌*◌, ◌%◌, ◌^◌, ◌<◌, ltb, length, get_or, drop, if◌then◌else◌}
use Rattle.bus.specs.declared.Held.{Held}
use Rattle.promises.specs.Ranges.{Fit}
use Rattle.promises.specs.Runs.{State, Kept}
use Rattle.promises.specs.Sentences.Commands.{sent, Nothing, AreBytes, crc_of, head_of, PassesFull}
use Rattle.promises.specs.Sentences.Memory.{Stored}
use Rattle.promises.specs.Sentences.Mission.{Beside}
use Rattle.promises.specs.Words.{low, slots, released, bit_at, held_of, status_of, Chosen}

-- ---- 0Fh Write Scratchpad

-- what is held after an address, these whole bytes, and bits of one more: "TA loads, AA clears, the ending offset is T4..T0, PF is 1 until
-- the first whole byte (R). Each whole byte's place becomes the ending offset. A broken last byte is dropped and sets PF"
pub record Written (address : ℕ) (bytes : List ℕ) (broken : List Bool) (before after : Held) : Type 0 where
  pub ta : after.ta ≡ address
  pub aa : after.aa ≡ false
  pub ending : after.ending ≡ address % 32 + (length bytes - 1)
  pub pf : after.pf ≡ (ltb (length bytes) 1 || ltb 0 (length broken))
  pub size : length after.pad ≡ 32
  pub places : (place : ℕ) → place < 32 → get_or after.pad place 0
      ≡ (if ltb place (address % 32) then get_or before.pad place 0
      else if ltb place (address % 32 + length bytes) then get_or bytes (place - address % 32) 0
      else get_or before.pad place 0)

-- beside the scratchpad, TA and E/S nothing has changed
pub record ButHeld (before after : State) : Type 0 where
  pub image : after.image ≡ before.image
  pub code : after.tag.code ≡ before.tag.code
  pub counters : after.tag.counters ≡ before.tag.counters
  pub number : after.tag.exchange.number ≡ before.tag.exchange.number

-- ---- 99h Copy

-- "Done exactly if the three equal the held ones, ending offset 1Fh, PF 0, address below 0200h, or below 0280h with no mission, and full
-- password right": MIP is bit 1 of 0215h
pub record Copies (s : State) (address : ℕ) (status : List Bool) (field : ℕ) : Type 0 where
  pub ta : address ≡ (held_of s).ta
  pub es : status ≡ status_of (held_of s)
  pub ending : (held_of s).ending ≡ 0x1F
  pub pf : (held_of s).pf ≡ false
  pub place : (address < 0x0200) ⊎ ((address < 0x0280) × (bit_at s.image 0x0215 1 ≡ false))
  pub password : PassesFull s field

-- "then AA sets"
pub record WithAA (before after : Held) : Type 0 where
  pub pad : after.pad ≡ before.pad
  pub ta : after.ta ≡ before.ta
  pub ending : after.ending ≡ before.ending
  pub pf : after.pf ≡ before.pf
  pub aa : after.aa ≡ true

-- "the tag sends 0,1,0,1 on"
abbrev pub zero_ones : ℕ → List Bool
zero_ones zero = []
zero_ones (suc n) = false ∷ true ∷ zero_ones n

-- ---- the sentences

pub record Scratchpad : Type 0 where
  -- "0Fh Write Scratchpad: TA1, TA2, data from offset T4..T0. .. After offset 1Fh the tag sends CRC-16 over command, address and data"
  pub write : {s : State} → Fit s → Chosen s → (address : ℕ) (bytes : List ℕ) (more : List Bool) → address < 65536 → AreBytes bytes →
      address % 32 + length bytes ≡ 32 →
      let bits = head_of 0x0F address ++ slots bytes in
      let ran = sent s (bits ++ (released 16 ++ more)) in
      (ran.line ≡ bits ++ (crc_of bits ++ more)) × ButHeld s ran.state × Written address bytes [] (held_of s) (held_of ran.state)
  -- one that ends before the page's last byte is whole
  pub write_part : {s : State} → Fit s → Chosen s → (address : ℕ) (bytes : List ℕ) (broken : List Bool) → address < 65536 → AreBytes bytes →
      address % 32 + length bytes < 32 → length broken < 8 →
      let bits = head_of 0x0F address ++ (slots bytes ++ broken) in
      ((sent s bits).line ≡ bits) × ButHeld s (sent s bits).state × Written address bytes broken (held_of s) (held_of (sent s bits).state)
  -- and before "both address bytes in"
  pub write_begun : {s : State} → Fit s → Chosen s → (bits : List Bool) → length bits < 16 → Nothing s (low 8 0x0F ++ bits)
  -- "AAh Read Scratchpad: sends TA1, TA2, E/S, data from the offset to 1Fh, CRC-16 over command and all sent"
  pub read_scratchpad : {s : State} → Fit s → Chosen s → (more : List Bool) →
      let held = held_of s in
      let bits = low 8 0xAA ++ (low 16 held.ta ++ (status_of held ++ slots (drop (held.ta % 32) held.pad))) in
      let ran = sent s (low 8 0xAA ++ (released ((37 - held.ta % 32) * 8) ++ more)) in
      (ran.line ≡ bits ++ (crc_of bits ++ more)) × Kept s ran.state
  -- "99h Copy: TA1, TA2, E/S, eight password bytes"
  pub copy : {s : State} → Fit s → Chosen s → (address : ℕ) (status : List Bool) (field n : ℕ) → field < 2 ^ 64 →
      Copies s address status field →
      let bits = head_of 0x99 address ++ (status ++ low 64 field) in
      let ran = sent s (bits ++ released (n * 2)) in
      (ran.line ≡ bits ++ zero_ones n) × Stored address (held_of s).pad s.image ran.state.image
      × Beside s.tag.counters s ran.state × WithAA (held_of s) (held_of ran.state)
  pub no_copy : {s : State} → Fit s → Chosen s → (address : ℕ) (status : List Bool) (field : ℕ) (more : List Bool) →
      address < 65536 → length status ≡ 8 → field < 2 ^ 64 → (Copies s address status field → ⊥) →
      Nothing s (head_of 0x99 address ++ (status ++ (low 64 field ++ more)))

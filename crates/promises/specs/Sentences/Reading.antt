-- Document 01, "Memory commands": Read Memory. `reading` in Commands/Proof.antt proves it. Assumes nothing.
use Rattle.std.specs.Prelude.{Bool, true, List, [], ◌∷◌, ◌++◌, map, ◌⊎◌, ◌≡◌, ℕ, zero, suc, ◌+◌, ◌-◌, ◌*◌, ◌/◌, ◌%◌, ◌^◌, ◌≤◌, ◌<◌}
use Rattle.promises.specs.Ranges.{Fit}
use Rattle.promises.specs.Runs.{State, Event, after, line_bit, run, Kept}
use Rattle.promises.specs.Sentences.Commands.{sent, Nothing, crc_of, head_of, PassesRead}
use Rattle.promises.specs.Sentences.Memory.{sent_at, sent_from}
use Rattle.promises.specs.Words.{low, slots, released, Chosen}

-- ---- 69h Read Memory

-- "data to the page's end and CRC-16 over command, address, data"; "then each next page and CRC-16 over its data alone": what is on the line
-- of n bytes from an address on, and of n pages
abbrev pub page : State → List Bool → ℕ → ℕ → List Bool
page s before address count =
    let bits = slots (sent_from s.image s.tag.code address count) in
    bits ++ crc_of (before ++ bits)

unfoldable pub pages : State → ℕ → ℕ → List Bool
pages s address zero = []
pages s address (suc n) = page s [] address 32 ++ pages s (address + 32) n

-- n slots with the line released, and ticks between them
unfoldable pub Reads : ℕ → List Event → Type 0
Reads zero [] = Unit {0}
Reads (suc n) [] = ⊥
Reads zero (Event.slot b ∷ es) = ⊥
Reads (suc n) (Event.slot b ∷ es) = (b ≡ true) × Reads n es
Reads n (Event.tick reading ∷ es) = Reads n es
Reads n (Event.reset ∷ es) = ⊥
Reads n (Event.short ∷ es) = ⊥

-- the bits of the slots among some events
unfoldable pub slot_line : State → List Event → List Bool
slot_line s [] = []
slot_line s (Event.slot b ∷ es) = line_bit s (Event.slot b) ∷ slot_line (after s (Event.slot b)) es
slot_line s (Event.tick reading ∷ es) = slot_line (after s (Event.tick reading)) es
slot_line s (Event.reset ∷ es) = slot_line (after s Event.reset) es
slot_line s (Event.short ∷ es) = slot_line (after s Event.short) es

-- ---- the sentences

pub record Reading : Type 0 where
  -- "69h Read Memory: TA1, TA2, eight password bytes, read or full", and "up to 2FFFh": n pages after the first
  pub read : {s : State} → Fit s → Chosen s → (address field n : ℕ) → field < 2 ^ 64 → PassesRead s field →
      address / 32 * 32 + 32 * n < 0x3000 →
      let head = head_of 0x69 address in
      let count = 32 - address % 32 in
      let ran = sent s (head ++ (low 64 field ++ released ((count + 2) * 8 + n * 272))) in
      (ran.line ≡ head ++ (low 64 field ++ (page s head address count ++ pages s (address / 32 * 32 + 32) n))) × Kept s ran.state
  -- behind the last page, 2FE0h to 2FFFh, 1s
  pub read_on_lem : {s : State} → Fit s → Chosen s → (address field n : ℕ) (more : List Bool) → field < 2 ^ 64 → PassesRead s field →
      address / 32 * 32 + 32 * n ≡ 0x2FE0 →
      let bits = head_of 0x69 address ++ (low 64 field ++ released ((34 - address % 32) * 8 + n * 272)) in
      ((sent s (bits ++ more)).line ≡ (sent s bits).line ++ more) × Kept s (sent s (bits ++ more)).state
  -- "Wrong password or address 3000h and above: 1s"
  pub no_read : {s : State} → Fit s → Chosen s → (address field : ℕ) (more : List Bool) → address < 65536 → field < 2 ^ 64 →
      ((PassesRead s field → ⊥) ⊎ (0x3000 ≤ address)) → Nothing s (head_of 0x69 address ++ (low 64 field ++ more))
  -- "A byte is taken at its first slot": a tag that has sent k bytes of a page, and then heard some ticks, sends the next byte as the image
  -- has it now, whatever ticks come between its slots
  pub taken : {s : State} → Fit s → Chosen s → (address field k : ℕ) → field < 2 ^ 64 → PassesRead s field → address < 0x3000 →
      address % 32 + k < 32 → (readings : List ℕ) (es : List Event) → Reads 7 es →
      let there = (run (sent s (head_of 0x69 address ++ (low 64 field ++ released (k * 8)))).state (map Event.tick readings)).state in
      slot_line there (Event.slot true ∷ es) ≡ low 8 (sent_at there.image s.tag.code (address + k))

-- Document 01, "Memory commands": the words that its sentences share. A command is said from a tag that is fit and chosen, however it was chosen
-- (`Sentences.Choosing`), and its slots come one after the other; what ticks between them do is in `Sentences.Slots`. "After what is named below,
-- and after any other command byte, 1s until reset": so `more` are any slots. The sentences are in Scratchpad, Reading, Controlling and Slots.
-- Assumes nothing.
use Rattle.std.specs.Prelude.{Bool, not, List, ◌++◌, map, ◌⊎◌, ◌≡◌, ℕ, ◌<◌, get_or}
use Rattle.promises.specs.Runs.{State, Event, Ran, run, Kept}
use Rattle.promises.specs.Words.{low, crc16, byte_at, word_at}
pub mod Sent
pub mod Passwords
pub mod Writing
pub mod Copying
pub mod Reading
pub mod Controlling
pub mod Taken
pub mod Cases
pub mod Loading
pub mod Alike
pub mod Proof

-- the slots with these bits of the master, one after the other
abbrev pub sent : State → List Bool → Ran
sent s bits = run s (map Event.slot bits)

-- nothing is done: the line is the master's, and nothing changes but the bus state (nor mark or speed: `Choosing.same_mode`)
abbrev pub Nothing : State → List Bool → Type 0
Nothing s bits = ((sent s bits).line ≡ bits) × Kept s (sent s bits).state

-- a list of bytes
abbrev pub AreBytes : List ℕ → Type 0
AreBytes bytes = (i : ℕ) → get_or bytes i 0 < 256

-- "sent inverted, low byte first": after these bits
abbrev pub crc_of : List Bool → List Bool
crc_of bits = map not (crc16 bits)

-- a command byte, TA1 and TA2
abbrev pub head_of : ℕ → ℕ → List Bool
head_of byte address = low 8 byte ++ low 16 address

-- ---- passwords

-- "With 0227h equal to AAh passwords are checked, else any eight bytes pass": the full one is at 0230h, the read one at 0228h
abbrev pub PassesFull : State → ℕ → Type 0
PassesFull s field = byte_at s.image 0x0227 ≡ 0xAA → field ≡ word_at s.image 0x0230 8

abbrev pub PassesRead : State → ℕ → Type 0
PassesRead s field = byte_at s.image 0x0227 ≡ 0xAA → (field ≡ word_at s.image 0x0228 8) ⊎ (field ≡ word_at s.image 0x0230 8)

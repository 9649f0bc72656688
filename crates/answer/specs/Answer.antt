-- The numbers of the answers (document 01, the table of "Events and what they return"; 13 and 14 are request #106's, 17 is #101's), and what
-- a refusal prints ("What is built"). Assumes nothing.
use Rattle.std.specs.Prelude.{List, [], ◌∷◌, ℕ, ◌+◌, ◌/◌, ◌%◌, Result, Ok, Err}
use Rattle.answer.specs.declared.Refusal.{Refusal}
use Rattle.answer.specs.declared.Refusal.TheVariants.{EventCode, Reading, ImageLength, RomNumber, Configuration, RecordRange, DumpForm, LineCrc, LinePage, Cleared, Counts, Places, SameNumber, TagPlace, Replies}
pub mod Laws

-- what a call answers: accepted, or a refusal
abbrev pub Answer : Type 0
Answer = Result Unit Refusal

abbrev pub refusal_number : Refusal → ℕ
refusal_number EventCode = 1
refusal_number Reading = 2
refusal_number ImageLength = 3
refusal_number RomNumber = 4
refusal_number Configuration = 5
refusal_number RecordRange = 6
refusal_number DumpForm = 7
refusal_number LineCrc = 8
refusal_number LinePage = 9
refusal_number Cleared = 10
refusal_number Counts = 11
refusal_number Places = 12
refusal_number SameNumber = 13
refusal_number TagPlace = 14
refusal_number Replies = 17

abbrev pub answer_number : Answer → ℕ
answer_number (Ok accepted) = 0
answer_number (Err refusal) = refusal_number refusal

-- "R, the number in two decimal digits, a line feed"
unfoldable pub refusal_text : ℕ → List ℕ
refusal_text number = 0x52 ∷ (0x30 + number / 10) ∷ (0x30 + number % 10) ∷ 0x0A ∷ []

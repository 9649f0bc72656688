-- The calls of the library for C that go to several tags on one line (request #106), by `new_line` and `line_step`, through the bytes of
-- their records: what each answers, and what it leaves in the bytes that it is lent. Assumes nothing.
use Rattle.std.specs.Prelude.{true, false, ◌||◌, List, ◌≡◌, ℕ, eqb, length, if◌then◌else◌, Err}
use Rattle.answer.specs.Answer.{answer_number}
use Rattle.answer.specs.declared.Refusal.{Refusal}
use Rattle.bits.specs.Bits.{digit}
use Rattle.board.specs.declared.Board.{Board}
use Rattle.board.specs.Board.{Left, judged_by, line_step, new_judged, new_line}
use Rattle.rack.specs.Rack.{has_room, is_rack, board_in, same_held, rack_of, AllFit}
pub mod Laws

-- ---- a new line

pub record NewLine : Type 0 where
  pub number : ℕ
  pub block : List ℕ
  pub records : List ℕ

-- as many of its records as were asked for: "Records past the count, and all of a refused line, are those of all zeros"
abbrev pub asked : ℕ → Left → Board
asked count left = record { tags = left.shown.board.tags; count = count }

abbrev pub line_made : ℕ → Left → NewLine
line_made count left =
    record { number = answer_number left.shown.answer; block = left.block; records = rack_of (asked count left) }

-- "14, 3, 13, then place by place 4, 5": 6 for the records' length stands before 4, as it does for a single tag
unfoldable pub short_number : ℕ → ℕ
short_number number = if eqb number 0 || (eqb number 4 || eqb number 5) then answer_number (Err Refusal.RecordRange) else number

unfoldable pub new_line_call : List ℕ → List ℕ → List ℕ → List ℕ → NewLine
new_line_call block records numbers codes =
    if has_room (length records) (length numbers) then line_made (length numbers) (new_line block numbers codes)
    else record { number = short_number (answer_number (new_judged (length block) numbers codes)); block = block; records = records }

-- the records that it leaves fit their bytes
abbrev pub NewLineFits : List ℕ → List ℕ → List ℕ → List ℕ → Type 0
NewLineFits block records numbers codes =
    has_room (length records) (length numbers) ≡ true → AllFit (asked (length numbers) (new_line block numbers codes))

-- ---- an event

pub record LineEvent : Type 0 where
  pub number : ℕ
  pub block : List ℕ
  pub records : List ℕ
  pub line : ℕ

-- "a refusal changes no tag"
abbrev pub line_stepped : List ℕ → Left → LineEvent
line_stepped records left =
    record {
      number = answer_number left.shown.answer;
      block = left.block;
      records = if eqb (answer_number left.shown.answer) 0 then rack_of left.shown.board else records;
      line = digit left.shown.line;
    }

-- bytes that are no line's records are 6, in 6's place of the order: 13 comes before it, and "compares the numbers as they are"
unfoldable pub line_call : List ℕ → List ℕ → ℕ → ℕ → ℕ → ℕ → LineEvent
line_call block records count code place reading =
    if is_rack records count then line_stepped records (line_step block (board_in records count) code place reading)
    else
    record {
      number = answer_number (judged_by count (length block) (same_held records count) false code place reading);
      block = block;
      records = records;
      line = 1;
    }

-- the records that it leaves fit their bytes
abbrev pub LineFits : List ℕ → List ℕ → ℕ → ℕ → ℕ → ℕ → Type 0
LineFits block records count code place reading =
    is_rack records count ≡ true → (line_call block records count code place reading).number ≡ 0 →
    AllFit (line_step block (board_in records count) code place reading).shown.board

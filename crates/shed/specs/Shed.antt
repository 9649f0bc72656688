-- What the playing program for a line of several tags prints and leaves (request #106). Assumes nothing.
use Rattle.std.specs.Prelude.{List, ℕ, get_or}
use Rattle.answer.specs.Answer.{answer_number}
use Rattle.board.specs.declared.Board.{Board}
use Rattle.board.specs.Board.{Left, line_step}
use Rattle.console.specs.Console.{Reply, Session, played, groups_in, reading_of}
pub mod Laws

-- an event: code, place, reading high, low
unfoldable pub reply_of : List ℕ → Board → List ℕ → Reply Board
reply_of block board group =
    let l : Left = line_step block board (get_or group 0 0) (get_or group 1 0) (reading_of (get_or group 2 0) (get_or group 3 0)) in
    record { number = answer_number l.shown.answer; line = l.shown.line; back = l.shown.board; lent = l.block }

-- the events of the input, four bytes each; a short last group is dropped
abbrev pub session_of : List ℕ → Board → List ℕ → Session Board
session_of block board input = played reply_of block board (groups_in 4 input)

-- The law of an event of the playing program for a line. Assumes nothing.
use Rattle.std.specs.Prelude.{List, ◌≡◌, ℕ, ◌+◌, get_or, take, drop}
use Rattle.std.proofs.Common.{add-zero, arith}
use Rattle.answer.specs.Answer.{answer_number}
use Rattle.board.specs.declared.Board.{Board}
use Rattle.board.specs.declared.Shown.{Shown}
use Rattle.board.specs.Board.{line_step}
use Rattle.console.specs.Console.{reading_of}
use Rattle.console.proofs.Console.Laws.{group_byte}
use Rattle.shed.specs.Shed.{reply_of}

-- what the code learns of an event is its reply
pub reply_at : (block : List ℕ) (board : Board) (input : List ℕ) (i : ℕ) →
    (reading : ℕ) → reading ≡ reading_of (get_or input (i + 2) 0) (get_or input (i + 3) 0) →
    (shown : Shown) → shown ≡ (line_step block board (get_or input i 0) (get_or input (i + 1) 0) reading).shown →
    (block' : List ℕ) → block' ≡ (line_step block board (get_or input i 0) (get_or input (i + 1) 0) reading).block →
    (number : ℕ) → number ≡ answer_number shown.answer →
    record { number = number; line = shown.line; back = shown.board; lent = block' } ≡ reply_of block board (take 4 (drop i input))
unfolding reply_of
reply_at block board input i reading r shown s block' m number n =
    rw (
      n,
      s,
      m,
      r,
      group_byte 4 input i 0 (omega arith),
      group_byte 4 input i 1 (omega arith),
      group_byte 4 input i 2 (omega arith),
      group_byte 4 input i 3 (omega arith),
      add-zero,
    )

-- What the playing program prints and leaves (document 01, "What is built"). Assumes nothing.
use Rattle.std.specs.Prelude.{List, ℕ, get_or}
use Rattle.answer.specs.Answer.{answer_number}
use Rattle.console.specs.Console.{Reply, Session, played, groups_in, reading_of}
use Rattle.record.specs.declared.Tag.{Tag}
use Rattle.record.specs.Record.{Outcome}
use Rattle.tag.specs.Tag.{step}
pub mod Laws

-- an event of "three bytes .. (code, reading high, low ..)"
unfoldable pub reply_of : List ℕ → Tag → List ℕ → Reply Tag
reply_of image tag group =
    let o : Outcome = step image tag (get_or group 0 0) (reading_of (get_or group 1 0) (get_or group 2 0)) in
    record { number = answer_number o.answered.answer; line = o.answered.line; back = o.answered.tag; lent = o.image }

-- the events of the input; "a short last group is dropped"
abbrev pub session_of : List ℕ → Tag → List ℕ → Session Tag
session_of image tag input = played reply_of image tag (groups_in 3 input)

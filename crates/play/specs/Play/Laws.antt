-- The law of an event of the playing program. Assumes nothing.
use Rattle.std.specs.Prelude.{List, ◌≡◌, ℕ, ◌+◌, get_or, take, drop}
use Rattle.std.proofs.Common.{add-zero, arith}
use Rattle.answer.specs.Answer.{answer_number}
use Rattle.console.specs.Console.{reading_of}
use Rattle.console.proofs.Console.Laws.{group_byte}
use Rattle.record.specs.declared.Answered.{Answered}
use Rattle.record.specs.declared.Tag.{Tag}
use Rattle.tag.specs.Tag.{step}
use Rattle.play.specs.Play.{reply_of}

-- what the code learns of an event is its reply
pub reply_at : (image : List ℕ) (tag : Tag) (input : List ℕ) (i : ℕ) →
    (reading : ℕ) → reading ≡ reading_of (get_or input (i + 1) 0) (get_or input (i + 2) 0) →
    (answered : Answered) → answered ≡ (step image tag (get_or input i 0) reading).answered →
    (image' : List ℕ) → image' ≡ (step image tag (get_or input i 0) reading).image →
    (number : ℕ) → number ≡ answer_number answered.answer →
    record { number = number; line = answered.line; back = answered.tag; lent = image' } ≡ reply_of image tag (take 3 (drop i input))
unfolding reply_of
reply_at image tag input i reading r answered a image' m number n =
    rw (n, a, m, r, group_byte 3 input i 0 (omega arith), group_byte 3 input i 1 (omega arith), group_byte 3 input i 2 (omega arith), add-zero)

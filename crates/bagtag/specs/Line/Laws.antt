-- Which way a call to a line goes, what its number is, and what a refusal leaves. Assumes nothing.
use Rattle.std.specs.Prelude.{◌≡◌, ◌&&◌, List, ◌≢◌, ℕ, eqb, length, if◌then◌else◌}
use Rattle.std.proofs.Math.Path.{refl, ap}
use Rattle.std.proofs.Common.{sym, ◌∙◌}
use Rattle.std.proofs.Math.Bool.{Bool, true, false}
use Rattle.std.proofs.Math.Logic.{dite}
use Rattle.std.proofs.Math.Decide.{ℕ_discrete}
use borrow.Author.Tests.{eqb-true, eq-eqb, ne_eqb}
use Rattle.answer.specs.Answer.{answer_number}
use Rattle.answer.specs.Answer.Laws.{accepted_is}
use Rattle.bits.specs.Bits.{digit}
use Rattle.bits.specs.Choose.{either, choice}
use Rattle.bits.specs.Each.{each}
use Rattle.board.specs.declared.Board.{Board}
use Rattle.board.specs.Board.{tag_at, is_count, Left, judged_by, judged, line_step, new_judged, empty_board, new_line}
use Rattle.board.proofs.Visits.{line_stays}
use Rattle.board.specs.Board.Laws.{passed, judged_by_lem, line_answer}
use Rattle.rack.specs.Rack.{has_room, is_rack, board_in, same_held, rack_of}
use Rattle.rack.specs.Rack.Back.{same_racked}
use Rattle.record.specs.declared.Tag.{Tag}
use Rattle.record.specs.Record.{tag_in_range}
use Rattle.bagtag.specs.Line.{NewLine, line_made, short_number, new_line_call, line_call}

-- ---- a new line

module _ (block records numbers codes : List ℕ) where
  pub new_made : has_room (length records) (length numbers) ≡ true →
      new_line_call block records numbers codes ≡ line_made (length numbers) (new_line block numbers codes)
  unfolding new_line_call
  new_made room = rw room

  pub new_short : has_room (length records) (length numbers) ≡ false →
      new_line_call block records numbers codes
      ≡ record { number = short_number (answer_number (new_judged (length block) numbers codes)); block = block; records = records }
  unfolding new_line_call
  new_short none = rw none

-- the answer of a new line is what is judged
new_answer_lem : (block numbers codes : List ℕ) → (new_line block numbers codes).shown.answer ≡ new_judged (length block) numbers codes
unfolding new_line
new_answer_lem block numbers codes =
    either (λ (left : Left). left.shown.answer ≡ new_judged (length block) numbers codes)
    (eqb (answer_number (new_judged (length block) numbers codes)) 0) (λ e. sym (accepted_is _ (eqb-true _ 0 e))) (λ e. refl)

-- one that is refused leaves the block, and has no records but those of all zeros
new_zeros : (block numbers codes : List ℕ) → answer_number (new_line block numbers codes).shown.answer ≢ 0 →
    ((new_line block numbers codes).block ≡ block) × ((new_line block numbers codes).shown.board.tags ≡ (empty_board 0).tags)
unfolding new_line
new_zeros block numbers codes =
    choice
    (λ (left : Left). answer_number left.shown.answer ≢ 0 → (left.block ≡ block) × (left.shown.board.tags ≡ (empty_board 0).tags))
    (eqb (answer_number (new_judged (length block) numbers codes)) 0) (λ fault. absurd (fault refl)) (λ fault. (refl, refl))

module _ (block records numbers codes : List ℕ) where
  pub new_number_lem : (new_line_call block records numbers codes).number
      ≡ (if has_room (length records) (length numbers) then answer_number (new_judged (length block) numbers codes)
      else short_number (answer_number (new_judged (length block) numbers codes)))
  unfolding new_line_call
  new_number_lem = by (has_room (length records) (length numbers))
    where
      by : (room : Bool) →
          (if room then line_made (length numbers) (new_line block numbers codes)
          else record { number = short_number (answer_number (new_judged (length block) numbers codes)); block = block; records = records }).number
          ≡ (if room then answer_number (new_judged (length block) numbers codes) else short_number (answer_number (new_judged (length block) numbers codes)))
      by true = ap answer_number (new_answer_lem block numbers codes)
      by false = refl

  pub new_refused : (new_line_call block records numbers codes).number ≢ 0 →
      ((new_line_call block records numbers codes).block ≡ block)
      × ((new_line_call block records numbers codes).records
      ≡ (if has_room (length records) (length numbers) then rack_of (empty_board (length numbers)) else records))
  unfolding new_line_call empty_board
  new_refused = by (has_room (length records) (length numbers))
    where
      call : Bool → NewLine
      call room =
          if room then line_made (length numbers) (new_line block numbers codes)
          else record { number = short_number (answer_number (new_judged (length block) numbers codes)); block = block; records = records }

      by : (room : Bool) → (call room).number ≢ 0 →
          ((call room).block ≡ block) × ((call room).records ≡ (if room then rack_of (empty_board (length numbers)) else records))
      by true fault =
          let left = new_zeros block numbers codes fault in
          (left.0, ap (λ (tags : List Tag). rack_of (record { tags = tags; count = length numbers })) left.1)
      by false fault = (refl, refl)

-- ---- an event

-- a refusal leaves the block, and the line high
refused_left : (block : List ℕ) (board : Board) (code place reading : ℕ) →
    answer_number (line_step block board code place reading).shown.answer ≢ 0 →
    ((line_step block board code place reading).block ≡ block) × ((line_step block board code place reading).shown.line ≡ true)
unfolding line_step
refused_left block board code place reading =
    choice (λ (left : Left). answer_number left.shown.answer ≢ 0 → (left.block ≡ block) × (left.shown.line ≡ true))
    (eqb (answer_number (judged (length block) board code place reading)) 0) (λ fault. absurd (fault refl)) (λ fault. (refl, refl))

module _ (block records : List ℕ) (count code place reading : ℕ) where
  abbrev step : Left
  step = line_step block (board_in records count) code place reading

  pub line_done : is_rack records count ≡ true → answer_number step.shown.answer ≡ 0 →
      line_call block records count code place reading
      ≡ record {
        number = answer_number step.shown.answer;
        block = step.block;
        records = rack_of step.shown.board;
        line = digit step.shown.line;
      }
  unfolding line_call
  line_done own none = rw (own, eq-eqb _ 0 none)

  pub line_refused : is_rack records count ≡ true → answer_number step.shown.answer ≢ 0 →
      line_call block records count code place reading
      ≡ record { number = answer_number step.shown.answer; block = step.block; records = records; line = 1 }
  unfolding line_call
  line_refused own fault = rw (own, ne_eqb _ 0 fault, (refused_left block (board_in records count) code place reading fault).1)

  -- it has as many tags as it had, and a line can have so many
  pub done_counted : answer_number step.shown.answer ≡ 0 → (is_count step.shown.board.count ≡ true) × (step.shown.board.count ≡ count)
  unfolding board_in judged
  done_counted none =
      let board = board_in records count in
      let same = (line_stays block board code place reading).count in
      let p = passed count (length block) _ _ code place reading (sym (ap answer_number (line_answer block board code place reading)) ∙ none) in
      (rw same p.few, same)

  pub line_judged : is_rack records count ≡ false →
      line_call block records count code place reading
      ≡ record {
        number = answer_number (judged_by count (length block) (same_held records count) false code place reading);
        block = block;
        records = records;
        line = 1;
      }
  unfolding line_call
  line_judged bad = rw bad

  -- the records are good if they are a line's, and keep to their ranges
  pub line_number_lem : (line_call block records count code place reading).number
      ≡ answer_number
      (judged_by count (length block) (same_held records count) (is_rack records count && each count (λ i. tag_in_range (tag_at (board_in records count) i)))
      code place reading)
  unfolding line_call board_in
  line_number_lem = by (is_rack records count) refl
    where
      board : Board
      board = board_in records count

      ranged : Bool
      ranged = each count (λ i. tag_in_range (tag_at board i))

      by : (b : Bool) → is_rack records count ≡ b →
          (line_call block records count code place reading).number
          ≡ answer_number (judged_by count (length block) (same_held records count) (b && ranged) code place reading)
      by true own =
          rw own
          (ap answer_number
          (line_answer block board code place reading
          ∙ sym (judged_by_lem (length block) board (same_held records count) ranged code place reading (λ few. (same_racked records count own few, refl)))))
      by false bad = rw bad

  pub line_left : (line_call block records count code place reading).number ≢ 0 →
      ((line_call block records count code place reading).block ≡ block) × ((line_call block records count code place reading).records ≡ records)
      × ((line_call block records count code place reading).line ≡ 1)
  line_left = by (is_rack records count) refl
    where
      by : (b : Bool) → is_rack records count ≡ b → (line_call block records count code place reading).number ≢ 0 →
          ((line_call block records count code place reading).block ≡ block) × ((line_call block records count code place reading).records ≡ records)
          × ((line_call block records count code place reading).line ≡ 1)
      by true own fault =
          dite (ℕ_discrete (answer_number step.shown.answer) 0)
          (λ none. absurd (fault (rw (line_done own none) none)))
          (λ some. rw (line_refused own some) ((refused_left block (board_in records count) code place reading some).0, refl, refl))
      by false bad fault = rw (line_judged bad) (refl, refl, refl)

-- `bagtag::line::bagtag_line_event` meets its contract: what the check does not find alone is the line's bit of a refused event, and that
-- the records of one that is done fill the bytes that they are packed into. Assumes nothing.
use Rattle.std.proofs.Common.{◌≡◌, ℕ, ◌*◌, true, sym, ap, ◌∙◌, rules}
use Rattle.answer.specs.Answer.{answer_number}
use Rattle.board.specs.Board.{line_step}
use Rattle.board.specs.Board.Laws.{accepts, refuses}
use Rattle.board.specs.declared.Shown.{Shown}
use Rattle.rack.specs.Rack.{is_rack, board_in, AllFit}
use Rattle.rack.specs.Rack.Back.{fills}
use Rattle.rack.specs.Rack.Laws.{racked}
use Rattle.bagtag.specs.Line.Laws.{line_done, line_refused, done_counted}
use Rattle.bagtag.proofs.line.bagtag_line_event.Goals as goal
use Rattle.bagtag.proofs.line.bagtag_line_event.Goals.{then-is_ok, else-is_ok}

pub returns-clause-records_after : goal.returns-clause-records_after
returns-clause-records_after c =
    let a = c.args in
    let own : is_rack a.records.now a.count ≡ true = search rules in
    let shown : c.event-shown.result ≡ (line_step a.block.now (board_in a.records.now a.count) a.code a.place a.reading).shown =
    rw (← c.unpack.ensures) c.event-shown.ensures.value in
    let number = ap (λ (s : Shown). answer_number s.answer) shown in
    elim c.if-is_ok.branch [
      | then-is_ok w ↦
          let zero = sym number ∙ accepts c.event-shown.result.answer c.is_ok.ensures.value w.if-is_ok.true in
          let board = ap (λ (s : Shown). s.board) shown in
          let fit : AllFit (line_step a.block.now (board_in a.records.now a.count) a.code a.place a.reading).shown.board =
          rw (← board) w.pack.ensures.all_fit in
          let counted = done_counted a.block.now a.records.now a.count a.code a.place a.reading zero in
          rw (w.records-is, line_done a.block.now a.records.now a.count a.code a.place a.reading own zero, w.pack.ensures.records_after, board)
          (fills _ counted.0 fit a.records.now ((racked _ _ own).size ∙ ap (λ (n : ℕ). n * 80) (sym counted.1)))
      | else-is_ok w ↦
          rw (
            w.records-is,
            line_refused a.block.now a.records.now a.count a.code a.place a.reading own
                (λ zero. refuses c.event-shown.result.answer c.is_ok.ensures.value w.if-is_ok.false (number ∙ zero)),
          )
    ]

pub returns-clause-line_after : goal.returns-clause-line_after
returns-clause-line_after c =
    let a = c.args in
    let own : is_rack a.records.now a.count ≡ true = search rules in
    let shown : c.event-shown.result ≡ (line_step a.block.now (board_in a.records.now a.count) a.code a.place a.reading).shown =
    rw (← c.unpack.ensures) c.event-shown.ensures.value in
    let number = ap (λ (s : Shown). answer_number s.answer) shown in
    elim c.if-is_ok.branch [
      | then-is_ok w ↦
          let zero = sym number ∙ accepts c.event-shown.result.answer c.is_ok.ensures.value w.if-is_ok.true in
          rw (w.line-is, line_done a.block.now a.records.now a.count a.code a.place a.reading own zero, w.digit.ensures, shown)
      | else-is_ok w ↦
          rw (
            w.line-is,
            line_refused a.block.now a.records.now a.count a.code a.place a.reading own
                (λ zero. refuses c.event-shown.result.answer c.is_ok.ensures.value w.if-is_ok.false (number ∙ zero)),
          )
    ]

-- `dump::read` meets its contract: the first line that is refused answers for the dump, and each line before it has stored its data.
-- Assumes nothing.
use Rattle.std.proofs.Common.{ℕ, ◌≡◌, Ok, Err, ◌+◌, ◌-◌, ◌*◌, List, take, drop, refl, sym, ap, ◌∙◌, arith}
use Rattle.std.proofs.Math.Seq.{length-sets}
use Rattle.std.proofs.lemmas.Result.{err_from_is_err_and}
use Rattle.answer.specs.declared.Refusal.{Refusal}
use Rattle.answer.specs.Answer.Laws.{refusal_counts}
use Rattle.answer.specs.Answer.{answer_number}
use Rattle.bits.specs.Stores.{sets_whole}
use Rattle.dump.specs.Lines.{page_of, line_at, bytes_in, data_in, data_lines}
use Rattle.dump.specs.Lines.Memory.{length_data_lines, store_line}
use Rattle.dump.specs.Check.{check_text, check_line, check_of, read_text}
use Rattle.dump.specs.Check.Laws.{first_refused, first_accepted, lines_more, lines_none, check_length, check_lines_lem, and_refused, and_accepted, read_refused, read_accepted}
use Rattle.dump.proofs.read.Goals as goal

pub returns-then-dump-ne-LENGTH : goal.returns-then-dump-ne-LENGTH
returns-then-dump-ne-LENGTH c = sym (read_refused c.args.dump.now (check_length c.args.dump.now c.if-dump-ne-LENGTH.true))

pub loop-line-init : goal.loop-line-init
loop-line-init c =
    let dump = c.args.dump.now in
    (refl, refl, sets_whole _ (data_lines dump 0 258) (length_data_lines dump 0 258))

-- ---- a line that was read

-- its text, cut out by its two ends
cut : (dump : List ℕ) (line : ℕ) → take (73 * line + 73 - 73 * line) (drop (73 * line) dump) ≡ line_at dump line
unfolding line_at
cut dump line = let long : 73 * line + 73 - 73 * line ≡ 73 = omega arith in rw long

module _ (dump : List ℕ) (line : ℕ) {page : ℕ} (asked : page ≡ page_of line) where
  -- a refused one
  line_refused : {refusal : Refusal} → Err refusal ≡ read_text (take (73 * line + 73 - 73 * line) (drop (73 * line) dump)) page
      → check_line dump line ≡ Err refusal
  unfolding check_line read_text
  line_refused e = and_refused (check_text (line_at dump line) (page_of line)) _ (rw (cut dump line, asked) at (sym e))

  -- an accepted one, and its data
  line_accepted : {bytes : List ℕ} → Ok bytes ≡ read_text (take (73 * line + 73 - 73 * line) (drop (73 * line) dump)) page
      → (check_line dump line ≡ Ok tt) × (bytes ≡ data_in (bytes_in (line_at dump line)))
  unfolding check_line read_text
  line_accepted e = and_accepted (check_text (line_at dump line) (page_of line)) _ (rw (cut dump line, asked) at (sym e))

-- ---- the answers

pub returns-in_err-data : goal.returns-in_err-data
returns-in_err-data c =
    let dump = c.args.dump.now in
    let turn = c.loop-line in
    let here = check_line dump turn.line in
    let refused = line_refused dump turn.line c.page_of.ensures c.in_err-data.ensures in
    let whole : check_of dump ≡ here =
    check_lines_lem dump c.if-dump-ne-LENGTH.false
    ∙ sym turn.invariant.0
    ∙ lines_more dump turn.line (258 - turn.line) (omega arith)
    ∙ first_refused here _ (λ e. omega (arith, refusal_counts c.in_err-data.field-0.0, ap answer_number refused, e)) in
    let error = err_from_is_err_and c.from_residual.result c.from_residual.ensures.1 in
    rw (error.1, error.2) (sym (read_refused dump (whole ∙ refused)))

pub loop-line-preserved : goal.loop-line-preserved
loop-line-preserved c =
    let dump = c.args.dump.now in
    let turn = c.loop-line in
    let here = check_line dump turn.line in
    let read = line_accepted dump turn.line c.page_of.ensures c.in_ok-data.ensures in
    let less : 258 - (turn.line + 1) ≡ 258 - turn.line - 1 = omega arith in
    let all = lines_more dump turn.line (258 - turn.line) (omega arith) in (
      rw less (sym (first_accepted here _ (ap answer_number read.0)) ∙ sym all ∙ turn.invariant.0),
      rw c.put_bytes.ensures (length-sets turn.memory (32 * turn.line) c.in_ok-data.data ∙ turn.invariant.1),
      rw (c.put_bytes.ensures, read.1) (sym (store_line dump turn.memory turn.line c.loop-line-test.true) ∙ turn.invariant.2),
    )

pub returns : goal.returns
unfolding data_lines
returns c =
    let dump = c.args.dump.now in
    let end = c.loop-line in
    let none : 258 - end.line ≡ 0 = omega arith in
    let accepted : check_of dump ≡ Ok tt =
    check_lines_lem dump c.if-dump-ne-LENGTH.false ∙ sym end.invariant.0 ∙ lines_none dump end.line (258 - end.line) (omega arith) in
    ap (λ (memory : List ℕ). Ok memory) (rw none at end.invariant.2) ∙ sym (read_accepted dump accepted)

-- `console::play_groups` meets its contract: each turn plays a group, and what is printed is no longer than what is played.
use Rattle.std.specs.Prelude.{Ok, Err}
use Rattle.std.proofs.Common.{ap, arith}
use Rattle.console.proofs.Console.Laws.{Put, answer_length, playing_none, playing_one, playing_refused, playing_all}
use Rattle.console.proofs.play_groups.Goals as goal

pub loop-group-init : goal.loop-group-init
loop-group-init g c = playing_none g.P.Plays.reply g.row.N c.args.lent.now c.args.back.now c.args.input.now c.args.out.now

pub split_first_chunk-requires : goal.split_first_chunk-requires
split_first_chunk-requires g c = let n = g.met.P.Plays.sized.1 in omega (arith, n)

pub overflow_add-printed : goal.overflow_add-printed
overflow_add-printed g c =
    omega (
      arith,
      c.loop-group.invariant.short,
      g.met.P.Plays.sized.0,
      c.in-Some.ensures.cases.2,
      c.well_formed.1.1.0.1,
      c.put_answer-printed.ensures.value,
      answer_length (Ok c.in-Ok.line),
    )

pub overflow_add-printed-in-Err : goal.overflow_add-printed-in-Err
overflow_add-printed-in-Err g c =
    omega (
      arith,
      c.loop-group.invariant.short,
      g.met.P.Plays.sized.0,
      c.in-Some.ensures.cases.2,
      c.well_formed.1.1.0.1,
      c.put_answer-printed-in-Err.ensures.value,
      answer_length (Err c.from.result),
    )

pub loop-group-preserved : goal.loop-group-preserved
loop-group-preserved g c =
    playing_one g.P.Plays.reply g.row.N c.args.lent.now c.args.back.now c.args.input.now c.args.out.now g.met.P.Plays.sized.0 c.loop-group.invariant
    record {
      first = c.in-Some.ensures.cases;
      answers = c.in-Ok.ensures.answer;
      lent_after = c.in-Ok.ensures.lent_after;
      back_after = c.in-Ok.ensures.back_after;
      out_after = c.put_answer-printed.ensures.out_after;
      value = c.put_answer-printed.ensures.value;
    }

pub returns-in-Err : goal.returns-in-Err
returns-in-Err g c =
    let all =
    playing_refused g.P.Plays.reply g.row.N c.args.lent.now c.args.back.now c.args.input.now c.args.out.now g.met.P.Plays.sized.0 c.loop-group.invariant
    record {
      first = c.in-Some.ensures.cases;
      answers = c.in-Err.ensures.answer;
      lent_after = c.in-Err.ensures.lent_after;
      back_after = c.in-Err.ensures.back_after;
      out_after = rw c.from.ensures at c.put_answer-printed-in-Err.ensures.out_after;
      value = rw c.from.ensures at c.put_answer-printed-in-Err.ensures.value;
    } in
    rw (g.met.P.Plays.grouped c.args.lent.now c.args.back.now c.args.input.now)
    record {
      printed = ap (λ (p : Put g.row.P-Record.Denot). p.printed) all;
      accepted = ap (λ (p : Put g.row.P-Record.Denot). p.accepted) all;
      back_after = ap (λ (p : Put g.row.P-Record.Denot). p.back) all;
      lent_after = ap (λ (p : Put g.row.P-Record.Denot). p.lent) all;
      out_after = ap (λ (p : Put g.row.P-Record.Denot). p.out) all;
    }

pub returns : goal.returns
returns g c =
    let all =
    playing_all g.P.Plays.reply g.row.N c.args.lent.now c.args.back.now c.args.input.now c.args.out.now c.loop-group.invariant c.in_default.ensures.cases in
    rw (g.met.P.Plays.grouped c.args.lent.now c.args.back.now c.args.input.now)
    record {
      printed = ap (λ (p : Put g.row.P-Record.Denot). p.printed) all;
      accepted = ap (λ (p : Put g.row.P-Record.Denot). p.accepted) all;
      back_after = ap (λ (p : Put g.row.P-Record.Denot). p.back) all;
      lent_after = ap (λ (p : Put g.row.P-Record.Denot). p.lent) all;
      out_after = ap (λ (p : Put g.row.P-Record.Denot). p.out) all;
    }

-- `console::play` meets its contract: a turn plays more groups, and after a refusal there is none.
use Rattle.std.proofs.Common.{rules, sym, ◌∙◌, take}
use Rattle.console.proofs.Console.Laws.{reached_none, reached_more, leaves_more}
use Rattle.console.proofs.play.Goals as goal

pub loop-init : goal.loop-init
loop-init g c = reached_none g.P.Plays.reply c.args.lent.now c.args.back.now

pub returns-then-held-begun : goal.returns-then-held-begun
returns-then-held-begun g c =
    let e = c.play_groups-played.ensures in
    let grouped = g.met.P.Plays.grouped c.loop.lent c.loop.back (take c.read_behind-held.result c.read_behind-held.new.input) in
    leaves_more g.P.Plays.reply c.loop.invariant _ (rw grouped at e.lent_after) (rw grouped at e.back_after)

pub loop-preserved : goal.loop-preserved
loop-preserved g c =
    let e = c.play_groups-played.ensures in
    let grouped = g.met.P.Plays.grouped c.loop.lent c.loop.back (take c.read_behind-held.result c.read_behind-held.new.input) in
    reached_more g.P.Plays.reply c.loop.invariant _ (rw grouped at e.lent_after) (rw grouped at e.back_after)
    (sym (rw grouped at e.accepted) ∙ search rules)

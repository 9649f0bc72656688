-- `console::play_groups` meets its contract: what is left is to be played (`Playing`), and is what gets less.
use Rattle.std.proofs.Common.{length}
use Rattle.console.proofs.Console.Laws.{Playing}
use Rattle.console.proofs.play_groups.Given as goal

abbrev pub invariant-loop-group : goal.invariant-loop-group
invariant-loop-group g l =
    Playing g.P.Plays.reply g.row.N l.initial.lent l.initial.back l.input l.initial.out l.lent l.out l.back l.printed l.rest

abbrev pub decreases-loop-group : goal.decreases-loop-group
decreases-loop-group g l = length l.rest

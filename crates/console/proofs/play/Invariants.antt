-- `console::play` meets its contract: what is left so far is what the events that came leave, all of them accepted (`Reached`).
use Rattle.console.proofs.Console.Laws.{Reached}
use Rattle.console.proofs.play.Given as goal

abbrev pub invariant-loop : goal.invariant-loop
invariant-loop g l = Reached g.P.Plays.reply l.initial.lent l.initial.back l.lent l.back

-- `rack::whole` meets its contract. Assumes nothing.
use Rattle.std.proofs.Common.{arith}
use Rattle.board.specs.Board.Laws.{places_some}
use Rattle.rack.specs.Rack.{whole_in}
use Rattle.rack.proofs.whole.Goals as goal

pub returns : goal.returns
unfolding whole_in
returns c =
    omega (arith, c.min.ensures, c.from.ensures, c.places.ensures, c.min-few.ensures, places_some c.args.count)

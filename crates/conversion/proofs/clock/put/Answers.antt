-- `conversion::clock::put` meets its contract. Assumes nothing.
use Rattle.std.proofs.Common.{◌∙◌}
use Rattle.conversion.specs.Clock.{put_clock}
use Rattle.conversion.specs.Clock.Laws.{put_is_sets}
use Rattle.conversion.proofs.clock.put.Goals as goal

pub returns : goal.returns
unfolding put_clock
returns c = c.put_bytes.ensures ∙ put_is_sets _ _ _

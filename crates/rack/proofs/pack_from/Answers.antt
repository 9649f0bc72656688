-- `rack::pack_from` meets its contract. Assumes nothing.
use Rattle.packing.specs.Packing.{packed}
use Rattle.bits.specs.Stores.{sets_from}
use Rattle.rack.proofs.pack_from.Goals as goal

pub returns-clause-records_after : goal.returns-clause-records_after
returns-clause-records_after c =
    let a = c.args in
    rw c.pack.ensures.lent_after (sets_from a.records.now a.at _ c.min-from.ensures (packed a.tag))

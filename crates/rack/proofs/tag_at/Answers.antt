-- `rack::tag_at` meets its contract. Assumes nothing.
use Rattle.std.proofs.Common.{sym, ap, ◌∙◌, ℕ, ◌+◌, ◌*◌, arith}
use Rattle.std.specs.List.{slice_range}
use Rattle.packing.specs.Packing.{unpacked}
use Rattle.rack.specs.Rack.Laws.{part_is, none_there}
use Rattle.rack.proofs.tag_at.Goals as goal

pub returns-in-Some : goal.returns-in-Some
returns-in-Some c =
    let records = c.args.records.now in
    let part = c.in-Some.ensures.lookup.0.2 in
    c.unpack.ensures
    ∙ ap unpacked (part ∙ ap (λ (n : ℕ). slice_range records (n * 80) (n * 80 + 80)) c.from-from.ensures ∙ part_is records c.args.place)

pub returns-in-None : goal.returns-in-None
returns-in-None c = c.fresh.ensures ∙ sym (none_there _ _ (omega (arith, c.in-None.ensures.lookup.0)))

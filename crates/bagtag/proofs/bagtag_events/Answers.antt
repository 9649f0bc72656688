-- `bagtag::bagtag_events` meets its contract: what the check does not find alone is that the record fills the bytes that it is packed
-- into. Assumes nothing.
use Rattle.std.proofs.Common.{◌≡◌, true, rules}
use Rattle.packing.specs.Packing.{is_packed}
use Rattle.packing.specs.Packing.Laws.{own_of}
use Rattle.bagtag.specs.Bagtag.Laws.{events_done, fills}
use Rattle.bagtag.proofs.bagtag_events.Goals as goal

pub returns-clause-lent_after : goal.returns-clause-lent_after
returns-clause-lent_after c =
    let a = c.args in
    let good : is_packed a.lent.now ≡ true = search rules in
    let size = (own_of a.lent.now good).size in
    let e = events_done a.image.now a.lent.now a.words.now a.replies.now c.if-replies-words.false c.if-image-ne-IMAGE.false good in
    rw (e, ← c.unpack.ensures, ← c.events-left.ensures.value, c.pack.ensures.lent_after)
    (fills a.lent.now c.events-left.result.tag size c.pack.ensures.fits)

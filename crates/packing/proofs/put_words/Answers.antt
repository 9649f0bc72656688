-- `packing::put_words` meets its contract: seven stores, one behind the other. Assumes nothing.
use Rattle.std.proofs.Common.{sym, ◌∙◌}
use Rattle.packing.specs.Packing.{pairs, eights, words_of}
use Rattle.packing.specs.Packing.Fields.{low_le, stores, stores_sets}
use Rattle.packing.proofs.put_words.Goals as goal

pub returns-clause-lent_after : goal.returns-clause-lent_after
unfolding stores pairs eights words_of
returns-clause-lent_after c =
    let a = c.args in
    rw (
      c.put-7.ensures.lent_after,
      c.to_le_bytes-7.ensures ∙ sym (low_le 8 a.tag.exchange.bus.field),
      c.put-6.ensures.lent_after,
      c.to_le_bytes-6.ensures ∙ sym (low_le 8 a.tag.counters.wait),
      c.put-5.ensures.lent_after,
      c.to_le_bytes-5.ensures ∙ sym (low_le 8 a.tag.exchange.number),
      c.put-4.ensures.lent_after,
      c.to_le_bytes-4.ensures ∙ sym (low_le 2 a.tag.exchange.bus.address),
      c.put-3.ensures.lent_after,
      c.to_le_bytes-3.ensures ∙ sym (low_le 2 a.tag.exchange.bus.crc),
      c.put-2.ensures.lent_after,
      c.to_le_bytes-2.ensures ∙ sym (low_le 2 a.tag.exchange.held.ta),
      c.put.ensures.lent_after,
      c.to_le_bytes.ensures ∙ sym (low_le 2 a.tag.counters.reading),
    )
    (stores_sets a.lent.now 16 (words_of a.tag))

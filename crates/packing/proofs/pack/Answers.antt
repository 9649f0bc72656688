-- `packing::pack` meets its contract: the bytes, the words, the scratchpad. Assumes nothing.
use Rattle.std.proofs.Common.{rules}
use mathlib.Core.List.{map}
use Rattle.bits.specs.Bytes.{Bytes}
use Rattle.packing.specs.Packing.{byte, singles, words_of, fields_of}
use Rattle.packing.specs.Packing.Fields.{fit_append, fit_singles}
use Rattle.packing.specs.Packing.Laws.{tag_stored}
use Rattle.packing.proofs.pack.Goals as goal

pub returns-clause-lent_after : goal.returns-clause-lent_after
returns-clause-lent_after c =
    let a = c.args in
    let bytes : Bytes (singles a.tag) = rw (← c.single_bytes.ensures) c.put.ensures.bytes in
    rw (c.put-2.ensures.lent_after, c.put_words.ensures.lent_after, c.put.ensures.lent_after, c.single_bytes.ensures)
    (tag_stored a.lent.now a.tag bytes)

pub returns-clause-fits : goal.returns-clause-fits
unfolding fields_of
returns-clause-fits c =
    let a = c.args in
    let bytes : Bytes (singles a.tag) = rw (← c.single_bytes.ensures) c.put.ensures.bytes in
    record {
      fields = fit_append (map byte (singles a.tag)) (words_of a.tag) (fit_singles (singles a.tag) bytes) c.put_words.ensures.all_fit;
      size = search rules;
      bytes = c.put-2.ensures.bytes;
    }

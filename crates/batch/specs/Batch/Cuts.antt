-- Two lists one after the other, as one. Assumes nothing.
use Rattle.std.specs.Prelude.{◌++◌, ◌+◌}
use Rattle.batch.specs.Batch.{Listed, returned}

-- two lists one after the other, as one: the numbers done add up, and the replies stand one behind the other
abbrev pub joined : Listed → Listed → Listed
joined first rest =
    record {
      batch = returned rest.batch.answer rest.batch.tag (first.batch.done + rest.batch.done);
      image = rest.image;
      replies = first.replies ++ rest.replies;
    }

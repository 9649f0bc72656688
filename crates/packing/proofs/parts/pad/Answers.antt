-- `packing::parts::pad` meets its contract. Assumes nothing.
use Rattle.std.proofs.Common.{rules}
use Rattle.std.specs.Prelude.{◌+◌, get_or}
use Rattle.packing.specs.Arrays.{made_is}
use Rattle.packing.specs.Packing.{bytes_from}
use Rattle.packing.specs.Packing.Fields.{length_bytes, get_bytes}
use Rattle.packing.proofs.parts.pad.Goals as goal

pub returns : goal.returns
returns c =
    let lent = c.args.lent.now in
    made_is _ _ (λ i. get_or lent (48 + i) 0) (λ i y q called. search rules) c.from_fn.result (bytes_from lent 48 32) 32 0 c.from_fn.ensures.items
    (length_bytes lent 48 32) (λ k lt. get_bytes lent 48 32 k lt)

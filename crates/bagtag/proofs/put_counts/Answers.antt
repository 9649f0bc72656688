-- `bagtag::put_counts` meets its contract: four numbers one behind the other, each within its bytes. Assumes nothing.
use borrow.Author.Rules.{sfits_of}
use Rattle.std.proofs.Common.{◌^◌, ◌<◌, w64, arith}
use Rattle.std.proofs.lemmas.Int.{to_z-of_z}
use Rattle.dock.specs.Entries.{period_of}
use Rattle.dock.specs.Listing.{seconds_at}
use Rattle.packing.specs.Packing.{AllFit}
use Rattle.text.specs.Text.{twos_complement}
use Rattle.bagtag.specs.Bagtag.{counts_of}
use Rattle.bagtag.specs.Bagtag.Laws.{counts_stored}
use Rattle.bagtag.proofs.put_counts.Goals as goal

pub returns-clause-head_after : goal.returns-clause-head_after
returns-clause-head_after c =
    rw (
      c.put_word-4.ensures,
      c.period.ensures,
      c.put_word-3.ensures,
      c.twos_complement.ensures,
      to_z-of_z w64 c.seconds.result (sfits_of c.seconds.type_inv),
      c.seconds.ensures,
      c.put_word-2.ensures,
      c.put_word.ensures,
    )
    (counts_stored c.args.head.now c.args.listing)

pub returns-clause-all_fit : goal.returns-clause-all_fit
unfolding counts_of AllFit
returns-clause-all_fit c =
    let back = to_z-of_z w64 c.seconds.result (sfits_of c.seconds.type_inv) in
    let long : twos_complement (seconds_at c.args.listing 0) < 256 ^ 8 =
    rw (← c.seconds.ensures, ← back, ← c.twos_complement.ensures) (omega arith) in
    let short : period_of c.args.listing.rate c.args.listing.ehss < 256 ^ 4 = rw (← c.period.ensures) (omega arith) in
    (omega arith, (omega arith, (long, (short, tt))))

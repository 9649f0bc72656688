-- `batch::events` meets its contract. With the words from `i` on still to be done and their replies put behind those that are there,
-- all is as promised; image and record stay right at every word, so no word is asked again. Assumes nothing.
use mathlib.Core.Bool.{true}
use mathlib.Core.Path.{◌≡◌}
use lib.ListN.{length, drop}
use Rattle.record.specs.Record.{tag_in_range}
use Rattle.batch.specs.Batch.{course_of}
use Rattle.batch.specs.Batch.Laws.{replied_from}
use Rattle.batch.proofs.events.Given as goal

abbrev pub invariant-loop-i : goal.invariant-loop-i
invariant-loop-i l =
    (length l.image ≡ 8832)
    × (tag_in_range l.now ≡ true)
    × (replied_from l.replies l.i (course_of l.image l.now (drop l.i l.words)) ≡ replied_from l.initial.replies 0 (course_of l.initial.image l.initial.now l.words))

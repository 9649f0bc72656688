-- `image::put_word` meets its contract. The loop goes up: with `rest` put from `at + i` on, the image is the one that is
-- promised, and it keeps its length. Assumes nothing.
use mathlib.Core.Path.{◌≡◌}
use Prim.Native.Nat.{◌+◌, ◌-◌}
use lib.ListN.{length}
use Rattle.image.specs.Fields.{put_word}
use Rattle.image.proofs.put_word.Given as goal

abbrev pub invariant-loop-i : goal.invariant-loop-i
invariant-loop-i l =
    (length l.image ≡ length l.initial.image) × (put_word l.image (l.at + l.i) (l.i-end - l.i) l.rest ≡ put_word l.initial.image l.at l.i-end l.v)

-- `image::store_page` meets its contract. With the scratchpad's bytes from `i` on still to be stored, the image is the one
-- that is promised, and it keeps its length. Assumes nothing.
use mathlib.Core.Path.{◌≡◌}
use Prim.Native.Nat.{◌+◌, ◌≤◌}
use lib.ListN.{length, drop}
use Rattle.image.specs.Stored.{stored_run, stored_page}
use Rattle.image.proofs.store_page.Given as goal

abbrev pub invariant-loop-i : goal.invariant-loop-i
invariant-loop-i l =
    (l.i ≤ 32) × (length l.image ≡ length l.initial.image) × (stored_run l.image (l.page + l.i) (drop l.i l.pad) ≡ stored_page l.initial.image l.pad l.address)

-- `image::word` meets its contract. The loop goes down from the last byte: what is gathered is the word of the bytes from
-- `at + i` on. Assumes nothing.
use mathlib.Core.Path.{◌≡◌}
use Prim.Native.Nat.{◌+◌, ◌-◌, ◌≤◌}
use Rattle.image.specs.Fields.{word_at}
use Rattle.image.proofs.word.Given as goal

abbrev pub invariant-loop-i : goal.invariant-loop-i
invariant-loop-i l = (l.i ≤ l.initial.i) × (l.v ≡ word_at l.image (l.at + l.i) (l.initial.i - l.i))

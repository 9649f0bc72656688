-- `board::event` meets its contract. The first loop reads every number and judges every record; the second gives the event to the tags that are
-- left, and what it has left to do leads to what all of it does. Assumes nothing.
use mathlib.Core.Bool.{Bool, true}
use mathlib.Core.List.{List}
use mathlib.Core.Path.{◌≡◌}
use Prim.Native.Nat.{ℕ, ◌-◌, ◌<◌}
use lib.ListN.{length, get_or}
use Rattle.bits.specs.Each.{each}
use Rattle.record.specs.declared.Tag.{Tag}
use Rattle.record.specs.Record.{tag_in_range}
use Rattle.board.specs.declared.Board.{Board}
use Rattle.board.specs.Board.{tag_at, number_at, Going, reached, across}
use Rattle.board.specs.Board.Laws.{places_of}
use Rattle.board.proofs.event.Given as goal

abbrev pub of : List Tag → ℕ → Board
of tags count = record { tags = tags; count = count }

abbrev pub going : List ℕ → List Tag → ℕ → Bool → Going
going block tags count line = record { block = block; board = of tags count; line = line }

abbrev pub invariant-loop-i : goal.invariant-loop-i
invariant-loop-i l =
    (l.end ≡ places_of l.count) × (length l.tags ≡ 7) × (length l.numbers ≡ 7)
    × ((k : ℕ) → k < l.i → get_or l.numbers k 0 ≡ number_at (of l.tags l.count) k)
    × (l.good ≡ each l.i (λ k. tag_in_range (tag_at (of l.tags l.count) k)))

abbrev pub invariant-loop-at : goal.invariant-loop-at
invariant-loop-at l =
    (length l.block ≡ length l.initial.block) × (length l.tags ≡ 7)
    × (across (reached l.code 0) l.at (l.count - l.at) (going l.block l.tags l.count l.line) ≡ across (reached l.code 0) 0 l.count (going l.initial.block l.initial.tags l.count true))

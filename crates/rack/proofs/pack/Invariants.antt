-- `rack::pack` meets its contract. The loop packs the records that are left, each behind the one before it; what it has left to store leads to
-- what all of it stores. Assumes nothing.
use Rattle.std.proofs.Common.{◌≡◌, ℕ, ◌*◌, ◌-◌, ◌≤◌, ◌<◌, length}
use Rattle.std.proofs.lemmas.List.Edits.{sets}
use Rattle.board.specs.Board.{tag_at}
use Rattle.board.specs.Board.Laws.{places_of}
use Rattle.packing.specs.Packing.{Fits}
use Rattle.rack.specs.Rack.{rack_from}
use Rattle.rack.proofs.pack.Given as goal

abbrev pub invariant-loop-place : goal.invariant-loop-place
invariant-loop-place l = record {
  in_range : l.place ≤ l.place-end;
  end : l.place-end ≡ places_of l.board.count;
  seven : length l.board.tags ≡ 7;
  left : sets l.records (l.place * 80) (rack_from l.board l.place (l.place-end - l.place)) ≡ sets l.initial.records 0 (rack_from l.board 0 l.place-end);
  fit : (k : ℕ) → k < l.place → Fits (tag_at l.board k);
}

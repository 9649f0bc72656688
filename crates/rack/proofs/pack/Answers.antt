-- `rack::pack` meets its contract. The loop packs the records that are left, each behind the one before it; what it has left to store leads to
-- what all of it stores. Assumes nothing.
use Rattle.std.proofs.Common.{List, ◌≡◌, sym, ap, ◌∙◌, ℕ, ◌+◌, ◌*◌, ◌-◌, ◌<◌, arith}
use borrow.Author.Count.{below_more}
use Rattle.std.proofs.lemmas.List.Edits.{sets}
use Rattle.board.specs.Board.{tag_at}
use Rattle.board.specs.Board.Laws.{places_of, places_some}
use Rattle.board.specs.Board.Reading.{read_is}
use Rattle.packing.specs.Packing.{packed, Fits}
use Rattle.packing.specs.Packing.Laws.{length_packed}
use Rattle.record.specs.declared.Tag.{Tag}
use Rattle.rack.specs.Rack.{rack_from, rack_of}
use Rattle.rack.specs.Rack.Laws.{rack_next, rack_over}
use Rattle.rack.proofs.pack.Goals as goal

-- the places are seven
there : {i end : ℕ} (count : ℕ) → i < end → end ≡ places_of count → i < 7
there count before places = omega (arith, before, places, places_some count)

pub overflow_mul-place : goal.overflow_mul-place
overflow_mul-place c = omega (arith, there _ c.loop-place-test.true c.loop-place.invariant.end)

pub offset_bounds-board-place : goal.offset_bounds-board-place
offset_bounds-board-place c = omega (arith, there _ c.loop-place-test.true c.loop-place.invariant.end)

pub bounds-board-place : goal.bounds-board-place
bounds-board-place c = there _ c.loop-place-test.true c.loop-place.invariant.end

pub loop-place-preserved : goal.loop-place-preserved
loop-place-preserved c =
    let l = c.loop-place in
    let board = c.args.board in
    let end = c.places-place-end.result in
    let own = read_is board l.place _ (omega (arith, there _ c.loop-place-test.true l.invariant.end, l.invariant.seven)) in
    let fits : Fits (tag_at board l.place) = rw (← own) c.pack_from.ensures.fits in
    record {
      in_range = omega (arith, c.loop-place-test.true);
      end = l.invariant.end;
      seven = l.invariant.seven;
      left =
          ap (λ (m : List ℕ). sets m ((l.place + 1) * 80) (rack_from board (l.place + 1) (end - (l.place + 1))))
          (c.pack_from.ensures.records_after ∙ ap (λ (t : Tag). sets l.records (l.place * 80) (packed t)) own)
          ∙ rack_next l.records board l.place end c.loop-place-test.true (length_packed _ fits.size) ∙ l.invariant.left;
      fit = below_more _ _ l.invariant.fit fits;
    }

pub returns-clause-records_after : goal.returns-clause-records_after
unfolding rack_of
returns-clause-records_after c =
    let l = c.loop-place in
    let a = c.args in
    sym (ap (sets l.records (l.place * 80)) (rack_over a.board l.place c.places-place-end.result c.loop-place-test.false))
    ∙ l.invariant.left ∙ ap (λ (n : ℕ). sets a.records.now 0 (rack_from a.board 0 n)) l.invariant.end

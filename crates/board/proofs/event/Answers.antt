-- `board::event` meets its contract. Assumes nothing.
use mathlib.Core.Bool.{Bool, true}
use mathlib.Core.List.{List}
use mathlib.Core.Path.{◌≡◌, sym, ap, ◌∙◌}
use Prim.Native.Nat.{ℕ, ◌+◌, ◌*◌, ◌-◌, ◌≤◌, ◌<◌}
use native.Mathlib.Numerals.{add-one}
use native.Mathlib.Omega.{arith}
use borrow.Author.Rules.{rules}
use lib.ListN.{length, get_or, set, take, length-set}
use lib.Seq.{length-take-le}
use Rattle.bits.specs.Each.{each, each_next}
use Rattle.event.specs.Event.{tick_tag}
use Rattle.record.specs.declared.Tag.{Tag}
use Rattle.record.specs.Record.{tag_in_range}
use Rattle.board.specs.declared.Board.{Board}
use Rattle.answer.specs.Answer.{Answer, answer_number}
use Rattle.answer.specs.Answer.Laws.{accepted_is}
use Rattle.std.specs.Prelude.{◌&&◌}
use Rattle.board.specs.Board.{tag_at, with_tag, number_at, same_number, judged, judged_by, Left, begun, reached, across, accepted}
use Rattle.board.specs.Board.Laws.{accepts, refuses, counted, Passed, passed, places_of, places_some, places_counted, judged_by_lem, line_refused, line_taken, taken_tick, taken_given, across_next, across_over, tick_named, tick_low, reached_heard, reached_ticked}
use Rattle.board.specs.Board.Places.{Has, part_is, put_is, length_image, length_with}
use Rattle.board.specs.Board.Reading.{read_is, numbers_next, same_read}
use Rattle.board.proofs.event.Invariants.{of, going}
use Rattle.board.proofs.event.Goals as goal

-- ---- the first loop

-- what it has read of the board's first places
abbrev Read : Board → List ℕ → Bool → ℕ → ℕ → Type 0
Read b numbers good end i =
    (end ≡ places_of b.count) × (length b.tags ≡ 7) × (length numbers ≡ 7)
    × ((k : ℕ) → k < i → get_or numbers k 0 ≡ number_at b k)
    × (good ≡ each i (λ k. tag_in_range (tag_at b k)))

first : (b : Board) (numbers : List ℕ) (good : Bool) (end i : ℕ) → Read b numbers good end i → i < end → i < 7
first b numbers good end i read test = omega (arith, test, read.0, places_some b.count)

pub offset_bounds-tags-i : goal.offset_bounds-tags-i
offset_bounds-tags-i c = omega (arith, first _ _ _ _ _ c.loop-i.invariant c.loop-i-test.true)

pub bounds-tags-i : goal.bounds-tags-i
bounds-tags-i c = first _ _ _ _ _ c.loop-i.invariant c.loop-i-test.true

pub offset_bounds-numbers-i : goal.offset_bounds-numbers-i
offset_bounds-numbers-i c = omega (arith, first _ _ _ _ _ c.loop-i.invariant c.loop-i-test.true)

pub bounds-numbers-i : goal.bounds-numbers-i
bounds-numbers-i c = first _ _ _ _ _ c.loop-i.invariant c.loop-i-test.true

pub offset_bounds-tags-i-in-loop-i : goal.offset_bounds-tags-i-in-loop-i
offset_bounds-tags-i-in-loop-i c = omega (arith, first _ _ _ _ _ c.loop-i.invariant c.loop-i-test.true)

pub bounds-tags-i-in-loop-i : goal.bounds-tags-i-in-loop-i
bounds-tags-i-in-loop-i c = first _ _ _ _ _ c.loop-i.invariant c.loop-i-test.true

pub loop-i-preserved : goal.loop-i-preserved
unfolding number_at
loop-i-preserved c =
    let l = c.loop-i in
    let a = c.args in
    let test = c.loop-i-test.true in
    let there : l.i < 7 = first _ _ _ _ _ l.invariant test in
    let own = read_is a.board l.i _ (omega (arith, there, l.invariant.1)) in (
      l.invariant.0,
      l.invariant.1,
      length-set l.numbers l.i _ ∙ l.invariant.2,
      numbers_next l.numbers (number_at a.board) l.i _ (omega (arith, there, l.invariant.2)) l.invariant.3 (ap (λ (t : Tag). t.exchange.number) own),
      rw (add-one l.i) (each_next l.i _ l.good _ l.invariant.4 (c.in_range-good.ensures ∙ ap tag_in_range own)),
    )

pub slice_bounds-numbers-end : goal.slice_bounds-numbers-end
slice_bounds-numbers-end c = omega (arith, c.loop-i.invariant.0, c.loop-i.invariant.2, places_some c.args.board.count)

pub slice_bounds-same_number-end : goal.slice_bounds-same_number-end
slice_bounds-same_number-end c =
    sym (length-take-le _ _ (omega (arith, c.loop-i.invariant.0, c.loop-i.invariant.2, places_some c.args.board.count)))

-- ---- what is judged

-- the answer is the definition's: where there are as many tags as a line may have, the loop has read them all
judge_is : (block : List ℕ) (b : Board) (code place reading : ℕ) (numbers : List ℕ) (good same : Bool) (end i : ℕ) {answer : Answer} →
    Read b numbers good end i → i ≡ end → same ≡ same_number (length (take end numbers)) (λ i. get_or (take end numbers) i 0) →
    answer ≡ judged_by b.count (length block) same good code place reading → answer ≡ judged (length block) b code place reading
judge_is block b code place reading numbers good same end i read left is_same judge =
    judge
    ∙ judged_by_lem (length block) b _ _ code place reading
    (λ few.
    let whole : places_of b.count ≡ b.count = places_counted b.count few in
    let all : i ≡ b.count = omega (arith, left, read.0, whole) in
    let each_read : (k : ℕ) → k < end → get_or numbers k 0 ≡ number_at b k = λ k h. read.3 k (omega (arith, h, left)) in (
      is_same
          ∙ same_read numbers (number_at b) _ (omega (arith, read.0, read.2, places_some b.count)) each_read
          ∙ ap (λ (n : ℕ). same_number n (number_at b)) (read.0 ∙ whole),
      read.4 ∙ ap (λ (n : ℕ). each n (λ i. tag_in_range (tag_at b i))) all,
    ))

-- what it has passed then
pass : {count size : ℕ} {same good : Bool} {code place reading : ℕ} {answer : Answer} →
    answer ≡ judged_by count size same good code place reading → answer_number answer ≡ 0 → Passed count size same good code place reading
pass judge zero = passed _ _ _ _ _ _ _ (ap answer_number (sym judge) ∙ zero)

-- its count, and the block's length
sizes : {count size : ℕ} {same good : Bool} {code place reading : ℕ} → Passed count size same good code place reading → (count ≤ 7) × (size ≡ count * 8832)
sizes p = ((counted _ p.few).1, p.whole)

-- ---- a tick

-- the place that it names is there
there : (block : List ℕ) {count : ℕ} {same good : Bool} {code place reading : ℕ} → Passed count (length block) same good code place reading → code ≡ 3 →
    (place < count) × (place < 7) × Has block place
there block p tick =
    let named = tick_named _ _ _ p.named tick in
    let size = sizes p in
    (named, omega (arith, named, size.0), omega (arith, named, size.1))

pub slice_bounds-tick-end : goal.slice_bounds-tick-end
slice_bounds-tick-end c =
    let has = (there c.args.block.now (pass c.judge-answer.ensures (accepts c.judge-answer.result c.is_ok.ensures.value c.if-is_ok.true)) c.if-code-eq3.true).2 in
    let inside : c.args.place * 8832 + 8832 ≤ length c.args.block.now = omega (arith, has) in
    search rules

pub bounds-tags-at : goal.bounds-tags-at
bounds-tags-at c = (there c.args.block.now (pass c.judge-answer.ensures (accepts c.judge-answer.result c.is_ok.ensures.value c.if-is_ok.true)) c.if-code-eq3.true).1

pub bounds-tags-at-then-code-eq3 : goal.bounds-tags-at-then-code-eq3
bounds-tags-at-then-code-eq3 c = (there c.args.block.now (pass c.judge-answer.ensures (accepts c.judge-answer.result c.is_ok.ensures.value c.if-is_ok.true)) c.if-code-eq3.true).1

pub returns-then-code-eq3 : goal.returns-then-code-eq3
unfolding with_tag tick_tag
returns-then-code-eq3 c =
    let a = c.args in
    let l = c.loop-i in
    let tick = c.tick-answered in
    let p = pass c.judge-answer.ensures (accepts c.judge-answer.result c.is_ok.ensures.value c.if-is_ok.true) in
    let j = judge_is a.block.now a.board a.code a.place a.reading l.numbers l.good c.same_number-same.result c.places-end.result l.i l.invariant (omega arith) c.same_number-same.ensures c.judge-answer.ensures in
    let zero = accepts c.judge-answer.result c.is_ok.ensures.value c.if-is_ok.true in
    let own = read_is a.board a.place _ (omega (arith, (there a.block.now p c.if-code-eq3.true).1, l.invariant.1)) in
    let part = part_is a.block.now a.place in
    let e =
    line_taken a.block.now a.board a.code a.place a.reading (ap answer_number (sym j) ∙ zero)
    ∙ ap accepted (taken_tick (begun a.block.now a.board) a.code a.place a.reading c.if-code-eq3.true
    ∙ reached_ticked (begun a.block.now a.board) a.place _ own tick.result tick.new.image a.reading
    (tick_low _ _ p.low c.if-code-eq3.true)
    _ part tick.ensures.value tick.ensures.image_after) in record {
      value = (λ i. record {
        board = of (set a.board.tags a.place tick.result.tag) a.board.count;
        answer = accepted_is _ zero i;
        line = tick.result.line;
      })
          ∙ sym (ap (λ (o : Left). o.shown) e);
      block_after = put_is a.block.now a.place tick.new.image ∙ sym (ap (λ (o : Left). o.block) e);
    }

-- ---- slots and resets

-- the place that the second loop has come to is there
second : {count size : ℕ} {same good : Bool} {code place reading : ℕ} → Passed count size same good code place reading → (block : List ℕ) → length block ≡ size →
    (at : ℕ) → at < count → (at < 7) × Has block at
second p block whole at test =
    let size = sizes p in
    (omega (arith, test, size.0), omega (arith, test, size.1, whole))

pub slice_bounds-hear-end : goal.slice_bounds-hear-end
slice_bounds-hear-end c =
    let has = (second (pass c.judge-answer.ensures (accepts c.judge-answer.result c.is_ok.ensures.value c.if-is_ok.true)) c.loop-at.block c.loop-at.invariant.0 c.loop-at.at c.loop-at-test.true).1 in
    let inside : c.loop-at.at * 8832 + 8832 ≤ length c.loop-at.block = omega (arith, has) in
    search rules

pub bounds-tags-at-in-loop-at : goal.bounds-tags-at-in-loop-at
bounds-tags-at-in-loop-at c = (second (pass c.judge-answer.ensures (accepts c.judge-answer.result c.is_ok.ensures.value c.if-is_ok.true)) c.loop-at.block c.loop-at.invariant.0 c.loop-at.at c.loop-at-test.true).0

pub bounds-tags-at-in-loop-at-2 : goal.bounds-tags-at-in-loop-at-2
bounds-tags-at-in-loop-at-2 c = (second (pass c.judge-answer.ensures (accepts c.judge-answer.result c.is_ok.ensures.value c.if-is_ok.true)) c.loop-at.block c.loop-at.invariant.0 c.loop-at.at c.loop-at-test.true).0

pub loop-at-preserved : goal.loop-at-preserved
unfolding with_tag
loop-at-preserved c =
    let l = c.loop-at in
    let a = c.args in
    let hear = c.hear-answered in
    let test = c.loop-at-test.true in
    let p = pass c.judge-answer.ensures (accepts c.judge-answer.result c.is_ok.ensures.value c.if-is_ok.true) in
    let size = sizes p in
    let has = (second (pass c.judge-answer.ensures (accepts c.judge-answer.result c.is_ok.ensures.value c.if-is_ok.true)) c.loop-at.block c.loop-at.invariant.0 c.loop-at.at c.loop-at-test.true).1 in
    let part = part_is l.block l.at in
    let whole : length hear.new.image ≡ 8832 = hear.auto.image ∙ ap length part ∙ length_image l.block l.at has in
    let own = read_is (of l.tags a.board.count) l.at _ (omega (arith, test, size.0, l.invariant.1)) in
    let put = put_is l.block l.at hear.new.image in
    let next =
    reached_heard (going l.block l.tags a.board.count l.line) l.at _ own hear.result hear.new.image a.code
    p.event c.if-code-eq3.false
    _ part hear.ensures.value hear.ensures.image_after in (
      ap length put ∙ length_with l.block l.at has hear.new.image whole ∙ l.invariant.0,
      length-set l.tags l.at hear.result.tag ∙ l.invariant.1,
      ap (across (reached a.code 0) (l.at + 1) (a.board.count - (l.at + 1)))
          ((λ i. record {
            block = put i;
            board = record { tags = set l.tags l.at hear.result.tag; count = a.board.count };
            line = l.line && hear.result.line;
          })
          ∙ sym next)
          ∙ across_next (reached a.code 0) l.at a.board.count (going l.block l.tags a.board.count l.line) test ∙ l.invariant.2,
    )

pub returns-after-loop-at : goal.returns-after-loop-at
returns-after-loop-at c =
    let a = c.args in
    let r = c.loop-i in
    let l = c.loop-at in
    let j = judge_is a.block.now a.board a.code a.place a.reading r.numbers r.good c.same_number-same.result c.places-end.result r.i r.invariant (omega arith) c.same_number-same.ensures c.judge-answer.ensures in
    let zero = accepts c.judge-answer.result c.is_ok.ensures.value c.if-is_ok.true in
    let e =
    line_taken a.block.now a.board a.code a.place a.reading (ap answer_number (sym j) ∙ zero)
    ∙ ap accepted (taken_given (begun a.block.now a.board) a.code a.place a.reading c.if-code-eq3.false
    ∙ sym l.invariant.2 ∙ across_over (reached a.code 0) l.at a.board.count (going l.block l.tags a.board.count l.line) (omega arith)) in record {
      value = ap (λ (x : Answer). record { board = of l.tags a.board.count; answer = x; line = l.line }) (accepted_is _ zero) ∙ sym (ap (λ (o : Left). o.shown) e);
      block_after = sym (ap (λ (o : Left). o.block) e);
    }

-- ---- a refusal

pub returns-else-is_ok : goal.returns-else-is_ok
returns-else-is_ok c =
    let a = c.args in
    let l = c.loop-i in
    let j = judge_is a.block.now a.board a.code a.place a.reading l.numbers l.good c.same_number-same.result c.places-end.result l.i l.invariant (omega arith) c.same_number-same.ensures c.judge-answer.ensures in
    let e = line_refused a.block.now a.board a.code a.place a.reading (λ zero. refuses c.judge-answer.result c.is_ok.ensures.value c.if-is_ok.false (ap answer_number j ∙ zero)) in record {
      value = ap (λ (x : Answer). record { board = a.board; answer = x; line = true }) j ∙ sym (ap (λ (o : Left). o.shown) e);
      block_after = sym (ap (λ (o : Left). o.block) e);
    }

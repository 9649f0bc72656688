-- `board::new` meets its contract. Assumes nothing.
use mathlib.Core.Bool.{true}
use mathlib.Core.List.{List}
use borrow.Author.Rules.{rules}
use mathlib.Core.Path.{◌≡◌, refl, sym, ap, ◌∙◌}
use Prim.Native.Nat.{ℕ, ◌+◌, ◌-◌, ◌*◌, ◌<◌, ◌≤◌}
use native.Mathlib.Omega.{arith}
use lib.ListN.{length, set, replicate, length-set}
use Rattle.answer.specs.Answer.{Answer, answer_number}
use Rattle.answer.specs.Answer.Laws.{refusal_counts}
use Rattle.record.specs.declared.Tag.{Tag}
use Rattle.board.specs.Board.{with_tag, Left, empty_board, new_at, new_judged, across, accepted}
use Rattle.board.specs.Board.Laws.{counted, Good, good, new_refused, new_taken, across_all, made_at, across_next, across_over}
use Rattle.board.specs.Board.Places.{Has, part_is, put_is, length_image, length_with}
use Rattle.board.proofs.new.Invariants.{of, going}
use Rattle.board.proofs.new.Goals as goal

pub returns-in-Err : goal.returns-in-Err
unfolding empty_board
returns-in-Err c =
    let a = c.args in
    let j = sym c.in-Err.is ∙ c.judge_new.ensures in
    let e = new_refused a.block.now a.numbers.now a.codes.now (λ zero. absurd (omega (arith, refusal_counts c.in-Err.refusal, ap answer_number j ∙ zero))) in record {
      value = (λ i. record { board = of (replicate 7 (c.fresh-none.ensures i)) 0; answer = j i; line = true })
          ∙ sym (ap (λ (o : Left). o.shown) e);
      block_after = sym (ap (λ (o : Left). o.block) e);
    }

pub loop-i-init : goal.loop-i-init
unfolding empty_board
loop-i-init c =
    let a = c.args in (
      refl,
      refl,
      across_all (new_at a.numbers.now a.codes.now) (length a.numbers.now) _
          ∙ ap (λ (t : Tag). across (new_at a.numbers.now a.codes.now) 0 (length a.numbers.now) (going a.block.now (replicate 7 t) (length a.numbers.now)))
          c.fresh-none.ensures,
    )

-- what a line has passed that is accepted
fine : {size : ℕ} {numbers codes : List ℕ} {answer : Answer} → answer ≡ new_judged size numbers codes → answer_number answer ≡ 0 → Good size numbers codes
fine judged zero = good _ _ _ (ap answer_number (sym judged) ∙ zero)

-- a place is there
there : {size : ℕ} {numbers codes : List ℕ} → Good size numbers codes → (block : List ℕ) → length block ≡ size → (i : ℕ) → i < length numbers →
    (i < 7) × Has block i
there p block whole i test =
    let few = (counted _ p.few).1 in
    (omega (arith, test, few), omega (arith, test, p.whole, whole))

pub overflow_mul-from : goal.overflow_mul-from
overflow_mul-from c = omega (arith, there (fine c.judge_new.ensures (ap answer_number c.in_default.is)) c.loop-i.block c.loop-i.invariant.0 c.loop-i.i c.loop-i-test.true)

pub overflow_add-from : goal.overflow_add-from
overflow_add-from c = omega (arith, there (fine c.judge_new.ensures (ap answer_number c.in_default.is)) c.loop-i.block c.loop-i.invariant.0 c.loop-i.i c.loop-i-test.true)

pub slice_bounds-new-end : goal.slice_bounds-new-end
slice_bounds-new-end c =
    let has = (there (fine c.judge_new.ensures (ap answer_number c.in_default.is)) c.loop-i.block c.loop-i.invariant.0 c.loop-i.i c.loop-i-test.true).1 in
    let inside : c.loop-i.i * 8832 + 8832 ≤ length c.loop-i.block = omega (arith, has) in
    search rules

pub bounds-tags-i : goal.bounds-tags-i
bounds-tags-i c = (there (fine c.judge_new.ensures (ap answer_number c.in_default.is)) c.loop-i.block c.loop-i.invariant.0 c.loop-i.i c.loop-i-test.true).0

pub loop-i-preserved : goal.loop-i-preserved
unfolding with_tag
loop-i-preserved c =
    let l = c.loop-i in
    let a = c.args in
    let count = length a.numbers.now in
    let new = c.new-made in
    let has = (there (fine c.judge_new.ensures (ap answer_number c.in_default.is)) l.block l.invariant.0 l.i c.loop-i-test.true).1 in
    let part = part_is l.block l.i in
    let whole : length new.new.image ≡ 8832 = new.auto.image ∙ ap length part ∙ length_image l.block l.i has in
    let put = put_is l.block l.i new.new.image in
    let next =
    made_at a.numbers.now a.codes.now l.i (going l.block l.tags count) _ c.peek.ensures _ part new.result
    new.ensures.value new.new.image new.ensures.image_after in (
      ap length put ∙ length_with l.block l.i has new.new.image whole ∙ l.invariant.0,
      length-set l.tags l.i new.result.tag ∙ l.invariant.1,
      ap (across (new_at a.numbers.now a.codes.now) (l.i + 1) (count - (l.i + 1)))
          ((λ i. going (put i) (set l.tags l.i new.result.tag) count) ∙ sym next)
          ∙ across_next (new_at a.numbers.now a.codes.now) l.i count (going l.block l.tags count) c.loop-i-test.true ∙ l.invariant.2,
    )

pub overflow_cast-result : goal.overflow_cast-result
overflow_cast-result c = omega (arith, (counted _ (fine c.judge_new.ensures (ap answer_number c.in_default.is)).few).1)

pub returns : goal.returns
returns c =
    let a = c.args in
    let l = c.loop-i in
    let count = length a.numbers.now in
    let e =
    new_taken a.block.now a.numbers.now a.codes.now (ap answer_number (sym c.judge_new.ensures ∙ c.in_default.is))
    ∙ ap accepted (sym l.invariant.2 ∙ across_over (new_at a.numbers.now a.codes.now) l.i count (going l.block l.tags count) (omega arith)) in record {
      value = sym (ap (λ (o : Left). o.shown) e);
      block_after = sym (ap (λ (o : Left). o.block) e);
    }

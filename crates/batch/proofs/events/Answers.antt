-- `batch::events` meets its contract. With the words from `i` on still to be done and their replies put behind those that are there,
-- all is as promised; image and record stay right at every word, so no word is asked again. Assumes nothing.
use mathlib.Core.Path.{◌≡◌, sym, ap, ◌∙◌}
use native.Mathlib.Nat.{add-zero}
use native.Mathlib.Omega.{arith}
use lib.ListN.{length}
use Rattle.std.specs.Prelude.{Ok, Err}
use Rattle.answer.specs.declared.Refusal.{Refusal}
use Rattle.batch.specs.Batch.{course_of, Listed, returned, listed}
use Rattle.batch.specs.Batch.Laws.{course_refused, course_over, replied_from, replied_whole, list_on, list_taken}
use Rattle.batch.proofs.events.Goals as goal

-- what a list leaves, part by part
parts : {o p : Listed} → o ≡ p → (p.batch ≡ o.batch) × ((p.image ≡ o.image) × (p.replies ≡ o.replies))
parts e =
    (ap (λ (o : Listed). o.batch) (sym e), (ap (λ (o : Listed). o.image) (sym e), ap (λ (o : Listed). o.replies) (sym e)))

pub loop-i-preserved : goal.loop-i-preserved
loop-i-preserved c =
    let l = c.loop-i in
    let on =
    list_on l.image l.now c.args.words.now l.replies l.i (omega arith) (sym c.is_event.ensures ∙ c.if-not-is_event.false) l.invariant.0 l.invariant.1
    _ c.event-answered.ensures.value _ c.event-answered.ensures.image_after _ c.digit.ensures in
    (c.event-answered.auto.image ∙ l.invariant.0, on.0, on.1 ∙ l.invariant.2)

-- where a word is left, it is none of the events
pub returns-then-not-is_event : goal.returns-then-not-is_event
unfolding replied_from
returns-then-not-is_event c =
    let a = c.args in
    let l = c.loop-i in
    let taken = list_taken _ _ _ _ c.if-replies-words.false c.if-image-ne8832.false (sym c.in_range.ensures ∙ c.if-not-in_range.false) in
    let ended : listed a.image.now a.tag a.words.now a.replies.now
    ≡ record { batch = returned (Err Refusal.EventCode) l.now l.i; image = l.image; replies = l.replies } =
    taken ∙ sym (replied_whole a.replies.now (course_of a.image.now a.tag a.words.now)) ∙ sym l.invariant.2
    ∙ rw (course_refused _ _ _ l.i (omega arith) (sym c.is_event.ensures ∙ c.if-not-is_event.true), add-zero) in
    let so = parts ended in
    record { value = c.left-then-not-is_event.ensures ∙ so.0; image_after = so.1.0; replies_after = so.1.1 }

pub returns : goal.returns
unfolding replied_from
returns c =
    let a = c.args in
    let l = c.loop-i in
    let all : l.i ≡ length a.words.now = omega arith in
    let taken = list_taken _ _ _ _ c.if-replies-words.false c.if-image-ne8832.false (sym c.in_range.ensures ∙ c.if-not-in_range.false) in
    let ended : listed a.image.now a.tag a.words.now a.replies.now
    ≡ record { batch = returned (Ok tt) l.now (length a.words.now); image = l.image; replies = l.replies } =
    taken ∙ sym (replied_whole a.replies.now (course_of a.image.now a.tag a.words.now)) ∙ sym l.invariant.2
    ∙ rw (course_over l.image l.now a.words.now l.i (omega arith), add-zero, all) in
    let so = parts ended in
    record { value = c.left-2.ensures ∙ so.0; image_after = so.1.0; replies_after = so.1.1 }

-- What holds of every list of events. Assumes nothing.
use Rattle.std.specs.Prelude.{◌≡◌, refl, Bool, true, false, List, ℕ, eqb, ltb, length, if◌then◌else◌}
use Rattle.std.proofs.Common.{sym, subst, ◌∙◌, arith, eq-eqb}
use Rattle.std.proofs.Math.Logic.{dite}
use Rattle.std.proofs.Math.Decide.{dec_le}
use Rattle.batch.specs.Batch.{Listed, listed}
use Rattle.batch.specs.Batch.Laws.{list_few, list_taken}
use Rattle.promises.specs.Batches.{events_of, asked_number, first_of, list_number, Leaves, Batches}
use Rattle.promises.specs.Batches.Words.{course_run, list_leaves}
use Rattle.promises.specs.Batches.Cuts.{join, cut, after_refused, reply_spared, reply_missing}
use Rattle.promises.specs.Ranges.Laws.{range_is}
use Rattle.promises.specs.Runs.{State, Reached}
use Rattle.promises.specs.Runs.Laws.{reached_sound, reached_run}

-- what a call returned and left is the definition's, part by part
whole : {left l : Listed} → left.batch ≡ l.batch → left.image ≡ l.image → left.replies ≡ l.replies → left ≡ l
whole p q r = λ i. record { batch = p i; image = q i; replies = r i }

-- ---- from a reached state

first_asked : (short : Bool) (n : ℕ) → first_of (if short then 17 else 0) n ≡ (if short then 17 else n)
unfolding first_of
first_asked true n = refl
first_asked false n = refl

reached_number : {s : State} → Reached s → (words replies : List ℕ) →
    list_number s.image s.tag words replies
    ≡ (if ltb (length replies) (length words) then 17 else if eqb (length (events_of words)) (length words) then 0 else 1)
unfolding asked_number
reached_number {s} r words replies =
    let sound = reached_sound r in
    rw (eq-eqb (length s.image) 8832 sound.size, range_is s.tag, sound.ranges)
    (first_asked (ltb (length replies) (length words)) _)

reached_left : {s : State} → Reached s → (words replies : List ℕ) →
    let l = listed s.image s.tag words replies in Reached (record { image = l.image; tag = l.batch.tag })
reached_left {s} r words replies =
    let sound = reached_sound r in
    dite (dec_le (length words) (length replies))
    (λ room. rw (list_taken s.image s.tag words replies room sound.size sound.ranges, course_run s.image s.tag words)
    (reached_run (events_of words) r))
    (λ few. rw (list_few s.image s.tag words replies (omega (arith, few))) r)

pub batches : Batches
batches =
    record {
      any_list = λ κs image tag words replies. tt;
      lists = λ κs image tag words replies r exit p.
          let same = whole p.0 p.1.0 p.1.1 in
          (same, subst (Leaves image.now tag words.now replies.now) (sym same) (list_leaves image.now tag words.now replies.now));
      joins = join;
      cuts = cut;
      needed = λ r.
          (after_refused (reached_sound r), reply_spared (reached_sound r), reply_missing (reached_sound r));
      reached = λ r words replies.
          ((list_leaves _ _ words replies).answer ∙ reached_number r words replies, reached_left r words replies);
    }

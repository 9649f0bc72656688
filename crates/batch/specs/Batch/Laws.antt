-- A list, word by word: what a word does where image and record are right, and what the words from a place on leave. Assumes nothing.
use Rattle.std.specs.Prelude.{◌≡◌, Bool, ◌&&◌, ◌||◌, List, ◌≢◌, ℕ, zero, suc, ◌+◌, ◌-◌, ◌%◌, ◌≤◌, ◌<◌, leb, length, get_or, set, drop, if◌then◌else◌, Ok, Err}
use Rattle.std.proofs.Math.Path.{refl}
use Rattle.std.proofs.Common.{◌∙◌, zero-add, add-suc, suc-add, add-one, arith, drop_of_length-le, drop-cons}
use Rattle.std.proofs.Math.Bool.{true, false, not}
use Rattle.std.proofs.lemmas.Bool.{false≢true}
use borrow.Author.Tests.{leb-true, lt-leb, ltb-true, ltb-false, lt-ltb, le-ltb, eqb-true, eqb-false, eq-eqb, ne_eqb}
use Rattle.std.proofs.Math.Dec.{eqb, ltb}
use Rattle.std.proofs.lemmas.List.Edits.{sets}
use Rattle.answer.specs.declared.Refusal.{Refusal}
use Rattle.bits.specs.Bits.{digit}
use Rattle.event.specs.Event.{slotted, reset_tag, short_tag, tick_tag}
use Rattle.record.specs.declared.Answered.{Answered}
use Rattle.record.specs.declared.Tag.{Tag}
use Rattle.record.specs.Record.{Outcome, tag_in_range}
use Rattle.tag.specs.Tag.{event_of, step}
use Rattle.tag.proofs.Tag.Laws.{step_taken, step_in_range, event_tick}
use Rattle.batch.specs.Batch.{is_code, is_event, code_of, reading_of, Course, course_of, over, replying, Listed, returned, undone, replied, listed}

-- ---- a word

-- what a word that is an event does to a tag whose image and record are found right
unfoldable pub event_in : List ℕ → Tag → ℕ → Outcome
event_in image tag word =
    if ltb word 2 then slotted image tag (eqb word 1)
    else if eqb word 2 then reset_tag image tag
    else if eqb word 4 then short_tag image tag
    else tick_tag image tag (word % 4096)

-- what holds of words 0 to 2, of 4 and of 4096 to 6143 holds of every event
word_cases : (P : ℕ → Type 0) (word : ℕ) → is_event word ≡ true → P 0 → P 1 → P 2 → P 4 → (4096 ≤ word → word ≤ 6143 → P word) → P word
unfolding is_event is_code
word_cases P word e held free reset short ticks = by (leb word 2) (eqb word 4) (leb 4096 word) (leb word 6143) refl refl refl refl e
  where
    small : (w : ℕ) → w ≤ 2 → P w
    small zero h = held
    small (suc zero) h = free
    small (suc (suc zero)) h = reset
    small (suc (suc (suc w))) h = absurd (omega arith)

    by : (low four tick high : Bool) → leb word 2 ≡ low → eqb word 4 ≡ four → leb 4096 word ≡ tick → leb word 6143 ≡ high →
        ((low || four) || (tick && high)) ≡ true → P word
    by true four tick high p q r s e = small word (leb-true word 2 p)
    by false true tick high p q r s e = rw (eqb-true word 4 q) short
    by false false true true p q r s e = ticks (leb-true 4096 word r) (leb-true word 6143 s)
    by false false true false p q r s e = absurd (false≢true e)
    by false false false high p q r s e = absurd (false≢true e)

pub word_happens : (image : List ℕ) (tag : Tag) (word : ℕ) → is_event word ≡ true → length image ≡ 8832 → tag_in_range tag ≡ true →
    step image tag (code_of word) (reading_of word) ≡ event_in image tag word
unfolding code_of reading_of is_code event_in event_of
word_happens image tag word e whole in_range =
    step_taken image tag (code_of word) (reading_of word) whole in_range ∙
    word_cases (λ w. event_of image tag (code_of w) (reading_of w) ≡ event_in image tag w) word e refl refl refl refl tick
  where
    tick : 4096 ≤ word → word ≤ 6143 → event_of image tag (code_of word) (reading_of word) ≡ event_in image tag word
    tick from to =
        let reading : word - 4096 ≡ word % 4096 = omega arith in
        rw (
          lt-leb word 2 (omega arith),
          le-ltb word 2 (omega arith),
          ne_eqb word 2 (λ two. absurd (omega (arith, two))),
          ne_eqb word 4 (λ four. absurd (omega (arith, four))),
          ← reading,
        )
        (event_tick image tag 3 (word - 4096) refl (omega arith))

-- ---- the words from a place on

module _ (image : List ℕ) (tag : Tag) (words : List ℕ) (i : ℕ) where
  -- the first of them is done, and then the rest
  pub course_on : i < length words → is_event (get_or words i 0) ≡ true →
      let o : Outcome = step image tag (code_of (get_or words i 0)) (reading_of (get_or words i 0)) in
      course_of image tag (drop i words) ≡ replying o.answered.line (course_of o.image o.answered.tag (drop (i + 1) words))
  unfolding course_of
  course_on h e = rw (drop-cons words i 0 h, course_of, e, add-one)

  -- it is none, and the list ends
  pub course_refused : i < length words → is_event (get_or words i 0) ≡ false →
      course_of image tag (drop i words) ≡ over (Err Refusal.EventCode) image tag
  unfolding course_of
  course_refused h e = rw (drop-cons words i 0 h, course_of, e)

  -- there are no more
  pub course_over : length words ≤ i → course_of image tag (drop i words) ≡ over (Ok tt) image tag
  unfolding course_of
  course_over h = rw (drop_of_length-le words h)

-- ---- with the replies behind those that are there

-- what is left where the line bits go to `replies` from `i` on
unfoldable pub replied_from : List ℕ → ℕ → Course → Listed
replied_from replies i c =
    record { batch = returned c.answer c.tag (i + length c.line); image = c.image; replies = sets replies i c.line }

pub replied_whole : (replies : List ℕ) (c : Course) → replied_from replies 0 c ≡ replied replies c
unfolding replied_from
replied_whole replies c = rw zero-add

-- a reply, and then the rest
pub replied_on : (replies : List ℕ) (i : ℕ) (bit : Bool) (c : Course) →
    replied_from replies i (replying bit c) ≡ replied_from (set replies i (digit bit)) (i + 1) c
unfolding replied_from
replied_on replies i bit c = rw (add-one, add-suc, suc-add)

-- a word's event is done, its reply is put, and then the rest; the record stays in its ranges
pub list_on : (image : List ℕ) (tag : Tag) (words replies : List ℕ) (i : ℕ) → i < length words → is_event (get_or words i 0) ≡ true →
    length image ≡ 8832 → tag_in_range tag ≡ true →
    (answered : Answered) → answered ≡ (event_in image tag (get_or words i 0)).answered →
    (image' : List ℕ) → image' ≡ (event_in image tag (get_or words i 0)).image →
    (reply : ℕ) → reply ≡ digit answered.line →
    (tag_in_range answered.tag ≡ true)
    × (replied_from (set replies i reply) (i + 1) (course_of image' answered.tag (drop (i + 1) words))
    ≡ replied_from replies i (course_of image tag (drop i words)))
list_on image tag words replies i h e whole in_range answered a image' m reply r =
    let word = get_or words i 0 in
    let happens = word_happens image tag word e whole in_range in (
      rw (a, ← happens) (step_in_range image tag (code_of word) (reading_of word) in_range),
      rw (course_on image tag words i h e) (rw (replied_on replies i) (rw (r, a, m, happens))),
    )

-- ---- the call

module _ (image : List ℕ) (tag : Tag) (words replies : List ℕ) where
  -- what holds of the three refusals and of the words done one by one holds of every list
  pub list_cases : (P : Listed → Type 0) →
      (length replies < length words → P (undone (Err Refusal.Replies) image tag replies)) →
      (length words ≤ length replies → length image ≢ 8832 → P (undone (Err Refusal.ImageLength) image tag replies)) →
      (length words ≤ length replies → length image ≡ 8832 → tag_in_range tag ≡ false → P (undone (Err Refusal.RecordRange) image tag replies)) →
      (length words ≤ length replies → length image ≡ 8832 → tag_in_range tag ≡ true → P (replied replies (course_of image tag words))) →
      P (listed image tag words replies)
  unfolding listed
  list_cases P few size broken taken =
      by (ltb (length replies) (length words)) (eqb (length image) 8832) (tag_in_range tag) refl refl refl
    where
      by : (short whole in_range : Bool) →
          ltb (length replies) (length words) ≡ short → eqb (length image) 8832 ≡ whole → tag_in_range tag ≡ in_range →
          P (if short then undone (Err Refusal.Replies) image tag replies
          else if not whole then undone (Err Refusal.ImageLength) image tag replies
          else if not in_range then undone (Err Refusal.RecordRange) image tag replies
          else replied replies (course_of image tag words))
      by true whole in_range p q r = few (ltb-true (length replies) (length words) p)
      by false false in_range p q r = size (ltb-false (length replies) (length words) p) (eqb-false (length image) 8832 q)
      by false true false p q r = broken (ltb-false (length replies) (length words) p) (eqb-true (length image) 8832 q) r
      by false true true p q r = taken (ltb-false (length replies) (length words) p) (eqb-true (length image) 8832 q) r

  pub list_few : length replies < length words → listed image tag words replies ≡ undone (Err Refusal.Replies) image tag replies
  unfolding listed
  list_few few = rw (lt-ltb (length replies) (length words) few)

  pub list_length : length words ≤ length replies → length image ≢ 8832 →
      listed image tag words replies ≡ undone (Err Refusal.ImageLength) image tag replies
  unfolding listed
  list_length room size = rw (le-ltb (length replies) (length words) room, ne_eqb (length image) 8832 size)

  pub list_ranges : length words ≤ length replies → length image ≡ 8832 → tag_in_range tag ≡ false →
      listed image tag words replies ≡ undone (Err Refusal.RecordRange) image tag replies
  unfolding listed
  list_ranges room whole broken =
      rw (le-ltb (length replies) (length words) room, eq-eqb (length image) 8832 whole, broken)

  -- past the three checks the words are done one by one
  pub list_taken : length words ≤ length replies → length image ≡ 8832 → tag_in_range tag ≡ true →
      listed image tag words replies ≡ replied replies (course_of image tag words)
  unfolding listed
  list_taken room whole in_range =
      rw (le-ltb (length replies) (length words) room, eq-eqb (length image) 8832 whole, in_range)

-- A list cut into batches is the whole list, and what that asks for is needed. Assumes nothing.
use Rattle.std.specs.Prelude.{◌≡◌, refl, ◌≢◌, ℕ, ◌≤◌, length}
use Rattle.std.proofs.Math.Path.{ap}
use Rattle.std.proofs.Common.{◌∙◌, arith}
use mathlib.Core.List.{List, [], ◌∷◌, ◌++◌}
use Rattle.std.proofs.Math.Logic.{dite}
use Rattle.std.proofs.Math.Decide.{dec_le}
use Rattle.std.proofs.Math.ListN.{get_or}
use Rattle.std.proofs.lemmas.List.{length-map}
use Rattle.std.proofs.Math.Seq.{sets}
use Rattle.batch.specs.Batch.{Course, Listed, listed}
use Rattle.batch.specs.Batch.Laws.{list_few, list_taken}
use Rattle.batch.specs.Batch.Cuts.{joined}
use Rattle.batch.proofs.Cuts.{course_length, course_in_range, list_append}
use Rattle.bits.specs.Bits.{digit}
use Rattle.event.specs.Event.{reset_tag}
use Rattle.record.specs.declared.Tag.{Tag}
use Rattle.record.specs.Record.{Outcome}
use Rattle.promises.specs.Batches.{is_refused, event_of, events_of, in_turn, words_in, replies_in, Whole, Differs}
use Rattle.promises.specs.Batches.Words.{course_run}
use Rattle.promises.specs.Runs.{State, run}
use Rattle.promises.specs.Runs.Laws.{line_length, Sound, reset_happens}
use Rattle.promises.specs.Sentences.Events.{number_in}
use Rattle.promises.specs.Sentences.Events.Proof.{number_accepts}

-- ---- two lists, and any number

pub join : (image : List ℕ) (tag : Tag) (words more replies left : List ℕ) →
    let first = listed image tag words replies in
    let rest = listed first.image first.batch.tag more left in
    number_in first.batch.answer ≡ 0 → length replies ≡ length words → number_in rest.batch.answer ≢ 17 →
    listed image tag (words ++ more) (replies ++ left) ≡ joined first rest
join image tag words more replies left accepted exact room =
    dite (dec_le (length more) (length left))
    (λ h. list_append image tag words more replies left (number_accepts accepted) exact h)
    (λ no. absurd (room (ap (λ (l : Listed). number_in l.batch.answer) (list_few _ _ more left (omega (arith, no))))))

pub cut : (image : List ℕ) (tag : Tag) (before : List (List ℕ × List ℕ)) (words replies : List ℕ) → Whole image tag before →
    number_in (in_turn image tag before words replies).batch.answer ≢ 17 →
    listed image tag (words_in before words) (replies_in before replies) ≡ in_turn image tag before words replies
unfolding Whole words_in replies_in in_turn
cut image tag [] words replies whole room = refl
cut image tag ((some, lent) ∷ before) words replies whole room =
    let first = listed image tag some lent in
    let rest = cut first.image first.batch.tag before words replies whole.2 room in
    join image tag some (words_in before words) lent (replies_in before replies) whole.0 whole.1 (rw rest room) ∙ ap (joined first) rest

-- ---- what `joins` asks for is needed

-- the number done is that of the events
list_done : {s : State} → Sound s → (words replies : List ℕ) → length words ≤ length replies →
    (listed s.image s.tag words replies).batch.done ≡ length (events_of words)
list_done {s} sound words replies room =
    rw (list_taken s.image s.tag words replies room sound.size sound.ranges, course_run s.image s.tag words)
    (length-map (run s (events_of words)).line digit ∙ line_length s (events_of words))

-- a list leaves a sound state sound
list_sound : {s : State} → Sound s → (words replies : List ℕ) → length words ≤ length replies →
    let l = listed s.image s.tag words replies in Sound (record { image = l.image; tag = l.batch.tag })
list_sound {s} sound words replies room =
    rw (list_taken s.image s.tag words replies room sound.size sound.ranges)
    (record {
      size = course_length s.image s.tag words ∙ sound.size;
      ranges = course_in_range s.image s.tag words sound.ranges;
    })

module _ {s : State} (sound : Sound s) where
  -- after a refused word the second list is done by itself, and no more of the whole
  pub after_refused : Differs s (3 ∷ []) (2 ∷ []) (0x77 ∷ []) (0x77 ∷ [])
  unfolding events_of is_refused
  after_refused e =
      let none : (listed s.image s.tag (3 ∷ 2 ∷ []) (0x77 ∷ 0x77 ∷ [])).batch.done ≡ 0 = list_done sound (3 ∷ 2 ∷ []) (0x77 ∷ 0x77 ∷ []) (omega arith) in
      let one = list_done (list_sound sound (3 ∷ []) (0x77 ∷ []) (omega arith)) (2 ∷ []) (0x77 ∷ []) (omega arith) in
      omega (arith, none, one, ap (λ (l : Listed). l.batch.done) e)

  -- with a reply byte to spare the second list's reply does not stand behind the first one's
  pub reply_spared : Differs s [] (2 ∷ []) (0x77 ∷ []) (0x77 ∷ [])
  unfolding events_of is_refused event_of run reset_tag
  reply_spared e =
      let behind : (listed s.image s.tag [] (0x77 ∷ [])).replies ≡ 0x77 ∷ [] =
      rw (list_taken s.image s.tag [] (0x77 ∷ []) (omega arith) sound.size sound.ranges, course_run s.image s.tag []) in
      let replied : (listed s.image s.tag (2 ∷ []) (0x77 ∷ 0x77 ∷ [])).replies ≡ 0 ∷ 0x77 ∷ [] =
      ap (λ (l : Listed). l.replies) (list_taken s.image s.tag (2 ∷ []) (0x77 ∷ 0x77 ∷ []) (omega arith) sound.size sound.ranges)
      ∙ ap (λ (c : Course). sets (0x77 ∷ 0x77 ∷ []) 0 c.line) (course_run s.image s.tag (2 ∷ []))
      ∙ ap (λ (o : Outcome). digit o.answered.line ∷ 0x77 ∷ []) (reset_happens sound) in
      let first : get_or (listed s.image s.tag (2 ∷ []) (0x77 ∷ 0x77 ∷ [])).replies 0 0 ≡ 0x77 =
      ap (λ (l : Listed). get_or l.replies 0 0) e ∙ rw behind in
      omega (arith, rw replied at first)

  -- with no room for the second list's replies the whole is refused, and the first one done by itself
  pub reply_missing : Differs s (2 ∷ []) (2 ∷ []) (0x77 ∷ []) []
  unfolding events_of is_refused
  reply_missing e =
      let one = list_done sound (2 ∷ []) (0x77 ∷ []) (omega arith) in
      let none : (listed s.image s.tag (2 ∷ 2 ∷ []) (0x77 ∷ [])).batch.done ≡ 0 =
      rw (list_few s.image s.tag (2 ∷ 2 ∷ []) (0x77 ∷ []) (omega arith)) in
      omega (arith, one, none, ap (λ (l : Listed). l.batch.done) e)

-- A list's words are events: what a list leaves is what their run leaves. Assumes nothing.
use Rattle.std.specs.Prelude.{◌≡◌, true, false, not, ◌≢◌, ℕ, zero, suc, ◌-◌, ◌≤◌, ◌<◌, eqb, if◌then◌else◌, Ok, Err}
use Rattle.std.proofs.Math.Path.{refl}
use Rattle.std.proofs.Common.{sym, ap, ◌∙◌, true≢false, arith}
use mathlib.Core.List.{List, [], ◌∷◌, map}
use Rattle.std.proofs.Math.Logic.{dite}
use Rattle.std.proofs.Math.Decide.{dec_le}
use Rattle.std.proofs.Math.Nat.{zero-add}
use borrow.Author.Tests.{lt-ltb, le-ltb, le-leb, lt-leb, eq-eqb, ne_eqb}
use Rattle.std.proofs.Math.Dec.{eqb-zero-suc, eqb-suc-suc}
use Rattle.std.proofs.Math.ListN.{length, length-map}
use Rattle.std.proofs.lemmas.List.Edits.{sets-eq}
use Rattle.std.proofs.Math.Seq.{length-sets}
use Rattle.answer.specs.Answer.{Answer}
use Rattle.answer.specs.declared.Refusal.{Refusal}
use Rattle.batch.specs.Batch.{is_event, Course, course_of, undone, replied, listed}
use Rattle.batch.specs.Batch as batch
use Rattle.batch.specs.Batch.Laws.{list_cases}
use Rattle.batch.proofs.Cuts.{course_cases}
use Rattle.bits.specs.Bits.{digit}
use Rattle.bits.specs.Choose.{either}
use Rattle.record.specs.declared.Tag.{Tag}
use Rattle.tag.specs.Tag.{step}
use Rattle.promises.specs.Batches.{is_refused, event_of, events_of, asked_number, first_of, Leaves}
use Rattle.promises.specs.Ranges.Laws.{range_is}
use Rattle.promises.specs.Runs.{State, Event, Accepts, after, happens, run, Always}
use Rattle.promises.specs.Runs.Laws.{line_length, Sound, Valid, sound_accepts, sound_after}
use Rattle.promises.specs.Sentences.Events.{number_in}
use Rattle.promises.specs.Sentences.Events.Proof.{numbered}

-- ---- words

-- the words that are refused are those that are no event
refused_is : (word : ℕ) → is_refused word ≡ not (is_event word)
unfolding is_refused is_event batch.is_code
refused_is zero = refl
refused_is (suc zero) = refl
refused_is (suc (suc zero)) = refl
refused_is (suc (suc (suc zero))) = refl
refused_is (suc (suc (suc (suc zero)))) = refl
refused_is (suc (suc (suc (suc (suc word))))) = by (dec_le w 4095) (dec_le w 6143)
  where
    w : ℕ
    w = suc (suc (suc (suc (suc word))))

    not_three : eqb w 3 ≡ false
    not_three = ne_eqb w 3 (λ e. absurd (omega (arith, e)))

    no_code : batch.is_code w ≡ false
    no_code = rw (lt-leb w 2 (omega arith), ne_eqb w 4 (λ e. absurd (omega (arith, e))))

    by : Dec (w ≤ 4095) → Dec (w ≤ 6143) → is_refused w ≡ not (is_event w)
    by (yes a) b =
        rw (le-ltb 6143 w (omega arith), not_three, le-leb 5 w (omega arith), le-leb w 4095 a, no_code, lt-leb 4096 w (omega arith))
    by (no a) (yes b) =
        rw (le-ltb 6143 w b, not_three, lt-leb w 4095 (omega arith), le-leb 5 w (omega arith), no_code, le-leb 4096 w (omega arith), le-leb w 6143 b)
    by (no a) (no b) =
        rw (lt-ltb 6143 w (omega arith), no_code, le-leb 4096 w (omega arith), lt-leb w 6143 (omega arith))

-- the others are ticks
tick_word : (word : ℕ) → 4 < word → event_of word ≡ Event.tick (word - 4096)
unfolding event_of
tick_word word h =
    rw (
      ne_eqb word 0 (λ e. absurd (omega (arith, e))),
      ne_eqb word 1 (λ e. absurd (omega (arith, e))),
      ne_eqb word 2 (λ e. absurd (omega (arith, e))),
      ne_eqb word 4 (λ e. absurd (omega (arith, e))),
    )

-- and are their events
tick_happens : (s : State) (word : ℕ) → 4 < word → step s.image s.tag (batch.code_of word) (batch.reading_of word) ≡ happens s (event_of word)
unfolding batch.code_of batch.reading_of batch.is_code
tick_happens s word h = rw (lt-leb word 2 (omega arith), ne_eqb word 4 (λ e. absurd (omega (arith, e))), tick_word word h)

-- a word is its event
word_happens : (s : State) (word : ℕ) → step s.image s.tag (batch.code_of word) (batch.reading_of word) ≡ happens s (event_of word)
unfolding batch.code_of batch.reading_of batch.is_code event_of
word_happens s zero = refl
word_happens s (suc zero) = refl
word_happens s (suc (suc zero)) = refl
word_happens s (suc (suc (suc zero))) = refl
word_happens s (suc (suc (suc (suc zero)))) = refl
word_happens s (suc (suc (suc (suc (suc word))))) = tick_happens s (suc (suc (suc (suc (suc word))))) (omega arith)

-- one that is not refused is a slot, a reset of either kind, or a tick with a valid reading
word_valid : (word : ℕ) → is_refused word ≡ false → Valid (event_of word)
unfolding event_of is_refused
word_valid zero e = tt
word_valid (suc zero) e = tt
word_valid (suc (suc zero)) e = tt
word_valid (suc (suc (suc zero))) e = absurd (true≢false e)
word_valid (suc (suc (suc (suc zero)))) e = tt
word_valid (suc (suc (suc (suc (suc word))))) e =
    let w = suc (suc (suc (suc (suc word)))) in
    rw (tick_word w (omega arith))
    (dite (dec_le w 6143) (λ h. omega (arith, h)) (λ h. absurd (true≢false (rw (lt-ltb 6143 w (omega (arith, h))) at e))))

refused_event : (word : ℕ) → is_event word ≡ true → is_refused word ≡ false
refused_event word e = refused_is word ∙ ap not e

-- ---- a list and a run

-- the events of a list, one by one, leave what the list leaves
abbrev pub ran_course : State → List ℕ → Course
ran_course s words =
    let ran = run s (events_of words) in
    record {
      line = map digit ran.line;
      tag = ran.state.tag;
      image = ran.state.image;
      answer = if eqb (length (events_of words)) (length words) then Ok tt else Err Refusal.EventCode;
    }

pub course_run : (image : List ℕ) (tag : Tag) (words : List ℕ) → course_of image tag words ≡ ran_course (record { image = image; tag = tag }) words
unfolding run events_of after
course_run =
    course_cases (λ image tag words c. c ≡ ran_course (record { image = image; tag = tag }) words)
    (λ image tag. refl)
    (λ image tag word words no. rw (refused_is word, no, eqb-zero-suc (length words)))
    (λ image tag word words is rest.
    ap (batch.replying (step image tag (batch.code_of word) (batch.reading_of word)).answered.line) rest
    ∙ rw (word_happens (record { image = image; tag = tag }) word, refused_event word is, eqb-suc-suc (length (events_of words)) (length words)))

-- no more words are done than there are
events_short : (words : List ℕ) → length (events_of words) ≤ length words
unfolding events_of
events_short [] = omega arith
events_short (word ∷ words) =
    either (λ (events : List Event). length events ≤ suc (length words)) (is_refused word) (λ _. omega arith)
    (λ _. omega (arith, events_short words))

-- and every event of a list is accepted
words_accepted : (s : State) (words : List ℕ) → Sound s → Always Accepts s (events_of words)
unfolding events_of Always
words_accepted s [] sound = tt
words_accepted s (word ∷ words) sound =
    either (λ (events : List Event). Always Accepts s events) (is_refused word) (λ _. tt)
    (λ is. (sound_accepts sound (event_of word) (word_valid word is), words_accepted (after s (event_of word)) words (sound_after (event_of word) sound)))

-- ---- what a list leaves

-- a sound state, with room for the replies, is refused nothing before the first word
pub asked_none : {s : State} → Sound s → (words replies : List ℕ) → length words ≤ length replies →
    asked_number s.image s.tag words replies ≡ 0
unfolding asked_number
asked_none {s} sound words replies room =
    rw (le-ltb (length replies) (length words) room, eq-eqb (length s.image) 8832 sound.size, range_is s.tag, sound.ranges)

module _ (image : List ℕ) (tag : Tag) (words replies : List ℕ) where
  refusing : (answer : Answer) → asked_number image tag words replies ≡ number_in answer → number_in answer ≢ 0 →
      Leaves image tag words replies (undone answer image tag replies)
  unfolding first_of
  refusing answer asked bad =
      record {
        answer = rw (asked, ne_eqb (number_in answer) 0 bad);
        refused = λ _. (refl, refl, refl, refl);
        same = λ none. absurd (bad (sym asked ∙ none));
        bits = λ none. absurd (bad (sym asked ∙ none));
        accepts = λ none. absurd (bad (sym asked ∙ none));
        size = refl;
      }

  taken : asked_number image tag words replies ≡ 0 → length words ≤ length replies → Sound (record { image = image; tag = tag }) →
      Leaves image tag words replies (replied replies (ran_course (record { image = image; tag = tag }) words))
  unfolding first_of
  taken asked room sound =
      let s : State = record { image = image; tag = tag } in
      let done : length (map digit (run s (events_of words)).line) ≡ length (events_of words) =
      length-map (run s (events_of words)).line digit ∙ line_length s (events_of words) in
      let line = map digit (run s (events_of words)).line in
      record {
        answer = rw asked (numbered (eqb (length (events_of words)) (length words)) (Ok tt) (Err Refusal.EventCode) refl refl);
        refused = λ bad. absurd (bad asked);
        same = λ _. (refl, refl, done);
        bits = λ _. rw (sets-eq line replies 0 (omega (arith, done, room, events_short words)), zero-add, done);
        accepts = λ _. words_accepted s words sound;
        size = length-sets replies 0 line;
      }

  pub list_leaves : Leaves image tag words replies (listed image tag words replies)
  unfolding asked_number
  list_leaves =
      list_cases image tag words replies (Leaves image tag words replies)
      (λ few. refusing (Err Refusal.Replies) (rw (lt-ltb (length replies) (length words) few)) (λ e. absurd (omega (arith, e))))
      (λ room size.
      refusing (Err Refusal.ImageLength) (rw (le-ltb (length replies) (length words) room, ne_eqb (length image) 8832 size)) (λ e. absurd (omega (arith, e))))
      (λ room whole broken.
      refusing (Err Refusal.RecordRange)
      (rw (le-ltb (length replies) (length words) room, eq-eqb (length image) 8832 whole, range_is tag, broken))
      (λ e. absurd (omega (arith, e))))
      (λ room whole in_range.
      let sound : Sound (record { image = image; tag = tag }) = record { size = whole; ranges = in_range } in
      rw (course_run image tag words) (taken (asked_none sound words replies room) room sound))

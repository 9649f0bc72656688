-- Request #101, "Many events in one call": a list's words are the events of a run, one by one, up to the first word that is no event; when
-- it is refused, and what any cut of it into lists leaves. `batches` in Batches/Proof.antt proves it; `Calls` says that lists among other
-- calls are runs too. `run` gives the line bits and the state; `Reached` is from a new tag by accepted events. Assumes nothing.
use Rattle.std.specs.Prelude.{◌≡◌, Bool, true, false, not, ◌&&◌, ◌||◌, List, [], ◌∷◌, ◌++◌, map, ◌≢◌, ℕ, ◌-◌, eqb, leb, ltb, length, drop, if◌then◌else◌}
use Rattle.batch.specs.declared.Batch.{Batch}
use Rattle.batch.specs.Batch.{Listed, listed}
use Rattle.batch.specs.Batch.Cuts.{joined}
use Rattle.batch.proofs.events.Reads as call
use Rattle.bits.specs.Bits.{digit}
use Rattle.record.specs.declared.Tag.{Tag}
use Rattle.promises.specs.Ranges.{in_range}
use Rattle.promises.specs.Runs.{State, Event, Accepts, run, Reached, Always}
use Rattle.promises.specs.Sentences.Events.{number_in}
pub mod Words
pub mod Cuts
pub mod Proof

-- ---- words

-- "Words above 6143 or between 3 and 4095 are refused", but for 4: "in the lists of #101 the word 4 is the short reset" (request #103)
unfoldable pub is_refused : ℕ → Bool
is_refused word = ltb 6143 word || (eqb word 3 || (leb 5 word && leb word 4095))

-- "0, 1 and 2 as before and 4096 plus the reading for a tick", 4 the short reset
unfoldable pub event_of : ℕ → Event
event_of word =
    if eqb word 0 then Event.slot false
    else if eqb word 1 then Event.slot true
    else if eqb word 2 then Event.reset
    else if eqb word 4 then Event.short
    else Event.tick (word - 4096)

-- "It stops at the first refused word": the events of the words before it
unfoldable pub events_of : List ℕ → List Event
events_of [] = []
events_of (word ∷ words) = if is_refused word then [] else event_of word ∷ events_of words

-- ---- numbers

-- "If fewer reply bytes than words are lent, nothing is done and the answer is 17, checked before all others; then 3 and 6 as before,
-- also for an empty list"
unfoldable pub asked_number : List ℕ → Tag → List ℕ → List ℕ → ℕ
asked_number image tag words replies =
    if ltb (length replies) (length words) then 17
    else if not (eqb (length image) 8832) then 3
    else if not (in_range tag) then 6
    else 0

-- the first of two numbers that refuses
unfoldable pub first_of : ℕ → ℕ → ℕ
first_of first second = if eqb first 0 then second else first

-- those, and then 1 for a refused word
abbrev pub list_number : List ℕ → Tag → List ℕ → List ℕ → ℕ
list_number image tag words replies =
    first_of (asked_number image tag words replies) (if eqb (length (events_of words)) (length words) then 0 else 1)

-- ---- what a list leaves

-- of a call that was lent this image, these words and these reply bytes: what it returned (`batch`: answer, record, number done), and
-- left in the image and in the replies. `digit` is 1 for true, 0 for false
pub record Leaves (image : List ℕ) (tag : Tag) (words replies : List ℕ) (l : Listed) : Type 0 where
  pub answer : number_in l.batch.answer ≡ list_number image tag words replies
  -- 17, 3 and 6: "with nothing done"
  pub refused : asked_number image tag words replies ≢ 0 →
      (l.batch.tag ≡ tag) × (l.batch.done ≡ 0) × (l.image ≡ image) × (l.replies ≡ replies)
  -- "The result must equal the same events one by one, for an empty list also": record, image and number done ..
  pub same : asked_number image tag words replies ≡ 0 →
      let ran = run (record { image = image; tag = tag }) (events_of words) in
      (l.batch.tag ≡ ran.state.tag) × (l.image ≡ ran.state.image) × (l.batch.done ≡ length (events_of words))
  -- .. and "one reply byte, the line bit, for each"; "Reply bytes past the number done stay as they were"
  pub bits : asked_number image tag words replies ≡ 0 →
      let ran = run (record { image = image; tag = tag }) (events_of words) in
      l.replies ≡ map digit ran.line ++ drop (length (events_of words)) replies
  -- each of these events is accepted: no refusal comes later
  pub accepts : asked_number image tag words replies ≡ 0 → Always Accepts (record { image = image; tag = tag }) (events_of words)
  -- and there are as many reply bytes as there were
  pub size : length l.replies ≡ length replies

-- `joined` is two lists one after the other, as one: answer, record and image of the second, both numbers done added up, and the replies
-- of the second behind those of the first

-- lists with their reply bytes, and a last one, each on what the one before it left
unfoldable pub in_turn : List ℕ → Tag → List (List ℕ × List ℕ) → List ℕ → List ℕ → Listed
in_turn image tag [] words replies = listed image tag words replies
in_turn image tag ((some, room) ∷ before) words replies =
    let first = listed image tag some room in
    joined first (in_turn first.image first.batch.tag before words replies)

-- all their words, and all their reply bytes
unfoldable pub words_in : List (List ℕ × List ℕ) → List ℕ → List ℕ
words_in [] words = words
words_in ((some, room) ∷ before) words = some ++ words_in before words

unfoldable pub replies_in : List (List ℕ × List ℕ) → List ℕ → List ℕ
replies_in [] replies = replies
replies_in ((some, room) ∷ before) replies = room ++ replies_in before replies

-- each of those before the last is accepted in its turn, and has as many reply bytes as words
unfoldable pub Whole : List ℕ → Tag → List (List ℕ × List ℕ) → Type 0
Whole image tag [] = Unit {0}
Whole image tag ((some, room) ∷ before) =
    let first = listed image tag some room in
    (number_in first.batch.answer ≡ 0) × (length room ≡ length some) × Whole first.image first.batch.tag before

-- the one list of both differs from the two in turn; 77h is a byte that is no reply
abbrev pub Differs : State → List ℕ → List ℕ → List ℕ → List ℕ → Type 0
Differs s words more replies left =
    let first = listed s.image s.tag words replies in
    listed s.image s.tag (words ++ more) (replies ++ left) ≢ joined first (listed first.image first.batch.tag more left)

-- ---- what holds of every list

-- `call.Post` is the contract of `batch::events` as the source states it, over lifetimes, the arguments image, record, words and replies,
-- the result, and the arguments at exit, in their order; `call.Asked` is what a caller must show of the arguments
pub record Batches : Type 2 where
  -- "Nobody needs to check first"
  pub any_list : (κs : _) (image : _) (tag : Tag) (words : _) (replies : _) → call.Asked κs (image, (tag, (words, (replies, tt))))
  -- every call leaves what `listed` says, and that is the run's
  pub lists : (κs : _) (image : _) (tag : Tag) (words : _) (replies : _) (r : Batch) (exit : _) →
      call.Post κs (image, (tag, (words, (replies, tt)))) r exit →
      let left : Listed = record { batch = r; image = exit.0.now; replies = exit.1.1.1.0.now } in
      (left ≡ listed image.now tag words.now replies.now) × Leaves image.now tag words.now replies.now left
  -- a list that is accepted, with exactly as many reply bytes as words, and then another that is not 17, on what it left, are one list
  -- of both over the joined replies
  pub joins : (image : List ℕ) (tag : Tag) (words more replies left : List ℕ) →
      let first = listed image tag words replies in
      let rest = listed first.image first.batch.tag more left in
      number_in first.batch.answer ≡ 0 → length replies ≡ length words → number_in rest.batch.answer ≢ 17 →
      listed image tag (words ++ more) (replies ++ left) ≡ joined first rest
  -- so any cut into batches is the same: any number of such lists, and a last one that is not 17
  pub cuts : (image : List ℕ) (tag : Tag) (before : List (List ℕ × List ℕ)) (words replies : List ℕ) → Whole image tag before →
      number_in (in_turn image tag before words replies).batch.answer ≢ 17 →
      listed image tag (words_in before words) (replies_in before replies) ≡ in_turn image tag before words replies
  -- the three premises of `joins` are needed: after a refused word, with a reply byte to spare, and with none for the second list
  pub needed : {s : State} → Reached s →
      Differs s (3 ∷ []) (2 ∷ []) (0x77 ∷ []) (0x77 ∷ [])
      × Differs s [] (2 ∷ []) (0x77 ∷ []) (0x77 ∷ [])
      × Differs s (2 ∷ []) (2 ∷ []) (0x77 ∷ []) []
  -- from a new tag by events the number is 17, 0 or 1, and what a list leads to is reached again
  pub reached : {s : State} → Reached s → (words replies : List ℕ) →
      let l = listed s.image s.tag words replies in
      (number_in l.batch.answer
      ≡ (if ltb (length replies) (length words) then 17 else if eqb (length (events_of words)) (length words) then 0 else 1))
      × Reached (record { image = l.image; tag = l.batch.tag })

-- A list of events in one call (request #101, "Many events in one call"), by `step` alone. Assumes nothing.
use Rattle.std.specs.Prelude.{Bool, not, ◌&&◌, ◌||◌, List, [], ◌∷◌, ℕ, ◌-◌, eqb, leb, ltb, length, if◌then◌else◌, Ok, Err}
use Rattle.std.proofs.lemmas.List.Edits.{sets}
use Rattle.answer.specs.Answer.{Answer}
use Rattle.answer.specs.declared.Refusal.{Refusal}
use Rattle.bits.specs.Bits.{digit}
use Rattle.record.specs.declared.Tag.{Tag}
use Rattle.record.specs.Record.{Outcome, tag_in_range}
use Rattle.tag.specs.Tag.{step}
use Rattle.batch.specs.declared.Batch.{Batch}
pub mod Laws
pub mod Cuts

-- ---- a word

-- "0, 1 and 2 as before"; "in the lists of #101 the word 4 is the short reset" (request #103)
unfoldable pub is_code : ℕ → Bool
is_code word = leb word 2 || eqb word 4

-- "and 4096 plus the reading for a tick"; "Words above 6143 or between 3 and 4095 are refused", but for 4
unfoldable pub is_event : ℕ → Bool
is_event word = is_code word || (leb 4096 word && leb word 6143)

-- the code and the reading that an event has by itself
unfoldable pub code_of : ℕ → ℕ
code_of word = if is_code word then word else 3

unfoldable pub reading_of : ℕ → ℕ
reading_of word = if is_code word then 0 else word - 4096

-- ---- a list

-- what the words of a list leave: the line bits of those that are done, the record, the lent image, and the answer
pub record Course : Type 0 where
  pub line : List ℕ
  pub tag : Tag
  pub image : List ℕ
  pub answer : Answer

-- no more words are done
abbrev pub over : Answer → List ℕ → Tag → Course
over answer image tag = record { line = []; tag = tag; image = image; answer = answer }

-- a line bit, and then the rest
abbrev pub replying : Bool → Course → Course
replying bit rest = record { line = digit bit ∷ rest.line; tag = rest.tag; image = rest.image; answer = rest.answer }

-- "It stops at the first refused word; the words before it count as done"; "The result must equal the same events one by one"
unfoldable pub course_of : List ℕ → Tag → List ℕ → Course
course_of image tag [] = over (Ok tt) image tag
course_of image tag (word ∷ words) =
    let o : Outcome = step image tag (code_of word) (reading_of word) in
    if is_event word then replying o.answered.line (course_of o.image o.answered.tag words)
    else over (Err Refusal.EventCode) image tag

-- ---- the call

-- what it returns: the answer, the record and the number done
abbrev pub returned : Answer → Tag → ℕ → Batch
returned answer tag done = record { answer = answer; tag = tag; done = done }

-- what it leaves: what it returns, the lent image and the lent replies
pub record Listed : Type 0 where
  pub batch : Batch
  pub image : List ℕ
  pub replies : List ℕ

-- "nothing is done"
abbrev pub undone : Answer → List ℕ → Tag → List ℕ → Listed
undone answer image tag replies = record { batch = returned answer tag 0; image = image; replies = replies }

-- "fills one reply byte, the line bit, for each"; "Reply bytes past the number done stay as they were"
abbrev pub replied : List ℕ → Course → Listed
replied replies c =
    record { batch = returned c.answer c.tag (length c.line); image = c.image; replies = sets replies 0 c.line }

-- "If fewer reply bytes than words are lent, nothing is done and the answer is 17, checked before all others; then 3 and 6 as before,
-- also for an empty list"
unfoldable pub listed : List ℕ → Tag → List ℕ → List ℕ → Listed
listed image tag words replies =
    if ltb (length replies) (length words) then undone (Err Refusal.Replies) image tag replies
    else if not (eqb (length image) 8832) then undone (Err Refusal.ImageLength) image tag replies
    else if not (tag_in_range tag) then undone (Err Refusal.RecordRange) image tag replies
    else replied replies (course_of image tag words)

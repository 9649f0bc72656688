-- A list that is cut in two is the whole list. Assumes nothing.
use Rattle.std.specs.Prelude.{◌≡◌, refl, true, false, List, [], ◌∷◌, ◌++◌, ◌≢◌, ℕ, suc, ◌≤◌, length, Ok, Err}
use Rattle.std.proofs.Common.{sym, ap, ◌∙◌, arith, length-append}
use Rattle.answer.specs.Answer.{Answer}
use Rattle.answer.specs.Answer.Laws.{not_accepted}
use Rattle.answer.specs.declared.Refusal.{Refusal}
use Rattle.bits.specs.Choose.{either}
use Rattle.bits.specs.Stores.{sets_append}
use Rattle.record.specs.declared.Tag.{Tag}
use Rattle.record.specs.Record.{Outcome, tag_in_range}
use Rattle.tag.specs.Tag.{step}
use Rattle.tag.proofs.Tag.Laws.{length_step, step_in_range}
use Rattle.batch.specs.Batch.{is_event, code_of, reading_of, Course, course_of, over, replying, replied, listed}
use Rattle.batch.specs.Batch.Laws.{list_cases, list_taken}
use Rattle.batch.specs.Batch.Cuts.{joined}

-- ---- a course

-- what holds of no word, of a refused one and, if it holds of the words behind it, of an event, holds of every list
pub course_cases : (P : List ℕ → Tag → List ℕ → Course → Type 0) →
    ((image : List ℕ) (tag : Tag) → P image tag [] (over (Ok tt) image tag)) →
    ((image : List ℕ) (tag : Tag) (word : ℕ) (words : List ℕ) → is_event word ≡ false → P image tag (word ∷ words) (over (Err Refusal.EventCode) image tag)) →
    ((image : List ℕ) (tag : Tag) (word : ℕ) (words : List ℕ) → is_event word ≡ true →
    let o : Outcome = step image tag (code_of word) (reading_of word) in
    P o.image o.answered.tag words (course_of o.image o.answered.tag words) →
    P image tag (word ∷ words) (replying o.answered.line (course_of o.image o.answered.tag words))) →
    (image : List ℕ) (tag : Tag) (words : List ℕ) → P image tag words (course_of image tag words)
unfolding course_of
course_cases P none refused event image tag [] = none image tag
course_cases P none refused event image tag (word ∷ words) =
    let o : Outcome = step image tag (code_of word) (reading_of word) in
    either (P image tag (word ∷ words)) (is_event word)
    (λ is. event image tag word words is (course_cases P none refused event o.image o.answered.tag words))
    (λ no. refused image tag word words no)

-- it keeps the image's length and the record's ranges
pub course_length : (image : List ℕ) (tag : Tag) (words : List ℕ) → length (course_of image tag words).image ≡ length image
course_length =
    course_cases (λ image tag words c. length c.image ≡ length image) (λ image tag. refl) (λ image tag word words e. refl)
    (λ image tag word words e rest. rest ∙ length_step image tag (code_of word) (reading_of word))

pub course_in_range : (image : List ℕ) (tag : Tag) (words : List ℕ) → tag_in_range tag ≡ true → tag_in_range (course_of image tag words).tag ≡ true
course_in_range =
    course_cases (λ image tag words c. tag_in_range tag ≡ true → tag_in_range c.tag ≡ true) (λ image tag h. h)
    (λ image tag word words e h. h)
    (λ image tag word words e rest h. rest (step_in_range image tag (code_of word) (reading_of word) h))

-- no more words are done than there are, and all of them where none is refused
pub course_short : (image : List ℕ) (tag : Tag) (words : List ℕ) → length (course_of image tag words).line ≤ length words
course_short =
    course_cases (λ image tag words c. length c.line ≤ length words) (λ image tag. omega arith) (λ image tag word words e. omega arith)
    (λ image tag word words e rest. omega (arith, rest))

-- a list that ended at a refused word is not accepted
refuses : ◌≢◌ {A = Answer} (Err Refusal.EventCode) (Ok tt)
refuses = not_accepted (Err Refusal.EventCode) (omega arith)

course_whole : (image : List ℕ) (tag : Tag) (words : List ℕ) → (course_of image tag words).answer ≡ Ok tt →
    length (course_of image tag words).line ≡ length words
course_whole =
    course_cases (λ image tag words c. c.answer ≡ Ok tt → length c.line ≡ length words) (λ image tag e. refl)
    (λ image tag word words e accepted. absurd (refuses accepted))
    (λ image tag word words e rest accepted. ap suc (rest accepted))

-- one course, and then another
abbrev follows : Course → Course → Course
follows first rest = record { line = first.line ++ rest.line; tag = rest.tag; image = rest.image; answer = rest.answer }

-- the words behind a list that is done whole go on where it ended
course_append : (rest : List ℕ) (image : List ℕ) (tag : Tag) (words : List ℕ) → (course_of image tag words).answer ≡ Ok tt →
    let first = course_of image tag words in
    course_of image tag (words ++ rest) ≡ follows first (course_of first.image first.tag rest)
unfolding course_of
course_append rest =
    course_cases
    (λ image tag words c. c.answer ≡ Ok tt → course_of image tag (words ++ rest) ≡ follows c (course_of c.image c.tag rest))
    (λ image tag e. refl)
    (λ image tag word words e accepted. absurd (refuses accepted))
    (λ image tag word words is on accepted. rw (course_of, is) (ap (replying (step image tag (code_of word) (reading_of word)).answered.line) (on accepted)))

-- ---- a list

-- a list that is accepted passed the three checks, and no word of it was refused
accepted_list : (image : List ℕ) (tag : Tag) (words replies : List ℕ) → (listed image tag words replies).batch.answer ≡ Ok tt →
    (length words ≤ length replies) × (length image ≡ 8832) × (tag_in_range tag ≡ true) × ((course_of image tag words).answer ≡ Ok tt)
accepted_list image tag words replies =
    list_cases image tag words replies
    (λ l. l.batch.answer ≡ Ok tt → (length words ≤ length replies) × (length image ≡ 8832) × (tag_in_range tag ≡ true)
    × ((course_of image tag words).answer ≡ Ok tt))
    (λ few e. absurd (not_accepted (Err Refusal.Replies) (omega arith) e))
    (λ room size e. absurd (not_accepted (Err Refusal.ImageLength) (omega arith) e))
    (λ room whole broken e. absurd (not_accepted (Err Refusal.RecordRange) (omega arith) e))
    (λ room whole in_range e. (room, whole, in_range, e))

replied_append : (replies left : List ℕ) (c d : Course) → length c.line ≡ length replies → length d.line ≤ length left →
    replied (replies ++ left) (follows c d) ≡ joined (replied replies c) (replied left d)
replied_append replies left c d full room =
    rw (length-append c.line d.line, sets_append replies left c.line d.line full room)

-- a list that is accepted, with as many reply bytes as words, and then another that has room for its replies, are one list
pub list_append : (image : List ℕ) (tag : Tag) (words more replies left : List ℕ) →
    let first = listed image tag words replies in
    first.batch.answer ≡ Ok tt → length replies ≡ length words → length more ≤ length left →
    listed image tag (words ++ more) (replies ++ left) ≡ joined first (listed first.image first.batch.tag more left)
list_append image tag words more replies left accepted exact room =
    let a = accepted_list image tag words replies accepted in
    let c = course_of image tag words in
    let kept = course_length image tag words ∙ a.1 in
    let both : length (words ++ more) ≤ length (replies ++ left) =
    rw (length-append words more, length-append replies left) (omega (arith, exact, room)) in
    list_taken image tag (words ++ more) (replies ++ left) both a.1 a.2
    ∙ rw (course_append more image tag words a.3, list_taken image tag words replies a.0 a.1 a.2, list_taken c.image c.tag more left room kept (course_in_range image tag words a.2))
    (replied_append replies left c (course_of c.image c.tag more) (course_whole image tag words a.3 ∙ sym exact)
    (omega (arith, course_short c.image c.tag more, room)))

-- What every call of the tag answers and leaves: the image's length, the record's ranges, and after a refusal all that it was
-- given. Assumes nothing.
use Rattle.std.specs.Prelude.{◌≡◌, refl, Bool, true, false, not, ◌&&◌, List, ◌≢◌, ℕ, zero, suc, ◌≤◌, ◌<◌, eqb, ltb, length, replicate, if◌then◌else◌, Ok, Err}
use Rattle.std.proofs.Common.{sym, ◌∙◌, arith, eq-eqb, ne_eqb, eqb-true, ltb-false, lt-ltb, le-ltb, length-set}
use Rattle.std.proofs.lemmas.Bool.{eqb-false}
use Rattle.std.proofs.lemmas.List.{length-replicate}
use Rattle.answer.specs.Answer.{Answer}
use Rattle.answer.specs.declared.Refusal.{Refusal}
use Rattle.event.specs.Event.{slotted, reset_tag, short_tag, tick_tag}
use Rattle.event.specs.Event.Laws.{length_slotted, length_tick, slotted_in_range, reset_in_range, short_in_range, tick_in_range}
use Rattle.record.specs.declared.Tag.{Tag}
use Rattle.record.specs.Record.{Outcome, good_number, good_code, tag_in_range, fresh_tag, accepted, refusal}
use Rattle.tag.specs.Tag.{new_image, new_tag, event_of, step}

-- ---- which answer

-- an event's own answer: "Answer 1 now begins above 4", "2 tick with a reading above 2047"
unfoldable pub event_answer : ℕ → ℕ → Answer
event_answer code reading =
    if ltb 4 code then Err Refusal.EventCode
    else if eqb code 3 && ltb 2047 reading then Err Refusal.Reading
    else Ok tt

-- "Order: event 3, 6, 1, 2"
unfoldable pub step_answer : List ℕ → Tag → ℕ → ℕ → Answer
step_answer image tag code reading =
    if not (eqb (length image) 8832) then Err Refusal.ImageLength
    else if not (tag_in_range tag) then Err Refusal.RecordRange
    else event_answer code reading

-- what holds of a slot, the two resets, a tick with a reading and the two refusals holds of every event, with its own answer
event_cases : (P : Outcome → Answer → Type 0) (image : List ℕ) (tag : Tag) (code reading : ℕ) →
    ((bit : Bool) → P (slotted image tag bit) (Ok tt)) →
    P (reset_tag image tag) (Ok tt) →
    P (short_tag image tag) (Ok tt) →
    (reading ≤ 2047 → P (tick_tag image tag reading) (Ok tt)) →
    P (refusal (Err Refusal.EventCode) tag image) (Err Refusal.EventCode) →
    P (refusal (Err Refusal.Reading) tag image) (Err Refusal.Reading) →
    P (event_of image tag code reading) (event_answer code reading)
unfolding event_of event_answer
event_cases P image tag code reading slots reset short tick above over =
    by (eqb code 0) (eqb code 1) (eqb code 2) (eqb code 4) (eqb code 3) (ltb 2047 reading) refl refl refl refl refl refl
  where
    by : (zero one two four three high : Bool) →
        eqb code 0 ≡ zero → eqb code 1 ≡ one → eqb code 2 ≡ two → eqb code 4 ≡ four → eqb code 3 ≡ three → ltb 2047 reading ≡ high →
        P (if zero then slotted image tag false
        else if one then slotted image tag true
        else if two then reset_tag image tag
        else if four then short_tag image tag
        else if not three then refusal (Err Refusal.EventCode) tag image
        else if high then refusal (Err Refusal.Reading) tag image
        else tick_tag image tag reading)
        (if ltb 4 code then Err Refusal.EventCode else if three && high then Err Refusal.Reading else Ok tt)
    by true one two four three high p q r f s t = rw (← s, eqb-true code 0 p) (slots false)
    by false true two four three high p q r f s t = rw (← s, eqb-true code 1 q) (slots true)
    by false false true four three high p q r f s t = rw (← s, eqb-true code 2 r) reset
    by false false false true three high p q r f s t = rw (← s, eqb-true code 4 f) short
    by false false false false true true p q r f s t = rw (eqb-true code 3 s) over
    by false false false false true false p q r f s t = rw (eqb-true code 3 s) (tick (ltb-false 2047 reading t))
    by false false false false false high p q r f s t =
        let high : 4 < code =
        omega (arith, eqb-false code 0 p, eqb-false code 1 q, eqb-false code 2 r, eqb-false code 3 s, eqb-false code 4 f) in
        rw (lt-ltb 4 code high) above

-- and with the two refusals that look at image and record first, of every call
step_cases : (P : Outcome → Answer → Type 0) (image : List ℕ) (tag : Tag) (code reading : ℕ) →
    ((bit : Bool) → P (slotted image tag bit) (Ok tt)) →
    P (reset_tag image tag) (Ok tt) →
    P (short_tag image tag) (Ok tt) →
    (reading ≤ 2047 → P (tick_tag image tag reading) (Ok tt)) →
    ((given : Refusal) → P (refusal (Err given) tag image) (Err given)) →
    P (step image tag code reading) (step_answer image tag code reading)
unfolding step step_answer
step_cases P image tag code reading slots reset short tick refused = by (eqb (length image) 8832) (tag_in_range tag)
  where
    by : (whole in_range : Bool) →
        P (if not whole then refusal (Err Refusal.ImageLength) tag image
        else if not in_range then refusal (Err Refusal.RecordRange) tag image
        else event_of image tag code reading)
        (if not whole then Err Refusal.ImageLength else if not in_range then Err Refusal.RecordRange else event_answer code reading)
    by false in_range = refused Refusal.ImageLength
    by true false = refused Refusal.RecordRange
    by true true =
        event_cases P image tag code reading slots reset short tick (refused Refusal.EventCode) (refused Refusal.Reading)

-- the number of every call
pub step_answer_lem : (image : List ℕ) (tag : Tag) (code reading : ℕ) →
    (step image tag code reading).answered.answer ≡ step_answer image tag code reading
unfolding slotted reset_tag short_tag tick_tag
step_answer_lem image tag code reading =
    step_cases (λ o a. o.answered.answer ≡ a) image tag code reading (λ bit. refl) refl refl (λ small. refl) (λ given. refl)

-- of an image of 8,832 bytes and a record in its ranges it is 0, 1 or 2, by the event's own code and reading
pub step_taken : (image : List ℕ) (tag : Tag) (code reading : ℕ) → length image ≡ 8832 → tag_in_range tag ≡ true →
    step image tag code reading ≡ event_of image tag code reading
unfolding step
step_taken image tag code reading whole in_range = rw (eq-eqb (length image) 8832 whole, in_range)

-- a slot by its code, whose bit is the code
pub event_slot : (image : List ℕ) (tag : Tag) (code reading : ℕ) → code < 2 →
    event_of image tag code reading ≡ slotted image tag (eqb code 1)
unfolding event_of
event_slot image tag zero reading h = refl
event_slot image tag (suc zero) reading h = refl
event_slot image tag (suc (suc code)) reading h = absurd (omega arith)

pub event_reset : (image : List ℕ) (tag : Tag) (code reading : ℕ) → code ≡ 2 → event_of image tag code reading ≡ reset_tag image tag
unfolding event_of
event_reset image tag code reading e = simp e

pub event_short : (image : List ℕ) (tag : Tag) (code reading : ℕ) → code ≡ 4 → event_of image tag code reading ≡ short_tag image tag
unfolding event_of
event_short image tag code reading e = simp e

pub event_tick : (image : List ℕ) (tag : Tag) (code reading : ℕ) → code ≡ 3 → reading ≤ 2047 →
    event_of image tag code reading ≡ tick_tag image tag reading
unfolding event_of
event_tick image tag code reading e small = simp (e, le-ltb 2047 reading small)

pub event_reading : (image : List ℕ) (tag : Tag) (code reading : ℕ) → code ≡ 3 → 2047 < reading →
    event_of image tag code reading ≡ refusal (Err Refusal.Reading) tag image
unfolding event_of
event_reading image tag code reading e large = simp (e, lt-ltb 2047 reading large)

-- and every code that is none
pub event_other : (image : List ℕ) (tag : Tag) (code reading : ℕ) → 2 ≤ code → code ≢ 2 → code ≢ 3 → code ≢ 4 →
    event_of image tag code reading ≡ refusal (Err Refusal.EventCode) tag image
unfolding event_of
event_other image tag code reading h no-reset no-tick no_short =
    simp (
      ne_eqb code 0 (λ e. absurd (omega (arith, e))),
      ne_eqb code 1 (λ e. absurd (omega (arith, e))),
      ne_eqb code 2 no-reset,
      ne_eqb code 3 no-tick,
      ne_eqb code 4 no_short,
    )

pub answer_taken : (image : List ℕ) (tag : Tag) (code reading : ℕ) → length image ≡ 8832 → tag_in_range tag ≡ true →
    (step image tag code reading).answered.answer ≡ event_answer code reading
unfolding step_answer
answer_taken image tag code reading whole in_range =
    step_answer_lem image tag code reading ∙ rw (eq-eqb (length image) 8832 whole, in_range)

-- ---- a refusal

-- "A refusal returns bit 1, the record as given .. and no lent byte .. changed"
pub step_refused : (image : List ℕ) (tag : Tag) (code reading : ℕ) → (step image tag code reading).answered.answer ≢ Ok tt →
    step image tag code reading ≡ refusal (step image tag code reading).answered.answer tag image
unfolding slotted reset_tag short_tag tick_tag
step_refused image tag code reading =
    step_cases (λ o a. o.answered.answer ≢ Ok tt → o ≡ refusal o.answered.answer tag image) image tag code reading
    (λ bit refused. absurd (refused refl))
    (λ refused. absurd (refused refl))
    (λ refused. absurd (refused refl))
    (λ small refused. absurd (refused refl))
    (λ given refused. refl)

-- ---- the image's length

pub length_event : (image : List ℕ) (tag : Tag) (code reading : ℕ) → length (event_of image tag code reading).image ≡ length image
unfolding reset_tag short_tag
length_event image tag code reading =
    event_cases (λ o a. length o.image ≡ length image) image tag code reading
    (length_slotted image tag)
    refl
    refl
    (λ small. length_tick image tag reading)
    refl
    refl

pub length_step : (image : List ℕ) (tag : Tag) (code reading : ℕ) → length (step image tag code reading).image ≡ length image
unfolding reset_tag short_tag
length_step image tag code reading =
    step_cases (λ o a. length o.image ≡ length image) image tag code reading
    (length_slotted image tag)
    refl
    refl
    (λ small. length_tick image tag reading)
    (λ given. refl)

-- ---- the record's ranges

-- "none reached from a new tag by events" breaks them
pub step_in_range : (image : List ℕ) (tag : Tag) (code reading : ℕ) → tag_in_range tag ≡ true →
    tag_in_range (step image tag code reading).answered.tag ≡ true
step_in_range image tag code reading h =
    step_cases (λ o a. tag_in_range o.answered.tag ≡ true) image tag code reading
    (λ bit. slotted_in_range image tag bit h)
    (reset_in_range image tag h)
    (short_in_range image tag h)
    (λ small. tick_in_range image tag reading small h)
    (λ given. h)

-- ---- a new tag

-- "new tag 3, 4, 5"
unfoldable pub new_answer : List ℕ → ℕ → ℕ → Answer
new_answer image number code =
    if not (eqb (length image) 8832) then Err Refusal.ImageLength
    else if not (good_number number) then Err Refusal.RomNumber
    else if not (good_code code) then Err Refusal.Configuration
    else Ok tt

-- what a new tag that is accepted leaves
abbrev pub new_outcome : ℕ → ℕ → Outcome
new_outcome number code = record { answered = accepted (fresh_tag number code) true; image = new_image 8832 }

new_cases : (P : Outcome → Answer → Type 0) (image : List ℕ) (number code : ℕ) →
    ((given : Refusal) → P (refusal (Err given) (fresh_tag 0 0) image) (Err given)) →
    (length image ≡ 8832 → good_number number ≡ true → good_code code ≡ true → P (new_outcome number code) (Ok tt)) →
    P (new_tag image number code) (new_answer image number code)
unfolding new_tag new_answer
new_cases P image number code refused made = by (eqb (length image) 8832) (good_number number) (good_code code) refl refl refl
  where
    by : (whole good known : Bool) → eqb (length image) 8832 ≡ whole → good_number number ≡ good → good_code code ≡ known →
        P (if not whole then refusal (Err Refusal.ImageLength) (fresh_tag 0 0) image
        else if not good then refusal (Err Refusal.RomNumber) (fresh_tag 0 0) image
        else if not known then refusal (Err Refusal.Configuration) (fresh_tag 0 0) image
        else new_outcome number code)
        (if not whole then Err Refusal.ImageLength else if not good then Err Refusal.RomNumber else if not known then Err Refusal.Configuration else Ok tt)
    by false good known p q r = refused Refusal.ImageLength
    by true false known p q r = refused Refusal.RomNumber
    by true true false p q r = refused Refusal.Configuration
    by true true true p q r = made (eqb-true (length image) 8832 p) q r

pub new_answer_lem : (image : List ℕ) (number code : ℕ) → (new_tag image number code).answered.answer ≡ new_answer image number code
new_answer_lem image number code =
    new_cases (λ o a. o.answered.answer ≡ a) image number code (λ given. refl) (λ whole good known. refl)

-- "(a refused new tag: the record of all zeros ..)"
pub new_refused : (image : List ℕ) (number code : ℕ) → (new_tag image number code).answered.answer ≢ Ok tt →
    new_tag image number code ≡ refusal (new_tag image number code).answered.answer (fresh_tag 0 0) image
new_refused image number code =
    new_cases (λ o a. o.answered.answer ≢ Ok tt → o ≡ refusal o.answered.answer (fresh_tag 0 0) image) image number code
    (λ given refused. refl) (λ whole good known refused. absurd (refused refl))

-- one that is accepted had good image, number and code ..
pub new_good : (image : List ℕ) (number code : ℕ) → (new_tag image number code).answered.answer ≡ Ok tt →
    (length image ≡ 8832) × (good_number number ≡ true) × (good_code code ≡ true)
new_good image number code =
    new_cases
    (λ o a. o.answered.answer ≡ Ok tt → (length image ≡ 8832) × (good_number number ≡ true) × (good_code code ≡ true))
    image number code
    (λ given e. cc)
    (λ whole good known e. (whole, good, known))

-- .. and those make one
pub new_made : (image : List ℕ) (number code : ℕ) → length image ≡ 8832 → good_number number ≡ true → good_code code ≡ true →
    new_tag image number code ≡ new_outcome number code
unfolding new_tag
new_made image number code whole good known = rw (eq-eqb (length image) 8832 whole, good, known)

pub length_new : (n : ℕ) → length (new_image n) ≡ n
unfolding new_image
length_new n = length-set (replicate n 0) 0x0214 0x80 ∙ length-replicate n 0

pub length_made : (image : List ℕ) (number code : ℕ) → length (new_tag image number code).image ≡ length image
length_made image number code =
    new_cases (λ o a. length o.image ≡ length image) image number code (λ given. refl)
    (λ whole good known. length_new 8832 ∙ sym whole)

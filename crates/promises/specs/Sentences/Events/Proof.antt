-- The calls of a tag answer by document 01's numbers, a refusal leaves what it was given, and events keep a fit state. Assumes nothing.
use Rattle.std.specs.Prelude.{◌≡◌, refl, Bool, true, false, not, ◌&&◌, List, ◌≢◌, ℕ, ◌+◌, ◌-◌, eqb, leb, ltb, length, get_or, replicate, if◌then◌else◌, Ok, Err}
use Rattle.std.proofs.Common.{sym, ap, ◌∙◌, arith, ne_eqb, get_or-set_same, get_or-set_other}
use Rattle.std.proofs.Math.Bool.{and-false}
use Rattle.std.proofs.Math.Logic.{dite}
use Rattle.std.proofs.Math.Decide.{dec_le, ℕ_discrete}
use Rattle.std.proofs.lemmas.List.{length-replicate}
use Rattle.answer.specs.Answer.Laws.{accepted_is}
use Rattle.answer.specs.Answer.{Answer}
use Rattle.answer.specs.declared.Refusal.{Refusal}
use Rattle.bits.specs.Bits.{bit_of}
use Rattle.bits.specs.Bytes.{byte_blank}
use Rattle.bits.specs.Choose.{choice}
use Rattle.event.specs.Event.{slotted, reset_tag, tick_tag}
use Rattle.exchange.specs.declared.Exchange.{Exchange}
use Rattle.exchange.specs.declared.Slotted.{Slotted}
use Rattle.exchange.specs.Exchange.{slot_of}
use Rattle.memory.specs.Memory as memory
use Rattle.record.specs.declared.Tag.{Tag}
use Rattle.record.specs.Record.{Outcome, good_number, good_code, refusal}
use Rattle.select.specs.declared.Choosing.{Choosing}
use Rattle.select.specs.declared.Mode.{Mode}
use Rattle.select.specs.Select as select
use Rattle.tag.specs.Tag.{new_image, new_tag, event_of, step}
use Rattle.tag.proofs.Tag.Laws.{event_answer, step_answer, new_answer, step_answer_lem, step_refused, new_answer_lem, new_refused, new_good, new_made, length_new}
use Rattle.promises.specs.Line.Slots.{line_event}
use Rattle.promises.specs.Ranges.{is_rom, is_configuration, in_range, Fit}
use Rattle.promises.specs.Ranges.Laws.{crc8_is, range_is, fit_sound, fit_after, reached_fit}
use Rattle.promises.specs.Runs.{State, Event, after}
use Rattle.promises.specs.Runs.Laws.{slot_happens, reset_happens, tick_happens, tick_passed, number_run, code_run}
use Rattle.promises.specs.Sentences.Events.{number_in, own_number, event_number, new_number, Defined, clear_tag, Events}
use Rattle.promises.specs.Sentences.Events.Slots.{slot_listens, slot_sends}
use Rattle.promises.specs.Words.{byte_at}

-- ---- numbers

-- the number of an answer that is chosen is chosen by the same test
pub numbered : (test : Bool) (a b : Answer) {m n : ℕ} → number_in a ≡ m → number_in b ≡ n → number_in (if test then a else b) ≡ (if test then m else n)
numbered true a b p q = p
numbered false a b p q = q

-- 0 is the number of no refusal
number_refuses : {answer : Answer} {number : ℕ} → number_in answer ≡ number → number ≢ 0 → answer ≢ (Ok tt)
number_refuses p bad e = bad (sym p ∙ ap number_in e)

pub number_accepts : {answer : Answer} → number_in answer ≡ 0 → answer ≡ Ok tt
number_accepts {answer} e = accepted_is answer e

-- an event's own number, by its code and reading
own_number_lem : (code reading : ℕ) → number_in (event_answer code reading) ≡ own_number code reading
unfolding event_answer own_number
own_number_lem code reading =
    numbered (ltb 4 code) (Err Refusal.EventCode) _ refl (numbered (eqb code 3 && ltb 2047 reading) (Err Refusal.Reading) (Ok tt) refl refl)

-- an event's number, and a new tag's
event_number_lem : (image : List ℕ) (tag : Tag) (code reading : ℕ) →
    number_in (step image tag code reading).answered.answer ≡ event_number image tag code reading
unfolding step_answer event_number
event_number_lem image tag code reading =
    ap number_in (step_answer_lem image tag code reading)
    ∙ rw (← range_is tag)
    (numbered (not (eqb (length image) 8832)) (Err Refusal.ImageLength) _ refl
    (numbered (not (in_range tag)) (Err Refusal.RecordRange) (event_answer code reading) refl (own_number_lem code reading)))

-- a number that 4 lets pass is one that the record's ranges do
pub rom_is : (number : ℕ) → is_rom number ≡ good_number number
unfolding good_number
rom_is number = rw (crc8_is number)

new_number_lem : (image : List ℕ) (number code : ℕ) → number_in (new_tag image number code).answered.answer ≡ new_number image number code
unfolding new_answer new_number good_code
new_number_lem image number code =
    ap number_in (new_answer_lem image number code)
    ∙ rw (← rom_is number)
    (numbered (not (eqb (length image) 8832)) (Err Refusal.ImageLength) _ refl
    (numbered (not (is_rom number)) (Err Refusal.RomNumber) _ refl
    (numbered (not (is_configuration code)) (Err Refusal.Configuration) (Ok tt) refl refl)))

-- the record of all zeros breaks its ranges
zeros_number : (image : List ℕ) (code reading : ℕ) → event_number image (clear_tag 0 0) code reading ≡ (if eqb (length image) 8832 then 6 else 3)
unfolding event_number in_range
zeros_number image code reading = by (eqb (length image) 8832)
  where
    by : (whole : Bool) → ◌≡◌ {A = ℕ} (if not whole then 3 else 6) (if whole then 6 else 3)
    by true = refl
    by false = refl

-- ---- what is left

-- what a refusal gives, one by one
refusal_gives : {o : Outcome} {answer : Answer} {image : List ℕ} {tag : Tag} → o ≡ refusal answer tag image →
    (o.answered.line ≡ true) × (o.answered.tag ≡ tag) × (o.image ≡ image)
refusal_gives p = (ap (λ (o : Outcome). o.answered.line) p, ap (λ (o : Outcome). o.answered.tag) p, ap (λ (o : Outcome). o.image) p)

-- of an event, and of a new tag
event_defined : (image : List ℕ) (tag : Tag) (code reading : ℕ) → Defined (event_number image tag code reading) image tag (step image tag code reading)
event_defined image tag code reading =
    let number = event_number_lem image tag code reading in
    record { answer = number; refusal = λ bad. refusal_gives (step_refused image tag code reading (number_refuses number bad)) }

new_defined : (image : List ℕ) (number code : ℕ) → Defined (new_number image number code) image (clear_tag 0 0) (new_tag image number code)
unfolding select.mode_of
new_defined image number code =
    let counted = new_number_lem image number code in
    record { answer = counted; refusal = λ bad. refusal_gives (new_refused image number code (number_refuses counted bad)) }

-- a reading is asked for by code 3 alone
reading_unread : (image : List ℕ) (tag : Tag) (code reading : ℕ) → code ≢ 3 → step image tag code reading ≡ step image tag code 0
unfolding step event_of
reading_unread image tag code reading other = rw (ne_eqb code 3 other)

-- the image of a new tag: BOR alone is 1
new_byte : (k : ℕ) → k ≢ 0x0214 → get_or (new_image 8832) k 0 ≡ 0
unfolding new_image
new_byte k other = get_or-set_other (replicate 8832 0) 0x0214 k 0x80 0 other ∙ byte_blank 8832 k

made_byte : (address : ℕ) → byte_at (new_image 8832) address ≡ (if eqb address 0x0214 then 0x80 else 0x00)
unfolding new_image
made_byte address =
    dite (ℕ_discrete address 0x0214)
    (λ here. rw here (get_or-set_same (replicate 8832 0) 0x0214 0x80 0 (rw (length-replicate {A = ℕ} 8832 0) (omega arith))))
    (λ other. rw (ne_eqb address 0x0214 other)
    (choice (λ n. n ≡ 0) (ltb address 0x0280) (new_byte address other)
    (choice (λ n. n ≡ 0) (leb 0x1000 address && ltb address 0x3000) (new_byte (640 + (address - 0x1000)) (λ e. omega (arith, e))) refl)))

-- what an accepted new tag is
new_made_so : (image : List ℕ) (number code : ℕ) → new_number image number code ≡ 0 →
    let out = new_tag image number code in
    (out.answered.line ≡ true) × (out.answered.tag ≡ clear_tag number code) × (length out.image ≡ 8832)
    × ((address : ℕ) → byte_at out.image address ≡ (if eqb address 0x0214 then 0x80 else 0x00))
unfolding select.mode_of
new_made_so image number code e =
    let good = new_good image number code (number_accepts (new_number_lem image number code ∙ e)) in
    rw (new_made image number code good.0 good.1 good.2) (refl, refl, length_new 8832, made_byte)

-- ---- line bits

-- the master's bit goes into every bit of choosing
low_choosing : (choosing : Choosing) (mode : Mode) (number : ℕ) (alarm : Bool) → (select.slot_at choosing mode number false alarm).line ≡ false
unfolding select.slot_at
low_choosing Choosing.Silent mode number alarm = refl
low_choosing (Choosing.Command heard count) mode number alarm = refl
low_choosing (Choosing.Reading at) mode number alarm = and-false (bit_of number at)
low_choosing (Choosing.Matching fast at) mode number alarm = refl
low_choosing (Choosing.Giving at) mode number alarm = and-false (bit_of number at)
low_choosing (Choosing.Complementing at) mode number alarm = and-false (not (bit_of number at))
low_choosing (Choosing.Awaiting at) mode number alarm = refl
low_choosing Choosing.Selected mode number alarm = refl

-- and into every bit of a memory command
low_slot : (x : Exchange) (answer : ℕ) → (slot_of x false answer).line ≡ false
unfolding slot_of memory.slot_of memory.on_line select.slot_of
low_slot x answer =
    choice (λ (s : Slotted). s.line ≡ false) (select.is_selected x.select) refl
    (low_choosing x.select.choosing x.select.mode x.number (eqb answer 1))

-- a tick, refused or not, leaves the exchange
tick_leaves : {s : State} → Fit s → (reading : ℕ) → (after s (Event.tick reading)).tag.exchange ≡ s.tag.exchange
unfolding after tick_tag
tick_leaves fit reading =
    dite (dec_le reading 2047) (λ small. rw (tick_happens (fit_sound fit) reading small))
    (λ high. rw (tick_passed (fit_sound fit) reading (omega arith)))

-- ---- the sentences

pub events : Events
unfolding slotted reset_tag tick_tag
events =
    record {
      event = event_defined;
      reading = reading_unread;
      new = new_defined;
      made = new_made_so;
      zeros = λ image code reading. event_number_lem image (clear_tag 0 0) code reading ∙ zeros_number image code reading;
      reached = reached_fit;
      stays_fit = λ e fit. fit_after fit e;
      reset = λ {s} fit. line_event s Event.reset (reset_happens (fit_sound fit));
      tick = λ {s} fit reading small. line_event s (Event.tick reading) (tick_happens (fit_sound fit) reading small);
      low_slot = λ {s} fit. line_event s (Event.slot false) (slot_happens (fit_sound fit) false) ∙ low_slot s.tag.exchange _;
      listens = slot_listens;
      sent = slot_sends;
      tick_line = tick_leaves;
      same_tag = λ fit es. (number_run es (fit_sound fit), code_run es (fit_sound fit));
    }

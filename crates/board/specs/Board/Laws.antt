-- An event of a line, by its cases, and a slot or a reset of one tag as the code has it. Assumes nothing.
use Rattle.std.specs.Prelude.{Bool, true, false, not, ◌&&◌, ◌||◌, ◌≡◌, refl, List, ◌≢◌, eqb, leb, ltb, length, get_or, if◌then◌else◌, Ok, Err}
use Rattle.std.proofs.lemmas.Bool.{false≢true}
use Rattle.std.proofs.Math.Path.{sym, ap}
use Rattle.std.proofs.Common.{◌∙◌, zero-add, eqb-true, leb-true, leb-false, ltb-false, eq-eqb, ne_eqb, lt-ltb, le-ltb, le-leb}
use Rattle.std.proofs.Math.Logic.{dite}
use Prim.Native.Nat.{ℕ, zero, suc, ◌+◌, ◌*◌, ◌-◌, ◌≤◌, ◌<◌}
use Rattle.std.proofs.Math.Decide.{dec_lt, ℕ_discrete}
use Rattle.std.proofs.Math.Nat.{sub-zero}
use native.Mathlib.Omega.{arith}
use Rattle.answer.specs.Answer.{Answer, answer_number}
use Rattle.answer.specs.Answer.Laws.{refusal_counts, accepted_is}
use Rattle.std.specs.Result.{is_ok}
use Rattle.answer.specs.declared.Refusal.{Refusal}
use Rattle.bits.specs.Choose.{either}
use Rattle.bits.specs.Each.{each}
use Rattle.event.specs.Event.{slotted, reset_tag, short_tag, tick_tag}
use Rattle.record.specs.declared.Answered.{Answered}
use Rattle.record.specs.declared.Tag.{Tag}
use Rattle.record.specs.Record.{Outcome, good_number, good_code, tag_in_range}
use Rattle.tag.specs.Tag.{new_tag, event_of}
use Rattle.tag.proofs.Tag.Laws.{event_slot, event_reset, event_short, event_tick}
use Rattle.board.specs.Board.{image_at, with_image, tag_at, with_tag, number_at, is_count, names_none, is_high, same_number, judged_by, judged, Left, refusal, Going, begun, reached, across, taken, accepted, line_step, new_fault, new_judged, empty_board, new_at, new_line}
use Rattle.board.specs.declared.Board.{Board}

-- ---- a slot or a reset of one tag

unfoldable pub heard : List ℕ → Tag → ℕ → Outcome
heard image tag code = if ltb code 2 then slotted image tag (eqb code 1) else if eqb code 2 then reset_tag image tag else short_tag image tag

pub heard_is : (image : List ℕ) (tag : Tag) (code : ℕ) → code ≤ 4 → code ≢ 3 → heard image tag code ≡ event_of image tag code 0
unfolding heard
heard_is image tag code few none =
    dite (dec_lt code 2) (λ slot. rw (lt-ltb code 2 slot, event_slot image tag code 0 slot) refl)
    (λ past. dite (ℕ_discrete code 2)
    (λ two. rw (le-ltb code 2 (omega (arith, two)), eq-eqb code 2 two, event_reset image tag code 0 two) refl)
    (λ other. rw (le-ltb code 2 (omega (arith, past)), ne_eqb code 2 other, event_short image tag code 0 (omega (arith, few, none, past, other))) refl))

-- ---- what is judged

-- an answer that is accepted has the number 0, and no other
pub accepts : (answer : Answer) {ok : Bool} → ok ≡ is_ok answer → ok ≡ true → answer_number answer ≡ 0
accepts (Ok _) p e = refl
accepts (Err _) p e = absurd (false≢true (sym p ∙ e))

pub refuses : (answer : Answer) {ok : Bool} → ok ≡ is_ok answer → ok ≡ false → answer_number answer ≢ 0
refuses (Ok _) p e = absurd (false≢true (sym e ∙ p))
refuses (Err refusal) p e = λ zero. absurd (omega (arith, refusal_counts refusal, zero))

-- a count of a line
pub counted : (count : ℕ) → is_count count ≡ true → (1 ≤ count) × (count ≤ 7)
unfolding is_count
counted count e = by (leb 1 count) (leb count 7) refl refl e
  where
    by : (some few : Bool) → leb 1 count ≡ some → leb count 7 ≡ few → (some && few) ≡ true → (1 ≤ count) × (count ≤ 7)
    by true true p q e = (leb-true 1 count p, leb-true count 7 q)
    by true false p q e = absurd (false≢true e)
    by false few p q e = absurd (false≢true e)

-- how many of the seven records a count speaks of
unfoldable pub places_of : ℕ → ℕ
places_of count = if leb count 7 then count else 7

pub places_some : (count : ℕ) → places_of count ≤ 7
unfolding places_of
places_some count = either (λ n. n ≤ 7) (leb count 7) (leb-true count 7) (λ e. omega arith)

pub places_counted : (count : ℕ) → is_count count ≡ true → places_of count ≡ count
unfolding places_of
places_counted count e = rw (le-leb count 7 (counted count e).1)

-- what an event has passed that is accepted
pub record Passed (count size : ℕ) (same good : Bool) (code place reading : ℕ) : Type 0 where
  pub few : is_count count ≡ true
  pub named : names_none count code place ≡ false
  pub whole : size ≡ count * 8832
  pub apart : same ≡ false
  pub ranges : good ≡ true
  pub event : code ≤ 4
  pub low : is_high code reading ≡ false

pub passed : (count size : ℕ) (same good : Bool) (code place reading : ℕ) → answer_number (judged_by count size same good code place reading) ≡ 0 →
    Passed count size same good code place reading
unfolding judged_by
passed count size same good code place reading =
    by (is_count count) (names_none count code place) (eqb size (count * 8832)) same good (ltb 4 code) (is_high code reading) refl refl refl refl refl refl refl
  where
    by : (c n s t g e h : Bool) → is_count count ≡ c → names_none count code place ≡ n → eqb size (count * 8832) ≡ s → same ≡ t → good ≡ g →
        ltb 4 code ≡ e → is_high code reading ≡ h →
        answer_number
        (if not c || n then Err Refusal.TagPlace
        else if not s then Err Refusal.ImageLength
        else if t then Err Refusal.SameNumber
        else if not g then Err Refusal.RecordRange
        else if e then Err Refusal.EventCode
        else if h then Err Refusal.Reading
        else Ok tt)
        ≡ 0 → Passed count size same good code place reading
    by true false true false true false false c n s t g e h o =
        record { few = c; named = n; whole = eqb-true _ _ s; apart = t; ranges = g; event = ltb-false 4 code e; low = h }
    by false n s t g e h c p q r u v w o = absurd (omega arith)
    by true true s t g e h c p q r u v w o = absurd (omega arith)
    by true false false t g e h c p q r u v w o = absurd (omega arith)
    by true false true true g e h c p q r u v w o = absurd (omega arith)
    by true false true false false e h c p q r u v w o = absurd (omega arith)
    by true false true false true true h c p q r u v w o = absurd (omega arith)
    by true false true false true false true c p q r u v w o = absurd (omega arith)

-- a tick that is accepted names a tag, and has a reading
pub tick_named : (count code place : ℕ) → names_none count code place ≡ false → code ≡ 3 → place < count
unfolding names_none
tick_named count code place none three =
    leb-false count place (sym (ap (λ (b : Bool). b && leb count place) (eq-eqb code 3 three)) ∙ none)

pub tick_low : (code reading : ℕ) → is_high code reading ≡ false → code ≡ 3 → reading ≤ 2047
unfolding is_high
tick_low code reading none three =
    ltb-false 2047 reading (sym (ap (λ (b : Bool). b && ltb 2047 reading) (eq-eqb code 3 three)) ∙ none)

-- two numbers and the ranges count only where the count is one
pub judged_by_lem : (size : ℕ) (board : Board) (same good : Bool) (code place reading : ℕ) →
    (is_count board.count ≡ true →
    (same ≡ same_number board.count (number_at board)) × (good ≡ each board.count (λ i. tag_in_range (tag_at board i)))) →
    judged_by board.count size same good code place reading ≡ judged size board code place reading
unfolding judged judged_by
judged_by_lem size board same good code place reading known = by (is_count board.count) refl
  where
    by : (c : Bool) → is_count board.count ≡ c →
        judged_by board.count size same good code place reading ≡ judged size board code place reading
    by true c = λ i. judged_by board.count size ((known c).0 i) ((known c).1 i) code place reading
    by false c = rw c

-- ---- an event, by its cases

module _ (block : List ℕ) (board : Board) (code place reading : ℕ) where
  pub line_refused : answer_number (judged (length block) board code place reading) ≢ 0 →
      line_step block board code place reading ≡ refusal (judged (length block) board code place reading) block board
  unfolding line_step
  line_refused fault = rw (ne_eqb _ 0 fault)

  pub line_taken : answer_number (judged (length block) board code place reading) ≡ 0 →
      line_step block board code place reading ≡ accepted (taken (begun block board) code place reading)
  unfolding line_step
  line_taken none = rw (eq-eqb _ 0 none)

  -- so its answer is what was judged
  pub line_answer : (line_step block board code place reading).shown.answer ≡ judged (length block) board code place reading
  line_answer =
      dite (ℕ_discrete (answer_number (judged (length block) board code place reading)) 0)
      (λ none. ap (λ (o : Left). o.shown.answer) (line_taken none) ∙ sym (accepted_is _ none))
      (λ fault. ap (λ (o : Left). o.shown.answer) (line_refused fault))

  pub line_judged : (line_step block board code place reading).shown.answer ≡ Ok tt →
      answer_number (judged (length block) board code place reading) ≡ 0
  line_judged accepts = ap answer_number (sym line_answer ∙ accepts)

pub taken_tick : (l : Going) (code place reading : ℕ) → code ≡ 3 → taken l code place reading ≡ reached 3 reading place l
unfolding taken
taken_tick l code place reading three = rw (eq-eqb code 3 three)

pub taken_given : (l : Going) (code place reading : ℕ) → code ≢ 3 → taken l code place reading ≡ across (reached code 0) 0 l.board.count l
unfolding taken
taken_given l code place reading other = rw (ne_eqb code 3 other)

-- ---- place by place

module _ (visit : ℕ → Going → Going) where
  pub across_all : (count : ℕ) (l : Going) → across visit 0 (count - 0) l ≡ across visit 0 count l
  across_all count l = ap (λ (n : ℕ). across visit 0 n l) (sub-zero count)

  -- the next of those that are left
  pub across_next : (place count : ℕ) (l : Going) → place < count →
      across visit (place + 1) (count - (place + 1)) (visit place l) ≡ across visit place (count - place) l
  unfolding across
  across_next place count l h =
      let left : count - place ≡ suc (count - (place + 1)) = omega (arith, h) in
      sym (ap (λ (n : ℕ). across visit place n l) left)

  pub across_over : (place count : ℕ) (l : Going) → count ≤ place → across visit place (count - place) l ≡ l
  unfolding across
  across_over place count l h = let none : count - place ≡ 0 = omega (arith, h) in ap (λ (n : ℕ). across visit place n l) none

  last_from : (left place : ℕ) (l : Going) → across visit place (suc left) l ≡ visit (place + left) (across visit place left l)
  unfolding across
  last_from zero place l = let here : place + 0 ≡ place = omega arith in rw here
  last_from (suc left) place l =
      let same : place + 1 + left ≡ place + suc left = omega arith in
      last_from left (place + 1) (visit place l) ∙ ap (λ (n : ℕ). visit n (across visit (place + 1) left (visit place l))) same

  -- the last of them
  pub across_last : (n : ℕ) (l : Going) → across visit 0 (suc n) l ≡ visit n (across visit 0 n l)
  across_last n l = last_from n 0 l ∙ ap (λ (place : ℕ). visit place (across visit 0 n l)) (zero-add n)

-- ---- what the tag at a place leaves, as the code has it

module _ (l : Going) (place : ℕ) (tag : Tag) (own : tag ≡ tag_at l.board place) (answered : Answered) (image : List ℕ) where
  abbrev pub next : Going
  next =
      record {
        block = with_image l.block place image;
        board = with_tag l.board place answered.tag;
        line = l.line && answered.line;
      }

  by_event : (code reading : ℕ) → answered ≡ (event_of (image_at l.block place) tag code reading).answered →
      image ≡ (event_of (image_at l.block place) tag code reading).image → reached code reading place l ≡ next
  unfolding reached
  by_event code reading a m =
      rw (sym own) (λ i. record {
        block = with_image l.block place (sym m i);
        board = with_tag l.board place (sym a i).tag;
        line = l.line && (sym a i).line;
      })

  -- `lent` is the part of the block that was lent for it
  pub reached_heard : (code : ℕ) → code ≤ 4 → code ≢ 3 → (lent : List ℕ) → lent ≡ image_at l.block place →
      answered ≡ (heard lent tag code).answered → image ≡ (heard lent tag code).image → reached code 0 place l ≡ next
  reached_heard code few none lent part a m =
      let same = ap (λ (n : List ℕ). heard n tag code) part ∙ heard_is (image_at l.block place) tag code few none in
      by_event code 0 (a ∙ ap (λ (o : Outcome). o.answered) same) (m ∙ ap (λ (o : Outcome). o.image) same)

  pub reached_ticked : (reading : ℕ) → reading ≤ 2047 → (lent : List ℕ) → lent ≡ image_at l.block place →
      answered ≡ (tick_tag lent tag reading).answered → image ≡ (tick_tag lent tag reading).image → reached 3 reading place l ≡ next
  reached_ticked reading low lent part a m =
      let same =
      ap (λ (n : List ℕ). tick_tag n tag reading) part ∙ sym (event_tick (image_at l.block place) tag 3 reading refl low) in
      by_event 3 reading (a ∙ ap (λ (o : Outcome). o.answered) same) (m ∙ ap (λ (o : Outcome). o.image) same)

-- ---- a new line

module _ (block numbers codes : List ℕ) where
  pub new_refused : answer_number (new_judged (length block) numbers codes) ≢ 0 →
      new_line block numbers codes ≡ refusal (new_judged (length block) numbers codes) block (empty_board 0)
  unfolding new_line
  new_refused fault = rw (ne_eqb _ 0 fault)

  pub new_taken : answer_number (new_judged (length block) numbers codes) ≡ 0 →
      new_line block numbers codes ≡ accepted (across (new_at numbers codes) 0 (length numbers) (begun block (empty_board (length numbers))))
  unfolding new_line
  new_taken none = rw (eq-eqb _ 0 none)

  pub new_answer_lem : (new_line block numbers codes).shown.answer ≡ new_judged (length block) numbers codes
  new_answer_lem =
      dite (ℕ_discrete (answer_number (new_judged (length block) numbers codes)) 0)
      (λ none. ap (λ (o : Left). o.shown.answer) (new_taken none) ∙ sym (accepted_is _ none))
      (λ fault. ap (λ (o : Left). o.shown.answer) (new_refused fault))

module _ (numbers codes : List ℕ) where
  -- the faults from a place on
  pub fault_next : (place count : ℕ) → place < count →
      new_fault numbers codes place (count - place)
      ≡ (if not (good_number (get_or numbers place 0)) then Err Refusal.RomNumber
      else if not (good_code (get_or codes place 0)) then Err Refusal.Configuration
      else new_fault numbers codes (place + 1) (count - (place + 1)))
  unfolding new_fault
  fault_next place count h =
      let left : count - place ≡ suc (count - (place + 1)) = omega (arith, h) in ap (new_fault numbers codes place) left

  pub fault_over : (place count : ℕ) → count ≤ place → new_fault numbers codes place (count - place) ≡ Ok tt
  unfolding new_fault
  fault_over place count h = let none : count - place ≡ 0 = omega (arith, h) in ap (new_fault numbers codes place) none

-- the tag that is made at a place, as the code has it; `lent` is the part of the block that was lent for it
pub made_at : (numbers codes : List ℕ) (place : ℕ) (l : Going) (code : ℕ) → code ≡ get_or codes place 0 →
    (lent : List ℕ) → lent ≡ image_at l.block place → (answered : Answered) → answered ≡ (new_tag lent (get_or numbers place 0) code).answered →
    (image : List ℕ) → image ≡ (new_tag lent (get_or numbers place 0) code).image →
    new_at numbers codes place l
    ≡ record { block = with_image l.block place image; board = with_tag l.board place answered.tag; line = true }
unfolding new_at
made_at numbers codes place l code c lent part answered a image m =
    let number = get_or numbers place 0 in
    let same : new_tag lent number code ≡ new_tag (image_at l.block place) number (get_or codes place 0) = λ i. new_tag (part i) number (c i) in
    λ i. record {
      block = with_image l.block place (sym (m ∙ ap (λ (o : Outcome). o.image) same) i);
      board = with_tag l.board place (sym (a ∙ ap (λ (o : Outcome). o.answered) same) i).tag;
      line = true;
    }

-- what a new line has passed that is accepted
pub record Good (size : ℕ) (numbers codes : List ℕ) : Type 0 where
  pub few : is_count (length numbers) ≡ true
  pub many : length codes ≡ length numbers
  pub whole : size ≡ length numbers * 8832
  pub apart : same_number (length numbers) (λ i. get_or numbers i 0) ≡ false
  pub sound : answer_number (new_fault numbers codes 0 (length numbers)) ≡ 0

pub good : (size : ℕ) (numbers codes : List ℕ) → answer_number (new_judged size numbers codes) ≡ 0 → Good size numbers codes
unfolding new_judged
good size numbers codes =
    by (is_count (length numbers)) (eqb (length codes) (length numbers)) (eqb size (length numbers * 8832))
    (same_number (length numbers) (λ i. get_or numbers i 0)) refl refl refl refl
  where
    by : (c m s t : Bool) → is_count (length numbers) ≡ c → eqb (length codes) (length numbers) ≡ m → eqb size (length numbers * 8832) ≡ s →
        same_number (length numbers) (λ i. get_or numbers i 0) ≡ t →
        answer_number
        (if not (c && m) then Err Refusal.TagPlace
        else if not s then Err Refusal.ImageLength
        else if t then Err Refusal.SameNumber
        else new_fault numbers codes 0 (length numbers))
        ≡ 0 → Good size numbers codes
    by true true true false c m s t o = record { few = c; many = eqb-true _ _ m; whole = eqb-true _ _ s; apart = t; sound = o }
    by false m s t p q r u o = absurd (omega arith)
    by true false s t p q r u o = absurd (omega arith)
    by true true false t p q r u o = absurd (omega arith)
    by true true true true p q r u o = absurd (omega arith)

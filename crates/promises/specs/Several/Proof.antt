-- What holds of every line: a tag on it is a tag, demand 1, and that a Match touches no other. Assumes nothing.
use Rattle.std.specs.Prelude.{◌≡◌, Bool, true, false, not, ◌&&◌, ◌||◌, List, [], ◌∷◌, ◌≢◌, ℕ, zero, suc, ◌*◌, ◌<◌, ◌≤◌, eqb, leb, ltb, get_or, take, drop, replicate, if◌then◌else◌}
use Rattle.std.proofs.Math.Path.{refl, ap}
use Rattle.std.proofs.Common.{sym, subst, ◌∙◌, arith, eqb-true, leb-true, ltb-false, eq-eqb, ne_eqb, le-ltb}
use Rattle.std.proofs.lemmas.Bool.{false≢true, lt-leb}
use Rattle.std.proofs.Math.Logic.{dite}
use Rattle.std.proofs.Math.Decide.{ℕ_discrete}
use Rattle.std.proofs.Math.ListN.{length, length-drop}
use Rattle.std.proofs.Math.Seq.{length-take-le}
use Rattle.answer.specs.Answer.{answer_number}
use Rattle.bits.specs.Choose.{choice}
use Rattle.bits.specs.Each.{each_true, each_false}
use Rattle.board.specs.Board as board
use Rattle.board.specs.Board.{Left, Going, line_step, new_line, begun, across, new_at, empty_board}
use Rattle.board.specs.Board.Laws as board-laws
use Rattle.board.proofs.Visits.{across_own, new_visits, new_stays}
use Rattle.board.specs.declared.Board.{Board}
use Rattle.board.specs.declared.Shown.{Shown}
use Rattle.record.specs.declared.Tag.{Tag}
use Rattle.select.specs.declared.Choosing.{Choosing}
use Rattle.select.specs.declared.Mode.{Mode}
use Rattle.select.specs.Select.{mode_of}
use Rattle.tag.specs.Tag.{new_tag}
use Rattle.promises.specs.Ranges.{is_rom, is_configuration, in_range, Fit}
use Rattle.promises.specs.Ranges.Laws.{fit_sound, fit_run, reached_fit}
use Rattle.promises.specs.Runs as alone
use Rattle.promises.specs.Runs.{State, Event}
use Rattle.promises.specs.Runs.Laws.{number_run, reached_run}
use Rattle.promises.specs.Sentences.Events as events
use Rattle.promises.specs.Sentences.Events.{number_in, own_number, clear_tag}
use Rattle.promises.specs.Sentences.Events.Proof as events-proof
use Rattle.promises.specs.Sentences.Events.Proof.{number_accepts}
use Rattle.promises.specs.Several.{Line, count_of, tag_at, Seven, LineEvent, happens, leaves, after, Accepts, run, AllAccepted, hears, OneTag, twice, is_line, line_number, first_fault, new_number, Defined, outcome, no_board, Reached, FitLine, Valid, LineDemand1}
use Rattle.promises.specs.Several.Laws.{state_of, event_remains, event_tag, run_remains, run_tag, run_line}
use Rattle.promises.specs.Several.Numbers.{twice_own, twice_none, line_number_lem, new_number_lem}
use Rattle.promises.specs.Words.{number_of}

-- ---- a tag on the line is a tag

run_past : (l : Line) (es : List LineEvent) (place : ℕ) → count_of l ≤ place → (tag_at (run l es).end place).tag ≡ (tag_at l place).tag
unfolding board.tag_at mode_of
run_past l es = (run_remains l es).past

pub one_tag : OneTag
one_tag =
    record {
      tags = run_tag;
      line = run_line;
      count = λ l es. (run_remains l es).count;
      size = λ l es. (run_remains l es).size;
      past = run_past;
    }

-- ---- numbers

line_defined : (l : Line) (code place reading : ℕ) →
    Defined (line_number l code place reading) l.block l.board (line_step l.block l.board code place reading)
line_defined l code place reading =
    let number = line_number_lem l code place reading in
    record {
      answer = number;
      refusal = λ bad.
          let e =
          board-laws.line_refused l.block l.board code place reading
          (λ zero. bad (sym number ∙ ap number_in (board-laws.line_answer l.block l.board code place reading) ∙ zero)) in
          (ap (λ (o : Left). o.shown.line) e, ap (λ (o : Left). o.shown.board) e, ap (λ (o : Left). o.block) e);
    }

new_defined : (block numbers codes : List ℕ) → Defined (new_number block numbers codes) block no_board (new_line block numbers codes)
unfolding empty_board mode_of
new_defined block numbers codes =
    let number = new_number_lem block numbers codes in
    record {
      answer = number;
      refusal = λ bad.
          let e =
          board-laws.new_refused block numbers codes (λ zero. bad (sym number ∙ ap number_in (board-laws.new_answer_lem block numbers codes) ∙ zero)) in
          (ap (λ (o : Left). o.shown.line) e, ap (λ (o : Left). o.shown.board) e, ap (λ (o : Left). o.block) e);
    }

-- an outcome that a contract allows is the definition's
allowed : {r : Shown} {left : List ℕ} {o : Left} {number : ℕ} {block : List ℕ} {given : Board} → r ≡ o.shown → left ≡ o.block →
    Defined number block given o → (outcome r left ≡ o) × Defined number block given (outcome r left)
allowed {r} {left} {o} {number} {block} {given} p q d =
    let same : outcome r left ≡ o = λ i. outcome (p i) (q i) in (same, subst (Defined number block given) (sym same) d)

unread : (block : List ℕ) (given : Board) (code place reading : ℕ) → code ≢ 3 →
    line_step block given code place reading ≡ line_step block given code 0 0
unfolding line_step board.judged board.judged_by board.names_none board.is_high board.taken
unread block given code place reading other = rw (ne_eqb code 3 other) refl

-- ---- a new line

blank_at : (n i : ℕ) (tag : Tag) → get_or (replicate n tag) i tag ≡ tag
blank_at zero i tag = refl
blank_at (suc n) zero tag = refl
blank_at (suc n) (suc i) tag = blank_at n i tag

-- what a new line has passed that is accepted, in the words of `Several`
record Good (block numbers codes : List ℕ) : Type 0 where
  many : is_line (length numbers) ≡ true
  paired : length codes ≡ length numbers
  size : length block ≡ length numbers * 8832
  apart : twice (length numbers) (λ i. get_or numbers i 0) ≡ false
  faultless : first_fault numbers codes ≡ 0

good : (block numbers codes : List ℕ) → new_number block numbers codes ≡ 0 → Good block numbers codes
unfolding new_number
good block numbers codes =
    by (is_line (length numbers)) (eqb (length codes) (length numbers)) (eqb (length block) (length numbers * 8832)) (twice (length numbers) (λ i. get_or numbers i 0)) refl refl refl refl
  where
    by : (m p s t : Bool) → is_line (length numbers) ≡ m → eqb (length codes) (length numbers) ≡ p → eqb (length block) (length numbers * 8832) ≡ s →
        twice (length numbers) (λ i. get_or numbers i 0) ≡ t → (if not m || not p then 14 else if not s then 3 else if t then 13 else first_fault numbers codes) ≡ 0 →
        Good block numbers codes
    by true true true false m p s t e =
        record { many = m; paired = eqb-true _ _ p; size = eqb-true _ _ s; apart = t; faultless = e }
    by false p s t m q r u e = absurd (omega (arith, e))
    by true false s t m q r u e = absurd (omega (arith, e))
    by true true false t m q r u e = absurd (omega (arith, e))
    by true true true true m q r u e = absurd (omega (arith, e))

many_some : (count : ℕ) → is_line count ≡ true → count ≤ 7
many_some count e = by (leb 1 count) (leb count 7) refl e
  where
    by : (a b : Bool) → leb count 7 ≡ b → (a && b) ≡ true → count ≤ 7
    by true true p e = leb-true count 7 p
    by true false p e = absurd (false≢true e)
    by false b p e = absurd (false≢true e)

pub many_any : (count : ℕ) → is_line count ≡ true → 0 < count
many_any count e = by (leb 1 count) refl e
  where
    by : (a : Bool) → leb 1 count ≡ a → (a && leb count 7) ≡ true → 0 < count
    by true p e = leb-true 1 count p
    by false p e = absurd (false≢true e)

-- each number and each code is good
faultless_at : (numbers codes : List ℕ) → first_fault numbers codes ≡ 0 → length codes ≡ length numbers → (i : ℕ) → i < length numbers →
    (is_rom (get_or numbers i 0) ≡ true) × (is_configuration (get_or codes i 0) ≡ true)
unfolding first_fault
faultless_at [] codes e same i h = absurd (omega (arith, h))
faultless_at (n ∷ ns) [] e same i h = absurd (omega (arith, same))
faultless_at (n ∷ ns) (c ∷ cs) e same i h =
    by (is_rom n) (is_configuration c) refl refl e (λ rest k lt. faultless_at ns cs rest (omega (arith, same)) k lt) i h
  where
    by : (r k : Bool) → is_rom n ≡ r → is_configuration c ≡ k → (if not r then 4 else if not k then 5 else first_fault ns cs) ≡ 0 →
        (first_fault ns cs ≡ 0 → (i : ℕ) → i < length ns → (is_rom (get_or ns i 0) ≡ true) × (is_configuration (get_or cs i 0) ≡ true)) →
        (i : ℕ) → i < length (n ∷ ns) → (is_rom (get_or (n ∷ ns) i 0) ≡ true) × (is_configuration (get_or (c ∷ cs) i 0) ≡ true)
    by true true p q e rest zero h = (p, q)
    by true true p q e rest (suc i) h = rest e i (omega (arith, h))
    by false k p q e rest i h = absurd (omega (arith, e))
    by true false p q e rest i h = absurd (omega (arith, e))

module _ (block numbers codes : List ℕ) (zero_is : new_number block numbers codes ≡ 0) where
  abbrev pub new : Line
  new = leaves (new_line block numbers codes)

  fine : Good block numbers codes
  fine = good block numbers codes zero_is

  few : length numbers ≤ 7
  few = many_some (length numbers) fine.many

  judged : answer_number (board.new_judged (length block) numbers codes) ≡ 0
  judged = ap number_in (sym (board-laws.new_answer_lem block numbers codes)) ∙ new_number_lem block numbers codes ∙ zero_is

  room : length numbers * 8832 ≤ length block
  room = omega (arith, fine.size)

  abbrev pub part : ℕ → List ℕ
  part place = take 8832 (drop (place * 8832) block)

  pub made : Seven new × (count_of new ≡ length numbers) × (length new.block ≡ length block)
      × ((place : ℕ) → place < length numbers → tag_at new place ≡ alone.leaves (new_tag (part place) (get_or numbers place 0) (get_or codes place 0)))
      × ((place : ℕ) → length numbers ≤ place → (tag_at new place).tag ≡ clear_tag 0 0)
  unfolding empty_board board.image_at board.tag_at mode_of
  made =
      let stays = new_stays block numbers codes judged in (
        stays.tags,
        stays.count,
        stays.size,
        λ place h.
            ap (λ (o : Left). tag_at (leaves o) place) (board-laws.new_taken block numbers codes judged)
            ∙ ap state_of (across_own (new_visits numbers codes) (length numbers) place (begun block (empty_board (length numbers))) h room few),
        λ place past. stays.past place past ∙ blank_at 7 place (clear_tag 0 0),
      )

  -- each tag is a new one that is accepted
  tag_accepted : (place : ℕ) → place < length numbers → events.new_number (part place) (get_or numbers place 0) (get_or codes place 0) ≡ 0
  unfolding events.new_number
  tag_accepted place h =
      let whole : length (take 8832 (drop (place * 8832) block)) ≡ 8832 =
      length-take-le 8832 (drop (place * 8832) block) (omega (arith, h, fine.size, length-drop (place * 8832) block)) in
      let fault = faultless_at numbers codes fine.faultless fine.paired place h in
      rw (eq-eqb _ 8832 whole, fault.0, fault.1) refl

  tag_reached : (place : ℕ) → place < length numbers → alone.Reached (tag_at new place)
  tag_reached place h =
      rw (made.3 place h)
      (alone.Reached.new (part place) (get_or numbers place 0) (get_or codes place 0)
      (number_accepts (((events-proof.events).new (part place) (get_or numbers place 0) (get_or codes place 0)).answer ∙ tag_accepted place h)))

  tag_number : (place : ℕ) → place < length numbers → number_of (tag_at new place) ≡ get_or numbers place 0
  tag_number place h =
      rw (made.3 place h)
      (ap (λ (t : Tag). t.exchange.number)
      ((events-proof.events).made (part place) (get_or numbers place 0) (get_or codes place 0) (tag_accepted place h)).1)

  -- and waits for a reset
  pub tag_silent : (place : ℕ) → place < length numbers →
      ((tag_at new place).tag.exchange.select.choosing ≡ Choosing.Silent) × ((tag_at new place).tag.exchange.select.mode ≡ Mode.Plain)
  tag_silent place h =
      let made-tag = ap (λ (s : State). s.tag) (made.3 place h)
      ∙ ((events-proof.events).made (part place) (get_or numbers place 0) (get_or codes place 0) (tag_accepted place h)).1 in
      (ap (λ (t : Tag). t.exchange.select.choosing) made-tag, ap (λ (t : Tag). t.exchange.select.mode) made-tag)

  new_fit : FitLine new
  new_fit =
      record {
        seven = made.0;
        many = ap is_line made.1 ∙ fine.many;
        size = made.2 ∙ fine.size ∙ ap (λ (n : ℕ). n * 8832) (sym made.1);
        apart = λ i j hi hj same.
            let below : (k : ℕ) → k < count_of new → k < length numbers = λ k h. subst (λ (n : ℕ). k < n) made.1 h in
            twice_own (length numbers) (λ i. get_or numbers i 0) fine.apart i j (below i hi) (below j hj) (sym (tag_number i (below i hi)) ∙ same ∙ tag_number j (below j hj));
        tags = λ place h. reached_fit (tag_reached place (subst (λ (n : ℕ). place < n) made.1 h));
      }

-- ---- a fit line

pub fit_after : {l : Line} (e : LineEvent) → FitLine l → Accepts l e → FitLine (after l e)
fit_after {l} e fit ok =
    let stays = event_remains l e in
    let below : (k : ℕ) → k < count_of (after l e) → k < count_of l = λ k h. subst (λ (n : ℕ). k < n) stays.count h in
    let tag : (k : ℕ) → k < count_of l → tag_at (after l e) k ≡ (alone.run (tag_at l k) (hears k e)).state = event_tag l fit.seven e ok in
    let number : (k : ℕ) → k < count_of l → number_of (tag_at (after l e) k) ≡ number_of (tag_at l k) =
    λ k h. ap number_of (tag k h) ∙ number_run (hears k e) (fit_sound (fit.tags k h)) in
    record {
      seven = stays.tags ∙ fit.seven;
      many = ap is_line stays.count ∙ fit.many;
      size = stays.size ∙ fit.size ∙ ap (λ (n : ℕ). n * 8832) (sym stays.count);
      apart = λ i j hi hj same. fit.apart i j (below i hi) (below j hj) (sym (number i (below i hi)) ∙ same ∙ number j (below j hj));
      tags = λ place h. subst Fit (sym (tag place (below place h))) (fit_run (fit.tags place (below place h)) (hears place e));
    }

pub reached_line : {l : Line} → Reached l → FitLine l × ((place : ℕ) → place < count_of l → alone.Reached (tag_at l place))
reached_line (Reached.new block numbers codes e) =
    let zero_is = sym (new_number_lem block numbers codes) ∙ ap number_in e in (
      new_fit block numbers codes zero_is,
      λ place h. tag_reached block numbers codes zero_is place (subst (λ (n : ℕ). place < n) (made block numbers codes zero_is).1 h),
    )
reached_line (Reached.event {l} e before ok) =
    let known = reached_line before in (
      fit_after e known.0 ok,
      λ place h.
          let here = subst (λ (n : ℕ). place < n) (event_remains l e).count h in
          subst alone.Reached (sym (event_tag l known.0.seven e ok place here)) (reached_run (hears place e) (known.1 place here)),
    )

fit_number : {l : Line} → FitLine l → (code place reading : ℕ) →
    number_in (line_step l.block l.board code place reading).shown.answer
    ≡ (if eqb code 3 && leb (count_of l) place then 14 else own_number code reading)
unfolding line_number
fit_number {l} fit code place reading =
    line_number_lem l code place reading
    ∙ rw (
      fit.many,
      eq-eqb (length l.block) (count_of l * 8832) fit.size,
      twice_none (count_of l) (λ i. number_of (tag_at l i)) fit.apart,
      each_true (count_of l) (λ i. in_range (tag_at l i).tag) (λ i h. (fit.tags i h).ranges),
    ) refl

pub fit_valid : {l : Line} → FitLine l → (e : LineEvent) → Valid (count_of l) e → Accepts l e
unfolding own_number
fit_valid fit (LineEvent.slot true) valid = number_accepts (fit_number fit 1 0 0)
fit_valid fit (LineEvent.slot false) valid = number_accepts (fit_number fit 0 0 0)
fit_valid fit LineEvent.reset valid = number_accepts (fit_number fit 2 0 0)
fit_valid {l} fit (LineEvent.tick place reading) valid =
    number_accepts (fit_number fit 3 place reading ∙ rw (lt-leb (count_of l) place valid.0, le-ltb 2047 reading valid.1) refl)
fit_valid fit LineEvent.short valid = number_accepts (fit_number fit 4 0 0)

-- the tag after a long reset of the line
pub after_reset_lem : {l : Line} → FitLine l → (j : ℕ) → j < count_of l → tag_at (after l LineEvent.reset) j ≡ alone.after (tag_at l j) Event.reset
unfolding alone.run
after_reset_lem {l} fit j h = event_tag l fit.seven LineEvent.reset (fit_valid fit LineEvent.reset tt) j h

-- the event that a code of 0 to 4 is
pub event_of_lem : (code place reading : ℕ) → code ≤ 4 →
    (e : LineEvent) × ((l : Line) → line_step l.block l.board code place reading ≡ happens l e)
event_of_lem zero place reading h = (LineEvent.slot false, λ l. unread l.block l.board 0 place reading (omega arith))
event_of_lem (suc zero) place reading h = (LineEvent.slot true, λ l. unread l.block l.board 1 place reading (omega arith))
event_of_lem (suc (suc zero)) place reading h = (LineEvent.reset, λ l. unread l.block l.board 2 place reading (omega arith))
event_of_lem (suc (suc (suc zero))) place reading h = (LineEvent.tick place reading, λ l. refl)
event_of_lem (suc (suc (suc (suc zero)))) place reading h = (LineEvent.short, λ l. unread l.block l.board 4 place reading (omega arith))
event_of_lem (suc (suc (suc (suc (suc code))))) place reading h = absurd (omega (arith, h))

-- an event that is accepted has such a code
own_code : (count code place reading : ℕ) → (if eqb code 3 && leb count place then 14 else own_number code reading) ≡ 0 → code ≤ 4
unfolding own_number
own_code count code place reading = by (eqb code 3 && leb count place) (ltb 4 code) refl
  where
    by : (none high : Bool) → ltb 4 code ≡ high →
        ◌≡◌ {A = ℕ} (if none then 14 else if high then 1 else if eqb code 3 && ltb 2047 reading then 2 else 0) 0 → code ≤ 4
    by none false h e = ltb-false 4 code h
    by true true h e = absurd (omega (arith, e))
    by false true h e = absurd (omega (arith, e))

again : {l : Line} → Reached l → (code place reading : ℕ) → Reached (leaves (line_step l.block l.board code place reading))
unfolding after
again {l} r code place reading =
    dite (ℕ_discrete (number_in (line_step l.block l.board code place reading).shown.answer) 0)
    (λ none.
    let e = event_of_lem code place reading (own_code (count_of l) code place reading (sym (fit_number (reached_line r).0 code place reading) ∙ none)) in
    let same = e.1 l in
    subst (λ (o : Left). Reached (leaves o)) (sym same)
    (Reached.event e.0 r (ap (λ (o : Left). o.shown.answer) (sym same) ∙ number_accepts none)))
    (λ some.
    let d = line_defined l code place reading in
    let left = d.refusal (λ zero. some (d.answer ∙ zero)) in
    subst Reached (λ i. record { block = sym left.2 i; board = sym left.1 i }) r)

-- ---- what the rulings say of it

-- a new line gives 1
made_high : (numbers codes : List ℕ) (n : ℕ) (l : Going) → l.line ≡ true → (across (new_at numbers codes) 0 n l).line ≡ true
unfolding across new_at
made_high numbers codes zero l high = high
made_high numbers codes (suc n) l high = rw (board-laws.across_last (new_at numbers codes) n l) refl

new_high : (block numbers codes : List ℕ) → (new_line block numbers codes).shown.line ≡ true
unfolding new_line
new_high block numbers codes =
    choice (λ (o : Left). o.shown.line ≡ true) (eqb (answer_number (board.new_judged (length block) numbers codes)) 0)
    (made_high numbers codes (length numbers) (begun block (empty_board (length numbers))) refl) refl

broken : (l : Line) (i : ℕ) → i < count_of l → in_range (tag_at l i).tag ≡ false → (code place reading : ℕ) → line_number l code place reading ≢ 0
unfolding line_number
broken l i h bad code place reading =
    rw (each_false (count_of l) (λ k. in_range (tag_at l k).tag) i h bad)
    (by (not (is_line (count_of l)) || (eqb code 3 && leb (count_of l) place)) (not (eqb (length l.block) (count_of l * 8832)))
    (twice (count_of l) (λ k. number_of (tag_at l k))))
  where
    by : (a b c : Bool) → ◌≢◌ {A = ℕ} (if a then 14 else if b then 3 else if c then 13 else 6) 0
    by true b c e = absurd (omega (arith, e))
    by false true c e = absurd (omega (arith, e))
    by false false true e = absurd (omega (arith, e))
    by false false false e = absurd (omega (arith, e))

pub line_demand1 : LineDemand1
unfolding line_number
line_demand1 =
    record {
      any_event = λ κs block given code place reading. tt;
      any_new = λ κs block numbers codes. tt;
      events = λ κs block given code place reading r exit p.
          allowed p.0 p.1 (line_defined (record { block = block.now; board = given }) code place reading);
      unread = unread;
      news = λ κs block numbers codes r exit p. allowed p.0 p.1 (new_defined block.now numbers.now codes.now);
      new_bit = new_high;
      none = λ block code place reading. refl;
      broken = broken;
      made = made;
      reached = reached_line;
      stays_fit = fit_after;
      again = again;
      begins = λ {l} r place h.
          let known = reached_line r in
          record { before = tag_at l place; reached = known.1 place h; reset = after_reset_lem known.0 place h };
      fit = fit_number;
      valid = fit_valid;
    }

-- ---- events that are accepted

unfoldable pub AllValid : ℕ → List LineEvent → Type 0
AllValid count [] = Unit {0}
AllValid count (e ∷ es) = Valid count e × AllValid count es

pub valid_accepted : {l : Line} → FitLine l → (es : List LineEvent) → AllValid (count_of l) es → AllAccepted l es
unfolding AllAccepted AllValid
valid_accepted fit [] valid = tt
valid_accepted {l} fit (e ∷ es) valid =
    let ok = fit_valid fit e valid.0 in (
      ok,
      valid_accepted {l = after l e} (fit_after e fit ok) es (subst (λ (n : ℕ). AllValid n es) (sym (event_remains l e).count) valid.1),
    )

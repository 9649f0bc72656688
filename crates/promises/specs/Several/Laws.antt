-- One event of a line, and events one after the other: what each place holds afterwards, and the bits on the line. Assumes nothing.
use Rattle.std.specs.Prelude.{◌≡◌, Bool, true, false, ◌≢◌, ℕ, ◌*◌, ◌≤◌, ◌<◌, eqb, length, if◌then◌else◌}
use Rattle.std.proofs.Math.Path.{refl, sym, ap}
use Rattle.std.proofs.Common.{subst, ◌∙◌, arith, eq-eqb, ne_eqb}
use mathlib.Core.List.{List, [], ◌∷◌, flat_map}
use Rattle.std.proofs.Math.Logic.{dite}
use Rattle.std.proofs.Math.Decide.{ℕ_discrete}
use Rattle.bits.specs.Each.{each, each_true, each_holds, each_same}
use Rattle.board.specs.Board as board
use Rattle.board.specs.Board.{Going, Left, begun, reached, across, taken, accepted, judged, line_step}
use Rattle.board.specs.Board.Laws.{Passed, passed, counted, line_judged, line_taken, taken_tick, taken_given, tick_named, tick_low}
use Rattle.board.specs.Board.Places.{Has, length_image}
use Rattle.board.proofs.Visits.{Own, Stays, stays_same, stays_then, visit_own, visit_other, across_own, across_line, reached_visits, line_stays}
use Rattle.event.specs.Event.{tick_tag}
use Rattle.record.specs.Record.{Outcome, tag_in_range}
use Rattle.select.specs.Select.{mode_of}
use Rattle.tag.specs.Tag.{event_of, step}
use Rattle.tag.proofs.Tag.Laws.{step_taken}
use Rattle.promises.specs.Runs as alone
use Rattle.promises.specs.Runs.{State, Event}
use Rattle.promises.specs.Runs.Laws.{Sound, run_append, tick_happens}
use Rattle.promises.specs.Several.{Line, count_of, tag_at, Seven, LineEvent, code_of, place_of, reading_of, after, line_bit, Accepts, run, AllAccepted, hears, heard, bit_of, line_of}

-- ---- a line as `board` has it

abbrev pub going : Line → Going
going l = begun l.block l.board

abbrev pub state_of : Own → State
state_of own = record { image = own.image; tag = own.tag }

-- what stays of a line over events: the count, the lengths, and the records that are not looked at
abbrev pub Remains : Line → Line → Type 0
Remains before after = Stays (count_of before) before.block before.board after.block after.board

pub event_remains : (l : Line) (e : LineEvent) → Remains l (after l e)
unfolding after
event_remains l e = line_stays l.block l.board (code_of e) (place_of e) (reading_of e)

-- ---- an event that is accepted

module _ (l : Line) (e : LineEvent) (ok : Accepts l e) where
  -- what it has passed
  pub pass : Passed (count_of l) (length l.block) (board.same_number (count_of l) (board.number_at l.board))
      (each (count_of l) (λ i. tag_in_range (board.tag_at l.board i))) (code_of e) (place_of e) (reading_of e)
  unfolding judged
  pass = passed _ _ _ _ _ _ _ (line_judged l.block l.board (code_of e) (place_of e) (reading_of e) ok)

  pub few : count_of l ≤ 7
  few = (counted (count_of l) pass.few).1

  has : (place : ℕ) → place < count_of l → Has l.block place
  has place h = omega (arith, h, pass.whole)

  -- so each tag has an image of 8,832 bytes and keeps to its ranges
  pub tag_sound : (place : ℕ) → place < count_of l → Sound (tag_at l place)
  unfolding board.image_at board.tag_at mode_of
  tag_sound place h =
      record {
        size = length_image l.block place (has place h);
        ranges = each_holds (count_of l) (λ i. tag_in_range (board.tag_at l.board i)) pass.ranges place h;
      }

  -- what it leaves
  pub next_is : line_step l.block l.board (code_of e) (place_of e) (reading_of e) ≡ accepted (taken (going l) (code_of e) (place_of e) (reading_of e))
  next_is = line_taken l.block l.board (code_of e) (place_of e) (reading_of e) (line_judged l.block l.board (code_of e) (place_of e) (reading_of e) ok)

  -- to a tag it is what a tag alone would have made of it
  own_event : (place : ℕ) → place < count_of l → (f : Event) → alone.code_of f ≡ code_of e → alone.reading_of f ≡ reading_of e →
      event_of (tag_at l place).image (tag_at l place).tag (code_of e) (reading_of e) ≡ alone.happens (tag_at l place) f
  own_event place h f code reading =
      let sound = tag_sound place h in
      sym (step_taken (tag_at l place).image (tag_at l place).tag (code_of e) (reading_of e) sound.size sound.ranges)
      ∙ (λ i. step (tag_at l place).image (tag_at l place).tag (sym code i) (sym reading i))

  -- ---- a slot or a reset

  module _ (all : code_of e ≢ 3) where
    given_is : line_step l.block l.board (code_of e) (place_of e) (reading_of e) ≡ accepted (across (reached (code_of e) 0) 0 (count_of l) (going l))
    given_is = next_is ∙ ap accepted (taken_given (going l) (code_of e) (place_of e) (reading_of e) all)

    room : count_of l * 8832 ≤ length l.block
    room = omega (arith, pass.whole)

    given_tag : Seven l → (f : Event) → alone.code_of f ≡ code_of e → alone.reading_of f ≡ 0 → reading_of e ≡ 0 → (place : ℕ) → place < count_of l →
        tag_at (after l e) place ≡ alone.after (tag_at l place) f
    unfolding after alone.after board.image_at board.tag_at mode_of
    given_tag seven f code none unread place h =
        rw given_is
        (ap state_of (across_own (reached_visits (code_of e) 0) (count_of l) place (going l) h room (omega (arith, few, seven)))
        ∙ ap (λ (o : Outcome). alone.leaves o)
        (ap (event_of (tag_at l place).image (tag_at l place).tag (code_of e)) (sym unread) ∙ own_event place h f code (none ∙ sym unread)))

    given_line : (f : Event) → alone.code_of f ≡ code_of e → alone.reading_of f ≡ 0 → reading_of e ≡ 0 →
        line_bit l e ≡ each (count_of l) (λ place. alone.line_bit (tag_at l place) f)
    unfolding board.image_at board.tag_at mode_of
    given_line f code none unread =
        ap (λ (o : Left). o.shown.line) given_is
        ∙ across_line (code_of e) (count_of l) (going l) room refl
        ∙ each_same (count_of l) _ _
        (λ place h. ap (λ (o : Outcome). o.answered.line)
        (ap (event_of (tag_at l place).image (tag_at l place).tag (code_of e)) (sym unread) ∙ own_event place h f code (none ∙ sym unread)))

-- ---- a tick

module _ (l : Line) (place reading : ℕ) (ok : Accepts l (LineEvent.tick place reading)) where
  named : place < count_of l
  named = tick_named (count_of l) 3 place (pass l (LineEvent.tick place reading) ok).named refl

  tick_is : line_step l.block l.board 3 place reading ≡ accepted (reached 3 reading place (going l))
  tick_is = next_is l (LineEvent.tick place reading) ok ∙ ap accepted (taken_tick (going l) 3 place reading refl)

  here : (i : ℕ) → i < count_of l → Has l.block i
  here i h = omega (arith, h, (pass l (LineEvent.tick place reading) ok).whole)

  tick_own : Seven l → tag_at (after l (LineEvent.tick place reading)) place ≡ alone.after (tag_at l place) (Event.tick reading)
  unfolding after alone.after board.image_at board.tag_at mode_of
  tick_own seven =
      let small = few l (LineEvent.tick place reading) ok in
      rw tick_is
      (ap state_of (visit_own (reached_visits 3 reading) place (going l) (here place named) (omega (arith, named, small, seven)))
      ∙ ap (λ (o : Outcome). alone.leaves o) (own_event l (LineEvent.tick place reading) ok place named (Event.tick reading) refl refl))

  pub tick_other : (other : ℕ) → other < count_of l → other ≢ place → tag_at (after l (LineEvent.tick place reading)) other ≡ tag_at l other
  unfolding after board.image_at board.tag_at mode_of
  tick_other other h apart =
      rw tick_is (ap state_of (visit_other (reached_visits 3 reading) place other (going l) (here place named) (here other h) apart))

  -- "a tick gives 1"
  tick_high : (i : ℕ) → i < count_of l → alone.line_bit (tag_at l i) (Event.tick reading) ≡ true
  unfolding tick_tag
  tick_high i h =
      let low = tick_low 3 reading (pass l (LineEvent.tick place reading) ok).low refl in
      ap (λ (o : Outcome). o.answered.line) (tick_happens (tag_sound l (LineEvent.tick place reading) ok i h) reading low)

  pub tick_gives : line_bit l (LineEvent.tick place reading) ≡ true
  unfolding reached board.image_at board.tag_at mode_of
  tick_gives =
      ap (λ (o : Left). o.shown.line) tick_is
      ∙ ap (λ (o : Outcome). o.answered.line) (own_event l (LineEvent.tick place reading) ok place named (Event.tick reading) refl refl)
      ∙ tick_high place named

  tick_line : line_bit l (LineEvent.tick place reading) ≡ each (count_of l) (λ i. bit_of (tag_at l i) (hears i (LineEvent.tick place reading)))
  tick_line = tick_gives ∙ sym (each_true (count_of l) _ (λ i h. by i h (eqb place i)))
    where
      by : (i : ℕ) → i < count_of l → (b : Bool) → bit_of (tag_at l i) (if b then Event.tick reading ∷ [] else []) ≡ true
      by i h true = tick_high i h
      by i h false = refl

-- ---- any event

pub event_tag : (l : Line) → Seven l → (e : LineEvent) → Accepts l e → (place : ℕ) → place < count_of l →
    tag_at (after l e) place ≡ (alone.run (tag_at l place) (hears place e)).state
unfolding alone.run
event_tag l seven (LineEvent.slot true) ok = given_tag l (LineEvent.slot true) ok (omega arith) seven (Event.slot true) refl refl refl
event_tag l seven (LineEvent.slot false) ok = given_tag l (LineEvent.slot false) ok (omega arith) seven (Event.slot false) refl refl refl
event_tag l seven LineEvent.reset ok = given_tag l LineEvent.reset ok (omega arith) seven Event.reset refl refl refl
event_tag l seven LineEvent.short ok = given_tag l LineEvent.short ok (omega arith) seven Event.short refl refl refl
event_tag l seven (LineEvent.tick at reading) ok = λ place h.
    dite (ℕ_discrete at place) (λ same. rw (eq-eqb at place same, ← same) (tick_own l at reading ok seven))
    (λ other. rw (ne_eqb at place other) (tick_other l at reading ok place h (λ same. other (sym same))))

pub event_line : (l : Line) (e : LineEvent) → Accepts l e → line_bit l e ≡ each (count_of l) (λ place. bit_of (tag_at l place) (hears place e))
event_line l (LineEvent.slot true) ok = given_line l (LineEvent.slot true) ok (omega arith) (Event.slot true) refl refl refl
event_line l (LineEvent.slot false) ok = given_line l (LineEvent.slot false) ok (omega arith) (Event.slot false) refl refl refl
event_line l LineEvent.reset ok = given_line l LineEvent.reset ok (omega arith) Event.reset refl refl refl
event_line l LineEvent.short ok = given_line l LineEvent.short ok (omega arith) Event.short refl refl refl
event_line l (LineEvent.tick place reading) ok = tick_line l place reading ok

-- ---- events one after the other

pub run_remains : (l : Line) (es : List LineEvent) → Remains l (run l es).end
unfolding run
run_remains l [] = stays_same
run_remains l (e ∷ es) =
    let first = event_remains l e in
    let end = (run (after l e) es).end in
    stays_then (omega arith) first
    (subst (λ (n : ℕ). Stays n (after l e).block (after l e).board end.block end.board) first.count (run_remains (after l e) es))

-- a tag on the line is a tag
pub run_tag : (l : Line) → Seven l → (es : List LineEvent) → AllAccepted l es → (place : ℕ) → place < count_of l →
    tag_at (run l es).end place ≡ (alone.run (tag_at l place) (heard place es)).state
unfolding run AllAccepted alone.run flat_map
run_tag l seven [] ok place h = refl
run_tag l seven (e ∷ es) ok place h =
    let stays = event_remains l e in
    run_tag (after l e) (stays.tags ∙ seven) es ok.1 place (rw stays.count h)
    ∙ ap (λ (s : State). (alone.run s (heard place es)).state) (event_tag l seven e ok.0 place h)
    ∙ sym (ap (λ (r : alone.Ran). r.state) (run_append (tag_at l place) (hears place e) (heard place es)))

-- a line is that of its tags below the count
line_same : (count : ℕ) (tags others : ℕ → State) (es : List LineEvent) → ((place : ℕ) → place < count → tags place ≡ others place) →
    line_of count tags es ≡ line_of count others es
unfolding line_of
line_same count tags others [] same = refl
line_same count tags others (e ∷ es) same =
    let bits = each_same count (λ place. bit_of (tags place) (hears place e)) (λ place. bit_of (others place) (hears place e))
    (λ place h. ap (λ (s : State). bit_of s (hears place e)) (same place h)) in
    let rest = line_same count (λ place. (alone.run (tags place) (hears place e)).state) (λ place. (alone.run (others place) (hears place e)).state) es
    (λ place h. ap (λ (s : State). (alone.run s (hears place e)).state) (same place h)) in
    λ i. bits i ∷ rest i

pub run_line : (l : Line) → Seven l → (es : List LineEvent) → AllAccepted l es → (run l es).line ≡ line_of (count_of l) (tag_at l) es
unfolding run AllAccepted line_of
run_line l seven [] ok = refl
run_line l seven (e ∷ es) ok =
    let stays = event_remains l e in
    let bit = event_line l e ok.0 in
    let rest =
    run_line (after l e) (stays.tags ∙ seven) es ok.1
    ∙ ap (λ (n : ℕ). line_of n (tag_at (after l e)) es) stays.count
    ∙ line_same (count_of l) (tag_at (after l e)) _ es (event_tag l seven e ok.0) in
    λ i. bit i ∷ rest i

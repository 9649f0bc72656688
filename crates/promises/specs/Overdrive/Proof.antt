-- Overdrive: what a short reset leaves; which slots set the speed, over any events; and two tags that differ in it alone go on alike.
-- Assumes nothing.
use Rattle.std.specs.Prelude.{◌≡◌, refl, Bool, true, false, not, ◌||◌, List, [], ◌∷◌, ◌≢◌, ℕ, eqb, ltb, length, Ok, Err}
use Rattle.std.proofs.Common.{sym, ap, subst, ◌∙◌, true≢false, append_assoc, inl, inr, ⊎_elim}
use Rattle.std.proofs.Math.Bool.{or-true, or-false}
use Rattle.answer.specs.Answer.{Answer}
use Rattle.answer.specs.declared.Refusal.{Refusal}
use Rattle.bits.specs.Bits.{bits_of}
use Rattle.bits.specs.Choose.{choices}
use Rattle.bus.specs.declared.Deed.{Deed}
use Rattle.exchange.specs.declared.Exchange.{Exchange}
use Rattle.exchange.specs.Exchange as exchange
use Rattle.exchange.specs.Exchange.Laws as exchange-laws
use Rattle.event.specs.Event.{answer_to, performed, performed_counters, slotted, reset_tag, short_tag, tick_tag}
use Rattle.mission.specs.declared.Counters.{Counters}
use Rattle.record.specs.Record.{Outcome, tag_in_range, refusal}
use Rattle.record.specs.Record.Laws.{ranges_of}
use Rattle.select.specs.declared.Choosing.{Choosing}
use Rattle.select.specs.declared.Choosing.TheVariants.{Command}
use Rattle.select.specs.declared.Mode.{Mode}
use Rattle.select.specs.Select.{mark_in, speed_in, mode_of, standard}
use Rattle.select.specs.Select.Laws.{mark_of_lem, speed_of_lem, mode_of_lem}
use Rattle.select.specs.Select.Speed.{leads, leads_none, leads_silent, leads_by, skip_leads, match_sets}
use Rattle.tag.specs.Tag.{new_tag, event_of, step}
use Rattle.tag.proofs.Tag.Laws.{new_good, new_made}
use Rattle.promises.specs.Demand3.Left.{tick_cases}
use Rattle.promises.specs.Line.Slots.{line_event}
use Rattle.promises.specs.Overdrive.{with_mode, with_speed, ButSpeed, NoLong, NoShort, slots_in, SetsSpeed, Overdrive}
use Rattle.promises.specs.Ranges.Laws.{fit_sound}
use Rattle.promises.specs.Runs.{State, Event, code_of, reading_of, leaves, happens, after, line_bit, run, Reached}
use Rattle.promises.specs.Runs.Laws.{Sound, reached_sound, sound_after, slot_happens, reset_happens, short_happens, number_after}
use Rattle.promises.specs.Words.{number_of, speed_of}
use Rattle.promises.specs.Words.Laws.{low_is}

-- ---- a tag at another speed

-- it has that speed, and a tag at its own speed is itself
speed_with : (speed : Bool) (s : State) → speed_of (with_speed speed s) ≡ speed
unfolding mark_in speed_in
speed_with speed s = speed_of_lem (mark_in s.tag.exchange.select.mode) speed

with_own : (s : State) → with_speed (speed_of s) s ≡ s
unfolding mark_in speed_in
with_own s = ap (λ (mode : Mode). with_mode mode s) (mode_of_lem s.tag.exchange.select.mode)

-- so it differs at most in the speed
but_with : (s t : State) (speed : Bool) → t ≡ with_speed speed s → ButSpeed s t
but_with s t speed e = e ∙ ap (λ (v : Bool). with_speed v s) (sym (ap speed_of e ∙ speed_with speed s))

-- ---- a short reset

-- what it leaves at standard speed, of the exchange, and at overdrive
slow_exchange : (x : Exchange) → speed_in x.select.mode ≡ false → exchange.after_short x ≡ x
slow_exchange x standard =
    exchange-laws.short_cases (λ y. y ≡ x) x (λ overdrive. absurd (true≢false (sym overdrive ∙ standard))) (λ _. refl)

fast_exchange : (x : Exchange) → speed_in x.select.mode ≡ true → exchange.after_short x ≡ exchange-laws.at_speed true (exchange.after_reset x)
fast_exchange x overdrive =
    exchange-laws.short_cases (λ y. y ≡ exchange-laws.at_speed true (exchange.after_reset x)) x
    (λ fast i. record {
      number = x.number;
      select = record { choosing = Command 0 0; mode = same fast i };
      held = x.held;
      bus = (exchange.after_reset x).bus;
    })
    (λ slow. absurd (true≢false (sym overdrive ∙ slow)))
  where
    mode : Mode
    mode = x.select.mode

    -- the mode at overdrive is that after a long reset, but for the speed
    same : speed_in mode ≡ true → mode ≡ mode_of (mark_in (standard mode)) true
    same fast = sym (mode_of_lem mode) ∙ ap (mode_of (mark_in mode)) fast ∙ ap (λ (mark : Bool). mode_of mark true) (sym (mark_of_lem (mark_in mode) false))

pub slow : {s : State} → Sound s → speed_of s ≡ false → (line_bit s Event.short ≡ true) × (after s Event.short ≡ s)
unfolding after short_tag speed_in
slow {s} sound standard = (
  line_event s Event.short (short_happens sound) ∙ ap not standard,
  rw (short_happens sound, slow_exchange s.tag.exchange standard),
)

fast : {s : State} → Sound s → speed_of s ≡ true →
    (line_bit s Event.short ≡ false) × (after s Event.short ≡ with_speed true (after s Event.reset))
unfolding after short_tag reset_tag mark_in speed_in
fast {s} sound overdrive = (
  line_event s Event.short (short_happens sound) ∙ ap not overdrive,
  rw (short_happens sound, reset_happens sound, fast_exchange s.tag.exchange overdrive),
)

unread : (image : List ℕ) (tag : _) (reading : ℕ) → step image tag 4 reading ≡ step image tag 4 0
unfolding step event_of
unread image tag reading = refl

-- ---- which slots set the speed

abbrev choosing_of : State → Choosing
choosing_of s = s.tag.exchange.select.choosing

in_range_lem : {s : State} → Sound s → exchange.exchange_in_range s.tag.exchange ≡ true
in_range_lem {s} sound = (ranges_of s.tag sound.ranges).line

-- a tick leaves the exchange, valid or not
tick_exchange : {s : State} → Sound s → (reading : ℕ) → (after s (Event.tick reading)).tag.exchange ≡ s.tag.exchange
unfolding tick_tag
tick_exchange {s} sound reading = tick_cases sound reading (λ u. u.tag.exchange ≡ s.tag.exchange) refl refl

slot_speed : {s : State} → Sound s → (bit : Bool) (bits : List Bool) →
    let next = after s (Event.slot bit) in
    (leads (choosing_of s) (number_of s) (bit ∷ bits) || speed_of s) ≡ (leads (choosing_of next) (number_of s) bits || speed_of next)
unfolding after slotted speed_in
slot_speed {s} sound bit bits = rw (slot_happens sound bit) (exchange-laws.slot_leads s.tag.exchange bit _ bits (in_range_lem sound))

-- the speed after any events but long resets: those to come set it, or it was set
speed_run : {s : State} → Sound s → (events : List Event) → NoLong events →
    speed_of (run s events).state ≡ (leads (choosing_of s) (number_of s) (slots_in events) || speed_of s)
unfolding run NoLong slots_in speed_in
speed_run {s} sound [] none = sym (rw (leads_none (choosing_of s) (number_of s) (exchange-laws.parts s.tag.exchange (in_range_lem sound)).0))
speed_run {s} sound (Event.slot bit ∷ events) none =
    speed_run {s = after s (Event.slot bit)} (sound_after (Event.slot bit) sound) events none
    ∙ ap (λ (n : ℕ). leads (choosing_of (after s (Event.slot bit))) n (slots_in events) || speed_of (after s (Event.slot bit)))
    (number_after (Event.slot bit) sound)
    ∙ sym (slot_speed sound bit (slots_in events))
speed_run sound (Event.reset ∷ events) none = absurd none
speed_run {s} sound (Event.tick reading ∷ events) none =
    speed_run {s = after s (Event.tick reading)} (sound_after (Event.tick reading) sound) events none
    ∙ ap (λ (x : Exchange). leads x.select.choosing x.number (slots_in events) || speed_in x.select.mode) (tick_exchange sound reading)
speed_run {s} sound (Event.short ∷ events) none =
    by (speed_of s) refl (speed_run {s = after s Event.short} (sound_after Event.short sound) events none)
  where
    bits : List Bool
    bits = slots_in events

    next : State
    next = after s Event.short

    by : (speed : Bool) → speed_of s ≡ speed → speed_of (run next events).state ≡ (leads (choosing_of next) (number_of next) bits || speed_of next) →
        speed_of (run next events).state ≡ (leads (choosing_of s) (number_of s) bits || speed_of s)
    by true e onward =
        let set : speed_of next ≡ true = ap speed_of (fast sound e).1 ∙ speed_with true (after s Event.reset) in
        onward ∙ ap (λ (b : Bool). leads (choosing_of next) (number_of next) bits || b) set ∙ or-true (leads (choosing_of next) (number_of next) bits)
        ∙ sym (ap (λ (b : Bool). leads (choosing_of s) (number_of s) bits || b) e ∙ or-true (leads (choosing_of s) (number_of s) bits))
    by false e onward = onward ∙ ap (λ (u : State). leads (choosing_of u) (number_of u) bits || speed_of u) (slow sound e).1

-- from a long reset on
reset_speed : {s : State} → Sound s → (events : List Event) → NoLong events →
    speed_of (run s (Event.reset ∷ events)).state ≡ leads (Command 0 0) (number_of s) (slots_in events)
unfolding run after reset_tag speed_in
reset_speed {s} sound events none =
    speed_run (sound_after Event.reset sound) events none
    ∙ rw (reset_happens sound, speed_of_lem) (or-false (leads (Command 0 0) (number_of s) (slots_in events)))

new_slow : (image : List ℕ) (number code : ℕ) (accepted : (new_tag image number code).answered.answer ≡ Ok tt) →
    (events : List Event) → NoLong events → speed_of (run (leaves (new_tag image number code)) events).state ≡ false
unfolding speed_in
new_slow image number code accepted events none =
    let good = new_good image number code accepted in
    speed_run (reached_sound (Reached.new image number code accepted)) events none
    ∙ rw (new_made image number code good.0 good.1 good.2, leads_silent) (speed_of_lem false false)

-- ---- two tags that differ in the speed alone

abbrev Goes : Outcome → Outcome → Type 0
Goes o p = (o.answered.line ≡ p.answered.line) × ButSpeed (leaves o) (leaves p)

-- what a deed does to the image has nothing to do with it
performed_same : (deed : Deed) (speed : Bool) (x : Exchange) (c : Counters) (image : List ℕ) →
    performed deed (exchange-laws.at_speed speed x) c image ≡ performed deed x c image
unfolding performed
performed_same Deed.Nothing speed x c image = refl
performed_same Deed.Store speed x c image = refl
performed_same Deed.Clear speed x c image = refl
performed_same Deed.Start speed x c image = refl
performed_same Deed.Stop speed x c image = refl
performed_same Deed.Convert speed x c image = refl

slot_goes : (s : State) (speed bit : Bool) → Goes (slotted s.image s.tag bit) (slotted s.image (with_speed speed s).tag bit)
unfolding slotted exchange.asks mark_in speed_in
slot_goes s speed bit =
    let x = s.tag.exchange in
    let c = s.tag.counters in
    let answer = answer_to s.image s.tag.code (exchange.asks x bit) in
    let same = exchange-laws.slot_same x speed bit answer in
    let a = exchange.slot_of x bit answer in
    let b = exchange.slot_of (exchange-laws.at_speed speed x) bit answer in
    let left : performed b.deed b.exchange c s.image ≡ performed a.deed a.exchange c s.image =
    ap (λ (d : Deed). performed d b.exchange c s.image) (sym same.1)
    ∙ ap (λ (y : Exchange). performed a.deed y c s.image) same.2
    ∙ performed_same a.deed (speed_in b.exchange.select.mode) a.exchange c s.image in (
      same.0,
      λ i. record {
        image = left i;
        tag = record { code = s.tag.code; counters = performed_counters (sym same.1 i) c s.image; exchange = same.2 i };
      },
    )

-- a refusal, a tick and a long reset
refused_goes : (s : State) (speed : Bool) (answer : Answer) →
    Goes (refusal answer s.tag s.image) (refusal answer (with_speed speed s).tag s.image)
refused_goes s speed answer = (refl, but_with s (with_speed speed s) speed refl)

tick_goes : (s : State) (speed : Bool) (reading : ℕ) →
    Goes (tick_tag s.image s.tag reading) (tick_tag s.image (with_speed speed s).tag reading)
unfolding tick_tag
tick_goes s speed reading =
    (refl, but_with (leaves (tick_tag s.image s.tag reading)) (leaves (tick_tag s.image (with_speed speed s).tag reading)) speed refl)

reset_but : (s : State) (speed : Bool) → ButSpeed (leaves (reset_tag s.image s.tag)) (leaves (reset_tag s.image (with_speed speed s).tag))
unfolding reset_tag mark_in
reset_but s speed =
    let x = s.tag.exchange in
    let next : Exchange → State = λ y. record { image = s.image; tag = record { code = s.tag.code; counters = s.tag.counters; exchange = y } } in
    let same : exchange.after_reset (exchange-laws.at_speed speed x) ≡ exchange.after_reset x =
    exchange-laws.reset_agree (exchange-laws.at_speed speed x) x refl (mark_of_lem (mark_in x.select.mode) speed) refl in
    let long = leaves (reset_tag s.image s.tag) in
    but_with long (leaves (reset_tag s.image (with_speed speed s).tag)) (speed_of long) (ap next same ∙ sym (with_own long))

-- an event that is no short reset
event_goes : (s : State) (speed : Bool) (e : Event) → NoShort (e ∷ []) →
    Goes (event_of s.image s.tag (code_of e) (reading_of e)) (event_of s.image (with_speed speed s).tag (code_of e) (reading_of e))
unfolding event_of reset_tag NoShort
event_goes s speed (Event.slot true) none = slot_goes s speed true
event_goes s speed (Event.slot false) none = slot_goes s speed false
event_goes s speed Event.reset none = (refl, reset_but s speed)
event_goes s speed (Event.tick reading) none = choices Goes (ltb 2047 reading) (refused_goes s speed (Err Refusal.Reading)) (tick_goes s speed reading)
event_goes s speed Event.short none = absurd none

step_goes : (s : State) (speed : Bool) (e : Event) → NoShort (e ∷ []) → Goes (happens s e) (happens (with_speed speed s) e)
unfolding step tag_in_range
step_goes s speed e none =
    choices Goes (not (eqb (length s.image) 8832)) (refused_goes s speed (Err Refusal.ImageLength))
    (choices Goes (not (tag_in_range s.tag)) (refused_goes s speed (Err Refusal.RecordRange)) (event_goes s speed e none))

-- of events with no short reset among them the first is none, and the others have none
no_short : (e : Event) (events : List Event) → NoShort (e ∷ events) → NoShort (e ∷ []) × NoShort events
unfolding NoShort
no_short (Event.slot bit) events none = (tt, none)
no_short Event.reset events none = (tt, none)
no_short (Event.tick reading) events none = (tt, none)
no_short Event.short events none = absurd none

after_goes : (s t : State) (e : Event) → ButSpeed s t → NoShort (e ∷ []) → (line_bit s e ≡ line_bit t e) × ButSpeed (after s e) (after t e)
unfolding after
after_goes s t e but none = subst (λ (u : State). Goes (happens s e) (happens u e)) (sym but) (step_goes s (speed_of t) e none)

unseen : (s t : State) → ButSpeed s t → (events : List Event) → NoShort events →
    ((run s events).line ≡ (run t events).line) × ButSpeed (run s events).state (run t events).state
unfolding run
unseen s t but [] none = (refl, but)
unseen s t but (e ∷ events) none =
    let parts = no_short e events none in
    let goes = after_goes s t e but parts.0 in
    let rest = unseen (after s e) (after t e) goes.1 events parts.1 in
    (λ i. goes.0 i ∷ rest.0 i, rest.1)

-- where it is seen
speed_sound : {s : State} (speed : Bool) → Sound s → Sound (with_speed speed s)
unfolding tag_in_range
speed_sound speed sound = record { size = sound.size; ranges = sound.ranges }

seen : {s : State} → Sound s → line_bit (with_speed true s) Event.short ≢ line_bit (with_speed false s) Event.short
seen {s} sound same =
    true≢false
    (sym (slow (speed_sound false sound) (speed_with false s)).0 ∙ sym same ∙ (fast (speed_sound true sound) (speed_with true s)).0)

-- ---- together

sets_speed : {s : State} → Sound s → (events : List Event) → NoLong events →
    speed_of (run s (Event.reset ∷ events)).state ≡ true → SetsSpeed (number_of s) (slots_in events)
sets_speed {s} sound events none set =
    simp low_is
    (⊎_elim (λ skip. inl skip) (λ match. inr (match.0, match.1 ∙ sym (append_assoc (bits_of 8 0x69) (bits_of 64 (number_of s)) match.0)))
    (leads_by (number_of s) (slots_in events) (sym (reset_speed sound events none) ∙ set)))

speed_set : {s : State} → Sound s → (events : List Event) → NoLong events →
    SetsSpeed (number_of s) (slots_in events) → speed_of (run s (Event.reset ∷ events)).state ≡ true
speed_set {s} sound events none sets =
    let number = number_of s in
    reset_speed sound events none
    ∙ ⊎_elim (λ skip. ap (leads (Command 0 0) number) skip.1 ∙ skip_leads number skip.0)
    (λ match. ap (leads (Command 0 0) number) (match.1 ∙ append_assoc (bits_of 8 0x69) (bits_of 64 number) match.0) ∙ match_sets number match.0)
    (simp low_is at sets)

begun : {s : State} → Sound s → speed_of s ≡ true → (events : List Event) → NoShort events →
    let long = run s (Event.reset ∷ events) in
    let short = run s (Event.short ∷ events) in
    (long.line ≡ short.line) × ButSpeed long.state short.state
unfolding run reset_tag
begun {s} sound overdrive events none =
    let short = fast sound overdrive in
    let long : line_bit s Event.reset ≡ false = line_event s Event.reset (reset_happens sound) in
    let but = but_with (after s Event.reset) (after s Event.short) true short.1 in
    let rest = unseen (after s Event.reset) (after s Event.short) but events none in
    let bits : line_bit s Event.reset ≡ line_bit s Event.short = long ∙ sym short.0 in
    (λ i. bits i ∷ rest.0 i, rest.1)

pub overdrive : Overdrive
overdrive =
    record {
      slow = λ fit. slow (fit_sound fit);
      fast = λ fit. fast (fit_sound fit);
      unread = unread;
      new = new_slow;
      only_if = λ fit. sets_speed (fit_sound fit);
      sets = λ fit. speed_set (fit_sound fit);
      unseen = unseen;
      seen = λ fit. seen (fit_sound fit);
      begun = λ fit. begun (fit_sound fit);
    }

-- What lifts from one event to a run: an invariant, and a relation between two runs side by side; and the two that every reached
-- state has. Assumes nothing.
use Rattle.std.specs.Prelude.{◌≡◌, Bool, List, [], ◌∷◌, ◌++◌, ℕ, suc, ◌≤◌, ◌<◌, length, Ok, Err}
use Rattle.std.proofs.Math.Path.{refl}
use Rattle.std.proofs.Common.{ap, ◌∙◌, arith, lt-ltb, le-ltb}
use Rattle.std.proofs.Math.Bool.{true, false}
use Rattle.std.proofs.Math.Logic.{dite}
use Rattle.std.proofs.Math.Decide.{dec_le}
use Rattle.answer.specs.declared.Refusal.{Refusal}
use Rattle.bits.specs.Bits.{digit}
use Rattle.exchange.specs.Exchange.Laws.{number_kept, short_number_lem, short_held}
use Rattle.record.specs.Record.{tag_in_range, refusal}
use Rattle.event.specs.Event.{slotted, reset_tag, short_tag, tick_tag}
use Rattle.tag.specs.Tag.{new_tag, event_of}
use Rattle.record.specs.Record.Laws.{new_in_range}
use Rattle.tag.proofs.Tag.Laws.{new_good, new_made, length_new, length_step, step_in_range, step_taken}
use Rattle.promises.specs.Runs.{State, Event, code_of, reading_of, leaves, happens, after, line_bit, Accepts, Ran, run, Kept, Reached, Always, Together, OnSlots}

-- ---- an invariant of one event is one of every run

pub invariant : (I : State → Type 0) (P : State → Event → Type 0) →
    ((s : State) (e : Event) → I s → P s e → I (after s e)) →
    (s : State) (es : List Event) → I s → Always P s es → I (run s es).state
unfolding run Always
invariant I P keeps s [] i always = i
invariant I P keeps s (e ∷ es) i always = invariant I P keeps (after s e) es (keeps s e i always.0) always.1

-- and holds at each of its places
pub invariant_always : (I : State → Type 0) (P : State → Event → Type 0) →
    ((s : State) (e : Event) → I s → P s e → I (after s e)) →
    (s : State) (es : List Event) → I s → Always P s es → Always (λ u e. I u × P u e) s es
unfolding Always
invariant_always I P keeps s [] i always = tt
invariant_always I P keeps s (e ∷ es) i always =
    ((i, always.0), invariant_always I P keeps (after s e) es (keeps s e i always.0) always.1)

-- ---- a relation that two events keep, with equal line bits, is one of two runs

pub relation : (R : State → State → Type 0) (P : State → Event → State → Event → Type 0) →
    ((s : State) (e : Event) (t : State) (f : Event) → R s t → P s e t f → (line_bit s e ≡ line_bit t f) × R (after s e) (after t f)) →
    (s : State) (es : List Event) (t : State) (fs : List Event) → R s t → Together P s es t fs →
    ((run s es).line ≡ (run t fs).line) × R (run s es).state (run t fs).state
unfolding run Together
relation R P keeps s [] t [] r together = (refl, r)
relation R P keeps s [] t (f ∷ fs) r together = absurd together
relation R P keeps s (e ∷ es) t [] r together = absurd together
relation R P keeps s (e ∷ es) t (f ∷ fs) r together =
    let next = keeps s e t f r together.0 in
    let rest = relation R P keeps (after s e) es (after t f) fs next.1 together.1 in
    (λ i. next.0 i ∷ rest.0 i, rest.1)

-- ---- what holds at each place, by parts

pub always_map : {P Q : State → Event → Type 0} → ((s : State) (e : Event) → P s e → Q s e) →
    (s : State) (es : List Event) → Always P s es → Always Q s es
unfolding Always
always_map f s [] always = tt
always_map f s (e ∷ es) always = (f s e always.0, always_map f (after s e) es always.1)

pub always_all : {P : State → Event → Type 0} → ((s : State) (e : Event) → P s e) → (s : State) (es : List Event) → Always P s es
unfolding Always
always_all f s [] = tt
always_all f s (e ∷ es) = (f s e, always_all f (after s e) es)

-- of slots alone
pub all_slots : (P : State → Bool → Type 0) (s : State) (e : Event) → ((bit : Bool) → P s bit) → OnSlots P s e
all_slots P s (Event.slot bit) f = f bit
all_slots P s Event.reset f = tt
all_slots P s (Event.tick reading) f = tt
all_slots P s Event.short f = tt

pub on_slots : {P Q : State → Bool → Type 0} → ((s : State) (bit : Bool) → P s bit → Q s bit) →
    (s : State) (e : Event) → OnSlots P s e → OnSlots Q s e
on_slots f s (Event.slot bit) p = f s bit p
on_slots f s Event.reset p = tt
on_slots f s (Event.tick reading) p = tt
on_slots f s Event.short p = tt

pub always_append : (P : State → Event → Type 0) (s : State) (es fs : List Event) →
    Always P s es → Always P (run s es).state fs → Always P s (es ++ fs)
unfolding Always run
always_append P s [] fs first rest = rest
always_append P s (e ∷ es) fs first rest = (first.0, always_append P (after s e) es fs first.1 rest)

-- two runs side by side have what each has, and what both have
pub together_with : (P Q : State → Event → Type 0) (R S : State → Event → State → Event → Type 0) →
    (s : State) (es : List Event) (t : State) (fs : List Event) →
    Always P s es → Always Q t fs → Together R s es t fs → Together S s es t fs →
    Together (λ u e v f. P u e × Q v f × R u e v f × S u e v f) s es t fs
unfolding Always Together
together_with P Q R S s [] t [] p q r z = tt
together_with P Q R S s [] t (f ∷ fs) p q r z = absurd r
together_with P Q R S s (e ∷ es) t [] p q r z = absurd r
together_with P Q R S s (e ∷ es) t (f ∷ fs) p q r z =
    ((p.0, q.0, r.0, z.0), together_with P Q R S (after s e) es (after t f) fs p.1 q.1 r.1 z.1)

-- ---- a line bit for each event

pub line_length : (s : State) (es : List Event) → length (run s es).line ≡ length es
unfolding run
line_length s [] = refl
line_length s (e ∷ es) = ap suc (line_length (after s e) es)

-- ---- one run and then another

abbrev follows : Ran → Ran → Ran
follows first rest = record { line = first.line ++ rest.line; state = rest.state }

pub run_append : (s : State) (es fs : List Event) → run s (es ++ fs) ≡ follows (run s es) (run (run s es).state fs)
unfolding run
run_append s [] fs = refl
run_append s (e ∷ es) fs =
    ap (λ (rest : Ran). record { line = line_bit s e ∷ rest.line; state = rest.state }) (run_append (after s e) es fs)

-- ---- every reached state has an image of 8,832 bytes and a record in its ranges

pub record Sound (s : State) : Type 0 where
  pub size : length s.image ≡ 8832
  pub ranges : tag_in_range s.tag ≡ true

pub sound_after : {s : State} (e : Event) → Sound s → Sound (after s e)
unfolding after
sound_after {s} e sound =
    record {
      size = length_step s.image s.tag (code_of e) (reading_of e) ∙ sound.size;
      ranges = step_in_range s.image s.tag (code_of e) (reading_of e) sound.ranges;
    }

pub sound_run : {s : State} (es : List Event) → Sound s → Sound (run s es).state
unfolding run
sound_run [] sound = sound
sound_run {s} (e ∷ es) sound = sound_run {s = after s e} es (sound_after e sound)

sound_new : (image : List ℕ) (number code : ℕ) → (new_tag image number code).answered.answer ≡ Ok tt →
    Sound (leaves (new_tag image number code))
sound_new image number code e =
    let good = new_good image number code e in
    rw (new_made image number code good.0 good.1 good.2)
    (record { size = length_new 8832; ranges = new_in_range number code good.1 good.2 })

pub reached_sound : {s : State} → Reached s → Sound s
reached_sound (Reached.new image number code e) = sound_new image number code e
reached_sound (Reached.event e before accepted) = sound_after e (reached_sound before)

-- ---- what each event does in such a state

module _ {s : State} (sound : Sound s) where
  pub slot_happens : (bit : Bool) → happens s (Event.slot bit) ≡ slotted s.image s.tag bit
  unfolding event_of
  slot_happens bit = step_taken s.image s.tag (digit bit) 0 sound.size sound.ranges ∙ by bit
    where
      by : (bit : Bool) → event_of s.image s.tag (digit bit) 0 ≡ slotted s.image s.tag bit
      by true = refl
      by false = refl

  pub reset_happens : happens s Event.reset ≡ reset_tag s.image s.tag
  unfolding event_of
  reset_happens = step_taken s.image s.tag 2 0 sound.size sound.ranges

  pub short_happens : happens s Event.short ≡ short_tag s.image s.tag
  unfolding event_of
  short_happens = step_taken s.image s.tag 4 0 sound.size sound.ranges

  pub tick_happens : (reading : ℕ) → reading ≤ 2047 → happens s (Event.tick reading) ≡ tick_tag s.image s.tag reading
  unfolding event_of
  tick_happens reading small =
      step_taken s.image s.tag 3 reading sound.size sound.ranges ∙ rw (le-ltb 2047 reading small)

  -- a tick with a reading above 2047 is refused
  pub tick_refused : (reading : ℕ) → 2047 < reading → happens s (Event.tick reading) ≡ refusal (Err Refusal.Reading) s.tag s.image
  unfolding event_of
  tick_refused reading high =
      step_taken s.image s.tag 3 reading sound.size sound.ranges ∙ rw (lt-ltb 2047 reading high)

  -- and changes nothing
  pub tick_passed : (reading : ℕ) → 2047 < reading → after s (Event.tick reading) ≡ s
  unfolding after
  tick_passed reading high = rw (tick_refused reading high)

-- ---- a reset, long or short, leaves all but the bus state

pub reset_keeps : {s : State} → Sound s → Kept s (after s Event.reset)
unfolding after reset_tag
reset_keeps sound = rw (reset_happens sound) (record { image = refl; code = refl; counters = refl; number = refl; held = refl })

pub short_keeps : {s : State} → Sound s → Kept s (after s Event.short)
unfolding after short_tag
short_keeps {s} sound =
    rw (short_happens sound)
    (record {
      image = refl;
      code = refl;
      counters = refl;
      number = short_number_lem s.tag.exchange;
      held = short_held s.tag.exchange;
    })

-- ---- no event changes the number

pub number_after : {s : State} (e : Event) → Sound s → (after s e).tag.exchange.number ≡ s.tag.exchange.number
unfolding after slotted tick_tag
number_after {s} (Event.slot bit) sound = rw (slot_happens sound bit) (number_kept s.tag.exchange bit _)
number_after Event.reset sound = (reset_keeps sound).number
number_after Event.short sound = (short_keeps sound).number
number_after (Event.tick reading) sound =
    dite (dec_le reading 2047) (λ small. rw (tick_happens sound reading small))
    (λ high. rw (tick_refused sound reading (omega arith)))

pub number_run : {s : State} (es : List Event) → Sound s → (run s es).state.tag.exchange.number ≡ s.tag.exchange.number
unfolding run
number_run [] sound = refl
number_run {s} (e ∷ es) sound = number_run {s = after s e} es (sound_after e sound) ∙ number_after e sound

-- nor the code

pub code_after : {s : State} (e : Event) → Sound s → (after s e).tag.code ≡ s.tag.code
unfolding after slotted tick_tag
code_after (Event.slot bit) sound = rw (slot_happens sound bit)
code_after Event.reset sound = (reset_keeps sound).code
code_after Event.short sound = (short_keeps sound).code
code_after (Event.tick reading) sound =
    dite (dec_le reading 2047) (λ small. rw (tick_happens sound reading small))
    (λ high. rw (tick_refused sound reading (omega arith)))

pub code_run : {s : State} (es : List Event) → Sound s → (run s es).state.tag.code ≡ s.tag.code
unfolding run
code_run [] sound = refl
code_run {s} (e ∷ es) sound = code_run {s = after s e} es (sound_after e sound) ∙ code_after e sound

-- ---- which events are accepted

-- slots, resets, and ticks with a valid reading
abbrev pub Valid : Event → Type 0
Valid (Event.slot bit) = Unit {0}
Valid Event.reset = Unit {0}
Valid (Event.tick reading) = reading ≤ 2047
Valid Event.short = Unit {0}

pub sound_accepts : {s : State} → Sound s → (e : Event) → Valid e → Accepts s e
unfolding slotted reset_tag short_tag tick_tag
sound_accepts sound (Event.slot bit) valid = rw (slot_happens sound bit)
sound_accepts sound Event.reset valid = rw (reset_happens sound)
sound_accepts sound (Event.tick reading) valid = rw (tick_happens sound reading valid)
sound_accepts sound Event.short valid = rw (short_happens sound)

-- ---- what any events lead to from a reached state is reached

pub reached_after : {s : State} → Reached s → (e : Event) → Reached (after s e)
reached_after r (Event.slot bit) = Reached.event (Event.slot bit) r (sound_accepts (reached_sound r) (Event.slot bit) tt)
reached_after r Event.reset = Reached.event Event.reset r (sound_accepts (reached_sound r) Event.reset tt)
reached_after r Event.short = Reached.event Event.short r (sound_accepts (reached_sound r) Event.short tt)
reached_after r (Event.tick reading) =
    dite (dec_le reading 2047) (λ small. Reached.event (Event.tick reading) r (sound_accepts (reached_sound r) (Event.tick reading) small))
    (λ high. rw (tick_passed (reached_sound r) reading (omega arith)) r)

pub reached_run : {s : State} (es : List Event) → Reached s → Reached (run s es).state
unfolding run
reached_run [] r = r
reached_run {s} (e ∷ es) r = reached_run {s = after s e} es (reached_after r e)

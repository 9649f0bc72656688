-- What holds of the tags that a Match does not choose, and of Skip. Assumes nothing.
use Rattle.std.specs.Prelude.{Bool, true, false, ◌||◌, ◌≢◌, ◌⊎◌, ◌≡◌, refl, ℕ, ◌^◌, ◌<◌, eqb, length, take}
use Rattle.std.proofs.lemmas.Bool.{false≢true}
use mathlib.Core.List.{List, [], ◌∷◌, ◌++◌, map, append-nil, map-append, flat_map, append_assoc}
use Rattle.std.proofs.Common.{inl, inr, ⊎_elim, sym, ap, subst, ◌∙◌, arith, eqb-true, take_at}
use Rattle.bits.specs.Bits.Laws.{heard_whole_lem, length_bits}
use Rattle.bits.specs.Bits.{shift_all}
use Rattle.exchange.specs.declared.Exchange.{Exchange}
use Rattle.select.specs.declared.Choosing.{Choosing}
use Rattle.promises.specs.Overdrive.{NoLong, NoShort, slots_in, Starts, ButSpeed}
use Rattle.promises.specs.Overdrive.Proof.{overdrive}
use Rattle.promises.specs.Ranges.{Fit}
use Rattle.promises.specs.Ranges.Laws.{fit_sound, fit_run}
use Rattle.promises.specs.Runs as alone
use Rattle.promises.specs.Runs.Laws.{always_append, number_run, number_after, sound_run, run_append}
use Rattle.promises.specs.Runs.{State, Event, Always}
use Rattle.promises.specs.Sentences.Choosing.Proof.{choosing}
use Rattle.promises.specs.Sentences.Commands.Proof.{controlling}
use Rattle.promises.specs.Sentences.Commands.{sent, PassesFull}
use Rattle.promises.specs.Sentences.Events.Proof.{events}
use Rattle.promises.specs.Sentences.Mission.{Cleared}
use Rattle.promises.specs.Several.Aside.{Opens, Listens, left_aside, reset_listens, stretch_aside, reset_plain}
use Rattle.promises.specs.Several.Laws.{event_tag, run_tag, run_remains, event_remains}
use Rattle.promises.specs.Several.{Line, LineEvent, count_of, tag_at, FitLine, AllAccepted, after, run, heard, Elsewhere, Resumes, stretches, AllOf, Unselected, LeftAlone, hears, Valid, TouchesNoOther}
use Rattle.promises.specs.Several.Proof.{AllValid, after_reset_lem, fit_valid, fit_after, valid_accepted}
use Rattle.promises.specs.Words.Laws.{low_is}
use Rattle.promises.specs.Words.{among, low, bit_at, number_of, speed_of, speed_in, Silent, Chosen}

slots_valid : (count : ℕ) (bits : List Bool) → AllValid count (map LineEvent.slot bits)
unfolding AllValid
slots_valid count [] = tt
slots_valid count (bit ∷ bits) = (tt, slots_valid count bits)

-- ---- a tag that is not chosen

aside : {l : Line} → FitLine l → (es : List LineEvent) → AllAccepted l es → (j : ℕ) → j < count_of l →
    Always Unselected (tag_at l j) (heard j es) → LeftAlone (tag_at l j) (heard j es) (tag_at (run l es).end j)
aside {l} fit es ok j h never =
    subst (LeftAlone (tag_at l j) (heard j es)) (sym (run_tag l fit.seven es ok j h)) (left_aside (fit_sound (fit.tags j h)) (heard j es) never)

heard_append : (j : ℕ) (es fs : List LineEvent) → heard j (es ++ fs) ≡ heard j es ++ heard j fs
unfolding flat_map
heard_append j [] fs = refl
heard_append j (e ∷ es) fs = ap (λ (rest : List Event). hears j e ++ rest) (heard_append j es fs) ∙ sym (append_assoc (hears j e) (heard j es) (heard j fs))

-- a stretch after the first is begun by a Match with another number, or by Resume
abbrev Begun : ℕ → ℕ → List LineEvent → Type 0
Begun number j es = Elsewhere number (heard j es) ⊎ Resumes (heard j es)

never_chosen : (number j : ℕ) {s : State} → Listens s → number_of s ≡ number → (first : List LineEvent) (rest : List (List LineEvent)) →
    Opens number s.tag.exchange.select.mode (heard j first) → AllOf (Begun number j) rest → Always Unselected s (heard j (stretches first rest))
unfolding stretches AllOf Always flat_map
never_chosen number j listens own first [] opens each = (stretch_aside listens (heard j first) (rw own opens)).0
never_chosen number j {s} listens own first (next ∷ rest) opens each =
    let ran = stretch_aside listens (heard j first) (rw own opens) in
    let end = (alone.run s (heard j first)).state in
    let sound = sound_run (heard j first) listens.sound in
    let again = reset_listens sound in
    let plain = reset_plain sound ran.2 in
    let same = number_after Event.reset sound ∙ number_run (heard j first) listens.sound ∙ own in
    let opened : Opens number (alone.after end Event.reset).tag.exchange.select.mode (heard j next) =
    ⊎_elim (λ e. inl e) (λ r. inr (r, plain)) each.0 in
    subst (Always Unselected s) (sym (heard_append j first (LineEvent.reset ∷ stretches next rest)))
    (always_append Unselected s (heard j first) (Event.reset ∷ heard j (stretches next rest)) ran.0
    (ran.1, never_chosen number j {s = alone.after end Event.reset} again same next rest opened each.1))

never : {l : Line} → FitLine l → (j : ℕ) → j < count_of l → let s = after l LineEvent.reset in
    (first : List LineEvent) (rest : List (List LineEvent)) → Elsewhere (number_of (tag_at l j)) (heard j first) →
    AllOf (Begun (number_of (tag_at l j)) j) rest → Always Unselected (tag_at s j) (heard j (stretches first rest))
never {l} fit j h first rest elsewhere each =
    let sound = fit_sound (fit.tags j h) in
    subst (λ (u : State). Always Unselected u (heard j (stretches first rest))) (sym (after_reset_lem fit j h))
    (never_chosen (number_of (tag_at l j)) j (reset_listens sound) (number_after Event.reset sound) first rest (inl elsewhere) each)

touched_not : {l : Line} → FitLine l → (j : ℕ) → j < count_of l → let s = after l LineEvent.reset in
    (first : List LineEvent) (rest : List (List LineEvent)) → AllAccepted s (stretches first rest) →
    Elsewhere (number_of (tag_at l j)) (heard j first) → AllOf (Begun (number_of (tag_at l j)) j) rest →
    LeftAlone (tag_at s j) (heard j (stretches first rest)) (tag_at (run s (stretches first rest)).end j)
touched_not {l} fit j h first rest ok elsewhere each =
    let reset = fit_valid fit LineEvent.reset tt in
    let here : j < count_of (after l LineEvent.reset) = subst (λ (n : ℕ). j < n) (sym (event_remains l LineEvent.reset).count) h in
    aside (fit_after LineEvent.reset fit reset) (stretches first rest) ok j here (never fit j h first rest elsewhere each)

-- ---- a grower's Match

first_same : (n : ℕ) (a b p q : List Bool) → length a ≡ n → length b ≡ n → a ++ p ≡ b ++ q → a ≡ b
first_same n a b p q la lb e = sym (take_at a p n la) ∙ ap (take n) e ∙ take_at b q n lb

low_own : (m n : ℕ) → m < 2 ^ 64 → n < 2 ^ 64 → low 64 m ≡ low 64 n → m ≡ n
low_own m n hm hn e =
    sym (heard_whole_lem 64 {r = 0} (omega arith) hm) ∙ ap (shift_all 64 0) (sym (low_is 64 m) ∙ e ∙ low_is 64 n) ∙ heard_whole_lem 64 {r = 0} (omega arith) hn

other_number : {l : Line} → FitLine l → (i j : ℕ) → i < count_of l → j < count_of l → i ≢ j →
    number_of (tag_at l i) < 2 ^ 64 → number_of (tag_at l j) < 2 ^ 64 → (byte : ℕ) → among (0x55 ∷ 0x69 ∷ []) byte ≡ true →
    (es : List LineEvent) → NoLong (heard j es) → Starts (low 8 byte ++ low 64 (number_of (tag_at l i))) (slots_in (heard j es)) →
    Elsewhere (number_of (tag_at l j)) (heard j es)
other_number {l} fit i j hi hj apart small-i small-j byte match es none starts =
    let ni = number_of (tag_at l i) in
    let nj = number_of (tag_at l j) in
    let long : (n : ℕ) → length (low 64 n) ≡ 64 = λ n. ap length (low_is 64 n) ∙ length_bits 64 n in
    record {
      none = none;
      byte = byte;
      match = match;
      bits = low 64 ni ++ starts.0;
      slots = starts.1 ∙ append_assoc (low 8 byte) (low 64 ni) starts.0;
      other = λ own. apart (fit.apart i j hi hj
          (low_own ni nj small-i small-j (first_same 64 (low 64 ni) (low 64 nj) starts.0 own.0 (long ni) (long nj) own.1)));
    }

-- ---- Skip

heard_slots : (place : ℕ) (bits : List Bool) → heard place (map LineEvent.slot bits) ≡ map Event.slot bits
unfolding flat_map
heard_slots place [] = refl
heard_slots place (bit ∷ bits) = ap (◌∷◌ (Event.slot bit)) (heard_slots place bits)

two_skips : (P : ℕ → Type 0) → P 0xCC → P 0x3C → (byte : ℕ) → among (0xCC ∷ 0x3C ∷ []) byte ≡ true → P byte
unfolding among
two_skips P p q byte = by (eqb byte 0xCC) (eqb byte 0x3C) refl refl
  where
    by : (a b : Bool) → eqb byte 0xCC ≡ a → eqb byte 0x3C ≡ b → (a || (b || false)) ≡ true → P byte
    by true b e f t = rw (eqb-true byte 0xCC e) p
    by false true e f t = rw (eqb-true byte 0x3C f) q
    by false false e f t = absurd (false≢true t)

skip_alone : {s : State} → Fit s → (byte : ℕ) → among (0xCC ∷ 0x3C ∷ []) byte ≡ true →
    Chosen (alone.run s (Event.reset ∷ map Event.slot (low 8 byte))).state
skip_alone {s} fit =
    two_skips (λ byte. Chosen (alone.run s (Event.reset ∷ map Event.slot (low 8 byte))).state)
    (rw (append-nil (low 8 0xCC)) at (choosing.skip fit).1) (rw (append-nil (low 8 0x3C)) at (choosing.fast_skip fit).1)

no_shorts : (bits : List Bool) → NoShort (map Event.slot bits)
unfolding NoShort
no_shorts [] = tt
no_shorts (bit ∷ bits) = no_shorts bits

-- a tag that differs in the speed alone is chosen too
chosen_but : (s t : State) → ButSpeed s t → Chosen s → Chosen t
chosen_but s t but c = rw but (record { chosen = c.chosen; bus = c.bus })

skip_line : {l : Line} → FitLine l → (first : LineEvent) → Valid (count_of l) first → (bits : List Bool) → (place : ℕ) → place < count_of l →
    tag_at (run l (first ∷ map LineEvent.slot bits)).end place ≡ (alone.run (tag_at l place) (hears place first ++ map Event.slot bits)).state
unfolding flat_map AllValid
skip_line {l} fit first valid bits place h =
    let es = first ∷ map LineEvent.slot bits in
    run_tag l fit.seven es (valid_accepted fit es (valid, slots_valid (count_of l) bits)) place h
    ∙ ap (λ (rest : List Event). (alone.run (tag_at l place) (hears place first ++ rest)).state) (heard_slots place bits)

-- ---- silence

is_silent : Choosing → Bool
is_silent Choosing.Silent = true
is_silent (Choosing.Command heard count) = false
is_silent (Choosing.Reading at) = false
is_silent (Choosing.Matching fast at) = false
is_silent (Choosing.Giving at) = false
is_silent (Choosing.Complementing at) = false
is_silent (Choosing.Awaiting at) = false
is_silent Choosing.Selected = false

-- a tag that listens for a ROM command is not
not_silent : {k : Choosing} → k ≡ Choosing.Command 0 0 → k ≡ Choosing.Silent → ⊥
unfolding is_silent
not_silent p q = false≢true (ap is_silent (sym p ∙ q))

-- a silent tag at standard speed stays so
silent_run : {s : State} → Fit s → Silent s → speed_of s ≡ false → (es : List Event) → NoLong es → Silent (alone.run s es).state
unfolding alone.run NoLong
silent_run fit silent slow [] none = silent
silent_run {s} fit silent slow (Event.slot bit ∷ es) none =
    let same : alone.after s (Event.slot bit) ≡ s = ap (λ (r : alone.Ran). r.state) (choosing.silent fit silent (bit ∷ [])) in
    subst (λ (u : State). Silent (alone.run u es).state) (sym same) (silent_run fit silent slow es none)
silent_run fit silent slow (Event.reset ∷ es) none = absurd none
silent_run {s} fit silent slow (Event.short ∷ es) none =
    subst (λ (u : State). Silent (alone.run u es).state) (sym (overdrive.slow fit slow).1) (silent_run fit silent slow es none)
silent_run {s} fit silent slow (Event.tick reading ∷ es) none =
    let same = events.tick_line fit reading in
    silent_run {s = alone.after s (Event.tick reading)} (events.stays_fit (Event.tick reading) fit)
    (ap (λ (x : Exchange). x.select.choosing) same ∙ silent)
    (ap (λ (x : Exchange). speed_in x.select.mode) same ∙ slow) es none

silent_still : {s : State} → Fit s → Silent s → (es : List Event) → NoLong es → NoShort es → Silent (alone.run s es).state
unfolding alone.run NoLong NoShort
silent_still fit silent [] none still = silent
silent_still {s} fit silent (Event.slot bit ∷ es) none still =
    let same : alone.after s (Event.slot bit) ≡ s = ap (λ (r : alone.Ran). r.state) (choosing.silent fit silent (bit ∷ [])) in
    subst (λ (u : State). Silent (alone.run u es).state) (sym same) (silent_still fit silent es none still)
silent_still fit silent (Event.reset ∷ es) none still = absurd none
silent_still fit silent (Event.short ∷ es) none still = absurd still
silent_still {s} fit silent (Event.tick reading ∷ es) none still =
    silent_still {s = alone.after s (Event.tick reading)} (events.stays_fit (Event.tick reading) fit)
    (ap (λ (x : Exchange). x.select.choosing) (events.tick_line fit reading) ∙ silent) es none still

-- the slots after Skip go to a tag that is chosen, with the image that it had
skip_image : {s : State} → Fit s → (byte : ℕ) → among (0xCC ∷ 0x3C ∷ []) byte ≡ true →
    (alone.run s (Event.reset ∷ map Event.slot (low 8 byte))).state.image ≡ s.image
skip_image {s} fit =
    two_skips (λ byte. (alone.run s (Event.reset ∷ map Event.slot (low 8 byte))).state.image ≡ s.image)
    (rw (append-nil (low 8 0xCC)) at (choosing.skip fit).0.kept.image) (rw (append-nil (low 8 0x3C)) at (choosing.fast_skip fit).0.kept.image)

split : (s : State) (bits more : List Bool) →
    (alone.run s (Event.reset ∷ map Event.slot (bits ++ more))).state
    ≡ (sent (alone.run s (Event.reset ∷ map Event.slot bits)).state more).state
split s bits more =
    ap (λ (es : List Event). (alone.run s (Event.reset ∷ es)).state) (map-append Event.slot bits more)
    ∙ ap (λ (r : alone.Ran). r.state) (run_append s (Event.reset ∷ map Event.slot bits) (map Event.slot more))

clears : {l : Line} → FitLine l → (byte : ℕ) → among (0xCC ∷ 0x3C ∷ []) byte ≡ true → (field : ℕ) → field < 2 ^ 64 →
    let end = (run l (LineEvent.reset ∷ map LineEvent.slot (low 8 byte ++ (low 8 0x96 ++ (low 64 field ++ low 8 0xFF))))).end in
    (place : ℕ) → place < count_of l → PassesFull (tag_at l place) field → bit_at (tag_at l place).image 0x0215 1 ≡ false →
    Cleared (tag_at l place).image (tag_at end place).image
clears {l} fit byte known field small place h passes idle =
    let s = tag_at l place in
    let own = fit.tags place h in
    let t = (alone.run s (Event.reset ∷ map Event.slot (low 8 byte))).state in
    let bits = low 8 0x96 ++ (low 64 field ++ low 8 0xFF) in
    let image = skip_image own byte known in
    let cleared : Cleared t.image (sent t bits).state.image =
    rw (append-nil (low 8 0xFF)) at ((controlling.clear (fit_run own (Event.reset ∷ map Event.slot (low 8 byte))) (skip_alone own byte known) field [] small
    (rw image passes)).1 (rw image idle)).0 in
    subst (λ (u : State). Cleared s.image u.image) (sym (skip_line fit LineEvent.reset tt (low 8 byte ++ bits) place h ∙ split s (low 8 byte) bits))
    (subst (λ (first : List ℕ). Cleared first (sent t bits).state.image) image cleared)

silence : {l : Line} → FitLine l → (byte : ℕ) → among (0x55 ∷ 0x69 ∷ []) byte ≡ true → (j : ℕ) → j < count_of l →
    (bits : List Bool) → length bits ≡ 64 → bits ≢ low 64 (number_of (tag_at l j)) →
    let s = (run l (LineEvent.reset ∷ map LineEvent.slot (low 8 byte ++ bits))).end in
    (es : List LineEvent) → AllAccepted s es → NoLong (heard j es) → Silent (tag_at (run s es).end j)
silence {l} fit byte known j h bits whole other es ok none =
    let first = LineEvent.reset ∷ map LineEvent.slot (low 8 byte ++ bits) in
    let stays = run_remains l first in
    let s = (run l first).end in
    let here = skip_line fit LineEvent.reset tt (low 8 byte ++ bits) j h in
    let out = rw (append-nil bits) at (choosing.other_match (fit.tags j h) byte known bits [] whole other) in
    subst (λ (u : State). Silent u)
    (sym (run_tag s (stays.tags ∙ fit.seven) es ok j (subst (λ (n : ℕ). j < n) (sym stays.count) h)
    ∙ ap (λ (u : State). (alone.run u (heard j es)).state) here))
    (silent_run (fit_run (fit.tags j h) _) out.1 out.0.speed (heard j es) none)

fast_silence : {l : Line} → FitLine l → (byte : ℕ) → among (0x55 ∷ 0x69 ∷ []) byte ≡ true → (j : ℕ) → j < count_of l →
    speed_of (tag_at l j) ≡ true → (bits : List Bool) → length bits ≡ 64 → bits ≢ low 64 (number_of (tag_at l j)) →
    let s = (run l (LineEvent.short ∷ map LineEvent.slot (low 8 byte ++ bits))).end in
    (es : List LineEvent) → AllAccepted s es → NoLong (heard j es) → NoShort (heard j es) → Silent (tag_at (run s es).end j)
fast_silence {l} fit byte known j h fast bits whole other es ok none still =
    let first = LineEvent.short ∷ map LineEvent.slot (low 8 byte ++ bits) in
    let stays = run_remains l first in
    let s = (run l first).end in
    let here = skip_line fit LineEvent.short tt (low 8 byte ++ bits) j h in
    let out = rw (append-nil bits) at (choosing.other_match (fit.tags j h) byte known bits [] whole other) in
    let but = (overdrive.begun (fit.tags j h) fast (map Event.slot (low 8 byte ++ bits)) (no_shorts (low 8 byte ++ bits))).1 in
    subst (λ (u : State). Silent u)
    (sym (run_tag s (stays.tags ∙ fit.seven) es ok j (subst (λ (n : ℕ). j < n) (sym stays.count) h)
    ∙ ap (λ (u : State). (alone.run u (heard j es)).state) here))
    (silent_still (fit_run (fit.tags j h) _) (ap (λ (u : State). u.tag.exchange.select.choosing) but ∙ out.1) (heard j es) none still)

pub touches_no_other : TouchesNoOther
unfolding alone.run stretches AllOf
touches_no_other =
    record {
      unselected = aside;
      never = never;
      match = touched_not;
      grower = λ {l} fit i j hi hj apart small-i small-j byte match es ok none starts.
          touched_not fit j hj es [] ok (other_number fit i j hi hj apart small-i small-j byte match es none starts) tt;
      silenced = silence;
      fast_silenced = fast_silence;
      fast_awake = λ {l} fit j h fast silent.
          let own = fit.tags j h in
          let here = event_tag l fit.seven LineEvent.short (fit_valid fit LineEvent.short tt) j h in
          let same = here ∙ (overdrive.fast own fast).1 in
          not_silent (reset_listens (fit_sound own)).choosing (ap (λ (s : State). s.tag.exchange.select.choosing) (sym same) ∙ silent);
      awake = λ {l} fit j h silent.
          not_silent (reset_listens (fit_sound (fit.tags j h))).choosing
          (ap (λ (s : State). s.tag.exchange.select.choosing) (sym (after_reset_lem fit j h)) ∙ silent);
      skip = λ {l} fit byte known place h.
          rw (skip_line fit LineEvent.reset tt (low 8 byte) place h) (skip_alone (fit.tags place h) byte known);
      fast_skip = λ {l} fit byte known place h speed.
          rw (skip_line fit LineEvent.short tt (low 8 byte) place h)
          (chosen_but _ _ (overdrive.begun (fit.tags place h) speed (map Event.slot (low 8 byte)) (no_shorts (low 8 byte))).1
          (skip_alone (fit.tags place h) byte known));
      clears_all = clears;
    }

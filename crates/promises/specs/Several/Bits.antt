-- The bits of a line, and that its tags go in step: from a new line on none listens while another sends. Assumes nothing.
use Rattle.std.specs.Prelude.{◌≡◌, refl, Bool, true, false, not, [], ◌∷◌, ℕ, ◌<◌, eqb, if◌then◌else◌}
use Rattle.std.proofs.Common.{sym, ap, subst, ◌∙◌, true≢false, inl}
use Rattle.bits.specs.Each.{each, each_false, each_fails, each_same}
use Rattle.event.specs.Event.{slotted, reset_tag, short_tag, tick_tag}
use Rattle.select.specs.Select.{speed_in}
use Rattle.promises.specs.Demand3.Left.{tick_cases}
use Rattle.promises.specs.Overdrive.Proof.{overdrive}
use Rattle.promises.specs.Ranges.{Fit}
use Rattle.promises.specs.Ranges.Laws.{fit_sound}
use Rattle.promises.specs.Runs as alone
use Rattle.promises.specs.Runs.{State, Event}
use Rattle.promises.specs.Runs.Laws.{Sound, slot_happens, reset_happens, short_happens}
use Rattle.promises.specs.Sentences.Events.{number_in, sends_now}
use Rattle.promises.specs.Sentences.Events.Proof as events-proof
use Rattle.promises.specs.Several.{Line, count_of, tag_at, LineEvent, after, line_bit, Accepts, hears, bit_of, Reached, FitLine, LineBits}
use Rattle.promises.specs.Several.InStep.{InStep, slot_step, reset_step, short_step, deaf, deaf_slot}
use Rattle.promises.specs.Several.Laws.{tick_gives, tick_other, event_remains, event_tag, event_line}
use Rattle.promises.specs.Several.Numbers.{some_is, new_number_lem}
use Rattle.promises.specs.Several.Proof.{many_any, made, tag_silent, reached_line, fit_valid}
use Rattle.promises.specs.Words.{speed_of}

-- ---- the line's bits

not-not : (b : Bool) → b ≡ not (not b)
not-not true = refl
not-not false = refl

-- the first tag gives 0, and so does the line
low_line : {l : Line} → FitLine l → (e : LineEvent) → Accepts l e → bit_of (tag_at l 0) (hears 0 e) ≡ false → line_bit l e ≡ false
low_line {l} fit e ok low =
    event_line l e ok ∙ each_false (count_of l) (λ place. bit_of (tag_at l place) (hears place e)) 0 (many_any (count_of l) fit.many) low

short_bit : {s : State} → Fit s → alone.line_bit s Event.short ≡ not (speed_of s)
short_bit {s} fit = by (speed_of s) refl
  where
    by : (fast : Bool) → speed_of s ≡ fast → alone.line_bit s Event.short ≡ not fast
    by true e = (overdrive.fast fit e).0
    by false e = (overdrive.slow fit e).0

-- ---- tags in step

abbrev Stepping : State → State → Type 0
Stepping s t = InStep s.tag.exchange t.tag.exchange

-- a tick leaves the exchange, valid or not
tick_exchange : {s : State} → Sound s → (reading : ℕ) → (alone.after s (Event.tick reading)).tag.exchange ≡ s.tag.exchange
unfolding tick_tag
tick_exchange {s} sound reading = tick_cases sound reading (λ u. u.tag.exchange ≡ s.tag.exchange) refl refl

-- what two tags hear of an event keeps them in step
both_step : {s t : State} → Sound s → Sound t → Stepping s t → (i j : ℕ) (e : LineEvent) →
    Stepping (alone.run s (hears i e)).state (alone.run t (hears j e)).state
unfolding alone.run alone.after slotted reset_tag short_tag
both_step {s} {t} a b step i j (LineEvent.slot bit) = rw (slot_happens a bit, slot_happens b bit) (slot_step step bit _ _)
both_step {s} {t} a b step i j LineEvent.reset = rw (reset_happens a, reset_happens b) (reset_step s.tag.exchange t.tag.exchange)
both_step {s} {t} a b step i j LineEvent.short = rw (short_happens a, short_happens b) (short_step step)
both_step {s} {t} a b step i j (LineEvent.tick place reading) = by (eqb place i) (eqb place j)
  where
    ticked : (c : Bool) (u : State) → Sound u → (alone.run u (if c then Event.tick reading ∷ [] else [])).state.tag.exchange ≡ u.tag.exchange
    ticked true u sound = tick_exchange sound reading
    ticked false u sound = refl

    by : (c d : Bool) → Stepping (alone.run s (if c then Event.tick reading ∷ [] else [])).state (alone.run t (if d then Event.tick reading ∷ [] else [])).state
    by c d = rw (ticked c s a, ticked d t b) step

moved : {s t u v : State} → u ≡ s → v ≡ t → Stepping s t → Stepping u v
moved {s} {t} {u} {v} p q step = subst (λ (x : State). Stepping x v) (sym p) (subst (λ (x : State). Stepping s x) (sym q) step)

-- a new line's tags are silent
in_step : {l : Line} → Reached l → (i j : ℕ) → i < count_of l → j < count_of l → Stepping (tag_at l i) (tag_at l j)
unfolding speed_in
in_step (Reached.new block numbers codes e) i j hi hj =
    let zero_is = sym (new_number_lem block numbers codes) ∙ ap number_in e in
    let quiet = tag_silent block numbers codes zero_is i (subst (λ (n : ℕ). i < n) (made block numbers codes zero_is).1 hi) in
    InStep.silent_x quiet.0 (inl (ap speed_in quiet.1))
in_step (Reached.event {l} e before ok) i j hi hj =
    let fit = (reached_line before).0 in
    let below : (k : ℕ) → k < count_of (after l e) → k < count_of l = λ k h. subst (λ (n : ℕ). k < n) (event_remains l e).count h in
    moved (event_tag l fit.seven e ok i (below i hi)) (event_tag l fit.seven e ok j (below j hj))
    (both_step (fit_sound (fit.tags i (below i hi))) (fit_sound (fit.tags j (below j hj))) (in_step before i j (below i hi) (below j hj)) i j e)

deaf_line : {l : Line} → Reached l → (i j : ℕ) → i < count_of l → j < count_of l → sends_now (tag_at l i) ≡ true →
    alone.after (tag_at l j) (Event.slot false) ≡ alone.after (tag_at l j) (Event.slot true)
deaf_line r i j hi hj sent = deaf_slot ((reached_line r).0.tags j hj) (deaf (in_step r i j hi hj) sent)

-- a tag that does not let the line go sends
sends_low : {s : State} → Fit s → alone.line_bit s (Event.slot true) ≡ false → sends_now s ≡ true
sends_low {s} fit low = by (sends_now s) refl
  where
    by : (b : Bool) → sends_now s ≡ b → b ≡ true
    by true e = refl
    by false e = absurd (true≢false (sym ((events-proof.events).listens fit e) ∙ low))

hearing : {l : Line} → Reached l → (bit : Bool) (j : ℕ) → j < count_of l →
    tag_at (after l (LineEvent.slot bit)) j ≡ alone.after (tag_at l j) (Event.slot (line_bit l (LineEvent.slot bit)))
unfolding alone.run
hearing {l} r bit j h =
    let fit = (reached_line r).0 in
    event_tag l fit.seven (LineEvent.slot bit) (fit_valid fit (LineEvent.slot bit) tt) j h ∙ by bit (line_bit l (LineEvent.slot bit)) refl
  where
    by : (bit seen : Bool) → line_bit l (LineEvent.slot bit) ≡ seen → alone.after (tag_at l j) (Event.slot bit) ≡ alone.after (tag_at l j) (Event.slot seen)
    by true true e = refl
    by false false e = refl
    by false true e =
        let fit = (reached_line r).0 in
        absurd (true≢false (sym e ∙ low_line fit (LineEvent.slot false) (fit_valid fit (LineEvent.slot false) tt)
        ((events-proof.events).low_slot (fit.tags 0 (many_any (count_of l) fit.many)))))
    by true false e =
        let fit = (reached_line r).0 in
        let ok = fit_valid fit (LineEvent.slot true) tt in
        let low = each_fails (count_of l) (λ place. bit_of (tag_at l place) (hears place (LineEvent.slot true))) (sym (event_line l (LineEvent.slot true) ok) ∙ e) in
        sym (deaf_line r low.at j low.below h (sends_low (fit.tags low.at low.below) low.fails))

pub line_bits : LineBits
unfolding alone.run
line_bits =
    record {
      low_slot = λ {l} fit.
          low_line fit (LineEvent.slot false) (fit_valid fit (LineEvent.slot false) tt) ((events-proof.events).low_slot (fit.tags 0 (many_any (count_of l) fit.many)));
      reset = λ {l} fit.
          low_line fit LineEvent.reset (fit_valid fit LineEvent.reset tt) ((events-proof.events).reset (fit.tags 0 (many_any (count_of l) fit.many)));
      tick = λ {l} fit place reading there small. tick_gives l place reading (fit_valid fit (LineEvent.tick place reading) (there, small));
      other = λ {l} fit place reading there small.
          tick_other l place reading (fit_valid fit (LineEvent.tick place reading) (there, small));
      short = λ {l} fit.
          event_line l LineEvent.short (fit_valid fit LineEvent.short tt)
          ∙ each_same (count_of l) _ (λ i. not (speed_of (tag_at l i))) (λ i h. short_bit (fit.tags i h))
          ∙ not-not (each (count_of l) (λ i. not (speed_of (tag_at l i))))
          ∙ ap not (sym (some_is (count_of l) (λ i. speed_of (tag_at l i))));
      slow = λ {l} fit j h standard.
          event_tag l fit.seven LineEvent.short (fit_valid fit LineEvent.short tt) j h ∙ (overdrive.slow (fit.tags j h) standard).1;
      deaf = deaf_line;
      hearing = hearing;
    }

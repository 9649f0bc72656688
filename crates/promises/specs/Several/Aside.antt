-- A tag that is not chosen is left to its ticks; and it is not, over slots that choose another. Of one tag alone: the line's statements
-- cite it. Assumes nothing.
use Rattle.std.specs.Prelude.{◌≡◌, refl, Bool, true, false, ◌||◌, List, [], ◌∷◌, ◌++◌, ◌≢◌, ◌⊎◌, ℕ, ◌<◌, eqb}
use Rattle.std.proofs.Common.{sym, ap, subst, ◌∙◌, inl, inr, ⊎_elim, arith, eqb-true}
use Rattle.std.proofs.lemmas.Bool.{false≢true}
use Rattle.std.proofs.Math.Logic.{dite}
use Rattle.std.proofs.Math.Decide.{dec_le}
use Rattle.bits.specs.Bits.{bits_of}
use Rattle.bits.specs.Bits.Laws.{heard_whole_lem, length_bits}
use Rattle.event.specs.Event.{done, slotted, reset_tag, tick_tag, performed, performed_counters}
use Rattle.exchange.specs.Exchange.Laws as exchange-laws
use Rattle.mission.specs.Mission.{ticked, ticked_counters}
use Rattle.record.specs.Record.Laws.{ranges_of}
use Rattle.select.specs.declared.Choosing.{Choosing}
use Rattle.select.specs.declared.Mode.{Mode}
use Rattle.select.specs.declared.Select.{Select}
use Rattle.select.specs.Select as select
use Rattle.select.specs.Select.Laws.{speed_of_lem}
use Rattle.promises.specs.Demand3.Left.{tick_cases}
use Rattle.promises.specs.Overdrive.{NoLong, slots_in}
use Rattle.promises.specs.Overdrive.Proof.{slow}
use Rattle.promises.specs.Runs.{State, Event, after, leaves, run, ticks_of, Kept, Always}
use Rattle.promises.specs.Runs.Laws.{Sound, sound_after, slot_happens, reset_happens, tick_happens, tick_passed, reset_keeps, short_keeps, sound_run}
use Rattle.promises.specs.Sentences.Commands.Cases.{chosen_cases}
use Rattle.promises.specs.Several.{Unselected, Elsewhere, Resumes}
use Rattle.promises.specs.Several.Away.{Away, Passes, away_unchosen, away_slow, away_unmarked, slot_away}
use Rattle.promises.specs.Words.{among, low, number_of}
use Rattle.promises.specs.Words.Laws.{low_is, speed_is}

-- ---- left to its ticks

kept_then : {a b c : State} → Kept a b → Kept b c → Kept a c
kept_then p q =
    record {
      image = q.image ∙ p.image;
      code = q.code ∙ p.code;
      counters = q.counters ∙ p.counters;
      number = q.number ∙ p.number;
      held = q.held ∙ p.held;
    }

-- a slot is no memory command's
slot_kept : {s : State} → Sound s → (bit : Bool) → Unselected s (Event.slot bit) → Kept s (after s (Event.slot bit))
unfolding after slotted performed performed_counters
slot_kept {s} sound bit other =
    rw (slot_happens sound bit)
    (chosen_cases s.tag.exchange bit (λ m. Kept s (leaves (done s.tag s.image m))) _ (λ chosen. absurd (other chosen))
    (record { image = refl; code = refl; counters = refl; number = refl; held = refl }))

-- two tags that differ in bus state and mark alone do so after a tick
tick_kept : {s t : State} → Sound s → Sound t → Kept t s → (reading : ℕ) → Kept (after t (Event.tick reading)) (after s (Event.tick reading))
unfolding after tick_tag
tick_kept {s} {t} sound-s sound-t kept reading =
    dite (dec_le reading 2047)
    (λ small.
    rw (tick_happens sound-s reading small, tick_happens sound-t reading small)
    (record {
      image = λ i. ticked (kept.image i) (kept.counters i) reading;
      code = kept.code;
      counters = λ i. ticked_counters (kept.image i) (kept.counters i) reading;
      number = kept.number;
      held = kept.held;
    }))
    (λ high.
    let large : 2047 < reading = omega (arith, high) in
    rw (tick_passed sound-s reading large, tick_passed sound-t reading large) kept)

-- `t` is where the ticks alone led
aside_run : {s t : State} → Sound s → Sound t → Kept t s → (es : List Event) → Always Unselected s es →
    Kept (run t (ticks_of es)).state (run s es).state
unfolding run ticks_of Always
aside_run sound-s sound-t kept [] never = kept
aside_run {s} {t} sound-s sound-t kept (Event.slot bit ∷ es) never =
    aside_run {s = after s (Event.slot bit)} {t = t} (sound_after (Event.slot bit) sound-s) sound-t
    (kept_then kept (slot_kept sound-s bit never.0)) es never.1
aside_run {s} {t} sound-s sound-t kept (Event.reset ∷ es) never =
    aside_run {s = after s Event.reset} {t = t} (sound_after Event.reset sound-s) sound-t (kept_then kept (reset_keeps sound-s)) es never.1
aside_run {s} {t} sound-s sound-t kept (Event.short ∷ es) never =
    aside_run {s = after s Event.short} {t = t} (sound_after Event.short sound-s) sound-t (kept_then kept (short_keeps sound-s)) es never.1
aside_run {s} {t} sound-s sound-t kept (Event.tick reading ∷ es) never =
    aside_run {s = after s (Event.tick reading)} {t = after t (Event.tick reading)} (sound_after (Event.tick reading) sound-s)
    (sound_after (Event.tick reading) sound-t) (tick_kept sound-s sound-t kept reading) es never.1

pub left_aside : {s : State} → Sound s → (es : List Event) → Always Unselected s es → Kept (run s (ticks_of es)).state (run s es).state
left_aside sound es never =
    aside_run sound sound (record { image = refl; code = refl; counters = refl; number = refl; held = refl }) es never

-- ---- never chosen

abbrev select_of : State → Select
select_of s = s.tag.exchange.select

abbrev AwayFrom : State → List Bool → Type 0
AwayFrom s bits = Away (number_of s) (select_of s).mode (select_of s).choosing bits

-- a slot of a tag that is not chosen is choosing's
slot_away_after : {s : State} → Sound s → (bit : Bool) (bits : List Bool) → AwayFrom s (bit ∷ bits) → AwayFrom (after s (Event.slot bit)) bits
unfolding after slotted
slot_away_after {s} sound bit bits away =
    let x = s.tag.exchange in
    let range = (exchange-laws.parts x (ranges_of s.tag sound.ranges).line).0 in
    rw (slot_happens sound bit)
    (chosen_cases x bit (λ m. Away m.exchange.number m.exchange.select.mode m.exchange.select.choosing bits) _
    (λ chosen. absurd (away_unchosen away chosen)) (slot_away x.number bit _ bits x.select range away))

away_run : {s : State} → Sound s → (es : List Event) → NoLong es → AwayFrom s (slots_in es) →
    Always Unselected s es × AwayFrom (run s es).state []
unfolding run Always NoLong slots_in tick_tag
away_run sound [] none away = (tt, away)
away_run {s} sound (Event.slot bit ∷ es) none away =
    let rest =
    away_run {s = after s (Event.slot bit)} (sound_after (Event.slot bit) sound) es none (slot_away_after sound bit (slots_in es) away) in
    ((away_unchosen away, rest.0), rest.1)
away_run sound (Event.reset ∷ es) none away = absurd none
away_run {s} sound (Event.short ∷ es) none away =
    let same = (slow sound (speed_is (select_of s).mode ∙ away_slow away)).1 in
    let rest = away_run {s = after s Event.short} (sound_after Event.short sound) es none (rw same away) in
    ((away_unchosen away, rest.0), rest.1)
away_run {s} sound (Event.tick reading ∷ es) none away =
    let next = tick_cases sound reading (λ u. AwayFrom u (slots_in es)) away away in
    let rest = away_run {s = after s (Event.tick reading)} (sound_after (Event.tick reading) sound) es none next in
    ((away_unchosen away, rest.0), rest.1)

-- ---- from a long reset on

-- a Match with another number, or Resume where there is no mark
abbrev pub Opens : ℕ → Mode → List Event → Type 0
Opens number mode es = Elsewhere number es ⊎ (Resumes es × (mode ≡ Mode.Plain))

-- a tag that listens for a ROM command, at standard speed
pub record Listens (s : State) : Type 0 where
  pub sound : Sound s
  pub choosing : (select_of s).choosing ≡ Choosing.Command 0 0
  pub slow : select.speed_in (select_of s).mode ≡ false

pub reset_listens : {s : State} → Sound s → Listens (after s Event.reset)
unfolding after reset_tag
reset_listens {s} sound =
    record {
      sound = sound_after Event.reset sound;
      choosing = rw (reset_happens sound) refl;
      slow = rw (reset_happens sound) (speed_of_lem (select.mark_in (select_of s).mode) false);
    }

two_bytes : (byte : ℕ) → among (0x55 ∷ 0x69 ∷ []) byte ≡ true → (byte ≡ 0x55) ⊎ (byte ≡ 0x69)
unfolding among
two_bytes byte = by (eqb byte 0x55) (eqb byte 0x69) refl refl
  where
    by : (a b : Bool) → eqb byte 0x55 ≡ a → eqb byte 0x69 ≡ b → (a || (b || false)) ≡ true → (byte ≡ 0x55) ⊎ (byte ≡ 0x69)
    by true b p q e = inl (eqb-true byte 0x55 p)
    by false true p q e = inr (eqb-true byte 0x69 q)
    by false false p q e = absurd (false≢true e)

two_small : (byte : ℕ) → (byte ≡ 0x55) ⊎ (byte ≡ 0x69) → byte < 256
two_small byte = ⊎_elim (λ e. omega (arith, e)) (λ e. omega (arith, e))

-- a whole byte is to come, and what follows it
byte_comes : (number byte : ℕ) (mode : Mode) (bits rest : List Bool) → byte < 256 → select.speed_in mode ≡ false → bits ≡ low 8 byte ++ rest →
    Passes number mode byte rest → Away number mode (Choosing.Command 0 0) bits
byte_comes number byte mode bits rest small slow split passes =
    Away.command 0 0 bits (bits_of 8 byte) rest slow (split ∙ ap (λ (first : List Bool). first ++ rest) (low_is 8 byte))
    (omega (arith, length_bits 8 byte))
    (subst (λ (n : ℕ). Passes number mode n rest) (sym (heard_whole_lem 8 (omega arith) small)) passes)

opens_away : {s : State} → Listens s → (es : List Event) → Opens (number_of s) (select_of s).mode es → AwayFrom s (slots_in es)
opens_away {s} listens es =
    let number = number_of s in
    let mode = (select_of s).mode in
    ⊎_elim
    (λ e.
    let byte = two_bytes e.byte e.match in
    subst (λ (k : Choosing). Away number mode k (slots_in es)) (sym listens.choosing)
    (byte_comes number e.byte mode (slots_in es) e.bits (two_small e.byte byte) listens.slow e.slots
    (inl (byte, λ starts. e.other (starts.0, starts.1 ∙ ap (λ (first : List Bool). first ++ starts.0) (sym (low_is 64 number)))))))
    (λ r.
    subst (λ (k : Choosing). Away number mode k (slots_in es)) (sym listens.choosing)
    (byte_comes number 0xA5 mode (slots_in es) r.0.slots.0 (omega arith) listens.slow r.0.slots.1 (inr (refl, r.1))))

opens_none : {number : ℕ} {mode : Mode} {es : List Event} → Opens number mode es → NoLong es
opens_none o = ⊎_elim (λ e. e.none) (λ r. r.0.none) o

-- over it the tag is not chosen, and at its end neither chosen nor marked
pub stretch_aside : {s : State} → Listens s → (es : List Event) → Opens (number_of s) (select_of s).mode es →
    Always Unselected s es × ((select_of (run s es).state).choosing ≢ Choosing.Selected) × ((select_of (run s es).state).mode ≡ Mode.Plain)
stretch_aside {s} listens es opens =
    let ran = away_run listens.sound es (opens_none opens) (opens_away listens es opens) in
    let end = (run s es).state in
    let range = (exchange-laws.parts end.tag.exchange (ranges_of end.tag (sound_run es listens.sound).ranges).line).0 in
    (ran.0, away_unchosen ran.1, away_unmarked range ran.1)

-- a long reset then leaves it without a mark
pub reset_plain : {s : State} → Sound s → (select_of s).mode ≡ Mode.Plain → (select_of (after s Event.reset)).mode ≡ Mode.Plain
unfolding after reset_tag select.mark_in select.mode_of
reset_plain sound plain = rw (reset_happens sound, plain) refl

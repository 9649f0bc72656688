-- The last tick's reading: no event but an accepted tick changes it. Assumes nothing.
use Rattle.std.specs.Prelude.{◌≡◌, refl, List, [], ◌∷◌, ℕ}
use Rattle.std.proofs.Common.{ap, ◌∙◌, arith, le-leb}
use Rattle.std.proofs.Math.Logic.{dite}
use Rattle.std.proofs.Math.Decide.{dec_le}
use Rattle.std.proofs.lemmas.Bool.{lt-leb}
use Rattle.bits.specs.Choose.{choice}
use Rattle.bus.specs.declared.Deed.{Deed}
use Rattle.mission.specs.Mission
use Rattle.mission.specs.declared.Counters.{Counters}
use Rattle.event.specs.Event.{performed_counters, slotted, tick_tag}
use Rattle.promises.specs.Runs.{State, Event, after, run}
use Rattle.promises.specs.Runs.Laws.{Sound, sound_after, slot_happens, reset_keeps, short_keeps, tick_happens, tick_refused}
use Rattle.promises.specs.Words.{bit}
use Rattle.promises.specs.Sentences.Ticking.{last_reading}

-- no slot's deed changes it
reading_performed : (deed : Deed) (c : Counters) (image : List ℕ) → (performed_counters deed c image).reading ≡ c.reading
unfolding performed_counters Mission.started_counters
reading_performed Deed.Start c image = choice (λ (k : Counters). k.reading ≡ c.reading) (Mission.may_start image) refl refl
reading_performed Deed.Nothing c image = refl
reading_performed Deed.Store c image = refl
reading_performed Deed.Clear c image = refl
reading_performed Deed.Stop c image = refl
reading_performed Deed.Convert c image = refl

-- "the last tick's reading", mission or not
pub reads_last : {s : State} → Sound s → (events : List Event) →
    (run s events).state.tag.counters.reading ≡ last_reading s.tag.counters.reading events
unfolding run last_reading after slotted tick_tag Mission.ticked_counters
reads_last sound [] = refl
reads_last {s} sound (Event.slot bit ∷ es) =
    reads_last {s = after s (Event.slot bit)} (sound_after (Event.slot bit) sound) es
    ∙ ap (λ (n : ℕ). last_reading n es) (rw (slot_happens sound bit) (reading_performed _ s.tag.counters s.image))
reads_last {s} sound (Event.reset ∷ es) =
    reads_last {s = after s Event.reset} (sound_after Event.reset sound) es
    ∙ ap (λ (c : Counters). last_reading c.reading es) (reset_keeps sound).counters
reads_last {s} sound (Event.short ∷ es) =
    reads_last {s = after s Event.short} (sound_after Event.short sound) es
    ∙ ap (λ (c : Counters). last_reading c.reading es) (short_keeps sound).counters
reads_last {s} sound (Event.tick reading ∷ es) =
    reads_last {s = after s (Event.tick reading)} (sound_after (Event.tick reading) sound) es
    ∙ ap (λ (n : ℕ). last_reading n es)
    (dite (dec_le reading 2047) (λ small. rw (tick_happens sound reading small, le-leb reading 2047 small))
    (λ high. rw (tick_refused sound reading (omega arith), lt-leb reading 2047 (omega arith))))

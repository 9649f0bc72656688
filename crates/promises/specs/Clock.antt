-- The clock as a person reads it, by the bytes of the image and over ticks (document 01, "A mission"; request #104): while EOSC is 1 a
-- valid clock shows a second more at each tick, in the form that it was set to; two tags that show one moment, in one form or in both,
-- go on showing one moment; and the stamp of a mission shows the moment of the tick that set it, in the clock's form. What a clock shows
-- is said by `calendar` `Meaning`, which does not look at the step. Assumes nothing.
use Rattle.std.specs.Prelude.{◌≡◌, refl, Bool, true, false, List, [], ◌∷◌, map, ℕ, ◌+◌, ◌*◌, ◌%◌, ◌≤◌, length, drop}
use Rattle.std.proofs.Common.{◌∙◌, arith}
use Rattle.calendar.specs.Meaning.{form_of, century, moment, Valid}
use Rattle.calendar.proofs.Meaning.Laws.{valid_after, form_after, moment_after}
use Rattle.calendar.specs.declared.Clock.{Clock}
use Rattle.promises.specs.History.{Settings, Conversion, uncounted, stamp}
use Rattle.promises.specs.History as history
use Rattle.promises.specs.Ranges.Laws.{reached_fit}
use Rattle.promises.specs.Runs.{State, Event, after, run, Reached}
use Rattle.promises.specs.Runs.Laws.{reached_after}
use Rattle.promises.specs.Sentences.Clock.{seconds_on, clock_at}
use Rattle.promises.specs.Sentences.Clock.Laws.{seconds_are, seconds_next, valid_named}
use Rattle.promises.specs.Sentences.Ticking.{makes}
use Rattle.promises.specs.Sentences.Mission.Ticks.{ticks}
use Rattle.promises.specs.Words.{bit_at}
pub mod Met

-- ---- what is said

-- n seconds later a clock shows n seconds more, round the two centuries that CENT tells apart, and its form is what it was
pub record Later (n : ℕ) (c d : Clock) : Type 0 where
  pub valid : Valid d
  pub form : form_of d.hours ≡ form_of c.hours
  pub moves : moment d ≡ (moment c + n) % (2 * century)

-- a tag whose clock runs, EOSC (bit 0 of 0212h) being 1, and is valid: 0200h to 0205h, by their writable bits
pub record Timed (s : State) : Type 0 where
  pub reached : Reached s
  pub eosc : bit_at s.image 0x0212 0 ≡ true
  pub valid : Valid (clock_at s.image)

-- readings that a tick may have
abbrev pub Readings : List ℕ → Type 0
Readings [] = Unit {0}
Readings (reading ∷ rest) = reading ≤ 2047 × Readings rest

-- the state after ticks with these readings
abbrev pub ticked : State → List ℕ → State
ticked s readings = (run s (map Event.tick readings)).state

-- ---- why it holds

-- a tick leaves EOSC
eosc_stays : {s : State} → Reached s → (reading : ℕ) → reading ≤ 2047 →
    bit_at (after s (Event.tick reading)).image 0x0212 0 ≡ bit_at s.image 0x0212 0
eosc_stays {s} reached reading small = by_made (makes s) refl
  where
    by_made : (t : Bool) → makes s ≡ t → bit_at (after s (Event.tick reading)).image 0x0212 0 ≡ bit_at s.image 0x0212 0
    by_made true e = ((ticks (reached_fit reached) reading small).converts e).rest.bits 0x0212 0 (omega arith) refl refl
    by_made false e = ((ticks (reached_fit reached) reading small).rests e).bits 0x0212 0 (omega arith) refl refl

clock_ticks : (s : State) → Reached s → bit_at s.image 0x0212 0 ≡ true → (readings : List ℕ) → Readings readings →
    clock_at (ticked s readings).image ≡ seconds_on (length readings) (clock_at s.image)
unfolding run seconds_on
clock_ticks s reached e [] small = refl
clock_ticks s reached e (reading ∷ readings) (small, rest) =
    let next = after s (Event.tick reading) in
    clock_ticks next (reached_after reached (Event.tick reading)) (eosc_stays reached reading small ∙ e) readings rest
    ∙ rw ((ticks (reached_fit reached) reading small).clock, e) (seconds_next (length readings) (clock_at s.image))

later : (n : ℕ) {c : Clock} → Valid c → Later n c (seconds_on n c)
later n {c} v = rw (seconds_are n (valid_named v)) (record { valid = valid_after n v; form = form_after n c; moves = moment_after n v })

-- ---- the statements

pub clock_shows : {s : State} → Timed s → (readings : List ℕ) → Readings readings →
    Later (length readings) (clock_at s.image) (clock_at (ticked s readings).image)
clock_shows {s} r readings small = rw (clock_ticks s r.reached r.eosc readings small) (later (length readings) r.valid)

-- two tags get as many ticks, with readings that may differ
pub clocks_agree : {s t : State} → Timed s → Timed t → moment (clock_at s.image) ≡ moment (clock_at t.image) →
    (p q : List ℕ) → Readings p → Readings q → length p ≡ length q →
    moment (clock_at (ticked s p).image) ≡ moment (clock_at (ticked t q).image)
clocks_agree r u same p q small low e = rw ((clock_shows r p small).moves, (clock_shows u q low).moves, same, e)

-- of a mission that was started with a valid clock: the stamp that demand 2 lists, which entry 0 has set, with SUTA entry 1, shows as
-- many seconds more as its tick's number, in the clock's form
pub stamp_shows : (settings : Settings) (first : Conversion) (entries rest : List Conversion) → drop (uncounted settings) entries ≡ first ∷ rest →
    Valid settings.clock → Later first.tick settings.clock (stamp settings entries)
unfolding stamp history.clock_at
stamp_shows settings first entries rest e v = rw e (later first.tick v)

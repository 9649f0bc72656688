-- A mission from a new tag on: its owner's commands one by one, then what its image holds by `told`, and its listing by `demand2`.
-- Assumes nothing.
use Rattle.std.specs.Prelude.{◌≡◌, refl, true, false, List, [], ◌∷◌, ◌++◌, map, ℤ, pos, negsuc, length, get_or}
use Rattle.std.proofs.Common.{sym, ap, subst, ◌∙◌, arith}
use Prim.Native.Nat.{ℕ, zero, suc, ◌<◌, ◌≤◌}
use Rattle.std.proofs.Math.Seq.{ext_get_or}
use Rattle.bits.specs.Bits.{bit_of, bits_of}
use Rattle.bits.specs.Bytes.{bytes_of}
use Rattle.dock.specs.Listing.{temperatures_of}
use Rattle.exchange.specs.Runs.{Way, way_slots}
use Rattle.bus.specs.declared.Control.{Control}
use Rattle.bus.specs.declared.Deed.{Deed}
use Rattle.conversion.specs.Conversion.Whole.{Whole}
use Rattle.record.specs.Record.{good_code, Outcome}
use Rattle.tag.specs.Tag.{new_tag}
use Rattle.tag.proofs.Tag.Laws.{new_made, length_new}
use Rattle.promises.specs.Demand2.{Lists, held_of, demand2}
use Rattle.promises.specs.Demand2.Course.{reached_solid, Started, starts_after}
use Rattle.promises.specs.Demand2.Events.{slot_at}
use Rattle.promises.specs.Demand2.Met.{start_slots, page, readings, life, ended, HeldSo, MissionHeld, lent, ListedSo, MissionListed}
use Rattle.promises.specs.Demand2.Met.Page.{written, written_off, clean, clean_may, clean_open, clean_unused, settings, settings_clean}
use Rattle.promises.specs.Demand2.Met.Start.{start_comes, deed_starts}
use Rattle.promises.specs.Demand2.Met.Ticks.{ticks_go, ticks_all, entries, history_is, stamp_is, waited_is, made_is, clock_is}
use Rattle.promises.specs.Demand3.Needed.Owner as owner
use Rattle.promises.specs.Demand3.Needed.Owner.{skipping, Owned, told_owned, stored, stored_owned, cleared_by, cleared_owned}
use Rattle.promises.specs.Demand3.Needed.Tags.{number, number_good, fresh, fresh_off, fresh_idle, made, made_owned}
use Rattle.promises.specs.History
use Rattle.promises.specs.Line.ControlRun.{control_byte, control_slots}
use Rattle.promises.specs.Line.Sessions.{write_slots, copy_slots}
use Rattle.promises.specs.Runs.{State, Event, leaves, after, Ran, run, Always}
use Rattle.promises.specs.Runs.Laws.{always_map, reached_sound, run_append, code_run}
use Rattle.promises.specs.Sentences.Dump.{DumpOf}
use Rattle.promises.specs.Sentences.Course.{Starts, Going, Told, mission_ticks, settings_of}
use Rattle.promises.specs.Sentences.Mission.Course.{told}

-- ---- the owner's commands

abbrev registered : State
registered = stored made 0x0200 page

registered_owned : Owned number written registered
registered_owned = stored_owned made_owned fresh_off 0x0200 page (omega arith) refl (bytes_of page tt) fresh_idle

abbrev cleaned : State
cleaned = cleared_by registered

cleaned_owned : Owned number clean cleaned
cleaned_owned = cleared_owned registered_owned written_off

-- before the last slot of the Start
abbrev asked : State
asked = owner.told cleaned (start_slots 0)

start_asked : (asked.image ≡ cleaned.image) × ((slot_at asked true).deed ≡ Deed.Start)
unfolding way_slots
start_asked =
    start_comes (reached_sound cleaned_owned.reached) (Way.skip false) 0 (omega arith)
    (λ checked. absurd (let no : ◌≡◌ {A = ℕ} 0x00 0xAA = sym (rw cleaned_owned.holds clean_open) ∙ checked in omega arith))

asked_owned : Owned number clean asked
asked_owned = told_owned (start_slots 0) cleaned_owned (start_asked.0 ∙ cleaned_owned.holds)

asked_starts : Starts asked (Event.slot true)
asked_starts =
    let whole : Whole written = rw registered_owned.holds at (reached_solid registered_owned.reached).whole in
    deed_starts (reached_solid asked_owned.reached) start_asked.1 (rw asked_owned.holds (clean_may whole))

-- ---- the mission

abbrev start : State
start = after asked (Event.slot true)

abbrev end : State
end = (run start (map Event.tick readings)).state

-- one run and then another
run_then : (s : State) (es fs : List Event) → (run s (es ++ fs)).state ≡ (run (run s es).state fs).state
run_then s es fs = ap (λ (r : Ran). r.state) (run_append s es fs)

-- the slots of a Start are all but its last, and a 1
start_slots_lem : skipping (control_slots Control.Start 0 0xFF) ≡ skipping (start_slots 0) ++ (Event.slot true ∷ [])
unfolding bits_of bit_of control_byte
start_slots_lem = refl

started_state : (run cleaned (skipping (control_slots Control.Start 0 0xFF))).state ≡ start
unfolding run
started_state =
    ap (λ (es : List Event). (run cleaned es).state) start_slots_lem ∙ run_then cleaned (skipping (start_slots 0)) (Event.slot true ∷ [])

ended_state : ended made ≡ end
ended_state =
    run_then made (skipping (write_slots 0x0200 page)) _
    ∙ run_then (owner.told made (write_slots 0x0200 page)) (skipping (copy_slots 0x0200 0x1F 0 0)) _
    ∙ run_then registered (skipping (control_slots Control.Clear 0 0xFF)) _
    ∙ run_then cleaned (skipping (control_slots Control.Start 0 0xFF)) _
    ∙ ap (λ (s : State). (run s (map Event.tick readings)).state) started_state

ended_code : (ended made).tag.code ≡ 0x40
unfolding good_code
ended_code =
    code_run life (reached_sound made_owned.reached)
    ∙ ap (λ (o : Outcome). o.answered.tag.code) (new_made fresh number 0x40 (length_new 8832) number_good refl)

began : Started asked.image start
began = starts_after (Event.slot true) (reached_solid asked_owned.reached) asked_starts

going : Always Going start (map Event.tick readings)
going = ticks_go began.solid began.holds.listed.memclr began.holds.running.time.running readings

-- what Start found, and the readings that the mission had
settings_found : settings_of asked.image ≡ settings
settings_found = ap settings_of asked_owned.holds ∙ settings_clean

ticks_found : mission_ticks start (map Event.tick readings) ≡ readings
ticks_found = ticks_all began.solid began.holds.running.time.running readings tt

-- ---- what its image holds

told_made : Told settings readings clean (ended made).image
told_made =
    rw (settings_found, ticks_found, asked_owned.holds, ← ended_state) at
    (told (Event.slot true) (map Event.tick readings) asked_owned.reached asked_starts going)

held_made : HeldSo (ended made).image
unfolding History.places History.kept History.some_of
held_made =
    let latest = told_made.latest 3 (rw made_is) in
    let entry = rw history_is at told_made.log in
    let first = (entry 0 (omega arith) (omega arith)).1 refl in
    let second = (entry 1 (omega arith) (omega arith)).1 refl in
    let third = (entry 2 (omega arith) (omega arith)).1 refl in
    record {
      clock = told_made.clock ∙ clock_is;
      delay = told_made.delay;
      samples = told_made.samples ∙ rw history_is;
      device = told_made.device ∙ rw (made_is, clean_unused);
      thf = told_made.thf ∙ rw made_is;
      tlf = told_made.tlf ∙ rw made_is;
      wfta = told_made.wfta ∙ rw history_is;
      latest = rw (latest.0, latest.1, made_is, waited_is);
      log = rw (first.0, first.1, second.0, second.1, third.0, third.1);
    }

-- ---- its listing

enough : held_of settings entries ≤ length lent
unfolding History.places
enough = omega arith

abbrev shown : List ℤ
shown = pos 16 ∷ pos 31 ∷ negsuc 648 ∷ pos 9 ∷ []

module _ (dump : List ℕ) (is : DumpOf (ended made) dump) where
  listed : Lists settings entries 0x40 dump lent
  listed =
      let all = demand2 (Event.slot true) (map Event.tick readings) asked_owned.reached asked_starts
      (always_map (λ s e g. g.spares) start (map Event.tick readings) going) dump (rw ended_state at is) lent in
      rw (settings_found, ticks_found, history_is, ← ended_state, ended_code) at all

  place_at : (i : ℕ) → i < 4 → get_or (temperatures_of dump lent) i (pos 0) ≡ get_or shown i (pos 0)
  unfolding History.places History.kept History.temperature
  place_at zero h = listed.temperatures enough 0 (omega arith)
  place_at (suc zero) h = listed.temperatures enough 1 (omega arith)
  place_at (suc (suc zero)) h = listed.temperatures enough 2 (omega arith)
  place_at (suc (suc (suc zero))) h = listed.past enough 3 (omega arith)
  place_at (suc (suc (suc (suc i)))) h = absurd (omega arith)

  listed_made : ListedSo dump
  unfolding History.places History.period History.seconds
  listed_made =
      record {
        listing = listed.listing enough ∙ rw stamp_is;
        seconds = rw (listed.seconds enough 0, listed.seconds enough 1, listed.seconds enough 2);
        temperatures = ext_get_or (pos 0) (temperatures_of dump lent) shown listed.places (λ i h. place_at i (rw listed.places at h));
      }

-- ---- over every lent image

same_new : (image : List ℕ) → length image ≡ 8832 → new_tag fresh number 0x40 ≡ new_tag image number 0x40
unfolding good_code
same_new image long = new_made fresh number 0x40 (length_new 8832) number_good refl ∙ sym (new_made image number 0x40 long number_good refl)

pub mission_held : MissionHeld
mission_held image long = subst (λ (o : Outcome). HeldSo (ended (leaves o)).image) (same_new image long) held_made

pub mission_listed : MissionListed
mission_listed image long =
    subst (λ (o : Outcome). (dump : List ℕ) → DumpOf (ended (leaves o)) dump → ListedSo dump) (same_new image long) listed_made

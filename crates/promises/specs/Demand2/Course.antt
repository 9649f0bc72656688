-- A mission from its Start on, over any events that spare its registers: what its image holds at the end is its history.
-- Assumes nothing.
use Rattle.std.specs.Prelude.{◌≡◌, refl, Bool, true, false, List, [], ◌∷◌, ◌++◌, ◌⊎◌, ℕ, ◌≤◌, ◌<◌, leb, take, replicate}
use Rattle.std.proofs.Common.{sym, subst, ◌∙◌, append-nil, not-suc-le-zero, arith, leb-true, leb-false, ne_eqb, get_or-set_other}
use Rattle.std.proofs.Math.Bool.{and-true}
use Rattle.std.proofs.lemmas.Bool.{false≢true}
use Rattle.std.proofs.Math.Logic.{dite}
use Rattle.std.proofs.Math.Nat.{zero-sub}
use Rattle.std.proofs.Math.Decide.{dec_lt}
use Rattle.std.proofs.Math.Seq.{take-nil, drop-nil, append_snoc}
use Rattle.bits.specs.Bits.{digit, bit_of}
use Rattle.bits.specs.Bits.Laws.{bit_past}
use Rattle.bits.specs.Bytes.{byte_blank}
use Rattle.bits.specs.Choose.{either, choice}
use Rattle.calendar.specs.Calendar.{clock_after}
use Rattle.exchange.specs.Exchange.Pad.{PaddedIn, exchange_padded}
use Rattle.image.specs.Fields.{flag_at}
use Rattle.image.specs.Fields.Laws.{word_lt}
use Rattle.image.specs.Leaves.{word_left}
use Rattle.image.specs.Registers
use Rattle.bus.specs.declared.Deed.{Deed}
use Rattle.conversion.specs.Clock.Laws.{stamp_kept}
use Rattle.mission.specs.Mission
use Rattle.mission.specs.Mission.Commands.{starts, may_start_lem}
use Rattle.mission.specs.Mission.Frames.{leaves_started, mip_ticked}
use Rattle.mission.specs.Mission.Fresh.{Fresh, fresh_cleared, fresh_stopped, fresh_forced, fresh_ticked, fresh_started, fresh_stored}
use Rattle.conversion.specs.Conversion.Settings.{settings_same}
use Rattle.mission.specs.Mission.Settings.{settings_started}
use Rattle.mission.specs.Mission.Times.{on_time_started}
use Rattle.conversion.specs.Conversion.Whole.{Whole}
use Rattle.mission.specs.Mission.Whole.{whole_started}
use Rattle.mission.specs.declared.Counters.{Counters}
use Rattle.event.specs.Event.{performed, performed_counters, slotted, tick_tag}
use Rattle.tag.specs.Tag.{new_image}
use Rattle.tag.proofs.Tag.Laws.{new_good, new_made}
use Rattle.promises.specs.Demand2.Deeds.{holds_performed, Stopped, stopped_stop, stopped_ticked, stopped_performed}
use Rattle.promises.specs.Demand2.Effects.{mip_rises, memclr_stays, store_stages}
use Rattle.promises.specs.Demand2.Events.{slot_at, is_stop}
use Rattle.promises.specs.Demand2.Holds.{Listed, Holds}
use Rattle.promises.specs.Demand2.AtStart.{rate_of_lem, settings_found}
use Rattle.promises.specs.Demand2.Measures.{holds_ticked}
use Rattle.promises.specs.History
use Rattle.promises.specs.History.{Settings, Conversion}
use Rattle.promises.specs.Runs.{State, Event, after, run, Kept, Reached, Always}
use Rattle.promises.specs.Runs.Laws.{Sound, sound_after, reached_sound, slot_happens, reset_keeps, short_keeps, tick_happens, tick_passed}
use Rattle.promises.specs.Runs.Whole.{whole_after, padded_after, reached_whole, reached_padded}
use Rattle.promises.specs.Sentences.Course.{Starts, Spares, mission_ticks, settings_of}
use Rattle.promises.specs.Sentences.Mission.{MayStart}
use Rattle.promises.specs.Words

-- ---- what every reached state has

pub record Solid (s : State) : Type 0 where
  pub sound : Sound s
  pub whole : Whole s.image
  pub padded : PaddedIn s.tag.exchange
  pub fresh : Fresh s.image

-- ---- what each event leaves

pub tick_leaves : {s : State} → Sound s → (reading : ℕ) → reading ≤ 2047 → after s (Event.tick reading)
    ≡ record {
      image = Mission.ticked s.image s.tag.counters reading;
      tag = record { code = s.tag.code; counters = Mission.ticked_counters s.image s.tag.counters reading; exchange = s.tag.exchange };
    }
unfolding after tick_tag
tick_leaves sound reading small = rw (tick_happens sound reading small)

module _ {s : State} (solid : Solid s) where
  pub slot_leaves : (bit : Bool) → after s (Event.slot bit)
      ≡ record {
        image = performed (slot_at s bit).deed (slot_at s bit).exchange s.tag.counters s.image;
        tag = record {
          code = s.tag.code;
          counters = performed_counters (slot_at s bit).deed s.tag.counters s.image;
          exchange = (slot_at s bit).exchange;
        };
      }
  unfolding after slotted slot_at
  slot_leaves bit = rw (slot_happens solid.sound bit)

-- ---- every event keeps a solid state

performed_fresh : (deed : Deed) {s : State} → Solid s → (bit : Bool) → Fresh (performed deed (slot_at s bit).exchange s.tag.counters s.image)
unfolding performed slot_at
performed_fresh Deed.Nothing solid bit = solid.fresh
performed_fresh Deed.Store {s} solid bit =
    let x = (slot_at s bit).exchange in
    fresh_stored solid.fresh solid.whole x.held.pad x.held.ta (exchange_padded s.tag.exchange bit _ solid.padded).size
performed_fresh Deed.Clear solid bit = fresh_cleared solid.fresh solid.whole
performed_fresh Deed.Start solid bit = fresh_started solid.fresh solid.whole
performed_fresh Deed.Stop solid bit = fresh_stopped solid.fresh solid.whole
performed_fresh Deed.Convert {s} solid bit = fresh_forced solid.fresh s.tag.counters

pub slot_padded : {s : State} → Solid s → (bit : Bool) → PaddedIn (slot_at s bit).exchange
unfolding slot_at
slot_padded {s} solid bit = exchange_padded s.tag.exchange bit _ solid.padded

fresh_after : {s : State} → Solid s → (e : Event) → Fresh (after s e).image
fresh_after {s} solid (Event.slot bit) = rw (slot_leaves solid bit) (performed_fresh (slot_at s bit).deed solid bit)
fresh_after solid Event.reset = subst Fresh (sym (reset_keeps solid.sound).image) solid.fresh
fresh_after solid Event.short = subst Fresh (sym (short_keeps solid.sound).image) solid.fresh
fresh_after {s} solid (Event.tick reading) =
    dite (dec_lt 2047 reading) (λ high. rw (tick_passed solid.sound reading high) solid.fresh)
    (λ low. rw (tick_leaves solid.sound reading (omega arith)) (fresh_ticked solid.fresh s.tag.counters reading))

pub solid_after : {s : State} → Solid s → (e : Event) → Solid (after s e)
solid_after solid e =
    record {
      sound = sound_after e solid.sound;
      whole = whole_after solid.sound solid.padded solid.whole e;
      padded = padded_after solid.sound solid.padded e;
      fresh = fresh_after solid e;
    }

-- ---- Start

nothing_yet : (s : Settings) → History.history s [] ≡ []
unfolding History.history History.to_log History.conversions_from History.from_alarm
nothing_yet s =
    choice (λ (l : List Conversion). take (History.most s) l ≡ []) s.suta (take-nil (History.most s)) (take-nil (History.most s))

none_waited : (s : Settings) → History.waited s [] ≡ []
unfolding History.waited History.conversions_from History.before_alarm
none_waited s = choice (λ (l : List Conversion). l ≡ []) s.suta refl refl

no_stamp : (s : Settings) → History.stamp s [] ≡ History.zeros
unfolding History.stamp History.clock_at
no_stamp s = rw (drop-nil {A = Conversion} (digit s.suta))

pub holds_started : {image : List ℕ} → Whole image → Fresh image → Mission.may_start image ≡ true → (c : Counters)
    → Holds (Mission.started image) [] (Mission.started image) (Mission.started_counters image c)
unfolding clock_after History.some_of
holds_started {image} w b m c =
    let may = may_start_lem image m in
    let before = b may.memclr in
    let l = leaves_started image in
    let same = settings_started image in
    let began = starts w m in
    record {
      listed = rw (nothing_yet (settings_of (Mission.started image)))
          (record {
            whole = whole_started w;
            memclr = began.memclr;
            settings = settings_same;
            samples = word_left 0x0220 3 l tt ∙ before.mission_samples ∙ sym (zero-sub (digit (Registers.suta (Mission.started image))));
            flags = λ s. rw (l.bits 0x0214 1 tt tt tt ∙ before.thf, l.bits 0x0214 0 tt tt tt ∙ before.tlf);
            stamp = stamp_kept l.keeps tt ∙ before.stamp ∙ sym (no_stamp (settings_of (Mission.started image)));
            entries = λ k lt ge. absurd (not-suc-le-zero lt);
            written = record { low = λ wide k lt. absurd (not-suc-le-zero lt); past = λ j inside ge. refl };
          });
      running = rw (nothing_yet (settings_of (Mission.started image)))
          (record {
            time = on_time_started w c m;
            eosc = began.eosc;
            clock = refl;
            wfta = began.wfta ∙ rw same.suta (sym (and-true (Registers.suta image)));
          });
      measured = rw (nothing_yet (settings_of (Mission.started image)), none_waited (settings_of (Mission.started image)))
          (record {
            device = let few = word_lt (Mission.started image) 0x0223 3 (whole_started w).bytes in omega arith;
            thf = l.bits 0x0214 1 tt tt tt ∙ before.thf;
            tlf = l.bits 0x0214 0 tt tt tt ∙ before.tlf;
            latest = λ i e. absurd (omega arith);
            no_latest = λ e. refl;
          });
    }

pub etl_started : (image : List ℕ) → Mission.may_start image ≡ true → Registers.etl (Mission.started image) ≡ true
etl_started image m = (settings_started image).etl ∙ (may_start_lem image m).etl

-- document 01's four facts are all that it asks for
pub four_facts : {image : List ℕ} → MayStart image → Mission.may_start image ≡ true
unfolding Mission.may_start Words.bit flag_at bit_of
four_facts {image} may =
    rw (may.memclr, may.mip, may.etl, ne_eqb (Registers.rate image) 0 (λ none. may.rate (rate_of_lem image ∙ none)))

-- and where it is done they hold
pub four_found : {image : List ℕ} → Mission.may_start image ≡ true → MayStart image
unfolding Words.bit flag_at bit_of
four_found {image} e =
    let may = may_start_lem image e in
    record { memclr = may.memclr; mip = may.mip; etl = may.etl; rate = λ none. may.rate (sym (rate_of_lem image) ∙ none) }

-- where MIP becomes 1 a Start was done
pub record StartDone (s : State) (e : Event) : Type 0 where
  pub may : Mission.may_start s.image ≡ true
  pub image : (after s e).image ≡ Mission.started s.image
  pub counters : (after s e).tag.counters ≡ Mission.started_counters s.image s.tag.counters

pub start_done : {s : State} (e : Event) → Solid s → Starts s e → StartDone s e
unfolding performed performed_counters Words.bit flag_at bit_of
start_done {s} (Event.slot b) solid starts =
    let slot = slot_at s b in
    let rises = mip_rises solid.whole s.tag.counters slot.exchange (slot_padded solid b) slot.deed starts.idle
    (rw (slot_leaves solid b) at starts.runs) in
    record { may = rises.1; image = rw (slot_leaves solid b, rises.0); counters = rw (slot_leaves solid b, rises.0) }
start_done Event.reset solid starts = absurd (false≢true (sym starts.idle ∙ (rw (reset_keeps solid.sound).image at starts.runs)))
start_done Event.short solid starts = absurd (false≢true (sym starts.idle ∙ (rw (short_keeps solid.sound).image at starts.runs)))
start_done {s} (Event.tick reading) solid starts =
    dite (dec_lt 2047 reading) (λ high. absurd (false≢true (sym starts.idle ∙ (rw (tick_passed solid.sound reading high) at starts.runs))))
    (λ low. absurd (false≢true
    (sym (mip_ticked s.image s.tag.counters reading ∙ starts.idle) ∙ (rw (tick_leaves solid.sound reading (omega arith)) at starts.runs))))

-- the state that such a slot gives
pub record Started (before : List ℕ) (s : State) : Type 0 where
  pub solid : Solid s
  pub settings : settings_of s.image ≡ settings_of before
  pub holds : Holds s.image [] s.image s.tag.counters
  pub etl : Registers.etl s.image ≡ true

pub starts_after : {s : State} (e : Event) → Solid s → Starts s e → Started s.image (after s e)
starts_after {s} e solid starts =
    let done = start_done e solid starts in
    record {
      solid = solid_after solid e;
      settings = rw done.image (settings_found s.image);
      holds = rw (done.image, done.counters) (holds_started solid.whole solid.fresh done.may s.tag.counters);
      etl = rw done.image (etl_started s.image done.may);
    }

-- ---- the events after it

-- what a slot asks of its premise
module _ {s : State} (solid : Solid s) (bit : Bool) (spares : Spares s (Event.slot bit)) where
  pub slot_stores : (slot_at s bit).deed ≡ Deed.Store → ((slot_at s bit).exchange.held.ta < 0x0200) ⊎ (0x0240 ≤ (slot_at s bit).exchange.held.ta)
  slot_stores e =
      let stages = store_stages s bit e in
      rw (slot_leaves solid bit) at (spares.store stages.0 (rw (slot_leaves solid bit) stages.1))

  slot_clears : (slot_at s bit).deed ≡ Deed.Clear → Registers.mip s.image ≡ true
  unfolding Words.bit flag_at bit_of
  slot_clears =
      let slot = slot_at s bit in
      memclr_stays solid.whole s.tag.counters slot.exchange (slot_padded solid bit) slot.deed
      (rw (slot_leaves solid bit) at spares.clear)

stopped_after : {start : List ℕ} {es : List Conversion} {s : State} → Solid s → (e : Event) → Spares s e → Stopped start es s.image
    → Stopped start es (after s e).image
stopped_after {s = s} solid (Event.slot bit) spares h =
    rw (slot_leaves solid bit)
    (stopped_performed s.tag.counters (slot_at s bit).exchange (slot_padded solid bit) (slot_at s bit).deed (slot_stores solid bit spares) (slot_clears solid bit spares) h)
stopped_after {start} {es} solid Event.reset spares h = subst (Stopped start es) (sym (reset_keeps solid.sound).image) h
stopped_after {start} {es} solid Event.short spares h = subst (Stopped start es) (sym (short_keeps solid.sound).image) h
stopped_after {s = s} solid (Event.tick reading) spares h =
    dite (dec_lt 2047 reading) (λ high. rw (tick_passed solid.sound reading high) h)
    (λ low. rw (tick_leaves solid.sound reading (omega arith)) (stopped_ticked s.tag.counters reading h))

-- after a Stop what a listing goes by stays, and there are no more ticks of the mission
stopped_run : {start : List ℕ} {es : List Conversion} {s : State} (events : List Event) → Solid s → Stopped start es s.image
    → Always Spares s events → Listed start es (run s events).state.image × (mission_ticks s events ≡ [])
unfolding run Always mission_ticks Words.bit flag_at bit_of
stopped_run [] solid h always = (h.listed, refl)
stopped_run {s = s} (Event.tick reading ∷ events) solid h always =
    let rest =
    stopped_run {s = after s (Event.tick reading)} events (solid_after solid (Event.tick reading))
    (stopped_after solid (Event.tick reading) always.0 h) always.1 in
    (rest.0, rw h.mip rest.1)
stopped_run {s = s} (Event.reset ∷ events) solid h always =
    stopped_run {s = after s Event.reset} events (solid_after solid Event.reset) (stopped_after solid Event.reset always.0 h) always.1
stopped_run {s = s} (Event.short ∷ events) solid h always =
    stopped_run {s = after s Event.short} events (solid_after solid Event.short) (stopped_after solid Event.short always.0 h) always.1
stopped_run {s = s} (Event.slot bit ∷ events) solid h always =
    stopped_run {s = after s (Event.slot bit)} events (solid_after solid (Event.slot bit))
    (stopped_after solid (Event.slot bit) always.0 h) always.1

stop_deed : (deed : Deed) → is_stop deed ≡ true → deed ≡ Deed.Stop
unfolding is_stop
stop_deed Deed.Stop e = refl
stop_deed Deed.Nothing e = absurd (false≢true e)
stop_deed Deed.Store e = absurd (false≢true e)
stop_deed Deed.Clear e = absurd (false≢true e)
stop_deed Deed.Start e = absurd (false≢true e)
stop_deed Deed.Convert e = absurd (false≢true e)

-- a Stop ends the mission with what it has logged
stop_after : {start readings : List ℕ} {s : State} → Solid s → (bit : Bool) → is_stop (slot_at s bit).deed ≡ true
    → Holds start readings s.image s.tag.counters
    → Stopped start (History.history (settings_of start) readings) (after s (Event.slot bit)).image
unfolding performed
stop_after {s = s} solid bit e h = rw (slot_leaves solid bit, stop_deed (slot_at s bit).deed e) (stopped_stop h.listed)

pub solid_run : {s : State} (events : List Event) → Solid s → Solid (run s events).state
unfolding run
solid_run [] solid = solid
solid_run {s} (e ∷ events) solid = solid_run {s = after s e} events (solid_after solid e)

-- a reset of either kind leaves what an image holds
pub holds_kept : {start readings : List ℕ} {s u : State} → Kept s u → Holds start readings s.image s.tag.counters
    → Holds start readings u.image u.tag.counters
holds_kept kept h = rw (kept.image, kept.counters) h

-- over any events that spare the mission, its image holds the history of its ticks
pub listed_run : {start readings : List ℕ} {s : State} (events : List Event) → Solid s → Holds start readings s.image s.tag.counters
    → Always Spares s events
    → Listed start (History.history (settings_of start) (readings ++ mission_ticks s events)) (run s events).state.image
unfolding run Always mission_ticks Words.bit flag_at bit_of
listed_run {readings = readings} [] solid h always = rw (append-nil readings) h.listed
listed_run {start} {readings} {s} (Event.tick reading ∷ events) solid h always =
    let next = solid_after solid (Event.tick reading) in
    rw h.running.time.running
    (either
    (λ (ticks : List ℕ). Listed start (History.history (settings_of start) (readings ++ ticks)) (run (after s (Event.tick reading)) events).state.image)
    (leb reading 2047)
    (λ low.
    let small = leb-true reading 2047 low in
    rw (← append_snoc readings reading (mission_ticks (after s (Event.tick reading)) events))
    (listed_run {readings = readings ++ reading ∷ []} events next (rw (tick_leaves solid.sound reading small) (holds_ticked h reading small)) always.1))
    (λ high. listed_run {readings = readings} events next (rw (tick_passed solid.sound reading (leb-false reading 2047 high)) h) always.1))
listed_run {readings = readings} (Event.reset ∷ events) solid h always =
    listed_run {readings = readings} events (solid_after solid Event.reset) (holds_kept (reset_keeps solid.sound) h) always.1
listed_run {readings = readings} (Event.short ∷ events) solid h always =
    listed_run {readings = readings} events (solid_after solid Event.short) (holds_kept (short_keeps solid.sound) h) always.1
listed_run {start} {readings} {s} (Event.slot bit ∷ events) solid h always =
    by_deed (is_stop (slot_at s bit).deed) refl
    (λ going. listed_run {readings = readings} events (solid_after solid (Event.slot bit))
    (rw (slot_leaves solid bit)
    (holds_performed (slot_at s bit).exchange (slot_padded solid bit) (slot_at s bit).deed going (slot_stores solid bit always.0) h))
    always.1)
  where
    Ends : Type 0
    Ends = Listed start (History.history (settings_of start) (readings ++ mission_ticks (after s (Event.slot bit)) events))
        (run (after s (Event.slot bit)) events).state.image

    by_deed : (t : Bool) → is_stop (slot_at s bit).deed ≡ t → (is_stop (slot_at s bit).deed ≡ false → Ends) → Ends
    by_deed true e on =
        let rest = stopped_run events (solid_after solid (Event.slot bit)) (stop_after solid bit e h) always.1 in
        rw (rest.1, append-nil readings) rest.0
    by_deed false going on = on going

-- ---- reached states are solid

-- a new tag has MEMCLR 0
fresh_new : Fresh (new_image 8832)
unfolding new_image flag_at
fresh_new e =
    let zero = get_or-set_other {A = ℕ} (replicate 8832 0) 0x0214 0x0215 0x80 0 (omega arith) ∙ byte_blank 8832 0x0215 in
    absurd (false≢true (sym (rw zero (bit_past 0 (omega arith) (omega arith))) ∙ e))

pub reached_solid : {s : State} → Reached s → Solid s
reached_solid (Reached.new image number code e) =
    let good = new_good image number code e in
    let reached = Reached.new image number code e in
    record {
      sound = reached_sound reached;
      whole = reached_whole reached;
      padded = reached_padded reached;
      fresh = rw (new_made image number code good.0 good.1 good.2) fresh_new;
    }
reached_solid (Reached.event e before accepted) = solid_after (reached_solid before) e

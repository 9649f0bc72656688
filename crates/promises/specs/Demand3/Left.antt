-- What is left to the ticks: a tag with checking on, to which no field carries the full password, ends but for Forced Conversions as its
-- ticks alone would have left it. Whether a field may read counts for nothing here (request #109). Assumes nothing.
use Rattle.std.specs.Prelude.{◌≡◌, refl, Bool, true, false, ◌≢◌, ℕ, length}
use Rattle.std.proofs.Common.{sym, ap, subst, ◌∙◌, true≢false, ⊎_elim, arith, eq-eqb}
use mathlib.Core.List.{List, [], ◌∷◌}
use Rattle.std.proofs.Math.Logic.{dite}
use Rattle.std.proofs.Math.Decide.{dec_le}
use Rattle.bits.specs.Bits.{bit_of}
use Rattle.exchange.specs.declared.Exchange.{Exchange}
use Rattle.exchange.specs.Exchange as exchange
use Rattle.exchange.specs.Exchange.Laws as exchange-laws
use Rattle.image.specs.Answers.{checked}
use Rattle.image.specs.Answers.Laws.{SameKeys, keys_then, keys_kept}
use Rattle.image.specs.Fields.{word_at, flag_at}
use Rattle.image.specs.Leaves.{leaves_same}
use Rattle.image.specs.Registers.{mip, eosc, password_control, full_password}
use Rattle.select.specs.declared.Select.{Select}
use Rattle.select.specs.Select.{reset_select, restarted}
use Rattle.memory.specs.Phases.{writing, lets_write, unguarded}
use Rattle.memory.specs.Phases.Laws.{shut_writing}
use Rattle.mission.specs.Mission.Frames.{leaves_ticked, leaves_forced, mip_ticked, mip_forced}
use Rattle.mission.specs.declared.Counters.{Counters}
use Rattle.mission.specs.Mission.{forced, ticked, ticked_counters}
use Rattle.mission.specs.Mission.Commands.{forced_mission}
use Rattle.event.specs.Event.{answer_to, slotted, reset_tag, short_tag, tick_tag}
use Rattle.record.specs.Record.Laws.{ranges_of}
use Rattle.promises.specs.Demand3.{EndsField, Forces, Converted, Unconverted, LeftToTicks, NoPassword}
use Rattle.promises.specs.Demand3.Image.{counters_idle, spoilt_stays, Spoilt, spoilt_idle, spoilt_forced, spoilt_ticked}
use Rattle.promises.specs.Demand3.Slot.{unlet_write, convert_forces, unguarded_performed, unguarded_counters}
use Rattle.promises.specs.Words.{bit}
use Rattle.promises.specs.Words.Laws.{stays_equal}
use Rattle.promises.specs.Runs.{State, Event, after, run, ticks_of, Kept, Always, OnSlots}
use Rattle.promises.specs.Runs.Laws.{invariant_always, always_map, Sound, sound_after, slot_happens, reset_happens, short_happens, reset_keeps, short_keeps, tick_happens, tick_refused, on_slots, all_slots, always_all}

-- no password field carries the full password of this image
abbrev pub NoFull : List ℕ → State → Event → Type 0
NoFull image = OnSlots (λ s bit. (field : ℕ) → EndsField s.tag.exchange bit field → field ≢ full_password image)

pub no_full : (image : List ℕ) (s : State) (e : Event) → NoPassword image s e → NoFull image s e
unfolding word_at
no_full image = on_slots (λ s bit p field ends. (p field ends).1)

-- a tag with checking on, that has let no field write: it has the passwords of the image that it began with
pub record Guards (image : List ℕ) (s : State) : Type 0 where
  pub sound : Sound s
  pub shut : writing s.tag.exchange.bus.stage ≡ false
  pub keys : SameKeys image s.image
  pub on : password_control image ≡ 0xAA

-- it checks passwords still
pub guards_checked : {image : List ℕ} {s : State} → Guards image s → checked s.image ≡ true
unfolding checked
guards_checked g = eq-eqb _ 0xAA (g.keys.control ∙ g.on)

pub guards_range : {image : List ℕ} {s : State} → Guards image s → exchange.exchange_in_range s.tag.exchange ≡ true
guards_range {s} g = (ranges_of s.tag g.sound.ranges).line

-- ---- a slot

module _ {image : List ℕ} {s : State} (g : Guards image s) (bit : Bool) (wrong : NoFull image s (Event.slot bit)) where
  answer : ℕ
  answer = answer_to s.image s.tag.code (exchange.asks s.tag.exchange bit)

  unwritten : lets_write (exchange.asks s.tag.exchange bit) answer ≡ false
  unfolding answer
  unwritten =
      unlet_write s.image s.tag.code s.tag.exchange bit (guards_range g) (guards_checked g)
      (λ field ends e. wrong field ends (e ∙ g.keys.full))

  deed_unguarded : unguarded (exchange.slot_of s.tag.exchange bit answer).deed ≡ true
  deed_unguarded = exchange-laws.unguarded_deed s.tag.exchange bit answer g.shut unwritten

  -- the image stays, or is what a Forced Conversion leaves
  pub slot_image : (P : List ℕ → Type 0) → P s.image → (Forces s.tag.exchange bit → P (forced s.image s.tag.counters)) →
      P (after s (Event.slot bit)).image
  unfolding after slotted answer
  slot_image P same converted =
      rw (slot_happens g.sound bit)
      (unguarded_performed P _ _ s.tag.counters s.image deed_unguarded same
      (λ e. converted (convert_forces s.tag.exchange bit answer (guards_range g) e)))

  -- the counters, the number and the code stay
  pub slot_counters : (after s (Event.slot bit)).tag.counters ≡ s.tag.counters
  unfolding after slotted answer
  slot_counters = rw (slot_happens g.sound bit) (unguarded_counters _ s.tag.counters s.image deed_unguarded)

  pub slot_number : (after s (Event.slot bit)).tag.exchange.number ≡ s.tag.exchange.number
  unfolding after slotted answer
  slot_number = rw (slot_happens g.sound bit) (exchange-laws.number_kept s.tag.exchange bit answer)

  pub slot_code : (after s (Event.slot bit)).tag.code ≡ s.tag.code
  unfolding after slotted
  slot_code = rw (slot_happens g.sound bit)

  slot_shut : writing (after s (Event.slot bit)).tag.exchange.bus.stage ≡ false
  unfolding after slotted answer
  slot_shut = rw (slot_happens g.sound bit) (exchange-laws.writing_after s.tag.exchange bit answer g.shut unwritten)

  slot_guards : Guards image (after s (Event.slot bit))
  slot_guards =
      record {
        sound = sound_after (Event.slot bit) g.sound;
        shut = slot_shut;
        keys = slot_image (SameKeys image) g.keys (λ forces. keys_then g.keys (keys_kept (leaves_forced s.image s.tag.counters).keeps tt));
        on = g.on;
      }

-- ---- resets and a tick

-- what holds of a tick's outcome and of the state as it is holds of the state after the tick, valid or not
pub tick_cases : {s : State} (sound : Sound s) (reading : ℕ) (P : State → Type 0) →
    P (record { image = (tick_tag s.image s.tag reading).image; tag = (tick_tag s.image s.tag reading).answered.tag }) → P s →
    P (after s (Event.tick reading))
unfolding after
tick_cases sound reading P valid refused =
    dite (dec_le reading 2047) (λ small. rw (tick_happens sound reading small) valid) (λ high. rw (tick_refused sound reading (omega arith)) refused)

-- after a reset no field has been let write
begun_unwritten : (x : Exchange) (next : Select) → writing (exchange.begun x next).bus.stage ≡ false
begun_unwritten x next = shut_writing _ (exchange-laws.begun_shut x next)

reset_guards : {image : List ℕ} {s : State} → Guards image s → Guards image (after s Event.reset)
unfolding after reset_tag
reset_guards {image} {s} g =
    record {
      sound = sound_after Event.reset g.sound;
      shut = rw (reset_happens g.sound) (begun_unwritten s.tag.exchange (reset_select s.tag.exchange.select));
      keys = subst (SameKeys image) (sym (reset_keeps g.sound).image) g.keys;
      on = g.on;
    }

short_guards : {image : List ℕ} {s : State} → Guards image s → Guards image (after s Event.short)
unfolding after short_tag
short_guards {image} {s} g =
    let x = s.tag.exchange in
    record {
      sound = sound_after Event.short g.sound;
      shut = rw (short_happens g.sound)
          (exchange-laws.short_cases (λ y. writing y.bus.stage ≡ false) x (λ fast. begun_unwritten x (restarted x.select)) (λ slow. g.shut));
      keys = subst (SameKeys image) (sym (short_keeps g.sound).image) g.keys;
      on = g.on;
    }

tick_guards : {image : List ℕ} {s : State} (reading : ℕ) → Guards image s → Guards image (after s (Event.tick reading))
unfolding tick_tag
tick_guards {image} {s} reading g =
    record {
      sound = sound_after (Event.tick reading) g.sound;
      shut = tick_cases g.sound reading (λ u. writing u.tag.exchange.bus.stage ≡ false) g.shut g.shut;
      keys = tick_cases g.sound reading (λ u. SameKeys image u.image) (keys_then g.keys (keys_kept (leaves_ticked s.image s.tag.counters reading).keeps tt)) g.keys;
      on = g.on;
    }

pub guards_after : {image : List ℕ} (s : State) (e : Event) → Guards image s → NoFull image s e → Guards image (after s e)
guards_after s (Event.slot bit) g wrong = slot_guards g bit wrong
guards_after s Event.reset g wrong = reset_guards g
guards_after s Event.short g wrong = short_guards g
guards_after s (Event.tick reading) g wrong = tick_guards reading g

-- ---- the run beside that of its ticks

-- `t` is where the ticks alone led, and Q what is known of its image and of that of `s`
record Beside (Q : List ℕ → List ℕ → Type 0) (image : List ℕ) (s t : State) : Type 0 where
  guards : Guards image s
  sound : Sound t
  number : s.tag.exchange.number ≡ t.tag.exchange.number
  code : s.tag.code ≡ t.tag.code
  counters : s.tag.counters ≡ t.tag.counters
  images : Q t.image s.image

module _ (Q : List ℕ → List ℕ → Type 0) (P : State → Bool → Type 0)
    (ticks : (a b : List ℕ) (c : Counters) (reading : ℕ) → Q a b → Q (ticked a c reading) (ticked b c reading) × (ticked_counters b c reading ≡ ticked_counters a c reading))
    (forces : (a : List ℕ) (s : State) (bit : Bool) → length s.image ≡ 8832 → P s bit → Forces s.tag.exchange bit → Q a s.image → Q a (forced s.image s.tag.counters))
    (image : List ℕ) where
  beside_slot : {s t : State} (bit : Bool) → Beside Q image s t → NoFull image s (Event.slot bit) → P s bit → Beside Q image (after s (Event.slot bit)) t
  beside_slot {s} {t} bit b wrong p =
      record {
        guards = slot_guards b.guards bit wrong;
        sound = b.sound;
        number = slot_number b.guards bit wrong ∙ b.number;
        code = slot_code b.guards bit wrong ∙ b.code;
        counters = slot_counters b.guards bit wrong ∙ b.counters;
        images = slot_image b.guards bit wrong (Q t.image) b.images (λ f. forces t.image s bit b.guards.sound.size p f b.images);
      }

  -- a reset of either kind
  beside_kept : {s t u : State} → Beside Q image s t → Guards image u → Kept s u → Beside Q image u t
  beside_kept {t = t} b guards kept =
      record {
        guards = guards;
        sound = b.sound;
        number = kept.number ∙ b.number;
        code = kept.code ∙ b.code;
        counters = kept.counters ∙ b.counters;
        images = subst (Q t.image) (sym kept.image) b.images;
      }

  beside_tick : {s t : State} (reading : ℕ) → Beside Q image s t → Beside Q image (after s (Event.tick reading)) (after t (Event.tick reading))
  unfolding after tick_tag
  beside_tick {s} {t} reading b =
      dite (dec_le reading 2047)
      (λ small.
      let p = tick_happens b.guards.sound reading small in
      let q = tick_happens b.sound reading small in
      let both = ticks t.image s.image t.tag.counters reading b.images in
      record {
        guards = tick_guards reading b.guards;
        sound = sound_after (Event.tick reading) b.sound;
        number = rw (p, q) b.number;
        code = rw (p, q) b.code;
        counters = rw (p, q, b.counters) both.1;
        images = rw (p, q, b.counters) both.0;
      })
      (λ high.
      let p = tick_refused b.guards.sound reading (omega arith) in
      let q = tick_refused b.sound reading (omega arith) in
      record {
        guards = tick_guards reading b.guards;
        sound = sound_after (Event.tick reading) b.sound;
        number = rw (p, q) b.number;
        code = rw (p, q) b.code;
        counters = rw (p, q) b.counters;
        images = rw (p, q) b.images;
      })

  beside_run : {s t : State} (E : List Event) → Beside Q image s t → Always (NoFull image) s E → Always (OnSlots P) s E →
      Beside Q image (run s E).state (run t (ticks_of E)).state
  unfolding run ticks_of Always
  beside_run [] b wrong p = b
  beside_run {s} {t} (Event.slot bit ∷ E) b wrong p =
      beside_run {s = after s (Event.slot bit)} {t = t} E (beside_slot bit b wrong.0 p.0) wrong.1 p.1
  beside_run {s} {t} (Event.reset ∷ E) b wrong p =
      beside_run {s = after s Event.reset} {t = t} E (beside_kept b (reset_guards b.guards) (reset_keeps b.guards.sound)) wrong.1 p.1
  beside_run {s} {t} (Event.short ∷ E) b wrong p =
      beside_run {s = after s Event.short} {t = t} E (beside_kept b (short_guards b.guards) (short_keeps b.guards.sound)) wrong.1 p.1
  beside_run {s} {t} (Event.tick reading ∷ E) b wrong p =
      beside_run {s = after s (Event.tick reading)} {t = after t (Event.tick reading)} E (beside_tick reading b) wrong.1 p.1

-- ---- no Forced Conversion is done

equal_ticks : (a b : List ℕ) (c : Counters) (reading : ℕ) → b ≡ a → (ticked b c reading ≡ ticked a c reading) × (ticked_counters b c reading ≡ ticked_counters a c reading)
equal_ticks a b c reading e = (ap (λ (i : List ℕ). ticked i c reading) e, ap (λ (i : List ℕ). ticked_counters i c reading) e)

equal_forces : (a : List ℕ) (s : State) (bit : Bool) → length s.image ≡ 8832 → (Converted s bit → ⊥) → Forces s.tag.exchange bit →
    s.image ≡ a → forced s.image s.tag.counters ≡ a
unfolding bit bit_of flag_at
equal_forces a s bit size none f e = by (mip s.image) refl
  where
    by : (mission : Bool) → mip s.image ≡ mission → forced s.image s.tag.counters ≡ a
    by true m = forced_mission s.image s.tag.counters m ∙ e
    by false m = absurd (none (f, m))

begins : {Q : List ℕ → List ℕ → Type 0} {image : List ℕ} {s : State} → Guards image s → Q s.image s.image → Beside Q image s s
begins g q = record { guards = g; sound = g.sound; number = refl; code = refl; counters = refl; images = q }

unconverted_run : (s : State) (E : List Event) → Guards s.image s → Always (NoFull s.image) s E → Unconverted s E →
    Beside (λ a b. b ≡ a) s.image (run s E).state (run s (ticks_of E)).state
unconverted_run s E g wrong none =
    beside_run (λ a b. b ≡ a) (λ u bit. Converted u bit → ⊥) equal_ticks equal_forces s.image E (begins g refl) wrong none

-- a flag that ticks and Forced Conversions leave stays
pub flag_stays : (at i : ℕ) (b : Bool) →
    ((image : List ℕ) (c : Counters) (reading : ℕ) → flag_at (ticked image c reading) at i ≡ flag_at image at i) →
    ((image : List ℕ) (c : Counters) → flag_at (forced image c) at i ≡ flag_at image at i) →
    (image : List ℕ) (s : State) (e : Event) → Guards image s × (flag_at s.image at i ≡ b) → NoFull image s e →
    Guards image (after s e) × (flag_at (after s e).image at i ≡ b)
unfolding after tick_tag
flag_stays at i b by-tick by-force image s (Event.slot bit) (g, h) wrong =
    (slot_guards g bit wrong, slot_image g bit wrong (λ j. flag_at j at i ≡ b) h (λ f. by-force s.image s.tag.counters ∙ h))
flag_stays at i b by-tick by-force image s Event.reset (g, h) wrong =
    (reset_guards g, ap (λ (j : List ℕ). flag_at j at i) (reset_keeps g.sound).image ∙ h)
flag_stays at i b by-tick by-force image s Event.short (g, h) wrong =
    (short_guards g, ap (λ (j : List ℕ). flag_at j at i) (short_keeps g.sound).image ∙ h)
flag_stays at i b by-tick by-force image s (Event.tick reading) (g, h) wrong =
    (tick_guards reading g, tick_cases g.sound reading (λ u. flag_at u.image at i ≡ b) (by-tick s.image s.tag.counters reading ∙ h) h)

-- in a mission none is
mission_unconverted : (s : State) (E : List Event) → Guards s.image s → mip s.image ≡ true → Always (NoFull s.image) s E → Unconverted s E
unfolding bit bit_of flag_at
mission_unconverted s E g m wrong =
    always_map none s E
    (invariant_always (λ u. Guards s.image u × (mip u.image ≡ true)) (NoFull s.image)
    (flag_stays 0x0215 1 true mip_ticked mip_forced s.image) s E (g, m) wrong)
  where
    none : (u : State) (e : Event) → (Guards s.image u × (mip u.image ≡ true)) × NoFull s.image u e → OnSlots (λ v bit. Converted v bit → ⊥) u e
    none u e h = all_slots (λ v bit. Converted v bit → ⊥) u e (λ bit c. true≢false (sym h.0.1 ∙ c.1))

-- ---- with no mission

spoilt_ticks : (runs : Bool) (a b : List ℕ) (c : Counters) (reading : ℕ) → Spoilt runs a b →
    Spoilt runs (ticked a c reading) (ticked b c reading) × (ticked_counters b c reading ≡ ticked_counters a c reading)
spoilt_ticks runs a b c reading p =
    (spoilt_ticked c reading p, counters_idle b c reading (spoilt_idle p) ∙ sym (counters_idle a c reading p.idle))

spoilt_run : (s : State) (E : List Event) → Guards s.image s → mip s.image ≡ false → Always (NoFull s.image) s E →
    Beside (Spoilt (eosc s.image)) s.image (run s E).state (run s (ticks_of E)).state
spoilt_run s E g m wrong =
    beside_run (Spoilt (eosc s.image)) (λ u bit. Unit {0}) (spoilt_ticks (eosc s.image))
    (λ a u bit size p f q. spoilt_forced u.tag.counters (omega arith) q)
    s.image E
    (begins g (record { leaves = leaves_same; idle = m; clocks = λ runs. (runs, runs) }))
    wrong (always_all (λ u e. all_slots (λ v bit. Unit {0}) u e (λ bit. tt)) s E)

-- ---- together

pub left_to_ticks : (s : State) (E : List Event) → Guards s.image s → Always (NoFull s.image) s E → LeftToTicks s E
unfolding bit bit_of flag_at
left_to_ticks s E g wrong = by (mip s.image) refl
  where
    by : (mission : Bool) → mip s.image ≡ mission → LeftToTicks s E
    by true m =
        let b = unconverted_run s E g wrong (mission_unconverted s E g m wrong) in
        record { number = b.number; code = b.code; counters = b.counters; untouched = λ h. b.images; spoilt = stays_equal b.images }
    by false m =
        let b = spoilt_run s E g m wrong in
        record {
          number = b.number;
          code = b.code;
          counters = b.counters;
          untouched = λ h. ⊎_elim (λ mission. absurd (true≢false (sym mission ∙ m))) (λ none. (unconverted_run s E g wrong none).images) h;
          spoilt = spoilt_stays (eosc s.image) b.images.leaves;
        }

-- Statement (iv) of Needed: two tags in a mission with passwords of their own. Each owner has set, from a new tag on, a rate of one second,
-- no delay, and a high threshold that every reading meets; so after one tick both have THF set, and both join a Conditional Search.
-- Assumes nothing.
use Rattle.std.specs.Prelude.{◌≡◌, Bool, false, ◌≢◌, ℕ, ◌+◌, ◌-◌, ◌/◌, ◌^◌, ◌≤◌, ◌<◌, length, get_or, replicate}
use Rattle.std.proofs.Math.Path.{refl, sym, ap, subst}
use Rattle.std.proofs.Common.{◌∙◌, arith}
use Rattle.std.proofs.Math.Bool.{true, or-true}
use mathlib.Core.List.{List, [], ◌∷◌, ◌++◌, map}
use borrow.Author.Tests.{le-leb}
use Rattle.bits.specs.Bits.{bit_of, bits_of, shift_in}
use Rattle.bits.specs.Bytes.{Bytes, bytes_of}
use Rattle.image.specs.Answers.{alarmed, checked, may_control}
use Rattle.image.specs.Answers.Laws.{checked_kept, control_right}
use Rattle.image.specs.Fields.{word_at, flag_at}
use Rattle.image.specs.Fields.Laws.{word_lt}
use Rattle.image.specs.Keeps.{Keeps, flag_kept}
use Rattle.image.specs.Leaves.{word_left, leaves_keeps}
use Rattle.image.specs.Map.Laws.{region_registers}
use Rattle.image.specs.Registers
use Rattle.image.specs.Registers.{read_password, full_password}
use Rattle.image.specs.Stored.{blend, stored_byte, stored_run}
use Rattle.image.specs.Stored.Laws.{keeps_stored_run, stored_run_at}
use Rattle.image.specs.Tables.{writable}
use Rattle.conversion.specs.Conversion as conversion
use Rattle.conversion.specs.Conversion.Converts.{high_taken}
use Rattle.mission.specs.Mission
use Rattle.mission.specs.Mission.Commands as commands
use Rattle.mission.specs.Mission.Frames.{leaves_cleared, leaves_started, mip_cleared}
use Rattle.conversion.specs.Conversion.Settings.{SameSettings, settings_left}
use Rattle.mission.specs.Mission.Settings.{settings_cleared, settings_started}
use Rattle.mission.specs.Mission.Ticks.{converts_ticked}
use Rattle.mission.specs.declared.Counters.{Counters}
use Rattle.select.specs.Runs as runs
use Rattle.select.specs.Select as select
use Rattle.tag.proofs.Tag.Laws.{length_new}
use Rattle.promises.specs.Demand2.Course.{Solid, reached_solid, tick_leaves}
use Rattle.promises.specs.Demand3.{JustReset, Alike, conditional}
use Rattle.promises.specs.Demand3.Needed.{Sometime, Joins, MissionMet}
use Rattle.promises.specs.Demand3.Needed.Alarms.{search, Choosing, choosing_carries_none, choosing_agree}
use Rattle.promises.specs.Demand3.Needed.Keys.{HasKeys, keys_stored, none_of_keys}
use Rattle.promises.specs.Demand3.Needed.Owner.{Owned, stored, stored_owned, cleared_by, cleared_owned, started_by, started_owned, started_counters_lem, ready, waiting, Ready, is_ready, ready_counters}
use Rattle.promises.specs.Demand3.Needed.Stranger.{alike_each, readings_differ}
use Rattle.promises.specs.Demand3.Needed.Tags.{first_keys, second_keys, pad, number, fresh, made, made_owned, fresh_at, fresh_off, fresh_idle}
use Rattle.promises.specs.Demand3.Reset.{reset_reached, begins_alike}
use Rattle.promises.specs.Line.Choosing.{alarm_is, choosing_run}
use Rattle.promises.specs.Runs.{State, Event, after, run, Ran, ticks_of, Always, Together}
use Rattle.promises.specs.Runs.Laws.{Sound, sound_after}
use Rattle.promises.specs.Sentences.Choosing.{alarm}

-- the first event of a run
run_first : (s : State) (e : Event) (es : List Event) → (run s (e ∷ es)).state ≡ (run (after s e) es).state
unfolding run
run_first s e es = refl

-- ---- what the owner sets

-- 0206h-021Fh: rate 1, high threshold 00h, ETHA, EHSS, ETL and RO
abbrev settings : List ℕ
settings = 0x01 ∷ replicate 9 0x00 ++ (0x02 ∷ 0x00 ∷ 0x02 ∷ 0x11 ∷ replicate 12 0x00)

-- what the conversion of the next tick goes by
record Sails (image : List ℕ) : Type 0 where
  rate : Registers.rate image ≡ 1
  ehss : Registers.ehss image ≡ true
  etl : Registers.etl image ≡ true
  ro : Registers.ro image ≡ true
  etha : Registers.etha image ≡ true
  high : Registers.high_threshold image ≡ 0
  delay : Registers.delay image ≡ 0

sails_same : {before after : List ℕ} → SameSettings before after → Registers.delay after ≡ Registers.delay before → Sails before → Sails after
sails_same same delay sails =
    record {
      rate = same.rate ∙ sails.rate;
      ehss = same.ehss ∙ sails.ehss;
      etl = same.etl ∙ sails.etl;
      ro = same.ro ∙ sails.ro;
      etha = same.etha ∙ sails.etha;
      high = same.high_threshold ∙ sails.high;
      delay = delay ∙ sails.delay;
    }

-- ---- a tag in its mission, after a reset; one tick, and a Conditional Search

record UnderWay (keys : List ℕ) (s : State) : Type 0 where
  reset : JustReset s
  waits : s.tag.exchange ≡ waiting number pad
  keyed : HasKeys keys s.image
  running : Registers.mip s.image ≡ true
  sails : Sails s.image
  samples : Registers.mission_samples s.image ≡ 0
  wait : s.tag.counters.wait ≡ 0

-- ECh but for its last bit
abbrev begun : List Bool
begun = false ∷ false ∷ true ∷ true ∷ false ∷ true ∷ true ∷ []

module _ {keys : List ℕ} {s : State} (p : UnderWay keys s) (reading : ℕ) (low : reading ≤ 2047) where
  abbrev warm : State
  warm = after s (Event.tick reading)

  solid : Solid s
  solid = reached_solid (reset_reached p.reset)

  due : Mission.due s.image s.tag.counters ≡ true
  unfolding Mission.due Mission.converting
  due = rw (p.wait, p.running, p.sails.delay, p.sails.rate)

  going : conversion.ended s.image ≡ false
  unfolding conversion.ended
  going = rw (p.samples, p.sails.ro)

  warm_flag : Registers.thf warm.image ≡ true
  unfolding conversion.alarms_high conversion.is_high
  warm_flag =
      rw (tick_leaves solid.sound reading low)
      ((converts_ticked s.image s.tag.counters reading solid.whole due going).thf
      ∙ rw (high_taken s.image reading, p.sails.etha, p.sails.high, le-leb 0 (reading / 8) (omega arith)))

  warm_alarmed : alarmed warm.image ≡ true
  unfolding alarmed
  warm_alarmed = rw warm_flag (simp or-true)

  warm_flagged : alarm warm ≡ true
  warm_flagged = sym (alarm_is warm) ∙ warm_alarmed

  warm_waits : warm.tag.exchange ≡ waiting number pad
  warm_waits = rw (tick_leaves solid.sound reading low) p.waits

  warm_sound : Sound warm
  warm_sound = sound_after (Event.tick reading) solid.sound

  warm_chooses : Choosing warm search
  unfolding runs.still_choosing select.slot_of select.slot_at select.command_bit select.rom_command select.is_chosen bits_of bit_of shift_in
  warm_chooses = rw (warm_waits, warm_alarmed)

  begun_chooses : Choosing warm begun
  unfolding runs.still_choosing select.slot_of select.slot_at select.command_bit select.rom_command select.is_chosen bit_of shift_in
  begun_chooses = rw warm_waits

  joining : Joins (run warm (map Event.slot begun)).state true
  unfolding runs.run select.slot_of select.slot_at select.command_bit select.rom_command conditional select.is_chosen bit_of shift_in
  joining =
      subst (λ (r : Ran). Joins r.state true) (sym (choosing_run warm begun warm_sound begun_chooses))
      ((rw warm_waits), warm_flagged)

  joined : Sometime Joins s (Event.tick reading ∷ map Event.slot search)
  unfolding bits_of bit_of
  joined =
      record {
        before = Event.tick reading ∷ map Event.slot begun;
        bit = true;
        rest = map Event.slot (true ∷ true ∷ []);
        split = refl;
        holds = subst (λ (u : State). Joins u true) (sym (run_first s (Event.tick reading) (map Event.slot begun))) joining;
      }

-- ---- how its owner made it

abbrev configured : List ℕ
configured = stored_run fresh 0x0206 settings

-- a byte of these, but for the flags of 0214h
set_byte : (i : ℕ) → i < 26 → i ≢ 14 → get_or configured (0x0206 + i) 0 ≡ blend (get_or writable (6 + i) 0) 0 (get_or settings i 0)
unfolding stored_byte
set_byte i low ne =
    let place : 0x0206 + i - 0x0200 ≡ 6 + i = omega arith in
    stored_run_at fresh 0x0206 settings i (omega arith) (omega (arith, length_new 8832))
    ∙ rw (region_registers (0x0206 + i) (omega arith) (omega arith), place, fresh_at (0x0206 + i) (λ e. ne (omega arith)))

configured_sails : Sails configured
unfolding blend writable word_at flag_at bit_of
configured_sails =
    let byte : (i v : ℕ) → i < 26 → i ≢ 14 → blend (get_or writable (6 + i) 0) 0 (get_or settings i 0) ≡ v → get_or configured (0x0206 + i) 0 ≡ v =
    λ i v low ne e. set_byte i low ne ∙ e in
    let rate-low : get_or configured 0x0206 0 ≡ 1 = byte 0 1 (omega arith) (omega arith) refl in
    let rate-high : get_or configured 0x0207 0 ≡ 0 = byte 1 0 (omega arith) (omega arith) refl in
    let high : get_or configured 0x0209 0 ≡ 0 = byte 3 0 (omega arith) (omega arith) refl in
    let enables : get_or configured 0x0210 0 ≡ 2 = byte 10 2 (omega arith) (omega arith) refl in
    let rtc : get_or configured 0x0212 0 ≡ 2 = byte 12 2 (omega arith) (omega arith) refl in
    let control : get_or configured 0x0213 0 ≡ 0x11 = byte 13 0x11 (omega arith) (omega arith) refl in
    let delay-0 : get_or configured 0x0216 0 ≡ 0 = byte 16 0 (omega arith) (omega arith) refl in
    let delay-1 : get_or configured 0x0217 0 ≡ 0 = byte 17 0 (omega arith) (omega arith) refl in
    let delay-2 : get_or configured 0x0218 0 ≡ 0 = byte 18 0 (omega arith) (omega arith) refl in
    record {
      rate = rw (rate-low, rate-high);
      ehss = rw rtc;
      etl = rw control;
      ro = rw control;
      etha = rw enables;
      high = high;
      delay = rw (delay-0, delay-1, delay-2);
    }

configured_idle : Registers.mip configured ≡ false
unfolding blend writable flag_at bit_of
configured_idle =
    let status : get_or configured 0x0215 0 ≡ 0 = set_byte 15 (omega arith) (omega arith) in
    rw status

configured_off : checked configured ≡ false
configured_off = checked_kept (keeps_stored_run fresh 0x0206 settings) tt ∙ fresh_off

configured_owned : Owned number configured (stored made 0x0206 settings)
configured_owned = stored_owned made_owned fresh_off 0x0206 settings (omega arith) refl (bytes_of settings tt) fresh_idle

-- he clears
abbrev emptied : List ℕ
emptied = Mission.cleared configured

emptied_owned : Owned number emptied (cleared_by (stored made 0x0206 settings))
emptied_owned = cleared_owned configured_owned configured_off

emptied_sails : Sails emptied
emptied_sails = sails_same (settings_cleared configured) (word_left 0x0216 3 (leaves_cleared configured) tt) configured_sails

emptied_off : checked emptied ≡ false
emptied_off = checked_kept (leaves_cleared configured).keeps tt ∙ configured_off

emptied_idle : Registers.mip emptied ≡ false
emptied_idle = mip_cleared configured ∙ configured_idle

emptied_clear : Registers.memclr emptied ≡ true
emptied_clear =
    (commands.clears (rw configured_owned.holds at (reached_solid configured_owned.reached).whole) configured_idle).memclr

-- he sets his passwords, and starts

module _ (keys : List ℕ) (whole : length keys ≡ 25) (small : Bytes keys) where
  abbrev keyed : List ℕ
  keyed = stored_run emptied 0x0227 keys

  abbrev key : ℕ
  key = word_at keys 9 8

  -- with his full password; the tag as it waits, in its mission
  abbrev sailing : State
  sailing = ready (started_by (stored (cleared_by (stored made 0x0206 settings)) 0x0227 keys) key) pad

  keyed_owned : Owned number keyed (stored (cleared_by (stored made 0x0206 settings)) 0x0227 keys)
  keyed_owned = stored_owned emptied_owned emptied_off 0x0227 keys (omega arith) (omega arith) small emptied_idle

  keyed_solid : Solid (stored (cleared_by (stored made 0x0206 settings)) 0x0227 keys)
  keyed_solid = reached_solid keyed_owned.reached

  keeps : Keeps ((0x0227, 25) ∷ []) emptied keyed
  keeps = rw whole at (keeps_stored_run emptied 0x0227 keys)

  keyed_sails : Sails keyed
  keyed_sails = sails_same (settings_left (leaves_keeps keeps) tt tt tt tt tt) (word_left 0x0216 3 (leaves_keeps keeps) tt) emptied_sails

  keyed_clear : Registers.memclr keyed ≡ true
  keyed_clear = flag_kept 0x0215 3 keeps tt ∙ emptied_clear

  has_keys : HasKeys keys keyed
  has_keys =
      let long = (leaves_cleared configured).keeps.lengths ∙ (keeps_stored_run fresh 0x0206 settings).lengths ∙ length_new 8832 in
      keys_stored emptied keys long whole small

  may : may_control keyed key ≡ true
  may = rw (← has_keys.full) (control_right keyed)

  may_start_lem : Mission.may_start keyed ≡ true
  unfolding Mission.may_start
  may_start_lem = rw (keyed_clear, flag_kept 0x0215 1 keeps tt ∙ emptied_idle, keyed_sails.etl, keyed_sails.rate)

  fits : key < 2 ^ 64
  fits = omega (arith, word_lt keys 9 8 small)

  abbrev launched : List ℕ
  launched = Mission.started keyed

  launched_owned : Owned number launched (started_by (stored (cleared_by (stored made 0x0206 settings)) 0x0227 keys) key)
  launched_owned = started_owned keyed_owned key fits may

  is_sailing : Ready number launched pad sailing
  is_sailing = is_ready launched_owned pad refl (bytes_of pad tt)

  -- the next tick is a conversion time
  sailing_wait : sailing.tag.counters.wait ≡ 0
  unfolding Mission.started_counters
  sailing_wait =
      ap (λ (c : Counters). c.wait) (ready_counters launched_owned pad refl (bytes_of pad tt) ∙ started_counters_lem keyed_owned key fits may) ∙ rw may_start_lem

  launched_sails : Sails launched
  launched_sails = sails_same (settings_started keyed) (word_left 0x0216 3 (leaves_started keyed) tt) keyed_sails

  launched_running : Registers.mip launched ≡ true
  launched_running = (commands.starts (rw keyed_owned.holds at keyed_solid.whole) may_start_lem).mip

  -- nothing is counted yet
  launched_samples : Registers.mission_samples launched ≡ 0
  launched_samples =
      let blank = (rw keyed_owned.holds at keyed_solid.fresh) keyed_clear in
      word_left 0x0220 3 (leaves_started keyed) tt ∙ blank.mission_samples

  launched_keys : HasKeys keys launched
  launched_keys =
      let l = leaves_started keyed in
      record {
        control = l.keeps.bytes 0x0227 tt ∙ has_keys.control;
        read = word_left 0x0228 8 l tt ∙ has_keys.read;
        full = word_left 0x0230 8 l tt ∙ has_keys.full;
      }

  is_under_way : UnderWay keys sailing
  is_under_way =
      record {
        reset = is_sailing.reset;
        waits = is_sailing.waits;
        keyed = rw is_sailing.holds launched_keys;
        running = rw is_sailing.holds launched_running;
        sails = rw is_sailing.holds launched_sails;
        samples = rw is_sailing.holds launched_samples;
        wait = sailing_wait;
      }

-- ---- the two

abbrev north : State
north = sailing first_keys refl (bytes_of first_keys tt)

abbrev south : State
south = sailing second_keys refl (bytes_of second_keys tt)

abbrev searched : ℕ → List Event
searched reading = Event.tick reading ∷ map Event.slot search

searches_differ : ticks_of (searched 672) ≢ ticks_of (searched 1391)
unfolding ticks_of
searches_differ = readings_differ (searched 672) (searched 1391) (omega arith)

-- any two such tags, with other passwords
module _ {keys others : List ℕ} {s t : State} (p : UnderWay keys s) (q : UnderWay others t) (on : get_or keys 0 0 ≡ 0xAA) (on' : get_or others 0 0 ≡ 0xAA) where
  met : (read_password s.image ≢ read_password t.image) → (full_password s.image ≢ full_password t.image) → MissionMet
  unfolding Always Together
  met read full =
      let u = after s (Event.tick 672) in
      let v = after t (Event.tick 1391) in
      let sound-u = warm_sound p 672 (omega arith) in
      let sound-v = warm_sound q 1391 (omega arith) in
      let chooses-u = warm_chooses p 672 (omega arith) in
      let chooses-v = warm_chooses q 1391 (omega arith) in
      record {
        s = s;
        t = t;
        E = searched 672;
        F = searched 1391;
        premises = record {
          begins = begins_alike p.reset q.reset (p.keyed.control ∙ on) (q.keyed.control ∙ on') (p.waits ∙ sym q.waits)
              (Alike.ticks 672 1391 (omega arith) (omega arith), alike_each Event.slot Event.slot Alike.slots u v search);
          fields = (
            ((tt, tt), choosing_carries_none s.image t.image u search sound-u chooses-u),
            ((tt, tt), choosing_carries_none s.image t.image v search sound-v chooses-v),
          );
          alarms = (
            tt,
            choosing_agree u v search sound-u sound-v chooses-u chooses-v (warm_flagged p 672 (omega arith) ∙ sym (warm_flagged q 1391 (omega arith))),
          );
        };
        running_s = p.running;
        running_t = q.running;
        read = read;
        full = full;
        readings = searches_differ;
        joined_s = joined p 672 (omega arith);
        joined_t = joined q 1391 (omega arith);
      }

pub mission_met : MissionMet
unfolding word_at
mission_met =
    let p = is_under_way first_keys refl (bytes_of first_keys tt) in
    let q = is_under_way second_keys refl (bytes_of second_keys tt) in
    met p q refl refl
    (rw p.keyed.read (none_of_keys (word_at first_keys 1 8) q.keyed refl refl).0)
    (rw p.keyed.full (none_of_keys (word_at first_keys 9 8) q.keyed refl refl).1)

-- Statements (i), (ii), (iii) and (v) of Needed, each by the two tags of Tags. Assumes nothing.
use Rattle.std.specs.Prelude.{◌≡◌, Bool, ◌≢◌, ℕ, get_or}
use Rattle.std.proofs.Math.Path.{refl}
use Rattle.std.proofs.Common.{sym, ap, subst, ◌∙◌, true≢false, arith, eq-eqb}
use Rattle.std.proofs.Math.Bool.{true, false}
use Rattle.std.proofs.lemmas.Bool.{false≢true}
use mathlib.Core.List.{List, [], ◌∷◌, ◌++◌, map, flat_map}
use Rattle.bits.specs.Bits.{bit_of, bits_of, shift_in}
use Rattle.exchange.specs.Exchange.{asks, slot_of}
use Rattle.exchange.specs.Runs.{Way, way_slots}
use Rattle.field.specs.Field.{guarded}
use Rattle.image.specs.Answers.{checked, may_control, may_read}
use Rattle.image.specs.Answers.Laws.{control_right, read_refused, read_right}
use Rattle.image.specs.Fields.{flag_at, word_at}
use Rattle.image.specs.Registers.{read_password, full_password}
use Rattle.image.specs.Sent.Laws.{sent_user}
use Rattle.bus.specs.declared.Control.{Control}
use Rattle.event.specs.Event.{performed}
use Rattle.mission.specs.Mission.Commands.{clears}
use Rattle.select.specs.Runs as runs
use Rattle.select.specs.Select as select
use Rattle.promises.specs.Demand3.{Alike, NoPassword, AlarmsAgree, Begins, NoneCarried, spoilt_bytes, LeftToTicks}
use Rattle.promises.specs.Demand3.Needed.{PremisesMet, FieldsNeeded, AlarmsNeeded, SpoilsWithPassword}
use Rattle.promises.specs.Demand3.Needed.Alarms.{search, Choosing, choosing_line_lem, choosing_carries_none}
use Rattle.promises.specs.Demand3.Needed.Fields.{reader, reader_differs, skipping_unconditional}
use Rattle.promises.specs.Demand3.Needed.Keys.{none_of_keys}
use Rattle.promises.specs.Demand3.Needed.Owner.{skipping, waiting}
use Rattle.promises.specs.Demand3.Needed.Stranger.{wrong, stranger, alike_each, readings_differ, stranger_alike, stranger_harmless, stranger_tried}
use Rattle.promises.specs.Demand3.Needed.Tags.{first_keys, pad, number, Prepared, first, first_prepared, first_bor, first_user, second, second_prepared, second_user}
use Rattle.promises.specs.Demand3.Needed.Walk.{harmless, asks_harmless, denied, harmless_all, Unconditional, harmless_unconditional, NoneOf, denies_run, unconditional_agree, harmless_premises}
use Rattle.promises.specs.Demand3.Proof.{demand3}
use Rattle.promises.specs.Demand3.Reset.{reset_reached, reset_sound, begins_guarded, begins_alike}
use Rattle.promises.specs.Line.Choosing.{alarm_is}
use Rattle.promises.specs.Line.ControlRun.{control_slots}
use Rattle.promises.specs.Line.ReadRun.{read_slots}
use Rattle.promises.specs.Line.Sessions.{controls}
use Rattle.promises.specs.Ranges.Laws.{reached_fit, fit_whole}
use Rattle.promises.specs.Words.{bit, bit_at, in_runs}
use Rattle.promises.specs.Runs.{State, Event, after, Ran, run, ticks_of, Always, Together}
use Rattle.promises.specs.Runs.Laws.{always_map}

-- ---- premises 1 to 3

begins : (E F : List Event) → Together (λ u e v f. Alike e f) first E second F → Begins first second E F
begins E F alike =
    begins_alike first_prepared.reset second_prepared.reset first_prepared.keyed.control second_prepared.keyed.control
    (first_prepared.waits ∙ sym second_prepared.waits) alike

alike_slots : (bits : List Bool) (s t : State) → Together (λ u e v f. Alike e f) s (map Event.slot bits) t (map Event.slot bits)
alike_slots bits s t = alike_each Event.slot Event.slot Alike.slots s t bits

-- ---- the passwords

pub wrong_first : NoneOf wrong first.image
unfolding word_at
wrong_first = none_of_keys wrong first_prepared.keyed refl refl

pub wrong_second : NoneOf wrong second.image
unfolding word_at
wrong_second = none_of_keys wrong second_prepared.keyed refl refl

-- the first's read password
abbrev right : ℕ
right = 0x1111111111111111

right_first : right ≡ read_password first.image
unfolding word_at
right_first = sym first_prepared.keyed.read

right_second : NoneOf right second.image
unfolding word_at
right_second = none_of_keys right second_prepared.keyed refl refl

full_differs : full_password first.image ≢ full_password second.image
unfolding word_at
full_differs = rw first_prepared.keyed.full (none_of_keys (word_at first_keys 9 8) second_prepared.keyed refl refl).1

-- ---- (i)

strangers_differ : ticks_of (stranger 672) ≢ ticks_of (stranger 1391)
unfolding ticks_of bits_of bit_of flat_map
strangers_differ = readings_differ (stranger 672) (stranger 1391) (omega arith)

pub premises_met : PremisesMet
premises_met =
    let begun = begins (stranger 672) (stranger 1391) (stranger_alike 672 1391 (omega arith) (omega arith) first second) in
    record {
      s = first;
      t = second;
      E = stranger 672;
      F = stranger 1391;
      premises =
          harmless_premises first second (stranger 672) (stranger 1391) wrong begun wrong_first wrong_second
          (rw first_prepared.waits (stranger_harmless number 672 pad))
          (rw second_prepared.waits (stranger_harmless number 1391 pad));
      read = rw (← right_first) right_second.0;
      full = full_differs;
      memory = λ e. omega (arith, first_user 0x0000 (omega arith), second_user);
      flags = λ e. true≢false (sym first_prepared.flags ∙ alarm_is first ∙ e ∙ sym (alarm_is second) ∙ second_prepared.flags);
      readings = strangers_differ;
      field = wrong;
      tried_s =
          stranger_tried number 672 pad first first_prepared.reset first_prepared.waits
          first_prepared.keyed.control first_prepared.idle wrong_first;
      tried_t =
          stranger_tried number 1391 pad second second_prepared.reset second_prepared.waits
          second_prepared.keyed.control second_prepared.idle wrong_second;
    }

-- ---- (ii)

abbrev reads : List Event
reads = reader right

reads_alike : Together (λ u e v f. Alike e f) first reads second reads
unfolding Together
reads_alike =
    (Alike.resets, alike_slots (bits_of 8 0xCC ++ read_slots 0x001F right) (after first Event.reset) (after second Event.reset))

skip_unconditional : Always Unconditional first (skipping [])
unfolding harmless_all asks_harmless harmless denied asks slot_of select.slot_of select.slot_at select.command_bit select.rom_command
    select.is_chosen select.ends_command bits_of bit_of shift_in
skip_unconditional =
    let guards = begins_guarded first_prepared.reset first_prepared.keyed.control in
    always_map (harmless_unconditional wrong) first (skipping [])
    (denies_run first.image false wrong wrong_first first (skipping []) (guards, first_prepared.idle) refl).0

reads_agree : Together AlarmsAgree first reads second reads
reads_agree =
    let sound = reset_sound first_prepared.reset in
    let never = skipping_unconditional first (read_slots 0x001F right) sound skip_unconditional in
    unconditional_agree first reads second reads never reads_alike

reads_differ : (run first reads).line ≢ (run second reads).line
unfolding checked
reads_differ =
    let may : may_read first.image right ≡ true = rw right_first (read_right first.image) in
    let zero = sent_user first.image first.tag.code 0x001F (omega arith) ∙ first_user 0x001F (omega arith) in
    let on : checked second.image ≡ true = eq-eqb _ 0xAA second_prepared.keyed.control in
    reader_differs first second (reset_sound first_prepared.reset) (reset_sound second_prepared.reset) right (omega arith)
    may zero (read_refused second.image right on right_second.0 right_second.1)

pub fields_needed : FieldsNeeded
fields_needed =
    let begun = begins reads reads reads_alike in
    record {
      s = first;
      t = second;
      E = reads;
      F = reads;
      given =
          record {
            begins = begun;
            alarms = reads_agree;
            carried = λ none. reads_differ (demand3 first second reads reads (record { begins = begun; fields = none; alarms = reads_agree })).line;
          };
      differ = reads_differ;
    }

-- ---- (iii)

abbrev searches : List Event
searches = map Event.slot search

module _ {keys : List ℕ} {alarm : Bool} {u : State} (p : Prepared keys alarm u) where
  search_chooses : Choosing u search
  unfolding runs.still_choosing select.slot_of select.slot_at select.command_bit select.rom_command select.is_chosen bits_of bit_of
      shift_in
  search_chooses = rw (p.waits, p.flags) (by alarm)
    where
      by : (b : Bool) → runs.still_choosing (waiting number pad).select number b search ≡ true
      by true = refl
      by false = refl

  search_line : (run u searches).line ≡ (runs.run (waiting number pad).select number alarm search).line
  search_line =
      choosing_line_lem u search (reset_sound p.reset) search_chooses
      ∙ rw p.waits (ap (λ (b : Bool). (runs.run (waiting number pad).select number b search).line) p.flags)

  search_carries_none : (i j : List ℕ) → Always (λ v e. NoPassword i v e × NoPassword j v e) u searches
  search_carries_none i j = choosing_carries_none i j u search (reset_sound p.reset) search_chooses

-- the tenth bit is the complement of the number's first, or 1
searches_differ : (run first searches).line ≢ (run second searches).line
unfolding runs.run select.slot_of select.slot_at select.command_bit select.rom_command bits_of bit_of shift_in
searches_differ same =
    let lines = sym (search_line first_prepared) ∙ same ∙ search_line second_prepared in
    false≢true (ap (λ (line : List Bool). get_or line 9 true) lines)

pub alarms_needed : AlarmsNeeded
alarms_needed =
    let begun = begins searches searches (alike_slots search first second) in
    let i = first.image in
    let j = second.image in
    let fields : NoneCarried first second searches searches =
    (search_carries_none first_prepared i j, search_carries_none second_prepared i j) in
    record {
      s = first;
      t = second;
      E = searches;
      F = searches;
      begins = begun;
      fields = fields;
      disagree = λ agree. searches_differ (demand3 first second searches searches (record { begins = begun; fields = fields; alarms = agree })).line;
      differ = searches_differ;
    }

-- ---- (v)

-- the first's full password
abbrev owned : ℕ
owned = 0x2222222222222222

owned_may : may_control first.image owned ≡ true
unfolding word_at
owned_may = subst (λ (key : ℕ). may_control first.image key ≡ true) first_prepared.keyed.full (control_right first.image)

abbrev clearing : List Bool
clearing = control_slots Control.Clear owned 0xFF

abbrev clearances : List Event
clearances = skipping clearing

clearances_alike : Together (λ u e v f. Alike e f) first clearances second clearances
unfolding Together
clearances_alike = (Alike.resets, alike_slots (bits_of 8 0xCC ++ clearing) (after first Event.reset) (after second Event.reset))

clearances_agree : Together AlarmsAgree first clearances second clearances
clearances_agree =
    let never = skipping_unconditional first clearing (reset_sound first_prepared.reset) skip_unconditional in
    unconditional_agree first clearances second clearances never clearances_alike

no_ticks : (bits : List Bool) → ticks_of (skipping bits) ≡ []
unfolding ticks_of
no_ticks bits = by (bits_of 8 0xCC ++ bits)
  where
    by : (bits : List Bool) → ticks_of (map Event.slot bits) ≡ []
    by [] = refl
    by (bit ∷ bits) = by bits

-- BOR is 0 after the Clear, and the ticks alone, none, would have left it 1
clearances_spoil : LeftToTicks first clearances → ⊥
unfolding way_slots guarded performed run bit bit_of flag_at
clearances_spoil left =
    let whole = fit_whole (reached_fit (reset_reached first_prepared.reset)) in
    let clear = controls first (reset_sound first_prepared.reset) (Way.skip false) owned (omega arith) owned_may Control.Clear refl in
    let cleared : flag_at (run first clearances).state.image 0x0214 7 ≡ false =
    ap (λ (r : Ran). flag_at r.state.image 0x0214 7) clear ∙ (clears whole first_prepared.idle).bor in
    let same = rw (no_ticks clearing) at (left.spoilt.bits 0x0214 7 (omega arith) (spared (bit_at first.image 0x0212 0)) refl) in
    true≢false (sym first_bor ∙ sym same ∙ cleared)
  where
    spared : (b : Bool) → in_runs (spoilt_bytes b) 0x0214 ≡ false
    spared true = refl
    spared false = refl

pub spoils_with_password : SpoilsWithPassword
spoils_with_password =
    let begun = begins clearances clearances clearances_alike in
    record {
      s = first;
      t = second;
      E = clearances;
      F = clearances;
      given =
          record {
            begins = begun;
            alarms = clearances_agree;
            carried = λ none. clearances_spoil
                (demand3 first second clearances clearances (record { begins = begun; fields = none; alarms = clearances_agree })).left_s;
          };
      spoilt = clearances_spoil;
    }

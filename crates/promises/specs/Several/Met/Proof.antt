-- Two tags on a line: the one of demand 3's witness, which the master selects by Match and offers a field, and a neighbour with another number
-- whose full password the field is. Assumes nothing.
use Rattle.std.specs.Prelude.{◌≡◌, refl, Bool, true, false, ◌≢◌, ℕ, zero, suc, ◌<◌, get_or, take, drop, replicate}
use Rattle.std.proofs.Common.{sym, ap, subst, ◌∙◌, true≢false, inl, arith, length-append, take_at, drop_at, take_all}
use Rattle.std.proofs.Math.Bool.{xor}
use mathlib.Core.List.{List, [], ◌∷◌, ◌++◌, map, flat_map}
use Rattle.bits.specs.Bits.{bit_of, bits_of, slots_of, shift_in}
use Rattle.bits.specs.Bytes.{bytes_of}
use Rattle.crc.specs.Crc.{taps, crc_bit, crc_bits, mask8, crc8_of, good_crc}
use Rattle.exchange.specs.declared.Exchange.{Exchange}
use Rattle.exchange.specs.Exchange.{asks, slot_of}
use Rattle.image.specs.Fields.{word_at}
use Rattle.image.specs.Stored.{stored_run}
use Rattle.bus.specs.declared.Control.{Control}
use Rattle.field.specs.Field.{field_asks, judged, gathered_bit, after_reading, after_controlling}
use Rattle.memory.specs.Hear.{command_stage, confirmed, heard_whole, heard_bit}
use Rattle.memory.specs.Memory as memory
use Rattle.select.specs.Select as select
use Rattle.select.specs.Select.{mode_of, speed_in}
use Rattle.bus.specs.declared.Guarded.{Guarded}
use Rattle.bus.specs.declared.Stage.{Stage}
use Rattle.record.specs.Record.{good_number}
use Rattle.tag.proofs.Tag.Laws.{length_new}
use Rattle.promises.specs.Demand3.{EndsField, Conditional, Alike, NoPassword, NoneCarried, AlarmsAgree, Premises}
use Rattle.promises.specs.Demand3.Needed.{Sometime}
use Rattle.promises.specs.Demand3.Needed.Keys.{HasKeys, keys_stored, none_of_keys}
use Rattle.promises.specs.Demand3.Needed.Owner.{Ready, stored, stored_owned, ready, is_ready, waiting}
use Rattle.promises.specs.Demand3.Needed.Proof.{wrong_first, wrong_second}
use Rattle.promises.specs.Demand3.Needed.Stranger.{wrong, field, field_seen, ends_seen, readings_differ}
use Rattle.promises.specs.Demand3.Needed.Tags.{pad, number, fresh, made_with, with_owned, fresh_off, fresh_idle, first, second, first_prepared, second_prepared}
use Rattle.promises.specs.Demand3.Needed.Walk.{harmless, asks_harmless, denied, harmless_all, denied_all, denies_run, harmless_premises}
use Rattle.promises.specs.Demand3.Reset.{reset_reached, reset_sound, begins_alike, begins_guarded}
use Rattle.promises.specs.Overdrive.{NoLong, slots_in}
use Rattle.promises.specs.Ranges.{Fit}
use Rattle.promises.specs.Ranges.Laws.{reached_fit}
use Rattle.promises.specs.Runs as alone
use Rattle.promises.specs.Runs.{State, Event}
use Rattle.promises.specs.Runs.Laws.{always_map, all_slots}
use Rattle.promises.specs.Sentences.Choosing.{alarm}
use Rattle.promises.specs.Sentences.Events.{clear_tag}
use Rattle.promises.specs.Several.{Line, LineEvent, FitLine, tag_at, heard, Unselected, Elsewhere}
use Rattle.promises.specs.Several.Demand3 as line
use Rattle.promises.specs.Several.Demand3.{AllAlike, TagBegins}
use Rattle.promises.specs.Several.Met.{LineMet}
use Rattle.promises.specs.Several.Aside.{Listens, stretch_aside}
use Rattle.promises.specs.Words as words
use Rattle.promises.specs.Words.{among, bit, low, number_of}

-- ---- a line of two

abbrev pair : State → State → Line
pair a b =
    record {
      block = a.image ++ b.image;
      board = record { tags = a.tag ∷ b.tag ∷ replicate 5 (clear_tag 0 0); count = 2 };
    }

at_0 : (a b : State) → Fit a → tag_at (pair a b) 0 ≡ a
at_0 a b fit = λ i. record { image = take_at a.image b.image 8832 fit.size i; tag = a.tag }

at_1 : (a b : State) → Fit a → Fit b → tag_at (pair a b) 1 ≡ b
at_1 a b fit-a fit-b =
    λ i. record {
      image = (ap (take 8832) (drop_at a.image b.image 8832 fit-a.size) ∙ take_all 8832 b.image (omega (arith, fit-b.size))) i;
      tag = b.tag;
    }

-- what holds of both holds at every place
at_each : (P : ℕ → Type 0) → P 0 → P 1 → (place : ℕ) → place < 2 → P place
at_each P p q zero h = p
at_each P p q (suc zero) h = q
at_each P p q (suc (suc place)) h = absurd (omega (arith, h))

pair_fit : (a b : State) → Fit a → Fit b → number_of a ≢ number_of b → FitLine (pair a b)
pair_fit a b fit-a fit-b other =
    record {
      seven = refl;
      many = refl;
      size = omega (arith, length-append a.image b.image, fit-a.size, fit-b.size);
      apart = λ i j hi hj.
          at_each (λ i. number_of (tag_at (pair a b) i) ≡ number_of (tag_at (pair a b) j) → i ≡ j)
          (at_each (λ j. number_of a ≡ number_of (tag_at (pair a b) j) → 0 ≡ j) (λ same. refl) (λ same. absurd (other same)) j hj)
          (at_each (λ j. number_of b ≡ number_of (tag_at (pair a b) j) → 1 ≡ j) (λ same. absurd (other (sym same))) (λ same. refl) j hj) i hi;
      tags = at_each (λ i. Fit (tag_at (pair a b) i)) (subst Fit (sym (at_0 a b fit-a)) fit-a) (subst Fit (sym (at_1 a b fit-a fit-b)) fit-b);
    }

-- ---- the neighbour

-- the ROM 41 01 00 00 00 00 00 CD of the rulings on request #106
abbrev next_number : ℕ
next_number = 0xCD00000000000141

-- AAh, a read password, the field as full password, and eight bytes that no Copy writes
abbrev next_keys : List ℕ
next_keys = 0xAA ∷ replicate 8 0x55 ++ (field ++ replicate 8 0x00)

next_good : good_number next_number ≡ true
unfolding good_number good_crc taps crc_bit crc_bits mask8 crc8_of bit_of bits_of xor
next_good = refl

abbrev neighbour : State
neighbour = ready (stored (made_with next_number) 0x0227 next_keys) pad

next_ready : Ready next_number (stored_run fresh 0x0227 next_keys) pad neighbour
next_ready =
    let keyed = stored_owned (with_owned next_number next_good) fresh_off 0x0227 next_keys (omega arith) refl (bytes_of next_keys tt) fresh_idle in
    is_ready keyed pad refl (bytes_of pad tt)

next_keyed : HasKeys next_keys neighbour.image
next_keyed = rw next_ready.holds (keys_stored fresh next_keys (length_new 8832) refl (bytes_of next_keys tt))

first_fit : Fit first
first_fit = reached_fit (reset_reached first_prepared.reset)

second_fit : Fit second
second_fit = reached_fit (reset_reached second_prepared.reset)

next_fit : Fit neighbour
next_fit = reached_fit (reset_reached next_ready.reset)

-- ---- the events

-- Match with the first tag's number, and Clear with the field: it may be a grower's who is at the wrong tag
abbrev bytes : List ℕ
bytes = 0x55 ∷ 0x41 ∷ 0x2B ∷ 0xC5 ∷ 0xFB ∷ 0x00 ∷ 0x00 ∷ 0x00 ∷ 0xA1 ∷ 0x96 ∷ field ++ (0xFF ∷ [])

abbrev sent : List Bool
sent = slots_of bytes

-- and a tick for each, to the first with this reading
abbrev session : ℕ → List LineEvent
session reading = map LineEvent.slot sent ++ (LineEvent.tick 0 reading ∷ LineEvent.tick 1 1000 ∷ [])

abbrev first_hears : ℕ → List Event
first_hears reading = map Event.slot sent ++ (Event.tick reading ∷ [])

abbrev next_hears : List Event
next_hears = map Event.slot sent ++ (Event.tick 1000 ∷ [])

first_hears_lem : (reading : ℕ) → heard 0 (session reading) ≡ first_hears reading
unfolding flat_map bits_of bit_of
first_hears_lem reading = refl

next_hears_lem : (reading : ℕ) → heard 1 (session reading) ≡ next_hears
unfolding flat_map bits_of bit_of
next_hears_lem reading = refl

-- ---- the neighbour is not selected

-- at the tenth bit the numbers part
next_elsewhere : Elsewhere next_number next_hears
unfolding NoLong slots_in among low bit flat_map bits_of bit_of
next_elsewhere =
    record {
      none = tt;
      byte = 0x55;
      match = refl;
      bits = drop 8 sent;
      slots = refl;
      other = λ own. true≢false (ap (λ (bits : List Bool). get_or bits 9 false) own.1);
    }

next_listens : Listens neighbour
unfolding mode_of speed_in
next_listens =
    record {
      sound = reset_sound next_ready.reset;
      choosing = rw next_ready.waits refl;
      slow = rw next_ready.waits refl;
    }

next_aside : alone.Always Unselected neighbour next_hears
next_aside =
    (stretch_aside next_listens next_hears
    (inl (subst (λ (n : ℕ). Elsewhere n next_hears) (sym (ap (λ (x : Exchange). x.number) next_ready.waits)) next_elsewhere))).0

-- so no field ends there
unselected_none : (image : List ℕ) (u : State) (e : Event) → Unselected u e → NoPassword image u e
unselected_none image u e other =
    all_slots
    (λ v bit. (f : ℕ) → EndsField v.tag.exchange bit f → (f ≢ words.word_at image 0x0228 8) × (f ≢ words.word_at image 0x0230 8)) u e
    (λ bit field ends. absurd (other ends.chosen))

next_fields : NoneCarried neighbour neighbour next_hears next_hears
next_fields =
    let none = always_map {Q = λ u e. NoPassword neighbour.image u e × NoPassword neighbour.image u e} (λ u e h. (unselected_none neighbour.image u e h, unselected_none neighbour.image u e h)) neighbour next_hears next_aside in
    (none, none)

-- and one tag agrees with itself
agree_same : (s : State) (es : List Event) → alone.Together AlarmsAgree s es s es
unfolding alone.Together
agree_same s [] = tt
agree_same s (e ∷ es) =
    (all_slots (λ u bit. Conditional u.tag.exchange bit → alarm s ≡ alarm s) s e (λ bit asked. refl), agree_same (alone.after s e) es)

-- ---- the first tag

-- nothing is asked of it but whether the field may
first_harmless : (reading : ℕ) → harmless_all wrong (waiting number pad) (first_hears reading) ≡ true
unfolding harmless_all asks_harmless harmless denied asks slot_of memory.asks memory.stage_asks memory.slot_of memory.stage_slot
    memory.on_line field_asks gathered_bit judged after_reading after_controlling heard_bit heard_whole command_stage confirmed
    select.slot_of select.slot_at select.command_bit select.rom_command select.heard_bit select.following select.is_chosen select.ends_command
    select.mark_in select.speed_in select.mode_of bits_of bit_of shift_in flat_map
first_harmless reading = refl

first_alike : alone.Together (λ u e v f. Alike e f) first (first_hears 672) second (first_hears 1391)
unfolding alone.Together
first_alike = by sent first second
  where
    by : (bits : List Bool) (s t : State) →
        alone.Together (λ u e v f. Alike e f) s (map Event.slot bits ++ (Event.tick 672 ∷ [])) t (map Event.slot bits ++ (Event.tick 1391 ∷ []))
    by [] s t = (Alike.ticks 672 1391 (omega arith) (omega arith), tt)
    by (b ∷ bits) s t = (Alike.slots b, by bits (alone.after s (Event.slot b)) (alone.after t (Event.slot b)))

first_premises : Premises first second (first_hears 672) (first_hears 1391)
first_premises =
    harmless_premises first second (first_hears 672) (first_hears 1391) wrong
    (begins_alike first_prepared.reset second_prepared.reset first_prepared.keyed.control second_prepared.keyed.control
    (first_prepared.waits ∙ sym second_prepared.waits) first_alike)
    wrong_first wrong_second
    (rw first_prepared.waits (first_harmless 672)) (rw second_prepared.waits (first_harmless 1391))

-- after 143 slots the last bit of the field comes
abbrev before : List Event
before = take 143 (first_hears 672)

before_harmless : harmless_all wrong (waiting number pad) before ≡ true
unfolding harmless_all asks_harmless harmless denied asks slot_of memory.asks memory.stage_asks memory.slot_of memory.stage_slot
    memory.on_line field_asks gathered_bit judged after_reading after_controlling heard_bit heard_whole command_stage confirmed
    select.slot_of select.slot_at select.command_bit select.rom_command select.heard_bit select.following select.is_chosen select.ends_command
    select.mark_in select.speed_in select.mode_of bits_of bit_of shift_in flat_map
before_harmless = refl

before_seen : field_seen (denied_all (waiting number pad) before) false ≡ (true, Stage.Gathers (Guarded.Controlling Control.Clear), 63, wrong)
unfolding denied_all denied slot_of memory.slot_of memory.stage_slot memory.on_line gathered_bit judged heard_bit heard_whole command_stage
    select.slot_of select.slot_at select.command_bit select.rom_command select.heard_bit select.following select.is_chosen
    select.mark_in select.speed_in select.mode_of bits_of bit_of shift_in flat_map
before_seen = refl

first_carries : Sometime (λ u bit. EndsField u.tag.exchange bit wrong) first (first_hears 672)
unfolding bits_of bit_of flat_map
first_carries =
    let stood =
    (denies_run first.image false wrong wrong_first first before
    (begins_guarded first_prepared.reset first_prepared.keyed.control, first_prepared.idle)
    (rw first_prepared.waits before_harmless)).2 in
    record {
      before = before;
      bit = false;
      rest = drop 144 (first_hears 672);
      split = refl;
      holds = rw (stood, first_prepared.waits)
          (ends_seen (denied_all (waiting number pad) before) false (Guarded.Controlling Control.Clear) before_seen).1;
    }

-- ---- together

next_full : words.word_at neighbour.image 0x0230 8 ≡ wrong
unfolding word_at
next_full = next_keyed.full

full_differs : words.word_at first.image 0x0230 8 ≢ words.word_at second.image 0x0230 8
unfolding word_at
full_differs = rw first_prepared.keyed.full (none_of_keys 0x2222222222222222 second_prepared.keyed refl refl).1

ticks_differ : alone.ticks_of (first_hears 672) ≢ alone.ticks_of (first_hears 1391)
unfolding alone.ticks_of bits_of bit_of flat_map
ticks_differ = readings_differ (first_hears 672) (first_hears 1391) (omega arith)

begins_at : {s t : State} {E F : List Event} → Premises s t E F → TagBegins s t
begins_at p =
    let b = p.begins in
    record {
      reset_s = b.reset_s;
      reset_t = b.reset_t;
      checked_s = b.checked_s;
      checked_t = b.checked_t;
      number = b.number;
      held = b.held;
      mark = b.mark;
    }

next_begins : TagBegins neighbour neighbour
next_begins =
    record {
      reset_s = next_ready.reset;
      reset_t = next_ready.reset;
      checked_s = next_keyed.control;
      checked_t = next_keyed.control;
      number = refl;
      held = refl;
      mark = refl;
    }

session_alike : AllAlike 2 (session 672) (session 1391)
unfolding AllAlike
session_alike = by sent
  where
    by : (bits : List Bool) → AllAlike 2 (map LineEvent.slot bits ++ (LineEvent.tick 0 672 ∷ LineEvent.tick 1 1000 ∷ []))
        (map LineEvent.slot bits ++ (LineEvent.tick 0 1391 ∷ LineEvent.tick 1 1000 ∷ []))
    by [] = (
      line.Alike.ticks 0 672 1391 (omega arith) (omega arith) (omega arith),
      (line.Alike.ticks 1 1000 1000 (omega arith) (omega arith) (omega arith), tt),
    )
    by (b ∷ bits) = (line.Alike.slots b, by bits)

numbers_part : (s : State) → s.tag.exchange ≡ waiting number pad → number_of s ≢ number_of neighbour
numbers_part s waits e = absurd (omega (arith, sym (ap (λ (x : Exchange). x.number) waits) ∙ e ∙ ap (λ (x : Exchange). x.number) next_ready.waits))

-- the two lines: the first tag beside the neighbour, and the second in its place
abbrev l : Line
l = pair first neighbour

abbrev m : Line
m = pair second neighbour

moved : (P : State → State → List Event → List Event → Type 0) {s t u v : State} {E F G H : List Event} → u ≡ s → v ≡ t → G ≡ E → H ≡ F →
    P s t E F → P u v G H
moved P {s} {t} {u} {v} {E} {F} {G} {H} a b c d p =
    subst (λ (x : State). P x v G H) (sym a)
    (subst (λ (x : State). P s x G H) (sym b) (subst (λ (x : List Event). P s t x H) (sym c) (subst (λ (x : List Event). P s t E x) (sym d) p)))

-- what holds of the first tags and of the neighbours, of what they hear, holds at both places
at_places : (P : State → State → List Event → List Event → Type 0) → P first second (first_hears 672) (first_hears 1391) →
    P neighbour neighbour next_hears next_hears → (place : ℕ) → place < 2 →
    P (tag_at l place) (tag_at m place) (heard place (session 672)) (heard place (session 1391))
at_places P p q =
    at_each (λ place. P (tag_at l place) (tag_at m place) (heard place (session 672)) (heard place (session 1391)))
    (moved P (at_0 first neighbour first_fit) (at_0 second neighbour second_fit) (first_hears_lem 672) (first_hears_lem 1391) p)
    (moved P (at_1 first neighbour first_fit next_fit) (at_1 second neighbour second_fit next_fit) (next_hears_lem 672) (next_hears_lem 1391) q)

pub line_met : LineMet
line_met =
    record {
      l = l;
      m = m;
      E = session 672;
      F = session 1391;
      premises =
          record {
            fit_l = pair_fit first neighbour first_fit next_fit (numbers_part first first_prepared.waits);
            fit_m = pair_fit second neighbour second_fit next_fit (numbers_part second second_prepared.waits);
            count = refl;
            begins = at_places (λ s t E F. TagBegins s t) (begins_at first_premises) next_begins;
            alike = session_alike;
            fields = at_places NoneCarried first_premises.fields next_fields;
            alarms = at_places (λ s t E F. alone.Together AlarmsAgree s E t F) first_premises.alarms (agree_same neighbour next_hears);
          };
      two = refl;
      carried =
          moved (λ s t E F. Sometime (λ u bit. EndsField u.tag.exchange bit (words.word_at t.image 0x0230 8)) s E)
          (at_0 first neighbour first_fit) (at_1 first neighbour first_fit next_fit) (first_hears_lem 672) (next_hears_lem 672)
          (subst (λ (n : ℕ). Sometime (λ u bit. EndsField u.tag.exchange bit n) first (first_hears 672)) (sym next_full) first_carries);
      aside =
          moved (λ s t E F. alone.Always Unselected s E) {t = neighbour} {F = next_hears} (at_1 first neighbour first_fit next_fit) refl
          (next_hears_lem 672) refl next_aside;
      full =
          moved (λ s t E F. words.word_at s.image 0x0230 8 ≢ words.word_at t.image 0x0230 8) {E = next_hears} {F = next_hears}
          (at_0 first neighbour first_fit) (at_0 second neighbour second_fit) refl refl full_differs;
      readings =
          moved (λ s t E F. alone.ticks_of E ≢ alone.ticks_of F) {s = first} {t = second} refl refl (first_hears_lem 672) (first_hears_lem 1391) ticks_differ;
    }

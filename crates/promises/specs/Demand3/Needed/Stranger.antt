-- A stranger with one wrong field tries every command, on a tag that waits after a reset. What he offers is computed from his
-- events and the tag's exchange alone; of the image it counts only that its passwords are others. Assumes nothing.
use Rattle.std.specs.Prelude.{◌≡◌, Bool, ◌≢◌, ℕ, suc, ◌≤◌, take, drop}
use Rattle.std.proofs.Math.Path.{refl}
use Rattle.std.proofs.Common.{sym, ap, ◌∙◌}
use Rattle.std.proofs.Math.Bool.{true, false, and-eq-true_iff}
use mathlib.Core.List.{List, [], ◌∷◌, ◌++◌, map, flat_map}
use Rattle.bits.specs.Bits.{bit_of, bits_of, shift_in, slots_of}
use Rattle.exchange.specs.declared.Exchange.{Exchange}
use Rattle.exchange.specs.Exchange.{asks, slot_of, after_short}
use Rattle.image.specs.Fields.{flag_at}
use Rattle.image.specs.Registers.{mip, password_control}
use Rattle.bus.specs.declared.Control.{Control}
use Rattle.bus.specs.declared.Guarded.{Guarded}
use Rattle.bus.specs.declared.Hearing.{Hearing}
use Rattle.bus.specs.declared.Stage.{Stage}
use Rattle.bus.specs.Bus.{status_byte}
use Rattle.field.specs.Field.{as_held, to_the_end, copies, field_asks, judged, gathered_bit, after_reading, after_controlling}
use Rattle.memory.specs.Hear.{command_stage, address_heard, confirmed, heard_whole, heard_bit}
use Rattle.memory.specs.Memory as memory
use Rattle.select.specs.Select as select
use Rattle.promises.specs.Demand3.{EndsField, Forces, Converted, JustReset, Alike}
use Rattle.promises.specs.Demand3.Needed.{Sometime, Offers, OffersCopy, Overdriven, Tried}
use Rattle.promises.specs.Demand3.Needed.Owner.{skipping, waiting}
use Rattle.promises.specs.Demand3.Needed.Walk.{harmless, asks_harmless, denied, harmless_all, denied_all, NoneOf, Denies, denies_run}
use Rattle.promises.specs.Demand3.Reset.{begins_guarded}
use Rattle.promises.specs.Sentences.Commands.Cases.{chosen_is}
use Rattle.promises.specs.Words.{bit}
use Rattle.promises.specs.Runs.{State, Event, after, reading_of, run, ticks_of, Together}

-- ---- his events

-- the field that he sends, as a number and as its bytes
abbrev pub wrong : ℕ
wrong = 0x0807060504030201

abbrev pub field : List ℕ
field = 0x01 ∷ 0x02 ∷ 0x03 ∷ 0x04 ∷ 0x05 ∷ 0x06 ∷ 0x07 ∷ 0x08 ∷ []

-- a reset, Skip and these bytes
abbrev attempt : List ℕ → List Event
attempt bytes = skipping (slots_of bytes)

-- the like with Overdrive Skip, and at overdrive with a short reset
abbrev hurry : List ℕ → List Event
hurry bytes = Event.reset ∷ map Event.slot (slots_of (0x3C ∷ bytes))

abbrev again : List ℕ → List Event
again bytes = Event.short ∷ map Event.slot (slots_of (0xCC ∷ bytes))

-- a short reset that is nothing at all; Copy with TA and E/S as held, Read Memory and eight slots more; at overdrive Clear, Start and Stop;
-- Forced Conversion; and two ticks in between
abbrev attempts : List Event
attempts =
    Event.short ∷ attempt (0x99 ∷ 0x00 ∷ 0x00 ∷ 0x1F ∷ field) ++ (
    Event.tick 0 ∷ attempt (0x69 ∷ 0x00 ∷ 0x00 ∷ field ++ (0xFF ∷ [])) ++ (
    hurry (0x96 ∷ field ++ (0xFF ∷ [])) ++ (
    Event.tick 0 ∷ again (0xCC ∷ field ++ (0xFF ∷ [])) ++ (
    again (0x33 ∷ field ++ (0xFF ∷ [])) ++
    attempt (0x55 ∷ 0xFF ∷ [])))))

-- with this reading at each tick
abbrev ticking : ℕ → Event → Event
ticking reading (Event.slot bit) = Event.slot bit
ticking reading Event.reset = Event.reset
ticking reading Event.short = Event.short
ticking reading (Event.tick other) = Event.tick reading

abbrev pub stranger : ℕ → List Event
stranger reading = map (ticking reading) attempts

-- events that are alike one by one
pub alike_each : {A : Type 0} (f g : A → Event) → ((x : A) → Alike (f x) (g x)) → (s t : State) (xs : List A) →
    Together (λ u e v h. Alike e h) s (map f xs) t (map g xs)
unfolding Together
alike_each f g alike s t [] = tt
alike_each f g alike s t (x ∷ xs) = (alike x, alike_each f g alike (after s (f x)) (after t (g x)) xs)

-- runs whose first ticks have other readings
abbrev first_reading : List Event → ℕ
first_reading [] = 0
first_reading (e ∷ es) = reading_of e

pub readings_differ : (E F : List Event) → first_reading (ticks_of E) ≢ first_reading (ticks_of F) → ticks_of E ≢ ticks_of F
readings_differ E F other same = other (ap first_reading same)

pub stranger_alike : (p q : ℕ) → p ≤ 2047 → q ≤ 2047 → (s t : State) →
    Together (λ u e v f. Alike e f) s (stranger p) t (stranger q)
stranger_alike p q small-p small-q s t = alike_each (ticking p) (ticking q) alike s t attempts
  where
    alike : (e : Event) → Alike (ticking p e) (ticking q e)
    alike (Event.slot bit) = Alike.slots bit
    alike Event.reset = Alike.resets
    alike Event.short = Alike.shorts
    alike (Event.tick other) = Alike.ticks p q small-p small-q

-- ---- what he offers, computed

-- nothing but the wrong field
pub stranger_harmless : (number reading : ℕ) (pad : List ℕ) → harmless_all wrong (waiting number pad) (stranger reading) ≡ true
unfolding harmless_all asks_harmless harmless denied asks slot_of after_short memory.asks memory.stage_asks memory.slot_of memory.stage_slot
    memory.on_line field_asks gathered_bit judged copies as_held to_the_end after_reading after_controlling heard_bit heard_whole
    address_heard command_stage confirmed status_byte select.slot_of select.slot_at select.command_bit select.rom_command select.is_chosen
    select.ends_command select.mark_in select.speed_in select.mode_of bits_of bit_of shift_in flat_map
stranger_harmless number reading pad = refl

-- and what is so of all his events is so of the first of them
harmless_front : (w : ℕ) (x : Exchange) (E F : List Event) → harmless_all w x (E ++ F) ≡ true → harmless_all w x E ≡ true
unfolding harmless_all
harmless_front w x [] F h = refl
harmless_front w x (e ∷ es) F h =
    let both = (and-eq-true_iff (asks_harmless w x e) (harmless_all w (denied x e) (es ++ F))).0 h in
    let rest = harmless_front w (denied x e) es F both.1 in
    (and-eq-true_iff (asks_harmless w x e) (harmless_all w (denied x e) es)).1 (both.0, rest)

-- what `EndsField` speaks of, as the slot with this bit comes; and what `Forces` does
abbrev pub Sight : Type 0
Sight = Bool × Stage × ℕ × ℕ

abbrev pub field_seen : Exchange → Bool → Sight
field_seen x bit = (select.is_selected x.select, x.bus.stage, x.bus.at, shift_in 64 x.bus.field bit)

abbrev byte_seen : Exchange → Bool → Sight
byte_seen x bit = (select.is_selected x.select, x.bus.stage, x.bus.at, shift_in 8 x.bus.byte bit)

pub ends_seen : (x : Exchange) (bit : Bool) (g : Guarded) {carried : ℕ} → field_seen x bit ≡ (true, Stage.Gathers g, 63, carried) →
    (x.bus.stage ≡ Stage.Gathers g) × EndsField x bit carried
unfolding shift_in
ends_seen x bit g e =
    let stage = ap (λ (v : Sight). v.1) e in (
      stage,
      record {
        chosen = chosen_is x.select.choosing (ap (λ (v : Sight). v.0) e);
        gathered = (g, stage);
        last = ap (λ (v : Sight). v.2) e;
        bytes = ap (λ (v : Sight). v.3) e;
      },
    )

forces_seen : (x : Exchange) (bit : Bool) → byte_seen x bit ≡ (true, Stage.Hears (Hearing.Confirm Control.Convert), 7, 0xFF) →
    Forces x bit
unfolding shift_in
forces_seen x bit e =
    record {
      chosen = chosen_is x.select.choosing (ap (λ (v : Sight). v.0) e);
      awaited = ap (λ (v : Sight). v.1) e;
      last = ap (λ (v : Sight). v.2) e;
      byte = ap (λ (v : Sight). v.3) e;
    }

-- ---- on a tag with other passwords and no mission

module _ (number reading : ℕ) (pad : List ℕ) (s : State) (reset : JustReset s) (waits : s.tag.exchange ≡ waiting number pad)
    (on : password_control s.image ≡ 0xAA) (idle : mip s.image ≡ false) (none : NoneOf wrong s.image) where
  -- his events before place n, the state there, and its exchange as it is computed
  abbrev front : ℕ → List Event
  front n = take n (stranger reading)

  abbrev there : ℕ → State
  there n = (run s (front n)).state

  abbrev standing : ℕ → Exchange
  standing n = denied_all (waiting number pad) (front n)

  -- the event at place n is a slot with this bit
  abbrev Comes : ℕ → Bool → Type 0
  Comes n bit = stranger reading ≡ front n ++ (Event.slot bit ∷ drop (suc n) (stranger reading))

  stands : (n : ℕ) (bit : Bool) → Comes n bit → Denies s.image false (there n) × ((there n).tag.exchange ≡ standing n)
  stands n bit split =
      let x = s.tag.exchange in
      let rest = Event.slot bit ∷ drop (suc n) (stranger reading) in
      let all : harmless_all wrong x (stranger reading) ≡ true = rw waits (stranger_harmless number reading pad) in
      let so_far = harmless_front wrong x (front n) rest (ap (harmless_all wrong x) (sym split) ∙ all) in
      let run-there = denies_run s.image false wrong none s (front n) (begins_guarded reset on, idle) so_far in
      (run-there.1, rw (← waits) run-there.2)

  comes : (P : State → Bool → Type 0) (n : ℕ) (bit : Bool) → Comes n bit → P (there n) bit → Sometime P s (stranger reading)
  comes P n bit split holds =
      record { before = front n; bit = bit; rest = drop (suc n) (stranger reading); split = split; holds = holds }

  -- the field's last bit is a 0
  offers : (g : Guarded) (n : ℕ) → Comes n false → field_seen (standing n) false ≡ (true, Stage.Gathers g, 63, wrong) →
      Offers g wrong (there n) false
  offers g n split seen = rw (stands n false split).1 (ends_seen (standing n) false g seen)

  tries : (g : Guarded) (n : ℕ) → Comes n false → field_seen (standing n) false ≡ (true, Stage.Gathers g, 63, wrong) →
      Sometime (Offers g wrong) s (stranger reading)
  tries g n split seen = comes (Offers g wrong) n false split (offers g n split seen)

  -- the places where the fields end, and at last FFh
  pub stranger_tried : Tried wrong s (stranger reading)
  unfolding denied_all denied slot_of after_short memory.slot_of memory.stage_slot memory.on_line gathered_bit judged copies as_held to_the_end
      after_reading after_controlling heard_bit heard_whole address_heard command_stage confirmed status_byte select.slot_of select.slot_at
      select.command_bit select.rom_command select.is_chosen select.mark_in select.speed_in select.mode_of bits_of bit_of shift_in flat_map
      bit flag_at
  stranger_tried =
      let converts = stands 504 true refl in
      record {
        copy = comes (OffersCopy wrong) 105 false refl (offers Guarded.Copying 105 refl refl, rw (stands 105 false refl).1);
        read_memory = tries Guarded.Reading 203 refl refl;
        clear = tries (Guarded.Controlling Control.Clear) 292 refl refl;
        start = tries (Guarded.Controlling Control.Start) 382 refl refl;
        stop =
            comes (λ u bit. Offers (Guarded.Controlling Control.Stop) wrong u bit × Overdriven u) 471 false refl
            (offers (Guarded.Controlling Control.Stop) 471 refl refl, rw (stands 471 false refl).1);
        convert = comes Converted 504 true refl (rw converts.1 (forces_seen (standing 504) true refl), converts.0.1);
      }

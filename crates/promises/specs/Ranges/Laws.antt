-- The ranges are those that the crates test, and every event keeps a fit state. Assumes nothing.
use Rattle.std.specs.Prelude.{Bool, true, false, List, [], ◌∷◌, ◌≡◌, refl, ℕ, ◌/◌, ◌%◌, ◌^◌, ◌<◌, eqb}
use Rattle.std.proofs.Math.Bool.{not-eq-not}
use Rattle.std.proofs.Math.Logic.{dite}
use Rattle.std.proofs.Common.{sym, ap, ◌∙◌, mod-eq_of_lt, arith, eq-eqb, ne_eqb}
use Rattle.std.proofs.Math.Decide.{ℕ_discrete}
use Rattle.bits.specs.Bits.{bits_of, number_of}
use Rattle.bits.specs.Bits.Laws.{number_bits, bits_mod}
use Rattle.bus.specs.declared.Bus.{Bus}
use Rattle.bus.specs.declared.Control.{Control}
use Rattle.bus.specs.declared.Guarded.{Guarded}
use Rattle.bus.specs.declared.Hearing.{Hearing}
use Rattle.bus.specs.declared.Held.{Held}
use Rattle.bus.specs.declared.Next.{Next}
use Rattle.bus.specs.declared.Sending.{Sending}
use Rattle.bus.specs.declared.Stage.{Stage}
use Rattle.conversion.specs.Conversion.Whole.{Whole}
use Rattle.crc.specs.Crc.{crc8_of, good_crc}
use Rattle.crc.specs.Crc.Laws.{crc8_lt}
use Rattle.exchange.specs.Exchange.Pad.{PaddedIn}
use Rattle.field.specs.Field.{guarded}
use Rattle.memory.specs.Memory.Pad.{Heard}
use Rattle.memory.specs.Range.{from_offset, hearing_in_range, guarded_in_range, crc_in_range, sending_in_range, stage_in_range, memory_in_range}
use Rattle.mission.specs.Mission.{counters_in_range}
use Rattle.record.specs.declared.Tag.{Tag}
use Rattle.record.specs.Record.{good_number, good_code, tag_in_range}
use Rattle.select.specs.declared.Choosing.{Choosing}
use Rattle.select.specs.Select.{choosing_in_range}
use Rattle.promises.specs.Ranges.{same, choosing_fits, hearing_fits, field_fits, crc_fits, sending_fits, stage_fits, in_range, Fit}
use Rattle.promises.specs.Runs.{State, Event, after, run, Reached}
use Rattle.promises.specs.Runs.Laws.{Sound, sound_after, reached_sound}
use Rattle.promises.specs.Runs.Whole.{whole_after, padded_after, reached_whole, reached_padded}
use Rattle.promises.specs.Words.{low, crc8}
use Rattle.promises.specs.Words.Laws.{low_is, crc8_bits}

-- ---- number and code

-- bits are the same as themselves, and two that are found the same are one
pub same_refl : (bits : List Bool) → same bits bits ≡ true
same_refl [] = refl
same_refl (true ∷ bits) = same_refl bits
same_refl (false ∷ bits) = same_refl bits

pub same_eq : (cs bs : List Bool) → same cs bs ≡ true → cs ≡ bs
same_eq [] [] e = refl
same_eq [] (b ∷ bs) e = cc
same_eq (c ∷ cs) [] e = cc
same_eq (true ∷ cs) (true ∷ bs) e = ap (λ (l : List Bool). true ∷ l) (same_eq cs bs e)
same_eq (true ∷ cs) (false ∷ bs) e = cc
same_eq (false ∷ cs) (true ∷ bs) e = cc
same_eq (false ∷ cs) (false ∷ bs) e = ap (λ (l : List Bool). false ∷ l) (same_eq cs bs e)

-- bits of two numbers are the same exactly if the numbers are, so far
same_bits : (w b : ℕ) {a : ℕ} → a < 2 ^ w → same (bits_of w a) (bits_of w b) ≡ eqb a (b % 2 ^ w)
same_bits w b {a} small =
    dite (ℕ_discrete a (b % 2 ^ w)) (λ e. rw (eq-eqb a (b % 2 ^ w) e, ← bits_mod w b, ← e) (same_refl (bits_of w a)))
    (λ ne. rw (ne_eqb a (b % 2 ^ w) ne)
    ((not-eq-not {b = false}).0 (λ e. ne
    (sym (mod-eq_of_lt small) ∙ sym (number_bits w a) ∙ ap number_of (same_eq (bits_of w a) (bits_of w b) e) ∙ number_bits w b))))

-- the eighth byte is the CRC-8 of the seven before it
pub crc8_is : (number : ℕ) → same (crc8 (low 56 number)) (low 8 (number / 2 ^ 56)) ≡ good_crc number
unfolding good_crc crc8_of
crc8_is number =
    rw (low_is 56 number, crc8_bits (bits_of 56 number), low_is 8 (crc8_of number), low_is 8 (number / 2 ^ 56))
    (same_bits 8 (number / 2 ^ 56) (crc8_lt number))

-- ---- the record

-- part by part
choosing_is : (choosing : Choosing) → choosing_fits choosing ≡ choosing_in_range choosing
unfolding choosing_fits choosing_in_range
choosing_is Choosing.Silent = refl
choosing_is (Choosing.Command heard count) = refl
choosing_is (Choosing.Reading at) = refl
choosing_is (Choosing.Matching fast at) = refl
choosing_is (Choosing.Giving at) = refl
choosing_is (Choosing.Complementing at) = refl
choosing_is (Choosing.Awaiting at) = refl
choosing_is Choosing.Selected = refl

hearing_is : (h : Hearing) (held : Held) → hearing_fits h held ≡ hearing_in_range h held
unfolding hearing_fits hearing_in_range from_offset
hearing_is (Hearing.Data place) held = refl
hearing_is Hearing.Command held = refl
hearing_is (Hearing.Low a) held = refl
hearing_is (Hearing.High a) held = refl
hearing_is Hearing.Status held = refl
hearing_is (Hearing.Confirm control) held = refl

field_is : (g : Guarded) → field_fits g ≡ guarded_in_range g
unfolding field_fits guarded_in_range guarded
field_is Guarded.Reading = refl
field_is Guarded.Copying = refl
field_is (Guarded.Controlling Control.Clear) = refl
field_is (Guarded.Controlling Control.Start) = refl
field_is (Guarded.Controlling Control.Stop) = refl
field_is (Guarded.Controlling Control.Convert) = refl

crc_is : (next : Next) (address : ℕ) → crc_fits next address ≡ crc_in_range next address
unfolding crc_fits crc_in_range
crc_is Next.Nothing address = refl
crc_is Next.Page address = refl

sending_is : (sending : Sending) (held : Held) (bus : Bus) → sending_fits sending held bus.address ≡ sending_in_range sending held bus
unfolding sending_fits sending_in_range from_offset
sending_is Sending.PadLow held bus = refl
sending_is Sending.PadHigh held bus = refl
sending_is Sending.PadStatus held bus = refl
sending_is (Sending.PadData place) held bus = refl
sending_is Sending.Memory held bus = refl
sending_is (Sending.CrcLow next) held bus = crc_is next bus.address
sending_is (Sending.CrcHigh next) held bus = crc_is next bus.address

stage_is : (stage : Stage) (held : Held) (bus : Bus) → stage_fits stage held bus ≡ stage_in_range stage held bus
unfolding stage_fits stage_in_range
stage_is Stage.Over held bus = refl
stage_is (Stage.Hears h) held bus = rw (hearing_is h held)
stage_is (Stage.Gathers g) held bus = rw (field_is g)
stage_is (Stage.Sends sending) held bus = rw (sending_is sending held bus)
stage_is Stage.Copied held bus = refl

-- the ranges of a record
pub range_is : (tag : Tag) → in_range tag ≡ tag_in_range tag
unfolding in_range tag_in_range good_number good_code counters_in_range memory_in_range from_offset
range_is tag =
    rw (crc8_is tag.exchange.number, choosing_is tag.exchange.select.choosing, stage_is tag.exchange.bus.stage tag.exchange.held tag.exchange.bus)

-- ---- states

-- what is heard of a byte, said in two ways
heard_of : (stage : Stage) (byte : ℕ) → ((h : Hearing) → stage ≡ Stage.Hears h → byte < 256) → Heard stage byte
heard_of (Stage.Hears h) byte small = small h refl
heard_of Stage.Over byte small = tt
heard_of (Stage.Gathers g) byte small = tt
heard_of (Stage.Sends sending) byte small = tt
heard_of Stage.Copied byte small = tt

heard_in : (stage : Stage) (byte : ℕ) → Heard stage byte → (h : Hearing) → stage ≡ Stage.Hears h → byte < 256
heard_in (Stage.Hears g) byte small h e = small
heard_in Stage.Over byte small h e = let no : ◌≡◌ {A = ℕ} 0 1 = cc in omega arith
heard_in (Stage.Gathers g) byte small h e = let no : ◌≡◌ {A = ℕ} 0 1 = cc in omega arith
heard_in (Stage.Sends sending) byte small h e = let no : ◌≡◌ {A = ℕ} 0 1 = cc in omega arith
heard_in Stage.Copied byte small h e = let no : ◌≡◌ {A = ℕ} 0 1 = cc in omega arith

-- a fit state is sound, its image whole and its scratchpad full; and such a state is fit
pub fit_sound : {s : State} → Fit s → Sound s
fit_sound {s} fit = record { size = fit.size; ranges = sym (range_is s.tag) ∙ fit.ranges }

pub fit_whole : {s : State} → Fit s → Whole s.image
fit_whole fit = record { size = fit.size; bytes = fit.bytes }

pub fit_padded : {s : State} → Fit s → PaddedIn s.tag.exchange
fit_padded {s} fit =
    record {
      size = fit.pad;
      bytes = fit.pad_bytes_lem;
      address = fit.address;
      heard = heard_of s.tag.exchange.bus.stage s.tag.exchange.bus.byte fit.heard;
    }

pub to_fit : {s : State} → Sound s → Whole s.image → PaddedIn s.tag.exchange → Fit s
to_fit {s} sound whole padded =
    record {
      size = sound.size;
      ranges = range_is s.tag ∙ sound.ranges;
      bytes = whole.bytes;
      pad = padded.size;
      pad_bytes_lem = padded.bytes;
      address = padded.address;
      heard = heard_in s.tag.exchange.bus.stage s.tag.exchange.bus.byte padded.heard;
    }

-- every event keeps a fit state, so does every run, and every state reached from a new tag is one
pub fit_after : {s : State} → Fit s → (e : Event) → Fit (after s e)
fit_after {s} fit e =
    let sound = fit_sound fit in
    let padded = fit_padded fit in
    to_fit (sound_after e sound) (whole_after sound padded (fit_whole fit) e) (padded_after sound padded e)

pub fit_run : {s : State} → Fit s → (es : List Event) → Fit (run s es).state
unfolding run
fit_run fit [] = fit
fit_run {s} fit (e ∷ es) = fit_run {s = after s e} (fit_after fit e) es

pub reached_fit : {s : State} → Reached s → Fit s
reached_fit reached = to_fit (reached_sound reached) (reached_whole reached) (reached_padded reached)

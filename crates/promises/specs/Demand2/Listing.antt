-- What the dock lists of an image that holds a mission's entries. Assumes nothing.
use Rattle.answer.specs.declared.Refusal.{Refusal}
use Rattle.std.specs.Prelude.{◌≡◌, refl, Bool, true, false, not, ◌&&◌, ◌||◌, List, ℕ, ◌+◌, ◌-◌, ◌≤◌, ◌<◌, min, eqb, ltb, ℤ, pos, length, get_or, if◌then◌else◌, Ok, Err}
use Rattle.std.proofs.Math.Path.{sym}
use Rattle.std.proofs.Common.{ap, ◌∙◌, arith, eqb-true, le-ltb}
use Rattle.std.proofs.lemmas.Bool.{false≢true, eqb-false}
use Rattle.bits.specs.Bits.{digit, bit_of}
use Rattle.dock.specs.Dumped.{Agree}
use Rattle.dock.specs.Entries
use Rattle.dock.specs.Listing.{is_known, is_overfull, is_unflagged, cannot_be, listed, refused, listing_of, temperatures_of}
use Rattle.dock.specs.Listing.Laws.{can_be}
use Rattle.dock.specs.Listing.Memory.{memory_listing, memory_temperature, memory_past, memory_few, memory_untouched}
use Rattle.dock.specs.Registers as Dock
use Rattle.dump.specs.Check.{check_of}
use Rattle.dump.specs.Dump.{dump_of, dump_accepted}
use Rattle.dump.specs.Lines.{dumped_at}
use Rattle.image.specs.Fields.{flag_at}
use Rattle.image.specs.Registers
use Rattle.image.specs.Sent.{sent_at}
use Rattle.image.specs.Sent.Laws.{sent_code}
use Rattle.conversion.specs.Conversion as conversion
use Rattle.conversion.specs.Conversion.Settings.{places_same}
use Rattle.record.specs.Record.{good_code}
use Rattle.promises.specs.Demand2.Dumped.{six_bytes, ehss_sent, etl_sent, ro_sent, suta_sent, tlf_sent, thf_sent, memclr_sent, places_sent, reading_sent, samples_sent, stamp_sent, rate_sent, dump_agrees}
use Rattle.promises.specs.Demand2.Holds.{Listed}
use Rattle.promises.specs.Demand2.AtStart.{rate_of_lem, most_of, places_pos}
use Rattle.promises.specs.History
use Rattle.promises.specs.History.{Conversion}
use Rattle.promises.specs.History.Laws.{is_none, none_length}
use Rattle.promises.specs.Sentences.Course.{settings_of, none}
use Rattle.promises.specs.Words.{bit}

-- ---- counts, over numbers and tests: b is SUTA, f a flag, i whether there is no entry, m the samples, n the entries

entry_count : (b f i : Bool) (n m : ℕ) → (b ≡ true → f ≡ not i) → eqb n 0 ≡ i → m ≡ n - digit b → (if b then (if f then m + 1 else 0) else m) ≡ n
entry_count true f true n m e z c = rw (e refl) (omega (arith, eqb-true n 0 z))
entry_count true f false n m e z c = let some = eqb-false n 0 z in rw (e refl) (omega arith)
entry_count false f i n m e z c = omega arith

flag_count : (b f i : Bool) (n m : ℕ) → (b ≡ true → f ≡ not i) → eqb n 0 ≡ i → m ≡ n - digit b → (b && (not f && ltb 0 m)) ≡ false
flag_count true f true n m e z c = rw (e refl, le-ltb 0 m (omega (arith, eqb-true n 0 z)))
flag_count true f false n m e z c = rw (e refl)
flag_count false f i n m e z c = refl

full_count : (r b : Bool) (p n : ℕ) → n ≤ (if r then 0xFFFFFF + digit b else min p (0xFFFFFF + digit b)) → (not r && ltb p n) ≡ false
full_count true b p n le = refl
full_count false b p n le = rw (le-ltb p n (omega arith))

-- ---- a good code is a byte

pub code_small : (code : ℕ) → good_code code ≡ true → code < 256
unfolding good_code
code_small code good = by_tests (eqb code 0x40) (eqb code 0x60) refl refl good
  where
    by_tests : (l t : Bool) → eqb code 0x40 ≡ l → eqb code 0x60 ≡ t → (l || t) ≡ true → code < 256
    by_tests true t e f g = omega (arith, eqb-true code 0x40 e)
    by_tests false true e f g = omega (arith, eqb-true code 0x60 f)
    by_tests false false e f g = absurd (false≢true g)

-- ---- the image, as the dock reads it

module _ {start : List ℕ} {es : List Conversion} {image : List ℕ} (p : Listed start es image) (code : ℕ) where
  flagged_read : Registers.suta start ≡ true → Entries.is_flagged (sent_at image code) ≡ not (is_none es)
  unfolding Entries.is_flagged
  flagged_read s = rw (thf_sent image code, tlf_sent image code) (p.flags s)

  suta_read : Dock.suta (sent_at image code) ≡ Registers.suta start
  suta_read = suta_sent image code ∙ p.settings.suta

  samples_read : Dock.mission_samples (sent_at image code) ≡ length es - digit (Registers.suta start)
  samples_read = samples_sent image code p.whole ∙ p.samples

  entries_read : Entries.entries (sent_at image code) ≡ length es
  unfolding Entries.entries
  entries_read =
      rw suta_read
      (entry_count (Registers.suta start) (Entries.is_flagged (sent_at image code)) (is_none es) (length es) (Dock.mission_samples (sent_at image code))
      flagged_read
      (sym (none_length es))
      samples_read)

  places_read : Entries.places (sent_at image code) ≡ conversion.places start
  places_read = places_sent image code ∙ places_same p.settings

  held_read : Entries.held (sent_at image code) ≡ min (length es) (conversion.places start)
  unfolding Entries.held
  held_read = rw (entries_read, places_read)

  first_read : Entries.first (sent_at image code) ≡ length es - min (length es) (conversion.places start)
  unfolding Entries.first
  first_read = rw (entries_read, held_read)

  -- ---- it can be

  module _ (most : length es ≤ History.most (settings_of start)) (good : good_code code ≡ true) (rated : Registers.rate start ≡ 0 → ⊥)
      (logging : Registers.etl start ≡ true) where
    can : cannot_be (sent_at image code) ≡ false
    unfolding is_known is_overfull is_unflagged good_code
    can =
        can_be (sent_at image code)
        (rw (sent_code image code) good)
        (λ e. rated (sym (rate_sent image code p.whole ∙ p.settings.rate) ∙ e))
        (etl_sent image code ∙ p.settings.etl ∙ logging)
        (rw (ro_sent image code ∙ p.settings.ro, places_read, entries_read)
        (full_count (Registers.ro start) (Registers.suta start) (conversion.places start) (length es) (rw (most_of start) at most)))
        (rw suta_read
        (flag_count (Registers.suta start) (Entries.is_flagged (sent_at image code)) (is_none es) (length es) (Dock.mission_samples (sent_at image code))
        flagged_read
        (sym (none_length es))
        samples_read))

    -- ---- the listing

    lines : check_of (dump_of image code) ≡ Ok tt
    lines = dump_accepted image code p.whole.bytes (code_small code good)

    same : Agree (dumped_at (dump_of image code)) (sent_at image code)
    same = dump_agrees image code p.whole (code_small code good)

    kept : Dock.memclr (sent_at image code) ≡ false
    kept = memclr_sent image code ∙ p.memclr

    -- enough places
    module _ (lent : List ℤ) (enough : min (length es) (conversion.places start) ≤ length lent) where
      fits : Entries.held (sent_at image code) ≤ length lent
      fits = rw held_read enough

      pub listing_read : listing_of (dump_of image code) (length lent)
          ≡ record {
            answer = Ok tt;
            code = code;
            held = min (length es) (conversion.places start);
            first = length es - min (length es) (conversion.places start);
            stamp = six_bytes (History.stamp (settings_of start) es);
            rate = (settings_of start).rate;
            ehss = (settings_of start).ehss;
            suta = (settings_of start).suta;
          }
      unfolding listed settings_of bit flag_at bit_of
      listing_read =
          memory_listing (dump_of image code) (sent_at image code) lines same kept can (length lent) fits
          ∙ rw (
            sent_code image code,
            held_read,
            first_read,
            stamp_sent image code p.whole,
            p.stamp,
            rate_sent image code p.whole ∙ p.settings.rate ∙ sym (rate_of_lem start),
            ehss_sent image code ∙ p.settings.ehss,
            suta_read,
          )

      pub temperature_read : (i : ℕ) → i < min (length es) (conversion.places start)
          → get_or (temperatures_of (dump_of image code) lent) i (pos 0)
          ≡ (let k = length es - min (length es) (conversion.places start) + i in
          Entries.temperature_of code (History.kept (settings_of start) k (get_or es k none).reading))
      temperature_read i h =
          let k = length es - min (length es) (conversion.places start) + i in
          memory_temperature (dump_of image code) (sent_at image code) lines same kept can lent fits i (rw held_read h)
          ∙ rw (sent_code image code, first_read, reading_sent image code k, places_same p.settings)
          (ap (Entries.temperature_of code) (p.entries k (omega arith) (omega (arith, places_pos start))))

      pub past_read : (i : ℕ) → min (length es) (conversion.places start) ≤ i
          → get_or (temperatures_of (dump_of image code) lent) i (pos 0) ≡ get_or lent i (pos 0)
      past_read i h = memory_past (dump_of image code) (sent_at image code) lines same kept can lent fits i (rw held_read h)

    -- too few places
    module _ (lent : List ℤ) (few : length lent < min (length es) (conversion.places start)) where
      pub few_read : (listing_of (dump_of image code) (length lent) ≡ refused (Err Refusal.Places)) × (temperatures_of (dump_of image code) lent ≡ lent)
      few_read =
          let less : length lent < Entries.held (sent_at image code) = rw held_read few in (
            memory_few (dump_of image code) (sent_at image code) lines same kept can (length lent) less,
            memory_untouched (dump_of image code) (sent_at image code) lines same kept can lent less,
          )

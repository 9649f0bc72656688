-- The library's calls are the tag's and the dock's, through a record's bytes. Assumes nothing.
use Rattle.std.specs.Prelude.{Bool, ◌&&◌, List, ◌∷◌, ◌++◌, map, ◌≢◌, ◌≡◌, ℤ, pos, negsuc, get_or, replicate, take, if◌then◌else◌, Err}
use Rattle.std.proofs.Math.Bool.{true, false, not}
use Rattle.std.proofs.Common.{append_assoc, sym, subst, ◌∙◌, arith}
use Rattle.std.proofs.Math.Logic.{dite}
use Rattle.std.proofs.Math.Path.{refl, ap}
use Prim.Native.Nat.{ℕ, suc, ◌+◌, ◌*◌, ◌≤◌, ◌<◌}
use Rattle.std.proofs.Math.Decide.{ℕ_discrete, dec_le}
use borrow.Author.Tests.{eq-eqb, ne_eqb, lt-ltb, le-ltb}
use Rattle.std.proofs.Math.Dec.{eqb, ltb}
use Rattle.std.proofs.Math.ListN.{length, drop, length-append}
use Rattle.std.proofs.Math.Seq.{sets, take-append_seam, drop-append_seam}
use Rattle.std.proofs.lemmas.List.Edits.{sets-eq}
use Rattle.answer.specs.Answer.{answer_number}
use Rattle.answer.specs.declared.Refusal.{Refusal}
use Rattle.bagtag.proofs.bagtag_event.Reads as bagtag_event
use Rattle.bagtag.proofs.bagtag_events.Reads as bagtag_events
use Rattle.bagtag.proofs.bagtag_new.Reads as bagtag_new
use Rattle.bagtag.specs.Bagtag.{New, Event, Events, Listed, new_call, no_event, stepped, event_call, done, events_call, counts_of, head_of, HeadFits, room_number, list_call}
use Rattle.bagtag.specs.Bagtag.Laws.{new_made, new_image_lem, new_lent, event_image, event_lent, event_step, events_room, events_image, events_lent, events_done, room_any, list_short, list_accepted, list_refused}
use Rattle.batch.specs.Batch.{listed}
use Rattle.batch.specs.Batch.Laws as laws
use Rattle.bits.specs.Bits.{digit}
use Rattle.bits.specs.Bits.Laws.{digit_same}
use Rattle.bits.specs.Bytes.{bytes_blank}
use Rattle.dock.specs.declared.Listing.{Listing}
use Rattle.dock.specs.Entries.{period_of}
use Rattle.dock.specs.Listing.{answer_of, is_accepted, listing_of, temperatures_of, seconds_at}
use Rattle.dock.specs.Listing.Laws.{answer_listing}
use Rattle.image.specs.Fields.{word_at}
use Rattle.packing.specs.Packing.{byte, Fits, AllFit, bytes_of, fields_of, singles, pairs, eights, words_of, low_first, packed, is_packed, unpacked}
use Rattle.packing.specs.Packing.Fields.{offset_of, field_back, word_past, widths_of, length_fields}
use Rattle.packing.specs.Packing.Laws.{packed_bytes, unpacked_packed, packed_is, own_of, packed_unpacked}
use Rattle.record.specs.declared.Tag.{Tag}
use Rattle.record.specs.Record.{Outcome}
use Rattle.tag.specs.Tag.{new_tag, step}
use Rattle.text.specs.Text.{twos_complement}
use Rattle.promises.specs.Batches.{events_of, asked_number, first_of}
use Rattle.promises.specs.Batches.Words.{asked_none, list_leaves}
use Rattle.promises.specs.Batches.Proof.{batches}
use Rattle.promises.specs.Calls.{Meaning, meaning_of}
use Rattle.promises.specs.Calls.Proof.{reached_step, step_taken_is, step_refused_is, leaves_taken}
use Rattle.promises.specs.Demand1.{demand1}
use Rattle.promises.specs.Library.Record.{fits_of, holds_of, laid_out, exactly_packed, sends_in_lem}
use Rattle.promises.specs.Library.{digit_of, sends_in, Bytes, new_number, event_number, events_number, dumps_number, HeadLaid, Keeps, KeptTag, FromNew, Chain, Library}
use Rattle.promises.specs.Ranges.{is_rom, is_configuration, in_range, Fit}
use Rattle.promises.specs.Runs as runs
use Rattle.promises.specs.Runs.{State, leaves, after, line_bit, run, Reached}
use Rattle.promises.specs.Runs.Laws.{reached_sound, run_append}
use Rattle.promises.specs.Sentences.Dump.{dump_number}
use Rattle.promises.specs.Sentences.Dump.Proof.{dump}
use Rattle.promises.specs.Sentences.Listing.{signed}
use Rattle.promises.specs.Sentences.Events as sentences
use Rattle.promises.specs.Sentences.Events.{number_in, own_number}
use Rattle.promises.specs.Sentences.Events.Slots.{slot_spares}
use Rattle.promises.specs.Sentences.Events.Proof.{events, number_accepts}

-- ---- a new tag

-- "packs the record of all zeros": the version, and then zeros
pub zeros_packed : packed (sentences.clear_tag 0 0) ≡ 1 ∷ replicate 79 0
unfolding packed fields_of singles words_of pairs eights bytes_of low_first
zeros_packed = refl

-- what a call leaves that has this number
NewIs : List ℕ → List ℕ → New → ℕ → Type 0
NewIs image lent call n =
    (call.number ≡ n)
    × (n ≢ 0 → (call.image ≡ image) × (call.lent ≡ (if eqb (length lent) 80 then 1 ∷ replicate 79 0 else lent)))

new_is : (image lent : List ℕ) (number code : ℕ) → NewIs image lent (new_call image lent number code) (new_number image lent number code)
unfolding NewIs new_number sentences.new_number
new_is image lent number code =
    dite (ℕ_discrete (length lent) 80)
    (λ size.
    let d = events.new image number code in
    rw (new_made image lent number code size, eq-eqb (length lent) 80 size)
    (d.answer, λ h. let left = d.refusal h in (left.2, ap packed left.1 ∙ zeros_packed)))
    (λ other. dite (ℕ_discrete (length image) 8832)
    (λ whole. rw (new_lent image lent number code other whole, eq-eqb (length image) 8832 whole, ne_eqb (length lent) 80 other)
    (refl, λ h. (refl, refl)))
    (λ wrong. rw (new_image_lem image lent number code other wrong, ne_eqb (length image) 8832 wrong, ne_eqb (length lent) 80 other)
    (refl, λ h. (refl, refl))))

-- ---- an event

EventIs : List ℕ → List ℕ → Event → ℕ → Type 0
EventIs image lent call n = (call.number ≡ n) × (n ≢ 0 → (call.image ≡ image) × (call.lent ≡ lent) × (call.line ≡ 1))

module _ (image lent : List ℕ) (code reading : ℕ) (bytes : Bytes lent) where
  stepped_is : length image ≡ 8832 → is_packed lent ≡ true →
      EventIs image lent (stepped (step image (unpacked lent) code reading)) (if not (in_range (unpacked lent)) then 6 else own_number code reading)
  unfolding EventIs sentences.event_number
  stepped_is whole good =
      let d = events.event image (unpacked lent) code reading in
      let number : sentences.event_number image (unpacked lent) code reading
      ≡ (if not (in_range (unpacked lent)) then 6 else own_number code reading) = rw (eq-eqb (length image) 8832 whole) in (
        d.answer ∙ number,
        λ h.
            let left = d.refusal (λ none. h (sym number ∙ none)) in
            (left.2, ap packed left.1 ∙ packed_unpacked lent bytes (own_of lent good), ap digit left.0),
      )

  event_is : EventIs image lent (event_call image lent code reading) (event_number image lent code reading)
  unfolding EventIs event_number
  event_is =
      dite (ℕ_discrete (length image) 8832)
      (λ whole. by whole (is_packed lent) refl)
      (λ other. rw (event_image image lent code reading other, ne_eqb (length image) 8832 other) (refl, λ h. (refl, refl, refl)))
    where
      by : length image ≡ 8832 → (b : Bool) → is_packed lent ≡ b →
          EventIs image lent (event_call image lent code reading)
          (if not (eqb (length image) 8832) then 3 else if not (is_packed lent && in_range (unpacked lent)) then 6 else own_number code reading)
      by whole true good =
          rw (event_step image lent code reading whole good, eq-eqb (length image) 8832 whole, good) (stepped_is whole good)
      by whole false bad =
          rw (event_lent image lent code reading whole bad, eq-eqb (length image) 8832 whole, bad) (refl, λ h. (refl, refl, refl))

-- ---- a list of events

ListIs : List ℕ → List ℕ → List ℕ → Events → ℕ → Type 0
ListIs image lent replies call n =
    (call.number ≡ n)
    × (n ≢ 0 → n ≢ 1 → (call.image ≡ image) × (call.lent ≡ lent) × (call.replies ≡ replies) × (call.done ≡ 0))

module _ (image lent words replies : List ℕ) (bytes : Bytes lent) where
  -- the number of a record that is one, by its ranges
  ranged : Bool → ℕ
  ranged fine = if not fine then 6 else if eqb (length (events_of words)) (length words) then 0 else 1

  done_is : length words ≤ length replies → length image ≡ 8832 → is_packed lent ≡ true →
      ListIs image lent replies (done (listed image (unpacked lent) words replies)) (ranged (in_range (unpacked lent)))
  unfolding ListIs ranged asked_number first_of
  done_is room whole good =
      let tag = unpacked lent in
      let d = list_leaves image tag words replies in
      let asked : asked_number image tag words replies ≡ (if not (in_range tag) then 6 else 0) =
      rw (le-ltb (length replies) (length words) room, eq-eqb (length image) 8832 whole) in
      by (in_range tag) asked d.answer
    where
      all : ℕ
      all = if eqb (length (events_of words)) (length words) then 0 else 1

      by : (fine : Bool) → asked_number image (unpacked lent) words replies ≡ (if not fine then 6 else 0) →
          number_in (listed image (unpacked lent) words replies).batch.answer ≡ first_of (asked_number image (unpacked lent) words replies) all →
          ListIs image lent replies (done (listed image (unpacked lent) words replies)) (ranged fine)
      by true asked number = (number ∙ rw asked, λ some more. absurd (none (eqb (length (events_of words)) (length words)) some more))
        where
          none : (b : Bool) → ◌≢◌ {A = ℕ} (if b then 0 else 1) 0 → ◌≢◌ {A = ℕ} (if b then 0 else 1) 1 → ⊥
          none true some more = some refl
          none false some more = more refl
      by false asked number =
          let left = (list_leaves image (unpacked lent) words replies).refused (λ none. absurd (omega (arith, asked, none))) in
          (number ∙ rw asked, λ some more. (left.2, ap packed left.0 ∙ packed_unpacked lent bytes (own_of lent good), left.3, left.1))

  list_is : ListIs image lent replies (events_call image lent words replies) (events_number image lent words replies)
  unfolding ListIs ranged events_number
  list_is =
      dite (dec_le (length words) (length replies))
      (λ room. dite (ℕ_discrete (length image) 8832)
      (λ whole. by room whole (is_packed lent) refl)
      (λ other. rw (
        events_image image lent words replies room other,
        le-ltb (length replies) (length words) room,
        ne_eqb (length image) 8832 other,
      ) (refl, λ some more. (refl, refl, refl, refl))))
      (λ full.
      let few : length replies < length words = omega (arith, full) in
      rw (events_room image lent words replies few, lt-ltb (length replies) (length words) few)
      (refl, λ some more. (refl, refl, refl, refl)))
    where
      by : length words ≤ length replies → length image ≡ 8832 → (b : Bool) → is_packed lent ≡ b →
          ListIs image lent replies (events_call image lent words replies)
          (if ltb (length replies) (length words) then 17
          else if not (eqb (length image) 8832) then 3
          else if not (is_packed lent && in_range (unpacked lent)) then 6
          else if eqb (length (events_of words)) (length words) then 0
          else 1)
      by room whole true good =
          rw (
            events_done image lent words replies room whole good,
            le-ltb (length replies) (length words) room,
            eq-eqb (length image) 8832 whole,
            good,
          ) (done_is room whole good)
      by room whole false bad =
          rw (
            events_lent image lent words replies room whole bad,
            le-ltb (length replies) (length words) room,
            eq-eqb (length image) 8832 whole,
            bad,
          ) (refl, λ some more. (refl, refl, refl, refl))

-- ---- the bytes of any record

-- an image of another length is refused by both
event_any : (image : List ℕ) (tag : Tag) (code reading : ℕ) → Fits tag →
    event_call image (packed tag) code reading ≡ stepped (step image tag code reading)
unfolding step
event_any image tag code reading fits =
    dite (ℕ_discrete (length image) 8832)
    (λ whole. event_step image (packed tag) code reading whole (packed_is tag fits) ∙ ap (λ t. stepped (step image t code reading)) (unpacked_packed tag fits))
    (λ other. event_image image (packed tag) code reading other ∙ rw (ne_eqb (length image) 8832 other))

events_any : (image : List ℕ) (tag : Tag) (words replies : List ℕ) → Fits tag →
    events_call image (packed tag) words replies ≡ done (listed image tag words replies)
unfolding listed
events_any image tag words replies fits =
    dite (dec_le (length words) (length replies))
    (λ room. dite (ℕ_discrete (length image) 8832)
    (λ whole.
    events_done image (packed tag) words replies room whole (packed_is tag fits)
    ∙ ap (λ t. done (listed image t words replies)) (unpacked_packed tag fits))
    (λ other. events_image image (packed tag) words replies room other
    ∙ rw (le-ltb (length replies) (length words) room, ne_eqb (length image) 8832 other)))
    (λ full.
    let few : length replies < length words = omega (arith, full) in
    events_room image (packed tag) words replies few ∙ rw (lt-ltb (length replies) (length words) few))

zeros_fit : Fits (sentences.clear_tag 0 0)
unfolding fields_of singles words_of pairs eights AllFit
zeros_fit =
    fits_of (sentences.clear_tag 0 0)
    (record {
      code = omega arith;
      minute = omega arith;
      choosing = bytes_blank 3;
      stage = bytes_blank 3;
      byte = omega arith;
      bits = omega arith;
      status = omega arith;
      ending = omega arith;
      reading = omega arith;
      ta = omega arith;
      crc = omega arith;
      address = omega arith;
      number = omega arith;
      wait = omega arith;
      field = omega arith;
      pad = refl;
      pad_bytes_lem = bytes_blank 32;
    })

digit_bit : (b : Bool) → digit b < 2
digit_bit true = omega arith
digit_bit false = omega arith

line_bit_lem : (image lent : List ℕ) (code reading : ℕ) → (event_call image lent code reading).line < 2
unfolding event_call
line_bit_lem image lent code reading = by (eqb (length image) 8832) (is_packed lent)
  where
    by : (whole good : Bool) →
        (if not whole then no_event (Err Refusal.ImageLength) image lent
        else if not good then no_event (Err Refusal.RecordRange) image lent
        else stepped (step image (unpacked lent) code reading)).line < 2
    by false good = omega arith
    by true false = omega arith
    by true true = digit_bit (step image (unpacked lent) code reading).answered.line

-- ---- a tag that is kept

-- its bytes are a record's, of the tag
kept_good : {image lent : List ℕ} {s : State} → Keeps image lent s → is_packed lent ≡ true
kept_good {s = s} k = rw k.lent_is (packed_is s.tag (fits_of s.tag k.holds))

kept_tag : {image lent : List ℕ} {s : State} → Keeps image lent s → unpacked lent ≡ s.tag
kept_tag {s = s} k = rw k.lent_is (unpacked_packed s.tag (fits_of s.tag k.holds))

kept_whole : {image lent : List ℕ} {s : State} → Keeps image lent s → length image ≡ 8832
kept_whole k = rw k.image_is (reached_sound k.reached).size

module _ {image lent : List ℕ} {s : State} (k : Keeps image lent s) where
  event_kept : (code reading : ℕ) → event_call image lent code reading ≡ stepped (step s.image s.tag code reading)
  event_kept code reading =
      event_step image lent code reading (kept_whole k) (kept_good k)
      ∙ rw (kept_tag k, k.image_is)

  list_kept : (words replies : List ℕ) → length words ≤ length replies →
      events_call image lent words replies ≡ done (listed s.image s.tag words replies)
  list_kept words replies room =
      events_done image lent words replies room (kept_whole k) (kept_good k)
      ∙ rw (kept_tag k, k.image_is)

own_not_6 : (code reading : ℕ) → own_number code reading ≢ 6
unfolding own_number
own_not_6 code reading = by (ltb 4 code) (eqb code 3 && ltb 2047 reading)
  where
    by : (a b : Bool) → ◌≢◌ {A = ℕ} (if a then 1 else if b then 2 else 0) 6
    by true b e = omega (arith, e)
    by false true e = omega (arith, e)
    by false false e = omega (arith, e)

list_not_six : (few all : Bool) → ◌≢◌ {A = ℕ} (if few then 17 else if all then 0 else 1) 6
list_not_six true all e = omega (arith, e)
list_not_six false true e = omega (arith, e)
list_not_six false false e = omega (arith, e)

-- ---- a listing

-- the dump's own number
number_is : (text : List ℕ) (places : List ℤ) → answer_number (answer_of text (length places)) ≡ dump_number text (length places)
number_is text places = ap answer_number (sym (answer_listing text (length places))) ∙ dump.number text places

signed_told : (z : ℤ) → twos_complement z ≡ signed 16 z
unfolding twos_complement
signed_told (pos m) = refl
signed_told (negsuc m) = refl

period_told : (listing : Listing) → period_of listing.rate listing.ehss ≡ (if listing.ehss then listing.rate else listing.rate * 60)
unfolding period_of
period_told listing = refl

module _ (listing : Listing) (fits : HeadFits listing) (head : List ℕ) (long : 28 ≤ length head) where
  -- what comes before the counts
  front : List ℕ
  front = listing.code ∷ 0 ∷ listing.stamp

  head_length_28 : length (head_of listing) ≡ 28
  unfolding head_of counts_of widths_of
  head_length_28 =
      let size : length (listing.stamp ++ bytes_of (counts_of listing)) ≡ 26 =
      length-append listing.stamp (bytes_of (counts_of listing)) ∙ rw (fits.stamp, length_fields (counts_of listing)) in
      ap (λ n. suc (suc n)) size

  -- the head as it is left, and what was there behind it
  head_left : sets head 0 (head_of listing) ≡ head_of listing ++ drop 28 head
  head_left = sets-eq (head_of listing) head 0 (omega (arith, head_length_28, long)) ∙ rw head_length_28

  head_parts : sets head 0 (head_of listing) ≡ front ++ (bytes_of (counts_of listing) ++ drop 28 head)
  unfolding head_of front
  head_parts = head_left ∙ rw (append_assoc listing.stamp (bytes_of (counts_of listing)) (drop 28 head))

  front_length : length front ≡ 8
  unfolding front
  front_length = ap (λ n. suc (suc n)) fits.stamp

  -- a number among the counts
  count_at : (k : ℕ) → k < 4 →
      word_at (sets head 0 (head_of listing)) (8 + offset_of (counts_of listing) k) (get_or (counts_of listing) k (byte 0)).width
      ≡ (get_or (counts_of listing) k (byte 0)).value
  unfolding counts_of
  count_at k h =
      let rest = bytes_of (counts_of listing) ++ drop 28 head in
      rw head_parts
      (rw front_length at (word_past front rest (offset_of (counts_of listing) k) (get_or (counts_of listing) k (byte 0)).width)
      ∙ field_back (counts_of listing) k (drop 28 head) fits.counts h)

  head_laid : HeadLaid listing (sets head 0 (head_of listing))
  unfolding front counts_of offset_of word_at
  head_laid =
      let left = sets head 0 (head_of listing) in
      record {
        code = rw head_parts;
        later = rw head_parts;
        stamp = rw head_parts (rw fits.stamp at (take-append_seam listing.stamp (bytes_of (counts_of listing) ++ drop 28 head)));
        held = count_at 0 (omega arith);
        first = count_at 1 (omega arith);
        seconds = count_at 2 (omega arith) ∙ signed_told (seconds_at listing 0);
        period = count_at 3 (omega arith) ∙ period_told listing;
      }

  head_rest : drop 28 (sets head 0 (head_of listing)) ≡ drop 28 head
  head_rest = rw head_left (rw head_length_28 at (drop-append_seam (head_of listing) (drop 28 head)))

-- what a listing's call leaves that has this number
ListedIs : List ℕ → List ℤ → List ℕ → Listed → ℕ → Type 0
ListedIs text places head call n =
    (call.number ≡ n)
    × (n ≢ 0 → (call.temperatures ≡ places) × (call.head ≡ head))
    × (n ≡ 0 → (28 ≤ length head) × (call.temperatures ≡ temperatures_of text places)
    × (call.head ≡ sets head 0 (head_of (listing_of text (length places)))))

module _ (text : List ℕ) (places : List ℤ) (head : List ℕ) where
  listed_is : ListedIs text places head (list_call text places head) (dumps_number text (length places) (length head))
  unfolding ListedIs dumps_number room_number is_accepted
  listed_is = dite (dec_le 28 (length head)) long short
    where
      n : ℕ
      n = dump_number text (length places)

      long : 28 ≤ length head → ListedIs text places head (list_call text places head) (if eqb n 0 && ltb (length head) 28 then 12 else n)
      long h =
          dite (ℕ_discrete n 0)
          (λ zero. rw (list_accepted text places head h (number_is text places ∙ zero), le-ltb (length head) 28 h, zero)
          (number_is text places ∙ zero, λ some. absurd (some refl), λ none. (h, refl, refl)))
          (λ some. rw (list_refused text places head h (λ e. some (sym (number_is text places) ∙ e)), le-ltb (length head) 28 h, ne_eqb n 0 some)
          (number_is text places, λ more. ((dump.refused text places some).1, refl), λ none. absurd (some none)))

      few : (28 ≤ length head → ⊥) → length head < 28
      few h = omega (arith, h)

      short : (28 ≤ length head → ⊥) → ListedIs text places head (list_call text places head) (if eqb n 0 && ltb (length head) 28 then 12 else n)
      short h =
          dite (ℕ_discrete n 0)
          (λ zero. rw (list_short text places head (few h), lt-ltb (length head) 28 (few h), room_any text 0 (length places), number_is text places, zero)
          (refl, λ some. (refl, refl), λ none. absurd (omega (arith, none))))
          (λ some. rw (list_short text places head (few h), lt-ltb (length head) 28 (few h), room_any text 0 (length places), number_is text places, ne_eqb n 0 some)
          (refl, λ more. (refl, refl), λ none. absurd (some none)))

-- ---- all together

-- an accepted new tag had room for its record
had_room : (image lent : List ℕ) (number code : ℕ) → new_number image lent number code ≡ 0 → length lent ≡ 80
unfolding new_number
had_room image lent number code zero = by (eqb (length image) 8832) (ℕ_discrete (length lent) 80) zero
  where
    by : (b : Bool) → Dec (length lent ≡ 80) →
        ◌≡◌ {A = ℕ} (if not b then 3
        else if not (eqb (length lent) 80) then 6
        else if not (is_rom number) then 4
        else if not (is_configuration code) then 5
        else 0) 0 → length lent ≡ 80
    by b (yes size) e = size
    by true (no other) e = absurd (omega (arith, rw (ne_eqb (length lent) 80 other) at e))
    by false (no other) e = absurd (omega (arith, e))

-- what an accepted call leaves
new_keeps : (image lent : List ℕ) (number code : ℕ) → (new_call image lent number code).number ≡ 0 →
    (length lent ≡ 80 → Fits (new_tag image number code).answered.tag) →
    let c = new_call image lent number code in Keeps c.image c.lent (leaves (new_tag image number code))
unfolding NewIs
new_keeps image lent number code zero fits =
    let size = had_room image lent number code (sym (new_is image lent number code).0 ∙ zero) in
    let e = new_made image lent number code size in
    record {
      reached = Reached.new image number code (number_accepts (sym (ap (λ (c : New). c.number) e) ∙ zero));
      image_is = ap (λ (c : New). c.image) e;
      lent_is = ap (λ (c : New). c.lent) e;
      holds = holds_of (new_tag image number code).answered.tag (fits size);
    }

event_keeps : {image lent : List ℕ} {s : State} (k : Keeps image lent s) (code reading : ℕ) →
    Fits (step image (unpacked lent) code reading).answered.tag →
    let c = event_call image lent code reading in
    let o = step s.image s.tag code reading in
    (c.number ≡ own_number code reading) × (c.line ≡ digit_of o.answered.line) × Keeps c.image c.lent (leaves o)
event_keeps {s = s} k code reading fits =
    let e = event_kept k code reading in (
      ap (λ (c : Event). c.number) e ∙ demand1.reached k.reached code reading,
      ap (λ (c : Event). c.line) e,
      record {
        reached = reached_step k.reached code reading;
        image_is = ap (λ (c : Event). c.image) e;
        lent_is = ap (λ (c : Event). c.lent) e;
        holds = holds_of _ (rw (kept_tag k, k.image_is) at fits);
      },
    )

list_keeps : {image lent : List ℕ} {s : State} (k : Keeps image lent s) (words replies : List ℕ) →
    (length words ≤ length replies → Fits (listed image (unpacked lent) words replies).batch.tag) →
    let c = events_call image lent words replies in
    let l = listed s.image s.tag words replies in
    (c.number ≡ (if ltb (length replies) (length words) then 17 else if eqb (length (events_of words)) (length words) then 0 else 1))
    × (c.replies ≡ l.replies) × (c.done ≡ l.batch.done) × Keeps c.image c.lent (record { image = l.image; tag = l.batch.tag })
list_keeps {image} {lent} {s} k words replies fits =
    dite (dec_le (length words) (length replies)) room few
  where
    Told : Events → Type 0
    Told c =
        let l = listed s.image s.tag words replies in
        (c.number ≡ (if ltb (length replies) (length words) then 17 else if eqb (length (events_of words)) (length words) then 0 else 1))
        × (c.replies ≡ l.replies) × (c.done ≡ l.batch.done) × Keeps c.image c.lent (record { image = l.image; tag = l.batch.tag })

    room : length words ≤ length replies → Told (events_call image lent words replies)
    room h =
        let r = batches.reached k.reached words replies in
        rw (list_kept k words replies h)
        (r.0, refl, refl, record { reached = r.1; image_is = refl; lent_is = refl; holds = holds_of _ (rw (kept_tag k, k.image_is) at (fits h)) })

    few : (length words ≤ length replies → ⊥) → Told (events_call image lent words replies)
    few h =
        let short : length replies < length words = omega (arith, h) in
        rw (events_room image lent words replies short, laws.list_few s.image s.tag words replies short, lt-ltb (length replies) (length words) short)
        (refl, refl, refl, k)

-- ---- a slot to come

ahead_of : {image lent : List ℕ} {s : State} → Keeps image lent s →
    (sends_in lent ≡ true
    → (after s (runs.Event.slot false) ≡ after s (runs.Event.slot true)) × ((after s (runs.Event.slot true)).image ≡ image))
    × (sends_in lent ≡ false → line_bit s (runs.Event.slot true) ≡ true)
ahead_of {image} {lent} {s} k =
    let fit = events.reached k.reached in
    let told = sends_in_lem s.tag (fits_of s.tag k.holds) in
    (busy fit told, λ e. events.listens fit (sym told ∙ (rw k.lent_is at e)))
  where
    busy : Fit s → sends_in (packed s.tag) ≡ sentences.sends_now s → sends_in lent ≡ true →
        (after s (runs.Event.slot false) ≡ after s (runs.Event.slot true)) × ((after s (runs.Event.slot true)).image ≡ image)
    busy fit told e =
        let now-sends = sym told ∙ (rw k.lent_is at e) in
        (events.sent fit now-sends, slot_spares fit now-sends ∙ sym k.image_is)

-- ---- calls one after the other

kept_new : (κs : _) (image : _) (lent : _) (number code : ℕ) (r : ℕ) (exit : _) →
    bagtag_new.Post κs (image, (lent, (number, (code, tt)))) r exit → r ≡ 0 →
    Keeps exit.0.now exit.1.0.now (leaves (new_tag image.now number code))
kept_new κs image lent number code r exit p none =
    rw (p.1.0, p.1.1.0) (new_keeps image.now lent.now number code (sym p.0 ∙ none) p.1.1.1)

kept_event : {s : State} (κs : _) (image : _) (lent : _) (code reading : ℕ) (line : _) (r : ℕ) (exit : _) →
    bagtag_event.Post κs (image, (lent, (code, (reading, (line, tt))))) r exit → Keeps image.now lent.now s →
    let o = step s.image s.tag code reading in
    (r ≡ own_number code reading) × (exit.1.1.1.1.0.now ≡ digit_of o.answered.line)
    × Keeps exit.0.now exit.1.0.now (leaves o)
kept_event κs image lent code reading line r exit p k =
    let left = event_keeps k code reading (p.1.1.1.1.1 (kept_whole k) (kept_good k)) in
    (p.0 ∙ left.0, p.1.1.1.0 ∙ left.1, rw (p.1.0, p.1.1.0) left.2)

kept_list : {s : State} (κs : _) (image : _) (lent : _) (words : _) (replies : _) (count : _) (r : ℕ) (exit : _) →
    bagtag_events.Post κs (image, (lent, (words, (replies, (count, tt))))) r exit → Keeps image.now lent.now s →
    let l = listed s.image s.tag words.now replies.now in
    (r ≡ (if ltb (length replies.now) (length words.now) then 17
    else if eqb (length (events_of words.now)) (length words.now) then 0
    else 1))
    × (exit.1.1.1.0.now ≡ l.replies) × (exit.1.1.1.1.0.now ≡ l.batch.done)
    × Keeps exit.0.now exit.1.0.now (record { image = l.image; tag = l.batch.tag })
kept_list κs image lent words replies count r exit p k =
    let left = list_keeps k words.now replies.now (λ room. p.1.1.1.1.1.1 room (kept_whole k) (kept_good k)) in
    (p.0 ∙ left.0, p.1.1.1.0 ∙ left.1, p.1.1.1.1.0 ∙ left.2, rw (p.1.0, p.1.1.0) left.3)

some_tag : {image lent : List ℕ} (s : State) → Keeps image lent s → KeptTag image lent
some_tag s k = record { state = s; keeps = k }

event_on : (κs : _) (image : _) (lent : _) (code reading : ℕ) (line : _) (r : ℕ) (exit : _) →
    bagtag_event.Post κs (image, (lent, (code, (reading, (line, tt))))) r exit → KeptTag image.now lent.now →
    KeptTag exit.0.now exit.1.0.now
event_on κs image lent code reading line r exit p tag =
    some_tag (leaves (step tag.state.image tag.state.tag code reading))
    (kept_event κs image lent code reading line r exit p tag.keeps).2

list_on : (κs : _) (image : _) (lent : _) (words : _) (replies : _) (count : _) (r : ℕ) (exit : _) →
    bagtag_events.Post κs (image, (lent, (words, (replies, (count, tt))))) r exit → KeptTag image.now lent.now →
    KeptTag exit.0.now exit.1.0.now
list_on κs image lent words replies count r exit p tag =
    let l = listed tag.state.image tag.state.tag words.now replies.now in
    some_tag (record { image = l.image; tag = l.batch.tag }) (kept_list κs image lent words replies count r exit p tag.keeps).3

kept_from : {image lent : List ℕ} → FromNew image lent → KeptTag image lent
kept_from (FromNew.new κs image lent number code r exit p none) =
    some_tag (leaves (new_tag image.now number code)) (kept_new κs image lent number code r exit p none)
kept_from (FromNew.event κs image lent code reading line r exit p from) = event_on κs image lent code reading line r exit p (kept_from from)
kept_from (FromNew.events κs image lent words replies count r exit p from) =
    list_on κs image lent words replies count r exit p (kept_from from)

-- what a chain ends with
record Ended (s : State) (es : List runs.Event) (bits : List Bool) (end left : List ℕ) : Type 0 where
  pub line : (run s es).line ≡ bits
  pub keeps : Keeps end left (run s es).state

-- an event in front of it
ended_taken : {s : State} (e : runs.Event) {es : List runs.Event} {bit : Bool} {bits : List Bool} {end left : List ℕ} → line_bit s e ≡ bit →
    Ended (after s e) es bits end left → Ended s (e ∷ es) (bit ∷ bits) end left
unfolding run
ended_taken e same rest = record { line = λ i. same i ∷ rest.line i; keeps = rest.keeps }

-- a run in front of it
ended_many : {s t : State} (first : List runs.Event) {es : List runs.Event} (seen : List Bool) {bits : List Bool} {end left : List ℕ} →
    run s first ≡ record { line = seen; state = t } → Ended t es bits end left → Ended s (first ++ es) (seen ++ bits) end left
ended_many {s} {t} first {es} seen ran rest =
    let whole = run_append s first es in
    let after_first : run (run s first).state es ≡ run t es = ap (λ (r : runs.Ran). run r.state es) ran in
    record {
      line = ap (λ (r : runs.Ran). r.line) whole
          ∙ (λ i. (ran i).line ++ (after_first i).line)
          ∙ ap (λ (l : List Bool). seen ++ l) rest.line;
      keeps = subst (Keeps _ _) (sym (ap (λ (r : runs.Ran). r.state) whole ∙ ap (λ (r : runs.Ran). r.state) after_first)) rest.keeps;
    }

module _ {s : State} (κs : _) (image : _) (lent : _) (code reading : ℕ) (line : _) (r : ℕ) (exit : _)
    (p : bagtag_event.Post κs (image, (lent, (code, (reading, (line, tt))))) r exit) (k : Keeps image.now lent.now s) where
  taken_keeps : {e : runs.Event} → meaning_of code reading ≡ Meaning.taken e → Keeps exit.0.now exit.1.0.now (after s e)
  unfolding after
  taken_keeps m =
      rw (ap leaves (step_taken_is k.reached code reading m)) at (kept_event κs image lent code reading line r exit p k).2

  taken_line : {e : runs.Event} → meaning_of code reading ≡ Meaning.taken e → (bit : Bool) → exit.1.1.1.1.0.now ≡ digit_of bit →
      line_bit s e ≡ bit
  taken_line m bit told =
      digit_same _ bit
      (ap (λ (o : Outcome). digit o.answered.line) (sym (step_taken_is k.reached code reading m))
      ∙ sym (kept_event κs image lent code reading line r exit p k).1 ∙ told)

  refused_keeps : meaning_of code reading ≡ Meaning.refused → Keeps exit.0.now exit.1.0.now s
  refused_keeps m = rw (step_refused_is k.reached code reading m).1 at (kept_event κs image lent code reading line r exit p k).2

module _ {s : State} (κs : _) (image : _) (lent : _) (words : _) (replies : _) (count : _) (r : ℕ) (exit : _)
    (p : bagtag_events.Post κs (image, (lent, (words, (replies, (count, tt))))) r exit) (k : Keeps image.now lent.now s) where
  many_ran : length words.now ≤ length replies.now → (seen : List Bool) →
      take exit.1.1.1.1.0.now exit.1.1.1.0.now ≡ map digit_of seen →
      let l = listed s.image s.tag words.now replies.now in
      run s (events_of words.now) ≡ record { line = seen; state = record { image = l.image; tag = l.batch.tag } }
  many_ran room seen told =
      let left = kept_list κs image lent words replies count r exit p k in
      leaves_taken seen (list_leaves s.image s.tag words.now replies.now)
      (asked_none (reached_sound k.reached) words.now replies.now room)
      (rw (left.1, left.2) at told)

  few_keeps : length replies.now < length words.now → Keeps exit.0.now exit.1.0.now s
  few_keeps short =
      rw (laws.list_few s.image s.tag words.now replies.now short) at (kept_list κs image lent words replies count r exit p k).3

chain_runs : {image lent end left : List ℕ} {es : List runs.Event} {bits : List Bool} {s : State} → Keeps image lent s →
    Chain image lent es bits end left → Ended s es bits end left
unfolding run
chain_runs k Chain.none = record { line = refl; keeps = k }
chain_runs k (Chain.taken κs image lent code reading line r exit p {e} m bit told rest) =
    ended_taken e (taken_line κs image lent code reading line r exit p k m bit told)
    (chain_runs (taken_keeps κs image lent code reading line r exit p k m) rest)
chain_runs k (Chain.refused κs image lent code reading line r exit p m rest) =
    chain_runs (refused_keeps κs image lent code reading line r exit p k m) rest
chain_runs k (Chain.many κs image lent words replies count r exit p room seen told rest) =
    ended_many (events_of words.now) seen (many_ran κs image lent words replies count r exit p k room seen told)
    (chain_runs (kept_list κs image lent words replies count r exit p k).3 rest)
chain_runs k (Chain.few κs image lent words replies count r exit p short rest) =
    chain_runs (few_keeps κs image lent words replies count r exit p k short) rest

pub library : Library
unfolding NewIs EventIs ListIs ListedIs
library =
    record {
      back = λ tag h. unpacked_packed tag (fits_of tag h);
      laid = λ tag h. (packed_bytes tag h.pad_bytes_lem, laid_out tag (fits_of tag h));
      exactly = exactly_packed;
      any_new = λ κs image lent number code. tt;
      any_event = λ κs image lent code reading line. tt;
      any_events = λ κs image lent words replies done. tt;
      any_dump = λ κs text places head. tt;
      news = λ κs image lent number code r exit p.
          let is = new_is image.now lent.now number code in (
            p.0 ∙ is.0,
            λ some. let left = is.1 (λ none. some (p.0 ∙ is.0 ∙ none)) in (p.1.0 ∙ left.0, p.1.1.0 ∙ left.1),
          );
      events = λ κs image lent code reading line r exit p.
          let is = event_is image.now lent.now code reading p.1.1.1.1.0 in (
            p.0 ∙ is.0,
            λ some.
                let left = is.1 (λ none. some (p.0 ∙ is.0 ∙ none)) in
                (p.1.0 ∙ left.0, p.1.1.0 ∙ left.1, p.1.1.1.0 ∙ left.2),
          );
      lists = λ κs image lent words replies done r exit p.
          let is = list_is image.now lent.now words.now replies.now p.1.1.1.1.1.0 in (
            p.0 ∙ is.0,
            λ some more.
                let left = is.1 (λ none. some (p.0 ∙ is.0 ∙ none)) (λ one. more (p.0 ∙ is.0 ∙ one)) in
                (p.1.0 ∙ left.0, p.1.1.0 ∙ left.1, p.1.1.1.0 ∙ left.2, p.1.1.1.1.0 ∙ left.3),
          );
      makes = λ κs image lent number code r exit p size.
          let e = new_made image.now lent.now number code size in
          (p.0 ∙ ap (λ (c : New). c.number) e, p.1.0 ∙ ap (λ (c : New). c.image) e, p.1.1.0 ∙ ap (λ (c : New). c.lent) e);
      steps = λ κs image lent code reading line r exit p packs.
          let e = ap (λ (l : List ℕ). event_call image.now l code reading) packs.bytes
          ∙ event_any image.now packs.tag code reading (fits_of packs.tag packs.holds) in (
            p.0 ∙ ap (λ (c : Event). c.number) e,
            p.1.0 ∙ ap (λ (c : Event). c.image) e,
            p.1.1.0 ∙ ap (λ (c : Event). c.lent) e,
            p.1.1.1.0 ∙ ap (λ (c : Event). c.line) e,
          );
      does = λ κs image lent words replies count r exit p packs.
          let e = ap (λ (l : List ℕ). events_call image.now l words.now replies.now) packs.bytes
          ∙ events_any image.now packs.tag words.now replies.now (fits_of packs.tag packs.holds) in (
            p.0 ∙ ap (λ (c : Events). c.number) e,
            p.1.0 ∙ ap (λ (c : Events). c.image) e,
            p.1.1.0 ∙ ap (λ (c : Events). c.lent) e,
            p.1.1.1.0 ∙ ap (λ (c : Events). c.replies) e,
            p.1.1.1.1.0 ∙ ap (λ (c : Events). c.done) e,
          );
      line = λ κs image lent code reading line r exit p. rw p.1.1.1.0 (line_bit_lem image.now lent.now code reading);
      zeros = λ κs image lent code reading line r exit p e.
          let all = ap (λ (l : List ℕ). event_call image.now l code reading) (e ∙ sym zeros_packed)
          ∙ event_any image.now (sentences.clear_tag 0 0) code reading zeros_fit in
          p.0 ∙ ap (λ (c : Event). c.number) all ∙ events.zeros image.now code reading;
      dumps = λ κs text places head r exit p.
          let is = listed_is text.now places.now head.now in
          let n = p.0 ∙ is.0 in (
            n,
            λ some. let left = is.1 (λ none. some (n ∙ none)) in (p.1.0 ∙ left.0, p.1.1.0 ∙ left.1),
            λ zero.
                let left = is.2 (sym n ∙ zero) in
                let fits = p.1.1.1 zero in
                let head_is = p.1.1.0 ∙ left.2 in (
                  p.1.0 ∙ left.1,
                  rw head_is (head_laid (listing_of text.now (length places.now)) fits head.now left.0),
                  rw head_is (head_rest (listing_of text.now (length places.now)) fits head.now left.0),
                ),
          );
      made = kept_new;
      stepped = kept_event;
      done = kept_list;
      kept = kept_from;
      runs = λ k chain. let e = chain_runs k chain in (e.line, e.keeps);
      ahead = ahead_of;
      event_not_6 = λ κs image lent code reading line r exit p from six.
          own_not_6 code reading (sym (kept_event κs image lent code reading line r exit p (kept_from from).keeps).0 ∙ six);
      events_not_6 = λ κs image lent words replies count r exit p from six.
          list_not_six (ltb (length replies.now) (length words.now)) (eqb (length (events_of words.now)) (length words.now))
          (sym (kept_list κs image lent words replies count r exit p (kept_from from).keeps).0 ∙ six);
    }

-- A record in its bytes: what its types say is what fits, its parts stand at their offsets, and bytes are taken exactly if some record packs
-- to them. Assumes nothing.
use Rattle.std.specs.Prelude.{Bool, true, false, List, [], ◌∷◌, ◌↔◌, ◌≡◌, refl, ℕ, zero, suc, ◌+◌, ◌*◌, ◌<◌, get_or, drop}
use Rattle.std.proofs.Common.{sym, subst, ◌∙◌, arith}
use Rattle.std.proofs.Math.Seq.{drop-append_seam}
use Rattle.bits.specs.Bits.{digit}
use Rattle.bus.specs.declared.Guarded.{Guarded}
use Rattle.bus.specs.declared.Hearing.{Hearing}
use Rattle.bus.specs.declared.Sending.{Sending}
use Rattle.bus.specs.declared.Stage.{Stage}
use Rattle.image.specs.Fields.{word_at}
use Rattle.packing.specs.Codes.{mode_code, choosing_codes, stage_codes}
use Rattle.packing.specs.Codes.Laws.{hearing_case, guarded_case, sending_case}
use Rattle.packing.specs.Packing.{Fits, AllFit, bytes_of, fields_of, singles, pairs, eights, words_of, packed, is_packed, unpacked}
use Rattle.packing.specs.Packing.Fields.{offset_of}
use Rattle.packing.specs.Packing.Laws.{length_packed, head_length, packed_field, packed_byte, packed_is, own_of, packed_unpacked, unpacked_fits}
use Rattle.record.specs.declared.Tag.{Tag}
use Rattle.select.specs.declared.Choosing.{Choosing}
use Rattle.select.specs.declared.Mode.{Mode}
use Rattle.promises.specs.Library.{digit_of, Bytes, choosing_bytes, stage_bytes, Holds, Laid, Packs, sends_by, sends_in}
use Rattle.promises.specs.Sentences.Events as sentences
use Rattle.promises.specs.Words.{mark_in, speed_in}

-- ---- the tables

choosing_told : (c : Choosing) → (choosing_codes c).case ∷ (choosing_codes c).first ∷ (choosing_codes c).second ∷ [] ≡ choosing_bytes c
choosing_told Choosing.Silent = refl
choosing_told (Choosing.Command heard count) = refl
choosing_told (Choosing.Reading at) = refl
choosing_told (Choosing.Matching fast at) = refl
choosing_told (Choosing.Giving at) = refl
choosing_told (Choosing.Complementing at) = refl
choosing_told (Choosing.Awaiting at) = refl
choosing_told Choosing.Selected = refl

stage_told : (g : Stage) → (stage_codes g).case ∷ (stage_codes g).first ∷ (stage_codes g).second ∷ [] ≡ stage_bytes g
stage_told Stage.Over = refl
stage_told (Stage.Hears Hearing.Command) = refl
stage_told (Stage.Hears (Hearing.Low addressed)) = refl
stage_told (Stage.Hears (Hearing.High addressed)) = refl
stage_told (Stage.Hears (Hearing.Data place)) = refl
stage_told (Stage.Hears Hearing.Status) = refl
stage_told (Stage.Hears (Hearing.Confirm control)) = refl
stage_told (Stage.Gathers Guarded.Reading) = refl
stage_told (Stage.Gathers Guarded.Copying) = refl
stage_told (Stage.Gathers (Guarded.Controlling control)) = refl
stage_told (Stage.Sends Sending.PadLow) = refl
stage_told (Stage.Sends Sending.PadHigh) = refl
stage_told (Stage.Sends Sending.PadStatus) = refl
stage_told (Stage.Sends (Sending.PadData place)) = refl
stage_told (Stage.Sends Sending.Memory) = refl
stage_told (Stage.Sends (Sending.CrcLow next)) = refl
stage_told (Stage.Sends (Sending.CrcHigh next)) = refl
stage_told Stage.Copied = refl

mode_told : (mode : Mode) → mode_code mode ≡ digit_of (mark_in mode) + 2 * digit_of (speed_in mode)
mode_told Mode.Plain = refl
mode_told Mode.Marked = refl
mode_told Mode.Overdrive = refl
mode_told Mode.OverdriveMarked = refl

-- ---- what the types say is what fits

mode_byte : (mode : Mode) → mode_code mode < 256
mode_byte Mode.Plain = omega arith
mode_byte Mode.Marked = omega arith
mode_byte Mode.Overdrive = omega arith
mode_byte Mode.OverdriveMarked = omega arith

digit_byte : (flag : Bool) → digit flag < 256
digit_byte true = omega arith
digit_byte false = omega arith

three_bytes : (a b c : ℕ) → a < 256 → b < 256 → c < 256 → Bytes (a ∷ b ∷ c ∷ [])
three_bytes a b c x y z zero = x
three_bytes a b c x y z (suc zero) = y
three_bytes a b c x y z (suc (suc zero)) = z
three_bytes a b c x y z (suc (suc (suc i))) = omega arith

pub fits_of : (tag : Tag) → Holds tag → Fits tag
unfolding fields_of singles words_of pairs eights AllFit
fits_of tag h =
    let chosen = subst Bytes (sym (choosing_told tag.exchange.select.choosing)) h.choosing in
    let staged = subst Bytes (sym (stage_told tag.exchange.bus.stage)) h.stage in
    record {
      fields = (
        omega arith,
        (
          h.code,
          (
            h.minute,
            (
              mode_byte tag.exchange.select.mode,
              (
                chosen 0,
                (
                  chosen 1,
                  (
                    chosen 2,
                    (
                      staged 0,
                      (
                        staged 1,
                        (
                          staged 2,
                          (
                            h.byte,
                            (
                              h.bits,
                              (
                                h.status,
                                (
                                  h.ending,
                                  (
                                    digit_byte tag.exchange.held.pf,
                                    (
                                      digit_byte tag.exchange.held.aa,
                                      (h.reading, (h.ta, (h.crc, (h.address, (h.number, (h.wait, (h.field, tt))))))),
                                    ),
                                  ),
                                ),
                              ),
                            ),
                          ),
                        ),
                      ),
                    ),
                  ),
                ),
              ),
            ),
          ),
        ),
      );
      size = h.pad;
      bytes = h.pad_bytes_lem;
    }

pub holds_of : (tag : Tag) → Fits tag → Holds tag
unfolding fields_of singles words_of pairs eights AllFit
holds_of tag fits =
    let f = fits.fields in
    record {
      code = f.1.0;
      minute = f.1.1.0;
      choosing = subst Bytes (choosing_told tag.exchange.select.choosing) (three_bytes _ _ _ f.1.1.1.1.0 f.1.1.1.1.1.0 f.1.1.1.1.1.1.0);
      stage = subst Bytes (stage_told tag.exchange.bus.stage) (three_bytes _ _ _ f.1.1.1.1.1.1.1.0 f.1.1.1.1.1.1.1.1.0 f.1.1.1.1.1.1.1.1.1.0);
      byte = f.1.1.1.1.1.1.1.1.1.1.0;
      bits = f.1.1.1.1.1.1.1.1.1.1.1.0;
      status = f.1.1.1.1.1.1.1.1.1.1.1.1.0;
      ending = f.1.1.1.1.1.1.1.1.1.1.1.1.1.0;
      reading = f.1.1.1.1.1.1.1.1.1.1.1.1.1.1.1.1.0;
      ta = f.1.1.1.1.1.1.1.1.1.1.1.1.1.1.1.1.1.0;
      crc = f.1.1.1.1.1.1.1.1.1.1.1.1.1.1.1.1.1.1.0;
      address = f.1.1.1.1.1.1.1.1.1.1.1.1.1.1.1.1.1.1.1.0;
      number = f.1.1.1.1.1.1.1.1.1.1.1.1.1.1.1.1.1.1.1.1.0;
      wait = f.1.1.1.1.1.1.1.1.1.1.1.1.1.1.1.1.1.1.1.1.1.0;
      field = f.1.1.1.1.1.1.1.1.1.1.1.1.1.1.1.1.1.1.1.1.1.1.0;
      pad = fits.size;
      pad_bytes_lem = fits.bytes;
    }

-- ---- where the parts stand

pad_behind : (tag : Tag) → drop 48 (packed tag) ≡ tag.exchange.held.pad
unfolding packed
pad_behind tag = rw (head_length tag) at (drop-append_seam (bytes_of (fields_of tag)) tag.exchange.held.pad)

chosen_in : (tag : Tag) → Fits tag →
    get_or (packed tag) 4 0 ∷ get_or (packed tag) 5 0 ∷ get_or (packed tag) 6 0 ∷ [] ≡ choosing_bytes tag.exchange.select.choosing
unfolding fields_of singles words_of pairs eights offset_of
chosen_in tag fits =
    let c = choosing_codes tag.exchange.select.choosing in
    let a : get_or (packed tag) 4 0 ≡ c.case = packed_byte tag fits 4 _ (omega arith) refl in
    let b : get_or (packed tag) 5 0 ≡ c.first = packed_byte tag fits 5 _ (omega arith) refl in
    let d : get_or (packed tag) 6 0 ≡ c.second = packed_byte tag fits 6 _ (omega arith) refl in
    let three : get_or (packed tag) 4 0 ∷ get_or (packed tag) 5 0 ∷ get_or (packed tag) 6 0 ∷ [] ≡ c.case ∷ c.first ∷ c.second ∷ [] =
    λ i. a i ∷ b i ∷ d i ∷ [] in
    three ∙ choosing_told tag.exchange.select.choosing

staged_in : (tag : Tag) → Fits tag →
    get_or (packed tag) 7 0 ∷ get_or (packed tag) 8 0 ∷ get_or (packed tag) 9 0 ∷ [] ≡ stage_bytes tag.exchange.bus.stage
unfolding fields_of singles words_of pairs eights offset_of
staged_in tag fits =
    let c = stage_codes tag.exchange.bus.stage in
    let a : get_or (packed tag) 7 0 ≡ c.case = packed_byte tag fits 7 _ (omega arith) refl in
    let b : get_or (packed tag) 8 0 ≡ c.first = packed_byte tag fits 8 _ (omega arith) refl in
    let d : get_or (packed tag) 9 0 ≡ c.second = packed_byte tag fits 9 _ (omega arith) refl in
    let three : get_or (packed tag) 7 0 ∷ get_or (packed tag) 8 0 ∷ get_or (packed tag) 9 0 ∷ [] ≡ c.case ∷ c.first ∷ c.second ∷ [] =
    λ i. a i ∷ b i ∷ d i ∷ [] in
    three ∙ stage_told tag.exchange.bus.stage

pub laid_out : (tag : Tag) → Fits tag → Laid tag (packed tag)
unfolding fields_of singles words_of pairs eights offset_of word_at
laid_out tag fits =
    record {
      size = length_packed tag fits.size;
      version = packed_byte tag fits 0 _ (omega arith) refl;
      code = packed_byte tag fits 1 _ (omega arith) refl;
      minute = packed_byte tag fits 2 _ (omega arith) refl;
      mode = packed_byte tag fits 3 _ (omega arith) refl ∙ mode_told tag.exchange.select.mode;
      choosing = chosen_in tag fits;
      stage = staged_in tag fits;
      byte = packed_byte tag fits 10 _ (omega arith) refl;
      bits = packed_byte tag fits 11 _ (omega arith) refl;
      status = packed_byte tag fits 12 _ (omega arith) refl;
      ending = packed_byte tag fits 13 _ (omega arith) refl;
      pf = packed_byte tag fits 14 _ (omega arith) refl;
      aa = packed_byte tag fits 15 _ (omega arith) refl;
      reading = packed_field tag fits 16 (omega arith);
      ta = packed_field tag fits 17 (omega arith);
      crc = packed_field tag fits 18 (omega arith);
      address = packed_field tag fits 19 (omega arith);
      number = packed_field tag fits 20 (omega arith);
      wait = packed_field tag fits 21 (omega arith);
      field = packed_field tag fits 22 (omega arith);
      pad = pad_behind tag;
    }

pub exactly_packed : (lent : List ℕ) → Bytes lent → (is_packed lent ≡ true) ↔ Packs lent
exactly_packed lent bytes = (packs, λ p. rw p.bytes (packed_is p.tag (fits_of p.tag p.holds)))
  where
    packs : is_packed lent ≡ true → Packs lent
    packs e =
        let own = own_of lent e in
        record { tag = unpacked lent; holds = holds_of (unpacked lent) (unpacked_fits lent bytes own); bytes = sym (packed_unpacked lent bytes own) }

-- ---- a slot to come

-- the two bytes tell what the cases do
sends_codes : (choosing : Choosing) (stage : Stage) →
    sends_by (choosing_codes choosing).case (stage_codes stage).case ≡ sentences.sends choosing stage
unfolding sends_by sentences.sends
sends_codes (Choosing.Reading at) stage = refl
sends_codes (Choosing.Giving at) stage = refl
sends_codes (Choosing.Complementing at) stage = refl
sends_codes Choosing.Selected stage = by stage
  where
    by : (stage : Stage) → sends_by 7 (stage_codes stage).case ≡ sentences.sends Choosing.Selected stage
    by Stage.Over = refl
    by (Stage.Hears heard) = rw (hearing_case heard)
    by (Stage.Gathers gathered) = rw (guarded_case gathered)
    by (Stage.Sends sent) = rw (sending_case sent)
    by Stage.Copied = refl
sends_codes Choosing.Silent stage = refl
sends_codes (Choosing.Command heard count) stage = refl
sends_codes (Choosing.Matching fast at) stage = refl
sends_codes (Choosing.Awaiting at) stage = refl

pub sends_in_lem : (tag : Tag) → Fits tag → sends_in (packed tag) ≡ sentences.sends tag.exchange.select.choosing tag.exchange.bus.stage
unfolding fields_of singles words_of pairs eights offset_of
sends_in_lem tag fits =
    let chosen : get_or (packed tag) 4 0 ≡ (choosing_codes tag.exchange.select.choosing).case = packed_byte tag fits 4 _ (omega arith) refl in
    let staged : get_or (packed tag) 7 0 ≡ (stage_codes tag.exchange.bus.stage).case = packed_byte tag fits 7 _ (omega arith) refl in
    rw (chosen, staged) (sends_codes tag.exchange.select.choosing tag.exchange.bus.stage)

-- What is packed is unpacked, and the bytes that are a record's are exactly those that some record packs to. Assumes nothing.
use Rattle.std.specs.Prelude.{◌≡◌, true, List, [], ◌∷◌, ◌++◌, map, ℕ, ◌<◌, length}
use Rattle.std.proofs.Math.Path.{refl, sym, ap}
use Rattle.std.proofs.Common.{◌∙◌, arith, length-append}
use Rattle.std.proofs.Math.Bool.{and-eq-true_iff}
use borrow.Author.Tests.{eqb-true, eq-eqb}
use Rattle.std.proofs.Math.Dec.{eqb}
use Rattle.std.proofs.Math.ListN.{get_or}
use Rattle.std.proofs.lemmas.List.Edits.{sets}
use Rattle.bits.specs.Bits.{digit}
use Rattle.bits.specs.Bytes.{Bytes}
use Rattle.bits.specs.Stores.{sets_join}
use Rattle.image.specs.Fields.{word_at}
use Rattle.record.specs.declared.Tag.{Tag}
use Rattle.packing.specs.declared.Coded.{Coded}
use Rattle.packing.specs.Codes.{coded_as, choosing_codes, choosing_of, mode_code, mode_of, stage_codes, stage_of, is_choosing, is_stage, is_mode, is_flag}
use Rattle.packing.specs.Codes.Laws.{choosing_back, stage_back, mode_back, flag_back, own_choosing, own_stage, own_mode, own_flag, choosing_again, stage_again, mode_again, flag_again}
use Rattle.packing.specs.Packing.{byte, pair, eight, version, bytes_of, singles, pairs, eights, words_of, fields_of, packed, Fits, bytes_from, choosing_in, stage_in, is_packed, counters_in, select_in, held_in, bus_in, exchange_in, unpacked}
use Rattle.packing.specs.Packing.Fields.{word_one, offset_of, field_back, widths_of, length_fields, stores, stores_sets, bytes_append, append_bytes, fields_bytes, bytes_singles, fit_singles, bytes_all, bytes_past, bytes_join, bytes_again, fields_in, fields_fit, length_bytes, bytes_are}

-- ---- storing

pub head_length : (tag : Tag) → length (bytes_of (fields_of tag)) ≡ 48
unfolding fields_of singles words_of pairs eights widths_of
head_length tag = length_fields (fields_of tag)

singles_length : (tag : Tag) → length (singles tag) ≡ 16
unfolding singles
singles_length tag = refl

pairs_length : (tag : Tag) → length (bytes_of (map pair (pairs tag))) ≡ 8
unfolding pairs widths_of
pairs_length tag = length_fields (map pair (pairs tag))

-- the fields of two bytes are stored, then those of eight
pub words_stored : (lent : List ℕ) (tag : Tag) →
    stores (sets lent 16 (bytes_of (map pair (pairs tag)))) 24 (map eight (eights tag)) ≡ sets lent 16 (bytes_of (words_of tag))
unfolding words_of
words_stored lent tag =
    let first = bytes_of (map pair (pairs tag)) in
    let size : length first ≡ 8 = pairs_length tag in
    rw (
      stores_sets (sets lent 16 first) 24 (map eight (eights tag)),
      bytes_append (map pair (pairs tag)) (map eight (eights tag)),
      sets_join lent 16 first (bytes_of (map eight (eights tag))),
      size,
    )

-- the bytes, the words, the scratchpad
pub tag_stored : (lent : List ℕ) (tag : Tag) → Bytes (singles tag) →
    sets (sets (sets lent 0 (singles tag)) 16 (bytes_of (words_of tag))) 48 tag.exchange.held.pad ≡ sets lent 0 (packed tag)
unfolding packed fields_of
tag_stored lent tag bytes =
    let words = bytes_of (words_of tag) in
    let pad = tag.exchange.held.pad in
    let head : bytes_of (map byte (singles tag) ++ words_of tag) ≡ singles tag ++ words =
    bytes_append (map byte (singles tag)) (words_of tag) ∙ ap (λ (l : List ℕ). l ++ words) (bytes_singles (singles tag) (fit_singles (singles tag) bytes)) in
    let size : length (singles tag ++ words) ≡ 48 = sym (ap length head) ∙ head_length tag in
    let few : length (singles tag) ≡ 16 = singles_length tag in
    rw (head, sets_join lent 0 (singles tag ++ words) pad, size, sets_join lent 0 (singles tag) words, few)

pub length_packed : (tag : Tag) → length tag.exchange.held.pad ≡ 32 → length (packed tag) ≡ 80
unfolding packed
length_packed tag size = length-append (bytes_of (fields_of tag)) tag.exchange.held.pad ∙ rw (head_length tag, size)

-- a record packs to bytes
pub packed_bytes : (tag : Tag) → Bytes tag.exchange.held.pad → Bytes (packed tag)
unfolding packed
packed_bytes tag bytes = append_bytes (bytes_of (fields_of tag)) tag.exchange.held.pad (fields_bytes (fields_of tag)) bytes

-- ---- what is packed is unpacked

module _ (tag : Tag) (fits : Fits tag) where
  -- the number of a field, by its place in the list
  pub packed_field : (k : ℕ) → k < 23 →
      word_at (packed tag) (offset_of (fields_of tag) k) (get_or (fields_of tag) k (byte 0)).width ≡ (get_or (fields_of tag) k (byte 0)).value
  unfolding packed fields_of singles words_of pairs eights
  packed_field k h = field_back (fields_of tag) k tag.exchange.held.pad fits.fields h

  -- and of one that is a byte
  pub packed_byte : (k n : ℕ) → k < 23 → get_or (fields_of tag) k (byte 0) ≡ byte n → get_or (packed tag) (offset_of (fields_of tag) k) 0 ≡ n
  packed_byte k n h e = sym (word_one (packed tag) (offset_of (fields_of tag) k)) ∙ (rw e at (packed_field k h))

  counters_back : counters_in (packed tag) ≡ tag.counters
  unfolding counters_in fields_of singles words_of pairs eights offset_of
  counters_back =
      let reading : word_at (packed tag) 16 2 ≡ tag.counters.reading = packed_field 16 (omega arith) in
      let minute : get_or (packed tag) 2 0 ≡ tag.counters.minute = packed_byte 2 _ (omega arith) refl in
      let wait : word_at (packed tag) 32 8 ≡ tag.counters.wait = packed_field 21 (omega arith) in
      λ i. record { reading = reading i; minute = minute i; wait = wait i }

  choosing_in_lem : choosing_in (packed tag) ≡ choosing_codes tag.exchange.select.choosing
  unfolding choosing_in fields_of singles words_of pairs eights offset_of
  choosing_in_lem =
      let c = choosing_codes tag.exchange.select.choosing in
      let case : get_or (packed tag) 4 0 ≡ c.case = packed_byte 4 _ (omega arith) refl in
      let first : get_or (packed tag) 5 0 ≡ c.first = packed_byte 5 _ (omega arith) refl in
      let second : get_or (packed tag) 6 0 ≡ c.second = packed_byte 6 _ (omega arith) refl in
      λ i. coded_as (case i) (first i) (second i)

  stage_in_lem : stage_in (packed tag) ≡ stage_codes tag.exchange.bus.stage
  unfolding stage_in fields_of singles words_of pairs eights offset_of
  stage_in_lem =
      let c = stage_codes tag.exchange.bus.stage in
      let case : get_or (packed tag) 7 0 ≡ c.case = packed_byte 7 _ (omega arith) refl in
      let first : get_or (packed tag) 8 0 ≡ c.first = packed_byte 8 _ (omega arith) refl in
      let second : get_or (packed tag) 9 0 ≡ c.second = packed_byte 9 _ (omega arith) refl in
      λ i. coded_as (case i) (first i) (second i)

  mode_in : get_or (packed tag) 3 0 ≡ mode_code tag.exchange.select.mode
  unfolding fields_of singles words_of pairs eights offset_of
  mode_in = packed_byte 3 _ (omega arith) refl

  pf_in : get_or (packed tag) 14 0 ≡ digit tag.exchange.held.pf
  unfolding fields_of singles words_of pairs eights offset_of
  pf_in = packed_byte 14 _ (omega arith) refl

  aa_in : get_or (packed tag) 15 0 ≡ digit tag.exchange.held.aa
  unfolding fields_of singles words_of pairs eights offset_of
  aa_in = packed_byte 15 _ (omega arith) refl

  select_back : select_in (packed tag) ≡ tag.exchange.select
  unfolding select_in
  select_back =
      let choosing : choosing_of (choosing_in (packed tag)) ≡ tag.exchange.select.choosing =
      ap choosing_of choosing_in_lem ∙ choosing_back tag.exchange.select.choosing in
      let mode : mode_of (get_or (packed tag) 3 0) ≡ tag.exchange.select.mode = ap mode_of mode_in ∙ mode_back tag.exchange.select.mode in
      λ i. record { choosing = choosing i; mode = mode i }

  held_back : held_in (packed tag) ≡ tag.exchange.held
  unfolding held_in fields_of singles words_of pairs eights offset_of packed
  held_back =
      let held = tag.exchange.held in
      let pad : bytes_from (packed tag) 48 32 ≡ held.pad =
      (rw (head_length tag, fits.size) at (bytes_past (bytes_of (fields_of tag)) held.pad 0 (length held.pad))) ∙
      (rw fits.size at (bytes_all held.pad)) in
      let ta : word_at (packed tag) 18 2 ≡ held.ta = packed_field 17 (omega arith) in
      let ending : get_or (packed tag) 13 0 ≡ held.ending = packed_byte 13 _ (omega arith) refl in
      let pf : eqb (get_or (packed tag) 14 0) 1 ≡ held.pf = rw pf_in (flag_back held.pf) in
      let aa : eqb (get_or (packed tag) 15 0) 1 ≡ held.aa = rw aa_in (flag_back held.aa) in
      λ i. record { pad = pad i; ta = ta i; ending = ending i; pf = pf i; aa = aa i }

  bus_back : bus_in (packed tag) ≡ tag.exchange.bus
  unfolding bus_in fields_of singles words_of pairs eights offset_of
  bus_back =
      let bus = tag.exchange.bus in
      let stage : stage_of (stage_in (packed tag)) ≡ bus.stage = ap stage_of stage_in_lem ∙ stage_back bus.stage in
      let byte : get_or (packed tag) 10 0 ≡ bus.byte = packed_byte 10 _ (omega arith) refl in
      let bits : get_or (packed tag) 11 0 ≡ bus.at = packed_byte 11 _ (omega arith) refl in
      let crc : word_at (packed tag) 20 2 ≡ bus.crc = packed_field 18 (omega arith) in
      let address : word_at (packed tag) 22 2 ≡ bus.address = packed_field 19 (omega arith) in
      let status : get_or (packed tag) 12 0 ≡ bus.status = packed_byte 12 _ (omega arith) refl in
      let field : word_at (packed tag) 40 8 ≡ bus.field = packed_field 22 (omega arith) in
      λ i. record { stage = stage i; byte = byte i; at = bits i; crc = crc i; address = address i; status = status i; field = field i }

  exchange_back : exchange_in (packed tag) ≡ tag.exchange
  unfolding exchange_in fields_of singles words_of pairs eights offset_of
  exchange_back =
      let number : word_at (packed tag) 24 8 ≡ tag.exchange.number = packed_field 20 (omega arith) in
      λ i. record { number = number i; select = select_back i; held = held_back i; bus = bus_back i }

  pub unpacked_packed : unpacked (packed tag) ≡ tag
  unfolding unpacked fields_of singles words_of pairs eights offset_of
  unpacked_packed =
      let code : get_or (packed tag) 1 0 ≡ tag.code = packed_byte 1 _ (omega arith) refl in
      rw (eq-eqb (length (packed tag)) 80 (length_packed tag fits.size))
      (λ i. record { code = code i; counters = counters_back i; exchange = exchange_back i })

  pub packed_is : is_packed (packed tag) ≡ true
  unfolding is_packed fields_of singles words_of pairs eights offset_of
  packed_is =
      let first : get_or (packed tag) 0 0 ≡ version = packed_byte 0 _ (omega arith) refl in
      rw (
        eq-eqb (length (packed tag)) 80 (length_packed tag fits.size),
        first,
        mode_in,
        own_mode tag.exchange.select.mode,
        choosing_in_lem,
        own_choosing tag.exchange.select.choosing,
        stage_in_lem,
        own_stage tag.exchange.bus.stage,
        pf_in,
        own_flag tag.exchange.held.pf,
        aa_in,
        own_flag tag.exchange.held.aa,
      )

-- ---- bytes that are a record's

-- what is asked of them, one by one
pub record Own (lent : List ℕ) : Type 0 where
  pub size : length lent ≡ 80
  pub version : get_or lent 0 0 ≡ 1
  pub mode : is_mode (get_or lent 3 0) ≡ true
  pub choosing : is_choosing (choosing_in lent) ≡ true
  pub stage : is_stage (stage_in lent) ≡ true
  pub pf : is_flag (get_or lent 14 0) ≡ true
  pub aa : is_flag (get_or lent 15 0) ≡ true

pub own_of : (lent : List ℕ) → is_packed lent ≡ true → Own lent
unfolding is_packed
own_of lent e =
    let a = (and-eq-true_iff (eqb (length lent) 80) _).0 e in
    let b = (and-eq-true_iff (eqb (get_or lent 0 0) 1) _).0 a.1 in
    let c = (and-eq-true_iff (is_mode (get_or lent 3 0)) _).0 b.1 in
    let d = (and-eq-true_iff (is_choosing (choosing_in lent)) _).0 c.1 in
    let f = (and-eq-true_iff (is_stage (stage_in lent)) _).0 d.1 in
    let g = (and-eq-true_iff (is_flag (get_or lent 14 0)) _).0 f.1 in
    record {
      size = eqb-true (length lent) 80 a.0;
      version = eqb-true (get_or lent 0 0) 1 b.0;
      mode = c.0;
      choosing = d.0;
      stage = f.0;
      pf = g.0;
      aa = g.1;
    }

-- the widths of the fields before the scratchpad
widths : List ℕ
widths =
    1 ∷ 1 ∷ 1 ∷ 1 ∷ 1 ∷ 1 ∷ 1 ∷ 1 ∷ 1 ∷ 1 ∷ 1 ∷ 1 ∷ 1 ∷ 1 ∷ 1 ∷ 1 ∷ 2 ∷ 2 ∷ 2 ∷ 2 ∷ 8 ∷ 8 ∷ 8 ∷ []

module _ (lent : List ℕ) (bytes : Bytes lent) (own : Own lent) where
  stands : unpacked lent ≡ record { code = get_or lent 1 0; counters = counters_in lent; exchange = exchange_in lent }
  unfolding unpacked
  stands = rw (eq-eqb (length lent) 80 own.size)

  -- the numbers of the record that bytes stand for are those in the bytes
  same_fields : fields_of (unpacked lent) ≡ fields_in widths lent 0
  unfolding fields_of singles words_of pairs eights fields_in widths counters_in exchange_in select_in held_in bus_in choosing_in stage_in
  same_fields =
      let one : (k : ℕ) → get_or lent k 0 ≡ word_at lent k 1 = λ k. sym (word_one lent k) in
      let c = choosing_again (choosing_in lent) own.choosing in
      let s = stage_again (stage_in lent) own.stage in
      let version = sym own.version ∙ one 0 in
      let mode = mode_again (get_or lent 3 0) own.mode ∙ one 3 in
      let pf = flag_again (get_or lent 14 0) own.pf ∙ one 14 in
      let aa = flag_again (get_or lent 15 0) own.aa ∙ one 15 in
      ap fields_of stands ∙
      (λ i.
      byte (version i) ∷ byte (one 1 i) ∷ byte (one 2 i) ∷ byte (mode i)
      ∷ byte ((ap (λ (k : Coded). k.case) c ∙ one 4) i) ∷ byte ((ap (λ (k : Coded). k.first) c ∙ one 5) i)
      ∷ byte ((ap (λ (k : Coded). k.second) c ∙ one 6) i)
      ∷ byte ((ap (λ (k : Coded). k.case) s ∙ one 7) i) ∷ byte ((ap (λ (k : Coded). k.first) s ∙ one 8) i)
      ∷ byte ((ap (λ (k : Coded). k.second) s ∙ one 9) i)
      ∷ byte (one 10 i) ∷ byte (one 11 i) ∷ byte (one 12 i) ∷ byte (one 13 i) ∷ byte (pf i) ∷ byte (aa i)
      ∷ pair (word_at lent 16 2) ∷ pair (word_at lent 18 2) ∷ pair (word_at lent 20 2) ∷ pair (word_at lent 22 2)
      ∷ eight (word_at lent 24 8) ∷ eight (word_at lent 32 8) ∷ eight (word_at lent 40 8) ∷ [])

  pad_in : (unpacked lent).exchange.held.pad ≡ bytes_from lent 48 32
  unfolding exchange_in held_in
  pad_in = ap (λ (t : Tag). t.exchange.held.pad) stands

  pub packed_unpacked : packed (unpacked lent) ≡ lent
  unfolding packed widths fields_in widths_of
  packed_unpacked =
      rw (same_fields, pad_in, bytes_again widths lent 0 bytes)
      (bytes_join lent 0 48 32 ∙ (rw own.size at (bytes_all lent)))

  pub unpacked_fits : Fits (unpacked lent)
  unpacked_fits =
      record {
        fields = rw same_fields (fields_fit widths lent 0 bytes);
        size = rw pad_in (length_bytes lent 48 32);
        bytes = rw pad_in (bytes_are lent 48 32 bytes);
      }

-- The document's tables by addresses are the image's, so what Read Memory sends and what a Copy leaves are the image's too. Assumes nothing.
use Rattle.std.specs.Prelude.{◌≡◌, refl, true, List, [], ◌∷◌, ◌⊎◌, ℕ, zero, suc, ◌+◌, ◌-◌, ◌%◌, ◌≤◌, ◌<◌, T, eqb, length, get_or}
use Rattle.std.proofs.Common.{sym, ◌∙◌, inl, inr, arith, eq-eqb, ne_eqb, lt-ltb, le-ltb, le-leb, eqb→eq}
use Rattle.std.proofs.Math.Logic.{dite}
use Rattle.std.proofs.Math.Decide.{ℕ_discrete, dec_lt}
use Rattle.std.proofs.lemmas.Bool.{lt-leb}
use Rattle.std.specs.Float.Ieee.Fits.{and_i}
use Rattle.bits.specs.Each.{each, each_at}
use Rattle.dump.specs.Lines.{bytes_from}
use Rattle.image.specs.declared.Region.{Region}
use Rattle.image.specs.Fields.{apart}
use Rattle.image.specs.Fields.Laws.{apart_of}
use Rattle.image.specs.Keeps.{Keeps}
use Rattle.image.specs.Map.{region_at, index_of, byte_in}
use Rattle.image.specs.Map.Laws.{Lies, region_lies}
use Rattle.image.specs.Sent as sent
use Rattle.image.specs.Sent.{sent_byte}
use Rattle.image.specs.Stored.{blend, stored_byte, stored_page}
use Rattle.image.specs.Stored.Laws.{keeps_stored_page, stored_page_at}
use Rattle.image.specs.Tables as tables
use Rattle.promises.specs.Sentences.Memory.{Row, bits_at, writable, ones, named, sent_at, copied_over, sent_from, Stored}
use Rattle.promises.specs.Words.{byte_at}
use Rattle.promises.specs.Words.Laws.{byte_low, byte_none, byte_past, byte_region}

-- ---- the tables, each by a test that is computed at all 64 entries

-- two tables that are equal at each
table_at : (table : List ℕ) (rows : List Row) → T (each 64 (λ o. eqb (get_or table o 0) (bits_at rows (0x0200 + o)))) →
    (a : ℕ) → 0x0200 ≤ a → a < 0x0240 →
    get_or table (a - 0x0200) 0 ≡ bits_at rows a
table_at table rows same a lo hi =
    let there : 0x0200 + (a - 0x0200) ≡ a = omega arith in
    rw there at (eqb→eq (get_or table (a - 0x0200) 0) (bits_at rows (0x0200 + (a - 0x0200)))
    (each_at 64 (λ o. eqb (get_or table o 0) (bits_at rows (0x0200 + o))) same (a - 0x0200) (omega arith)))

module _ (a : ℕ) (lo : 0x0200 ≤ a) (hi : a < 0x0240) where
  -- the writable bits
  writable_at : get_or tables.writable (a - 0x0200) 0 ≡ bits_at writable a
  unfolding tables.writable writable bits_at
  writable_at = table_at tables.writable writable tt a lo hi

  -- those that are always one
  ones_at : get_or tables.always_one (a - 0x0200) 0 ≡ bits_at ones a
  unfolding tables.always_one ones bits_at
  ones_at = table_at tables.always_one ones tt a lo hi

  -- those that have a name
  named_at : get_or tables.named (a - 0x0200) 0 ≡ bits_at named a
  unfolding tables.named named bits_at
  named_at = table_at tables.named named tt a lo hi

-- ---- what is sent

-- the byte of an address
pub sent_is : (image : List ℕ) → length image ≡ 8832 → (code a : ℕ) → sent_at image code a ≡ sent.sent_at image code a
unfolding sent_at sent.sent_at sent.sent_in sent_byte
sent_is image size code a = at (region_lies a) (byte_region image a size)
  where
    at : {r : Region} → Lies a r → byte_at image a ≡ byte_in image r → sent_at image code a ≡ sent_byte code r (byte_in image r)
    at (Lies.in_user h) e = rw (lt-leb 0x0200 a h) e
    at (Lies.in_registers lo hi) e =
        rw (e, le-leb 0x0200 a lo, lt-ltb a 0x0240 hi, ← named_at a lo hi, ← ones_at a lo hi)
        (dite (ℕ_discrete a 0x0226) (λ is. let o : a - 0x0200 ≡ 0x26 = omega arith in rw (eq-eqb a 0x0226 is, eq-eqb (a - 0x0200) 0x26 o))
        (λ no. rw (ne_eqb a 0x0226 no, ne_eqb (a - 0x0200) 0x26 (λ o. no (omega arith)))))
    at (Lies.in_calibration lo hi) e = rw (e, le-leb 0x0200 a (omega arith), le-ltb a 0x0240 lo)
    at (Lies.in_reserved lo hi) e = rw (byte_none image a lo hi, le-leb 0x0200 a (omega arith), le-ltb a 0x0240 (omega arith))
    at (Lies.in_log lo hi) e = rw (e, le-leb 0x0200 a (omega arith), le-ltb a 0x0240 (omega arith))
    at (Lies.past_log lo) e = rw (byte_past image a lo, le-leb 0x0200 a (omega arith), le-ltb a 0x0240 (omega arith))

-- some bytes from an address on
pub sent_from_lem : (image : List ℕ) → length image ≡ 8832 → (code a count : ℕ) → sent_from image code a count ≡ bytes_from (sent.sent_at image code) a count
unfolding sent_from bytes_from
sent_from_lem image size code a zero = refl
sent_from_lem image size code a (suc count) = rw (sent_is image size code a, sent_from_lem image size code (suc a) count)

-- ---- what is stored

-- a byte that Copy may change
copied_is : (a old new : ℕ) → a < 0x0280 → stored_byte (region_at a) old new ≡ copied_over a old new
unfolding stored_byte copied_over blend
copied_is a old new low = at (region_lies a)
  where
    at : {r : Region} → Lies a r → stored_byte r old new ≡ copied_over a old new
    at (Lies.in_user h) = rw (lt-leb 0x0200 a h)
    at (Lies.in_registers lo hi) = rw (le-leb 0x0200 a lo, lt-ltb a 0x0240 hi, ← writable_at a lo hi)
    at (Lies.in_calibration lo hi) = rw (le-leb 0x0200 a (omega arith), le-ltb a 0x0240 lo)
    at (Lies.in_reserved lo hi) = absurd (omega arith)
    at (Lies.in_log lo hi) = absurd (omega arith)
    at (Lies.past_log lo) = absurd (omega arith)

-- an address outside a part of the image below 0280h has its byte outside it
index_apart : (a first end : ℕ) → end ≤ 0x0280 → (a < first) ⊎ (end ≤ a) → (end ≤ index_of (region_at a)) ⊎ (index_of (region_at a) + 1 ≤ first)
index_apart a first end low out = at (region_lies a) out
  where
    at : {r : Region} → Lies a r → (a < first) ⊎ (end ≤ a) → (end ≤ index_of r) ⊎ (index_of r + 1 ≤ first)
    at (Lies.in_user h) (inl below) = inr (omega arith)
    at (Lies.in_user h) (inr past) = inl past
    at (Lies.in_registers lo hi) (inl below) = inr (omega arith)
    at (Lies.in_registers lo hi) (inr past) = inl (omega arith)
    at (Lies.in_calibration lo hi) (inl below) = inr (omega arith)
    at (Lies.in_calibration lo hi) (inr past) = inl (omega arith)
    at (Lies.in_reserved lo hi) o = inl (omega arith)
    at (Lies.in_log lo hi) o = inl (omega arith)
    at (Lies.past_log lo) o = inl (omega arith)

-- a page
pub stored_is : {image pad : List ℕ} (address : ℕ) → length image ≡ 8832 → length pad ≡ 32 → address < 0x0280 →
    Stored address pad image (stored_page image pad address)
stored_is {image} {pad} address size whole low =
    record {
      size = kept.lengths;
      bytes = λ a.
          dite (dec_lt a address) (λ below. rw (lt-leb address a below) (outside a (inl below)))
          (λ from.
          let lo : address ≤ a = omega arith in
          dite (dec_lt a end)
          (λ hi. rw (le-leb address a lo, lt-ltb a end hi, byte_low after a (omega arith), byte_low image a (omega arith))
          (stored_page_at image pad address a whole lo hi (omega arith) ∙ copied_is a _ _ (omega arith)))
          (λ past. rw (le-leb address a lo, le-ltb a end (omega arith)) (outside a (inr (omega arith)))));
    }
  where
    end : ℕ
    end = address + (32 - address % 32)

    after : List ℕ
    after = stored_page image pad address

    kept : Keeps ((address, 32 - address % 32) ∷ []) image after
    kept = keeps_stored_page image pad address whole

    outside : (a : ℕ) → (a < address) ⊎ (end ≤ a) → byte_at after a ≡ byte_at image a
    outside a out =
        let k = index_of (region_at a) in
        byte_region after a (kept.lengths ∙ size)
        ∙ kept.bytes k
        (and_i (apart address (32 - address % 32) k 1) true
        (apart_of address (32 - address % 32) k 1 (index_apart a address end (omega arith) out)) tt)
        ∙ sym (byte_region image a size)

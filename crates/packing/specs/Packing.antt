-- The tag's record as 80 bytes: what it packs to, which bytes are a record's, and the record that they stand for. The order of the fields
-- is that of the offsets in include/bagtag.h. Assumes nothing.
use Rattle.std.specs.Prelude.{Bool, not, ◌&&◌, List, [], ◌∷◌, ◌++◌, map, ◌≡◌, ℕ, zero, suc, ◌/◌, ◌%◌, ◌^◌, ◌<◌, eqb, length, get_or, if◌then◌else◌}
use Rattle.bits.specs.Bits.{digit}
use Rattle.bits.specs.Bytes.{Bytes}
use Rattle.bus.specs.declared.Bus.{Bus}
use Rattle.bus.specs.declared.Held.{Held}
use Rattle.exchange.specs.declared.Exchange.{Exchange}
use Rattle.image.specs.Fields.{word_at}
use Rattle.mission.specs.declared.Counters.{Counters}
use Rattle.record.specs.declared.Tag.{Tag}
use Rattle.record.specs.Record.{fresh_tag}
use Rattle.select.specs.declared.Select.{Select}
use Rattle.packing.specs.declared.Coded.{Coded}
use Rattle.packing.specs.Codes.{coded_as, choosing_codes, choosing_of, mode_code, mode_of, stage_codes, stage_of, is_choosing, is_stage, is_mode, is_flag}
pub mod Fields
pub mod Laws

-- ---- a field

-- how many bytes it has, and the number in them
pub record Field : Type 0 where
  pub width : ℕ
  pub value : ℕ

abbrev pub byte : ℕ → Field
byte n = record { width = 1; value = n }

abbrev pub pair : ℕ → Field
pair n = record { width = 2; value = n }

abbrev pub eight : ℕ → Field
eight n = record { width = 8; value = n }

-- "little-endian": so many bytes of a number, the low one first
unfoldable pub low_first : ℕ → ℕ → List ℕ
low_first zero n = []
low_first (suc width) n = n % 256 ∷ low_first width (n / 256)

-- fields one behind the other
unfoldable pub bytes_of : List Field → List ℕ
bytes_of [] = []
bytes_of (f ∷ fs) = low_first f.width f.value ++ bytes_of fs

-- ---- packing

-- the version of this layout
abbrev pub version : ℕ
version = 1

-- an enum's three, in front of others
abbrev pub codes : Coded → List ℕ → List ℕ
codes c ns = c.case ∷ c.first ∷ c.second ∷ ns

-- the numbers of one byte, of two and of eight, in their order
unfoldable pub singles : Tag → List ℕ
singles tag =
    let x = tag.exchange in
    version ∷ tag.code ∷ tag.counters.minute ∷ mode_code x.select.mode
    ∷ codes (choosing_codes x.select.choosing)
    (codes (stage_codes x.bus.stage)
    (x.bus.byte ∷ x.bus.at ∷ x.bus.status ∷ x.held.ending ∷ digit x.held.pf ∷ digit x.held.aa ∷ []))

unfoldable pub pairs : Tag → List ℕ
pairs tag = tag.counters.reading ∷ tag.exchange.held.ta ∷ tag.exchange.bus.crc ∷ tag.exchange.bus.address ∷ []

unfoldable pub eights : Tag → List ℕ
eights tag = tag.exchange.number ∷ tag.counters.wait ∷ tag.exchange.bus.field ∷ []

unfoldable pub words_of : Tag → List Field
words_of tag = map pair (pairs tag) ++ map eight (eights tag)

-- the fields before the scratchpad
unfoldable pub fields_of : Tag → List Field
fields_of tag = map byte (singles tag) ++ words_of tag

-- the bytes of a record
unfoldable pub packed : Tag → List ℕ
packed tag = bytes_of (fields_of tag) ++ tag.exchange.held.pad

-- every number fits its field
unfoldable pub AllFit : List Field → Type 0
AllFit [] = Unit {0}
AllFit (f ∷ fs) = (f.value < 256 ^ f.width) × AllFit fs

-- and the scratchpad is 32 bytes: what the types of a record say
pub record Fits (tag : Tag) : Type 0 where
  pub fields : AllFit (fields_of tag)
  pub size : length tag.exchange.held.pad ≡ 32
  pub bytes : Bytes tag.exchange.held.pad

-- ---- unpacking

-- so many bytes from a place on
unfoldable pub bytes_from : List ℕ → ℕ → ℕ → List ℕ
bytes_from lent at zero = []
bytes_from lent at (suc count) = get_or lent at 0 ∷ bytes_from lent (suc at) count

abbrev pub codes_at : List ℕ → ℕ → ℕ → ℕ → Coded
codes_at lent case first second = coded_as (get_or lent case 0) (get_or lent first 0) (get_or lent second 0)

unfoldable pub choosing_in : List ℕ → Coded
choosing_in lent = codes_at lent 4 5 6

unfoldable pub stage_in : List ℕ → Coded
stage_in lent = codes_at lent 7 8 9

-- bytes that some record packs to: of its length and version, and with the numbers of a case where there is an enum or a flag
unfoldable pub is_packed : List ℕ → Bool
is_packed lent =
    eqb (length lent) 80 && (eqb (get_or lent 0 0) version
    && (is_mode (get_or lent 3 0) && (is_choosing (choosing_in lent) && (is_stage (stage_in lent)
    && (is_flag (get_or lent 14 0) && is_flag (get_or lent 15 0))))))

unfoldable pub counters_in : List ℕ → Counters
counters_in lent = record { reading = word_at lent 16 2; minute = get_or lent 2 0; wait = word_at lent 32 8 }

unfoldable pub select_in : List ℕ → Select
select_in lent = record { choosing = choosing_of (choosing_in lent); mode = mode_of (get_or lent 3 0) }

unfoldable pub held_in : List ℕ → Held
held_in lent =
    record {
      pad = bytes_from lent 48 32;
      ta = word_at lent 18 2;
      ending = get_or lent 13 0;
      pf = eqb (get_or lent 14 0) 1;
      aa = eqb (get_or lent 15 0) 1;
    }

unfoldable pub bus_in : List ℕ → Bus
bus_in lent =
    record {
      stage = stage_of (stage_in lent);
      byte = get_or lent 10 0;
      at = get_or lent 11 0;
      crc = word_at lent 20 2;
      address = word_at lent 22 2;
      status = get_or lent 12 0;
      field = word_at lent 40 8;
    }

unfoldable pub exchange_in : List ℕ → Exchange
exchange_in lent = record { number = word_at lent 24 8; select = select_in lent; held = held_in lent; bus = bus_in lent }

-- the record that bytes stand for; of another number of bytes, that of all zeros
unfoldable pub unpacked : List ℕ → Tag
unpacked lent =
    if not (eqb (length lent) 80) then fresh_tag 0 0
    else record { code = get_or lent 1 0; counters = counters_in lent; exchange = exchange_in lent }

-- The tag's record: which registration numbers and configuration codes are good, the ranges that a record keeps to, the record of a
-- new tag, and what a call answers. Assumes nothing.
use Rattle.std.specs.Prelude.{Bool, true, ◌&&◌, ◌||◌, List, ℕ, ◌%◌, eqb, Ok}
use Rattle.answer.specs.Answer.{Answer}
use Rattle.crc.specs.Crc.{good_crc}
use Rattle.exchange.specs.Exchange as exchange
use Rattle.mission.specs.Mission as mission
use Rattle.record.specs.declared.Answered.{Answered}
use Rattle.record.specs.declared.Tag.{Tag}
pub mod Laws

-- ---- the record

-- "first ROM byte not 41h, or its CRC-8 wrong"
unfoldable pub good_number : ℕ → Bool
good_number number = eqb (number % 256) 0x41 && good_crc number

-- "configuration code not 40h (L) or 60h (T)"
unfoldable pub good_code : ℕ → Bool
good_code code = eqb code 0x40 || eqb code 0x60

-- the ranges of docs/RANGES.md, which "include a number and code that 4 and 5 let pass"
unfoldable pub tag_in_range : Tag → Bool
tag_in_range tag =
    good_number tag.exchange.number && good_code tag.code && mission.counters_in_range tag.counters
    && exchange.exchange_in_range tag.exchange

-- everything clear but the number and the code
abbrev pub fresh_tag : ℕ → ℕ → Tag
fresh_tag number code = record { code = code; counters = record { reading = 0; minute = 0; wait = 0 }; exchange = exchange.new_exchange number }

-- ---- answers

-- what a call leaves: its answer, and the lent image
pub record Outcome : Type 0 where
  pub answered : Answered
  pub image : List ℕ

abbrev pub accepted : Tag → Bool → Answered
accepted tag line = record { answer = Ok tt; tag = tag; line = line }

-- "A refusal returns bit 1, the record as given .. and no lent byte .. changed"
abbrev pub refused : Answer → Tag → Answered
refused answer tag = record { answer = answer; tag = tag; line = true }

abbrev pub refusal : Answer → Tag → List ℕ → Outcome
refusal answer tag image = record { answered = refused answer tag; image = image }

-- A record that keeps to its ranges, range by range; that of a new tag does, and that of all zeros does not. Assumes nothing.
use Rattle.std.specs.Prelude.{◌≡◌, refl, true, false, ◌&&◌, ℕ}
use Rattle.std.proofs.Math.Bool.{and-eq-true_iff}
use Rattle.exchange.specs.Exchange as exchange
use Rattle.exchange.specs.Exchange.Laws as exchange-laws
use Rattle.mission.specs.Mission as mission
use Rattle.record.specs.declared.Tag.{Tag}
use Rattle.record.specs.Record.{good_number, good_code, tag_in_range, fresh_tag}

-- the ranges one by one
pub record Ranges (tag : Tag) : Type 0 where
  pub number : good_number tag.exchange.number ≡ true
  pub code : good_code tag.code ≡ true
  pub counters : mission.counters_in_range tag.counters ≡ true
  pub line : exchange.exchange_in_range tag.exchange ≡ true

pub ranges_of : (tag : Tag) → tag_in_range tag ≡ true → Ranges tag
unfolding tag_in_range
ranges_of tag e =
    let good = good_number tag.exchange.number in
    let known = good_code tag.code in
    let counted = mission.counters_in_range tag.counters in
    let three = (and-eq-true_iff (good && known && counted) (exchange.exchange_in_range tag.exchange)).0 e in
    let two = (and-eq-true_iff (good && known) counted).0 three.0 in
    let one = (and-eq-true_iff good known).0 two.0 in
    record { number = one.0; code = one.1; counters = two.1; line = three.1 }

pub in_ranges : (tag : Tag) → Ranges tag → tag_in_range tag ≡ true
unfolding tag_in_range
in_ranges tag r = rw (r.number, r.code, r.counters, r.line)

-- "which every event refuses with 6"
pub zeros_break : tag_in_range (fresh_tag 0 0) ≡ false
unfolding tag_in_range good_number
zeros_break = refl

pub new_in_range : (number code : ℕ) → good_number number ≡ true → good_code code ≡ true → tag_in_range (fresh_tag number code) ≡ true
unfolding mission.counters_in_range
new_in_range number code good known =
    in_ranges _ (record { number = good; code = known; counters = refl; line = exchange-laws.new_in_range number })

-- What every event keeps: the image's length and the record's ranges. Assumes nothing.
use Rattle.std.specs.Prelude.{◌≡◌, refl, Bool, true, List, ℕ, ◌≤◌, length}
use Rattle.exchange.specs.declared.Exchange.{Exchange}
use Rattle.exchange.specs.Exchange as exchange
use Rattle.exchange.specs.Exchange.Laws as exchange-laws
use Rattle.select.specs.Select.{standard}
use Rattle.image.specs.Stored.{stored_page}
use Rattle.image.specs.Stored.Laws.{length_stored_run}
use Rattle.bus.specs.declared.Deed.{Deed}
use Rattle.mission.specs.declared.Counters.{Counters}
use Rattle.mission.specs.Mission as mission
use Rattle.mission.specs.Mission.Frames.{leaves_cleared, leaves_started, leaves_stopped, leaves_forced, leaves_ticked}
use Rattle.mission.specs.Mission.Ranges.{range_ticked, range_started}
use Rattle.record.specs.declared.Tag.{Tag}
use Rattle.record.specs.Record.{tag_in_range}
use Rattle.record.specs.Record.Laws.{ranges_of, in_ranges}
use Rattle.event.specs.Event.{answer_to, performed, performed_counters, slotted, reset_tag, short_tag, tick_tag}

-- ---- the image's length

length_performed : (deed : Deed) (x : Exchange) (c : Counters) (image : List ℕ) → length (performed deed x c image) ≡ length image
unfolding performed stored_page
length_performed Deed.Nothing x c image = refl
length_performed Deed.Store x c image = length_stored_run image _ _
length_performed Deed.Clear x c image = (leaves_cleared image).keeps.lengths
length_performed Deed.Start x c image = (leaves_started image).keeps.lengths
length_performed Deed.Stop x c image = (leaves_stopped image).keeps.lengths
length_performed Deed.Convert x c image = (leaves_forced image c).keeps.lengths

pub length_slotted : (image : List ℕ) (tag : Tag) (bit : Bool) → length (slotted image tag bit).image ≡ length image
unfolding slotted
length_slotted image tag bit = length_performed _ _ tag.counters image

pub length_tick : (image : List ℕ) (tag : Tag) (reading : ℕ) → length (tick_tag image tag reading).image ≡ length image
unfolding tick_tag
length_tick image tag reading = (leaves_ticked image tag.counters reading).keeps.lengths

-- ---- the record's ranges

performed_in_range : (deed : Deed) (c : Counters) (image : List ℕ) → mission.counters_in_range c ≡ true →
    mission.counters_in_range (performed_counters deed c image) ≡ true
unfolding performed_counters
performed_in_range Deed.Nothing c image r = r
performed_in_range Deed.Store c image r = r
performed_in_range Deed.Clear c image r = r
performed_in_range Deed.Start c image r = range_started image c r
performed_in_range Deed.Stop c image r = r
performed_in_range Deed.Convert c image r = r

pub slotted_in_range : (image : List ℕ) (tag : Tag) (bit : Bool) → tag_in_range tag ≡ true →
    tag_in_range (slotted image tag bit).answered.tag ≡ true
unfolding slotted
slotted_in_range image tag bit h =
    let r = ranges_of tag h in
    let answer = answer_to image tag.code (exchange.asks tag.exchange bit) in
    let s = exchange.slot_of tag.exchange bit answer in
    in_ranges _
    (record {
      number = rw (exchange-laws.number_kept tag.exchange bit answer) r.number;
      code = r.code;
      counters = performed_in_range s.deed tag.counters image r.counters;
      line = exchange-laws.slot_in_range tag.exchange bit answer r.line;
    })

pub reset_in_range : (image : List ℕ) (tag : Tag) → tag_in_range tag ≡ true → tag_in_range (reset_tag image tag).answered.tag ≡ true
unfolding reset_tag
reset_in_range image tag h =
    let r = ranges_of tag h in
    in_ranges _
    (record {
      number = r.number;
      code = r.code;
      counters = r.counters;
      line = exchange-laws.begun_in_range tag.exchange (standard tag.exchange.select.mode) r.line;
    })

pub short_in_range : (image : List ℕ) (tag : Tag) → tag_in_range tag ≡ true → tag_in_range (short_tag image tag).answered.tag ≡ true
unfolding short_tag
short_in_range image tag h =
    let r = ranges_of tag h in
    in_ranges _
    (record {
      number = rw (exchange-laws.short_number_lem tag.exchange) r.number;
      code = r.code;
      counters = r.counters;
      line = exchange-laws.short_in_range tag.exchange r.line;
    })

pub tick_in_range : (image : List ℕ) (tag : Tag) (reading : ℕ) → reading ≤ 2047 → tag_in_range tag ≡ true →
    tag_in_range (tick_tag image tag reading).answered.tag ≡ true
unfolding tick_tag
tick_in_range image tag reading small h =
    let r = ranges_of tag h in
    in_ranges _
    (record {
      number = r.number;
      code = r.code;
      counters = range_ticked image tag.counters reading r.counters small;
      line = r.line;
    })

-- What each event does to a tag (document 01, "Events and what they return"; request #103): a slot, a reset, a short
-- reset, a tick. Assumes nothing.
use Rattle.std.specs.Prelude.{Bool, true, false, not, List, ℕ}
use Rattle.bits.specs.Bits.{digit}
use Rattle.exchange.specs.declared.Exchange.{Exchange}
use Rattle.exchange.specs.declared.Slotted.{Slotted}
use Rattle.exchange.specs.Exchange as exchange
use Rattle.select.specs.Select.{speed_in}
use Rattle.image.specs.Answers.{alarmed, may_read, may_control, may_copy}
use Rattle.image.specs.Sent.{sent_at}
use Rattle.image.specs.Stored.{stored_page}
use Rattle.bus.specs.declared.Deed.{Deed}
use Rattle.bus.specs.declared.Question.{Question}
use Rattle.mission.specs.declared.Counters.{Counters}
use Rattle.mission.specs.Mission as mission
use Rattle.record.specs.declared.Answered.{Answered}
use Rattle.record.specs.declared.Tag.{Tag}
use Rattle.record.specs.Record.{Outcome, accepted}
pub mod Laws

-- ---- a slot

-- what the image answers to the exchange's question
unfoldable pub answer_to : List ℕ → ℕ → Question → ℕ
answer_to image code Question.Nothing = 0
answer_to image code Question.Alarm = digit (alarmed image)
answer_to image code (Question.MayRead field) = digit (may_read image field)
answer_to image code (Question.MayCopy field address) = digit (may_copy image field address)
answer_to image code (Question.MayControl field) = digit (may_control image field)
answer_to image code (Question.Byte address) = sent_at image code address

-- what a deed does to the image; `x` is the exchange after the slot, whose scratchpad and TA a Copy stores
unfoldable pub performed : Deed → Exchange → Counters → List ℕ → List ℕ
performed Deed.Nothing x counters image = image
performed Deed.Store x counters image = stored_page image x.held.pad x.held.ta
performed Deed.Clear x counters image = mission.cleared image
performed Deed.Start x counters image = mission.started image
performed Deed.Stop x counters image = mission.stopped image
performed Deed.Convert x counters image = mission.forced image counters

-- and to the counters: a Start begins the minute and the wait anew
unfoldable pub performed_counters : Deed → Counters → List ℕ → Counters
performed_counters Deed.Start counters image = mission.started_counters image counters
performed_counters Deed.Nothing counters image = counters
performed_counters Deed.Store counters image = counters
performed_counters Deed.Clear counters image = counters
performed_counters Deed.Stop counters image = counters
performed_counters Deed.Convert counters image = counters

-- a slot that is answered, and its deed done
abbrev pub done : Tag → List ℕ → Slotted → Outcome
done tag image s =
    record {
      answered =
          accepted
          (record { code = tag.code; counters = performed_counters s.deed tag.counters image; exchange = s.exchange })
          s.line;
      image = performed s.deed s.exchange tag.counters image;
    }

unfoldable pub slotted : List ℕ → Tag → Bool → Outcome
slotted image tag bit =
    done tag image (exchange.slot_of tag.exchange bit (answer_to image tag.code (exchange.asks tag.exchange bit)))

-- ---- resets and a tick

-- "2 reset": bit 0, the presence
abbrev pub present : Tag → Answered
present tag = accepted (record { code = tag.code; counters = tag.counters; exchange = exchange.after_reset tag.exchange }) false

-- it has nothing to do with the image
unfoldable pub reset_tag : List ℕ → Tag → Outcome
reset_tag image tag = record { answered = present tag; image = image }

-- "Event code 4 is a short reset": bit 0, the presence, at overdrive; "at standard speed nothing at all (bit 1)"
abbrev pub shortened : Tag → Answered
shortened tag =
    accepted (record { code = tag.code; counters = tag.counters; exchange = exchange.after_short tag.exchange })
    (not (speed_in tag.exchange.select.mode))

-- nor has a short one
unfoldable pub short_tag : List ℕ → Tag → Outcome
short_tag image tag = record { answered = shortened tag; image = image }

-- "3 tick of one second": bit 1
unfoldable pub tick_tag : List ℕ → Tag → ℕ → Outcome
tick_tag image tag reading =
    record {
      answered =
          accepted
          (record {
            code = tag.code;
            counters = mission.ticked_counters image tag.counters reading;
            exchange = tag.exchange;
          })
          true;
      image = mission.ticked image tag.counters reading;
    }

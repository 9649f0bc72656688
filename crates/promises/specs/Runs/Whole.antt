-- An image of 8,832 bytes and a scratchpad of 32 stay such over every event. Assumes nothing.
use Rattle.std.specs.Prelude.{◌≡◌, List, ℕ, length, replicate}
use Rattle.std.proofs.Common.{sym, ◌∙◌, arith}
use Rattle.std.proofs.Math.Path.{subst}
use Rattle.std.proofs.Math.Logic.{dite}
use Rattle.std.proofs.Math.Decide.{dec_lt}
use Rattle.bits.specs.Bytes.{Bytes, bytes_set, bytes_blank}
use Rattle.bus.specs.declared.Deed.{Deed}
use Rattle.conversion.specs.Conversion.Whole.{Whole}
use Rattle.event.specs.Event.{performed, slotted, reset_tag, short_tag, tick_tag}
use Rattle.exchange.specs.declared.Exchange.{Exchange}
use Rattle.exchange.specs.Exchange.Pad.{PaddedIn, exchange_padded, begun_padded, short_padded, new_padded}
use Rattle.image.specs.Stored.{stored_page}
use Rattle.image.specs.Stored.Laws.{keeps_stored_page, bytes_stored_page}
use Rattle.mission.specs.declared.Counters.{Counters}
use Rattle.mission.specs.Mission.Whole.{whole_ticked, whole_cleared, whole_started, whole_stopped, whole_forced}
use Rattle.select.specs.Select.{reset_select}
use Rattle.tag.specs.Tag.{new_image}
use Rattle.tag.proofs.Tag.Laws.{new_good, new_made, length_new}
use Rattle.promises.specs.Runs.{State, Event, after, Reached}
use Rattle.promises.specs.Runs.Laws.{Sound, reached_sound, slot_happens, reset_happens, short_happens, reset_keeps, short_keeps, tick_happens, tick_passed}

-- ---- the image

-- a page stored
pub whole_stored : {image : List ℕ} (pad : List ℕ) (a : ℕ) → length pad ≡ 32 → Bytes pad → Whole image → Whole (stored_page image pad a)
whole_stored {image} pad a size bytes w =
    record { size = (keeps_stored_page image pad a size).lengths ∙ w.size; bytes = bytes_stored_page image pad a w.bytes bytes }

-- any deed
pub whole_performed : (deed : Deed) (x : Exchange) (c : Counters) {image : List ℕ} → PaddedIn x → Whole image → Whole (performed deed x c image)
unfolding performed
whole_performed Deed.Nothing x c p w = w
whole_performed Deed.Store x c p w = whole_stored x.held.pad x.held.ta p.size p.bytes w
whole_performed Deed.Clear x c p w = whole_cleared w
whole_performed Deed.Start x c p w = whole_started w
whole_performed Deed.Stop x c p w = whole_stopped w
whole_performed Deed.Convert x c p w = whole_forced c w

-- a new tag's
whole_new : Whole (new_image 8832)
unfolding new_image
whole_new =
    record { size = length_new 8832; bytes = bytes_set (replicate 8832 0) 0x0214 0x80 (bytes_blank 8832) (omega arith) }

-- ---- any event

-- a scratchpad of 32 bytes stays one, and with it an image of 8,832
module _ {s : State} (sound : Sound s) (padded : PaddedIn s.tag.exchange) where
  pub padded_after : (e : Event) → PaddedIn (after s e).tag.exchange
  unfolding after slotted reset_tag short_tag tick_tag
  padded_after (Event.slot bit) = rw (slot_happens sound bit) (exchange_padded s.tag.exchange bit _ padded)
  padded_after Event.reset = rw (reset_happens sound) (begun_padded s.tag.exchange (reset_select s.tag.exchange.select) padded)
  padded_after Event.short = rw (short_happens sound) (short_padded s.tag.exchange padded)
  padded_after (Event.tick reading) =
      dite (dec_lt 2047 reading) (λ high. subst (λ (t : State). PaddedIn t.tag.exchange) (sym (tick_passed sound reading high)) padded)
      (λ low. rw (tick_happens sound reading (omega arith)) padded)

  pub whole_after : Whole s.image → (e : Event) → Whole (after s e).image
  unfolding after slotted tick_tag
  whole_after w (Event.slot bit) =
      rw (slot_happens sound bit) (whole_performed _ _ s.tag.counters (exchange_padded s.tag.exchange bit _ padded) w)
  whole_after w Event.reset = subst Whole (sym (reset_keeps sound).image) w
  whole_after w Event.short = subst Whole (sym (short_keeps sound).image) w
  whole_after w (Event.tick reading) =
      dite (dec_lt 2047 reading) (λ high. subst (λ (t : State). Whole t.image) (sym (tick_passed sound reading high)) w)
      (λ low. rw (tick_happens sound reading (omega arith)) (whole_ticked s.tag.counters reading w))

-- ---- from a new tag on

-- every reached state has both
pub reached_padded : {s : State} → Reached s → PaddedIn s.tag.exchange
reached_padded (Reached.new image number code e) =
    let good = new_good image number code e in
    rw (new_made image number code good.0 good.1 good.2) (new_padded number)
reached_padded (Reached.event e before accepted) = padded_after (reached_sound before) (reached_padded before) e

pub reached_whole : {s : State} → Reached s → Whole s.image
reached_whole (Reached.new image number code e) =
    let good = new_good image number code e in
    rw (new_made image number code good.0 good.1 good.2) whole_new
reached_whole (Reached.event e before accepted) = whole_after (reached_sound before) (reached_padded before) (reached_whole before) e

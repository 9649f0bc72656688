-- A mission that goes on: over events that spare its registers and do no Stop, its image holds what its history says, and the ticks
-- to come are on time. Assumes nothing.
use Rattle.std.specs.Prelude.{◌≡◌, Bool, true, false, List, [], ◌∷◌, ◌++◌, ℕ, leb}
use Rattle.std.proofs.Common.{append-nil, leb-true, leb-false}
use Rattle.std.proofs.Math.Seq.{append_snoc}
use Rattle.bits.specs.Bits.{bit_of}
use Rattle.bits.specs.Choose.{either}
use Rattle.image.specs.Fields.{flag_at}
use Rattle.promises.specs.Demand2.Course.{Solid, solid_after, tick_leaves, slot_leaves, slot_padded, slot_stores, holds_kept}
use Rattle.promises.specs.Demand2.Deeds.{holds_performed}
use Rattle.promises.specs.Demand2.Effects.{mip_goes}
use Rattle.promises.specs.Demand2.Events.{slot_at, is_stop}
use Rattle.promises.specs.Demand2.Holds.{Holds}
use Rattle.promises.specs.Demand2.Measures.{holds_ticked}
use Rattle.promises.specs.Runs.{State, Event, after, run, Always}
use Rattle.promises.specs.Runs.Laws.{reset_keeps, short_keeps, tick_passed}
use Rattle.promises.specs.Sentences.Course.{mission_ticks, Going}
use Rattle.promises.specs.Sentences.Mission.{mip_of}
use Rattle.promises.specs.Words

-- it is no Stop
going_on : {s : State} → Solid s → (bit : Bool) → mip_of (after s (Event.slot bit)).image ≡ true → is_stop (slot_at s bit).deed ≡ false
unfolding Words.bit flag_at bit_of
going_on {s} solid bit goes =
    let slot = slot_at s bit in
    mip_goes solid.whole s.tag.counters slot.exchange (slot_padded solid bit) slot.deed (rw (slot_leaves solid bit) at goes)

pub holds_run : {start readings : List ℕ} {s : State} (events : List Event) → Solid s → Holds start readings s.image s.tag.counters
    → Always Going s events
    → Solid (run s events).state
    × Holds start (readings ++ mission_ticks s events) (run s events).state.image (run s events).state.tag.counters
unfolding run Always mission_ticks Words.bit flag_at bit_of
holds_run {readings = readings} [] solid h going = (solid, rw (append-nil readings) h)
holds_run {start} {readings} {s} (Event.tick reading ∷ events) solid h going =
    let next = solid_after solid (Event.tick reading) in
    let end = (run (after s (Event.tick reading)) events).state in
    rw h.running.time.running
    (either (λ (ticks : List ℕ). Solid end × Holds start (readings ++ ticks) end.image end.tag.counters) (leb reading 2047)
    (λ low.
    let small = leb-true reading 2047 low in
    rw (← append_snoc readings reading (mission_ticks (after s (Event.tick reading)) events))
    (holds_run {readings = readings ++ reading ∷ []} events next (rw (tick_leaves solid.sound reading small) (holds_ticked h reading small)) going.1))
    (λ high. holds_run {readings = readings} events next (rw (tick_passed solid.sound reading (leb-false reading 2047 high)) h) going.1))
holds_run {readings = readings} (Event.reset ∷ events) solid h going =
    holds_run {readings = readings} events (solid_after solid Event.reset) (holds_kept (reset_keeps solid.sound) h) going.1
holds_run {readings = readings} (Event.short ∷ events) solid h going =
    holds_run {readings = readings} events (solid_after solid Event.short) (holds_kept (short_keeps solid.sound) h) going.1
holds_run {readings = readings} {s = s} (Event.slot bit ∷ events) solid h going =
    holds_run {readings = readings} events (solid_after solid (Event.slot bit))
    (rw (slot_leaves solid bit)
    (holds_performed (slot_at s bit).exchange (slot_padded solid bit) (slot_at s bit).deed (going_on solid bit going.0.goes)
    (slot_stores solid bit going.0.spares) h))
    going.1

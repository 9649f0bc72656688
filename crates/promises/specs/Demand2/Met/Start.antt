-- The slots of a Start come to a tag that may start: in the last of them the deed is Start, over the image as it was. Assumes nothing.
use Rattle.std.specs.Prelude.{◌≡◌, Bool, List, [], ◌∷◌, ◌++◌, ℕ, ◌^◌, ◌<◌}
use Rattle.std.proofs.Math.Path.{refl}
use Rattle.std.proofs.Math.Bool.{true, false}
use Rattle.std.proofs.Math.Dec.{eqb}
use Rattle.bits.specs.Bits.{bit_of, bits_of, released}
use Rattle.exchange.specs.Exchange.{slot_of, asks}
use Rattle.exchange.specs.Runs as exchange
use Rattle.exchange.specs.Runs.{Way, way_mode, commanding}
use Rattle.bus.specs.declared.Control.{Control}
use Rattle.bus.specs.declared.Deed.{Deed}
use Rattle.bus.specs.declared.Hearing.{Hearing}
use Rattle.bus.specs.declared.Question.{Question}
use Rattle.bus.specs.declared.Stage.{Stage}
use Rattle.bus.specs.Bus.{go_to}
use Rattle.field.specs.Field.{guarded}
use Rattle.image.specs.Fields.{flag_at}
use Rattle.mission.specs.Mission.Commands.{starts}
use Rattle.event.specs.Event.{answer_to, slotted, performed, performed_counters}
use Rattle.promises.specs.Demand2.Course.{Solid, slot_leaves, solid_run, reached_solid, four_facts}
use Rattle.promises.specs.Demand2.Events.{slot_at}
use Rattle.promises.specs.Demand2.Met.{start_slots, StartMet}
use Rattle.promises.specs.Line.ControlRun.{control_byte, control_bus, control_head, control_done}
use Rattle.promises.specs.Line.Slots.{slots, with_exchange, answers_of, Ends, ends_lastly, session, session_then}
use Rattle.promises.specs.Runs.{State, Event, run}
use Rattle.promises.specs.Runs.Laws.{Sound, reached_sound}
use Rattle.promises.specs.Sentences.Commands.{PassesFull}
use Rattle.promises.specs.Sentences.Commands.Passwords.{full_may}
use Rattle.promises.specs.Sentences.Course.{Starts}
use Rattle.promises.specs.Sentences.Mission.{MayStart}
use Rattle.promises.specs.Words.{bit, number_of}

-- slots that do nothing but with the last one: before it the image is as it was, and it does this
slots_before : (s : State) (bits : List Bool) (bit : Bool) (deed : Deed) →
    Ends deed (exchange.run (answers_of s) s.tag.exchange (bits ++ (bit ∷ []))).deeds →
    let u = (slots s bits).state in (u.image ≡ s.image) × ((slot_at u bit).deed ≡ deed)
unfolding slots exchange.run Ends slotted performed performed_counters slot_at
slots_before s [] bit deed e = (refl, e)
slots_before s (b ∷ []) bit deed e =
    let slot = slot_of s.tag.exchange b (answers_of s (asks s.tag.exchange b)) in
    rw e.0 (slots_before (with_exchange s slot.exchange) [] bit deed e.1)
slots_before s (b ∷ c ∷ cs) bit deed e =
    let slot = slot_of s.tag.exchange b (answers_of s (asks s.tag.exchange b)) in
    rw (slots, e.0) (slots_before (with_exchange s slot.exchange) (c ∷ cs) bit deed e.1)

-- FFh is eight 1s
ones : bits_of 8 0xFF ≡ released 7 ++ (true ∷ [])
unfolding bits_of bit_of
ones = refl

module _ {s : State} (sound : Sound s) (way : Way) (field : ℕ) (fits : field < 2 ^ 64) (right : PassesFull s field) where
  pub start_comes : let u = (run s (session s way (start_slots field))).state in
      (u.image ≡ s.image) × ((slot_at u true).deed ≡ Deed.Start)
  unfolding answer_to control_byte guarded
  start_comes =
      let number = number_of s in
      let mode = way_mode way false in
      let held = s.tag.exchange.held in
      let bus = control_bus Control.Start in
      let answer : eqb (answers_of s (Question.MayControl field)) 1 ≡ true = rw (full_may s field right) in
      let headed = with_exchange s (commanding number mode held (go_to bus (Stage.Hears (Hearing.Confirm Control.Start)))) in
      let done = control_done (answers_of s) number mode held Control.Start bus in
      let came = session_then s sound way (bits_of 8 0xCC ++ bits_of 64 field) (released 7)
      (control_head (answers_of s) number mode held Control.Start refl field fits answer) refl in
      rw came (slots_before headed (released 7) true Deed.Start (rw (← ones, done) (ends_lastly 7 Deed.Start)))

-- that deed, done, makes MIP 1
pub deed_starts : {s : State} → Solid s → (slot_at s true).deed ≡ Deed.Start → MayStart s.image → Starts s (Event.slot true)
unfolding performed bit flag_at bit_of
deed_starts solid deed may =
    record { idle = may.mip; runs = rw (slot_leaves solid true, deed) (starts solid.whole (four_facts may)).mip }

pub start_met : StartMet
start_met s way field reached fits right may =
    let came = start_comes (reached_sound reached) way field fits right in
    let solid = solid_run (session s way (start_slots field)) (reached_solid reached) in
    deed_starts solid came.1 (rw came.0 may)

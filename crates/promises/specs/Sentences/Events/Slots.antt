-- A slot of a tag that listens, and of one that sends: by where choosing and the memory command stand. Assumes nothing.
use Rattle.std.specs.Prelude.{true, false, ◌≡◌, refl, ℕ, eqb, ltb}
use Rattle.std.proofs.lemmas.Bool.{false≢true}
use Rattle.std.proofs.Common.{sym, ap, ◌∙◌}
use Rattle.bits.specs.Choose.{choice}
use Rattle.bus.specs.declared.Bus.{Bus}
use Rattle.bus.specs.declared.Deed.{Deed}
use Rattle.bus.specs.declared.Held.{Held}
use Rattle.bus.specs.declared.Moved.{Moved}
use Rattle.bus.specs.declared.Question.{Question}
use Rattle.bus.specs.declared.Stage.{Stage}
use Rattle.exchange.specs.declared.Exchange.{Exchange}
use Rattle.exchange.specs.declared.Slotted.{Slotted}
use Rattle.exchange.specs.Exchange as exchange
use Rattle.field.specs.Field.{gathered_bit}
use Rattle.memory.specs.Hear.{heard_bit}
use Rattle.memory.specs.Memory as memory
use Rattle.memory.specs.Memory.Laws.{whole_listens, judged_listens}
use Rattle.memory.specs.Send.{sent_bit, alternating}
use Rattle.select.specs.declared.Choosing.{Choosing}
use Rattle.select.specs.Select as select
use Rattle.event.specs.Event.{performed, slotted}
use Rattle.record.specs.Record.{Outcome}
use Rattle.promises.specs.Line.Slots.{answers_of}
use Rattle.promises.specs.Ranges.{Fit}
use Rattle.promises.specs.Ranges.Laws.{fit_sound}
use Rattle.promises.specs.Runs.{State, Event, after, line_bit}
use Rattle.promises.specs.Runs.Laws.{slot_happens}
use Rattle.promises.specs.Sentences.Events.{sends, sends_now}

-- ---- "a silent or listening tag gives 1"

-- a memory command that hears
stage_listens : (g : Stage) (held : Held) (bus : Bus) (answer : ℕ) → sends Choosing.Selected g ≡ false → (memory.stage_slot g held bus true answer).line ≡ true
unfolding sends memory.stage_slot heard_bit gathered_bit
stage_listens Stage.Over held bus answer quiet = refl
stage_listens (Stage.Hears h) held bus answer quiet =
    choice (λ (m : Moved). m.line ≡ true) (ltb bus.at 7) refl (whole_listens h held bus _)
stage_listens (Stage.Gathers g) held bus answer quiet =
    choice (λ (m : Moved). m.line ≡ true) (ltb bus.at 63) refl (judged_listens g held bus _)
stage_listens (Stage.Sends s) held bus answer quiet = absurd (false≢true (sym quiet))
stage_listens Stage.Copied held bus answer quiet = absurd (false≢true (sym quiet))

-- and choosing
exchange_listens : (c : Choosing) (x : Exchange) (answer : ℕ) → x.select.choosing ≡ c → sends c x.bus.stage ≡ false →
    (exchange.slot_of x true answer).line ≡ true
unfolding sends exchange.slot_of select.is_chosen select.slot_of select.slot_at memory.slot_of memory.on_line
exchange_listens Choosing.Selected x answer e quiet = rw e (stage_listens x.bus.stage x.held x.bus answer quiet)
exchange_listens Choosing.Silent x answer e quiet = rw e
exchange_listens (Choosing.Command heard count) x answer e quiet = rw e
exchange_listens (Choosing.Matching fast at) x answer e quiet = rw e
exchange_listens (Choosing.Awaiting at) x answer e quiet = rw e
exchange_listens (Choosing.Reading at) x answer e quiet = absurd (false≢true (sym quiet))
exchange_listens (Choosing.Giving at) x answer e quiet = absurd (false≢true (sym quiet))
exchange_listens (Choosing.Complementing at) x answer e quiet = absurd (false≢true (sym quiet))

pub slot_listens : {s : State} → Fit s → sends_now s ≡ false → line_bit s (Event.slot true) ≡ true
unfolding slotted
slot_listens {s} fit quiet =
    ap (λ (o : Outcome). o.answered.line) (slot_happens (fit_sound fit) true)
    ∙ exchange_listens s.tag.exchange.select.choosing s.tag.exchange _ refl quiet

-- ---- a tag that sends has sent its bit, whatever the master does

-- what is left, beside the line's bit
record SameLeft (a b : Slotted) : Type 0 where
  pub exchange : a.exchange ≡ b.exchange
  pub deed : a.deed ≡ b.deed
  pub nothing : b.deed ≡ Deed.Nothing

-- a slot with either bit, answered by the image
abbrev EitherBit : (Question → ℕ) → Exchange → Type 0
EitherBit answers x = SameLeft (exchange.slot_of x false (answers (exchange.asks x false))) (exchange.slot_of x true (answers (exchange.asks x true)))

stage_sends : (g : Stage) (x : Exchange) (answers : Question → ℕ) → x.select.choosing ≡ Choosing.Selected → x.bus.stage ≡ g →
    sends Choosing.Selected g ≡ true → EitherBit answers x
unfolding sends exchange.slot_of exchange.asks select.is_chosen memory.slot_of memory.on_line memory.asks memory.stage_asks memory.stage_slot sent_bit alternating
stage_sends (Stage.Sends s) x answers e g busy = rw (e, g) (record { exchange = refl; deed = refl; nothing = refl })
stage_sends Stage.Copied x answers e g busy =
    rw (e, g) (record { exchange = refl; deed = refl; nothing = choice (λ (m : Moved). m.deed ≡ Deed.Nothing) (eqb x.bus.at 0) refl refl })
stage_sends Stage.Over x answers e g busy = absurd (false≢true busy)
stage_sends (Stage.Hears h) x answers e g busy = absurd (false≢true busy)
stage_sends (Stage.Gathers f) x answers e g busy = absurd (false≢true busy)

exchange_sends : (c : Choosing) (x : Exchange) (answers : Question → ℕ) → x.select.choosing ≡ c → sends c x.bus.stage ≡ true → EitherBit answers x
unfolding sends exchange.slot_of exchange.asks select.is_chosen select.ends_command select.slot_of select.slot_at
exchange_sends Choosing.Selected x answers e busy = stage_sends x.bus.stage x answers e refl busy
exchange_sends (Choosing.Reading at) x answers e busy = rw e (record { exchange = refl; deed = refl; nothing = refl })
exchange_sends (Choosing.Giving at) x answers e busy = rw e (record { exchange = refl; deed = refl; nothing = refl })
exchange_sends (Choosing.Complementing at) x answers e busy = rw e (record { exchange = refl; deed = refl; nothing = refl })
exchange_sends Choosing.Silent x answers e busy = absurd (false≢true busy)
exchange_sends (Choosing.Command heard count) x answers e busy = absurd (false≢true busy)
exchange_sends (Choosing.Matching fast at) x answers e busy = absurd (false≢true busy)
exchange_sends (Choosing.Awaiting at) x answers e busy = absurd (false≢true busy)

pub slot_sends : {s : State} → Fit s → sends_now s ≡ true → after s (Event.slot false) ≡ after s (Event.slot true)
unfolding after slotted
slot_sends {s} fit busy =
    let left = exchange_sends s.tag.exchange.select.choosing s.tag.exchange (answers_of s) refl busy in
    rw (slot_happens (fit_sound fit) false, slot_happens (fit_sound fit) true, left.exchange, left.deed)

-- and has done nothing to the image
pub slot_spares : {s : State} → Fit s → sends_now s ≡ true → (after s (Event.slot true)).image ≡ s.image
unfolding after slotted performed
slot_spares {s} fit busy =
    let left = exchange_sends s.tag.exchange.select.choosing s.tag.exchange (answers_of s) refl busy in
    rw (slot_happens (fit_sound fit) true, left.nothing)

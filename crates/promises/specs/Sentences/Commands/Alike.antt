-- What a slot looks at of the image: two tags that show it the same go on alike. Assumes nothing.
use Rattle.std.specs.Prelude.{Bool, List, ◌≡◌, ℕ, zero, suc, ◌+◌, ◌≤◌, ◌<◌, eqb, get_or}
use Rattle.std.proofs.Math.Bool.{true, false, and-false}
use Rattle.std.proofs.lemmas.Bool.{false≢true}
use Rattle.std.proofs.Math.Path.{refl, sym, ap}
use Rattle.std.proofs.Common.{◌∙◌, arith}
use borrow.Author.Tests.{eqb-true, ltb-true, ltb-false, lt-leb, le-leb}
use Rattle.std.proofs.Math.Dec.{ltb}
use Rattle.bits.specs.Bits.{digit}
use Rattle.bits.specs.Choose.{either}
use Rattle.bus.specs.declared.Guarded.{Guarded}
use Rattle.bus.specs.declared.Question.{Question}
use Rattle.bus.specs.declared.Sending.{Sending}
use Rattle.bus.specs.declared.Stage.{Stage}
use Rattle.exchange.specs.declared.Exchange.{Exchange}
use Rattle.exchange.specs.declared.Slotted.{Slotted}
use Rattle.exchange.specs.Exchange as exchange
use Rattle.exchange.specs.Exchange.Laws.{parts}
use Rattle.field.specs.Field.{field_question, field_asks}
use Rattle.image.specs.Answers.{checked, may_control, may_read, may_copy}
use Rattle.image.specs.Fields.{word_at, flag_at}
use Rattle.memory.specs.Memory as memory
use Rattle.memory.specs.Send.{send_asks}
use Rattle.select.specs.declared.Choosing.{Choosing}
use Rattle.select.specs.Select as select
use Rattle.event.specs.Event.{answer_to, slotted, reset_tag}
use Rattle.record.specs.Record.Laws.{ranges_of}
use Rattle.promises.specs.Demand3.Slot.{gathered_lt}
use Rattle.promises.specs.Line.Choosing.{alarm_is}
use Rattle.promises.specs.Line.Slots.{answers_of, line_event}
use Rattle.promises.specs.Ranges.{Fit}
use Rattle.promises.specs.Ranges.Laws.{fit_sound}
use Rattle.promises.specs.Runs.{State, Event, after, line_bit}
use Rattle.promises.specs.Runs.Laws.{slot_happens, reset_happens}
use Rattle.promises.specs.Sentences.Slots.{SameShown}
use Rattle.promises.specs.Sentences.Commands.Cases.{asking_cases}
use Rattle.promises.specs.Sentences.Memory.Laws.{sent_is}
use Rattle.promises.specs.Words.Laws.{byte_low}

-- ---- passwords

-- some bytes that are the same are the same number
word_same : (p q : List ℕ) (at count : ℕ) → ((a : ℕ) → at ≤ a → a < at + count → get_or p a 0 ≡ get_or q a 0) → word_at p at count ≡ word_at q at count
unfolding word_at
word_same p q at zero same = refl
word_same p q at (suc count) same =
    rw (same at (omega arith) (omega arith), word_same p q (suc at) count (λ a lo hi. same a (omega arith) (omega arith)))

module _ {s t : State} (fit-s : Fit s) (fit-t : Fit t) (same : s.tag.exchange ≡ t.tag.exchange) (shown : SameShown s t) (b : Bool) where
  abbrev x : Exchange
  x = s.tag.exchange

  range : exchange.exchange_in_range x ≡ true
  range = (ranges_of s.tag (fit_sound fit-s).ranges).line

  -- at the last bit of a password field
  module _ (g : Guarded) (stage : x.bus.stage ≡ Stage.Gathers g) (last : x.bus.at ≡ 63) where
    byte_same : (a : ℕ) → 0x0227 ≤ a → a < 0x0238 → get_or s.image a 0 ≡ get_or t.image a 0
    byte_same a lo hi =
        sym (byte_low s.image a (omega arith))
        ∙ shown.fields g stage last a (rw (lt-leb a 0x0215 (omega arith), le-leb 0x0227 a lo, le-leb a 0x0237 (omega arith)) (simp (and-false)))
        ∙ byte_low t.image a (omega arith)

    password_same : (at : ℕ) → 0x0227 ≤ at → at + 8 ≤ 0x0238 → word_at s.image at 8 ≡ word_at t.image at 8
    password_same at lo hi = word_same s.image t.image at 8 (λ a above below. byte_same a (omega arith) (omega arith))

    control_same : (field : ℕ) → may_control s.image field ≡ may_control t.image field
    unfolding may_control checked
    control_same field = rw (byte_same 0x0227 (omega arith) (omega arith), password_same 0x0230 (omega arith) (omega arith))

    field_same : (field : ℕ) → answers_of s (field_question g x.bus field) ≡ answers_of t (field_question g x.bus field)
    unfolding answer_to may_read may_copy flag_at
    field_same field = by g
      where
        by : (h : Guarded) → answers_of s (field_question h x.bus field) ≡ answers_of t (field_question h x.bus field)
        by Guarded.Reading = rw (control_same field, password_same 0x0228 (omega arith) (omega arith))
        by Guarded.Copying = rw (control_same field, shown.fields g stage last 0x0215 refl)
        by (Guarded.Controlling control) = rw (control_same field)

  -- where a memory command stands
  stage_same : (k : Stage) → x.bus.stage ≡ k → answers_of s (memory.stage_asks k x.bus b) ≡ answers_of t (memory.stage_asks k x.bus b)
  unfolding memory.stage_asks field_asks send_asks answer_to
  stage_same Stage.Over e = refl
  stage_same (Stage.Hears h) e = refl
  stage_same (Stage.Gathers g) e =
      let few = gathered_lt x g range e in
      either (λ (q : Question). answers_of s q ≡ answers_of t q) (ltb x.bus.at 63) (λ more. refl)
      (λ last. field_same g e (omega (arith, ltb-false x.bus.at 63 last)) _)
  stage_same (Stage.Sends Sending.Memory) e =
      either (λ (q : Question). answers_of s q ≡ answers_of t q) (eqb x.bus.at 0)
      (λ first.
      sym (sent_is s.image fit-s.size s.tag.code x.bus.address)
      ∙ shown.bytes e (eqb-true x.bus.at 0 first)
      ∙ sent_is t.image fit-t.size t.tag.code x.bus.address)
      (λ past. refl)
  stage_same (Stage.Sends Sending.PadLow) e = refl
  stage_same (Stage.Sends Sending.PadHigh) e = refl
  stage_same (Stage.Sends Sending.PadStatus) e = refl
  stage_same (Stage.Sends (Sending.PadData place)) e = refl
  stage_same (Stage.Sends (Sending.CrcLow next)) e = refl
  stage_same (Stage.Sends (Sending.CrcHigh next)) e = refl
  stage_same Stage.Copied e = refl

  -- the alarm is asked for at the end of a ROM command's byte
  alarm_asked : (c : Choosing) → x.select.choosing ≡ c → select.choosing_in_range c ≡ true → select.ends_command (λ byte. eqb byte 0xEC) c b ≡ true →
      answers_of s Question.Alarm ≡ answers_of t Question.Alarm
  unfolding select.ends_command select.choosing_in_range answer_to
  alarm_asked (Choosing.Command heard count) e fits ends =
      ap digit (alarm_is s ∙ shown.alarms heard (e ∙ ap (Choosing.Command heard) (whole (ltb count 7) refl)) ∙ sym (alarm_is t))
    where
      whole : (more : Bool) → ltb count 7 ≡ more → count ≡ 7
      whole true m = absurd (false≢true (rw m at ends))
      whole false m = omega (arith, ltb-false count 7 m, ltb-true count 8 fits)
  alarm_asked Choosing.Silent e fits ends = absurd (false≢true ends)
  alarm_asked (Choosing.Reading at) e fits ends = absurd (false≢true ends)
  alarm_asked (Choosing.Matching fast at) e fits ends = absurd (false≢true ends)
  alarm_asked (Choosing.Giving at) e fits ends = absurd (false≢true ends)
  alarm_asked (Choosing.Complementing at) e fits ends = absurd (false≢true ends)
  alarm_asked (Choosing.Awaiting at) e fits ends = absurd (false≢true ends)
  alarm_asked Choosing.Selected e fits ends = absurd (false≢true ends)

  -- so both answer alike
  answers_same : answers_of s (exchange.asks x b) ≡ answers_of t (exchange.asks x b)
  unfolding memory.asks answer_to
  answers_same =
      asking_cases x b (λ q. answers_of s q ≡ answers_of t q) (λ chosen. stage_same x.bus.stage refl)
      (alarm_asked x.select.choosing refl (parts x range).0) refl

  pub goes_alike : (line_bit s (Event.slot b) ≡ line_bit t (Event.slot b)) × ((after s (Event.slot b)).tag.exchange ≡ (after t (Event.slot b)).tag.exchange)
  unfolding after slotted
  goes_alike =
      let left = slot_happens (fit_sound fit-s) b in
      let right = slot_happens (fit_sound fit-t) b in
      let moved : exchange.slot_of x b (answers_of s (exchange.asks x b)) ≡ exchange.slot_of t.tag.exchange b (answers_of t (exchange.asks t.tag.exchange b)) =
      rw (answers_same, same) in (
        line_event s (Event.slot b) left ∙ ap (λ (m : Slotted). m.line) moved ∙ sym (line_event t (Event.slot b) right),
        rw (left, right) (ap (λ (m : Slotted). m.exchange) moved),
      )

pub reset_alike : {s t : State} → Fit s → Fit t → s.tag.exchange ≡ t.tag.exchange → (after s Event.reset).tag.exchange ≡ (after t Event.reset).tag.exchange
unfolding after reset_tag
reset_alike fit-s fit-t same = rw (reset_happens (fit_sound fit-s), reset_happens (fit_sound fit-t), same)

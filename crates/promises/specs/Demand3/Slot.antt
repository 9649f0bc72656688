-- One slot of a tag with checking on: what it asks, what is answered where a field carries no password, and what it does. Assumes nothing.
use Rattle.std.specs.Prelude.{◌≡◌, Bool, true, List, ◌≢◌, ℕ, ◌<◌, eqb, ltb, if◌then◌else◌}
use Rattle.std.proofs.Math.Path.{refl}
use Rattle.std.proofs.Common.{◌∙◌, arith, ltb-true, ltb-false}
use Rattle.std.proofs.Math.Bool.{false, and-eq-true_iff}
use Rattle.std.proofs.lemmas.Bool.{false≢true}
use Rattle.bits.specs.Bits.{shift_in}
use Rattle.bits.specs.Choose.{either}
use Rattle.exchange.specs.Exchange.Laws.{parts}
use Rattle.exchange.specs.declared.Exchange.{Exchange}
use Rattle.exchange.specs.Exchange as exchange
use Rattle.image.specs.Answers.{checked}
use Rattle.image.specs.Answers.Laws.{control_refused, copy_refused, read_refused}
use Rattle.image.specs.Registers.{read_password, full_password}
use Rattle.memory.specs.Phases.Deeds.{control_done}
use Rattle.memory.specs.Range.Laws.{ranged}
use Rattle.bus.specs.declared.Control.{Control}
use Rattle.bus.specs.declared.Deed.{Deed}
use Rattle.bus.specs.declared.Guarded.{Guarded}
use Rattle.bus.specs.declared.Hearing.{Hearing}
use Rattle.bus.specs.declared.Question.{Question}
use Rattle.bus.specs.declared.Sending.{Sending}
use Rattle.bus.specs.declared.Stage.{Stage}
use Rattle.field.specs.Field.{field_question, field_asks}
use Rattle.memory.specs.Memory as memory
use Rattle.memory.specs.Phases.{lets_read, lets_write, lets, unguarded}
use Rattle.memory.specs.Range.{guarded_in_range, hearing_in_range, stage_in_range}
use Rattle.memory.specs.Send.{send_asks}
use Rattle.mission.specs.declared.Counters.{Counters}
use Rattle.mission.specs.Mission as mission
use Rattle.select.specs.declared.Choosing.{Choosing}
use Rattle.select.specs.Select as select
use Rattle.event.specs.Event.{answer_to, performed, performed_counters}
use Rattle.promises.specs.Demand3.{EndsField, conditional, Conditional, Forces}
use Rattle.promises.specs.Sentences.Commands.Cases.{chosen_is}

-- ---- how many bits are past

stage_in_range_lem : (x : Exchange) → exchange.exchange_in_range x ≡ true → stage_in_range x.bus.stage x.held x.bus ≡ true
stage_in_range_lem x range = (ranged x.held x.bus (parts x range).1).1

pub gathered_lt : (x : Exchange) (g : Guarded) → exchange.exchange_in_range x ≡ true → x.bus.stage ≡ Stage.Gathers g → x.bus.at < 64
unfolding stage_in_range
gathered_lt x g range at =
    ltb-true x.bus.at 64 ((and-eq-true_iff (ltb x.bus.at 64) (guarded_in_range g)).0 (rw at at (stage_in_range_lem x range))).0

heard_lt : (x : Exchange) (h : Hearing) → exchange.exchange_in_range x ≡ true → x.bus.stage ≡ Stage.Hears h → x.bus.at < 8
unfolding stage_in_range
heard_lt x h range at =
    ltb-true x.bus.at 8 ((and-eq-true_iff (ltb x.bus.at 8) (hearing_in_range h x.held)).0 (rw at at (stage_in_range_lem x range))).0

-- ---- what a slot asks

-- a Conditional Search is the one command at whose end the alarm is asked for
pub conditional_is : (c : Choosing) (bit : Bool) → conditional c bit ≡ select.ends_command (λ byte. eqb byte 0xEC) c bit
unfolding conditional select.ends_command shift_in
conditional_is (Choosing.Command heard count) bit = refl
conditional_is Choosing.Silent bit = refl
conditional_is (Choosing.Reading at) bit = refl
conditional_is (Choosing.Matching fast at) bit = refl
conditional_is (Choosing.Giving at) bit = refl
conditional_is (Choosing.Complementing at) bit = refl
conditional_is (Choosing.Awaiting at) bit = refl
conditional_is Choosing.Selected bit = refl

-- what holds of no question, of the alarm's at a Conditional Search, of a byte's and of a field's at its last bit, holds of every slot's
pub asks_cases : (P : Question → Type 0) (x : Exchange) (bit : Bool) → exchange.exchange_in_range x ≡ true →
    P Question.Nothing →
    (Conditional x bit → P Question.Alarm) →
    ((address : ℕ) → P (Question.Byte address)) →
    ((g : Guarded) (field : ℕ) → EndsField x bit field → P (field_question g x.bus field)) →
    P (exchange.asks x bit)
unfolding exchange.asks memory.asks memory.stage_asks field_asks send_asks shift_in
asks_cases P x bit range none alarm byte field = by (select.is_selected x.select) refl
  where
    fields : (g : Guarded) → select.is_selected x.select ≡ true → x.bus.stage ≡ Stage.Gathers g → P (field_asks g x.bus bit)
    fields g chosen at =
        either P (ltb x.bus.at 63) (λ more. none)
        (λ last. field g (shift_in 64 x.bus.field bit)
        (record {
          chosen = chosen_is x.select.choosing chosen;
          gathered = (g, at);
          last = omega (arith, ltb-false x.bus.at 63 last, gathered_lt x g range at);
          bytes = refl;
        }))

    sent : (s : Sending) → P (send_asks s x.bus)
    sent Sending.Memory = either P (eqb x.bus.at 0) (λ first. byte x.bus.address) (λ past. none)
    sent Sending.PadLow = none
    sent Sending.PadHigh = none
    sent Sending.PadStatus = none
    sent (Sending.PadData place) = none
    sent (Sending.CrcLow next) = none
    sent (Sending.CrcHigh next) = none

    staged : (k : Stage) → select.is_selected x.select ≡ true → x.bus.stage ≡ k → P (memory.stage_asks k x.bus bit)
    staged Stage.Over chosen at = none
    staged (Stage.Hears h) chosen at = none
    staged (Stage.Gathers g) chosen at = fields g chosen at
    staged (Stage.Sends s) chosen at = sent s
    staged Stage.Copied chosen at = none

    by : (chosen : Bool) → select.is_selected x.select ≡ chosen →
        P (if chosen then memory.asks x.bus bit else if select.asks_alarm x.select bit then Question.Alarm else Question.Nothing)
    by true chosen = staged x.bus.stage chosen refl
    by false chosen = either P (select.asks_alarm x.select bit) (λ asked. alarm (conditional_is x.select.choosing bit ∙ asked)) (λ unasked. none)

-- the alarm is asked for at a Conditional Search only
pub alarm_asked : (x : Exchange) (bit : Bool) → exchange.exchange_in_range x ≡ true → exchange.asks x bit ≡ Question.Alarm → Conditional x bit
alarm_asked x bit range =
    asks_cases (λ q. q ≡ Question.Alarm → Conditional x bit) x bit range (λ e. cc) (λ conditional e. conditional) (λ address e. cc) fields
  where
    fields : (g : Guarded) (field : ℕ) → EndsField x bit field → field_question g x.bus field ≡ Question.Alarm → Conditional x bit
    fields Guarded.Reading field ends e = cc
    fields Guarded.Copying field ends e = cc
    fields (Guarded.Controlling control) field ends e = cc

-- ---- a field that carries no password is not let pass

module _ (image : List ℕ) (code : ℕ) (x : Exchange) (bit : Bool) (range : exchange.exchange_in_range x ≡ true) (on : checked image ≡ true) where
  -- the full password alone lets write
  pub unlet_write : ((field : ℕ) → EndsField x bit field → field ≢ full_password image) →
      lets_write (exchange.asks x bit) (answer_to image code (exchange.asks x bit)) ≡ false
  unfolding lets_write answer_to
  unlet_write wrong =
      asks_cases (λ q. lets_write q (answer_to image code q) ≡ false) x bit range refl (λ conditional. refl) (λ address. refl) fields
    where
      fields : (g : Guarded) (field : ℕ) → EndsField x bit field →
          lets_write (field_question g x.bus field) (answer_to image code (field_question g x.bus field)) ≡ false
      fields Guarded.Reading field ends = refl
      fields Guarded.Copying field ends = rw (copy_refused image field on x.bus.address (wrong field ends))
      fields (Guarded.Controlling control) field ends = rw (control_refused image field on (wrong field ends))

  unlet_read : ((field : ℕ) → EndsField x bit field → (field ≢ read_password image) × (field ≢ full_password image)) →
      lets_read (exchange.asks x bit) (answer_to image code (exchange.asks x bit)) ≡ false
  unfolding lets_read answer_to
  unlet_read wrong =
      asks_cases (λ q. lets_read q (answer_to image code q) ≡ false) x bit range refl (λ conditional. refl) (λ address. refl) fields
    where
      fields : (g : Guarded) (field : ℕ) → EndsField x bit field →
          lets_read (field_question g x.bus field) (answer_to image code (field_question g x.bus field)) ≡ false
      fields Guarded.Reading field ends = rw (read_refused image field on (wrong field ends).0 (wrong field ends).1)
      fields Guarded.Copying field ends = refl
      fields (Guarded.Controlling control) field ends = refl

  -- and neither lets read
  pub unlet : ((field : ℕ) → EndsField x bit field → (field ≢ read_password image) × (field ≢ full_password image)) →
      lets (exchange.asks x bit) (answer_to image code (exchange.asks x bit)) ≡ false
  unlet wrong = rw (unlet_read wrong, unlet_write (λ field ends. (wrong field ends).1))

-- ---- what a slot does

-- a Forced Conversion is done with the last bit of its FFh only
pub convert_forces : (x : Exchange) (bit : Bool) (answer : ℕ) → exchange.exchange_in_range x ≡ true →
    (exchange.slot_of x bit answer).deed ≡ Deed.Convert → Forces x bit
unfolding exchange.slot_of shift_in
convert_forces x bit answer range = by (select.is_selected x.select) refl
  where
    by : (chosen : Bool) → select.is_selected x.select ≡ chosen →
        (if chosen then exchange.commanded x (memory.slot_of x.held x.bus bit answer)
        else exchange.choosing x (select.slot_of x.select x.number bit (eqb answer 1))).deed ≡ Deed.Convert →
        Forces x bit
    by true chosen e =
        let done = control_done x.held x.bus bit answer Control.Convert e in
        record {
          chosen = chosen_is x.select.choosing chosen;
          awaited = done.0;
          last = omega (arith, done.1, heard_lt x (Hearing.Confirm Control.Convert) range done.0);
          byte = done.2;
        }
    by false chosen e = let none : ◌≡◌ {A = ℕ} 0 1 = cc in absurd (omega arith)

-- what needs no password: nothing, or a Forced Conversion
unguarded_cases : (P : Deed → Type 0) (deed : Deed) → unguarded deed ≡ true → P Deed.Nothing → (deed ≡ Deed.Convert → P Deed.Convert) → P deed
unfolding unguarded
unguarded_cases P Deed.Nothing h none convert = none
unguarded_cases P Deed.Convert h none convert = convert refl
unguarded_cases P Deed.Store h none convert = absurd (false≢true h)
unguarded_cases P Deed.Clear h none convert = absurd (false≢true h)
unguarded_cases P Deed.Start h none convert = absurd (false≢true h)
unguarded_cases P Deed.Stop h none convert = absurd (false≢true h)

-- it leaves the counters, and of the image what a Forced Conversion leaves
pub unguarded_performed : (P : List ℕ → Type 0) (deed : Deed) (x : Exchange) (c : Counters) (image : List ℕ) → unguarded deed ≡ true →
    P image → (deed ≡ Deed.Convert → P (mission.forced image c)) → P (performed deed x c image)
unfolding performed
unguarded_performed P deed x c image h none convert = unguarded_cases (λ d. P (performed d x c image)) deed h none convert

pub unguarded_counters : (deed : Deed) (c : Counters) (image : List ℕ) → unguarded deed ≡ true → performed_counters deed c image ≡ c
unfolding performed_counters
unguarded_counters deed c image h = unguarded_cases (λ d. performed_counters d c image ≡ c) deed h refl (λ e. refl)

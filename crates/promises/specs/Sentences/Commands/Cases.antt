-- A slot is a memory command's exactly where the tag is chosen. Assumes nothing.
use Rattle.std.specs.Prelude.{Bool, true, ◌≡◌, refl, ℕ, eqb}
use Rattle.std.proofs.lemmas.Bool.{false≢true}
use Rattle.bits.specs.Choose.{either}
use Rattle.bus.specs.declared.Question.{Question}
use Rattle.exchange.specs.declared.Exchange.{Exchange}
use Rattle.exchange.specs.declared.Slotted.{Slotted}
use Rattle.exchange.specs.Exchange as exchange
use Rattle.memory.specs.Memory as memory
use Rattle.select.specs.declared.Choosing.{Choosing}
use Rattle.select.specs.Select as select

pub chosen_is : (c : Choosing) → select.is_chosen c ≡ true → c ≡ Choosing.Selected
unfolding select.is_chosen
chosen_is Choosing.Selected e = refl
chosen_is Choosing.Silent e = absurd (false≢true e)
chosen_is (Choosing.Command heard count) e = absurd (false≢true e)
chosen_is (Choosing.Reading at) e = absurd (false≢true e)
chosen_is (Choosing.Matching fast at) e = absurd (false≢true e)
chosen_is (Choosing.Giving at) e = absurd (false≢true e)
chosen_is (Choosing.Complementing at) e = absurd (false≢true e)
chosen_is (Choosing.Awaiting at) e = absurd (false≢true e)

module _ (x : Exchange) (bit : Bool) where
  -- what holds of a chosen tag's slots and of choosing's holds of every slot
  pub chosen_cases : (P : Slotted → Type 0) (answer : ℕ) →
      (x.select.choosing ≡ Choosing.Selected → P (exchange.commanded x (memory.slot_of x.held x.bus bit answer))) →
      P (exchange.choosing x (select.slot_of x.select x.number bit (eqb answer 1))) → P (exchange.slot_of x bit answer)
  unfolding exchange.slot_of
  chosen_cases P answer p q =
      either P (select.is_selected x.select) (λ chosen. p (chosen_is x.select.choosing chosen)) (λ other. q)

  -- and of what it asks
  pub asking_cases : (P : Question → Type 0) → (x.select.choosing ≡ Choosing.Selected → P (memory.asks x.bus bit)) →
      (select.asks_alarm x.select bit ≡ true → P Question.Alarm) → P Question.Nothing → P (exchange.asks x bit)
  unfolding exchange.asks
  asking_cases P p alarm none =
      either P (select.is_selected x.select) (λ chosen. p (chosen_is x.select.choosing chosen))
      (λ other. either P (select.asks_alarm x.select bit) alarm (λ unasked. none))

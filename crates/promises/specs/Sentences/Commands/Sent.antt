-- The slots of a memory command, from a tag that is fit and chosen: they are the exchange's run, and their bits are bytes. Assumes nothing.
use Rattle.std.specs.Prelude.{◌≡◌, Bool, ℕ, ◌/◌, ◌%◌}
use Rattle.std.proofs.Common.{sym, ap, ◌∙◌}
use mathlib.Core.List.{List, [], ◌∷◌, ◌++◌, flat_map}
use Rattle.bits.specs.Bits.{bits_of, slots_of}
use Rattle.bits.specs.Bits.Laws.{slots_append}
use Rattle.exchange.specs.declared.Exchange.{Exchange}
use Rattle.exchange.specs.Runs as exchange
use Rattle.exchange.specs.Runs.{chosen, commanding}
use Rattle.bus.specs.declared.Bus.{Bus}
use Rattle.bus.specs.declared.Held.{Held}
use Rattle.select.specs.declared.Mode.{Mode}
use Rattle.promises.specs.Ranges.{Fit}
use Rattle.promises.specs.Ranges.Laws.{fit_sound}
use Rattle.promises.specs.Runs.{State}
use Rattle.promises.specs.Line.Slots.{slots, run_slots, slots_quiet, slots_then, answers_of, with_exchange}
use Rattle.promises.specs.Sentences.Commands.{sent, head_of}
use Rattle.promises.specs.Words as words
use Rattle.promises.specs.Words.{number_of, held_of, Chosen}
use Rattle.promises.specs.Words.Laws.{low_is, slots_are, two_bytes}

-- the Resume mark and the speed
abbrev pub mode_of : State → Mode
mode_of s = s.tag.exchange.select.mode

-- what is held then, with this bus state
abbrev pub goes_on : State → Held → Bus → State
goes_on s held bus = with_exchange s (commanding (number_of s) (mode_of s) held bus)

-- the exchange of a tag that has just been chosen
abbrev pub chosen_of : State → Exchange
chosen_of s = chosen (number_of s) (mode_of s) (held_of s)

-- it is that of a chosen tag
is_chosen_lem : {s : State} → Chosen s → s.tag.exchange ≡ chosen_of s
is_chosen_lem {s} ready = λ i.
    record {
      number = number_of s;
      select = record { choosing = ready.chosen i; mode = mode_of s };
      held = held_of s;
      bus = ready.bus i;
    }

module _ {s : State} (fit : Fit s) (ready : Chosen s) where
  -- slots that do nothing
  pub sent_quiet : (bits : List Bool) {x : Exchange} {line : List Bool} →
      exchange.run (answers_of s) (chosen_of s) bits ≡ exchange.quietly x line → sent s bits ≡ record { line = line; state = with_exchange s x }
  sent_quiet bits e =
      run_slots s bits (fit_sound fit) ∙ slots_quiet s bits (ap (λ (x : Exchange). exchange.run (answers_of s) x bits) (is_chosen_lem ready) ∙ e)

  -- and after them anything
  pub sent_then : (bits more : List Bool) {x : Exchange} {line rest : List Bool} {t : State} →
      exchange.run (answers_of s) (chosen_of s) bits ≡ exchange.quietly x line → slots (with_exchange s x) more ≡ record { line = rest; state = t } →
      sent s (bits ++ more) ≡ record { line = line ++ rest; state = t }
  sent_then bits more e f =
      run_slots s (bits ++ more) (fit_sound fit)
      ∙ slots_then s bits more (slots_quiet s bits (ap (λ (x : Exchange). exchange.run (answers_of s) x bits) (is_chosen_lem ready) ∙ e)) f

-- ---- bits

-- a command byte, TA1 and TA2
pub head_is : (byte address : ℕ) → head_of byte address ≡ slots_of (byte ∷ address % 256 ∷ address / 256 ∷ [])
unfolding flat_map
head_is byte address = rw (low_is 8 byte) (ap (λ (bits : List Bool). bits_of 8 byte ++ bits) (sym (two_bytes address)))

-- and bytes behind them
pub head_slots : (byte address : ℕ) (bytes : List ℕ) →
    head_of byte address ++ words.slots bytes ≡ slots_of ((byte ∷ address % 256 ∷ address / 256 ∷ []) ++ bytes)
head_slots byte address bytes =
    rw (head_is byte address, slots_are bytes) (sym (slots_append (byte ∷ address % 256 ∷ address / 256 ∷ []) bytes))

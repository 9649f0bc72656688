-- The exchange as a whole: what a reset leaves, long or short, what a slot asks of the image, and what it gives (document 01, "Choosing a
-- tag on the line" and "Memory commands"; request #103). Assumes nothing.
use Rattle.std.specs.Prelude.{Bool, ◌&&◌, ℕ, eqb, if◌then◌else◌}
use Rattle.bus.specs.declared.Deed.{Deed}
use Rattle.bus.specs.declared.Hearing.{Hearing}
use Rattle.bus.specs.declared.Moved.{Moved}
use Rattle.bus.specs.declared.Question.{Question}
use Rattle.bus.specs.declared.Stage.{Stage}
use Rattle.bus.specs.Bus.{new_held, clear_bus}
use Rattle.memory.specs.Memory as memory
use Rattle.memory.specs.Range.{memory_in_range}
use Rattle.select.specs.declared.Chosen.{Chosen}
use Rattle.select.specs.declared.Select.{Select}
use Rattle.select.specs.Select as select
use Rattle.exchange.specs.declared.Exchange.{Exchange}
use Rattle.exchange.specs.declared.Slotted.{Slotted}
pub mod Laws
pub mod Pad

-- "A new tag .. has .. everything else clear, and waits for a reset"
abbrev pub new_exchange : ℕ → Exchange
new_exchange number =
    record { number = number; select = select.new_select; held = new_held; bus = clear_bus Stage.Over }

-- a ROM command is heard next, then a memory command; scratchpad, TA and E/S stay
abbrev pub begun : Exchange → Select → Exchange
begun x next = record { number = x.number; select = next; held = x.held; bus = clear_bus (Stage.Hears Hearing.Command) }

-- a reset: the Resume mark stays, and the speed is standard
abbrev pub after_reset : Exchange → Exchange
after_reset x = begun x (select.reset_select x.select)

-- "a short reset: at overdrive a reset that keeps the speed, at standard speed nothing at all"
unfoldable pub after_short : Exchange → Exchange
after_short x = if select.speed_in x.select.mode then begun x (select.restarted x.select) else x

-- what a slot asks of the image
unfoldable pub asks : Exchange → Bool → Question
asks x bit =
    if select.is_selected x.select then memory.asks x.bus bit
    else if select.asks_alarm x.select bit then Question.Alarm
    else Question.Nothing

-- a slot of a chosen tag, and of one that is not
abbrev pub commanded : Exchange → Moved → Slotted
commanded x m =
    record {
      exchange = record { number = x.number; select = x.select; held = m.held; bus = m.bus };
      line = m.line;
      deed = m.deed;
    }

abbrev pub choosing : Exchange → Chosen → Slotted
choosing x c =
    record {
      exchange = record { number = x.number; select = c.select; held = x.held; bus = x.bus };
      line = c.line;
      deed = Deed.Nothing;
    }

unfoldable pub slot_of : Exchange → Bool → ℕ → Slotted
slot_of x bit answer =
    if select.is_selected x.select then commanded x (memory.slot_of x.held x.bus bit answer)
    else choosing x (select.slot_of x.select x.number bit (eqb answer 1))

-- the ranges of its parts; a number's are the tag's to judge
abbrev pub exchange_in_range : Exchange → Bool
exchange_in_range x = select.select_in_range x.select && memory_in_range x.held x.bus

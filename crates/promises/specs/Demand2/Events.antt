-- Which deed a slot does. The statements do not speak of deeds, only the proofs below them: what a deed has done is seen in the image and
-- the stage (`Demand2.Effects`). Assumes nothing.
use Rattle.std.specs.Prelude.{Bool, true, false}
use Rattle.exchange.specs.declared.Slotted.{Slotted}
use Rattle.exchange.specs.Exchange as exchange
use Rattle.bus.specs.declared.Deed.{Deed}
use Rattle.event.specs.Event.{answer_to}
use Rattle.promises.specs.Runs.{State}

-- a slot, answered by the image: Store, Clear, Start, Stop and Convert come at the last bit of a command, its password right
unfoldable pub slot_at : State → Bool → Slotted
slot_at s bit =
    exchange.slot_of s.tag.exchange bit (answer_to s.image s.tag.code (exchange.asks s.tag.exchange bit))

-- whether a deed is a Stop
unfoldable pub is_stop : Deed → Bool
is_stop Deed.Stop = true
is_stop Deed.Nothing = false
is_stop Deed.Store = false
is_stop Deed.Clear = false
is_stop Deed.Start = false
is_stop Deed.Convert = false

-- Which deed a slot did, by what it has changed: only a Start that is done makes MIP 1, only a Stop makes it 0, only a Clear that is done
-- makes MEMCLR 1, and only a Copy that is done ends at 0, 1, 0, 1. Assumes nothing.
use Rattle.std.specs.Prelude.{◌≡◌, Bool, List, ℕ}
use Rattle.std.proofs.Math.Path.{refl, ap}
use Rattle.std.proofs.Common.{sym, ◌∙◌, arith, le-ltb}
use Rattle.std.proofs.Math.Bool.{true, false}
use Rattle.std.proofs.lemmas.Bool.{false≢true}
use Rattle.exchange.specs.Exchange.Laws.{slot_cases}
use Rattle.exchange.specs.Exchange.Pad.{PaddedIn}
use Rattle.exchange.specs.declared.Exchange.{Exchange}
use Rattle.image.specs.Leaves.{leaves_keeps}
use Rattle.image.specs.Registers
use Rattle.image.specs.Stored.Laws.{keeps_shut}
use Rattle.bus.specs.declared.Bus.{Bus}
use Rattle.bus.specs.declared.Deed.{Deed}
use Rattle.bus.specs.declared.Guarded.{Guarded}
use Rattle.bus.specs.declared.Held.{Held}
use Rattle.bus.specs.declared.Stage.{Stage}
use Rattle.conversion.specs.Conversion.Whole.{Whole}
use Rattle.field.specs.Field.{judged, gathered_bit}
use Rattle.memory.specs.Memory as memory
use Rattle.memory.specs.Memory.{stage_slot, on_line}
use Rattle.memory.specs.Phases.Deeds.{store_done}
use Rattle.mission.specs.Mission
use Rattle.mission.specs.Mission.Commands.{clears, started_not, mip_stopped}
use Rattle.mission.specs.Mission.Frames.{mip_cleared, mip_forced}
use Rattle.mission.specs.declared.Counters.{Counters}
use Rattle.event.specs.Event.{performed}
use Rattle.promises.specs.Demand2.Events.{slot_at, is_stop}
use Rattle.promises.specs.Runs.{State}

-- ---- the image

module _ {image : List ℕ} (whole : Whole image) (c : Counters) (x : Exchange) (padded : PaddedIn x) where
  -- MIP was 0 and is 1
  pub mip_rises : (deed : Deed) → Registers.mip image ≡ false → Registers.mip (performed deed x c image) ≡ true
      → (deed ≡ Deed.Start) × (Mission.may_start image ≡ true)
  unfolding performed
  mip_rises Deed.Nothing idle runs = absurd (false≢true (sym idle ∙ runs))
  mip_rises Deed.Store idle runs =
      let left = leaves_keeps (keeps_shut image x.held.pad x.held.ta padded.size whole.bytes) in
      absurd (false≢true (sym (left.bits 0x0215 1 tt tt tt ∙ idle) ∙ runs))
  mip_rises Deed.Clear idle runs = absurd (false≢true (sym (mip_cleared image ∙ idle) ∙ runs))
  mip_rises Deed.Start idle runs = (refl, by (Mission.may_start image) refl)
    where
      by : (t : Bool) → Mission.may_start image ≡ t → t ≡ true
      by true e = refl
      by false e = absurd (false≢true (sym idle ∙ ap Registers.mip (sym (started_not image e)) ∙ runs))
  mip_rises Deed.Stop idle runs = absurd (false≢true (sym (mip_stopped whole) ∙ runs))
  mip_rises Deed.Convert idle runs = absurd (false≢true (sym (mip_forced image c ∙ idle) ∙ runs))

  -- it is 1
  pub mip_goes : (deed : Deed) → Registers.mip (performed deed x c image) ≡ true → is_stop deed ≡ false
  unfolding performed is_stop
  mip_goes Deed.Stop runs = absurd (false≢true (sym (mip_stopped whole) ∙ runs))
  mip_goes Deed.Nothing runs = refl
  mip_goes Deed.Store runs = refl
  mip_goes Deed.Clear runs = refl
  mip_goes Deed.Start runs = refl
  mip_goes Deed.Convert runs = refl

  -- MEMCLR is 0: no Clear is done, or it comes in a mission
  pub memclr_stays : (deed : Deed) → Registers.memclr (performed deed x c image) ≡ false → deed ≡ Deed.Clear → Registers.mip image ≡ true
  unfolding performed
  memclr_stays deed stays e = by (Registers.mip image) refl
    where
      by : (t : Bool) → Registers.mip image ≡ t → t ≡ true
      by true m = refl
      by false m = absurd (false≢true (sym (rw e at stays) ∙ (clears whole m).memclr))

-- ---- the stage

-- a memory command's slot that stores
stage_copied : (held : Held) (bus : Bus) (bit : Bool) (answer : ℕ) → (memory.slot_of held bus bit answer).deed ≡ Deed.Store
    → (bus.stage ≡ Stage.Gathers Guarded.Copying) × ((memory.slot_of held bus bit answer).bus.stage ≡ Stage.Copied)
unfolding memory.slot_of on_line stage_slot gathered_bit judged
stage_copied held bus bit answer e =
    let done = store_done held bus bit answer e in
    (done.0, simp (done.0, le-ltb bus.at 63 done.1, done.2))

-- the slot in which a Copy is done
pub store_stages : (s : State) (bit : Bool) → (slot_at s bit).deed ≡ Deed.Store
    → (s.tag.exchange.bus.stage ≡ Stage.Gathers Guarded.Copying) × ((slot_at s bit).exchange.bus.stage ≡ Stage.Copied)
unfolding slot_at
store_stages s bit =
    let x = s.tag.exchange in
    slot_cases
    (λ q slot. (a : ℕ) → (slot a).deed ≡ Deed.Store
    → (x.bus.stage ≡ Stage.Gathers Guarded.Copying) × ((slot a).exchange.bus.stage ≡ Stage.Copied))
    x bit (stage_copied x.held x.bus bit)
    (λ a e. absurd (let no : ◌≡◌ {A = ℕ} 0 1 = cc in omega arith)) _

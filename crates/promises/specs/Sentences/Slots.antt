-- Document 01, "Memory commands", slot by slot: what any slot looks at of the image, and what it may change. So it is fixed too what a command that
-- is broken off leaves, and what ticks between its slots do. `slots` in Commands/Proof.antt proves it. Assumes nothing.
use Rattle.std.specs.Prelude.{Bool, true, [], ◌∷◌, ◌⊎◌, ◌≡◌, ℕ}
use Rattle.bus.specs.declared.Addressed.{Addressed}
use Rattle.bus.specs.declared.Control.{Control}
use Rattle.bus.specs.declared.Guarded.{Guarded}
use Rattle.bus.specs.declared.Hearing.{Hearing}
use Rattle.bus.specs.declared.Sending.{Sending}
use Rattle.bus.specs.declared.Stage.{Stage}
use Rattle.select.specs.declared.Choosing.{Choosing}
use Rattle.promises.specs.Ranges.{Fit}
use Rattle.promises.specs.Runs.{State, Event, after, line_bit}
use Rattle.promises.specs.Sentences.Choosing.{alarm}
use Rattle.promises.specs.Sentences.Memory.{sent_at}
use Rattle.promises.specs.Words.{byte_at, in_runs, held_of}

-- ---- what a slot looks at, and what it may change

abbrev pub choosing_of : State → Choosing
choosing_of s = s.tag.exchange.select.choosing

abbrev pub stage_of : State → Stage
stage_of s = s.tag.exchange.bus.stage

-- how many bits of a byte or a password field are past
abbrev pub past : State → ℕ
past s = s.tag.exchange.bus.at

-- of a chosen tag: the last bit of a password field of Copy, or of the byte that should be FFh
abbrev pub Acts : State → Type 0
Acts s =
    (choosing_of s ≡ Choosing.Selected)
    × (((stage_of s ≡ Stage.Gathers Guarded.Copying) × (past s ≡ 63))
    ⊎ ((c : Control) × (stage_of s ≡ Stage.Hears (Hearing.Confirm c)) × (past s ≡ 7)))

-- the last bit of TA2 in a Write Scratchpad, any bit of its data, or the last bit of a password field of Copy
abbrev pub Loads : State → Type 0
Loads s =
    (choosing_of s ≡ Choosing.Selected)
    × (((stage_of s ≡ Stage.Hears (Hearing.High Addressed.Write)) × (past s ≡ 7))
    ⊎ (((place : ℕ) × (stage_of s ≡ Stage.Hears (Hearing.Data place))) ⊎ ((stage_of s ≡ Stage.Gathers Guarded.Copying) × (past s ≡ 63))))

-- two tags show a slot the same: where it ends a ROM command's byte both or neither have an alarm; where it ends a password field their MIP
-- (0215h), 0227h and passwords are the same; where it begins a byte of Read Memory, that byte
pub record SameShown (s t : State) : Type 0 where
  pub alarms : (heard : ℕ) → choosing_of s ≡ Choosing.Command heard 7 → alarm s ≡ alarm t
  pub fields : (g : Guarded) → stage_of s ≡ Stage.Gathers g → past s ≡ 63 → (a : ℕ) →
      in_runs ((0x0215, 0x0215) ∷ (0x0227, 0x0237) ∷ []) a ≡ true → byte_at s.image a ≡ byte_at t.image a
  pub bytes : stage_of s ≡ Stage.Sends Sending.Memory → past s ≡ 0 →
      let address = s.tag.exchange.bus.address in
      sent_at s.image s.tag.code address ≡ sent_at t.image t.tag.code address

-- ---- the sentences

pub record Slots : Type 0 where
  -- "The check is made at the last password bit": no slot changes image or counters but those that end a Copy's password or a byte FFh. Of the
  -- other commands it is seen in the 1s that follow, alone
  pub quiet : {s : State} → Fit s → (b : Bool) → (Acts s → ⊥) →
      ((after s (Event.slot b)).image ≡ s.image) × ((after s (Event.slot b)).tag.counters ≡ s.tag.counters)
  -- nor scratchpad, TA or E/S but those of a Write Scratchpad's data and address, and the end of a Copy's password
  pub same_held_lem : {s : State} → Fit s → (b : Bool) → (Loads s → ⊥) → held_of (after s (Event.slot b)) ≡ held_of s
  -- and no slot looks at anything else of the image: so ticks between slots, which leave the line where it was (`Events.tick_line`), are seen by
  -- what these show when it is shown, as "the alarm .. when the command byte ends" and "A byte is taken at its first slot"
  pub alike : {s t : State} → Fit s → Fit t → s.tag.exchange ≡ t.tag.exchange → SameShown s t → (b : Bool) →
      (line_bit s (Event.slot b) ≡ line_bit t (Event.slot b)) × ((after s (Event.slot b)).tag.exchange ≡ (after t (Event.slot b)).tag.exchange)
  pub alike_reset : {s t : State} → Fit s → Fit t → s.tag.exchange ≡ t.tag.exchange →
      (after s Event.reset).tag.exchange ≡ (after t Event.reset).tag.exchange

-- Clear, Start, Stop and Forced Conversion, and what is no command, from a tag that is chosen. Assumes nothing.
use Rattle.std.specs.Prelude.{◌≡◌, refl, Bool, true, false, ◌||◌, List, [], ◌∷◌, ◌++◌, ◌≢◌, ℕ, ◌^◌, ◌<◌, eqb}
use Rattle.std.proofs.Common.{sym, ◌∙◌, append_assoc, eqb-true}
use Rattle.std.proofs.lemmas.Bool.{false≢true}
use Rattle.bits.specs.Bits.{bits_of}
use Rattle.bits.specs.Tests.{neither}
use Rattle.crc.specs.Crc.{crc16_byte}
use Rattle.exchange.specs.Runs as exchange
use Rattle.exchange.specs.Runs.{commanding, quietly}
use Rattle.exchange.specs.Runs.Laws.{quiet_then}
use Rattle.exchange.specs.Runs.Commands.{byte_quiet, run_over}
use Rattle.bus.specs.declared.Control.{Control}
use Rattle.bus.specs.declared.Hearing.{Hearing}
use Rattle.bus.specs.declared.Question.{Question}
use Rattle.bus.specs.declared.Stage.{Stage}
use Rattle.bus.specs.Bus.{clear_bus, go_to}
use Rattle.field.specs.Field.{guarded}
use Rattle.memory.specs.Hear.{command_stage, heard_whole, deed_of}
use Rattle.memory.specs.Runs.Scratchpad.{over_at}
use Rattle.promises.specs.Line.ControlRun.{control_byte, control_bus, control_head, control_refused, convert_head, control_done, control_undone}
use Rattle.promises.specs.Line.Slots.{answers_of, with_exchange, after_deed, slots_quiet, slots_lastly, slots_then, kept_by}
use Rattle.promises.specs.Ranges.{Fit}
use Rattle.promises.specs.Runs.{State}
use Rattle.promises.specs.Sentences.Commands.{sent, Nothing, PassesFull}
use Rattle.promises.specs.Sentences.Commands.Passwords.{unless, full_may, full_passes, answers_control}
use Rattle.promises.specs.Sentences.Commands.Sent.{mode_of, chosen_of, sent_quiet, sent_then}
use Rattle.promises.specs.Words.{among, low, number_of, held_of, Chosen}
use Rattle.promises.specs.Words.Laws.{low_is}

-- "96h Clear, CCh Start, 33h Stop"
control_among : (byte : ℕ) → among (0x96 ∷ 0xCC ∷ 0x33 ∷ []) byte ≡ true →
    (control : Control) × (guarded control ≡ true) × (byte ≡ control_byte control)
unfolding among guarded control_byte
control_among byte e = by (eqb byte 0x96) (eqb byte 0xCC) (eqb byte 0x33) refl refl refl e
  where
    by : (a b c : Bool) → eqb byte 0x96 ≡ a → eqb byte 0xCC ≡ b → eqb byte 0x33 ≡ c → (a || (b || (c || false))) ≡ true →
        (control : Control) × (guarded control ≡ true) × (byte ≡ control_byte control)
    by true b c p q r e = (Control.Clear, refl, eqb-true byte 0x96 p)
    by false true c p q r e = (Control.Start, refl, eqb-true byte 0xCC q)
    by false false true p q r e = (Control.Stop, refl, eqb-true byte 0x33 r)
    by false false false p q r e = absurd (false≢true e)

-- "any other command byte"
other_over : (byte : ℕ) → among (0x0F ∷ 0xAA ∷ 0x99 ∷ 0x69 ∷ 0x96 ∷ 0xCC ∷ 0x33 ∷ 0x55 ∷ []) byte ≡ false → command_stage byte ≡ Stage.Over
unfolding among command_stage
other_over byte e =
    let a = neither (eqb byte 0x0F) (among (0xAA ∷ 0x99 ∷ 0x69 ∷ 0x96 ∷ 0xCC ∷ 0x33 ∷ 0x55 ∷ []) byte) e in
    let b = neither (eqb byte 0xAA) (among (0x99 ∷ 0x69 ∷ 0x96 ∷ 0xCC ∷ 0x33 ∷ 0x55 ∷ []) byte) a.1 in
    let c = neither (eqb byte 0x99) (among (0x69 ∷ 0x96 ∷ 0xCC ∷ 0x33 ∷ 0x55 ∷ []) byte) b.1 in
    let d = neither (eqb byte 0x69) (among (0x96 ∷ 0xCC ∷ 0x33 ∷ 0x55 ∷ []) byte) c.1 in
    let f = neither (eqb byte 0x96) (among (0xCC ∷ 0x33 ∷ 0x55 ∷ []) byte) d.1 in
    let g = neither (eqb byte 0xCC) (among (0x33 ∷ 0x55 ∷ []) byte) f.1 in
    let h = neither (eqb byte 0x33) (among (0x55 ∷ []) byte) g.1 in
    let k = neither (eqb byte 0x55) false h.1 in
    rw (a.0, b.0, c.0, d.0, f.0, g.0, h.0, k.0)

module _ {s : State} (fit : Fit s) (ready : Chosen s) where
  -- slots after which the command waits for FFh
  abbrev Waits : Control → List Bool → Type 0
  Waits control first =
      exchange.run (answers_of s) (chosen_of s) first
      ≡ quietly (commanding (number_of s) (mode_of s) (held_of s) (go_to (control_bus control) (Stage.Hears (Hearing.Confirm control)))) first

  -- what it leaves once it is done
  abbrev pub done : Control → State
  done control = after_deed (deed_of control) s (commanding (number_of s) (mode_of s) (held_of s) (go_to (control_bus control) Stage.Over))

  -- "then FFh"
  confirmed : (control : Control) (first more : List Bool) → Waits control first →
      sent s (first ++ (low 8 0xFF ++ more)) ≡ record { line = first ++ (low 8 0xFF ++ more); state = done control }
  confirmed control first more waits =
      let waiting = go_to (control_bus control) (Stage.Hears (Hearing.Confirm control)) in
      let headed = with_exchange s (commanding (number_of s) (mode_of s) (held_of s) waiting) in
      rw (low_is 8 0xFF)
      (sent_then fit ready first (bits_of 8 0xFF ++ more) waits
      (slots_then headed (bits_of 8 0xFF) more
      (slots_lastly headed (bits_of 8 0xFF) 7 (deed_of control)
      (control_done (answers_of s) (number_of s) (mode_of s) (held_of s) control (control_bus control)))
      (slots_quiet (done control) more (run_over (answers_of (done control)) (number_of s) (mode_of s) (held_of s) (control_bus control) more))))

  -- "Another last byte: not done"
  unconfirmed : (control : Control) (first : List Bool) (last : ℕ) (more : List Bool) → last < 256 → last ≢ 0xFF → Waits control first →
      Nothing s (first ++ (low 8 last ++ more))
  unconfirmed control first last more small other waits =
      rw (low_is 8 last)
      (kept_by s (sent_quiet fit ready (first ++ (bits_of 8 last ++ more))
      (quiet_then (answers_of s) (chosen_of s) first (bits_of 8 last ++ more) waits
      (quiet_then (answers_of s) _ (bits_of 8 last) more
      (control_undone (answers_of s) (number_of s) (mode_of s) (held_of s) control (control_bus control) last small other)
      (run_over (answers_of s) (number_of s) (mode_of s) (held_of s) (control_bus control) more)))))

  -- ---- Clear, Start, Stop

  module _ (control : Control) (g : guarded control ≡ true) (field : ℕ) (whole : field < 2 ^ 64) where
    -- with the full password
    control_waits : PassesFull s field → Waits control (bits_of 8 (control_byte control) ++ bits_of 64 field)
    control_waits passes =
        control_head (answers_of s) (number_of s) (mode_of s) (held_of s) control g field whole (answers_control s field ∙ full_may s field passes)

    pub controls : (more : List Bool) → PassesFull s field →
        let bits = low 8 (control_byte control) ++ (low 64 field ++ (low 8 0xFF ++ more)) in
        sent s bits ≡ record { line = bits; state = done control }
    controls more passes =
        rw (low_is 8 (control_byte control), low_is 64 field, ← append_assoc (bits_of 8 (control_byte control)) (bits_of 64 field) (low 8 0xFF ++ more))
        (confirmed control (bits_of 8 (control_byte control) ++ bits_of 64 field) more (control_waits passes))

    -- with a wrong one
    refuses : (more : List Bool) → (PassesFull s field → ⊥) → Nothing s (low 8 (control_byte control) ++ (low 64 field ++ more))
    refuses more never =
        let shut = unless (eqb (answers_of s (Question.MayControl field)) 1) (λ e. never (full_passes s field (sym (answers_control s field) ∙ e))) in
        rw (low_is 8 (control_byte control), low_is 64 field)
        (kept_by s (sent_quiet fit ready (bits_of 8 (control_byte control) ++ (bits_of 64 field ++ more))
        (control_refused (answers_of s) (number_of s) (mode_of s) (held_of s) control g field whole more shut)))

    -- and with another last byte, whatever the password
    unsure : (last : ℕ) (more : List Bool) → last < 256 → last ≢ 0xFF →
        Nothing s (low 8 (control_byte control) ++ (low 64 field ++ (low 8 last ++ more)))
    unsure last more small other = by (eqb (answers_of s (Question.MayControl field)) 1) refl
      where
        by : (may : Bool) → eqb (answers_of s (Question.MayControl field)) 1 ≡ may →
            Nothing s (low 8 (control_byte control) ++ (low 64 field ++ (low 8 last ++ more)))
        by true e =
            rw (low_is 8 (control_byte control), low_is 64 field)
            (rw (← append_assoc (bits_of 8 (control_byte control)) (bits_of 64 field) (low 8 last ++ more))
            (unconfirmed control (bits_of 8 (control_byte control) ++ bits_of 64 field) last more small other
            (control_waits (full_passes s field (sym (answers_control s field) ∙ e)))))
        by false e = refuses (low 8 last ++ more) (λ passes. false≢true (sym e ∙ answers_control s field ∙ full_may s field passes))

  -- any of the three with a wrong password
  pub controls_not : (byte field : ℕ) (more : List Bool) → among (0x96 ∷ 0xCC ∷ 0x33 ∷ []) byte ≡ true → field < 2 ^ 64 → (PassesFull s field → ⊥) →
      Nothing s (low 8 byte ++ (low 64 field ++ more))
  controls_not byte field more is whole never =
      let c = control_among byte is in
      rw c.2 (refuses c.0 c.1 field whole more never)

  -- and with another last byte
  pub controls_other : (byte field last : ℕ) (more : List Bool) → among (0x96 ∷ 0xCC ∷ 0x33 ∷ []) byte ≡ true →
      field < 2 ^ 64 → last < 256 → last ≢ 0xFF → Nothing s (low 8 byte ++ (low 64 field ++ (low 8 last ++ more)))
  controls_other byte field last more is whole small other =
      let c = control_among byte is in
      rw c.2 (unsure c.0 c.1 field whole last more small other)

  -- ---- Forced Conversion

  -- "FFh alone"
  convert_waits : Waits Control.Convert (low 8 0x55)
  convert_waits = rw (low_is 8 0x55) (convert_head (answers_of s) (number_of s) (mode_of s) (held_of s))

  -- it is done
  pub converts : (more : List Bool) →
      let bits = low 8 0x55 ++ (low 8 0xFF ++ more) in
      sent s bits ≡ record { line = bits; state = done Control.Convert }
  converts more = confirmed Control.Convert (low 8 0x55) more convert_waits

  -- and not, with another byte
  pub converts_not : (last : ℕ) (more : List Bool) → last < 256 → last ≢ 0xFF → Nothing s (low 8 0x55 ++ (low 8 last ++ more))
  converts_not last more small other = unconfirmed Control.Convert (low 8 0x55) last more small other convert_waits

  -- ---- any other command byte

  -- 1s until reset
  pub no_command : (byte : ℕ) (more : List Bool) → byte < 256 →
      among (0x0F ∷ 0xAA ∷ 0x99 ∷ 0x69 ∷ 0x96 ∷ 0xCC ∷ 0x33 ∷ 0x55 ∷ []) byte ≡ false → Nothing s (low 8 byte ++ more)
  unfolding heard_whole
  no_command byte more small other =
      let over = clear_bus Stage.Over in
      let heard = rw (other_over byte other) at (byte_quiet (answers_of s) (number_of s) (mode_of s) (held_of s) over Hearing.Command byte small refl) in
      rw (low_is 8 byte)
      (kept_by s (sent_quiet fit ready (bits_of 8 byte ++ more)
      (quiet_then (answers_of s) (chosen_of s) (bits_of 8 byte) more heard
      (run_over (answers_of s) (number_of s) (mode_of s) (held_of s) (over_at (crc16_byte 0 byte) 0) more))))

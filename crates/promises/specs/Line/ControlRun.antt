-- Clear, Start and Stop as whole runs: eight full-password bytes, then FFh (document 01, "Memory commands"). The line is the
-- master's throughout, whether they are done or not. Assumes nothing.
use Rattle.std.specs.Prelude.{◌≡◌, Bool, true, false, List, ◌++◌, ℕ, ◌^◌, ◌<◌, ◌≢◌, eqb}
use Rattle.std.proofs.Math.Path.{refl}
use Rattle.std.proofs.lemmas.Bool.{false≢true}
use Rattle.std.proofs.Common.{arith, ne_eqb}
use Rattle.bits.specs.Bits.{bits_of}
use Rattle.crc.specs.Crc.{crc16_byte}
use Rattle.exchange.specs.Runs.{run, quietly, commanding, chosen}
use Rattle.exchange.specs.Runs.Laws.{quiet_then}
use Rattle.exchange.specs.Runs.Commands.{lastly, byte_heard, byte_quiet, field_quiet, run_over}
use Rattle.bus.specs.declared.Bus.{Bus}
use Rattle.bus.specs.declared.Control.{Control}
use Rattle.bus.specs.declared.Guarded.{Guarded}
use Rattle.bus.specs.declared.Hearing.{Hearing}
use Rattle.bus.specs.declared.Held.{Held}
use Rattle.bus.specs.declared.Question.{Question}
use Rattle.bus.specs.declared.Stage.{Stage}
use Rattle.bus.specs.Bus.{clear_bus, go_to, listens}
use Rattle.memory.specs.Hear.{command_stage, deed_of, confirmed, heard_whole}
use Rattle.field.specs.Field.{guarded, after_controlling, judged}
use Rattle.memory.specs.Runs.Scratchpad.{over_at}
use Rattle.select.specs.declared.Mode.{Mode}

-- "96h Clear, CCh Start, 33h Stop .. 55h Forced Conversion"
unfoldable pub control_byte : Control → ℕ
control_byte Control.Clear = 0x96
control_byte Control.Start = 0xCC
control_byte Control.Stop = 0x33
control_byte Control.Convert = 0x55

-- the slots of the command: its byte, the eight password bytes, and a last byte
abbrev pub control_slots : Control → ℕ → ℕ → List Bool
control_slots control field byte = (bits_of 8 (control_byte control) ++ bits_of 64 field) ++ bits_of 8 byte

-- the bus after the command byte
abbrev pub control_bus : Control → Bus
control_bus control = over_at (crc16_byte 0 (control_byte control)) 0

module _ (answers : Question → ℕ) (number : ℕ) (mode : Mode) (held : Held) where
  control_byte_lem : (control : Control) → guarded control ≡ true →
      run answers (chosen number mode held) (bits_of 8 (control_byte control)) ≡
      quietly (commanding number mode held (go_to (control_bus control) (Stage.Gathers (Guarded.Controlling control)))) (bits_of 8 (control_byte control))
  unfolding control_byte command_stage heard_whole guarded
  control_byte_lem Control.Clear g = byte_quiet answers number mode held (clear_bus Stage.Over) Hearing.Command 0x96 (omega arith) refl
  control_byte_lem Control.Start g = byte_quiet answers number mode held (clear_bus Stage.Over) Hearing.Command 0xCC (omega arith) refl
  control_byte_lem Control.Stop g = byte_quiet answers number mode held (clear_bus Stage.Over) Hearing.Command 0x33 (omega arith) refl
  control_byte_lem Control.Convert g = absurd (false≢true g)

  -- "55h Forced Conversion: FFh alone"
  pub convert_head : run answers (chosen number mode held) (bits_of 8 0x55) ≡
      quietly (commanding number mode held (go_to (control_bus Control.Convert) (Stage.Hears (Hearing.Confirm Control.Convert)))) (bits_of 8 0x55)
  unfolding control_byte command_stage heard_whole
  convert_head = byte_quiet answers number mode held (clear_bus Stage.Over) Hearing.Command 0x55 (omega arith) refl

  control_field : (control : Control) (bus : Bus) (field : ℕ) {stage : Stage} → field < 2 ^ 64 →
      after_controlling control (eqb (answers (Question.MayControl field)) 1) ≡ stage →
      run answers (commanding number mode held (go_to bus (Stage.Gathers (Guarded.Controlling control)))) (bits_of 64 field) ≡
      quietly (commanding number mode held (go_to bus stage)) (bits_of 64 field)
  unfolding judged
  control_field control bus field fits leads =
      rw leads at (field_quiet answers number mode held bus (Guarded.Controlling control) field fits refl refl)

  module _ (control : Control) (g : guarded control ≡ true) (field : ℕ) (fits : field < 2 ^ 64) where
    -- command and password, where it may
    pub control_head : eqb (answers (Question.MayControl field)) 1 ≡ true →
        run answers (chosen number mode held) (bits_of 8 (control_byte control) ++ bits_of 64 field) ≡
        quietly (commanding number mode held (go_to (control_bus control) (Stage.Hears (Hearing.Confirm control))))
        (bits_of 8 (control_byte control) ++ bits_of 64 field)
    unfolding after_controlling
    control_head may =
        quiet_then answers _ (bits_of 8 (control_byte control)) (bits_of 64 field) (control_byte_lem control g)
        (control_field control (control_bus control) field fits (rw may))

    -- where it may not, nothing is done whatever follows, and the line is the master's
    pub control_refused : (bits : List Bool) → eqb (answers (Question.MayControl field)) 1 ≡ false →
        run answers (chosen number mode held) (bits_of 8 (control_byte control) ++ (bits_of 64 field ++ bits)) ≡
        quietly (commanding number mode held (go_to (control_bus control) Stage.Over)) (bits_of 8 (control_byte control) ++ (bits_of 64 field ++ bits))
    unfolding after_controlling
    control_refused bits shut =
        quiet_then answers _ (bits_of 8 (control_byte control)) _ (control_byte_lem control g)
        (quiet_then answers _ (bits_of 64 field) bits (control_field control (control_bus control) field fits (rw shut))
        (run_over answers number mode held (control_bus control) bits))

  -- "then FFh": it is done with the last bit
  pub control_done : (control : Control) (bus : Bus) →
      run answers (commanding number mode held (go_to bus (Stage.Hears (Hearing.Confirm control)))) (bits_of 8 0xFF) ≡
      lastly number mode 7 (listens held (go_to bus Stage.Over) (deed_of control)) (bits_of 8 0xFF)
  unfolding heard_whole confirmed
  control_done control bus = byte_heard answers number mode held bus (Hearing.Confirm control) 0xFF (omega arith)

  -- "Another last byte: not done"
  pub control_undone : (control : Control) (bus : Bus) (byte : ℕ) → byte < 256 → byte ≢ 0xFF →
      run answers (commanding number mode held (go_to bus (Stage.Hears (Hearing.Confirm control)))) (bits_of 8 byte) ≡
      quietly (commanding number mode held (go_to bus Stage.Over)) (bits_of 8 byte)
  unfolding heard_whole confirmed
  control_undone control bus byte fits other =
      byte_quiet answers number mode held bus (Hearing.Confirm control) byte fits (rw (ne_eqb byte 0xFF other))

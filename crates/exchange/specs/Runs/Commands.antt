-- The pieces of a memory command as runs of the tag: a byte that is heard, a password field, a byte that goes out. Assumes nothing.
use Rattle.std.specs.Prelude.{◌≡◌, Bool, true, false, List, [], ◌∷◌, ◌++◌, ℕ, zero, suc, ◌*◌, ◌^◌, ◌<◌, eqb, replicate}
use Rattle.std.proofs.Math.Path.{refl, ap}
use Rattle.std.proofs.Common.{◌∙◌, arith}
use Rattle.std.proofs.Math.Bool.{and-true}
use Rattle.std.proofs.lemmas.Simd.{splat_is_map}
use Rattle.bits.specs.Bits.{bits_of, released}
use Rattle.bits.specs.Bits.Laws.{length_bits}
use Rattle.bus.specs.declared.Bus.{Bus}
use Rattle.bus.specs.declared.Deed.{Deed}
use Rattle.bus.specs.declared.Guarded.{Guarded}
use Rattle.bus.specs.declared.Hearing.{Hearing}
use Rattle.bus.specs.declared.Held.{Held}
use Rattle.bus.specs.declared.Moved.{Moved}
use Rattle.bus.specs.declared.Question.{Question}
use Rattle.bus.specs.declared.Sending.{Sending}
use Rattle.bus.specs.declared.Stage.{Stage}
use Rattle.bus.specs.Bus.{go_to}
use Rattle.memory.specs.Hear.{heard_whole}
use Rattle.field.specs.Field.{judged, field_question}
use Rattle.memory.specs.Send.{first_byte, sent_whole, alternating, send_asks}
use Rattle.memory.specs.Memory as memory
use Rattle.memory.specs.Runs as memory-runs
use Rattle.memory.specs.Runs.Laws.{run_heard, run_gathered, run_read}
use Rattle.select.specs.declared.Mode.{Mode}
use Rattle.exchange.specs.Runs.{Ran, run, quietly, commanding}
use Rattle.exchange.specs.Runs.Laws.{ran, run_commanded, run_quiet}

-- ---- bytes and password fields

-- n slots that do nothing, and a last one that does what this says
abbrev pub lastly : ℕ → Mode → ℕ → Moved → List Bool → Ran
lastly number mode n moved line =
    record { exchange = commanding number mode moved.held moved.bus; line = line; deeds = replicate n Deed.Nothing ++ (moved.deed ∷ []) }

module _ (answers : Question → ℕ) (number : ℕ) (mode : Mode) (held : Held) (bus : Bus) where
  -- the eight slots of a byte: it is heard whole, in the last one
  pub byte_heard : (h : Hearing) (byte : ℕ) → byte < 256 →
      run answers (commanding number mode held (go_to bus (Stage.Hears h))) (bits_of 8 byte) ≡
      lastly number mode 7 (heard_whole h held (go_to bus (Stage.Hears h)) byte) (bits_of 8 byte)
  byte_heard h byte fits =
      run_commanded answers number mode held (go_to bus (Stage.Hears h)) (bits_of 8 byte) ∙
      ap (ran number mode) (run_heard answers h held (go_to bus (Stage.Hears h)) byte refl refl (omega arith) fits)

  -- the 64 slots of a password field: it is judged in the last one, by the answer to one question with the whole field
  pub field_gathered : (g : Guarded) (field : ℕ) → field < 2 ^ 64 →
      run answers (commanding number mode held (go_to bus (Stage.Gathers g))) (bits_of 64 field) ≡
      lastly number mode 63 (judged g held (go_to bus (Stage.Gathers g)) (eqb (answers (field_question g (go_to bus (Stage.Gathers g)) field)) 1)) (bits_of 64 field)
  field_gathered g field fits =
      run_commanded answers number mode held (go_to bus (Stage.Gathers g)) (bits_of 64 field) ∙
      ap (ran number mode) (run_gathered answers g held (go_to bus (Stage.Gathers g)) field refl refl (omega arith) fits)

  -- eight slots with the line released: the line carries the byte that goes out, as the image has it in the first one
  pub byte_sent : (s : Sending) {byte : ℕ} → first_byte s held (go_to bus (Stage.Sends s)) (answers (send_asks s (go_to bus (Stage.Sends s)))) ≡ byte →
      run answers (commanding number mode held (go_to bus (Stage.Sends s))) (released 8) ≡
      quietly (commanding number mode held (sent_whole s held (go_to bus (Stage.Sends s)) byte)) (bits_of 8 byte)
  unfolding bits_of
  byte_sent s out =
      run_commanded answers number mode held (go_to bus (Stage.Sends s)) (released 8) ∙
      ap (ran number mode) (run_read answers s held (go_to bus (Stage.Sends s)) refl refl out)

  -- a byte that is heard and does nothing, and such a field
  pub byte_quiet : (h : Hearing) (byte : ℕ) → byte < 256 → (heard_whole h held (go_to bus (Stage.Hears h)) byte).deed ≡ Deed.Nothing →
      let whole = heard_whole h held (go_to bus (Stage.Hears h)) byte in
      run answers (commanding number mode held (go_to bus (Stage.Hears h))) (bits_of 8 byte) ≡
      quietly (commanding number mode whole.held whole.bus) (bits_of 8 byte)
  unfolding bits_of
  byte_quiet h byte fits none = byte_heard h byte fits ∙ rw none

  pub field_quiet : (g : Guarded) (field : ℕ) {may : Bool} → field < 2 ^ 64 →
      eqb (answers (field_question g (go_to bus (Stage.Gathers g)) field)) 1 ≡ may →
      (judged g held (go_to bus (Stage.Gathers g)) may).deed ≡ Deed.Nothing →
      let said = judged g held (go_to bus (Stage.Gathers g)) may in
      run answers (commanding number mode held (go_to bus (Stage.Gathers g))) (bits_of 64 field) ≡
      quietly (commanding number mode said.held said.bus) (bits_of 64 field)
  field_quiet g field fits answer none =
      field_gathered g field fits ∙ rw (answer, none, ← splat_is_map (bits_of 64 field) _ Deed.Nothing refl, length_bits 64 field)

-- ---- after a command

-- "1s until reset": nothing is done, and the line is the master's
pub run_over : (answers : Question → ℕ) (number : ℕ) (mode : Mode) (held : Held) (bus : Bus) (bits : List Bool) →
    run answers (commanding number mode held (go_to bus Stage.Over)) bits ≡ quietly (commanding number mode held (go_to bus Stage.Over)) bits
unfolding memory-runs.run memory.slot_of memory.asks memory.stage_slot memory.stage_asks memory.on_line
run_over answers number mode held bus bits = run_quiet answers number mode held (go_to bus Stage.Over) bits (over bits)
  where
    over : (bits : List Bool) → memory-runs.run answers held (go_to bus Stage.Over) bits ≡ memory-runs.quietly held (go_to bus Stage.Over) bits
    over [] = refl
    over (bit ∷ bits) = rw (over bits, and-true bit)

-- "0,1,0,1 on": n times over
unfoldable pub zero_ones : ℕ → List Bool
zero_ones zero = []
zero_ones (suc n) = false ∷ true ∷ zero_ones n

-- after a Copy that is done, over slots with the line released
pub run_copied : (answers : Question → ℕ) (number : ℕ) (mode : Mode) (held : Held) (bus : Bus) (n : ℕ) →
    run answers (commanding number mode held (go_to bus Stage.Copied)) (released (n * 2)) ≡
    quietly (commanding number mode held (go_to bus Stage.Copied)) (zero_ones n)
unfolding memory-runs.run memory.slot_of memory.asks memory.stage_slot memory.stage_asks memory.on_line alternating zero_ones
run_copied answers number mode held bus n = run_quiet answers number mode held (go_to bus Stage.Copied) (released (n * 2)) (copied n)
  where
    copied : (n : ℕ) → memory-runs.run answers held (go_to bus Stage.Copied) (released (n * 2)) ≡ memory-runs.quietly held (go_to bus Stage.Copied) (zero_ones n)
    copied zero = refl
    copied (suc n) = let more : suc n * 2 ≡ suc (suc (n * 2)) = omega arith in rw (more, copied n)

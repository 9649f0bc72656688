-- The parts that memory commands share, as runs of the exchange that do nothing: bytes heard one after the other, and a command
-- with its address. Assumes nothing.
use Rattle.std.specs.Prelude.{◌≡◌, Bool, ℕ, ◌+◌, ◌*◌, ◌/◌, ◌%◌, ◌<◌}
use Rattle.std.proofs.Math.Path.{refl}
use mathlib.Core.List.{List, [], ◌∷◌, ◌++◌, flat_map}
use native.Mathlib.Omega.{arith}
use Rattle.bits.specs.Bits.{bits_of, slots_of, released}
use Rattle.crc.specs.Crc.{crc_run, crc16_run}
use Rattle.exchange.specs.declared.Exchange.{Exchange}
use Rattle.exchange.specs.Runs.{run, quietly, commanding, chosen}
use Rattle.exchange.specs.Runs.Laws.{run_nil, quiet_then}
use Rattle.exchange.specs.Runs.Commands.{byte_quiet, byte_sent}
use Rattle.bus.specs.declared.Addressed.{Addressed}
use Rattle.bus.specs.declared.Bus.{Bus}
use Rattle.bus.specs.declared.Deed.{Deed}
use Rattle.bus.specs.declared.Hearing.{Hearing}
use Rattle.bus.specs.declared.Held.{Held}
use Rattle.bus.specs.declared.Question.{Question}
use Rattle.bus.specs.declared.Sending.{Sending}
use Rattle.bus.specs.declared.Stage.{Stage}
use Rattle.bus.specs.Bus.{clear_bus, go_to, listens}
use Rattle.memory.specs.Hear.{command_stage, address_heard, heard_whole}
use Rattle.memory.specs.Send.{first_byte, sent_whole, send_asks}
use Rattle.memory.specs.Runs.Scratchpad.{over_at}
use Rattle.select.specs.declared.Mode.{Mode}

module _ (answers : Question → ℕ) (number : ℕ) (mode : Mode) where
  -- a byte that is heard and does nothing, and what comes after it
  pub heard_then : (h : Hearing) (held : Held) (bus : Bus) (byte : ℕ) (more : List Bool) {y : Exchange} {line : List Bool} → byte < 256 →
      let whole = heard_whole h held (go_to bus (Stage.Hears h)) byte in
      whole.deed ≡ Deed.Nothing → run answers (commanding number mode whole.held whole.bus) more ≡ quietly y line →
      run answers (commanding number mode held (go_to bus (Stage.Hears h))) (bits_of 8 byte ++ more) ≡ quietly y (bits_of 8 byte ++ line)
  heard_then h held bus byte more fits none rest =
      quiet_then answers (commanding number mode held (go_to bus (Stage.Hears h))) (bits_of 8 byte) more
      (byte_quiet answers number mode held bus h byte fits none) rest

  -- a byte that goes out, and what comes after it
  pub sent_then : (s : Sending) (held : Held) (bus : Bus) (byte : ℕ) (more : List Bool) {y : Exchange} {line : List Bool} →
      first_byte s held (go_to bus (Stage.Sends s)) (answers (send_asks s (go_to bus (Stage.Sends s)))) ≡ byte →
      run answers (commanding number mode held (sent_whole s held (go_to bus (Stage.Sends s)) byte)) more ≡ quietly y line →
      run answers (commanding number mode held (go_to bus (Stage.Sends s))) (released 8 ++ more) ≡ quietly y (bits_of 8 byte ++ line)
  sent_then s held bus byte more out rest =
      quiet_then answers (commanding number mode held (go_to bus (Stage.Sends s))) (released 8) more
      (byte_sent answers number mode held bus s out) rest

  -- a command byte, TA1 and TA2: the CRC-16 has counted them, and the command's own next stage begins
  pub head_run : (held : Held) (a : Addressed) (stage : Stage) (byte address : ℕ) → byte < 256 → address < 65536 →
      command_stage byte ≡ Stage.Hears (Hearing.Low a) → ((bus : Bus) → address_heard a held bus ≡ listens held (go_to bus stage) Deed.Nothing) →
      let head = byte ∷ address % 256 ∷ address / 256 ∷ [] in
      run answers (chosen number mode held) (slots_of head) ≡
      quietly (commanding number mode held (go_to (over_at (crc16_run 0 head) address) stage)) (slots_of head)
  unfolding flat_map heard_whole crc_run
  head_run held a stage byte address small fits leads goes =
      let low = address % 256 in
      let high = address / 256 in
      let whole : low % 256 + 256 * high ≡ address = omega arith in
      heard_then Hearing.Command held (clear_bus Stage.Over) byte _ small refl
      (rw leads
      (heard_then (Hearing.Low a) held (over_at (crc16_run 0 (byte ∷ [])) 0) low _ (omega arith) refl
      (heard_then (Hearing.High a) held (over_at (crc16_run 0 (byte ∷ low ∷ [])) low) high [] (omega arith) (rw goes)
      (rw (goes, whole) (run_nil answers _)))))

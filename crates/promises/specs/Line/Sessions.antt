-- Whole sessions, a reset, a ROM command that chooses the tag, and a memory command's slots, of which the demands' own runs are made
-- (Demand2/Met, Demand3/Needed): as equations, with the image's own answers. What the commands do is said by `Sentences.Commands`. Assumes
-- nothing.
use Rattle.std.specs.Prelude.{◌≡◌, refl, Bool, ◌&&◌, List, [], ◌∷◌, ◌++◌, ℕ, ◌+◌, ◌*◌, ◌%◌, ◌^◌, ◌<◌, ltb, length, get_or}
use Rattle.std.proofs.Math.Path.{ap}
use Rattle.std.proofs.Common.{◌∙◌}
use Rattle.std.proofs.Math.Bool.{true, false}
use Rattle.std.proofs.Math.Dec.{eqb}
use Rattle.bits.specs.Bits.{bits_of, slots_of, released}
use Rattle.bits.specs.Bits.Laws.{digit_one}
use Rattle.crc.specs.Crc.{crc16_run, sent_low, sent_high}
use Rattle.exchange.specs.Runs.{commanding, Way, way_mode}
use Rattle.exchange.specs.Runs.Laws.{run_quiet}
use Rattle.exchange.specs.Runs.Commands.{run_copied}
use Rattle.image.specs.Answers.{may_control, may_copy, may_read}
use Rattle.image.specs.Sent.{sent_at}
use Rattle.image.specs.Stored.{stored_run, stored_page}
use Rattle.bus.specs.declared.Control.{Control}
use Rattle.bus.specs.declared.Deed.{Deed}
use Rattle.bus.specs.declared.Guarded.{Guarded}
use Rattle.bus.specs.declared.Hearing.{Hearing}
use Rattle.bus.specs.declared.Question.{Question}
use Rattle.bus.specs.declared.Stage.{Stage}
use Rattle.bus.specs.Bus.{clear_bus, go_to, status_byte}
use Rattle.event.specs.Event.{answer_to, performed}
use Rattle.field.specs.Field.{guarded, with_aa}
use Rattle.memory.specs.Hear.{deed_of}
use Rattle.memory.specs.Runs.Scratchpad.{over_at, write_head, written_to, write_scratchpad, rest_of_page}
use Rattle.promises.specs.Line.ControlRun.{control_slots, control_byte, control_bus, control_head, control_done}
use Rattle.promises.specs.Line.CopyRun.{copy_head, copy_bus, copy_head_lem, copy_field, copies_right, status_lt}
use Rattle.promises.specs.Line.ReadRun.{read_head, read_slots, page_sent, read_run, unread_run}
use Rattle.promises.specs.Line.Slots.{session, greeting, session_quiet, session_then, slots_quiet, slots_lastly, slots_then, answers_of, with_exchange, after_deed}
use Rattle.promises.specs.Runs.{State, Ran, run}
use Rattle.promises.specs.Runs.Laws.{Sound, sound_run}
use Rattle.promises.specs.Words.{number_of, held_of}

-- ---- Write Scratchpad and Copy

-- the slots of a Write Scratchpad: 0Fh, TA1, TA2, the data to the page's end, and the CRC-16
abbrev pub write_slots : ℕ → List ℕ → List Bool
write_slots address bytes = slots_of (write_head address ++ bytes) ++ released 16

-- TA and data are held
pub writes_scratchpad : (s : State) (sound : Sound s) (way : Way) (address : ℕ) (bytes : List ℕ) → length (held_of s).pad ≡ 32 →
    address < 65536 → address % 32 + length bytes ≡ 32 → ((i : ℕ) → get_or bytes i 0 < 256) →
    let sent = write_head address ++ bytes in
    let crc = crc16_run 0 sent in
    run s (session s way (write_slots address bytes)) ≡
    record {
      line = greeting s way ++ (slots_of sent ++ slots_of (sent_low crc ∷ sent_high crc ∷ []));
      state = with_exchange s (commanding (number_of s) (way_mode way false) (written_to (held_of s) address bytes) (over_at crc address));
    }
writes_scratchpad s sound way address bytes long fits end small =
    session_quiet s sound way (write_slots address bytes)
    (run_quiet (answers_of s) (number_of s) (way_mode way false) (held_of s) (clear_bus (Stage.Hears Hearing.Command)) (write_slots address bytes)
    (write_scratchpad (answers_of s) (held_of s) address bytes long fits end small))

-- the slots of a Copy: 99h, TA1, TA2, E/S, the eight password bytes, and 2n slots more
abbrev pub copy_slots : ℕ → ℕ → ℕ → ℕ → List Bool
copy_slots address status field n = slots_of (copy_head address status) ++ (bits_of 64 field ++ released (n * 2))

-- with the address and E/S as held, up to the page's end, and a password that may, the page is stored
copies_held : (s : State) (sound : Sound s) (way : Way) (field n : ℕ) → field < 2 ^ 64 →
    let held = held_of s in
    held.ta < 65536 → held.ending ≡ 0x1F → held.pf ≡ false → may_copy s.image field held.ta ≡ true →
    (run s (session s way (copy_slots held.ta (status_byte held) field n))).state.image ≡ stored_page s.image held.pad held.ta
unfolding answer_to performed
copies_held s sound way field n fits low full whole may =
    let held = held_of s in
    let number = number_of s in
    let mode = way_mode way false in
    let bus = copy_bus held.ta (status_byte held) in
    let answer : eqb (answers_of s (Question.MayCopy field held.ta)) 1 ≡ true = rw may in
    let headed = with_exchange s (commanding number mode held (go_to bus (Stage.Gathers Guarded.Copying))) in
    let done = after_deed Deed.Store headed (commanding number mode (with_aa held) (go_to bus Stage.Copied)) in
    ap (λ (r : Ran). r.state.image)
    (session_then s sound way (slots_of (copy_head held.ta (status_byte held))) (bits_of 64 field ++ released (n * 2))
    (copy_head_lem (answers_of s) number mode held held.ta (status_byte held) low (status_lt held))
    (slots_then headed (bits_of 64 field) (released (n * 2))
    (slots_lastly headed (bits_of 64 field) 63 Deed.Store
    (copy_field (answers_of s) number mode held bus field fits (copies_right held full whole answer)))
    (slots_quiet done (released (n * 2)) (run_copied (answers_of done) number mode (with_aa held) bus n))))

-- Write Scratchpad, and after another reset Copy with E/S 1Fh: the bytes written are stored
pub writes_and_copies : (s : State) (sound : Sound s) (way again : Way) (address field n : ℕ) (bytes : List ℕ) → length (held_of s).pad ≡ 32 →
    address < 65536 → address % 32 + length bytes ≡ 32 → ((i : ℕ) → get_or bytes i 0 < 256) → field < 2 ^ 64 → may_copy s.image field address ≡ true →
    let written = (run s (session s way (write_slots address bytes))).state in
    (run written (session written again (copy_slots address 0x1F field n))).state.image ≡ stored_run s.image address bytes
unfolding status_byte stored_page
writes_and_copies s sound way again address field n bytes long fits end small whole may =
    let held = written_to (held_of s) address bytes in
    let crc = crc16_run 0 (write_head address ++ bytes) in
    let written = with_exchange s (commanding (number_of s) (way_mode way false) held (over_at crc address)) in
    let wrote = writes_scratchpad s sound way address bytes long fits end small in
    let still : Sound written = rw wrote at (sound_run (session s way (write_slots address bytes)) sound) in
    rw wrote
    (copies_held written still again field n whole fits refl refl may
    ∙ ap (stored_run s.image address) (rest_of_page (held_of s).pad address bytes long))

-- ---- Clear, Start, Stop: with the last bit of FFh comes the command's deed

-- with a password that may
pub controls : (s : State) (sound : Sound s) (way : Way) (field : ℕ) → field < 2 ^ 64 → may_control s.image field ≡ true →
    (control : Control) → guarded control ≡ true →
    run s (session s way (control_slots control field 0xFF)) ≡
    record {
      line = greeting s way ++ control_slots control field 0xFF;
      state = after_deed (deed_of control) s (commanding (number_of s) (way_mode way false) (held_of s) (go_to (control_bus control) Stage.Over));
    }
unfolding answer_to
controls s sound way field fits may control g =
    let held = held_of s in
    let number = number_of s in
    let mode = way_mode way false in
    let answer : eqb (answers_of s (Question.MayControl field)) 1 ≡ true = rw may in
    let headed = with_exchange s (commanding number mode held (go_to (control_bus control) (Stage.Hears (Hearing.Confirm control)))) in
    session_then s sound way (bits_of 8 (control_byte control) ++ bits_of 64 field) (bits_of 8 0xFF)
    (control_head (answers_of s) number mode held control g field fits answer)
    (slots_lastly headed (bits_of 8 0xFF) 7 (deed_of control) (control_done (answers_of s) number mode held control (control_bus control)))

-- ---- Read Memory

module _ (s : State) (sound : Sound s) (way : Way) (address field : ℕ) (fits : field < 2 ^ 64) where
  -- with a password that may: the bytes to the page's end, and their CRC-16
  pub reads_memory : address < 0x3000 → may_read s.image field ≡ true →
      (run s (session s way (read_slots address field))).line ≡ greeting s way ++
      (slots_of (read_head address) ++ (bits_of 64 field ++ slots_of (page_sent (sent_at s.image s.tag.code) address)))
  unfolding answer_to
  reads_memory low may =
      let answer : eqb (answers_of s (Question.MayRead field)) 1 ≡ true = rw may in
      ap (λ (r : Ran). r.line)
      (session_quiet s sound way (read_slots address field)
      (read_run (answers_of s) (number_of s) (way_mode way false) (held_of s) address field fits low answer))

  -- with any other: the line is the master's, whatever follows
  pub reads_nothing : (bits : List Bool) → address < 65536 → (ltb address 0x3000 && may_read s.image field) ≡ false →
      let slots = slots_of (read_head address) ++ (bits_of 64 field ++ bits) in
      (run s (session s way slots)).line ≡ greeting s way ++ slots
  unfolding answer_to
  reads_nothing bits whole shut =
      let answer : (ltb address 0x3000 && eqb (answers_of s (Question.MayRead field)) 1) ≡ false = rw (digit_one (may_read s.image field)) shut in
      ap (λ (r : Ran). r.line)
      (session_quiet s sound way _ (unread_run (answers_of s) (number_of s) (way_mode way false) (held_of s) address field fits bits whole answer))

-- Write Scratchpad and Read Scratchpad, from a tag that is chosen. Assumes nothing.
use Rattle.std.specs.Prelude.{◌≡◌, refl, Bool, ℕ, suc, ◌+◌, ◌-◌, ◌*◌, ◌/◌, ◌%◌, ◌≤◌, ◌<◌, ltb, length, get_or, take, drop, if◌then◌else◌}
use Rattle.std.proofs.Common.{ap, ◌∙◌, arith, lt-ltb, le-ltb, drop_of_length-le, length-take-le, get_or-take, get_or-drop, get_or-append-add}
use mathlib.Core.List.{List, [], ◌∷◌, ◌++◌, append_assoc, append-nil, flat_map}
use Rattle.std.proofs.Math.Logic.{dite}
use Rattle.std.proofs.Math.Decide.{dec_lt}
use Rattle.std.proofs.Math.ListN.{get_or-append}
use Rattle.std.proofs.lemmas.List.Edits.{sets-eq}
use Rattle.std.proofs.Math.Seq.{length-sets}
use Rattle.bits.specs.Bits.{bits_of, slots_of, released}
use Rattle.bits.specs.Bits.Laws.{slots_append}
use Rattle.crc.specs.Crc.{crc16_run, sent_low, sent_high}
use Rattle.exchange.specs.Runs.Laws.{quiet_then, run_quiet}
use Rattle.exchange.specs.Runs.Commands.{run_over}
use Rattle.bus.specs.declared.Bus.{Bus}
use Rattle.bus.specs.declared.Hearing.{Hearing}
use Rattle.bus.specs.declared.Held.{Held}
use Rattle.bus.specs.declared.Stage.{Stage}
use Rattle.bus.specs.Bus.{clear_bus}
use Rattle.memory.specs.Runs.Scratchpad.{over_at, pad_bytes, read_scratchpad, write_head, written_to, write_scratchpad}
use Rattle.promises.specs.Line.Slots.{answers_of, kept_by}
use Rattle.promises.specs.Line.WriteRun.{written_part, part_run, address_begun}
use Rattle.promises.specs.Ranges.{Fit}
use Rattle.promises.specs.Runs.{State, Kept}
use Rattle.promises.specs.Sentences.Commands.{sent, Nothing, AreBytes, head_of, crc_of}
use Rattle.promises.specs.Sentences.Scratchpad.{Written}
use Rattle.promises.specs.Sentences.Commands.Sent.{mode_of, goes_on, chosen_of, sent_quiet, head_slots}
use Rattle.promises.specs.Words as words
use Rattle.promises.specs.Words.{low, number_of, held_of, status_of, Chosen}
use Rattle.promises.specs.Words.Laws.{low_is, slots_are, two_bytes, crc_sent, status_is}

-- ---- what is held

-- bytes from a place on, over what was there
placed : (pad bytes : List ℕ) (at place : ℕ) → at + length bytes ≤ length pad →
    get_or (take at pad ++ bytes ++ drop (at + length bytes) pad) place 0
    ≡ (if ltb place at then get_or pad place 0
    else if ltb place (at + length bytes) then get_or bytes (place - at) 0
    else get_or pad place 0)
placed pad bytes at place fits =
    let n = length bytes in
    let first : length (take at pad) ≡ at = length-take-le at pad (omega arith) in
    let rest = drop (at + n) pad in
    rw (append_assoc (take at pad) bytes rest)
    (dite (dec_lt place at)
    (λ below. rw (lt-ltb place at below) (get_or-append (take at pad) (bytes ++ rest) 0 place (omega arith) ∙ get_or-take at pad place 0 below))
    (λ from.
    let there : at + (place - at) ≡ place = omega arith in
    let past : get_or (take at pad ++ (bytes ++ rest)) place 0 ≡ get_or (bytes ++ rest) (place - at) 0 =
    rw (first, there) at (get_or-append-add (take at pad) (bytes ++ rest) (place - at) 0) in
    rw (le-ltb place at (omega arith))
    (dite (dec_lt place (at + n))
    (λ inside. rw (lt-ltb place (at + n) inside) (past ∙ get_or-append bytes rest 0 (place - at) (omega arith)))
    (λ over.
    let further : n + (place - at - n) ≡ place - at = omega arith in
    let back : at + n + (place - at - n) ≡ place = omega arith in
    rw (le-ltb place (at + n) (omega arith))
    (past ∙ (rw further at (get_or-append-add bytes rest (place - at - n) 0)) ∙ get_or-drop (at + n) pad (place - at - n) 0 ∙ rw back)))))

-- and so the bytes of a Write Scratchpad
pub is_written : (held : Held) (address : ℕ) (bytes : List ℕ) (broken : List Bool) → length held.pad ≡ 32 → address % 32 + length bytes ≤ 32 →
    Written address bytes broken held (written_part held address bytes broken)
is_written held address bytes broken size fits =
    record {
      ta = refl;
      aa = refl;
      ending = refl;
      pf = refl;
      size = rw (← sets-eq bytes held.pad (address % 32) (omega arith)) (length-sets held.pad (address % 32) bytes ∙ size);
      places = λ place inside. placed held.pad bytes (address % 32) place (omega arith);
    }

-- a page that is written to its end
pub written_whole : (held : Held) (address : ℕ) (bytes : List ℕ) → length held.pad ≡ 32 → address % 32 + length bytes ≡ 32 →
    written_to held address bytes ≡ written_part held address bytes []
written_whole held address [] size end = absurd (omega arith)
written_whole held address (d ∷ ds) size end =
    let last : address % 32 + (suc (length ds) - 1) ≡ 0x1F = omega arith in
    rw (end, drop_of_length-le held.pad {i = 32} (omega arith), append-nil, last, le-ltb (suc (length ds)) 1 (omega arith))

-- ---- the runs

-- what Read Scratchpad sends before its CRC-16
pad_slots : (held : Held) →
    low 8 0xAA ++ (low 16 held.ta ++ (status_of held ++ words.slots (drop (held.ta % 32) held.pad))) ≡ slots_of (0xAA ∷ pad_bytes held)
unfolding flat_map
pad_slots held =
    rw (slots_are, low_is 8 0xAA, ← two_bytes held.ta, ← status_is held, append-nil)
    (ap (λ (bits : List Bool). bits_of 8 0xAA ++ bits) (append_assoc (bits_of 8 (held.ta % 256)) (bits_of 8 (held.ta / 256)) _))

module _ {s : State} (fit : Fit s) (ready : Chosen s) where
  -- "0Fh Write Scratchpad", to the page's end
  pub writes : (address : ℕ) (bytes : List ℕ) (more : List Bool) → address < 65536 → AreBytes bytes → address % 32 + length bytes ≡ 32 →
      let bits = head_of 0x0F address ++ words.slots bytes in
      sent s (bits ++ (released 16 ++ more)) ≡
      record {
        line = bits ++ (crc_of bits ++ more);
        state = goes_on s (written_part (held_of s) address bytes []) (over_at (crc16_run 0 (write_head address ++ bytes)) address);
      }
  writes address bytes more small are end =
      let held = held_of s in
      let all = write_head address ++ bytes in
      rw (
        head_slots 0x0F address bytes,
        ← written_whole held address bytes fit.pad end,
        ← crc_sent all,
        ← append_assoc (slots_of all) (released 16) more,
        ← append_assoc (slots_of all) _ more,
      )
      (sent_quiet fit ready ((slots_of all ++ released 16) ++ more)
      (quiet_then (answers_of s) (chosen_of s) (slots_of all ++ released 16) more
      (run_quiet (answers_of s) (number_of s) (mode_of s) held (clear_bus (Stage.Hears Hearing.Command)) (slots_of all ++ released 16)
      (write_scratchpad (answers_of s) held address bytes fit.pad small end are))
      (run_over (answers_of s) (number_of s) (mode_of s) (written_to held address bytes) (over_at (crc16_run 0 all) address) more)))

  -- one that ends before the page's last byte is whole
  pub writes_part : (address : ℕ) (bytes : List ℕ) (broken : List Bool) → address < 65536 → AreBytes bytes →
      address % 32 + length bytes < 32 → length broken < 8 →
      let bits = head_of 0x0F address ++ (words.slots bytes ++ broken) in
      (bus : Bus) × (sent s bits ≡ record { line = bits; state = goes_on s (written_part (held_of s) address bytes broken) bus })
  writes_part address bytes broken small are inside few =
      let ran = part_run (answers_of s) (number_of s) (mode_of s) (held_of s) address bytes broken fit.pad small inside are few in
      (ran.0, rw (← append_assoc (head_of 0x0F address) (words.slots bytes) broken, head_slots 0x0F address bytes) (sent_quiet fit ready _ ran.1))

  -- and one that ends before both address bytes are in
  pub writes_begun : (bits : List Bool) → length bits < 16 → Nothing s (low 8 0x0F ++ bits)
  writes_begun bits few =
      let ran = address_begun (answers_of s) (number_of s) (mode_of s) (held_of s) bits few in
      rw (low_is 8 0x0F) (kept_by s (sent_quiet fit ready (bits_of 8 0x0F ++ bits) ran.1))

  -- "AAh Read Scratchpad"
  pub reads_pad : (more : List Bool) →
      let held = held_of s in
      let bits = low 8 0xAA ++ (low 16 held.ta ++ (status_of held ++ words.slots (drop (held.ta % 32) held.pad))) in
      let ran = sent s (low 8 0xAA ++ (released ((37 - held.ta % 32) * 8) ++ more)) in
      (ran.line ≡ bits ++ (crc_of bits ++ more)) × Kept s ran.state
  reads_pad more =
      let held = held_of s in
      let all : List ℕ = 0xAA ∷ pad_bytes held in
      let count : (37 - held.ta % 32) * 8 ≡ (3 + (32 - held.ta % 32) + 2) * 8 = omega arith in
      let crc = crc16_run 0 all in
      let out = slots_of (sent_low crc ∷ sent_high crc ∷ []) in
      let slots = bits_of 8 0xAA ++ released ((3 + (32 - held.ta % 32) + 2) * 8) in
      rw (
        pad_slots held,
        low_is 8 0xAA,
        count,
        ← crc_sent all,
        ← append_assoc (bits_of 8 0xAA) _ more,
        ← append_assoc (slots_of all) out more,
        ← slots_append all (sent_low crc ∷ sent_high crc ∷ []),
      )
      (kept_by s (sent_quiet fit ready (slots ++ more)
      (quiet_then (answers_of s) (chosen_of s) slots more
      (run_quiet (answers_of s) (number_of s) (mode_of s) held (clear_bus (Stage.Hears Hearing.Command)) slots
      (read_scratchpad (answers_of s) held fit.pad))
      (run_over (answers_of s) (number_of s) (mode_of s) held (over_at crc 0) more))))

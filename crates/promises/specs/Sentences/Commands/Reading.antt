-- Read Memory, from a tag that is chosen. Assumes nothing.
use Rattle.std.specs.Prelude.{◌≡◌, Bool, false, ◌&&◌, ◌⊎◌, eqb, ltb}
use Rattle.std.proofs.Math.Path.{refl}
use Rattle.std.proofs.Common.{sym, ◌∙◌, ⊎_elim, le-ltb}
use Rattle.std.proofs.Math.Bool.{true, and-false}
use mathlib.Core.List.{List, [], ◌∷◌, ◌++◌, append_assoc, flat_map}
use Prim.Native.Nat.{ℕ, zero, suc, ◌+◌, ◌-◌, ◌*◌, ◌/◌, ◌%◌, ◌^◌, ◌≤◌, ◌<◌}
use native.Mathlib.Omega.{arith}
use Rattle.std.proofs.Math.ListN.{replicate-append-replicate}
use Rattle.bits.specs.Bits.{bits_of, slots_of, released}
use Rattle.bits.specs.Bits.Laws.{slots_append}
use Rattle.crc.specs.Crc.{crc16_run, sent_low, sent_high}
use Rattle.dump.specs.Lines.{bytes_from}
use Rattle.exchange.specs.Runs as exchange
use Rattle.exchange.specs.Runs.{commanding, quietly}
use Rattle.exchange.specs.Runs.Laws.{quiet_then}
use Rattle.exchange.specs.Runs.Commands.{run_over}
use Rattle.bus.specs.declared.Bus.{Bus}
use Rattle.bus.specs.declared.Question.{Question}
use Rattle.event.specs.Event.{answer_to}
use Rattle.image.specs.Sent as image_sent
use Rattle.memory.specs.Runs.Scratchpad.{over_at}
use Rattle.memory.specs.Send.{after_page}
use Rattle.promises.specs.Line.ReadRun.{read_head, sent_with, page_sent, pages_sent, next_sent, read_slots, last_of, page_end, last_crc, read_run, pages_run, unread_run}
use Rattle.promises.specs.Line.Slots.{answers_of, kept_by}
use Rattle.promises.specs.Ranges.{Fit}
use Rattle.promises.specs.Runs.{State, Kept}
use Rattle.promises.specs.Sentences.Commands.{sent, Nothing, head_of, PassesRead}
use Rattle.promises.specs.Sentences.Reading.{page, pages}
use Rattle.promises.specs.Sentences.Commands.Passwords.{unless, read_may, read_passes, answers_read}
use Rattle.promises.specs.Sentences.Commands.Sent.{mode_of, chosen_of, sent_quiet, head_is}
use Rattle.promises.specs.Sentences.Memory.Laws.{sent_from_lem}
use Rattle.promises.specs.Words.{low, number_of, held_of, Chosen}
use Rattle.promises.specs.Words.Laws.{low_is, slots_are, crc_sent}

-- ---- what is on the line

module _ {s : State} (fit : Fit s) where
  -- the bytes of the image
  abbrev byte_of : ℕ → ℕ
  byte_of = image_sent.sent_at s.image s.tag.code

  -- some of them, and the CRC-16 over these and what was before
  page_is : (before : List ℕ) (address count : ℕ) →
      let bytes = bytes_from byte_of address count in
      let crc = crc16_run 0 (before ++ bytes) in
      page s (slots_of before) address count ≡ slots_of (bytes ++ (sent_low crc ∷ sent_high crc ∷ []))
  page_is before address count =
      let bytes = bytes_from byte_of address count in
      rw (
        slots_append bytes _,
        crc_sent (before ++ bytes),
        slots_append before bytes,
        slots_are,
        sent_from_lem s.image fit.size s.tag.code address count,
      )

  -- n pages
  pages_are : (address n : ℕ) → pages s address n ≡ slots_of (pages_sent byte_of address n)
  unfolding pages pages_sent flat_map
  pages_are address zero = refl
  pages_are address (suc n) =
      rw (slots_append (next_sent (bytes_from byte_of address 32)) _, pages_are (address + 32) n, page_is [] address 32)

module _ {s : State} (fit : Fit s) (ready : Chosen s) (address field : ℕ) (whole : field < 2 ^ 64) where
  -- the slots of a Read Memory of the rest of a page and of n pages more
  abbrev read_bits : ℕ → List Bool
  read_bits n = head_of 0x69 address ++ (low 64 field ++ released ((34 - address % 32) * 8 + n * 272))

  -- what is on the line
  abbrev read_line : ℕ → List Bool
  read_line n =
      let head = head_of 0x69 address in
      head ++ (low 64 field ++ (page s head address (32 - address % 32) ++ pages s (address / 32 * 32 + 32) n))

  -- and the bus state after them
  abbrev read_end : ℕ → Bus
  read_end n =
      let byte = byte_of fit in
      let bytes = bytes_from byte address (32 - address % 32) in
      page_end (last_crc byte (crc16_run 0 (read_head address ++ bytes)) (last_of address + 1) n) (last_of address + 32 * n)

  -- as the exchange's run
  read_exchange : PassesRead s field → (n : ℕ) → address / 32 * 32 + 32 * n < 0x3000 →
      exchange.run (answers_of s) (chosen_of s) (read_bits n) ≡ quietly (commanding (number_of s) (mode_of s) (held_of s) (read_end n)) (read_line n)
  unfolding answer_to page_sent sent_with
  read_exchange passes n low-enough =
      let head = slots_of (read_head address) in
      let byte = byte_of fit in
      let bytes = bytes_from byte address (32 - address % 32) in
      let first = released ((34 - address % 32) * 8) in
      let end : address / 32 * 32 + 32 ≡ last_of address + 1 = omega arith in
      rw (
        end,
        head_is 0x69 address,
        low_is 64 field,
        page_is fit (read_head address) address (32 - address % 32),
        pages_are fit (last_of address + 1) n,
        ← replicate-append-replicate ((34 - address % 32) * 8) (n * 272) true,
        ← append_assoc (bits_of 64 field) first (released (n * 272)),
        ← append_assoc head (bits_of 64 field ++ first) (released (n * 272)),
        ← append_assoc (bits_of 64 field) (slots_of (page_sent byte address)) (slots_of (pages_sent byte (last_of address + 1) n)),
        ← append_assoc head (bits_of 64 field ++ slots_of (page_sent byte address)) (slots_of (pages_sent byte (last_of address + 1) n)),
      )
      (quiet_then (answers_of s) (chosen_of s) (read_slots address field) (released (n * 272))
      (read_run (answers_of s) (number_of s) (mode_of s) (held_of s) address field whole (omega arith) (answers_read s field ∙ read_may s field passes))
      (pages_run (answers_of s) (number_of s) (mode_of s) (held_of s) n (crc16_run 0 (read_head address ++ bytes)) (last_of address)
      (omega arith) (omega arith)))

  -- with a password that passes
  pub reads : PassesRead s field → (n : ℕ) → address / 32 * 32 + 32 * n < 0x3000 →
      let head = head_of 0x69 address in
      let count = 32 - address % 32 in
      let ran = sent s (head ++ (low 64 field ++ released ((count + 2) * 8 + n * 272))) in
      (ran.line ≡ head ++ (low 64 field ++ (page s head address count ++ pages s (address / 32 * 32 + 32) n))) × Kept s ran.state
  reads passes n low-enough =
      let count : 32 - address % 32 + 2 ≡ 34 - address % 32 = omega arith in
      rw count (kept_by s (sent_quiet fit ready (read_bits n) (read_exchange passes n low-enough)))

  -- behind the last page
  pub reads_on : PassesRead s field → (n : ℕ) (more : List Bool) → address / 32 * 32 + 32 * n ≡ 0x2FE0 →
      ((sent s (read_bits n ++ more)).line ≡ (sent s (read_bits n)).line ++ more) × Kept s (sent s (read_bits n ++ more)).state
  unfolding after_page
  reads_on passes n more last =
      let there : last_of address + 32 * n ≡ 0x2FFF = omega arith in
      let first = read_exchange passes n (omega arith) in
      let byte = byte_of fit in
      let bytes = bytes_from byte address (32 - address % 32) in
      let crc = last_crc byte (crc16_run 0 (read_head address ++ bytes)) (last_of address + 1) n in
      let ended = rw there at first in
      rw (sent_quiet fit ready (read_bits n) first)
      (kept_by s (sent_quiet fit ready (read_bits n ++ more)
      (quiet_then (answers_of s) (chosen_of s) (read_bits n) more ended
      (run_over (answers_of s) (number_of s) (mode_of s) (held_of s) (over_at crc 0x2FFF) more))))

  -- with one that does not, and past 2FFFh
  pub reads_not : (more : List Bool) → address < 65536 → ((PassesRead s field → ⊥) ⊎ (0x3000 ≤ address)) →
      Nothing s (head_of 0x69 address ++ (low 64 field ++ more))
  reads_not more small why =
      let may = eqb (answers_of s (Question.MayRead field)) 1 in
      let shut : (ltb address 0x3000 && may) ≡ false =
      ⊎_elim (λ (never : PassesRead s field → ⊥). rw (unless may (λ e. never (read_passes s field (sym (answers_read s field) ∙ e))), and-false))
      (λ (past : 0x3000 ≤ address). rw (le-ltb address 0x3000 past)) why in
      rw (head_is 0x69 address, low_is 64 field)
      (kept_by s (sent_quiet fit ready (slots_of (read_head address) ++ (bits_of 64 field ++ more))
      (unread_run (answers_of s) (number_of s) (mode_of s) (held_of s) address field whole more small shut)))

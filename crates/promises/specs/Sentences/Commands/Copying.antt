-- Copy, from a tag that is chosen. Assumes nothing.
use Rattle.std.specs.Prelude.{◌≡◌, refl, Bool, true, false, ◌&&◌, ℕ, zero, suc, ◌*◌, ◌/◌, ◌%◌, ◌^◌, ◌<◌, length}
use Rattle.std.proofs.Common.{sym, ◌∙◌}
use Rattle.std.proofs.Math.Path.{ap}
use Rattle.std.proofs.Math.Bool.{not, and-eq-true_iff}
use mathlib.Core.List.{List, [], ◌∷◌, ◌++◌, append_assoc, append-nil, flat_map}
use borrow.Author.Tests.{eqb-true, not-true}
use Rattle.std.proofs.Math.Dec.{eqb}
use Rattle.bits.specs.Bits as bits
use Rattle.bits.specs.Bits.{bits_of, slots_of, released}
use Rattle.bits.specs.Bits.Laws.{bits_number, number_lt, slots_append}
use Rattle.exchange.specs.Runs.{commanding}
use Rattle.exchange.specs.Runs.Laws.{quiet_then}
use Rattle.exchange.specs.Runs.Commands as commands
use Rattle.exchange.specs.Runs.Commands.{run_copied}
use Rattle.bus.specs.declared.Deed.{Deed}
use Rattle.bus.specs.declared.Guarded.{Guarded}
use Rattle.bus.specs.declared.Question.{Question}
use Rattle.bus.specs.declared.Stage.{Stage}
use Rattle.bus.specs.Bus.{go_to, status_byte}
use Rattle.field.specs.Field.{as_held, to_the_end, copies, with_aa}
use Rattle.promises.specs.Line.Slots.{answers_of, with_exchange, after_deed, slots_quiet, slots_lastly, slots_then, kept_by}
use Rattle.promises.specs.Line.CopyRun.{copy_head, copy_bus, copy_head_lem, copy_field, copy_other, copies_right, status_lt}
use Rattle.promises.specs.Ranges.{Fit}
use Rattle.promises.specs.Runs.{State}
use Rattle.promises.specs.Sentences.Commands.{sent, Nothing, head_of}
use Rattle.promises.specs.Sentences.Scratchpad.{Copies, zero_ones}
use Rattle.promises.specs.Sentences.Commands.Passwords.{unless, copy_may, copy_passes, answers_copy}
use Rattle.promises.specs.Sentences.Commands.Sent.{mode_of, chosen_of, sent_quiet, sent_then, head_is}
use Rattle.promises.specs.Words.{low, number_of, held_of, status_of, Chosen}
use Rattle.promises.specs.Words.Laws.{low_is, status_is}

-- "0,1,0,1 on"
zero_ones_lem : (n : ℕ) → commands.zero_ones n ≡ zero_ones n
unfolding commands.zero_ones
zero_ones_lem zero = refl
zero_ones_lem (suc n) = ap (λ (bits : List Bool). false ∷ true ∷ bits) (zero_ones_lem n)

-- 99h, TA1, TA2, E/S
copy_slots_lem : (address status : ℕ) → head_of 0x99 address ++ bits_of 8 status ≡ slots_of (copy_head address status)
unfolding flat_map
copy_slots_lem address status =
    rw (head_is 0x99 address, slots_append (0x99 ∷ address % 256 ∷ address / 256 ∷ []) (status ∷ []), append-nil (bits_of 8 status))

module _ {s : State} (fit : Fit s) (ready : Chosen s) where
  -- done: with the last bit of the password the page is stored, and AA is set
  pub copies_done : (address : ℕ) (status : List Bool) (field n : ℕ) → field < 2 ^ 64 → Copies s address status field →
      let bits = head_of 0x99 address ++ (status ++ low 64 field) in
      sent s (bits ++ released (n * 2)) ≡
      record {
        line = bits ++ zero_ones n;
        state = after_deed Deed.Store s
            (commanding (number_of s) (mode_of s) (with_aa (held_of s)) (go_to (copy_bus (held_of s).ta (status_byte (held_of s))) Stage.Copied));
      }
  copies_done address status field n whole c =
      let held = held_of s in
      let to = held.ta in
      let head = slots_of (copy_head to (status_byte held)) in
      let bus = copy_bus to (status_byte held) in
      let headed = with_exchange s (commanding (number_of s) (mode_of s) held (go_to bus (Stage.Gathers Guarded.Copying))) in
      let done = after_deed Deed.Store s (commanding (number_of s) (mode_of s) (with_aa held) (go_to bus Stage.Copied)) in
      let may = answers_copy s field to ∙ copy_may s field to (rw c.ta at c.place) c.password in
      let all : head_of 0x99 address ++ (status ++ low 64 field) ≡ head ++ bits_of 64 field =
      rw (c.ta, c.es, ← append_assoc (head_of 0x99 to) (status_of held) (low 64 field), ← status_is held)
      (rw (copy_slots_lem to (status_byte held), low_is 64 field)) in
      rw (all, append_assoc head (bits_of 64 field) (released (n * 2)), append_assoc head (bits_of 64 field) (zero_ones n), ← zero_ones_lem n)
      (sent_then fit ready head (bits_of 64 field ++ released (n * 2))
      (copy_head_lem (answers_of s) (number_of s) (mode_of s) held to (status_byte held) fit.address (status_lt held))
      (slots_then headed (bits_of 64 field) (released (n * 2))
      (slots_lastly headed (bits_of 64 field) 63 Deed.Store
      (copy_field (answers_of s) (number_of s) (mode_of s) held bus field whole (copies_right held c.ending c.pf may)))
      (slots_quiet done (released (n * 2)) (run_copied (answers_of done) (number_of s) (mode_of s) (with_aa held) bus n))))

  -- what makes the tag store is what the document asks for
  copies_asked : (address status field : ℕ) →
      copies (held_of s) (copy_bus address status) (eqb (answers_of s (Question.MayCopy field address)) 1) ≡ true →
      Copies s address (bits_of 8 status) field
  unfolding copies as_held to_the_end
  copies_asked address status field done =
      let held = held_of s in
      let may = eqb (answers_of s (Question.MayCopy field address)) 1 in
      let same = eqb address held.ta && eqb status (status_byte held) in
      let end = eqb held.ending 0x1F && not held.pf in
      let parts = (and-eq-true_iff (same && end) may).0 done in
      let two = (and-eq-true_iff same end).0 parts.0 in
      let three = (and-eq-true_iff (eqb address held.ta) (eqb status (status_byte held))).0 two.0 in
      let last = (and-eq-true_iff (eqb held.ending 0x1F) (not held.pf)).0 two.1 in
      let opens = copy_passes s field address (sym (answers_copy s field address) ∙ parts.1) in
      record {
        ta = eqb-true _ _ three.0;
        es = ap (bits_of 8) (eqb-true _ _ three.1) ∙ status_is held;
        ending = eqb-true _ _ last.0;
        pf = not-true held.pf last.1;
        place = opens.0;
        password = opens.1;
      }

  -- not done: nothing changes, and the line is the master's
  pub copies_not : (address : ℕ) (status : List Bool) (field : ℕ) (more : List Bool) → address < 65536 → length status ≡ 8 → field < 2 ^ 64 →
      (Copies s address status field → ⊥) → Nothing s (head_of 0x99 address ++ (status ++ (low 64 field ++ more)))
  copies_not address status field more small eight whole never =
      let byte = bits.number_of status in
      let is : bits_of 8 byte ≡ status = rw eight at (bits_number status) in
      let undone = unless _ (λ done. never (rw is at (copies_asked address byte field done))) in
      rw (← is, ← append_assoc (head_of 0x99 address) (bits_of 8 byte) (low 64 field ++ more), copy_slots_lem address byte, low_is 64 field)
      (kept_by s (sent_quiet fit ready (slots_of (copy_head address byte) ++ (bits_of 64 field ++ more))
      (quiet_then (answers_of s) (chosen_of s) (slots_of (copy_head address byte)) (bits_of 64 field ++ more)
      (copy_head_lem (answers_of s) (number_of s) (mode_of s) (held_of s) address byte small (rw eight at (number_lt status)))
      (copy_other (answers_of s) (number_of s) (mode_of s) (held_of s) (copy_bus address byte) field more whole undone))))

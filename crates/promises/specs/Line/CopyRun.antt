-- Copy as a whole run: done, it stores with the last bit of the password and sends 0,1,0,1 on; not done, the line is the master's
-- (document 01, "Memory commands", 99h). Assumes nothing.
use Rattle.std.specs.Prelude.{◌≡◌, Bool, true, false, eqb}
use Rattle.std.proofs.Math.Path.{refl}
use Rattle.std.proofs.Common.{◌∙◌, arith, eq-eqb}
use mathlib.Core.List.{List, [], ◌∷◌, ◌++◌, flat_map}
use Prim.Native.Nat.{ℕ, ◌/◌, ◌%◌, ◌^◌, ◌<◌}
use Rattle.bits.specs.Bits.{bits_of, slots_of}
use Rattle.bits.specs.Bits.Laws.{slots_append, digit_le}
use Rattle.crc.specs.Crc.{crc16_run}
use Rattle.exchange.specs.Runs.{run, quietly, commanding, chosen}
use Rattle.exchange.specs.Runs.Laws.{run_nil, quiet_then}
use Rattle.exchange.specs.Runs.Commands.{lastly, field_gathered, field_quiet, run_over}
use Rattle.bus.specs.declared.Addressed.{Addressed}
use Rattle.bus.specs.declared.Bus.{Bus}
use Rattle.bus.specs.declared.Deed.{Deed}
use Rattle.bus.specs.declared.Guarded.{Guarded}
use Rattle.bus.specs.declared.Hearing.{Hearing}
use Rattle.bus.specs.declared.Held.{Held}
use Rattle.bus.specs.declared.Question.{Question}
use Rattle.bus.specs.declared.Stage.{Stage}
use Rattle.bus.specs.Bus.{go_to, noting, listens, status_byte}
use Rattle.memory.specs.Hear.{command_stage, address_heard, heard_whole}
use Rattle.field.specs.Field.{as_held, to_the_end, copies, with_aa, judged}
use Rattle.memory.specs.Runs.Scratchpad.{over_at}
use Rattle.select.specs.declared.Mode.{Mode}
use Rattle.promises.specs.Line.Commands.{heard_then, head_run}

-- 99h, TA1, TA2, E/S
abbrev pub copy_head : ℕ → ℕ → List ℕ
copy_head address status = 0x99 ∷ address % 256 ∷ address / 256 ∷ status ∷ []

-- the bus after it, with the address and E/S as sent
abbrev pub copy_bus : ℕ → ℕ → Bus
copy_bus address status = noting (over_at (crc16_run 0 (0x99 ∷ address % 256 ∷ address / 256 ∷ [])) address) status

module _ (answers : Question → ℕ) (number : ℕ) (mode : Mode) (held : Held) where
  pub copy_head_lem : (address status : ℕ) → address < 65536 → status < 256 →
      run answers (chosen number mode held) (slots_of (copy_head address status)) ≡
      quietly (commanding number mode held (go_to (copy_bus address status) (Stage.Gathers Guarded.Copying))) (slots_of (copy_head address status))
  unfolding command_stage address_heard heard_whole flat_map
  copy_head_lem address status fits small =
      let head : List ℕ = 0x99 ∷ address % 256 ∷ address / 256 ∷ [] in
      let start = over_at (crc16_run 0 head) address in
      rw (slots_append head (status ∷ []))
      (quiet_then answers _ (slots_of head) _
      (head_run answers number mode held Addressed.Copy (Stage.Hears Hearing.Status) 0x99 address (omega arith) fits refl (λ bus. refl))
      (heard_then answers number mode Hearing.Status held start status [] small refl (run_nil answers _)))

  -- "Done exactly if ..": with the last bit of the password a Store, and AA is set
  pub copy_field : (bus : Bus) (field : ℕ) → field < 2 ^ 64 → copies held bus (eqb (answers (Question.MayCopy field bus.address)) 1) ≡ true →
      run answers (commanding number mode held (go_to bus (Stage.Gathers Guarded.Copying))) (bits_of 64 field) ≡
      lastly number mode 63 (listens (with_aa held) (go_to bus Stage.Copied) Deed.Store) (bits_of 64 field)
  unfolding judged copies as_held
  copy_field bus field fits done = field_gathered answers number mode held bus Guarded.Copying field fits ∙ rw done

  -- else nothing
  pub copy_other : (bus : Bus) (field : ℕ) (bits : List Bool) → field < 2 ^ 64 → copies held bus (eqb (answers (Question.MayCopy field bus.address)) 1) ≡ false →
      run answers (commanding number mode held (go_to bus (Stage.Gathers Guarded.Copying))) (bits_of 64 field ++ bits) ≡
      quietly (commanding number mode held (go_to bus Stage.Over)) (bits_of 64 field ++ bits)
  unfolding judged copies as_held
  copy_other bus field bits fits undone =
      quiet_then answers _ (bits_of 64 field) bits
      (rw undone at (field_quiet answers number mode held bus Guarded.Copying field fits refl (rw undone)))
      (run_over answers number mode held bus bits)

-- the three as they are held, up to the page's end, and a password that may copy there
pub copies_right : (held : Held) {may : Bool} → held.ending ≡ 0x1F → held.pf ≡ false → may ≡ true →
    copies held (copy_bus held.ta (status_byte held)) may ≡ true
unfolding copies as_held to_the_end
copies_right held full whole may = simp (eq-eqb held.ta held.ta refl, eq-eqb (status_byte held) (status_byte held) refl, full, whole, may)

-- E/S is a byte
pub status_lt : (held : Held) → status_byte held < 256
unfolding status_byte
status_lt held = omega (arith, digit_le held.aa, digit_le held.pf)

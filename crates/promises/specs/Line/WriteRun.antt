-- Write Scratchpad as a run that ends before the page's last byte is whole: after its address, after some whole bytes of data, or
-- within the next (document 01, "Memory commands", 0Fh). Assumes nothing.
use Rattle.std.specs.Prelude.{◌≡◌, Bool, false, ◌||◌, ltb, get_or}
use Rattle.std.proofs.Math.Path.{refl, ap, subst}
use Rattle.std.proofs.Common.{◌∙◌, add-one, lt-ltb, le-ltb, length-drop}
use mathlib.Core.List.{List, [], ◌∷◌, ◌++◌, flat_map}
use Rattle.std.proofs.Math.Logic.{dite}
use Prim.Native.Nat.{ℕ, suc, ◌+◌, ◌-◌, ◌*◌, ◌/◌, ◌%◌, ◌<◌}
use Rattle.std.proofs.Math.Decide.{dec_lt}
use native.Mathlib.Omega.{arith}
use Rattle.std.proofs.Math.ListN.{length, take, drop, take-append-drop}
use Rattle.std.proofs.Math.Seq.{length-take-le}
use Rattle.std.proofs.lemmas.List.Edits.{sets, sets-eq}
use Rattle.bits.specs.Bits.{bits_of, slots_of, number_of, shift_in, shift_all}
use Rattle.bits.specs.Bits.Laws.{bits_number, number_lt, slots_append}
use Rattle.crc.specs.Crc.{crc_run, crc16_run}
use Rattle.exchange.specs.Runs.{run, quietly, commanding, chosen}
use Rattle.exchange.specs.Runs.Laws.{run_nil, quiet_then, run_quiet}
use Rattle.bus.specs.declared.Addressed.{Addressed}
use Rattle.bus.specs.declared.Bus.{Bus}
use Rattle.bus.specs.declared.Hearing.{Hearing}
use Rattle.bus.specs.declared.Held.{Held}
use Rattle.bus.specs.declared.Question.{Question}
use Rattle.bus.specs.declared.Stage.{Stage}
use Rattle.bus.specs.Bus.{clear_bus, go_to, passing}
use Rattle.memory.specs.Hear.{command_stage, loaded, address_heard, stored, after_data, under_way, heard_whole}
use Rattle.memory.specs.Memory.{stage_asks}
use Rattle.memory.specs.Memory.Laws.{asks_at, heard_more}
use Rattle.memory.specs.Runs as memory
use Rattle.memory.specs.Runs.Laws.{run_cons}
use Rattle.memory.specs.Runs.Scratchpad.{over_at, write_head}
use Rattle.select.specs.declared.Mode.{Mode}
use Rattle.promises.specs.Line.Commands.{heard_then}

-- what is held after an address, these whole bytes and these bits of the next (`Sentences.Commands.Written`)
abbrev pub written_part : Held → ℕ → List ℕ → List Bool → Held
written_part held address bytes bits =
    let offset = address % 32 in
    record {
      pad = take offset held.pad ++ bytes ++ drop (offset + length bytes) held.pad;
      ta = address;
      ending = offset + (length bytes - 1);
      pf = ltb (length bytes) 1 || ltb 0 (length bits);
      aa = false;
    }

-- the slots of it: 0Fh, TA1, TA2, the whole bytes and the bits of the next
abbrev pub part_slots : ℕ → List ℕ → List Bool → List Bool
part_slots address bytes bits = slots_of (write_head address ++ bytes) ++ bits

-- ---- bits of a byte that does not become whole

broken_run : (answers : Question → ℕ) (h : Hearing) (held : Held) (bus : Bus) (bit : Bool) (bits : List Bool) → bus.stage ≡ Stage.Hears h → bus.at + length bits < 7 →
    memory.run answers held bus (bit ∷ bits) ≡
    memory.quietly (under_way h held) (passing bus (shift_all 8 bus.byte (bit ∷ bits)) (bus.at + length (bit ∷ bits))) (bit ∷ bits)
unfolding memory.run shift_all stage_asks
broken_run answers h held bus bit [] e n =
    run_cons answers held bus bit [] (asks_at bus bit e) (heard_more h held bus bit _ e (omega arith))
broken_run answers h held bus bit (b ∷ bs) e n =
    let begun = under_way h held in
    let next = passing bus (shift_in 8 bus.byte bit) (bus.at + 1) in
    let count : bus.at + 1 + suc (length bs) ≡ bus.at + suc (suc (length bs)) = omega arith in
    run_cons answers held bus bit (b ∷ bs) (asks_at bus bit e) (heard_more h held bus bit _ e (omega arith))
    ∙ ap (memory.follows (memory.quietly held bus (bit ∷ [])))
    (broken_run answers h begun next b bs e (omega arith)
    ∙ ap (λ (k : Held). memory.quietly k (passing next (shift_all 8 next.byte (b ∷ bs)) (bus.at + 1 + suc (length bs))) (b ∷ bs)) (under_way_twice h held))
    ∙ ap (λ (at : ℕ). memory.quietly begun (passing bus (shift_all 8 bus.byte (bit ∷ b ∷ bs)) at) (bit ∷ b ∷ bs)) count
  where
    under_way_twice : (h : Hearing) (held : Held) → under_way h (under_way h held) ≡ under_way h held
    under_way_twice Hearing.Command held = refl
    under_way_twice (Hearing.Low a) held = refl
    under_way_twice (Hearing.High a) held = refl
    under_way_twice (Hearing.Data place) held = refl
    under_way_twice Hearing.Status held = refl
    under_way_twice (Hearing.Confirm c) held = refl

-- ---- whole bytes before the page's last

-- the held ones with bytes stored from a place on, one after the other
stored_all : Held → ℕ → List ℕ → Held
stored_all held place [] = held
stored_all held place (d ∷ ds) = stored_all (stored held place d) (place + 1) ds

stored_all_lem : (held : Held) (place d : ℕ) (ds : List ℕ) →
    stored_all held place (d ∷ ds) ≡
    record { pad = sets held.pad place (d ∷ ds); ta = held.ta; ending = place + length ds; pf = false; aa = held.aa }
unfolding stored_all stored
stored_all_lem held place d [] = let none : place + 0 ≡ place = omega arith in rw none
stored_all_lem held place d (e ∷ es) =
    let count : place + 1 + length es ≡ place + suc (length es) = omega arith in
    stored_all_lem (stored held place d) (place + 1) e es ∙ rw (count, add-one place)

-- the bits of a broken byte have begun it
begun_by : Hearing → List Bool → Held → Held
begun_by h [] held = held
begun_by h (b ∷ bs) held = under_way h held

part_held : (held : Held) (address place : ℕ) (bytes : List ℕ) (bits : List Bool) → length held.pad ≡ 32 → address % 32 + length bytes < 32 →
    begun_by (Hearing.Data place) bits (stored_all (loaded held address) (address % 32) bytes) ≡ written_part held address bytes bits
unfolding begun_by stored_all
part_held held address place [] bits long inside =
    let none : address % 32 + (0 - 1) ≡ address % 32 = omega arith in
    rw (← sets-eq [] held.pad (address % 32) (omega arith), none) (by bits)
  where
    by : (bits : List Bool) → begun_by (Hearing.Data place) bits (loaded held address) ≡ loaded held address
    by [] = refl
    by (b ∷ bs) = refl
part_held held address place (d ∷ ds) bits long inside =
    let offset = address % 32 in
    let count : offset + (suc (length ds) - 1) ≡ offset + length ds = omega arith in
    rw (stored_all_lem (loaded held address) offset d ds, ← sets-eq (d ∷ ds) held.pad offset (omega arith), count) (by bits)
  where
    by : (bits : List Bool) →
        let whole : Bool → Held =
        λ pf. record { pad = sets held.pad (address % 32) (d ∷ ds); ta = address; ending = address % 32 + length ds; pf = pf; aa = false } in
        begun_by (Hearing.Data place) bits (whole false) ≡ whole (ltb (suc (length ds)) 1 || ltb 0 (length bits))
    by [] = rw (le-ltb (suc (length ds)) 1 (omega arith))
    by (b ∷ bs) = rw (le-ltb (suc (length ds)) 1 (omega arith), lt-ltb 0 (suc (length bs)) (omega arith))

module _ (answers : Question → ℕ) (number : ℕ) (mode : Mode) where
  -- the tag that waits for a data byte, with this register of the CRC-16
  abbrev waiting : ℕ → ℕ → ℕ → Bus
  waiting crc address place = go_to (over_at crc address) (Stage.Hears (Hearing.Data place))

  whole_run : (held : Held) (crc address place : ℕ) (bytes : List ℕ) → place + length bytes < 32 → ((i : ℕ) → get_or bytes i 0 < 256) →
      run answers (commanding number mode held (waiting crc address place)) (slots_of bytes) ≡
      quietly (commanding number mode (stored_all held place bytes) (waiting (crc16_run crc bytes) address (place + length bytes))) (slots_of bytes)
  unfolding flat_map heard_whole crc_run stored_all after_data
  whole_run held crc address place [] n small = let none : place + 0 ≡ place = omega arith in rw none (run_nil answers _)
  whole_run held crc address place (d ∷ ds) n small =
      let count : place + suc (length ds) ≡ place + 1 + length ds = omega arith in
      heard_then answers number mode (Hearing.Data place) held (over_at crc address) d (slots_of ds) (small 0) refl
      (rw (lt-ltb place 31 (omega arith), count)
      (whole_run (stored held place d) (crc16_run crc (d ∷ [])) address (place + 1) ds (omega arith) (λ i. small (suc i))))

  -- 0Fh, TA1, TA2
  address_run : (held : Held) (address : ℕ) → address < 65536 →
      run answers (chosen number mode held) (slots_of (write_head address)) ≡
      quietly (commanding number mode (loaded held address) (waiting (crc16_run 0 (write_head address)) address (address % 32))) (slots_of (write_head address))
  unfolding flat_map heard_whole command_stage address_heard crc_run
  address_run held address fits =
      let low = address % 256 in
      let high = address / 256 in
      let whole : low % 256 + 256 * high ≡ address = omega arith in
      heard_then answers number mode Hearing.Command held (clear_bus Stage.Over) 0x0F _ (omega arith) refl
      (heard_then answers number mode (Hearing.Low Addressed.Write) held (over_at (crc16_run 0 (0x0F ∷ [])) 0) low _ (omega arith) refl
      (heard_then answers number mode (Hearing.High Addressed.Write) held (over_at (crc16_run 0 (0x0F ∷ low ∷ [])) low) high [] (omega arith) refl
      (rw whole (run_nil answers _))))

  -- bits of the next byte
  begun_run : (h : Hearing) (held : Held) (bus : Bus) (bits : List Bool) → length bits < 8 →
      (end : Bus) × (run answers (commanding number mode held (go_to bus (Stage.Hears h))) bits ≡ quietly (commanding number mode (begun_by h bits held) end) bits)
  unfolding begun_by
  begun_run h held bus [] few = (_, run_nil answers _)
  begun_run h held bus (b ∷ bs) few =
      (_, run_quiet answers number mode held (go_to bus (Stage.Hears h)) (b ∷ bs) (broken_run answers h held (go_to bus (Stage.Hears h)) b bs refl (omega arith)))

  -- all of it
  pub part_run : (held : Held) (address : ℕ) (bytes : List ℕ) (bits : List Bool) → length held.pad ≡ 32 → address < 65536 →
      address % 32 + length bytes < 32 → ((i : ℕ) → get_or bytes i 0 < 256) → length bits < 8 →
      (bus : Bus) × (run answers (chosen number mode held) (part_slots address bytes bits) ≡
      quietly (commanding number mode (written_part held address bytes bits) bus) (part_slots address bytes bits))
  part_run held address bytes bits long fits inside small few =
      let offset = address % 32 in
      let start = crc16_run 0 (write_head address) in
      let whole = stored_all (loaded held address) offset bytes in
      let last = begun_run (Hearing.Data (offset + length bytes)) whole (over_at (crc16_run start bytes) address) bits few in (
        last.0,
        rw (slots_append (write_head address) bytes, ← part_held held address (offset + length bytes) bytes bits long inside)
            (quiet_then answers _ (slots_of (write_head address) ++ slots_of bytes) bits
            (quiet_then answers _ (slots_of (write_head address)) (slots_of bytes) (address_run held address fits)
            (whole_run (loaded held address) start address offset bytes inside small))
            last.1),
      )

  -- bits of a byte that leaves what is held
  bare_run : (h : Hearing) (held : Held) (bus : Bus) (bits : List Bool) → under_way h held ≡ held → length bits < 8 →
      (end : Bus) × (run answers (commanding number mode held (go_to bus (Stage.Hears h))) bits ≡ quietly (commanding number mode held end) bits)
  unfolding begun_by
  bare_run h held bus [] none few = begun_run h held bus [] few
  bare_run h held bus (b ∷ bs) none few =
      let ran = begun_run h held bus (b ∷ bs) few in
      (ran.0, ran.1 ∙ ap (λ (k : Held). quietly (commanding number mode k ran.0) (b ∷ bs)) none)

  -- fewer bits than the two address bytes have
  low_begun : (held : Held) (bits : List Bool) → length bits < 16 →
      let start = go_to (over_at (crc16_run 0 (0x0F ∷ [])) 0) (Stage.Hears (Hearing.Low Addressed.Write)) in
      (end : Bus) × (run answers (commanding number mode held start) bits ≡ quietly (commanding number mode held end) bits)
  unfolding heard_whole crc_run
  low_begun held bits few =
      let start = over_at (crc16_run 0 (0x0F ∷ [])) 0 in
      dite (dec_lt (length bits) 8) (λ short. bare_run (Hearing.Low Addressed.Write) held start bits refl short)
      (λ long.
      let first = take 8 bits in
      let byte = number_of first in
      let eight : length first ≡ 8 = length-take-le 8 bits (omega arith) in
      let whole : bits_of 8 byte ++ drop 8 bits ≡ bits =
      ap (λ (bs : List Bool). bs ++ drop 8 bits) (rw eight at (bits_number first)) ∙ take-append-drop 8 bits in
      let last = bare_run (Hearing.High Addressed.Write) held (over_at (crc16_run 0 (0x0F ∷ byte ∷ [])) byte) (drop 8 bits) refl
      (rw (length-drop 8 bits) (omega arith)) in (
        last.0,
        subst
            (λ (bs : List Bool). run answers (commanding number mode held (go_to start (Stage.Hears (Hearing.Low Addressed.Write)))) bs ≡ quietly (commanding number mode held last.0) bs)
            whole
            (heard_then answers number mode (Hearing.Low Addressed.Write) held start byte (drop 8 bits) (rw eight at (number_lt first)) refl last.1),
      ))

  -- behind 0Fh
  pub address_begun : (held : Held) (bits : List Bool) → length bits < 16 →
      (bus : Bus) × (run answers (chosen number mode held) (bits_of 8 0x0F ++ bits) ≡ quietly (commanding number mode held bus) (bits_of 8 0x0F ++ bits))
  unfolding heard_whole command_stage crc_run
  address_begun held bits few =
      let rest = low_begun held bits few in
      (rest.0, heard_then answers number mode Hearing.Command held (clear_bus Stage.Over) 0x0F bits (omega arith) refl rest.1)

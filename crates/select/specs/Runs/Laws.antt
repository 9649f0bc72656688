-- What whole ROM commands come to, by induction on the bits that are left. Assumes nothing.
use Rattle.std.specs.Prelude.{◌≡◌, refl, Bool, true, false, not, ◌||◌, ℕ, zero, suc, ◌+◌, ◌*◌, ◌/◌, ◌%◌, ◌^◌, ◌<◌, ◌≤◌, length, if◌then◌else◌}
use Rattle.std.proofs.Common.{sym, ap, ◌∙◌, div-one, mod-eq_of_lt, arith}
use Rattle.std.specs.Bool.{beq}
use Rattle.std.proofs.Math.Bool.{and-true}
use mathlib.Core.List.{List, [], ◌∷◌, ◌++◌, flat_map}
use Rattle.bits.specs.Bits.{bit_of, bits_of, number_of, shift_in, shift_all, released}
use Rattle.bits.specs.Bits.Laws.{length_bits, number_bits, heard_whole_lem, bits_from_lem}
use Rattle.bits.specs.Tests.{beq_eq}
use Rattle.select.specs.Select.{mark_in, speed_in, keeps, unmarked, clears, listening, rom_command, following, whole, heard_bit, slot_at, slot_of}
use Rattle.select.specs.Select.Laws.{speed_of_lem, command_more, command_last, following_more, read_more, read_last, heard_right_more, heard_right_last, heard_wrong}
use Rattle.select.specs.Select.Mark.{known, joins, rom_unknown, rom_joined}
use Rattle.select.specs.Runs.{Ran, run, match_byte, skip_byte, search_with, search_answers}
use Rattle.select.specs.declared.Choosing.{Choosing}
use Rattle.select.specs.declared.Choosing.TheVariants.{Silent, Command, Reading, Matching, Giving, Selected}
use Rattle.select.specs.declared.Mode.{Mode}
use Rattle.select.specs.declared.Select.{Select}

-- ---- joining runs

-- a run with these line bits before it
abbrev pub follows : List Bool → Ran → Ran
follows line ran = record { select = ran.select; line = line ++ ran.line }

pub run_append : (select : Select) (number : ℕ) (alarm : Bool) (bits more : List Bool) →
    run select number alarm (bits ++ more) ≡
    follows (run select number alarm bits).line (run (run select number alarm bits).select number alarm more)
unfolding run
run_append select number alarm [] more = refl
run_append select number alarm (bit ∷ bits) more =
    let slot = slot_of select number bit alarm in
    ap (follows (slot.line ∷ [])) (run_append slot.select number alarm bits more)

-- a silent tag stays silent, and leaves the line to the master
pub run_silent : (mode : Mode) (number : ℕ) (alarm : Bool) (bits : List Bool) →
    run (keeps mode Silent) number alarm bits ≡ record { select = keeps mode Silent; line = bits }
unfolding run slot_of slot_at
run_silent mode number alarm [] = refl
run_silent mode number alarm (bit ∷ bits) = ap (follows (bit ∷ [])) (run_silent mode number alarm bits)

last_bit : (number at : ℕ) → bits_of 1 (number / 2 ^ at) ≡ bit_of number at ∷ []
unfolding bits_of
last_bit number at = bits_from_lem 0 number at

-- ---- a command byte

command_run : (number : ℕ) (alarm : Bool) (mode : Mode) (bit : Bool) (bits : List Bool) (heard count : ℕ) → count + length bits ≡ 7 →
    run (keeps mode (Command heard count)) number alarm (bit ∷ bits) ≡
    record { select = rom_command (shift_all 8 heard (bit ∷ bits)) mode alarm; line = bit ∷ bits }
unfolding run slot_of slot_at shift_all
command_run number alarm mode bit [] heard count h = rw (command_last heard count mode bit alarm (omega arith))
command_run number alarm mode bit (b ∷ bs) heard count h =
    rw (command_more heard count mode bit alarm (omega arith))
    (ap (follows (bit ∷ [])) (command_run number alarm mode b bs (shift_in 8 heard bit) (count + 1) (omega arith)))

-- eight slots after a reset: what `rom_command` says of the byte they carry
pub run_command : (mode : Mode) (number byte : ℕ) (alarm : Bool) → byte < 256 →
    run (listening mode) number alarm (bits_of 8 byte) ≡
    record { select = rom_command byte mode alarm; line = bits_of 8 byte }
unfolding bits_of
run_command mode number byte alarm h =
    command_run number alarm mode (bit_of byte 0) (bits_of 7 (byte / 2)) 0 0 (omega (arith, length_bits 7 (byte / 2))) ∙
    ap (λ (heard : ℕ). record { select = rom_command heard mode alarm; line = bits_of 8 byte }) (heard_whole_lem 8 (omega arith) h)

-- and what comes after them
pub after_command : (mode : Mode) (number byte : ℕ) (alarm : Bool) (bits : List Bool) → byte < 256 →
    run (listening mode) number alarm (bits_of 8 byte ++ bits) ≡
    follows (bits_of 8 byte) (run (rom_command byte mode alarm) number alarm bits)
after_command mode number byte alarm bits h =
    run_append (listening mode) number alarm (bits_of 8 byte) bits ∙
    ap (λ (r : Ran). follows r.line (run r.select number alarm bits)) (run_command mode number byte alarm h)

-- ---- Read ROM

read_run : (number : ℕ) (alarm : Bool) (mode : Mode) (left at : ℕ) → at + left ≡ 63 →
    run (keeps mode (Reading at)) number alarm (released (suc left)) ≡
    record { select = keeps mode Selected; line = bits_of (suc left) (number / 2 ^ at) }
unfolding run slot_of slot_at
read_run number alarm mode zero at h =
    rw (read_last at mode (omega arith), last_bit number at, and-true (bit_of number at))
read_run number alarm mode (suc left) at h =
    rw (read_more at mode (omega arith), bits_from_lem (suc left) number at, and-true (bit_of number at))
    (ap (follows (bit_of number at ∷ [])) (read_run number alarm mode left (at + 1) (omega arith)))

-- "Read 33h": the line carries the number, and the tag goes on to memory commands
pub run_read : (mode : Mode) (number : ℕ) (alarm : Bool) →
    run (listening mode) number alarm (bits_of 8 0x33 ++ released 64) ≡
    record { select = clears (speed_in mode) Selected; line = bits_of 8 0x33 ++ bits_of 64 number }
unfolding rom_command
run_read mode number alarm =
    after_command mode number 0x33 alarm (released 64) (omega arith) ∙
    ap (follows (bits_of 8 0x33)) (rw div-one at (read_run number alarm (unmarked (speed_in mode)) 63 0 refl))

-- ---- Match and Search: the tag is told a number bit by bit

-- Where a telling stands at bit `at`, whether a whole one sets the speed, the slots that tell it one bit, and what the line carries in
-- them, by the tag's own bit and the one that is told. A telling's slots come to what `heard_bit` says.
pub record Telling : Type 0 where
  pub stage : ℕ → Choosing
  pub fast : Bool
  pub slots : Bool → List Bool
  pub line : Bool → Bool → List Bool
  pub tells : (number : ℕ) (alarm : Bool) (mode : Mode) (bit : Bool) (at : ℕ) (rest : List Bool) →
      run (keeps mode (stage at)) number alarm (slots bit ++ rest) ≡
      follows (line (bit_of number at) bit) (run (heard_bit number at bit (stage (following at)) fast mode) number alarm rest)

-- Match 55h, and 69h, which is `fast`
unfoldable pub matching : Bool → Telling
unfolding run slot_of slot_at
matching fast =
    record {
      stage = Matching fast;
      fast = fast;
      slots = λ bit. bit ∷ [];
      line = λ own bit. bit ∷ [];
      tells = λ number alarm mode bit at rest. refl;
    }

unfoldable pub searching : Telling
unfolding run slot_of slot_at
searching =
    record {
      stage = Giving;
      fast = false;
      slots = λ choice. true ∷ true ∷ choice ∷ [];
      line = λ own choice. own ∷ not own ∷ choice ∷ [];
      tells = λ number alarm mode bit at rest. simp (and-true (bit_of number at), and-true (not (bit_of number at)));
    }

-- one bit that is right, with more to come
told_right : (way : Telling) (number : ℕ) (alarm : Bool) (mode : Mode) (at : ℕ) (rest : List Bool) → at < 63 →
    run (keeps mode (way.stage at)) number alarm (way.slots (bit_of number at) ++ rest) ≡
    follows (way.line (bit_of number at) (bit_of number at)) (run (keeps mode (way.stage (at + 1))) number alarm rest)
told_right way number alarm mode at rest h =
    rw (
      way.tells number alarm mode (bit_of number at) at rest,
      heard_right_more number at (way.stage (following at)) way.fast mode h,
      following_more at h,
    )

-- one bit that is wrong: silent from then on
pub told_wrong : (way : Telling) (number : ℕ) (alarm : Bool) (mode : Mode) (bit : Bool) (at : ℕ) (rest : List Bool) →
    beq (bit_of number at) bit ≡ false →
    run (keeps mode (way.stage at)) number alarm (way.slots bit ++ rest) ≡
    record { select = keeps mode Silent; line = way.line (bit_of number at) bit ++ rest }
told_wrong way number alarm mode bit at rest h =
    rw (
      way.tells number alarm mode bit at rest,
      heard_wrong number at bit (way.stage (following at)) way.fast mode h,
      run_silent mode number alarm rest,
    )

-- the number's own bits, from bit `at` to the last: the tag is selected and marked, by a fast telling at overdrive
told_whole : (way : Telling) (number : ℕ) (alarm : Bool) (mode : Mode) (left at : ℕ) → at + left ≡ 63 →
    run (keeps mode (way.stage at)) number alarm (flat_map way.slots (bits_of (suc left) (number / 2 ^ at))) ≡
    record { select = keeps (whole way.fast mode) Selected; line = flat_map (λ bit. way.line bit bit) (bits_of (suc left) (number / 2 ^ at)) }
unfolding run flat_map
told_whole way number alarm mode zero at h =
    rw (
      last_bit number at,
      way.tells number alarm mode (bit_of number at) at [],
      heard_right_last number at (way.stage (following at)) way.fast mode (omega arith),
    )
told_whole way number alarm mode (suc left) at h =
    let rest = flat_map way.slots (bits_of (suc left) (number / 2 ^ (at + 1))) in
    rw (bits_from_lem (suc left) number at, told_right way number alarm mode at rest (omega arith))
    (ap (follows (way.line (bit_of number at) (bit_of number at))) (told_whole way number alarm mode left (at + 1) (omega arith)))

some_left : (bits : List Bool) (n : ℕ) → (bits ≡ bits_of (length bits) n → ⊥) → 0 < length bits
unfolding bits_of
some_left [] n other = absurd (other refl)
some_left (bit ∷ bits) n other = omega arith

-- any other bits: the tag is silent at the end, and the mode is as it was
told_other : (way : Telling) (number : ℕ) (alarm : Bool) (mode : Mode) (bits : List Bool) (at : ℕ) → at + length bits ≤ 64 →
    (bits ≡ bits_of (length bits) (number / 2 ^ at) → ⊥) →
    (run (keeps mode (way.stage at)) number alarm (flat_map way.slots bits)).select ≡ keeps mode Silent
unfolding flat_map bits_of
told_other way number alarm mode [] at h other = absurd (other refl)
told_other way number alarm mode (bit ∷ bits) at h other =
    by (beq (bit_of number at) bit) refl (told_other way number alarm mode bits (at + 1))
  where
    rest : List Bool
    rest = flat_map way.slots bits

    -- where this bit is right, the bits after it are others
    left_other : bit_of number at ≡ bit → bits ≡ bits_of (length bits) (number / 2 ^ (at + 1)) → ⊥
    left_other same e = other (rw (bits_from_lem (length bits) number at, same, ← e))

    by :
        (right : Bool) →
        beq (bit_of number at) bit ≡ right →
        (at + 1 + length bits ≤ 64 →
        (bits ≡ bits_of (length bits) (number / 2 ^ (at + 1)) → ⊥) →
        (run (keeps mode (way.stage (at + 1))) number alarm rest).select ≡ keeps mode Silent) →
        (run (keeps mode (way.stage at)) number alarm (way.slots bit ++ rest)).select ≡ keeps mode Silent
    by true e onward =
        let same : bit_of number at ≡ bit = beq_eq (bit_of number at) bit (rw e tt) in
        let some : 0 < length bits = some_left bits (number / 2 ^ (at + 1)) (left_other same) in
        rw (← same)
        (ap (λ (r : Ran). r.select) (told_right way number alarm mode at rest (omega arith)) ∙
        onward (omega arith) (left_other same))
    by false e onward = ap (λ (r : Ran). r.select) (told_wrong way number alarm mode bit at rest e)

-- bit by bit as they are
flat_single : (bits : List Bool) → flat_map (λ bit. bit ∷ []) bits ≡ bits
unfolding flat_map
flat_single [] = refl
flat_single (bit ∷ bits) = ap (◌∷◌ bit) (flat_single bits)

-- a Match's command byte is a byte, and leads to its Match with the mark cleared
pub match_lt : (fast : Bool) → match_byte fast < 256
match_lt false = omega arith
match_lt true = omega arith

pub rom_match : (fast : Bool) (mode : Mode) (alarm : Bool) → rom_command (match_byte fast) mode alarm ≡ clears (speed_in mode) (Matching fast 0)
unfolding rom_command
rom_match false mode alarm = refl
rom_match true mode alarm = refl

-- "Match 55h", "69h": with the number's bits the tag is selected and marked, by 69h at overdrive
pub run_match : (mode : Mode) (number : ℕ) (alarm fast : Bool) →
    run (listening mode) number alarm (bits_of 8 (match_byte fast) ++ bits_of 64 number) ≡
    record { select = keeps (whole fast mode) Selected; line = bits_of 8 (match_byte fast) ++ bits_of 64 number }
unfolding matching
run_match mode number alarm fast =
    after_command mode number (match_byte fast) alarm (bits_of 64 number) (match_lt fast) ∙
    ap (follows (bits_of 8 (match_byte fast)))
    (rw (rom_match fast mode alarm) (rw (div-one, flat_single (bits_of 64 number), speed_of_lem) at (told_whole (matching fast) number alarm (unmarked (speed_in mode)) 63 0 refl)))

-- numbers of w bits that have the same bits are the same
bits_same : (w : ℕ) {a b : ℕ} → a < 2 ^ w → b < 2 ^ w → bits_of w a ≡ bits_of w b → a ≡ b
bits_same w {a} {b} ha hb e =
    let same : a % 2 ^ w ≡ b % 2 ^ w = sym (number_bits w a) ∙ ap number_of e ∙ number_bits w b in
    rw (mod-eq_of_lt ha, mod-eq_of_lt hb) at same

-- and with any other 64 bits it is silent, at the speed that it had
pub run_match_other : (mode : Mode) (number : ℕ) (alarm fast : Bool) (bits : List Bool) → length bits ≡ 64 →
    (bits ≡ bits_of 64 number → ⊥) →
    (run (listening mode) number alarm (bits_of 8 (match_byte fast) ++ bits)).select ≡ clears (speed_in mode) Silent
unfolding matching
run_match_other mode number alarm fast bits h other =
    ap (λ (r : Ran). r.select) (after_command mode number (match_byte fast) alarm bits (match_lt fast)) ∙
    rw (rom_match fast mode alarm)
    (rw (flat_single bits) at (told_other (matching fast) number alarm (unmarked (speed_in mode)) bits 0 (omega arith) (rw (h, div-one) other)))

-- so with those of any other number
pub run_match_number : (mode : Mode) (number other : ℕ) (alarm fast : Bool) → number < 2 ^ 64 → other < 2 ^ 64 →
    (other ≡ number → ⊥) →
    (run (listening mode) number alarm (bits_of 8 (match_byte fast) ++ bits_of 64 other)).select ≡ clears (speed_in mode) Silent
run_match_number mode number other alarm fast hn ho differ =
    run_match_other mode number alarm fast (bits_of 64 other) (length_bits 64 other) (λ e. differ (bits_same 64 ho hn e))

-- a Search pass has three slots a bit
pub length_search : (choices : List Bool) → length (search_with choices) ≡ 3 * length choices
unfolding flat_map
length_search [] = refl
length_search (choice ∷ choices) = omega (arith, length_search choices)

-- "Search F0h", and "Conditional Search ECh .. joined only if" there is an alarm: a pass whose choices are the number's bits selects
-- and marks the tag, which answers bit by bit
pub run_search : (mode : Mode) (number byte : ℕ) (alarm : Bool) → byte < 256 → joins byte alarm ≡ true →
    run (listening mode) number alarm (bits_of 8 byte ++ search_with (bits_of 64 number)) ≡
    record { select = keeps (whole false mode) Selected; line = bits_of 8 byte ++ search_answers (bits_of 64 number) }
unfolding searching
run_search mode number byte alarm h joined =
    after_command mode number byte alarm (search_with (bits_of 64 number)) h ∙
    rw (rom_joined byte mode alarm joined)
    (ap (follows (bits_of 8 byte)) (rw (div-one, speed_of_lem) at (told_whole searching number alarm (unmarked (speed_in mode)) 63 0 refl)))

-- a choice that differs silences it
pub run_search_other : (mode : Mode) (number byte : ℕ) (alarm : Bool) (choices : List Bool) → byte < 256 →
    joins byte alarm ≡ true →
    length choices ≡ 64 → (choices ≡ bits_of 64 number → ⊥) →
    (run (listening mode) number alarm (bits_of 8 byte ++ search_with choices)).select ≡ clears (speed_in mode) Silent
unfolding searching
run_search_other mode number byte alarm choices h joined whole other =
    ap (λ (r : Ran). r.select) (after_command mode number byte alarm (search_with choices) h) ∙
    rw (rom_joined byte mode alarm joined)
    (told_other searching number alarm (unmarked (speed_in mode)) choices 0 (omega arith) (rw (whole, div-one) other))

-- without an alarm a Conditional Search is not joined
pub run_unjoined : (mode : Mode) (number : ℕ) (bits : List Bool) →
    run (listening mode) number false (bits_of 8 0xEC ++ bits) ≡ record { select = clears (speed_in mode) Silent; line = bits_of 8 0xEC ++ bits }
unfolding rom_command
run_unjoined mode number bits =
    after_command mode number 0xEC false bits (omega arith) ∙ ap (follows (bits_of 8 0xEC)) (run_silent (unmarked (speed_in mode)) number false bits)

-- ---- Skip, Resume, and any other byte

-- "Skip CCh", "3Ch"
pub run_skip : (mode : Mode) (number : ℕ) (alarm fast : Bool) →
    run (listening mode) number alarm (bits_of 8 (skip_byte fast)) ≡
    record { select = clears (fast || speed_in mode) Selected; line = bits_of 8 (skip_byte fast) }
unfolding rom_command
run_skip mode number alarm false = run_command mode number 0xCC alarm (omega arith)
run_skip mode number alarm true = run_command mode number 0x3C alarm (omega arith)

-- "Resume needs" the mark
pub run_resume : (mode : Mode) (number : ℕ) (alarm : Bool) →
    run (listening mode) number alarm (bits_of 8 0xA5) ≡
    record { select = keeps mode (if mark_in mode then Selected else Silent); line = bits_of 8 0xA5 }
unfolding rom_command
run_resume mode number alarm = run_command mode number 0xA5 alarm (omega arith)

-- "Any other byte: silent until reset"
pub run_unknown : (mode : Mode) (number byte : ℕ) (alarm : Bool) (bits : List Bool) → byte < 256 → known byte ≡ false →
    run (listening mode) number alarm (bits_of 8 byte ++ bits) ≡
    record { select = keeps mode Silent; line = bits_of 8 byte ++ bits }
run_unknown mode number byte alarm bits h other =
    after_command mode number byte alarm bits h ∙
    rw (rom_unknown byte mode alarm other) (ap (follows (bits_of 8 byte)) (run_silent mode number alarm bits))

-- How long choosing lasts: before the tag is selected, the slots of a ROM command are choosing's alone. Assumes nothing.
use Rattle.std.specs.Prelude.{◌≡◌, refl, Bool, true, false, ◌&&◌, List, [], ◌∷◌, ◌++◌, ℕ, suc, ◌+◌, ◌*◌, ◌<◌, ◌≤◌, ltb, length}
use Rattle.std.proofs.Common.{◌∙◌, arith, ltb-true, ltb-false}
use Rattle.std.specs.Bool.{beq}
use Rattle.std.proofs.Math.Bool.{and_assoc}
use Rattle.bits.specs.Choose.{either}
use Rattle.bits.specs.Bits.{bit_of, bits_of, shift_in}
use Rattle.bits.specs.Bits.Laws.{length_bits}
use Rattle.select.specs.Select.{listening, rom_command, command_bit, following, read_bit, heard_bit, slot_at, slot_of, is_chosen}
use Rattle.select.specs.Select.Laws.{following_more, command_cases}
use Rattle.select.specs.Runs.{run, still_choosing}
use Rattle.select.specs.Runs.Laws.{run_command}
use Rattle.select.specs.declared.Choosing.{Choosing}
use Rattle.select.specs.declared.Choosing.TheVariants.{Silent, Command, Reading, Matching, Giving, Complementing, Awaiting, Selected}
use Rattle.select.specs.declared.Mode.{Mode}
use Rattle.select.specs.declared.Select.{Select}

-- at least n slots go by before the tag can be selected
unfoldable pub Lasts : Choosing → ℕ → Type 0
Lasts Silent n = Unit
Lasts (Command heard count) n = count + n ≤ 8
Lasts (Reading at) n = at + n ≤ 64
Lasts (Matching fast at) n = at + n ≤ 64
Lasts (Giving at) n = 3 * at + n ≤ 192
Lasts (Complementing at) n = 3 * at + n ≤ 191
Lasts (Awaiting at) n = 3 * at + n ≤ 190
Lasts Selected n = n ≡ 0

abbrev SelectLasts : ℕ → Select → Type 0
SelectLasts n select = Lasts select.choosing n

-- what a command byte leads to is in its ranges
pub rom_lasts : (byte : ℕ) (mode : Mode) (alarm : Bool) → SelectLasts 0 (rom_command byte mode alarm)
unfolding Lasts
rom_lasts byte mode alarm = command_cases (λ k. Lasts k 0) byte mode alarm (omega arith) (λ fast. omega arith) (omega arith) refl tt

command_lasts : (heard count n : ℕ) (mode : Mode) (bit alarm : Bool) → count + suc n ≤ 8 → SelectLasts n (command_bit heard count mode bit alarm)
unfolding command_bit Lasts
command_lasts heard count n mode bit alarm h =
    either (SelectLasts n) (ltb count 7)
    (λ e. omega (arith, ltb-true count 7 e))
    (λ e. let none : n ≡ 0 = omega (arith, ltb-false count 7 e) in rw none (rom_lasts (shift_in 8 heard bit) mode alarm))

read_lasts : (at n : ℕ) (mode : Mode) → at + suc n ≤ 64 → SelectLasts n (read_bit at mode)
unfolding read_bit Lasts
read_lasts at n mode h =
    either (λ (k : Choosing). Lasts k n) (ltb at 63)
    (λ e. rw (following_more at (ltb-true at 63 e)) (omega arith))
    (λ e. omega (arith, ltb-false at 63 e))

-- `next` is what lasts where bits are left
heard_lasts : (number at n : ℕ) (bit : Bool) (next : Choosing) (fast : Bool) (mode : Mode) → (at < 63 → Lasts next n) → (63 ≤ at → n ≡ 0) →
    SelectLasts n (heard_bit number at bit next fast mode)
unfolding heard_bit Lasts
heard_lasts number at n bit next fast mode more last =
    either (SelectLasts n) (beq (bit_of number at) bit)
    (λ e. either (SelectLasts n) (ltb at 63) (λ e. more (ltb-true at 63 e)) (λ e. last (ltb-false at 63 e)))
    (λ e. tt)

slot_lasts : (select : Select) (number n : ℕ) (bit alarm : Bool) → Lasts select.choosing (suc n) →
    Lasts (slot_of select number bit alarm).select.choosing n
unfolding slot_of slot_at Lasts
slot_lasts select number n bit alarm h = at select.choosing select.mode h
  where
    at : (k : Choosing) (mode : Mode) → Lasts k (suc n) → Lasts (slot_at k mode number bit alarm).select.choosing n
    at Silent mode h = tt
    at (Command heard count) mode h = command_lasts heard count n mode bit alarm h
    at (Reading i) mode h = read_lasts i n mode h
    at (Matching fast i) mode h =
        heard_lasts number i n bit (Matching fast (following i)) fast mode (λ m. rw (following_more i m) (omega arith)) (λ l. omega arith)
    at (Giving i) mode h = omega arith
    at (Complementing i) mode h = omega arith
    at (Awaiting i) mode h =
        heard_lasts number i n bit (Giving (following i)) false mode (λ m. rw (following_more i m) (omega arith)) (λ l. omega arith)
    at Selected mode h = omega arith

unchosen : (k : Choosing) (n : ℕ) → Lasts k (suc n) → is_chosen k ≡ false
unfolding Lasts is_chosen
unchosen Silent n h = refl
unchosen (Command heard count) n h = refl
unchosen (Reading at) n h = refl
unchosen (Matching fast at) n h = refl
unchosen (Giving at) n h = refl
unchosen (Complementing at) n h = refl
unchosen (Awaiting at) n h = refl
unchosen Selected n h = absurd (omega arith)

-- choosing is not over while it lasts
pub choosing_while : (select : Select) (number : ℕ) (alarm : Bool) (bits : List Bool) → Lasts select.choosing (length bits) →
    still_choosing select number alarm bits ≡ true
unfolding still_choosing
choosing_while select number alarm [] h = refl
choosing_while select number alarm (bit ∷ bits) h =
    rw (unchosen select.choosing (length bits) h)
    (choosing_while (slot_of select number bit alarm).select number alarm bits (slot_lasts select number (length bits) bit alarm h))

-- run after run
pub choosing_append : (select : Select) (number : ℕ) (alarm : Bool) (bits more : List Bool) →
    still_choosing select number alarm (bits ++ more) ≡
    (still_choosing select number alarm bits && still_choosing (run select number alarm bits).select number alarm more)
unfolding still_choosing run
choosing_append select number alarm [] more = refl
choosing_append select number alarm (bit ∷ bits) more =
    rw (choosing_append (slot_of select number bit alarm).select number alarm bits more, and_assoc)

byte_lasts : (byte : ℕ) → Lasts (Command 0 0) (length (bits_of 8 byte))
unfolding Lasts
byte_lasts byte = omega (arith, length_bits 8 byte)

-- from a reset to the end of the command byte, and on
pub choosing_after_command : (mode : Mode) (number byte : ℕ) (alarm : Bool) (bits : List Bool) → byte < 256 →
    still_choosing (listening mode) number alarm (bits_of 8 byte ++ bits) ≡
    still_choosing (rom_command byte mode alarm) number alarm bits
choosing_after_command mode number byte alarm bits h =
    rw (
      choosing_append (listening mode) number alarm (bits_of 8 byte) bits,
      choosing_while (listening mode) number alarm (bits_of 8 byte) (byte_lasts byte),
      run_command mode number byte alarm h,
    )

-- a whole command, over as many slots as it lasts
pub choosing_through : (mode : Mode) (number byte : ℕ) (alarm : Bool) (bits : List Bool) → byte < 256 →
    Lasts (rom_command byte mode alarm).choosing (length bits) →
    still_choosing (listening mode) number alarm (bits_of 8 byte ++ bits) ≡ true
choosing_through mode number byte alarm bits h lasts =
    choosing_after_command mode number byte alarm bits h ∙ choosing_while (rom_command byte mode alarm) number alarm bits lasts

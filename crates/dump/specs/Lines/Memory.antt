-- The data of all lines, and the bytes among them: they are those of the dump's text. Assumes nothing.
use Rattle.std.specs.Prelude.{◌≡◌, refl, Bool, true, false, ◌&&◌, List, ℕ, zero, suc, ◌+◌, ◌-◌, ◌*◌, ◌≤◌, ◌<◌, ltb, leb, length, get_or, drop, if◌then◌else◌}
use Rattle.std.proofs.Math.Path.{fun_ext}
use Rattle.std.proofs.Math.Bool.{and-eq-true_iff}
use Rattle.std.proofs.Common.{add-zero, zero-add, add-suc, suc-add, add-one, arith, leb-true, ltb-true, length-append, length-take, length-drop, get_or-append-add}
use Rattle.std.proofs.Math.ListN.{get_or-append}
use Rattle.std.proofs.lemmas.List.Edits.{sets}
use Rattle.bits.specs.Choose.{either}
use Rattle.bits.specs.Stores.{sets_join}
use Rattle.hexadecimal.specs.Hex.Text.{length_bytes}
use Rattle.dump.specs.Lines.{line_at, bytes_in, data_in, data_of, dumped_at, data_lines, memory_at}

-- ---- how long

pub length_data : (bytes : List ℕ) → length bytes ≡ 36 → length (data_in bytes) ≡ 32
unfolding data_in
length_data bytes long = rw (length-take 32 (drop 2 bytes), length-drop 2 bytes, long)

pub length_line_data : (dump : List ℕ) (line : ℕ) → length (data_in (bytes_in (line_at dump line))) ≡ 32
length_line_data dump line = length_data (bytes_in (line_at dump line)) (length_bytes (line_at dump line) 0 36)

pub length_data_lines : (dump : List ℕ) (line count : ℕ) → length (data_lines dump line count) ≡ 32 * count
unfolding data_lines
length_data_lines dump line zero = refl
length_data_lines dump line (suc count) =
    rw (length-append, length_line_data dump line, length_data_lines dump (suc line) count) (omega arith)

-- ---- stored line by line

-- a line's data, and those of the lines after it
pub store_line : (dump memory : List ℕ) (line : ℕ) → line < 258
    → sets memory (32 * line) (data_lines dump line (258 - line))
    ≡ sets (sets memory (32 * line) (data_in (bytes_in (line_at dump line)))) (32 * (line + 1)) (data_lines dump (line + 1) (258 - (line + 1)))
unfolding data_lines
store_line dump memory line h =
    let more : 258 - line ≡ suc (258 - (line + 1)) = omega arith in
    let after : 32 * (line + 1) ≡ 32 * line + 32 = omega arith in
    rw (more, data_lines, after, sets_join memory (32 * line), length_line_data dump line, add-one)

-- ---- the byte of an address

-- byte i of the data of line k among them
line_at_lem : (dump : List ℕ) (line count k i : ℕ) → k < count → i < 32
    → get_or (data_lines dump line count) (32 * k + i) 0 ≡ data_of dump (line + k) i
unfolding data_lines data_of
line_at_lem dump line zero k i h inside = absurd (omega arith)
line_at_lem dump line (suc count) zero i h inside =
    let here : i < length (data_in (bytes_in (line_at dump line))) = omega (arith, length_line_data dump line) in
    rw (add-zero, zero-add) (get_or-append (data_in (bytes_in (line_at dump line))) (data_lines dump (suc line) count) 0 i here)
line_at_lem dump line (suc count) (suc k) i h inside =
    let first = data_in (bytes_in (line_at dump line)) in
    let past : 32 * suc k + i ≡ length first + (32 * k + i) = omega (arith, length_line_data dump line) in
    rw (past, get_or-append-add first (data_lines dump (suc line) count) (32 * k + i) 0, add-suc, ← suc-add)
    (line_at_lem dump (suc line) count k i (omega arith) inside)

at_line : (dump : List ℕ) (place line at : ℕ) → line < 258 → at < 32 → place ≡ 32 * line + at
    → get_or (data_lines dump 0 258) place 0 ≡ data_of dump line at
at_line dump place line at h inside e = rw (e, line_at_lem dump 0 258 line at h inside, zero-add)

-- the two sides of two choices by one test
same_choice : (test : Bool) {a b c d : ℕ} → (test ≡ true → a ≡ c) → (test ≡ false → b ≡ d)
    → (if test then a else b) ≡ (if test then c else d)
same_choice true p q = p refl
same_choice false p q = q refl

within : (low address high : ℕ) → (leb low address && ltb address high) ≡ true → (low ≤ address) × (address < high)
within low address high e =
    let both = (and-eq-true_iff (leb low address) (ltb address high)).0 e in
    (leb-true low address both.0, ltb-true address high both.1)

-- it is the dumped one
pub memory_dumped : (dump : List ℕ) → memory_at (data_lines dump 0 258) ≡ dumped_at dump
unfolding memory_at dumped_at
memory_dumped dump =
    fun_ext λ address.
    same_choice (leb 0x0200 address && ltb address 0x0240)
    (λ t. let inside = within 0x0200 address 0x0240 t in
    at_line dump (address - 0x0200) _ _ (omega (arith, inside)) (omega arith) (omega (arith, inside)))
    (λ t. same_choice (leb 0x1000 address && ltb address 0x3000)
    (λ u. let inside = within 0x1000 address 0x3000 u in
    at_line dump (0x40 + (address - 0x1000)) _ _ (omega (arith, inside)) (omega arith) (omega (arith, inside)))
    (λ u. refl))

-- a byte of bytes
pub memory_lt : (memory : List ℕ) (address : ℕ) → ((i : ℕ) → get_or memory i 0 < 256) → memory_at memory address < 256
unfolding memory_at
memory_lt memory address small =
    either (λ n. n < 256) (leb 0x0200 address && ltb address 0x0240) (λ t. small _)
    (λ t. either (λ n. n < 256) (leb 0x1000 address && ltb address 0x3000) (λ u. small _) (λ u. omega arith))

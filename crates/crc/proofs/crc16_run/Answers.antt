-- `crc::crc16_run` meets its contract, four bytes a turn and then one. Assumes nothing.
use Rattle.std.proofs.Common.{◌≡◌, ℕ, zero, suc, ◌+◌, ◌*◌, ◌/◌, ◌<◌, ◌≤◌, List, [], length, get_or, drop, ap, add-zero, ◌∙◌, arith}
use Rattle.std.proofs.lemmas.List.{get_or-take, get_or-drop}
use Rattle.std.specs.Simd.{first_chunks}
use Rattle.crc.specs.Crc.Laws.{run_four}
use Rattle.crc.proofs.crc16_run.Goals as goal

-- byte j of the i-th four
in_fours : (k : ℕ) (bytes : List ℕ) (i j : ℕ) → i < k → j < 4 → get_or (get_or (first_chunks 4 k bytes) i []) j 0 ≡ get_or bytes (4 * i + j) 0
in_fours zero bytes i j h g = absurd (omega arith)
in_fours (suc k) bytes zero j h g =
    let here : j ≡ 4 * 0 + j = omega arith in
    get_or-take 4 bytes j 0 g ∙ ap (λ (n : ℕ). get_or bytes n 0) here
in_fours (suc k) bytes (suc i) j h g =
    let on : 4 + (4 * i + j) ≡ 4 * suc i + j = omega arith in
    in_fours k (drop 4 bytes) i j (omega arith) g ∙ get_or-drop 4 bytes (4 * i + j) 0 ∙ ap (λ (n : ℕ). get_or bytes n 0) on

pub loop-a-preserved : goal.loop-a-preserved
loop-a-preserved c =
    let turn = c.loop-a in
    let bytes = c.args.bytes.now in
    let fours = c.as_chunks.ensures in
    let i = turn.a-index in
    let there : i < length bytes / 4 = omega (arith, fours.front_len, c.loop-a-test.true) in
    let inside : 4 * i + 4 ≤ length bytes = omega arith in
    let next : 4 * (i + 1) ≡ 4 * i + 4 = omega arith in
    let byte : (j : ℕ) → j < 4 → _ = λ j. in_fours (length bytes / 4) bytes i j there in
    rw (c.crc16_four-r.ensures, fours.front, next)
    (rw (byte 0 (omega arith), add-zero, byte 1 (omega arith), byte 2 (omega arith), byte 3 (omega arith), ← run_four _ turn.r bytes (4 * i) inside) turn.invariant)

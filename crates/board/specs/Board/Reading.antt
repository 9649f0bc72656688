-- Reading the numbers of a line one by one. Assumes nothing.
use Rattle.std.specs.Prelude.{List, ◌≡◌, ℕ, ◌+◌, ◌<◌, ◌≤◌, length, get_or, set, take}
use Rattle.std.proofs.Math.Logic.{dite}
use Rattle.std.proofs.Common.{ap, ◌∙◌, arith, length-take-le, get_or-take, get_or-set_same, get_or-set_other}
use Rattle.std.proofs.Math.Decide.{dec_lt}
use Rattle.record.specs.declared.Tag.{Tag}
use Rattle.board.specs.declared.Board.{Board}
use Rattle.board.specs.Board.{tag_at, same_number}
use Rattle.board.specs.Board.Numbers.{same_numbers}
use Rattle.board.specs.Board.Places.{get_d_any}

-- a record that is there is the tag at its place, whatever would stand for one that is not
pub read_is : (board : Board) (place : ℕ) (d : Tag) → place < length board.tags → get_or board.tags place d ≡ tag_at board place
unfolding tag_at
read_is board place d h = get_d_any board.tags place d _ h

-- the numbers read so far, and one more
pub numbers_next : (numbers : List ℕ) (number : ℕ → ℕ) (i n : ℕ) → i < length numbers → ((k : ℕ) → k < i → get_or numbers k 0 ≡ number k) →
    n ≡ number i → (k : ℕ) → k < i + 1 → get_or (set numbers i n) k 0 ≡ number k
numbers_next numbers number i n h known e k lt =
    dite (dec_lt k i) (λ before. get_or-set_other numbers i k n 0 (λ same. absurd (omega (arith, before, same))) ∙ known k before)
    (λ here. let same : k ≡ i = omega (arith, lt, here) in rw same (get_or-set_same numbers i n 0 h ∙ e))

-- two of the numbers read are the same
pub same_read : (numbers : List ℕ) (number : ℕ → ℕ) (end : ℕ) → end ≤ length numbers → ((k : ℕ) → k < end → get_or numbers k 0 ≡ number k) →
    same_number (length (take end numbers)) (λ k. get_or (take end numbers) k 0) ≡ same_number end number
same_read numbers number end h known =
    ap (λ (n : ℕ). same_number n (λ k. get_or (take end numbers) k 0)) (length-take-le end numbers h)
    ∙ same_numbers end (λ k. get_or (take end numbers) k 0) number (λ k lt. get_or-take end numbers k 0 lt ∙ known k lt)

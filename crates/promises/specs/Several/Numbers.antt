-- The numbers of a line's answers, by what stands in the line. Assumes nothing.
use Rattle.std.specs.Prelude.{◌≡◌, refl, Bool, true, false, not, ◌&&◌, ◌||◌, List, ℕ, zero, suc, ◌+◌, ◌*◌, ◌<◌, eqb, leb, ltb, length, get_or, drop, if◌then◌else◌, Ok, Err}
use Rattle.std.proofs.Common.{sym, ap, ◌∙◌, add-one, arith, eqb-true, eq-eqb, drop_of_length-le, drop-cons}
use Rattle.std.proofs.lemmas.Bool.{false≢true, not-true, not-false}
use Rattle.std.proofs.Math.Logic.{dite}
use Rattle.std.proofs.Math.Decide.{dec_lt}
use Rattle.answer.specs.declared.Refusal.{Refusal}
use Rattle.bits.specs.Each.{each, each_holds, each_fails, each_same}
use Rattle.board.specs.Board as board
use Rattle.board.specs.Board.{line_step, new_line, judged, judged_by, new_judged, new_fault, same_number, is_count, names_none, is_high}
use Rattle.board.specs.Board.Laws as board-laws
use Rattle.board.specs.Board.Numbers.{same_found, same_none, own_numbers}
use Rattle.record.specs.Record.{good_code, tag_in_range}
use Rattle.select.specs.Select.{mode_of}
use Rattle.promises.specs.Ranges.{is_rom, is_configuration, in_range}
use Rattle.promises.specs.Ranges.Laws.{range_is}
use Rattle.promises.specs.Sentences.Events.{number_in, own_number}
use Rattle.promises.specs.Sentences.Events.Proof.{numbered, rom_is}
use Rattle.promises.specs.Several.{Line, count_of, tag_at, some, twice, is_line, line_number, first_fault, new_number}
use Rattle.promises.specs.Words.{number_of}

-- ---- two of the same

pub some_is : (n : ℕ) (f : ℕ → Bool) → some n f ≡ not (each n (λ i. not (f i)))
unfolding some
some_is zero f = refl
some_is (suc n) f = by (f n) (some_is n f)
  where
    by : (b : Bool) → some n f ≡ not (each n (λ i. not (f i))) → (b || some n f) ≡ not (not b && each n (λ i. not (f i)))
    by true e = refl
    by false e = e

-- where the test passes, if it does
record Found (n : ℕ) (f : ℕ → Bool) : Type 0 where
  pub at : ℕ
  pub below : at < n
  pub passes : f at ≡ true

some_found : (n : ℕ) (f : ℕ → Bool) → some n f ≡ true → Found n f
some_found n f e =
    let fails = each_fails n (λ i. not (f i)) (not-true _ (sym (some_is n f) ∙ e)) in
    record { at = fails.at; below = fails.below; passes = not-false _ fails.fails }

some_none : (n : ℕ) (f : ℕ → Bool) → some n f ≡ false → (i : ℕ) → i < n → f i ≡ false
some_none n f e i h = not-true _ (each_holds n (λ k. not (f k)) (not-false _ (sym (some_is n f) ∙ e)) i h)

pub twice_is : (n : ℕ) (number : ℕ → ℕ) → twice n number ≡ same_number n number
twice_is n number = by (twice n number) refl
  where
    own : twice n number ≡ false → (i j : ℕ) → j < i → i < n → number i ≡ number j → ⊥
    own e i j below h same =
        false≢true
        (sym (some_none i (λ k. eqb (number i) (number k)) (some_none n (λ k. some k (λ m. eqb (number k) (number m))) e i h) j below)
        ∙ eq-eqb (number i) (number j) same)

    by : (b : Bool) → twice n number ≡ b → twice n number ≡ same_number n number
    by true e =
        let first = some_found n (λ i. some i (λ j. eqb (number i) (number j))) e in
        let second = some_found first.at (λ j. eqb (number first.at) (number j)) first.passes in
        e ∙ sym (same_found n number first.at second.at first.below (omega (arith, first.below, second.below))
        (λ same. absurd (omega (arith, same, second.below))) (eqb-true _ _ second.passes))
    by false e =
        e ∙ sym (same_none n number (λ i j hi hj same.
        dite (dec_lt j i) (λ lt. absurd (own e i j lt hi same))
        (λ ge. dite (dec_lt i j) (λ lt. absurd (own e j i lt hj (sym same))) (λ le. omega (arith, ge, le)))))

-- no two are
pub twice_own : (n : ℕ) (number : ℕ → ℕ) → twice n number ≡ false → (i j : ℕ) → i < n → j < n → number i ≡ number j → i ≡ j
twice_own n number none = own_numbers n number (sym (twice_is n number) ∙ none)

pub twice_none : (n : ℕ) (number : ℕ → ℕ) → ((i j : ℕ) → i < n → j < n → number i ≡ number j → i ≡ j) → twice n number ≡ false
twice_none n number own = twice_is n number ∙ same_none n number own

-- ---- those of a line

same_is : (l : Line) (count : ℕ) → same_number count (board.number_at l.board) ≡ twice count (λ i. number_of (tag_at l i))
unfolding board.number_at board.tag_at mode_of
same_is l count = sym (twice_is count (λ i. number_of (tag_at l i)))

ranges_are : (l : Line) (count : ℕ) → each count (λ i. tag_in_range (board.tag_at l.board i)) ≡ each count (λ i. in_range (tag_at l i).tag)
unfolding board.tag_at mode_of
ranges_are l count = each_same count _ _ (λ i h. sym (range_is (tag_at l i).tag))

-- ---- the number of an event

pub line_number_lem : (l : Line) (code place reading : ℕ) →
    number_in (line_step l.block l.board code place reading).shown.answer ≡ line_number l code place reading
unfolding judged judged_by is_count names_none is_high line_number own_number
line_number_lem l code place reading =
    let many = is_line (count_of l) in
    ap number_in (board-laws.line_answer l.block l.board code place reading)
    ∙ rw (same_is l (count_of l), ranges_are l (count_of l))
    (numbered (not many || (eqb code 3 && leb (count_of l) place)) (Err Refusal.TagPlace) _ refl
    (numbered (not (eqb (length l.block) (count_of l * 8832))) (Err Refusal.ImageLength) _ refl
    (numbered (twice (count_of l) (λ i. number_of (tag_at l i))) (Err Refusal.SameNumber) _ refl
    (numbered (not (each (count_of l) (λ i. in_range (tag_at l i).tag))) (Err Refusal.RecordRange) _ refl
    (numbered (ltb 4 code) (Err Refusal.EventCode) _ refl (numbered (eqb code 3 && ltb 2047 reading) (Err Refusal.Reading) (Ok tt) refl refl))))))

-- ---- of a new line

fault_is : (numbers codes : List ℕ) (place left : ℕ) → length codes ≡ length numbers → place + left ≡ length numbers →
    number_in (new_fault numbers codes place left) ≡ first_fault (drop place numbers) (drop place codes)
unfolding new_fault first_fault good_code
fault_is numbers codes place zero same end = rw (drop_of_length-le numbers {i = place} (omega (arith, end))) refl
fault_is numbers codes place (suc left) same end =
    let number = get_or numbers place 0 in
    let code = get_or codes place 0 in
    rw (
      drop-cons numbers place 0 (omega (arith, end)),
      drop-cons codes place 0 (omega (arith, end, same)),
      ← rom_is number,
    )
    (numbered (not (is_rom number)) (Err Refusal.RomNumber) _ refl
    (numbered (not (is_configuration code)) (Err Refusal.Configuration) _ refl
    (rw (add-one place) (fault_is numbers codes (suc place) left same (omega (arith, end))))))

pub new_number_lem : (block numbers codes : List ℕ) → number_in (new_line block numbers codes).shown.answer ≡ new_number block numbers codes
unfolding new_judged is_count new_number
new_number_lem block numbers codes =
    let many = is_line (length numbers) in
    let paired = eqb (length codes) (length numbers) in
    ap number_in (board-laws.new_answer_lem block numbers codes)
    ∙ by many paired refl
  where
    -- behind 14 there are as many codes as numbers
    rest : length codes ≡ length numbers →
        number_in
        (if not (eqb (length block) (length numbers * 8832)) then Err Refusal.ImageLength
        else if same_number (length numbers) (λ i. get_or numbers i 0) then Err Refusal.SameNumber
        else new_fault numbers codes 0 (length numbers))
        ≡ (if not (eqb (length block) (length numbers * 8832)) then 3 else if twice (length numbers) (λ i. get_or numbers i 0) then 13 else first_fault numbers codes)
    rest same =
        rw (← twice_is (length numbers) (λ i. get_or numbers i 0))
        (numbered (not (eqb (length block) (length numbers * 8832))) (Err Refusal.ImageLength) _ refl
        (numbered (twice (length numbers) (λ i. get_or numbers i 0)) (Err Refusal.SameNumber) _ refl (fault_is numbers codes 0 (length numbers) same (omega arith))))

    by : (many paired : Bool) → eqb (length codes) (length numbers) ≡ paired →
        number_in
        (if not (many && paired) then Err Refusal.TagPlace
        else if not (eqb (length block) (length numbers * 8832)) then Err Refusal.ImageLength
        else if same_number (length numbers) (λ i. get_or numbers i 0) then Err Refusal.SameNumber
        else new_fault numbers codes 0 (length numbers))
        ≡ (if not many || not paired then 14
        else if not (eqb (length block) (length numbers * 8832)) then 3
        else if twice (length numbers) (λ i. get_or numbers i 0) then 13
        else first_fault numbers codes)
    by true true e = rest (eqb-true (length codes) (length numbers) e)
    by true false e = refl
    by false paired e = refl

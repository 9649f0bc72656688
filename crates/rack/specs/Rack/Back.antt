-- What is packed of a line is unpacked: each record is at its place, the bytes are a line's and stand for the board, and the numbers in them
-- are those of its tags. Assumes nothing.
use Rattle.std.specs.Prelude.{◌≡◌, refl, true, List, ◌++◌, ℕ, zero, suc, ◌+◌, ◌*◌, ◌/◌, ◌≤◌, ◌<◌, min, length, get_or, take, drop}
use Rattle.std.proofs.Math.Path.{sym, ap}
use Rattle.std.proofs.Common.{◌∙◌, add-suc, add-zero, zero-add, arith, eq-eqb, length-append, take_at, get_or-take, get_or-drop}
use Rattle.std.proofs.Math.Logic.{dite}
use Rattle.std.proofs.Math.Decide.{dec_lt}
use Rattle.std.proofs.lemmas.List.Edits.{sets}
use Rattle.std.proofs.Math.Seq.{drop-append-add, ext_get_or}
use Rattle.bits.specs.Stores.{sets_whole}
use Rattle.board.specs.declared.Board.{Board}
use Rattle.board.specs.Board.{tag_at, number_at, is_count, same_number}
use Rattle.board.specs.Board.Laws.{counted, places_of, places_counted}
use Rattle.board.specs.Board.Numbers.{same_numbers}
use Rattle.image.specs.Fields.{word_at}
use Rattle.packing.specs.Packing.{packed, Fits, unpacked, exchange_in}
use Rattle.packing.specs.Packing.Laws.{length_packed, packed_is, unpacked_packed}
use Rattle.record.specs.declared.Tag.{Tag}
use Rattle.record.specs.Record.{fresh_tag}
use Rattle.rack.specs.Rack.{record_at, is_rack, seven, board_in, number_held, whole_in, same_held, rack_from, rack_of, AllFit}
use Rattle.rack.specs.Rack.Laws.{length_record, none_there, seven_at, racked, rack_good}

-- ---- what is packed

-- the records of so many tags, from a place on, have their length
rack_length : (board : Board) (place left : ℕ) → ((i : ℕ) → i < place + left → Fits (tag_at board i)) → length (rack_from board place left) ≡ left * 80
unfolding rack_from
rack_length board place zero fit = refl
rack_length board place (suc left) fit =
    length-append (packed (tag_at board place)) (rack_from board (place + 1) left)
    ∙ rw (length_packed (tag_at board place) (fit place (omega arith)).size, rack_length board (place + 1) left (λ i h. fit i (omega (arith, h)))) (omega arith)

-- and each is at its place
rack_part : (board : Board) (place left : ℕ) → ((i : ℕ) → i < place + left → Fits (tag_at board i)) → (i : ℕ) → i < left →
    take 80 (drop (i * 80) (rack_from board place left)) ≡ packed (tag_at board (place + i))
unfolding rack_from
rack_part board place zero fit i h = absurd (omega (arith, h))
rack_part board place (suc left) fit zero h =
    let first = packed (tag_at board place) in
    take_at first (rack_from board (place + 1) left) 80 (length_packed (tag_at board place) (fit place (omega arith)).size)
    ∙ ap (λ (n : ℕ). packed (tag_at board n)) (sym (add-zero place))
rack_part board place (suc left) fit (suc i) h =
    let first = packed (tag_at board place) in
    let rest = rack_from board (place + 1) left in
    let past : suc i * 80 ≡ length first + i * 80 = omega (arith, length_packed (tag_at board place) (fit place (omega arith)).size) in
    let next : place + 1 + i ≡ place + suc i = omega arith in
    ap (λ (n : ℕ). take 80 (drop n (first ++ rest))) past
    ∙ ap (take 80) (drop-append-add first rest (i * 80))
    ∙ rack_part board (place + 1) left (λ k lt. fit k (omega (arith, lt))) i (omega (arith, h))
    ∙ ap (λ (n : ℕ). packed (tag_at board n)) next

-- a record as it stands in the board's list
tag_read : (board : Board) (i : ℕ) → tag_at board i ≡ get_or board.tags i (fresh_tag 0 0)
unfolding tag_at
tag_read board i = refl

module _ (board : Board) (few : is_count board.count ≡ true) (fit : AllFit board) where
  pub length_rack : length (rack_of board) ≡ board.count * 80
  unfolding rack_of
  length_rack =
      rack_length board 0 (places_of board.count) (λ i h. fit i (omega (arith, h)))
      ∙ ap (λ (n : ℕ). n * 80) (places_counted board.count few)

  pub record_rack : (i : ℕ) → i < board.count → record_at (rack_of board) i ≡ packed (tag_at board i)
  unfolding rack_of record_at
  record_rack i h =
      rack_part board 0 (places_of board.count) (λ k lt. fit k (omega (arith, lt))) i (omega (arith, h, places_counted board.count few))
      ∙ ap (λ (n : ℕ). packed (tag_at board n)) (zero-add i)

  -- they fill the bytes that they are packed into
  pub fills : (records : List ℕ) → length records ≡ board.count * 80 → sets records 0 (rack_of board) ≡ rack_of board
  fills records size = sets_whole records (rack_of board) (length_rack ∙ sym size)

  -- the bytes are a line's
  pub own_rack : is_rack (rack_of board) board.count ≡ true
  own_rack =
      rack_good (rack_of board) board.count length_rack
      (λ i h. rw (record_rack i h) (packed_is (tag_at board i) (fit i (omega (arith, h, places_counted board.count few)))))

  -- and stand for the board, if it has seven records and past the count those of all zeros
  pub rack_back : length board.tags ≡ 7 → ((i : ℕ) → board.count ≤ i → tag_at board i ≡ fresh_tag 0 0) → board_in (rack_of board) board.count ≡ board
  unfolding board_in
  rack_back size rest =
      let there : (i : ℕ) → i < board.count → unpacked (record_at (rack_of board) i) ≡ tag_at board i =
      λ i h. ap unpacked (record_rack i h) ∙ unpacked_packed (tag_at board i) (fit i (omega (arith, h, places_counted board.count few))) in
      let past : (i : ℕ) → board.count ≤ i → unpacked (record_at (rack_of board) i) ≡ tag_at board i =
      λ i h. none_there (rack_of board) i (omega (arith, h, length_rack)) ∙ sym (rest i h) in
      let tags =
      ext_get_or (fresh_tag 0 0) (seven (λ i. unpacked (record_at (rack_of board) i))) board.tags (sym size)
      (λ i h.
      seven_at (λ k. unpacked (record_at (rack_of board) k)) (fresh_tag 0 0) i h
      ∙ dite (dec_lt i board.count) (there i) (λ no. past i (omega (arith, no)))
      ∙ tag_read board i) in
      λ i. record { tags = tags i; count = board.count }

-- ---- the numbers

-- a word of a part
word_part : (l : List ℕ) (from at width : ℕ) → at + width ≤ 80 → word_at (take 80 (drop from l)) at width ≡ word_at l (from + at) width
unfolding word_at
word_part l from at zero h = refl
word_part l from at (suc width) h =
    let next : from + suc at ≡ suc (from + at) = add-suc from at in
    let byte : get_or (take 80 (drop from l)) at 0 ≡ get_or l (from + at) 0 =
    get_or-take 80 (drop from l) at 0 (omega (arith, h)) ∙ get_or-drop from l at 0 in
    let rest = word_part l from (suc at) width (omega (arith, h)) ∙ ap (λ (n : ℕ). word_at l n width) next in
    λ i. byte i + 256 * rest i

-- the tag at a place, and its number, as the bytes have them
pub tag_racked : (records : List ℕ) (count i : ℕ) → i < 7 → tag_at (board_in records count) i ≡ unpacked (record_at records i)
unfolding tag_at board_in
tag_racked records count i h = seven_at (λ k. unpacked (record_at records k)) (fresh_tag 0 0) i h

number_racked : (records : List ℕ) (count i : ℕ) → i < 7 → (i + 1) * 80 ≤ length records → number_at (board_in records count) i ≡ number_held records i
unfolding number_at number_held unpacked exchange_in record_at
number_racked records count i h has =
    ap (λ (t : Tag). t.exchange.number) (tag_racked records count i h)
    ∙ rw (eq-eqb (length (record_at records i)) 80 (length_record records i has)) (word_part records (i * 80) 24 8 (omega arith))

-- of a line's bytes the numbers of its tags are compared
pub same_racked : (records : List ℕ) (count : ℕ) → is_rack records count ≡ true → is_count count ≡ true →
    same_held records count ≡ same_number count (number_at (board_in records count))
unfolding same_held whole_in
same_racked records count own few =
    let size = (racked records count own).size in
    let bounds = counted count few in
    let all : min (places_of count) (length records / 80) ≡ count = omega (arith, places_counted count few, size) in
    ap (λ (n : ℕ). same_number n (number_held records)) all
    ∙ same_numbers count (number_held records) (number_at (board_in records count))
    (λ i h. sym (number_racked records count i (omega (arith, h, bounds.1)) (omega (arith, h, size))))

-- A line's records as bytes, side by side: which bytes are those of a line, the board that they stand for, the numbers that stand in them,
-- and the bytes that a board packs to. Assumes nothing.
use Rattle.std.specs.Prelude.{Bool, ◌&&◌, List, [], ◌∷◌, ◌++◌, ℕ, zero, suc, ◌+◌, ◌*◌, ◌/◌, ◌<◌, min, eqb, length, take, drop}
use Rattle.bits.specs.Each.{each}
use Rattle.board.specs.declared.Board.{Board}
use Rattle.board.specs.Board.{tag_at, is_count, same_number}
use Rattle.board.specs.Board.Laws.{places_of}
use Rattle.image.specs.Fields.{word_at}
use Rattle.packing.specs.Packing.{packed, Fits, is_packed, unpacked}
pub mod Laws
pub mod Back

-- ---- places: that at place i has bytes 80 i to 80 i + 79

-- as many bytes as the records of so many tags have, and a line can have so many
unfoldable pub has_room : ℕ → ℕ → Bool
has_room size count = is_count count && eqb size (count * 80)

-- the record at a place, or what there is of it
unfoldable pub record_at : List ℕ → ℕ → List ℕ
record_at records place = take 80 (drop (place * 80) records)

-- as many bytes as so many records have, and each record's are such as some record packs to
unfoldable pub is_rack : List ℕ → ℕ → Bool
is_rack records count = eqb (length records) (count * 80) && each count (λ i. is_packed (record_at records i))

-- one for each of a board's places
abbrev pub seven : {A : Type 0} → (ℕ → A) → List A
seven f = f 0 ∷ f 1 ∷ f 2 ∷ f 3 ∷ f 4 ∷ f 5 ∷ f 6 ∷ []

-- the board that bytes stand for; a record that is not wholly there stands for that of all zeros
unfoldable pub board_in : List ℕ → ℕ → Board
board_in records count = record { tags = seven (λ i. unpacked (record_at records i)); count = count }

-- ---- the numbers "as they are, before any is known to be good"

-- that at a place is the eight bytes from 24 on of its record
unfoldable pub number_held : List ℕ → ℕ → ℕ
number_held records place = word_at records (place * 80 + 24) 8

-- how many of the records that a count speaks of are wholly there, of so many bytes
unfoldable pub whole_in : ℕ → ℕ → ℕ
whole_in size count = min (places_of count) (size / 80)

-- two of those are the same
unfoldable pub same_held : List ℕ → ℕ → Bool
same_held records count = same_number (whole_in (length records) count) (number_held records)

-- ---- packing

-- a board's records one behind the other: so many are left, from a place on
unfoldable pub rack_from : Board → ℕ → ℕ → List ℕ
rack_from board place zero = []
rack_from board place (suc left) = packed (tag_at board place) ++ rack_from board (place + 1) left

unfoldable pub rack_of : Board → List ℕ
rack_of board = rack_from board 0 (places_of board.count)

-- each of its records fits its bytes: what the types of a record say
abbrev pub AllFit : Board → Type 0
AllFit board = (i : ℕ) → i < places_of board.count → Fits (tag_at board i)

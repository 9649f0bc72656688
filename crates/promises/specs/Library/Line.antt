-- The library for C on several tags (request #106; crates `rack` and `bagtag`; include/bagtag.h): the numbers of both calls for any bytes at
-- all, what a refusal leaves, and that from `bagtag_line_new` on each call is `line_step` on a line whose records are the bytes lent.
-- `library_line` in LineProof.antt proves it. Assumes nothing.
use Rattle.std.specs.Prelude.{Bool, true, not, ◌&&◌, ◌||◌, List, [], ◌∷◌, ◌++◌, ◌≢◌, ◌≡◌, ℕ, zero, suc, ◌+◌, ◌*◌, ◌/◌, ◌≤◌, ◌<◌, min, eqb, leb, length, get_or, replicate, take, drop, if◌then◌else◌}
use Rattle.std.specs.Borrow.{MutBor}
use Rattle.bagtag.proofs.line.bagtag_line_event.Reads as bagtag_line_event
use Rattle.bagtag.proofs.line.bagtag_line_new.Reads as bagtag_line_new
use Rattle.bits.specs.Each.{each}
use Rattle.board.specs.declared.Board.{Board}
use Rattle.board.specs.Board.{tag_at, line_step, new_line}
use Rattle.packing.specs.Packing.{packed}
use Rattle.rack.specs.Rack.{rack_of}
use Rattle.promises.specs.Library.{word_in, digit_of, Holds, is_record}
use Rattle.promises.specs.Sentences.Events.{number_in, own_number, clear_tag}
use Rattle.promises.specs.Several.{Line, count_of, leaves, twice, is_line, first_fault, Reached}

-- ---- records

-- records stand side by side: that at a place
unfoldable pub record_in : List ℕ → ℕ → List ℕ
record_in records place = take 80 (drop (place * 80) records)

-- the numbers "as they are, before any is known to be good", of the records that are wholly there
abbrev pub rom_in : List ℕ → ℕ → ℕ
rom_in records place = word_in records (place * 80 + 24) 8

abbrev pub twice_in : List ℕ → ℕ → Bool
twice_in records count = twice (min count (length records / 80)) (rom_in records)

-- the records of all zeros, so many of them
unfoldable pub zeros_of : ℕ → List ℕ
zeros_of zero = []
zeros_of (suc n) = (1 ∷ replicate 79 0) ++ zeros_of n

-- ---- the numbers

-- "14, 3, 13, then place by place 4, 5": 14 also for another number of codes than of numbers, and 6, for the records' length, before 4
unfoldable pub new_line_number : List ℕ → List ℕ → List ℕ → List ℕ → ℕ
new_line_number block records numbers codes =
    if not (is_line (length numbers)) || not (eqb (length codes) (length numbers)) then 14
    else if not (eqb (length block) (length numbers * 8832)) then 3
    else if twice (length numbers) (λ i. get_or numbers i 0) then 13
    else if not (eqb (length records) (length numbers * 80)) then 6
    else first_fault numbers codes

-- "14, 3, 13, then 6 over all the count's records, then 1, 2"; 14 also for "a tick whose place isn't below the count"
unfoldable pub line_number : List ℕ → List ℕ → ℕ → ℕ → ℕ → ℕ → ℕ
line_number block records count code place reading =
    if not (is_line count) || (eqb code 3 && leb count place) then 14
    else if not (eqb (length block) (count * 8832)) then 3
    else if twice_in records count then 13
    else if not (eqb (length records) (count * 80) && each count (λ i. is_record (record_in records i))) then 6
    else own_number code reading

-- ---- a line whose records a caller keeps

-- one to seven tags, their records as the types say, and past them those of all zeros
pub record Lined (board : Board) : Type 0 where
  pub few : is_line board.count ≡ true
  pub size : length board.tags ≡ 7
  pub holds : (i : ℕ) → i < board.count → Holds (tag_at board i)
  pub rest : (i : ℕ) → board.count ≤ i → tag_at board i ≡ clear_tag 0 0

-- a caller keeps this line, reached from a new one by events: its block, and its records' bytes
pub record Keeps (images bytes : List ℕ) (l : Line) : Type 0 where
  pub block : images ≡ l.block
  pub records : bytes ≡ rack_of l.board
  pub lined : Lined l.board
  pub reached : Reached l

-- ---- what holds

pub record LibraryLine : Type 2 where
  -- a line's bytes are its records, each at its place
  pub laid : (board : Board) → Lined board →
      (length (rack_of board) ≡ board.count * 80)
      × ((i : ℕ) → i < board.count → record_in (rack_of board) i ≡ packed (tag_at board i))
  -- of no arguments is there anything to show
  pub any_new : (κs : _) (block : _) (records : _) (numbers : _) (codes : _) →
      bagtag_line_new.Asked κs (block, (records, (numbers, (codes, tt))))
  pub any_event : (κs : _) (block : _) (records : _) (count code place reading : ℕ) (line : _) →
      bagtag_line_event.Asked κs (block, (records, (count, (code, (place, (reading, (line, tt)))))))
  -- a new line: a refusal leaves the block, and packs the records of all zeros where their length is right for a count that a line can have
  pub news : (κs : _) (block : _) (records : _) (numbers : _) (codes : _) (r : ℕ) (exit : _) →
      bagtag_line_new.Post κs (block, (records, (numbers, (codes, tt)))) r exit →
      (r ≡ new_line_number block.now records.now numbers.now codes.now)
      × (r ≢ 0 → (exit.0.now ≡ block.now)
      × (exit.1.0.now
      ≡ (if is_line (length numbers.now) && eqb (length records.now) (length numbers.now * 80) then zeros_of (length numbers.now)
      else records.now)))
  -- an event: "a refusal changes no tag", so no byte of block and records, and the line is 1
  pub events : (κs : _) (block : _) (records : _) (count code place reading : ℕ) (line : _) (r : ℕ) (exit : _) →
      bagtag_line_event.Post κs (block, (records, (count, (code, (place, (reading, (line, tt))))))) r exit →
      (r ≡ line_number block.now records.now count code place reading)
      × (r ≢ 0 → (exit.0.now ≡ block.now) × (exit.1.0.now ≡ records.now) × (exit.1.1.1.1.1.1.0.now ≡ 1))
  -- a new line that is accepted is `new_line`'s, and kept
  pub made : (κs : _) (block : _) (records : _) (numbers : _) (codes : _) (r : ℕ) (exit : _) →
      bagtag_line_new.Post κs (block, (records, (numbers, (codes, tt)))) r exit → r ≡ 0 →
      let l = leaves (new_line block.now numbers.now codes.now) in
      Keeps exit.0.now exit.1.0.now l × (count_of l ≡ length numbers.now)
  -- and each call on a line that is kept is `line_step` on it, and keeps what that leaves, whatever it answers
  pub stepped : {l : Line} (κs : _) (block records : MutBor (List ℕ)) (code place reading : ℕ) (line : _) (r : ℕ) (exit : _) →
      Keeps block.now records.now l →
      bagtag_line_event.Post κs (block, (records, (count_of l, (code, (place, (reading, (line, tt))))))) r exit →
      let o = line_step l.block l.board code place reading in
      (r ≡ number_in o.shown.answer) × (exit.1.1.1.1.1.1.0.now ≡ digit_of o.shown.line)
      × Keeps exit.0.now exit.1.0.now (leaves o)
  -- so from `bagtag_line_new` on 3, 13 and 6 never come: the number is by the event's own code, place and reading
  pub own : {l : Line} (κs : _) (block records : MutBor (List ℕ)) (code place reading : ℕ) (line : _) (r : ℕ) (exit : _) →
      Keeps block.now records.now l →
      bagtag_line_event.Post κs (block, (records, (count_of l, (code, (place, (reading, (line, tt))))))) r exit →
      r ≡ (if eqb code 3 && leb (count_of l) place then 14 else own_number code reading)

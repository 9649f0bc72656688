-- Several tags on one line (request #106): a new line, and one event. Assumes nothing.
use Rattle.std.specs.Prelude.{Bool, true, not, ◌&&◌, ◌||◌, List, ◌++◌, ℕ, zero, suc, ◌+◌, ◌*◌, eqb, leb, ltb, length, get_or, set, take, drop, replicate, if◌then◌else◌, Ok, Err}
use Rattle.answer.specs.declared.Refusal.{Refusal}
use Rattle.answer.specs.Answer.{Answer, answer_number}
use Rattle.bits.specs.Each.{each, each_pair}
use Rattle.record.specs.declared.Tag.{Tag}
use Rattle.record.specs.Record.{Outcome, good_number, good_code, tag_in_range, fresh_tag}
use Rattle.tag.specs.Tag.{new_tag, event_of}
use Rattle.board.specs.declared.Board.{Board}
use Rattle.board.specs.declared.Shown.{Shown}
pub mod Laws
pub mod Numbers
pub mod Places
pub mod Reading

-- ---- places: "places count from 0; the tag at place i has bytes 8,832 i to 8,832 i + 8,831 of the block"

unfoldable pub image_at : List ℕ → ℕ → List ℕ
image_at block place = take 8832 (drop (place * 8832) block)

-- the block with this image there
unfoldable pub with_image : List ℕ → ℕ → List ℕ → List ℕ
with_image block place image = take (place * 8832) block ++ (image ++ drop 8832 (drop (place * 8832) block))

unfoldable pub tag_at : Board → ℕ → Tag
tag_at board place = get_or board.tags place (fresh_tag 0 0)

-- the board with this tag there
unfoldable pub with_tag : Board → ℕ → Tag → Board
with_tag board place tag = record { tags = set board.tags place tag; count = board.count }

unfoldable pub number_at : Board → ℕ → ℕ
number_at board place = (tag_at board place).exchange.number

-- ---- what is judged

-- "a count of 0 or above 7" is none
unfoldable pub is_count : ℕ → Bool
is_count count = leb 1 count && leb count 7

-- "a tick for a tag place that isn't there"
unfoldable pub names_none : ℕ → ℕ → ℕ → Bool
names_none count code place = eqb code 3 && leb count place

-- "2 tick with a reading above 2047"
unfoldable pub is_high : ℕ → ℕ → Bool
is_high code reading = eqb code 3 && ltb 2047 reading

-- "two tags with the same number"
unfoldable pub same_number : ℕ → (ℕ → ℕ) → Bool
same_number count number = not (each_pair count (λ i j. eqb i j || not (eqb (number i) (number j))))

-- "The order is 14, 3, 13, all before any other check of a tag"; "then 6 over all the count's records, then 1, 2"; "Place and reading count
-- with code 3 alone". `same` and `good` are whether two numbers are the same and all records keep to their ranges
unfoldable pub judged_by : ℕ → ℕ → Bool → Bool → ℕ → ℕ → ℕ → Answer
judged_by count size same good code place reading =
    if not (is_count count) || names_none count code place then Err Refusal.TagPlace
    else if not (eqb size (count * 8832)) then Err Refusal.ImageLength
    else if same then Err Refusal.SameNumber
    else if not good then Err Refusal.RecordRange
    else if ltb 4 code then Err Refusal.EventCode
    else if is_high code reading then Err Refusal.Reading
    else Ok tt

-- "Records from the count on .. are not looked at"; "compares the numbers as they are"
unfoldable pub judged : ℕ → Board → ℕ → ℕ → ℕ → Answer
judged size board code place reading =
    judged_by board.count size (same_number board.count (number_at board)) (each board.count (λ i. tag_in_range (tag_at board i)))
    code place reading

-- ---- what a call leaves: what it returns, and the lent block

pub record Left : Type 0 where
  pub shown : Shown
  pub block : List ℕ

-- "a refusal changes no tag", and gives bit 1
abbrev pub refusal : Answer → List ℕ → Board → Left
refusal answer block board = record { shown = record { board = board; answer = answer; line = true }; block = block }

-- ---- an event

-- a line while an event goes from tag to tag: the line bit is that of the tags which have had it
pub record Going : Type 0 where
  pub block : List ℕ
  pub board : Board
  pub line : Bool

abbrev pub begun : List ℕ → Board → Going
begun block board = record { block = block; board = board; line = true }

-- once all is judged, the tag at a place has the event as it has it alone; "the line bit is the AND of all"
unfoldable pub reached : ℕ → ℕ → ℕ → Going → Going
reached code reading place l =
    let o : Outcome = event_of (image_at l.block place) (tag_at l.board place) code reading in
    record {
      block = with_image l.block place o.image;
      board = with_tag l.board place o.answered.tag;
      line = l.line && o.answered.line;
    }

-- place by place: so many are left, from a place on
unfoldable pub across : (ℕ → Going → Going) → ℕ → ℕ → Going → Going
across visit place zero l = l
across visit place (suc left) l = across visit (place + 1) left (visit place l)

-- "a tick names its tag"; "A slot or reset goes to all"
unfoldable pub taken : Going → ℕ → ℕ → ℕ → Going
taken l code place reading = if eqb code 3 then reached 3 reading place l else across (reached code 0) 0 l.board.count l

abbrev pub accepted : Going → Left
accepted l = record { shown = record { board = l.board; answer = Ok tt; line = l.line }; block = l.block }

unfoldable pub line_step : List ℕ → Board → ℕ → ℕ → ℕ → Left
line_step block board code place reading =
    let answer : Answer = judged (length block) board code place reading in
    if eqb (answer_number answer) 0 then accepted (taken (begun block board) code place reading) else refusal answer block board

-- ---- a new line

-- "place by place 4, 5": so many are left, from a place on
unfoldable pub new_fault : List ℕ → List ℕ → ℕ → ℕ → Answer
new_fault numbers codes place zero = Ok tt
new_fault numbers codes place (suc left) =
    if not (good_number (get_or numbers place 0)) then Err Refusal.RomNumber
    else if not (good_code (get_or codes place 0)) then Err Refusal.Configuration
    else new_fault numbers codes (place + 1) left

-- "14, 3, 13, then place by place 4, 5"; as many codes as numbers, else 14
unfoldable pub new_judged : ℕ → List ℕ → List ℕ → Answer
new_judged size numbers codes =
    let count : ℕ = length numbers in
    if not (is_count count && eqb (length codes) count) then Err Refusal.TagPlace
    else if not (eqb size (count * 8832)) then Err Refusal.ImageLength
    else if same_number count (λ i. get_or numbers i 0) then Err Refusal.SameNumber
    else new_fault numbers codes 0 count

-- "Records past the count, and all of a refused line, are those of all zeros"; "count 0"
unfoldable pub empty_board : ℕ → Board
empty_board count = record { tags = replicate 7 (fresh_tag 0 0); count = count }

-- "each part as for a new tag"
unfoldable pub new_at : List ℕ → List ℕ → ℕ → Going → Going
new_at numbers codes place l =
    let o : Outcome = new_tag (image_at l.block place) (get_or numbers place 0) (get_or codes place 0) in
    record { block = with_image l.block place o.image; board = with_tag l.board place o.answered.tag; line = true }

unfoldable pub new_line : List ℕ → List ℕ → List ℕ → Left
new_line block numbers codes =
    let answer : Answer = new_judged (length block) numbers codes in
    if eqb (answer_number answer) 0 then accepted (across (new_at numbers codes) 0 (length numbers) (begun block (empty_board (length numbers))))
    else refusal answer block (empty_board 0)

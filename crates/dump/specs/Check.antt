-- Which dumps are refused, and by which number (document 01, "Events and what they return": 7, 8 and 9, "dump length 7, then
-- line by line 7, 9, 8"). Assumes nothing.
use Rattle.std.specs.Prelude.{Bool, ◌&&◌, not, List, ℕ, zero, suc, eqb, length, get_or, Result, Ok, Err, if◌then◌else◌}
use Rattle.std.specs.Result.{result_and}
use Rattle.answer.specs.Answer.{Answer, answer_number}
use Rattle.answer.specs.declared.Refusal.{Refusal}
use Rattle.answer.specs.declared.Refusal.TheVariants.{DumpForm, LinePage, LineCrc}
use Rattle.crc.specs.Crc.{sent_low, sent_high}
use Rattle.hexadecimal.specs.Hex.{all_digits}
use Rattle.dump.specs.Lines.{page_of, line_at, bytes_in, page_in, data_in, crc_in, data_lines}
pub mod Laws
pub mod Written
pub mod Unique

-- "72 digits 0-9 A-F and a line feed"
unfoldable pub formed : List ℕ → Bool
formed text = eqb (length text) 73 && (all_digits text 0 36 && eqb (get_or text 72 0) 0x0A)

-- a line's last two bytes are those that Read Memory sends of the CRC
unfoldable pub crc_right : List ℕ → Bool
crc_right bytes = eqb (get_or bytes 34 0) (sent_low (crc_in bytes)) && eqb (get_or bytes 35 0) (sent_high (crc_in bytes))

-- the text of one line, whose place asks this page: "7, 9, 8"
unfoldable pub check_text : List ℕ → ℕ → Answer
check_text text page =
    if not (formed text) then Err DumpForm  -- 7, "a line not 72 digits 0-9 A-F and a line feed"
    else if not (eqb (page_in (bytes_in text)) page) then Err LinePage  -- 9, "another page than its place asks"
    else if not (crc_right (bytes_in text)) then Err LineCrc  -- 8, "a dump line's CRC is wrong"
    else Ok tt

-- a line of a dump, counted from 0
unfoldable pub check_line : List ℕ → ℕ → Answer
check_line dump line = check_text (line_at dump line) (page_of line)

-- the first answer, unless it accepts: then the second
unfoldable pub first_refusal : Answer → Answer → Answer
first_refusal first second = if eqb (answer_number first) 0 then second else first

-- "line by line", so the first bad line decides: `count` lines from a line on
unfoldable pub check_lines : List ℕ → ℕ → ℕ → Answer
check_lines dump line zero = Ok tt
check_lines dump line (suc count) = first_refusal (check_line dump line) (check_lines dump (suc line) count)

-- "dump length 7, then line by line": "dump not 18,834 bytes"
unfoldable pub check_of : List ℕ → Answer
check_of dump = if not (eqb (length dump) 18834) then Err DumpForm else check_lines dump 0 258

-- ---- what is read

-- the data of a line's text, or why it is refused
unfoldable pub read_text : List ℕ → ℕ → Result (List ℕ) Refusal
read_text text page = result_and (check_text text page) (Ok (data_in (bytes_in text)))

-- what a dump says: the data of all its lines, or why it is refused
unfoldable pub read_of : List ℕ → Result (List ℕ) Refusal
read_of dump = result_and (check_of dump) (Ok (data_lines dump 0 258))

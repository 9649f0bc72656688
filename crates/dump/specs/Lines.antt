-- "258 lines of hexadecimal: pages 0200h, 0220h, 1000h to 2FE0h. A line is page address high byte first, 32 data bytes, and the
-- two CRC bytes that Read Memory sends for that page read first." (Document 01, "The dump and its listing".) Assumes nothing.
use Rattle.std.specs.Prelude.{◌&&◌, List, [], ◌∷◌, ◌++◌, ℕ, zero, suc, ◌+◌, ◌-◌, ◌*◌, ◌/◌, ◌%◌, ltb, leb, get_or, take, drop, if◌then◌else◌}
use Rattle.crc.specs.Crc.{crc16_run, sent_low, sent_high}
use Rattle.hexadecimal.specs.Hex.{hex_text, bytes_at}
pub mod Laws
pub mod Written
pub mod Memory

-- ---- from a memory to its dump

-- the page of a line, lines counted from 0; past the last line there is none
unfoldable pub page_of : ℕ → ℕ
page_of line =
    if ltb line 2 then 0x0200 + 32 * line
    else if ltb line 258 then 0x1000 + 32 * (line - 2)
    else 0

-- "CRC-16 over command, address, data" ("Memory commands", 69h): TA1, the low address byte, comes first
unfoldable pub page_crc : ℕ → ℕ → List ℕ → ℕ
page_crc high low bytes = crc16_run 0 (0x69 ∷ low ∷ high ∷ bytes)

-- the 36 bytes of a line, and the line itself: 72 digits and a line feed
unfoldable pub line_bytes : ℕ → ℕ → List ℕ → List ℕ
line_bytes high low bytes =
    high ∷ low ∷ (bytes ++ (sent_low (page_crc high low bytes) ∷ sent_high (page_crc high low bytes) ∷ []))

unfoldable pub line_of : ℕ → List ℕ → List ℕ
line_of page bytes = hex_text (line_bytes (page / 256) (page % 256) bytes) ++ (0x0A ∷ [])

-- `count` bytes from an address on, of a memory with `byte a` at each address a
unfoldable pub bytes_from : (ℕ → ℕ) → ℕ → ℕ → List ℕ
bytes_from byte address zero = []
bytes_from byte address (suc count) = byte address ∷ bytes_from byte (suc address) count

-- `count` lines from a line on
unfoldable pub lines_from : (ℕ → ℕ) → ℕ → ℕ → List ℕ
lines_from byte line zero = []
lines_from byte line (suc count) =
    line_of (page_of line) (bytes_from byte (page_of line) 32) ++ lines_from byte (suc line) count

-- the dump of such a memory
unfoldable pub dump_text : (ℕ → ℕ) → List ℕ
dump_text byte = lines_from byte 0 258

-- ---- and back

-- the text of a line
unfoldable pub line_at : List ℕ → ℕ → List ℕ
line_at dump line = take 73 (drop (73 * line) dump)

-- its 36 bytes, and of these the page, high byte first, and the data
abbrev pub bytes_in : List ℕ → List ℕ
bytes_in text = bytes_at text 0 36

unfoldable pub page_in : List ℕ → ℕ
page_in bytes = get_or bytes 0 0 * 256 + get_or bytes 1 0

unfoldable pub data_in : List ℕ → List ℕ
data_in bytes = take 32 (drop 2 bytes)

-- the CRC-16 of the page and the data that these bytes show
unfoldable pub crc_in : List ℕ → ℕ
crc_in bytes = page_crc (get_or bytes 0 0) (get_or bytes 1 0) (data_in bytes)

-- byte i of a line's data; 0 where there is none
unfoldable pub data_of : List ℕ → ℕ → ℕ → ℕ
data_of dump line i = get_or (data_in (bytes_in (line_at dump line))) i 0

-- the dumped byte of an address; 0 where none is dumped
unfoldable pub dumped_at : List ℕ → ℕ → ℕ
dumped_at dump address =
    if leb 0x0200 address && ltb address 0x0240 then data_of dump ((address - 0x0200) / 32) (address % 32)
    else if leb 0x1000 address && ltb address 0x3000 then data_of dump (2 + (address - 0x1000) / 32) (address % 32)
    else 0

-- ---- the data of all lines, and a byte among them

-- the data of `count` lines from a line on, one after the other
unfoldable pub data_lines : List ℕ → ℕ → ℕ → List ℕ
data_lines dump line zero = []
data_lines dump line (suc count) = data_in (bytes_in (line_at dump line)) ++ data_lines dump (suc line) count

-- the byte of an address: the registers' 40h come first, then the log's; 0 where none is dumped
unfoldable pub memory_at : List ℕ → ℕ → ℕ
memory_at memory address =
    if leb 0x0200 address && ltb address 0x0240 then get_or memory (address - 0x0200) 0
    else if leb 0x1000 address && ltb address 0x3000 then get_or memory (0x40 + (address - 0x1000)) 0
    else 0

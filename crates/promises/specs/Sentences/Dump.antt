-- Document 01, "The dump and its listing", and its numbers 7 to 12: which dumps are refused and by which number, what the dock lists of one
-- that is accepted, from the dump's own characters, and that a tag's dump is what Read Memory sends. `dump` in Dump/Proof.antt proves it.
-- What a listing says of a mission is demand 2. Assumes nothing.
use Rattle.std.specs.Prelude.{Bool, true, false, not, ◌&&◌, ◌||◌, List, [], ◌∷◌, ◌++◌, ◌≢◌, ◌≡◌, ℕ, zero, suc, ◌+◌, ◌-◌, ◌*◌, ◌/◌, ◌%◌, ◌^◌, ◌<◌, eqb, leb, ltb, ℤ, pos, length, get_or, replicate, if◌then◌else◌, Ok}
use Rattle.answer.specs.Answer.{Answer}
use Rattle.dock.specs.Listing.{listing_of, temperatures_of, seconds_at}
use Rattle.dock.specs.declared.Listing.{Listing}
use Rattle.text.specs.Text.{listing_text}
use Rattle.promises.specs.Ranges.{same, Fit}
use Rattle.promises.specs.Runs.{State}
use Rattle.promises.specs.Sentences.Commands.{sent, head_of, crc_of, PassesRead}
use Rattle.promises.specs.Sentences.Events.{number_in}
use Rattle.promises.specs.Sentences.Listing.{entries, held, rate, content_number, temperature_at, seconds_for, first_line, entry_lines}
use Rattle.promises.specs.Sentences.Memory.{sent_at}
use Rattle.promises.specs.Words.{bit, low, slots, released, Chosen}
pub mod Lines
pub mod Listed
pub mod Text
pub mod Read
pub mod Proof

-- ---- characters

-- "digits 0-9 A-F": the characters 30h to 39h and 41h to 46h
abbrev pub is_digit : ℕ → Bool
is_digit c = (leb 0x30 c && leb c 0x39) || (leb 0x41 c && leb c 0x46)

abbrev pub digit_value : ℕ → ℕ
digit_value c = if leb c 0x39 then c - 0x30 else c - 0x37

-- the test passes at each place of `count` from `at` on
unfoldable pub all : (ℕ → Bool) → ℕ → ℕ → Bool
all test at zero = true
all test at (suc count) = test at && all test (suc at) count

-- ---- lines

-- "258 lines of hexadecimal: pages 0200h, 0220h, 1000h to 2FE0h", each "72 digits 0-9 A-F and a line feed": byte i of a line's 36
abbrev pub page_at : ℕ → ℕ
page_at line = if ltb line 2 then 0x0200 + 32 * line else 0x1000 + 32 * (line - 2)

abbrev pub shown : List ℕ → ℕ → ℕ → ℕ
shown dump line i = 16 * digit_value (get_or dump (73 * line + 2 * i) 0) + digit_value (get_or dump (73 * line + 2 * i + 1) 0)

-- `count` bytes of a line from byte i on
unfoldable pub shown_from : List ℕ → ℕ → ℕ → ℕ → List ℕ
shown_from dump line i zero = []
shown_from dump line i (suc count) = shown dump line i ∷ shown_from dump line (suc i) count

-- 7: "a line not 72 digits 0-9 A-F and a line feed"; 9: "another page than its place asks", "page address high byte first"; 8: "a dump line's
-- CRC is wrong", "the two CRC bytes that Read Memory sends for that page read first": over 69h, the address low byte first, and the data
unfoldable pub line_number : List ℕ → ℕ → ℕ
line_number dump line =
    if not (all (λ at. is_digit (get_or dump at 0)) (73 * line) 72 && eqb (get_or dump (73 * line + 72) 0) 0x0A) then 7
    else if not (eqb (256 * shown dump line 0 + shown dump line 1) (page_at line)) then 9
    else if not
    (same (slots (shown_from dump line 34 2))
    (crc_of (low 8 0x69 ++ (low 8 (shown dump line 1) ++ (low 8 (shown dump line 0) ++ slots (shown_from dump line 2 32)))))) then 8
    else 0

-- "line by line": the first of `count` lines from a line on that is refused
unfoldable pub lines_number : List ℕ → ℕ → ℕ → ℕ
lines_number dump line zero = 0
lines_number dump line (suc count) = if eqb (line_number dump line) 0 then lines_number dump (suc line) count else line_number dump line

-- ---- what the dump says

-- the dumped byte of an address; 0 where none is dumped
unfoldable pub dumped : List ℕ → ℕ → ℕ
dumped dump address =
    if leb 0x0200 address && ltb address 0x0240 then shown dump ((address - 0x0200) / 32) (2 + address % 32)
    else if leb 0x1000 address && ltb address 0x3000 then shown dump (2 + (address - 0x1000) / 32) (2 + address % 32)
    else 0

-- "dump length 7, then line by line 7, 9, 8, then 10, 11, 12": "dump not 18,834 bytes"
unfoldable pub dump_number : List ℕ → ℕ → ℕ
dump_number dump lent =
    if not (eqb (length dump) 18834) then 7
    else if not (eqb (lines_number dump 0 258) 0) then lines_number dump 0 258
    else content_number (dumped dump) lent

-- "A refusal returns .. zero counts"
abbrev pub zero_counts : Answer → Listing
zero_counts answer =
    record { answer = answer; code = 0; held = 0; first = 0; stamp = replicate 6 0; rate = 0; ehss = false; suta = false }

-- and what the dock returns of one that is accepted: the rate, EHSS and SUTA are what seconds go by
abbrev pub listed_by : (ℕ → ℕ) → Listing
listed_by byte =
    record {
      answer = Ok tt;
      code = byte 0x0226;
      held = held byte;
      first = entries byte - held byte;
      stamp = byte 0x0219 ∷ byte 0x021A ∷ byte 0x021B ∷ byte 0x021C ∷ byte 0x021D ∷ byte 0x021E ∷ [];
      rate = rate byte;
      ehss = bit (byte 0x0212) 1;
      suta = bit (byte 0x0213) 5;
    }

-- a dump of the tag: of the right form, and each data byte is what Read Memory sends at its address
pub record DumpOf (s : State) (dump : List ℕ) : Type 0 where
  pub size : length dump ≡ 18834
  pub lines : lines_number dump 0 258 ≡ 0
  pub bytes : (line i : ℕ) → line < 258 → i < 32 → shown dump line (2 + i) ≡ sent_at s.image s.tag.code (page_at line + i)

-- ---- the sentences

pub record Dump : Type 0 where
  -- any text, and any number of places lent
  pub number : (dump : List ℕ) (lent : List ℤ) → number_in (listing_of dump (length lent)).answer ≡ dump_number dump (length lent)
  pub refused : (dump : List ℕ) (lent : List ℤ) → dump_number dump (length lent) ≢ 0 →
      (listing_of dump (length lent) ≡ zero_counts (listing_of dump (length lent)).answer) × (temperatures_of dump lent ≡ lent)
  -- one that is accepted, by the dump's own bytes
  pub listed : (dump : List ℕ) (lent : List ℤ) → dump_number dump (length lent) ≡ 0 →
      listing_of dump (length lent) ≡ listed_by (dumped dump)
  pub seconds : (dump : List ℕ) (lent : List ℤ) → dump_number dump (length lent) ≡ 0 → (i : ℕ) →
      let byte = dumped dump in seconds_at (listing_of dump (length lent)) i ≡ seconds_for byte (entries byte - held byte + i)
  -- the temperatures, oldest first; "Places past the entries stay as they were"
  pub temperatures : (dump : List ℕ) (lent : List ℤ) → dump_number dump (length lent) ≡ 0 → (i : ℕ) → i < length lent →
      let byte = dumped dump in
      get_or (temperatures_of dump lent) i (pos 0) ≡ (if ltb i (held byte) then temperature_at byte (entries byte - held byte + i) else get_or lent i (pos 0))
  pub places_lent : (dump : List ℕ) (lent : List ℤ) → length (temperatures_of dump lent) ≡ length lent
  -- and the text
  pub text : (dump : List ℕ) (lent : List ℤ) → dump_number dump (length lent) ≡ 0 →
      let byte = dumped dump in
      listing_text (listing_of dump (length lent)) (temperatures_of dump lent) ≡ first_line byte ++ entry_lines byte (entries byte - held byte) (held byte)
  -- every fit tag has a dump, and no other; a line of it is what the tag sends behind the password when that page is read first
  pub exists : {s : State} → Fit s → (dump : List ℕ) × DumpOf s dump
  pub unique : {s : State} → Fit s → (p q : List ℕ) → DumpOf s p → DumpOf s q → p ≡ q
  pub line : {s : State} → Fit s → Chosen s → (dump : List ℕ) → DumpOf s dump → (n field : ℕ) → n < 258 → field < 2 ^ 64 → PassesRead s field →
      let head = head_of 0x69 (page_at n) ++ low 64 field in
      (sent s (head ++ released 272)).line ≡ head ++ slots (shown_from dump n 2 34)

-- The dump of a tag: each line is the page as Read Memory sends it, with the CRC of that page read first (document 01, "The
-- dump and its listing"). Assumes nothing.
use Rattle.std.specs.Prelude.{◌≡◌, Ok, List, ℕ, ◌+◌, ◌≤◌, ◌<◌, length}
use Rattle.bits.specs.Bytes.{Bytes}
use Rattle.image.specs.Sent.{sent_at}
use Rattle.image.specs.Sent.Laws.{sent_lt}
use Rattle.dump.specs.Lines.{page_of, line_of, bytes_from, dump_text, line_at, data_of, dumped_at}
use Rattle.dump.specs.Lines.Written.{length_dump, line_at_lem}
use Rattle.dump.specs.Check.{check_of}
use Rattle.dump.specs.Check.Written.{check_written, data_written, dumped_written_register, dumped_written_log}

-- of an image, and the configuration code that the record holds
unfoldable pub dump_of : List ℕ → ℕ → List ℕ
dump_of image code = dump_text (sent_at image code)

-- ---- it is 18,834 bytes, and its lines are the pages

module _ (image : List ℕ) (code : ℕ) where
  pub dump_length : length (dump_of image code) ≡ 18834
  unfolding dump_of
  dump_length = length_dump (sent_at image code)

  pub dump_line : (line : ℕ) → line < 258
      → line_at (dump_of image code) line ≡ line_of (page_of line) (bytes_from (sent_at image code) (page_of line) 32)
  unfolding dump_of
  dump_line = line_at_lem (sent_at image code)

-- ---- it is accepted, and gives back what was sent

module _ (image : List ℕ) (code : ℕ) (bytes : Bytes image) (small : code < 256) where
  pub dump_accepted : check_of (dump_of image code) ≡ Ok tt
  unfolding dump_of
  dump_accepted = check_written (sent_at image code) (λ a. sent_lt image code a bytes small)

  pub dump_data : (line i : ℕ) → line < 258 → i < 32 → data_of (dump_of image code) line i ≡ sent_at image code (page_of line + i)
  unfolding dump_of
  dump_data = data_written (sent_at image code) (λ a. sent_lt image code a bytes small)

  pub dump_register : (address : ℕ) → 0x0200 ≤ address → address < 0x0240
      → dumped_at (dump_of image code) address ≡ sent_at image code address
  unfolding dump_of
  dump_register = dumped_written_register (sent_at image code) (λ a. sent_lt image code a bytes small)

  pub dump_log : (address : ℕ) → 0x1000 ≤ address → address < 0x3000
      → dumped_at (dump_of image code) address ≡ sent_at image code address
  unfolding dump_of
  dump_log = dumped_written_log (sent_at image code) (λ a. sent_lt image code a bytes small)

-- The pages of a dump, as Read Memory's addresses. Assumes nothing.
use Rattle.std.specs.Prelude.{◌≡◌, ℕ, ◌+◌, ◌-◌, ◌*◌, ◌%◌, ◌<◌}
use Rattle.std.proofs.Math.Decide.{dec_lt}
use Rattle.std.proofs.Common.{arith}
use Rattle.dump.specs.Lines.{page_of}
use Rattle.dump.specs.Lines.Laws.{page_register, page_log}

-- what holds of the two register pages and of the log's holds of every line's
by_page : (P : ℕ → Type 0) → ((k : ℕ) → k < 2 → P (0x0200 + 32 * k)) → ((k : ℕ) → k < 256 → P (0x1000 + 32 * k)) →
    (line : ℕ) → line < 258 → P (page_of line)
by_page P registers log line h = by (dec_lt line 2)
  where
    by : Dec (line < 2) → P (page_of line)
    by (yes k) = rw (page_register line k) (registers line k)
    by (no k) = rw (page_log line (omega arith) h) (log (line - 2) (omega arith))

pub page_low : (line : ℕ) → line < 258 → page_of line < 0x3000
page_low = by_page (λ page. page < 0x3000) (λ k h. omega arith) (λ k h. omega arith)

pub page_aligned : (line : ℕ) → line < 258 → page_of line % 32 ≡ 0
page_aligned = by_page (λ page. page % 32 ≡ 0) (λ k h. omega arith) (λ k h. omega arith)

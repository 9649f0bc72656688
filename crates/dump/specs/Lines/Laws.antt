-- Pages of lines and the bytes of addresses, for any dump. Assumes nothing.
use Rattle.std.specs.Prelude.{◌≡◌, List, ℕ, ◌+◌, ◌-◌, ◌*◌, ◌/◌, ◌%◌, ◌≤◌, ◌<◌}
use Rattle.std.proofs.Math.Decide.{dec_lt}
use Rattle.std.proofs.Common.{arith, lt-ltb, le-ltb, le-leb}
use Rattle.dump.specs.Lines.{page_of, data_of, dumped_at}

-- ---- the page of a line

pub page_register : (line : ℕ) → line < 2 → page_of line ≡ 0x0200 + 32 * line
unfolding page_of
page_register line h = simp (lt-ltb line 2 h)

pub page_log : (line : ℕ) → 2 ≤ line → line < 258 → page_of line ≡ 0x1000 + 32 * (line - 2)
unfolding page_of
page_log line h k = simp (le-ltb line 2 h, lt-ltb line 258 k)

pub page_none : (line : ℕ) → 258 ≤ line → page_of line ≡ 0
unfolding page_of
page_none line h = simp (le-ltb line 2 (omega arith), le-ltb line 258 h)

-- ---- the byte of an address

pub dumped_register : (dump : List ℕ) (address : ℕ) → 0x0200 ≤ address → address < 0x0240
    → dumped_at dump address ≡ data_of dump ((address - 0x0200) / 32) (address % 32)
unfolding dumped_at
dumped_register dump address h k = simp (le-leb 0x0200 address h, lt-ltb address 0x0240 k)

pub dumped_log : (dump : List ℕ) (address : ℕ) → 0x1000 ≤ address → address < 0x3000
    → dumped_at dump address ≡ data_of dump (2 + (address - 0x1000) / 32) (address % 32)
unfolding dumped_at
dumped_log dump address h k =
    simp (
      le-leb 0x0200 address (omega arith),
      le-ltb address 0x0240 (omega arith),
      le-leb 0x1000 address h,
      lt-ltb address 0x3000 k,
    )

-- an address in the page of a line
pub dumped_page : (dump : List ℕ) (line i : ℕ) → line < 258 → i < 32 → dumped_at dump (page_of line + i) ≡ data_of dump line i
dumped_page dump line i h k = split (dec_lt line 2)
  where
    split : Dec (line < 2) → dumped_at dump (page_of line + i) ≡ data_of dump line i
    split (yes low) =
        let a = 0x0200 + 32 * line + i in
        let there : (a - 0x0200) / 32 ≡ line = omega arith in
        let place : a % 32 ≡ i = omega arith in
        rw (page_register line low, dumped_register dump a (omega arith) (omega arith), there, place)
    split (no high) =
        let past : 2 ≤ line = omega arith in
        let a = 0x1000 + 32 * (line - 2) + i in
        let there : 2 + (a - 0x1000) / 32 ≡ line = omega arith in
        let place : a % 32 ≡ i = omega arith in
        rw (page_log line past h, dumped_log dump a (omega arith) (omega arith), there, place)

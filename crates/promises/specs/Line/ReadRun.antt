-- Read Memory as a whole run: with a password that may read, the data to the page's end and the CRC-16 over command, address and
-- data (document 01, "Memory commands", 69h); with any other, the line is the master's. Assumes nothing.
use Rattle.std.specs.Prelude.{◌≡◌, Bool, false, ◌&&◌, eqb, ltb}
use Rattle.std.proofs.Math.Path.{refl}
use Rattle.std.proofs.Math.Bool.{true}
use mathlib.Core.List.{List, [], ◌∷◌, ◌++◌, flat_map}
use Prim.Native.Nat.{ℕ, zero, suc, ◌+◌, ◌-◌, ◌*◌, ◌/◌, ◌%◌, ◌^◌, ◌<◌}
use Rattle.std.proofs.Math.Numerals.{add-one}
use native.Mathlib.Omega.{arith}
use Rattle.std.proofs.Common.{lt-ltb, le-ltb}
use Rattle.std.proofs.Math.ListN.{replicate-append-replicate}
use Rattle.bits.specs.Bits.{bits_of, slots_of, released}
use Rattle.bits.specs.Bits.Laws.{slots_append, released_more}
use Rattle.crc.specs.Crc.{crc_run, crc16_run, sent_low, sent_high}
use Rattle.dump.specs.Lines.{bytes_from}
use Rattle.exchange.specs.declared.Exchange.{Exchange}
use Rattle.exchange.specs.Runs.{run, quietly, commanding, chosen}
use Rattle.exchange.specs.Runs.Laws.{run_nil, quiet_then}
use Rattle.exchange.specs.Runs.Commands.{field_quiet, run_over}
use Rattle.bus.specs.declared.Addressed.{Addressed}
use Rattle.bus.specs.declared.Bus.{Bus}
use Rattle.bus.specs.declared.Guarded.{Guarded}
use Rattle.bus.specs.declared.Held.{Held}
use Rattle.bus.specs.declared.Next.{Next}
use Rattle.bus.specs.declared.Question.{Question}
use Rattle.bus.specs.declared.Sending.{Sending}
use Rattle.bus.specs.declared.Stage.{Stage}
use Rattle.bus.specs.Bus.{go_to, addressing}
use Rattle.memory.specs.Hear.{command_stage, address_heard}
use Rattle.field.specs.Field.{after_reading, judged}
use Rattle.memory.specs.Send.{first_byte, after_memory, after_page, after_crc, sent_whole, send_asks}
use Rattle.memory.specs.Runs.Scratchpad.{over_at}
use Rattle.select.specs.declared.Mode.{Mode}
use Rattle.promises.specs.Line.Commands.{sent_then, head_run}

-- 69h, TA1, TA2
abbrev pub read_head : ℕ → List ℕ
read_head address = 0x69 ∷ address % 256 ∷ address / 256 ∷ []

-- what is sent: "data to the page's end and CRC-16 over command, address, data (not password)"
unfoldable pub sent_with : ℕ → List ℕ → List ℕ
sent_with address bytes =
    let crc = crc16_run 0 (read_head address ++ bytes) in
    bytes ++ (sent_low crc ∷ sent_high crc ∷ [])

unfoldable pub page_sent : (ℕ → ℕ) → ℕ → List ℕ
page_sent byte address = sent_with address (bytes_from byte address (32 - address % 32))

module _ (answers : Question → ℕ) (number : ℕ) (mode : Mode) (held : Held) where
  -- what the image answers for an address
  abbrev byte_at : ℕ → ℕ
  byte_at address = answers (Question.Byte address)

  -- ---- the bytes to the page's end

  -- n more bytes are past: the CRC-16 has counted these, and the address is that of the last
  abbrev read_on : Bus → ℕ → List ℕ → Bus
  read_on bus n bytes =
      record { stage = bus.stage; byte = bus.byte; at = bus.at; crc = crc16_run bus.crc bytes; address = bus.address + n; status = bus.status; field = bus.field }

  -- a byte that is not the page's last, and what comes after it
  byte_then : (bus : Bus) (more : List Bool) {y : Exchange} {line : List Bool} → bus.address % 32 < 31 →
      let byte = byte_at bus.address in
      run answers (commanding number mode held (go_to (addressing (read_on bus 0 (byte ∷ [])) (bus.address + 1)) (Stage.Sends Sending.Memory))) more ≡ quietly y line →
      run answers (commanding number mode held (go_to bus (Stage.Sends Sending.Memory))) (released 8 ++ more) ≡ quietly y (bits_of 8 byte ++ line)
  unfolding first_byte sent_whole after_memory send_asks crc_run
  byte_then bus more inside rest =
      sent_then answers number mode Sending.Memory held bus (byte_at bus.address) more refl (rw (lt-ltb (bus.address % 32) 31 inside) rest)

  -- some bytes before the page's last
  some_run : (bus : Bus) (n : ℕ) → bus.address % 32 + n < 32 →
      let bytes = bytes_from byte_at bus.address n in
      run answers (commanding number mode held (go_to bus (Stage.Sends Sending.Memory))) (released (n * 8)) ≡
      quietly (commanding number mode held (go_to (read_on bus n bytes) (Stage.Sends Sending.Memory))) (slots_of bytes)
  unfolding flat_map bytes_from crc_run
  some_run bus zero inside =
      let same : bus.address + 0 ≡ bus.address = omega arith in
      rw same (run_nil answers _)
  some_run bus (suc n) inside =
      let next = addressing (read_on bus 0 (byte_at bus.address ∷ [])) (bus.address + 1) in
      let there : bus.address + 1 + n ≡ bus.address + suc n = omega arith in
      rw (released_more n, ← add-one bus.address)
      (byte_then bus (released (n * 8)) (omega arith) (rw there at (some_run next n (omega arith))))

  -- all of them
  page_run : (bus : Bus) (n : ℕ) → bus.address % 32 + n ≡ 31 →
      let bytes = bytes_from byte_at bus.address (suc n) in
      run answers (commanding number mode held (go_to bus (Stage.Sends Sending.Memory))) (released (suc n * 8)) ≡
      quietly (commanding number mode held (go_to (read_on bus n bytes) (Stage.Sends (Sending.CrcLow Next.Page)))) (slots_of bytes)
  unfolding flat_map bytes_from first_byte sent_whole after_memory send_asks crc_run
  page_run bus zero last =
      let same : bus.address + 0 ≡ bus.address = omega arith in
      rw same
      (sent_then answers number mode Sending.Memory held bus (byte_at bus.address) [] refl
      (rw (le-ltb (bus.address % 32) 31 (omega arith)) (run_nil answers _)))
  page_run bus (suc n) more =
      let next = addressing (read_on bus 0 (byte_at bus.address ∷ [])) (bus.address + 1) in
      let there : bus.address + 1 + n ≡ bus.address + suc n = omega arith in
      rw (released_more (suc n), ← add-one bus.address)
      (byte_then bus (released (suc n * 8)) (omega arith) (rw there at (page_run next n (omega arith))))

  -- and its CRC-16
  crc_run_lem : (bus : Bus) →
      run answers (commanding number mode held (go_to bus (Stage.Sends (Sending.CrcLow Next.Page)))) (released 16) ≡
      quietly (commanding number mode held (after_page (go_to bus (Stage.Sends (Sending.CrcHigh Next.Page))))) (slots_of (sent_low bus.crc ∷ sent_high bus.crc ∷ []))
  unfolding flat_map first_byte sent_whole after_crc send_asks
  crc_run_lem bus =
      sent_then answers number mode (Sending.CrcLow Next.Page) held bus (sent_low bus.crc) (released 8) refl
      (sent_then answers number mode (Sending.CrcHigh Next.Page) held bus (sent_high bus.crc) [] refl (run_nil answers _))

  -- ---- the password

  may_read : (bus : Bus) (field : ℕ) {stage : Stage} → field < 2 ^ 64 →
      after_reading bus.address (eqb (answers (Question.MayRead field)) 1) ≡ stage →
      run answers (commanding number mode held (go_to bus (Stage.Gathers Guarded.Reading))) (bits_of 64 field) ≡
      quietly (commanding number mode held (go_to bus stage)) (bits_of 64 field)
  unfolding judged
  may_read bus field fits leads = rw leads at (field_quiet answers number mode held bus Guarded.Reading field fits refl refl)

  head : (address : ℕ) → address < 65536 →
      run answers (chosen number mode held) (slots_of (read_head address)) ≡
      quietly (commanding number mode held (go_to (over_at (crc16_run 0 (read_head address)) address) (Stage.Gathers Guarded.Reading))) (slots_of (read_head address))
  unfolding command_stage address_heard
  head address fits =
      head_run answers number mode held Addressed.Read (Stage.Gathers Guarded.Reading) 0x69 address (omega arith) fits refl (λ bus. refl)

-- ---- the whole command

-- its slots: 69h, TA1, TA2, the eight password bytes, and the line released for the rest of the page and the CRC-16
abbrev pub read_slots : ℕ → ℕ → List Bool
read_slots address field = slots_of (read_head address) ++ (bits_of 64 field ++ released ((34 - address % 32) * 8))

-- where it stands when a page has gone out whose last address and CRC-16 are these: the next page follows, if there is one
abbrev pub page_end : ℕ → ℕ → Bus
page_end crc last = after_page (go_to (over_at crc last) (Stage.Sends (Sending.CrcHigh Next.Page)))

-- the last address of a page
abbrev pub last_of : ℕ → ℕ
last_of address = address + (31 - address % 32)

abbrev pub read_end : ℕ → List ℕ → Bus
read_end address bytes = page_end (crc16_run 0 (read_head address ++ bytes)) (last_of address)

module _ (answers : Question → ℕ) (number : ℕ) (mode : Mode) (held : Held) (address field : ℕ) (fits : field < 2 ^ 64) where
  pub read_run : address < 0x3000 → eqb (answers (Question.MayRead field)) 1 ≡ true →
      let byte : ℕ → ℕ = λ a. answers (Question.Byte a) in
      run answers (chosen number mode held) (read_slots address field) ≡
      quietly (commanding number mode held (read_end address (bytes_from byte address (32 - address % 32))))
      (slots_of (read_head address) ++ (bits_of 64 field ++ slots_of (page_sent byte address)))
  unfolding crc_run page_sent sent_with after_reading
  read_run low may =
      let n = 31 - address % 32 in
      let start = over_at (crc16_run 0 (read_head address)) address in
      let bytes = bytes_from (λ a. answers (Question.Byte a)) address (suc n) in
      let count : 32 - address % 32 ≡ suc n = omega arith in
      let times : (34 - address % 32) * 8 ≡ suc n * 8 + 16 = omega arith in
      rw (times, ← replicate-append-replicate (suc n * 8) 16 true, count, slots_append bytes _)
      (quiet_then answers _ (slots_of (read_head address)) _ (head answers number mode held address (omega arith))
      (quiet_then answers _ (bits_of 64 field) _ (may_read answers number mode held start field fits (rw (lt-ltb address 0x3000 low, may)))
      (quiet_then answers _ (released (suc n * 8)) (released 16) (page_run answers number mode held start n (omega arith))
      (crc_run_lem answers number mode held (read_on answers number mode held start n bytes)))))

  -- the same before the page's end: some bytes have gone out, and the next follows
  pub begun_run : (n : ℕ) → address < 0x3000 → eqb (answers (Question.MayRead field)) 1 ≡ true → address % 32 + n < 32 →
      let bytes = bytes_from (λ a. answers (Question.Byte a)) address n in
      run answers (chosen number mode held) (slots_of (read_head address) ++ (bits_of 64 field ++ released (n * 8))) ≡
      quietly (commanding number mode held (go_to (over_at (crc16_run (crc16_run 0 (read_head address)) bytes) (address + n)) (Stage.Sends Sending.Memory)))
      (slots_of (read_head address) ++ (bits_of 64 field ++ slots_of bytes))
  unfolding after_reading
  begun_run n low may inside =
      let start = over_at (crc16_run 0 (read_head address)) address in
      quiet_then answers _ (slots_of (read_head address)) _ (head answers number mode held address (omega arith))
      (quiet_then answers _ (bits_of 64 field) _ (may_read answers number mode held start field fits (rw (lt-ltb address 0x3000 low, may)))
      (some_run answers number mode held start n inside))

  -- with a password that may not, or past 2FFFh, the line is the master's from the command on
  pub unread_run : (bits : List Bool) → address < 65536 → (ltb address 0x3000 && eqb (answers (Question.MayRead field)) 1) ≡ false →
      run answers (chosen number mode held) (slots_of (read_head address) ++ (bits_of 64 field ++ bits)) ≡
      quietly (commanding number mode held (go_to (over_at (crc16_run 0 (read_head address)) address) Stage.Over))
      (slots_of (read_head address) ++ (bits_of 64 field ++ bits))
  unfolding after_reading
  unread_run bits whole shut =
      let start = over_at (crc16_run 0 (read_head address)) address in
      quiet_then answers _ (slots_of (read_head address)) _ (head answers number mode held address whole)
      (quiet_then answers _ (bits_of 64 field) bits (may_read answers number mode held start field fits (rw shut))
      (run_over answers number mode held start bits))

-- ---- the pages after it

-- what is sent of each: "CRC-16 over its data alone"
abbrev pub next_sent : List ℕ → List ℕ
next_sent bytes = bytes ++ (sent_low (crc16_run 0 bytes) ∷ sent_high (crc16_run 0 bytes) ∷ [])

-- n pages from a page on
unfoldable pub pages_sent : (ℕ → ℕ) → ℕ → ℕ → List ℕ
pages_sent byte page zero = []
pages_sent byte page (suc n) = next_sent (bytes_from byte page 32) ++ pages_sent byte (page + 32) n

-- the CRC-16 of the last of them, or this one if there is none
unfoldable pub last_crc : (ℕ → ℕ) → ℕ → ℕ → ℕ → ℕ
last_crc byte crc page zero = crc
last_crc byte crc page (suc n) = last_crc byte (crc16_run 0 (bytes_from byte page 32)) (page + 32) n

module _ (answers : Question → ℕ) (number : ℕ) (mode : Mode) (held : Held) where
  next_run : (crc last : ℕ) → last % 32 ≡ 31 → last < 0x2FFF →
      let bytes = bytes_from (byte_at answers number mode held) (last + 1) 32 in
      run answers (commanding number mode held (page_end crc last)) (released (34 * 8)) ≡
      quietly (commanding number mode held (page_end (crc16_run 0 bytes) (last + 32))) (slots_of (next_sent bytes))
  unfolding after_page
  next_run crc last whole more =
      let start = over_at 0 (last + 1) in
      let bytes = bytes_from (byte_at answers number mode held) (last + 1) 32 in
      let there : last + 1 + 31 ≡ last + 32 = omega arith in
      rw (lt-ltb last 0x2FFF more, slots_append bytes _, ← there)
      (quiet_then answers _ (released (32 * 8)) (released 16) (page_run answers number mode held start 31 (omega arith))
      (crc_run_lem answers number mode held (read_on answers number mode held start 31 bytes)))

  -- "then each next page and CRC-16 over its data alone, up to 2FFFh"
  pub pages_run : (n crc last : ℕ) → last % 32 ≡ 31 → last + 32 * n < 0x3000 →
      let byte : ℕ → ℕ = λ a. answers (Question.Byte a) in
      run answers (commanding number mode held (page_end crc last)) (released (n * 272)) ≡
      quietly (commanding number mode held (page_end (last_crc byte crc (last + 1) n) (last + 32 * n))) (slots_of (pages_sent byte (last + 1) n))
  unfolding pages_sent last_crc flat_map
  pages_run zero crc last whole low =
      let same : last + 32 * 0 ≡ last = omega arith in
      rw same (run_nil answers _)
  pages_run (suc n) crc last whole low =
      let bytes = bytes_from (byte_at answers number mode held) (last + 1) 32 in
      let times : suc n * 272 ≡ 272 + n * 272 = omega arith in
      let page : last + 1 + 32 ≡ last + 32 + 1 = omega arith in
      let end : last + 32 * suc n ≡ last + 32 + 32 * n = omega arith in
      rw (times, ← replicate-append-replicate 272 (n * 272) true, slots_append (next_sent bytes) _, page, end)
      (quiet_then answers _ (released 272) (released (n * 272)) (next_run crc last whole (omega arith))
      (pages_run n (crc16_run 0 bytes) (last + 32) (omega arith) (omega arith)))

-- Write Scratchpad and Read Scratchpad as whole runs: what was written is read back, with address, status and CRC-16 (document
-- 01, "Memory commands", the first two). Assumes nothing.
use Rattle.std.specs.Prelude.{◌≡◌, refl, Bool, true, false, ℕ, zero, suc, ◌+◌, ◌-◌, ◌*◌, ◌/◌, ◌%◌, ◌<◌, length, get_or, take, drop}
use Rattle.std.proofs.Common.{◌∙◌, add-one, arith, lt-ltb, le-ltb, length-append, length-set, drop_of_length-le, length-take-le, drop-cons}
use mathlib.Core.List.{List, [], ◌∷◌, ◌++◌, map-append, flat_map, append-nil}
use Rattle.std.proofs.lemmas.List.{replicate-append-replicate}
use Rattle.std.proofs.Math.Seq.{drop-append_seam}
use Rattle.std.proofs.lemmas.List.Edits.{sets, sets-eq}
use Rattle.bits.specs.Bits.{bits_of, slots_of, released}
use Rattle.bits.specs.Bits.Laws.{slots_append, released_more}
use Rattle.crc.specs.Crc.{crc_run, crc16_run, sent_low, sent_high}
use Rattle.bus.specs.declared.Addressed.{Addressed}
use Rattle.bus.specs.declared.Bus.{Bus}
use Rattle.bus.specs.declared.Deed.{Deed}
use Rattle.bus.specs.declared.Hearing.{Hearing}
use Rattle.bus.specs.declared.Held.{Held}
use Rattle.bus.specs.declared.Next.{Next}
use Rattle.bus.specs.declared.Question.{Question}
use Rattle.bus.specs.declared.Sending.{Sending}
use Rattle.bus.specs.declared.Stage.{Stage}
use Rattle.bus.specs.Bus.{clear_bus, go_to, addressing, status_byte, pad_byte}
use Rattle.memory.specs.Hear.{command_stage, loaded, address_heard, stored, after_data, heard_whole}
use Rattle.memory.specs.Send.{first_byte, after_pad, after_crc, sent_whole, send_asks}
use Rattle.memory.specs.Runs.{Ran, run, follows, quietly}
use Rattle.memory.specs.Runs.Laws.{run_append, run_heard, run_read}

-- ---- bytes one after the other that ask nothing and do nothing

quiet_append : (held : Held) (bus : Bus) (first : List Bool) (held' : Held) (bus' : Bus) (line : List Bool) →
    follows (quietly held bus first) (quietly held' bus' line) ≡ quietly held' bus' (first ++ line)
quiet_append held bus first held' bus' line = simp map-append

run_nil : (image : Question → ℕ) (held : Held) (bus : Bus) → run image held bus [] ≡ quietly held bus []
unfolding run
run_nil image held bus = refl

-- a run, and the run of what follows it
run_then : (image : Question → ℕ) (held : Held) (bus : Bus) (bits more : List Bool) {first rest : Ran} →
    run image held bus bits ≡ first → run image first.held first.bus more ≡ rest → run image held bus (bits ++ more) ≡ follows first rest
run_then image held bus bits more p q = run_append image held bus bits more ∙ rw (p, q)

heard_then : (image : Question → ℕ) (h : Hearing) (held : Held) (bus : Bus) (byte : ℕ) (more : List Bool) {held' : Held} {bus' : Bus} {line : List Bool} → byte < 256 →
    (heard_whole h held (go_to bus (Stage.Hears h)) byte).deed ≡ Deed.Nothing →
    run image (heard_whole h held (go_to bus (Stage.Hears h)) byte).held (heard_whole h held (go_to bus (Stage.Hears h)) byte).bus more ≡ quietly held' bus' line →
    run image held (go_to bus (Stage.Hears h)) (bits_of 8 byte ++ more) ≡ quietly held' bus' (bits_of 8 byte ++ line)
unfolding bits_of
heard_then image h held bus byte more {held'} {bus'} {line} fits none rest =
    let start = go_to bus (Stage.Hears h) in
    let whole = heard_whole h held start byte in
    let heard : run image held start (bits_of 8 byte) ≡ quietly whole.held whole.bus (bits_of 8 byte) =
    run_heard image h held start byte refl refl (omega arith) fits ∙ rw none in
    run_then image held start (bits_of 8 byte) more heard rest ∙ quiet_append whole.held whole.bus (bits_of 8 byte) held' bus' line

read_then : (image : Question → ℕ) (s : Sending) (held : Held) (bus : Bus) (byte : ℕ) (more : List Bool) {held' : Held} {bus' : Bus} {line : List Bool} →
    send_asks s (go_to bus (Stage.Sends s)) ≡ Question.Nothing →
    first_byte s held (go_to bus (Stage.Sends s)) (image Question.Nothing) ≡ byte →
    run image held (sent_whole s held (go_to bus (Stage.Sends s)) byte) more ≡ quietly held' bus' line →
    run image held (go_to bus (Stage.Sends s)) (released 8 ++ more) ≡ quietly held' bus' (bits_of 8 byte ++ line)
unfolding bits_of
read_then image s held bus byte more {held'} {bus'} {line} none out rest =
    let start = go_to bus (Stage.Sends s) in
    let sent : run image held start (released 8) ≡ quietly held (sent_whole s held start byte) (bits_of 8 byte) =
    run_read image s held start {byte = byte} refl refl (rw none out) ∙ rw none in
    run_then image held start (released 8) more sent rest ∙ quiet_append held (sent_whole s held start byte) (bits_of 8 byte) held' bus' line

-- ---- the CRC-16 behind the scratchpad's bytes

-- nothing is under way, and this is left of what was: the CRC-16's register and the address
crc_run_lem : (image : Question → ℕ) (held : Held) (bus : Bus) →
    run image held (go_to bus (Stage.Sends (Sending.CrcLow Next.Nothing))) (released 16) ≡
    quietly held (go_to bus Stage.Over) (slots_of (sent_low bus.crc ∷ sent_high bus.crc ∷ []))
unfolding flat_map first_byte sent_whole after_crc send_asks
crc_run_lem image held bus =
    read_then image (Sending.CrcLow Next.Nothing) held bus (sent_low bus.crc) (released 8) refl refl
    (read_then image (Sending.CrcHigh Next.Nothing) held bus (sent_high bus.crc) [] refl refl (run_nil image held _))

-- ---- Read Scratchpad

-- the bus with more bytes counted in the CRC-16
abbrev counted : Bus → List ℕ → Bus
counted bus bytes =
    record { stage = bus.stage; byte = bus.byte; at = bus.at; crc = crc16_run bus.crc bytes; address = bus.address; status = bus.status; field = bus.field }

pad_run : (image : Question → ℕ) (held : Held) (bus : Bus) (n place : ℕ) → length held.pad ≡ 32 → place + n ≡ 31 →
    run image held (go_to bus (Stage.Sends (Sending.PadData place))) (released (suc n * 8)) ≡
    quietly held (go_to (counted bus (drop place held.pad)) (Stage.Sends (Sending.CrcLow Next.Nothing))) (slots_of (drop place held.pad))
unfolding flat_map first_byte pad_byte sent_whole after_pad send_asks crc_run
pad_run image held bus zero place long n =
    let last : place ≡ 31 = omega arith in
    let pad = held.pad in
    rw (drop-cons pad place 0 (omega arith), drop_of_length-le pad {i = suc place} (omega arith))
    (read_then image (Sending.PadData place) held bus (get_or pad place 0) [] refl refl
    (rw (le-ltb place 31 (omega arith)) (run_nil image held _)))
pad_run image held bus (suc n) place long m =
    let pad = held.pad in
    let rest : drop place pad ≡ get_or pad place 0 ∷ drop (place + 1) pad = rw (add-one place) (drop-cons pad place 0 (omega arith)) in
    rw (released_more (suc n), rest)
    (read_then image (Sending.PadData place) held bus (get_or pad place 0) (released (suc n * 8)) refl refl
    (rw (lt-ltb place 31 (omega arith)) (pad_run image held (counted bus (get_or pad place 0 ∷ [])) n (place + 1) long (omega arith))))

pad_crc_run : (image : Question → ℕ) (held : Held) (bus : Bus) (place : ℕ) → length held.pad ≡ 32 → place < 32 →
    let bytes = drop place held.pad in
    let crc = crc16_run bus.crc bytes in
    run image held (go_to bus (Stage.Sends (Sending.PadData place))) (released (suc (31 - place) * 8) ++ released 16) ≡
    quietly held (go_to (counted bus bytes) Stage.Over) (slots_of bytes ++ slots_of (sent_low crc ∷ sent_high crc ∷ []))
pad_crc_run image held bus place long inside =
    let bytes = drop place held.pad in
    run_then image held _ (released (suc (31 - place) * 8)) (released 16) (pad_run image held bus (31 - place) place long (omega arith)) (crc_run_lem image held (counted bus bytes)) ∙
    quiet_append held (go_to (counted bus bytes) (Stage.Sends (Sending.CrcLow Next.Nothing))) (slots_of bytes) held _ _

read_slots_lem : (place : ℕ) → place < 32 →
    released ((3 + (32 - place) + 2) * 8) ≡ released 8 ++ (released 8 ++ (released 8 ++ (released (suc (31 - place) * 8) ++ released 16)))
read_slots_lem place inside =
    let whole : (3 + (32 - place) + 2) * 8 ≡ 8 + (8 + (8 + (suc (31 - place) * 8 + 16))) = omega arith in
    let bytes = suc (31 - place) * 8 in
    rw (whole, ← replicate-append-replicate 8 (8 + (8 + (bytes + 16))) true, ← replicate-append-replicate 8 (8 + (bytes + 16)) true, ← replicate-append-replicate 8 (bytes + 16) true, ← replicate-append-replicate bytes 16 true)

-- what Read Scratchpad sends before its CRC-16
abbrev pub pad_bytes : Held → List ℕ
pad_bytes held = held.ta % 256 ∷ held.ta / 256 ∷ status_byte held ∷ drop (held.ta % 32) held.pad

-- the bus after a command with no more to come: the CRC-16's register and the address are left
abbrev pub over_at : ℕ → ℕ → Bus
over_at crc address = record { stage = Stage.Over; byte = 0; at = 0; crc = crc; address = address; status = 0; field = 0 }

-- "AAh Read Scratchpad: sends TA1, TA2, E/S, data from the offset to 1Fh, CRC-16 over command and all sent"
pub read_scratchpad : (image : Question → ℕ) (held : Held) → length held.pad ≡ 32 →
    let crc = crc16_run 0 (0xAA ∷ pad_bytes held) in
    run image held (clear_bus (Stage.Hears Hearing.Command)) (bits_of 8 0xAA ++ released ((3 + (32 - held.ta % 32) + 2) * 8)) ≡
    quietly held (over_at crc 0) (slots_of (0xAA ∷ pad_bytes held ++ (sent_low crc ∷ sent_high crc ∷ [])))
unfolding flat_map first_byte sent_whole send_asks crc_run heard_whole command_stage
read_scratchpad image held long =
    let over = clear_bus Stage.Over in
    let low = held.ta % 256 in
    let high = held.ta / 256 in
    rw (slots_append (drop (held.ta % 32) held.pad) _, read_slots_lem (held.ta % 32) (omega arith))
    (heard_then image Hearing.Command held over 0xAA _ (omega arith) refl
    (read_then image Sending.PadLow held (counted over (0xAA ∷ [])) low _ refl refl
    (read_then image Sending.PadHigh held (counted over (0xAA ∷ low ∷ [])) high _ refl refl
    (read_then image Sending.PadStatus held (counted over (0xAA ∷ low ∷ high ∷ [])) (status_byte held) _ refl refl
    (pad_crc_run image held (counted over (0xAA ∷ low ∷ high ∷ status_byte held ∷ [])) (held.ta % 32) long (omega arith))))))

-- ---- Write Scratchpad

-- bytes stored from a place on: E/S has the place of the last one
abbrev filled : Held → ℕ → List ℕ → Held
filled held place bytes =
    record { pad = sets held.pad place bytes; ta = held.ta; ending = place + length bytes - 1; pf = false; aa = held.aa }

filled_step : (held : Held) (place d : ℕ) (ds : List ℕ) → filled (stored held place d) (place + 1) ds ≡ filled held place (d ∷ ds)
unfolding stored
filled_step held place d ds =
    let end : place + 1 + length ds - 1 ≡ place + suc (length ds) - 1 = omega arith in
    rw (end, add-one place)

filled_one : (held : Held) (place d : ℕ) → stored held place d ≡ filled held place (d ∷ [])
unfolding stored
filled_one held place d = let end : place + 1 - 1 ≡ place = omega arith in rw end

more_data : (place : ℕ) → place < 31 → after_data place ≡ Stage.Hears (Hearing.Data (place + 1))
unfolding after_data
more_data place more = rw (lt-ltb place 31 more)

long_stored : (held : Held) (place d : ℕ) → length held.pad ≡ 32 → length (stored held place d).pad ≡ 32
unfolding stored
long_stored held place d long = length-set held.pad place d ∙ long

data_run : (image : Question → ℕ) (held : Held) (bus : Bus) (place d : ℕ) (ds : List ℕ) → length held.pad ≡ 32 → place + length ds < 32 → ((i : ℕ) → get_or (d ∷ ds) i 0 < 256) →
    run image held (go_to bus (Stage.Hears (Hearing.Data place))) (slots_of (d ∷ ds)) ≡
    quietly (filled held place (d ∷ ds)) (go_to (counted bus (d ∷ ds)) (after_data (place + length ds))) (slots_of (d ∷ ds))
unfolding flat_map heard_whole crc_run
data_run image held bus place d [] long n small =
    let none : place + 0 ≡ place = omega arith in
    rw (← filled_one held place d, none)
    (heard_then image (Hearing.Data place) held bus d [] (small 0) refl (run_nil image (stored held place d) _))
data_run image held bus place d (e ∷ es) long n small =
    let next : after_data place ≡ Stage.Hears (Hearing.Data (place + 1)) = more_data place (omega arith) in
    let count : place + suc (length es) ≡ place + 1 + length es = omega arith in
    rw (← filled_step held place d (e ∷ es), count)
    (heard_then image (Hearing.Data place) held bus d (slots_of (e ∷ es)) (small 0) refl
    (rw next (data_run image (stored held place d) (counted bus (d ∷ [])) (place + 1) e es (long_stored held place d long) (omega arith) (λ i. small (suc i)))))

-- what is held after all data up to offset 1Fh
abbrev pub written_to : Held → ℕ → List ℕ → Held
written_to held address bytes =
    record { pad = take (address % 32) held.pad ++ bytes; ta = address; ending = 0x1F; pf = false; aa = false }

-- a Write Scratchpad's bytes before its data
abbrev pub write_head : ℕ → List ℕ
write_head address = 0x0F ∷ address % 256 ∷ address / 256 ∷ []

filled_end : (held : Held) (address : ℕ) (bytes : List ℕ) → length held.pad ≡ 32 → address % 32 + length bytes ≡ 32 →
    filled (loaded held address) (address % 32) bytes ≡ written_to held address bytes
filled_end held address bytes long end =
    rw (sets-eq bytes held.pad (address % 32) (omega arith), end, drop_of_length-le held.pad {i = 32} (omega arith), append-nil)

-- "0Fh Write Scratchpad: TA1, TA2, data from offset T4..T0", up to offset 1Fh
pub write_run : (image : Question → ℕ) (held : Held) (address : ℕ) (bytes : List ℕ) → length held.pad ≡ 32 → address < 65536 → address % 32 + length bytes ≡ 32 → ((i : ℕ) → get_or bytes i 0 < 256) →
    run image held (clear_bus (Stage.Hears Hearing.Command)) (slots_of (write_head address ++ bytes)) ≡
    quietly (written_to held address bytes) (go_to (over_at (crc16_run 0 (write_head address ++ bytes)) address) (Stage.Sends (Sending.CrcLow Next.Nothing))) (slots_of (write_head address ++ bytes))
unfolding flat_map heard_whole command_stage address_heard after_data crc_run
write_run image held address [] long fits end small = absurd (omega arith)
write_run image held address (d ∷ ds) long fits end small =
    let over = clear_bus Stage.Over in
    let low = address % 256 in
    let high = address / 256 in
    let whole : low % 256 + 256 * high ≡ address = omega arith in
    let last : address % 32 + length ds ≡ 31 = omega arith in
    heard_then image Hearing.Command held over 0x0F _ (omega arith) refl
    (heard_then image (Hearing.Low Addressed.Write) held (counted over (0x0F ∷ [])) low _ (omega arith) refl
    (heard_then image (Hearing.High Addressed.Write) held (addressing (counted over (0x0F ∷ low ∷ [])) low) high _ (omega arith) refl
    (rw (whole, ← filled_end held address (d ∷ ds) long end)
    (rw last at (data_run image (loaded held address) (addressing (counted over (write_head address)) address) (address % 32) d ds long (omega arith) small)))))

-- "After offset 1Fh the tag sends CRC-16 over command, address and data"
pub write_scratchpad : (image : Question → ℕ) (held : Held) (address : ℕ) (bytes : List ℕ) → length held.pad ≡ 32 → address < 65536 → address % 32 + length bytes ≡ 32 → ((i : ℕ) → get_or bytes i 0 < 256) →
    let sent = write_head address ++ bytes in
    let crc = crc16_run 0 sent in
    run image held (clear_bus (Stage.Hears Hearing.Command)) (slots_of sent ++ released 16) ≡
    quietly (written_to held address bytes) (over_at crc address) (slots_of sent ++ slots_of (sent_low crc ∷ sent_high crc ∷ []))
write_scratchpad image held address bytes long fits end small =
    let sent = write_head address ++ bytes in
    let after = written_to held address bytes in
    let bus = over_at (crc16_run 0 sent) address in
    run_then image held (clear_bus (Stage.Hears Hearing.Command)) (slots_of sent) (released 16) (write_run image held address bytes long fits end small) (crc_run_lem image after bus) ∙
    quiet_append after (go_to bus (Stage.Sends (Sending.CrcLow Next.Nothing))) (slots_of sent) after bus _

-- ---- the round trip

long_taken : (pad : List ℕ) (address : ℕ) → length pad ≡ 32 → length (take (address % 32) pad) ≡ address % 32
long_taken pad address long = length-take-le (address % 32) pad (omega arith)

-- of a scratchpad that was filled from an address's offset on, the bytes from there on
pub rest_of_page : (pad : List ℕ) (address : ℕ) (bytes : List ℕ) → length pad ≡ 32 → drop (address % 32) (take (address % 32) pad ++ bytes) ≡ bytes
rest_of_page pad address bytes long = rw (long_taken pad address long) at (drop-append_seam (take (address % 32) pad) bytes)

-- what was written from the offset to 1Fh is read back after a reset, behind TA1, TA2 and E/S = 1Fh (PF 0, AA 0), with the CRC-16 of it all
pub round_trip : (image : Question → ℕ) (held : Held) (address : ℕ) (bytes : List ℕ) → length held.pad ≡ 32 → address < 65536 → address % 32 + length bytes ≡ 32 → ((i : ℕ) → get_or bytes i 0 < 256) →
    let start = clear_bus (Stage.Hears Hearing.Command) in
    let wrote = run image held start (slots_of (write_head address ++ bytes)) in
    let sent = address % 256 ∷ address / 256 ∷ 0x1F ∷ bytes in
    let crc = crc16_run 0 (0xAA ∷ sent) in
    run image wrote.held start (bits_of 8 0xAA ++ released ((3 + length bytes + 2) * 8)) ≡
    quietly wrote.held (over_at crc 0) (slots_of (0xAA ∷ sent ++ (sent_low crc ∷ sent_high crc ∷ [])))
unfolding status_byte
round_trip image held address bytes long fits end small =
    let after = written_to held address bytes in
    let first = long_taken held.pad address long in
    let count : length bytes ≡ 32 - address % 32 = omega arith in
    let whole : length after.pad ≡ 32 = rw (length-append (take (address % 32) held.pad) bytes, first) end in
    let back = rest_of_page held.pad address bytes long in
    rw (write_run image held address bytes long fits end small, count) (rw back at (read_scratchpad image after whole))

-- What the tag sends, byte by byte (document 01, "Memory commands"). Assumes nothing.
use Rattle.std.specs.Prelude.{true, false, ℕ, ◌+◌, ◌/◌, ◌%◌, eqb, ltb, if◌then◌else◌}
use Rattle.bits.specs.Bits.{bit_of}
use Rattle.crc.specs.Crc.{sent_low, sent_high}
use Rattle.bus.specs.declared.Bus.{Bus}
use Rattle.bus.specs.declared.Deed.{Deed}
use Rattle.bus.specs.declared.Held.{Held}
use Rattle.bus.specs.declared.Moved.{Moved}
use Rattle.bus.specs.declared.Next.{Next}
use Rattle.bus.specs.declared.Question.{Question}
use Rattle.bus.specs.declared.Sending.{Sending}
use Rattle.bus.specs.declared.Stage.{Stage}
use Rattle.bus.specs.Bus.{go_to, passing, adding, counting, addressing, fresh_crc, status_byte, pad_byte}

-- the byte that goes out, as it is at its first slot; `memory` is what the image holds for Read Memory
unfoldable pub first_byte : Sending → Held → Bus → ℕ → ℕ
first_byte Sending.PadLow held bus memory = held.ta % 256
first_byte Sending.PadHigh held bus memory = held.ta / 256
first_byte Sending.PadStatus held bus memory = status_byte held
first_byte (Sending.PadData place) held bus memory = pad_byte held place
first_byte Sending.Memory held bus memory = memory
first_byte (Sending.CrcLow next) held bus memory = sent_low bus.crc
first_byte (Sending.CrcHigh next) held bus memory = sent_high bus.crc

-- "data from the offset to 1Fh, CRC-16 over command and all sent"
unfoldable pub after_pad : ℕ → Stage
after_pad place = Stage.Sends (if ltb place 31 then Sending.PadData (place + 1) else Sending.CrcLow Next.Nothing)

-- "data to the page's end and CRC-16 ..": the byte after this one, or the CRC
unfoldable pub after_memory : Bus → Bus
after_memory bus =
    if ltb (bus.address % 32) 31 then go_to (addressing bus (bus.address + 1)) (Stage.Sends Sending.Memory)
    else go_to bus (Stage.Sends (Sending.CrcLow Next.Page))

-- ".. then each next page and CRC-16 over its data alone, up to 2FFFh"
unfoldable pub after_page : Bus → Bus
after_page bus =
    if ltb bus.address 0x2FFF then go_to (addressing (fresh_crc bus) (bus.address + 1)) (Stage.Sends Sending.Memory)
    else go_to bus Stage.Over

unfoldable pub after_crc : Next → Bus → Bus
after_crc Next.Nothing bus = go_to bus Stage.Over
after_crc Next.Page bus = after_page bus

-- a whole byte has gone out; every byte but those of the CRC itself counts in the CRC
unfoldable pub sent_whole : Sending → Held → Bus → ℕ → Bus
sent_whole Sending.PadLow held bus byte = counting bus byte (Stage.Sends Sending.PadHigh)
sent_whole Sending.PadHigh held bus byte = counting bus byte (Stage.Sends Sending.PadStatus)
sent_whole Sending.PadStatus held bus byte = counting bus byte (Stage.Sends (Sending.PadData (held.ta % 32)))
sent_whole (Sending.PadData place) held bus byte = counting bus byte (after_pad place)
sent_whole Sending.Memory held bus byte = after_memory (adding bus byte)
sent_whole (Sending.CrcLow next) held bus byte = go_to bus (Stage.Sends (Sending.CrcHigh next))
sent_whole (Sending.CrcHigh next) held bus byte = after_crc next bus

-- "A byte is taken at its first slot"
unfoldable pub outgoing : Sending → Held → Bus → ℕ → ℕ
outgoing s held bus memory = if eqb bus.at 0 then first_byte s held bus memory else bus.byte

-- one bit of a byte goes out; with the eighth it is whole
unfoldable pub sent_bit : Sending → Held → Bus → ℕ → Moved
sent_bit s held bus memory =
    record {
      held = held;
      bus = if ltb bus.at 7 then passing bus (outgoing s held bus memory) (bus.at + 1)
          else sent_whole s held bus (outgoing s held bus memory);
      line = bit_of (outgoing s held bus memory) bus.at;
      deed = Deed.Nothing;
    }

-- "and the tag sends 0,1,0,1 on"
unfoldable pub alternating : Held → Bus → Moved
alternating held bus =
    if eqb bus.at 0 then record { held = held; bus = passing bus bus.byte 1; line = false; deed = Deed.Nothing }
    else record { held = held; bus = passing bus bus.byte 0; line = true; deed = Deed.Nothing }

-- what is asked of the image: Read Memory's byte, at its first slot
unfoldable pub send_asks : Sending → Bus → Question
send_asks Sending.Memory bus = if eqb bus.at 0 then Question.Byte bus.address else Question.Nothing
send_asks Sending.PadLow bus = Question.Nothing
send_asks Sending.PadHigh bus = Question.Nothing
send_asks Sending.PadStatus bus = Question.Nothing
send_asks (Sending.PadData place) bus = Question.Nothing
send_asks (Sending.CrcLow next) bus = Question.Nothing
send_asks (Sending.CrcHigh next) bus = Question.Nothing

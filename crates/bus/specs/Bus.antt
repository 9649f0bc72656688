-- What is held, the bus state with one thing changed, and E/S as a byte (document 01, "Memory commands"). Assumes nothing.
use Rattle.std.specs.Prelude.{true, false, ℕ, ◌+◌, ◌*◌, ◌%◌, get_or, replicate}
use Rattle.bits.specs.Bits.{digit}
use Rattle.crc.specs.Crc.{crc16_byte}
use Rattle.bus.specs.declared.Bus.{Bus}
use Rattle.bus.specs.declared.Deed.{Deed}
use Rattle.bus.specs.declared.Held.{Held}
use Rattle.bus.specs.declared.Moved.{Moved}
use Rattle.bus.specs.declared.Stage.{Stage}

-- a new tag's scratchpad, TA and E/S are 0
abbrev pub new_held : Held
new_held = record { pad = replicate 32 0; ta = 0; ending = 0; pf = false; aa = false }

-- nothing is under way but this stage
abbrev pub clear_bus : Stage → Bus
clear_bus stage = record { stage = stage; byte = 0; at = 0; crc = 0; address = 0; status = 0; field = 0 }

-- the next byte or password field begins, at this stage
abbrev pub go_to : Bus → Stage → Bus
go_to bus stage = record { stage = stage; byte = 0; at = 0; crc = bus.crc; address = bus.address; status = bus.status; field = 0 }

-- a byte under way, with this many bits past
abbrev pub passing : Bus → ℕ → ℕ → Bus
passing bus byte at =
    record { stage = bus.stage; byte = byte; at = at; crc = bus.crc; address = bus.address; status = bus.status; field = bus.field }

-- a password field under way, with this many bits past
abbrev pub gathering : Bus → ℕ → ℕ → Bus
gathering bus field at =
    record { stage = bus.stage; byte = bus.byte; at = at; crc = bus.crc; address = bus.address; status = bus.status; field = field }

-- a byte counts in the CRC-16
abbrev pub adding : Bus → ℕ → Bus
adding bus byte =
    record { stage = bus.stage; byte = bus.byte; at = bus.at; crc = crc16_byte bus.crc byte; address = bus.address; status = bus.status; field = bus.field }

-- a byte counts in the CRC-16, and the next one begins, at this stage
abbrev pub counting : Bus → ℕ → Stage → Bus
counting bus byte stage = go_to (adding bus byte) stage

-- the CRC-16 begins anew
abbrev pub fresh_crc : Bus → Bus
fresh_crc bus =
    record { stage = bus.stage; byte = bus.byte; at = bus.at; crc = 0; address = bus.address; status = bus.status; field = bus.field }

-- another address
abbrev pub addressing : Bus → ℕ → Bus
addressing bus address =
    record { stage = bus.stage; byte = bus.byte; at = bus.at; crc = bus.crc; address = address; status = bus.status; field = bus.field }

-- Copy's E/S as sent
abbrev pub noting : Bus → ℕ → Bus
noting bus status =
    record { stage = bus.stage; byte = bus.byte; at = bus.at; crc = bus.crc; address = bus.address; status = status; field = bus.field }

-- "a silent or listening tag gives 1" ("Events and what they return")
abbrev pub listens : Held → Bus → Deed → Moved
listens held bus deed = record { held = held; bus = bus; line = true; deed = deed }

-- E/S: AA in bit 7, PF in bit 5, the ending offset in bits 4-0
unfoldable pub status_byte : Held → ℕ
status_byte held = 128 * digit held.aa + 32 * digit held.pf + held.ending % 32

-- the scratchpad's byte at a place
unfoldable pub pad_byte : Held → ℕ → ℕ
pad_byte held place = get_or held.pad place 0

-- What the tag hears, byte by byte (document 01, "Memory commands"; the order is the document's). Assumes nothing.
use Rattle.std.specs.Prelude.{Bool, true, false, ℕ, ◌+◌, ◌*◌, ◌%◌, eqb, ltb, set, if◌then◌else◌}
use Rattle.bits.specs.Bits.{shift_in}
use Rattle.bus.specs.declared.Addressed.{Addressed}
use Rattle.bus.specs.declared.Bus.{Bus}
use Rattle.bus.specs.declared.Control.{Control}
use Rattle.bus.specs.declared.Deed.{Deed}
use Rattle.bus.specs.declared.Guarded.{Guarded}
use Rattle.bus.specs.declared.Hearing.{Hearing}
use Rattle.bus.specs.declared.Held.{Held}
use Rattle.bus.specs.declared.Moved.{Moved}
use Rattle.bus.specs.declared.Next.{Next}
use Rattle.bus.specs.declared.Sending.{Sending}
use Rattle.bus.specs.declared.Stage.{Stage}
use Rattle.bus.specs.Bus.{go_to, passing, adding, counting, fresh_crc, addressing, noting, listens}

-- which stage a command byte leads to
unfoldable pub command_stage : ℕ → Stage
command_stage byte =
    if eqb byte 0x0F then Stage.Hears (Hearing.Low Addressed.Write)  -- Write Scratchpad
    else if eqb byte 0xAA then Stage.Sends Sending.PadLow  -- Read Scratchpad
    else if eqb byte 0x99 then Stage.Hears (Hearing.Low Addressed.Copy)  -- Copy
    else if eqb byte 0x69 then Stage.Hears (Hearing.Low Addressed.Read)  -- Read Memory
    else if eqb byte 0x96 then Stage.Gathers (Guarded.Controlling Control.Clear)  -- Clear
    else if eqb byte 0xCC then Stage.Gathers (Guarded.Controlling Control.Start)  -- Start
    else if eqb byte 0x33 then Stage.Gathers (Guarded.Controlling Control.Stop)  -- Stop
    else if eqb byte 0x55 then Stage.Hears (Hearing.Confirm Control.Convert)  -- Forced Conversion
    else Stage.Over  -- any other command byte

-- "Both address bytes in: TA loads, AA clears, the ending offset is T4..T0, PF is 1 until the first whole byte"
abbrev pub loaded : Held → ℕ → Held
loaded held address = record { pad = held.pad; ta = address; ending = address % 32; pf = true; aa = false }

-- TA1, then TA2: what each command goes on to
unfoldable pub address_heard : Addressed → Held → Bus → Moved
address_heard Addressed.Write held bus =
    listens (loaded held bus.address) (go_to bus (Stage.Hears (Hearing.Data (bus.address % 32)))) Deed.Nothing
address_heard Addressed.Copy held bus = listens held (go_to bus (Stage.Hears Hearing.Status)) Deed.Nothing
address_heard Addressed.Read held bus = listens held (go_to bus (Stage.Gathers Guarded.Reading)) Deed.Nothing

-- "Each whole byte's place becomes the ending offset"
unfoldable pub stored : Held → ℕ → ℕ → Held
stored held place byte = record { pad = set held.pad place byte; ta = held.ta; ending = place; pf = false; aa = held.aa }

-- "After offset 1Fh the tag sends CRC-16 over command, address and data"
unfoldable pub after_data : ℕ → Stage
after_data place =
    if ltb place 31 then Stage.Hears (Hearing.Data (place + 1))
    else Stage.Sends (Sending.CrcLow Next.Nothing)

-- "A broken last byte is dropped and sets PF": a data byte that has begun is broken until it is whole
abbrev pub under_way : Hearing → Held → Held
under_way (Hearing.Data place) held =
    record { pad = held.pad; ta = held.ta; ending = held.ending; pf = true; aa = held.aa }
under_way Hearing.Command held = held
under_way (Hearing.Low a) held = held
under_way (Hearing.High a) held = held
under_way Hearing.Status held = held
under_way (Hearing.Confirm c) held = held

-- what a control command does once FFh has followed
abbrev pub deed_of : Control → Deed
deed_of Control.Clear = Deed.Clear
deed_of Control.Start = Deed.Start
deed_of Control.Stop = Deed.Stop
deed_of Control.Convert = Deed.Convert

-- "then FFh .. Another last byte: not done"
unfoldable pub confirmed : Control → Held → Bus → ℕ → Moved
confirmed control held bus byte =
    listens held (go_to bus Stage.Over) (if eqb byte 0xFF then deed_of control else Deed.Nothing)

-- a whole byte is heard
unfoldable pub heard_whole : Hearing → Held → Bus → ℕ → Moved
heard_whole Hearing.Command held bus byte =
    listens held (counting (fresh_crc bus) byte (command_stage byte)) Deed.Nothing
heard_whole (Hearing.Low a) held bus byte =
    listens held (go_to (addressing (adding bus byte) byte) (Stage.Hears (Hearing.High a))) Deed.Nothing
heard_whole (Hearing.High a) held bus byte =
    address_heard a held (addressing (adding bus byte) (bus.address % 256 + 256 * byte))
heard_whole (Hearing.Data place) held bus byte =
    listens (stored held place byte) (counting bus byte (after_data place)) Deed.Nothing
heard_whole Hearing.Status held bus byte =
    listens held (go_to (noting bus byte) (Stage.Gathers Guarded.Copying)) Deed.Nothing
heard_whole (Hearing.Confirm control) held bus byte = confirmed control held bus byte

-- one bit heard; with the eighth the byte is whole
unfoldable pub heard_bit : Hearing → Held → Bus → Bool → Moved
heard_bit h held bus bit =
    if ltb bus.at 7 then listens (under_way h held) (passing bus (shift_in 8 bus.byte bit) (bus.at + 1)) Deed.Nothing
    else heard_whole h held bus (shift_in 8 bus.byte bit)

-- Document 01, "Choosing a tag on the line", with the overdrive commands of request #103: what each slot after a reset does, until the tag is
-- selected or silent.
-- A registration number is read low byte first, so bit i on the line is bit i of the number. Assumes nothing.
use Rattle.std.specs.Prelude.{Bool, true, false, not, ◌&&◌, ◌||◌, ℕ, ◌+◌, ltb, eqb, if◌then◌else◌}
use Rattle.std.specs.Bool.{beq}
use Rattle.bits.specs.Bits.{bit_of, shift_in}
use Rattle.select.specs.declared.Choosing.{Choosing}
use Rattle.select.specs.declared.Choosing.TheVariants.{Silent, Command, Reading, Matching, Giving, Complementing, Awaiting, Selected}
use Rattle.select.specs.declared.Mode.{Mode}
use Rattle.select.specs.declared.Select.{Select}
use Rattle.select.specs.declared.Chosen.{Chosen}
pub mod Laws
pub mod Mark
pub mod Speed
pub mod Ranges

-- the Resume mark, and the speed, true at overdrive: "The bus record gains a speed"
unfoldable pub mark_in : Mode → Bool
mark_in Mode.Plain = false
mark_in Mode.Marked = true
mark_in Mode.Overdrive = false
mark_in Mode.OverdriveMarked = true

unfoldable pub speed_in : Mode → Bool
speed_in Mode.Plain = false
speed_in Mode.Marked = false
speed_in Mode.Overdrive = true
speed_in Mode.OverdriveMarked = true

-- with this mark and this speed
unfoldable pub mode_of : Bool → Bool → Mode
mode_of false false = Mode.Plain
mode_of true false = Mode.Marked
mode_of false true = Mode.Overdrive
mode_of true true = Mode.OverdriveMarked

-- choosing goes on with this mode, and with the Resume mark cleared, at this speed
abbrev pub keeps : Mode → Choosing → Select
keeps mode choosing = record { choosing = choosing; mode = mode }

abbrev pub unmarked : Bool → Mode
unmarked speed = mode_of false speed

abbrev pub clears : Bool → Choosing → Select
clears speed choosing = keeps (unmarked speed) choosing

-- "A new tag .. waits for a reset" ("Events and what they return"), at standard speed
abbrev pub new_select : Select
new_select = clears false Silent

-- "After reset comes a ROM command": no bit of it is heard yet
abbrev pub listening : Mode → Select
listening mode = keeps mode (Command 0 0)

-- "Code 2 stays the long reset and clears the speed"; the mark stays
abbrev pub standard : Mode → Mode
standard mode = mode_of (mark_in mode) false

abbrev pub reset_select : Select → Select
reset_select select = listening (standard select.mode)

-- "a short reset: at overdrive a reset that keeps the speed"
abbrev pub restarted : Select → Select
restarted select = listening select.mode

-- Which exchange follows the whole byte, and the Resume mark: "Read, Match, both Searches and Skip clear the Resume mark; ..
-- Resume needs it". "ROM commands 3Ch and 69h work as Skip and Match that set" the speed; "Match 69h sets the speed only when the
-- whole number matches". `alarm` is whether BOR, THF or TLF is 1 as the byte ends.
unfoldable pub rom_command : ℕ → Mode → Bool → Select
rom_command byte mode alarm =
    if eqb byte 0x33 then clears (speed_in mode) (Reading 0)  -- Read
    else if eqb byte 0x55 then clears (speed_in mode) (Matching false 0)  -- Match
    else if eqb byte 0x69 then clears (speed_in mode) (Matching true 0)  -- Overdrive Match
    else if eqb byte 0xF0 then clears (speed_in mode) (Giving 0)  -- Search
    else if eqb byte 0xEC then clears (speed_in mode) (if alarm then Giving 0 else Silent)  -- Conditional Search
    else if eqb byte 0xCC then clears (speed_in mode) Selected  -- Skip
    else if eqb byte 0x3C then clears true Selected  -- Overdrive Skip
    else if eqb byte 0xA5 then keeps mode (if mark_in mode then Selected else Silent)  -- Resume
    else keeps mode Silent  -- "Any other byte: silent until reset"

-- One more bit of the command byte, "low bit first"; the eighth makes it whole.
unfoldable pub command_bit : ℕ → ℕ → Mode → Bool → Bool → Select
command_bit heard count mode bit alarm =
    if ltb count 7 then keeps mode (Command (shift_in 8 heard bit) (count + 1))
    else rom_command (shift_in 8 heard bit) mode alarm

-- the bit after bit `at`; the last of the 64 has none after it
unfoldable pub following : ℕ → ℕ
following at = if ltb at 63 then at + 1 else at

-- Read ROM after bit `at` is out: "All but a failed one go on to memory commands"
unfoldable pub read_bit : ℕ → Mode → Select
read_bit at mode = keeps mode (if ltb at 63 then Reading (following at) else Selected)

-- "a whole Match or either whole Search sets" the mark; a whole Match 69h, which is `fast`, the speed too
abbrev pub whole : Bool → Mode → Mode
whole fast mode = mode_of true (fast || speed_in mode)

-- Bit `at` of Match or Search is heard: the tag "drops out if it differs"; `next` follows while bits are left; a whole one goes on to
-- memory commands.
unfoldable pub heard_bit : ℕ → ℕ → Bool → Choosing → Bool → Mode → Select
heard_bit number at bit next fast mode =
    if beq (bit_of number at) bit then (if ltb at 63 then keeps mode next else keeps (whole fast mode) Selected)
    else keeps mode Silent

-- "A slot's bit is the master's bit and the tag's bit combined by AND; a silent or listening tag gives 1"
abbrev pub sends : Bool → Bool → Select → Chosen
sends own bit next = record { select = next; line = own && bit }

abbrev pub listens : Bool → Select → Chosen
listens bit next = sends true bit next

-- One slot, by where choosing stands. "Search: per bit, low first, the tag gives the bit, then its complement, then reads the
-- choice and drops out if it differs."
unfoldable pub slot_at : Choosing → Mode → ℕ → Bool → Bool → Chosen
slot_at Silent mode number bit alarm = listens bit (keeps mode Silent)
slot_at (Command heard count) mode number bit alarm = listens bit (command_bit heard count mode bit alarm)
slot_at (Reading at) mode number bit alarm = sends (bit_of number at) bit (read_bit at mode)
slot_at (Matching fast at) mode number bit alarm =
    listens bit (heard_bit number at bit (Matching fast (following at)) fast mode)
slot_at (Giving at) mode number bit alarm = sends (bit_of number at) bit (keeps mode (Complementing at))
slot_at (Complementing at) mode number bit alarm = sends (not (bit_of number at)) bit (keeps mode (Awaiting at))
slot_at (Awaiting at) mode number bit alarm =
    listens bit (heard_bit number at bit (Giving (following at)) false mode)
slot_at Selected mode number bit alarm = listens bit (keeps mode Selected)

-- One slot of a tag with this number; the master's bit is true with the line released.
unfoldable pub slot_of : Select → ℕ → Bool → Bool → Chosen
slot_of select number bit alarm = slot_at select.choosing select.mode number bit alarm

-- "go on to memory commands": the tag is chosen, and its slots are theirs
unfoldable pub is_chosen : Choosing → Bool
is_chosen Selected = true
is_chosen Silent = false
is_chosen (Command heard count) = false
is_chosen (Reading at) = false
is_chosen (Matching fast at) = false
is_chosen (Giving at) = false
is_chosen (Complementing at) = false
is_chosen (Awaiting at) = false

abbrev pub is_selected : Select → Bool
is_selected select = is_chosen select.choosing

-- "when the command byte ends": this slot is the last bit of a ROM command byte of which `these` is true
unfoldable pub ends_command : (ℕ → Bool) → Choosing → Bool → Bool
ends_command these (Command heard count) bit = if ltb count 7 then false else these (shift_in 8 heard bit)
ends_command these Silent bit = false
ends_command these (Reading at) bit = false
ends_command these (Matching fast at) bit = false
ends_command these (Giving at) bit = false
ends_command these (Complementing at) bit = false
ends_command these (Awaiting at) bit = false
ends_command these Selected bit = false

-- the one slot in which the alarm counts: it ends a Conditional Search command
abbrev pub asks_alarm : Select → Bool → Bool
asks_alarm select bit = ends_command (λ byte. eqb byte 0xEC) select.choosing bit

-- The ranges: fewer than 8 bits of a command byte, and one of the number's 64 bits.
unfoldable pub choosing_in_range : Choosing → Bool
choosing_in_range Silent = true
choosing_in_range (Command heard count) = ltb count 8
choosing_in_range (Reading at) = ltb at 64
choosing_in_range (Matching fast at) = ltb at 64
choosing_in_range (Giving at) = ltb at 64
choosing_in_range (Complementing at) = ltb at 64
choosing_in_range (Awaiting at) = ltb at 64
choosing_in_range Selected = true

abbrev pub select_in_range : Select → Bool
select_in_range select = choosing_in_range select.choosing

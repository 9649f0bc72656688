-- Without a password that is let pass a tag asks for no byte of memory, and does nothing but Forced Conversions. Assumes nothing.
use Rattle.std.specs.Prelude.{◌≡◌, refl, Bool, true, false, ◌&&◌, ℕ, ◌+◌, ◌%◌, eqb, ltb, if◌then◌else◌}
use Rattle.std.proofs.Common.{sym, ap, ◌∙◌}
use Rattle.std.proofs.Math.Bool.{and-false}
use Rattle.bits.specs.Bits.Laws.{digit_same}
use Rattle.bits.specs.Choose.{choice, choices}
use Rattle.bits.specs.Bits.{digit, shift_in}
use Rattle.bits.specs.Tests.{neither}
use Rattle.memory.specs.Memory.Laws.{command_cases}
use Rattle.bus.specs.declared.Addressed.{Addressed}
use Rattle.bus.specs.declared.Bus.{Bus}
use Rattle.bus.specs.declared.Deed.{Deed}
use Rattle.bus.specs.declared.Guarded.{Guarded}
use Rattle.bus.specs.declared.Hearing.{Hearing}
use Rattle.bus.specs.declared.Held.{Held}
use Rattle.bus.specs.declared.Moved.{Moved}
use Rattle.bus.specs.declared.Next.{Next}
use Rattle.bus.specs.declared.Question.{Question}
use Rattle.bus.specs.declared.Sending.{Sending}
use Rattle.bus.specs.declared.Stage.{Stage}
use Rattle.bus.specs.Bus.{gathering, listens}
use Rattle.memory.specs.Hear.{command_stage, address_heard, after_data, confirmed, heard_whole, heard_bit}
use Rattle.field.specs.Field.{guarded, after_reading, after_controlling, as_held, to_the_end, copies, judged, gathered_bit, field_question, field_asks}
use Rattle.memory.specs.Send.{first_byte, after_pad, after_memory, after_page, after_crc, sent_whole, outgoing, sent_bit, alternating, send_asks}
use Rattle.memory.specs.Memory.{asks, stage_asks, stage_slot, on_line, slot_of}
use Rattle.memory.specs.Phases.{is_page, sends_memory, reading, confirms, writing, opened, lets_read, lets_write, lets, takes, is_byte}

-- ---- which stages follow a whole byte or field

-- a stage that no password led to
abbrev Shut : Stage → Type 0
Shut stage = opened stage ≡ false

pub shut_reading : (k : Stage) → opened k ≡ false → reading k ≡ false
shut_reading k h = (neither (reading k) (writing k) h).0

pub shut_writing : (k : Stage) → opened k ≡ false → writing k ≡ false
shut_writing k h = (neither (reading k) (writing k) h).1

command_shut : (byte : ℕ) → Shut (command_stage byte)
unfolding reading writing sends_memory confirms guarded
command_shut byte = command_cases Shut byte refl refl refl refl (λ control g. refl) refl refl

heard_shut : (h : Hearing) (held : Held) (bus : Bus) (byte : ℕ) → Shut (heard_whole h held bus byte).bus.stage
unfolding heard_whole address_heard after_data confirmed reading writing sends_memory confirms is_page
heard_shut Hearing.Command held bus byte = command_shut byte
heard_shut (Hearing.Low a) held bus byte = refl
heard_shut (Hearing.High Addressed.Write) held bus byte = refl
heard_shut (Hearing.High Addressed.Copy) held bus byte = refl
heard_shut (Hearing.High Addressed.Read) held bus byte = refl
heard_shut (Hearing.Data place) held bus byte = choice Shut (ltb place 31) refl refl
heard_shut Hearing.Status held bus byte = refl
heard_shut (Hearing.Confirm control) held bus byte = refl

heard_reading : (h : Hearing) (held : Held) (bus : Bus) (byte : ℕ) → reading (heard_whole h held bus byte).bus.stage ≡ false
heard_reading h held bus byte = shut_reading _ (heard_shut h held bus byte)

heard_writing : (h : Hearing) (held : Held) (bus : Bus) (byte : ℕ) → writing (heard_whole h held bus byte).bus.stage ≡ false
heard_writing h held bus byte = shut_writing _ (heard_shut h held bus byte)

-- a password field that is not let pass
judged_reading : (g : Guarded) (held : Held) (bus : Bus) (field answer : ℕ) →
    lets_read (field_question g bus field) answer ≡ false → reading (judged g held bus (eqb answer 1)).bus.stage ≡ false
unfolding lets_read judged after_reading after_controlling reading sends_memory
judged_reading Guarded.Reading held bus field answer h = simp (h, and-false)
judged_reading Guarded.Copying held bus field answer h =
    choice (λ (m : Moved). reading m.bus.stage ≡ false) (copies held bus (eqb answer 1)) refl refl
judged_reading (Guarded.Controlling control) held bus field answer h =
    choice (λ (k : Stage). reading k ≡ false) (eqb answer 1) refl refl

pub copies_not : (held : Held) (bus : Bus) → copies held bus false ≡ false
unfolding copies
copies_not held bus = and-false (as_held held bus && to_the_end held)

judged_writing : (g : Guarded) (held : Held) (bus : Bus) (field answer : ℕ) →
    lets_write (field_question g bus field) answer ≡ false → writing (judged g held bus (eqb answer 1)).bus.stage ≡ false
unfolding lets_write judged after_reading after_controlling writing confirms
judged_writing Guarded.Reading held bus field answer h =
    choice (λ (k : Stage). writing k ≡ false) (ltb bus.address 0x3000 && eqb answer 1) refl refl
judged_writing Guarded.Copying held bus field answer h = simp (h, copies_not)
judged_writing (Guarded.Controlling control) held bus field answer h = simp h

-- a byte that has gone out
sent_reading : (s : Sending) (held : Held) (bus : Bus) (byte : ℕ) → sends_memory s ≡ false → reading (sent_whole s held bus byte).stage ≡ false
unfolding sent_whole after_pad after_crc reading sends_memory is_page
sent_reading Sending.PadLow held bus byte h = refl
sent_reading Sending.PadHigh held bus byte h = refl
sent_reading Sending.PadStatus held bus byte h = refl
sent_reading (Sending.PadData place) held bus byte h = choice (λ (s : Sending). sends_memory s ≡ false) (ltb place 31) refl refl
sent_reading Sending.Memory held bus byte h = cc
sent_reading (Sending.CrcLow next) held bus byte h = h
sent_reading (Sending.CrcHigh Next.Nothing) held bus byte h = refl
sent_reading (Sending.CrcHigh Next.Page) held bus byte h = cc

sent_writing : (s : Sending) (held : Held) (bus : Bus) (byte : ℕ) → writing (sent_whole s held bus byte).stage ≡ false
unfolding sent_whole after_pad after_memory after_page after_crc writing
sent_writing Sending.PadLow held bus byte = refl
sent_writing Sending.PadHigh held bus byte = refl
sent_writing Sending.PadStatus held bus byte = refl
sent_writing (Sending.PadData place) held bus byte = refl
sent_writing Sending.Memory held bus byte = choice (λ (b : Bus). writing b.stage ≡ false) (ltb (bus.address % 32) 31) refl refl
sent_writing (Sending.CrcLow next) held bus byte = refl
sent_writing (Sending.CrcHigh Next.Nothing) held bus byte = refl
sent_writing (Sending.CrcHigh Next.Page) held bus byte = choice (λ (b : Bus). writing b.stage ≡ false) (ltb bus.address 0x2FFF) refl refl

-- ---- one slot

-- Read Memory sends only after a field that may read
abbrev Unread : Moved → Type 0
Unread moved = reading moved.bus.stage ≡ false

pub reading_after : (held : Held) (bus : Bus) (bit : Bool) (answer : ℕ) →
    reading bus.stage ≡ false → lets_read (asks bus bit) answer ≡ false → reading (slot_of held bus bit answer).bus.stage ≡ false
unfolding asks stage_asks slot_of on_line stage_slot heard_bit field_asks gathered_bit sent_bit alternating reading
reading_after held bus bit answer h = at bus.stage h
  where
    at : (k : Stage) → reading k ≡ false → lets_read (stage_asks k bus bit) answer ≡ false → Unread (stage_slot k held bus bit answer)
    at Stage.Over k unread = h
    at (Stage.Hears hearing) k unread = choice Unread (ltb bus.at 7) h (heard_reading hearing held bus _)
    at (Stage.Gathers g) k unread =
        choices (λ (q : Question) (m : Moved). lets_read q answer ≡ false → Unread m) (ltb bus.at 63) (λ e. h) (judged_reading g held bus _ answer) unread
    at (Stage.Sends s) k unread = choice (λ (b : Bus). reading b.stage ≡ false) (ltb bus.at 7) h (sent_reading s held bus _ k)
    at Stage.Copied k unread = choice Unread (eqb bus.at 0) h h

-- a Copy is done, and a Clear, Start or Stop waits for FFh, only after a field that may write
abbrev Unwritten : Moved → Type 0
Unwritten moved = writing moved.bus.stage ≡ false

pub writing_after : (held : Held) (bus : Bus) (bit : Bool) (answer : ℕ) →
    writing bus.stage ≡ false → lets_write (asks bus bit) answer ≡ false → writing (slot_of held bus bit answer).bus.stage ≡ false
unfolding asks stage_asks slot_of on_line stage_slot heard_bit field_asks gathered_bit sent_bit alternating
writing_after held bus bit answer h = at bus.stage
  where
    at : (k : Stage) → lets_write (stage_asks k bus bit) answer ≡ false → Unwritten (stage_slot k held bus bit answer)
    at Stage.Over unwritten = h
    at (Stage.Hears hearing) unwritten = choice Unwritten (ltb bus.at 7) h (heard_writing hearing held bus _)
    at (Stage.Gathers g) unwritten =
        choices (λ (q : Question) (m : Moved). lets_write q answer ≡ false → Unwritten m) (ltb bus.at 63) (λ e. h) (judged_writing g held bus _ answer) unwritten
    at (Stage.Sends s) unwritten = choice (λ (b : Bus). writing b.stage ≡ false) (ltb bus.at 7) h (sent_writing s held bus _)
    at Stage.Copied unwritten = choice Unwritten (eqb bus.at 0) h h

-- a byte of memory is asked for only while Read Memory sends
pub byte_asked : (bus : Bus) (bit : Bool) → reading bus.stage ≡ false → is_byte (asks bus bit) ≡ false
unfolding asks stage_asks field_asks send_asks is_byte reading sends_memory
byte_asked bus bit = at bus.stage
  where
    asked : (g : Guarded) (field : ℕ) → is_byte (field_question g bus field) ≡ false
    asked Guarded.Reading field = refl
    asked Guarded.Copying field = refl
    asked (Guarded.Controlling control) field = refl

    sent : (s : Sending) → sends_memory s ≡ false → is_byte (send_asks s bus) ≡ false
    sent Sending.Memory h = cc
    sent Sending.PadLow h = refl
    sent Sending.PadHigh h = refl
    sent Sending.PadStatus h = refl
    sent (Sending.PadData place) h = refl
    sent (Sending.CrcLow next) h = refl
    sent (Sending.CrcHigh next) h = refl

    at : (k : Stage) → reading k ≡ false → is_byte (stage_asks k bus bit) ≡ false
    at Stage.Over h = refl
    at (Stage.Hears hearing) h = refl
    at (Stage.Gathers g) h = choice (λ (q : Question). is_byte q ≡ false) (ltb bus.at 63) refl (asked g _)
    at (Stage.Sends s) h = sent s h
    at Stage.Copied h = refl

-- ---- the answer

-- a byte that goes out and is not the memory's
own_byte : (s : Sending) (held : Held) (bus : Bus) (a b : ℕ) → takes (send_asks s bus) a ≡ takes (send_asks s bus) b → outgoing s held bus a ≡ outgoing s held bus b
unfolding takes send_asks outgoing first_byte
own_byte Sending.PadLow held bus a b h = refl
own_byte Sending.PadHigh held bus a b h = refl
own_byte Sending.PadStatus held bus a b h = refl
own_byte (Sending.PadData place) held bus a b h = refl
own_byte (Sending.CrcLow next) held bus a b h = refl
own_byte (Sending.CrcHigh next) held bus a b h = refl
own_byte Sending.Memory held bus a b h = by (eqb bus.at 0) h
  where
    by : (first : Bool) → takes (if first then Question.Byte bus.address else Question.Nothing) a ≡ takes (if first then Question.Byte bus.address else Question.Nothing) b →
        (if first then a else bus.byte) ≡ (if first then b else bus.byte)
    by true h = h
    by false h = refl

may_taken : (g : Guarded) (bus : Bus) (field a b : ℕ) → takes (field_question g bus field) a ≡ takes (field_question g bus field) b → eqb a 1 ≡ eqb b 1
unfolding takes
may_taken Guarded.Reading bus field a b h = digit_same _ _ h
may_taken Guarded.Copying bus field a b h = digit_same _ _ h
may_taken (Guarded.Controlling control) bus field a b h = digit_same _ _ h

gathered_agree : (g : Guarded) (held : Held) (bus : Bus) (bit : Bool) (a b : ℕ) →
    takes (field_asks g bus bit) a ≡ takes (field_asks g bus bit) b → gathered_bit g held bus bit (eqb a 1) ≡ gathered_bit g held bus bit (eqb b 1)
unfolding field_asks gathered_bit
gathered_agree g held bus bit a b h = by (ltb bus.at 63) h
  where
    field : ℕ
    field = shift_in 64 bus.field bit

    on : Moved
    on = listens held (gathering bus field (bus.at + 1)) Deed.Nothing

    by :
        (more : Bool) →
        takes (if more then Question.Nothing else field_question g bus field) a ≡ takes (if more then Question.Nothing else field_question g bus field) b →
        (if more then on else judged g held bus (eqb a 1)) ≡ (if more then on else judged g held bus (eqb b 1))
    by true h = refl
    by false h = ap (judged g held bus) (may_taken g bus field a b h)

-- a slot depends on the answer only through what its question takes of it: not at all where nothing is asked
pub slots_agree : (held : Held) (bus : Bus) (bit : Bool) (a b : ℕ) → takes (asks bus bit) a ≡ takes (asks bus bit) b → slot_of held bus bit a ≡ slot_of held bus bit b
unfolding asks stage_asks slot_of stage_slot sent_bit
slots_agree held bus bit a b h = ap (on_line bit) (at bus.stage h)
  where
    at : (k : Stage) → takes (stage_asks k bus bit) a ≡ takes (stage_asks k bus bit) b → stage_slot k held bus bit a ≡ stage_slot k held bus bit b
    at Stage.Over h = refl
    at (Stage.Hears hearing) h = refl
    at (Stage.Gathers g) h = gathered_agree g held bus bit a b h
    at (Stage.Sends s) h = simp (own_byte s held bus a b h)
    at Stage.Copied h = refl

-- ---- the two together, for a tag that gets no password

pub shut_after : (held : Held) (bus : Bus) (bit : Bool) (answer : ℕ) →
    opened bus.stage ≡ false → lets (asks bus bit) answer ≡ false → opened (slot_of held bus bit answer).bus.stage ≡ false
shut_after held bus bit answer shut unlet =
    let none = neither (lets_read (asks bus bit) answer) (lets_write (asks bus bit) answer) unlet in
    rw (reading_after held bus bit answer (shut_reading _ shut) none.0, writing_after held bus bit answer (shut_writing _ shut) none.1)

-- what is taken of two answers that let nothing pass is the same, if no byte is asked for
pub unlet_taken : (question : Question) (a b : ℕ) → is_byte question ≡ false → lets question a ≡ false → lets question b ≡ false → takes question a ≡ takes question b
unfolding is_byte lets_read lets_write takes
unlet_taken Question.Nothing a b h p q = refl
unlet_taken Question.Alarm a b h p q = refl
unlet_taken (Question.MayRead field) a b h p q = ap digit ((neither (eqb a 1) false p).0 ∙ sym (neither (eqb b 1) false q).0)
unlet_taken (Question.MayCopy field address) a b h p q = ap digit (p ∙ sym q)
unlet_taken (Question.MayControl field) a b h p q = ap digit (p ∙ sym q)
unlet_taken (Question.Byte address) a b h p q = cc

-- two tags that stand alike, and get no password, move alike whatever their images hold
pub shut_agree : (held : Held) (bus : Bus) (bit : Bool) (a b : ℕ) →
    opened bus.stage ≡ false → lets (asks bus bit) a ≡ false → lets (asks bus bit) b ≡ false → slot_of held bus bit a ≡ slot_of held bus bit b
shut_agree held bus bit a b shut p q =
    slots_agree held bus bit a b (unlet_taken (asks bus bit) a b (byte_asked bus bit (shut_reading _ shut)) p q)

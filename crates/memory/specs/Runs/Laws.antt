-- What eight slots of a byte and 64 of a password field come to, by induction on the bits that are left. Assumes nothing.
use Rattle.std.specs.Prelude.{◌≡◌, refl, Bool, ◌&&◌, ℕ, suc, ◌+◌, ◌/◌, ◌^◌, ◌<◌, eqb, length, replicate}
use Rattle.std.proofs.Common.{ap, ◌∙◌, div-one, arith}
use mathlib.Core.List.{List, [], ◌∷◌, ◌++◌, zip_with}
use Rattle.bits.specs.Bits.{bit_of, bits_of, shift_in, shift_all, released}
use Rattle.bits.specs.Bits.Laws.{length_bits, heard_whole_lem, bits_from_lem}
use Rattle.bus.specs.declared.Bus.{Bus}
use Rattle.bus.specs.declared.Deed.{Deed}
use Rattle.bus.specs.declared.Guarded.{Guarded}
use Rattle.bus.specs.declared.Hearing.{Hearing}
use Rattle.bus.specs.declared.Held.{Held}
use Rattle.bus.specs.declared.Moved.{Moved}
use Rattle.bus.specs.declared.Question.{Question}
use Rattle.bus.specs.declared.Sending.{Sending}
use Rattle.bus.specs.declared.Stage.{Stage}
use Rattle.bus.specs.Bus.{passing, gathering, listens}
use Rattle.memory.specs.Hear.{under_way, heard_whole}
use Rattle.field.specs.Field.{judged, field_question}
use Rattle.memory.specs.Send.{sent_whole, first_byte, send_asks}
use Rattle.memory.specs.Memory.{asks, stage_asks, slot_of}
use Rattle.memory.specs.Memory.Laws.{asks_at, heard_as, whole_begun, heard_more, heard_last, judged_gathered, question_gathered, field_asks_more, field_asks_last, gathered_more, gathered_last, outgoing_kept, outgoing_first, sending_asks_nothing, sent_begun, sent_more, sent_last}
use Rattle.memory.specs.Runs.{Ran, run, follows}

-- ---- joining runs

-- one slot that asks and leaves this
abbrev one : Question → Moved → Ran
one question moved =
    record { held = moved.held; bus = moved.bus; line = moved.line ∷ []; asked = question ∷ []; deeds = moved.deed ∷ [] }

pub run_cons : (image : Question → ℕ) (held : Held) (bus : Bus) (bit : Bool) (bits : List Bool) {question : Question} {moved : Moved} →
    asks bus bit ≡ question → slot_of held bus bit (image question) ≡ moved →
    run image held bus (bit ∷ bits) ≡ follows (one question moved) (run image moved.held moved.bus bits)
unfolding run
run_cons image held bus bit bits e f = rw (e, f)

pub run_append : (image : Question → ℕ) (held : Held) (bus : Bus) (bits more : List Bool) →
    run image held bus (bits ++ more) ≡
    follows (run image held bus bits) (run image (run image held bus bits).held (run image held bus bits).bus more)
unfolding run
run_append image held bus [] more = refl
run_append image held bus (bit ∷ bits) more =
    let moved = slot_of held bus bit (image (asks bus bit)) in
    ap (follows (one (asks bus bit) moved)) (run_append image moved.held moved.bus bits more)

-- ---- a byte that is heard, and a password field

-- n slots that ask nothing and do nothing, and a last one that asks and does this
abbrev pub lastly : ℕ → Question → Moved → List Bool → Ran
lastly n question moved line =
    record {
      held = moved.held;
      bus = moved.bus;
      line = line;
      asked = replicate n Question.Nothing ++ (question ∷ []);
      deeds = replicate n Deed.Nothing ++ (moved.deed ∷ []);
    }

-- a field's last slot, with n before it
abbrev field_run : (Question → ℕ) → Guarded → Held → Bus → ℕ → ℕ → List Bool → Ran
field_run image g held bus n field line =
    lastly n (field_question g bus field) (judged g held bus (eqb (image (field_question g bus field)) 1)) line

heard_run : (image : Question → ℕ) (h : Hearing) (held : Held) (bus : Bus) (bit : Bool) (bits : List Bool) → bus.stage ≡ Stage.Hears h → bus.at + length bits ≡ 7 →
    run image held bus (bit ∷ bits) ≡ lastly (length bits) Question.Nothing (heard_whole h held bus (shift_all 8 bus.byte (bit ∷ bits))) (bit ∷ bits)
unfolding run shift_all stage_asks
heard_run image h held bus bit [] e n =
    run_cons image held bus bit [] (asks_at bus bit e) (heard_last h held bus bit _ e (omega arith))
heard_run image h held bus bit (b ∷ bs) e n =
    let heard = shift_in 8 bus.byte bit in
    run_cons image held bus bit (b ∷ bs) (asks_at bus bit e) (heard_more h held bus bit _ e (omega arith)) ∙
    ap (follows (one Question.Nothing (heard_as bit (listens held bus Deed.Nothing))))
    (heard_run image h (under_way h held) (passing bus heard (bus.at + 1)) b bs e (omega arith) ∙
    ap (λ (m : Moved). lastly (length bs) Question.Nothing m (b ∷ bs)) (whole_begun h held bus heard (bus.at + 1) (shift_all 8 heard (b ∷ bs))))

-- the eight slots of a byte: it is heard whole, in the last one
pub run_heard : (image : Question → ℕ) (h : Hearing) (held : Held) (bus : Bus) (byte : ℕ) → bus.stage ≡ Stage.Hears h → bus.at ≡ 0 → bus.byte < 256 → byte < 256 →
    run image held bus (bits_of 8 byte) ≡ lastly 7 Question.Nothing (heard_whole h held bus byte) (bits_of 8 byte)
unfolding bits_of
run_heard image h held bus byte e n under fits =
    heard_run image h held bus (bit_of byte 0) (bits_of 7 (byte / 2)) e (omega (arith, length_bits 7 (byte / 2))) ∙
    ap (λ (heard : ℕ). lastly 7 Question.Nothing (heard_whole h held bus heard) (bits_of 8 byte)) (heard_whole_lem 8 under fits)

gathered_run : (image : Question → ℕ) (g : Guarded) (held : Held) (bus : Bus) (bit : Bool) (bits : List Bool) → bus.stage ≡ Stage.Gathers g → bus.at + length bits ≡ 63 →
    run image held bus (bit ∷ bits) ≡ field_run image g held bus (length bits) (shift_all 64 bus.field (bit ∷ bits)) (bit ∷ bits)
unfolding run shift_all
gathered_run image g held bus bit [] e n =
    run_cons image held bus bit [] (field_asks_last g bus bit e (omega arith)) (gathered_last g held bus bit _ e (omega arith))
gathered_run image g held bus bit (b ∷ bs) e n =
    let next = gathering bus (shift_in 64 bus.field bit) (bus.at + 1) in
    run_cons image held bus bit (b ∷ bs) (field_asks_more g bus bit e (omega arith)) (gathered_more g held bus bit _ e (omega arith)) ∙
    ap (follows (one Question.Nothing (heard_as bit (listens held bus Deed.Nothing))))
    (gathered_run image g held next b bs e (omega arith) ∙ simp (judged_gathered, question_gathered))

-- the 64 slots of a password field: one question, in the last one, with the whole field
pub run_gathered : (image : Question → ℕ) (g : Guarded) (held : Held) (bus : Bus) (field : ℕ) → bus.stage ≡ Stage.Gathers g → bus.at ≡ 0 → bus.field < 2 ^ 64 → field < 2 ^ 64 →
    run image held bus (bits_of 64 field) ≡
    lastly 63 (field_question g bus field) (judged g held bus (eqb (image (field_question g bus field)) 1)) (bits_of 64 field)
unfolding bits_of
run_gathered image g held bus field e n under fits =
    gathered_run image g held bus (bit_of field 0) (bits_of 63 (field / 2)) e (omega (arith, length_bits 63 (field / 2))) ∙
    ap (λ (heard : ℕ). field_run image g held bus 63 heard (bits_of 64 field)) (heard_whole_lem 64 under fits)

-- ---- a byte that goes out

sent_run : (image : Question → ℕ) (s : Sending) (held : Held) (bus : Bus) (bit : Bool) (bits : List Bool) → bus.stage ≡ Stage.Sends s → 0 < bus.at → bus.at + length bits ≡ 7 →
    run image held bus (bit ∷ bits) ≡
    record {
      held = held;
      bus = sent_whole s held bus bus.byte;
      line = zip_with ◌&&◌ (bit ∷ bits) (bits_of (suc (length bits)) (bus.byte / 2 ^ bus.at));
      asked = replicate (suc (length bits)) Question.Nothing;
      deeds = replicate (suc (length bits)) Deed.Nothing;
    }
unfolding run zip_with
sent_run image s held bus bit [] e past n =
    rw (bits_from_lem 0 bus.byte bus.at)
    (run_cons image held bus bit [] (sending_asks_nothing s bus bit e past) (sent_last s held bus bit _ e (outgoing_kept s held bus _ past) (omega arith)))
sent_run image s held bus bit (b ∷ bs) e past n =
    let next = passing bus bus.byte (bus.at + 1) in
    rw (bits_from_lem (suc (length bs)) bus.byte bus.at)
    (run_cons image held bus bit (b ∷ bs) (sending_asks_nothing s bus bit e past) (sent_more s held bus bit _ e (outgoing_kept s held bus _ past) (omega arith)) ∙
    ap (follows (one Question.Nothing record { held = held; bus = bus; line = bit && bit_of bus.byte bus.at; deed = Deed.Nothing }))
    (sent_run image s held next b bs e (omega arith) (omega arith) ∙ simp sent_begun))

-- a byte goes out, and only its first slot asks for something
abbrev pub sends : Question → Held → Bus → List Bool → Ran
sends question held bus line =
    record {
      held = held;
      bus = bus;
      line = line;
      asked = question ∷ replicate 7 Question.Nothing;
      deeds = replicate 8 Deed.Nothing;
    }

-- a byte's line bits, the first of them taken apart
first_bit : (byte at : ℕ) (bit : Bool) (bits : List Bool) → at ≡ 0 → length bits ≡ 7 →
    (bit && bit_of byte at) ∷ zip_with ◌&&◌ bits (bits_of (length bits) (byte / 2 ^ (at + 1))) ≡ zip_with ◌&&◌ (bit ∷ bits) (bits_of 8 byte)
unfolding zip_with
first_bit byte at bit bits e n =
    let whole : bits_of 8 byte ≡ bit_of byte 0 ∷ bits_of 7 (byte / 2 ^ 1) = rw div-one at (bits_from_lem 7 byte 0) in
    rw (e, n, whole)

-- eight slots, whatever the master does in them: the byte as it is in the first one
pub run_sent : (image : Question → ℕ) (s : Sending) (held : Held) (bus : Bus) (bits : List Bool) {byte : ℕ} → bus.stage ≡ Stage.Sends s → bus.at ≡ 0 → length bits ≡ 8 →
    first_byte s held bus (image (send_asks s bus)) ≡ byte →
    run image held bus bits ≡ sends (send_asks s bus) held (sent_whole s held bus byte) (zip_with ◌&&◌ bits (bits_of 8 byte))
unfolding stage_asks
run_sent image s held bus [] e n eight out = cc
run_sent image s held bus (bit ∷ []) e n eight out = cc
run_sent image s held bus (bit ∷ b ∷ bs) {byte} e n eight out =
    let next = passing bus byte (bus.at + 1) in
    let line = zip_with ◌&&◌ (b ∷ bs) (bits_of (suc (length bs)) (byte / 2 ^ (bus.at + 1))) in
    let left : length bs ≡ 6 = omega arith in
    run_cons image held bus bit (b ∷ bs) (asks_at bus bit e) (sent_more s held bus bit _ e (outgoing_first s held bus _ n ∙ out) (omega arith)) ∙
    ap (follows (one (send_asks s bus) record { held = held; bus = bus; line = bit && bit_of byte bus.at; deed = Deed.Nothing }))
    (sent_run image s held next b bs e (omega arith) (omega arith) ∙ simp (sent_begun, left)) ∙
    ap (sends (send_asks s bus) held (sent_whole s held bus byte)) (first_bit byte bus.at bit (b ∷ bs) n (omega arith))

zip_released : (l : List Bool) → zip_with ◌&&◌ (released (length l)) l ≡ l
unfolding zip_with
zip_released [] = refl
zip_released (bit ∷ bits) = ap (◌∷◌ bit) (zip_released bits)

-- eight slots with the line released: the line carries the byte
pub run_read : (image : Question → ℕ) (s : Sending) (held : Held) (bus : Bus) {byte : ℕ} → bus.stage ≡ Stage.Sends s → bus.at ≡ 0 →
    first_byte s held bus (image (send_asks s bus)) ≡ byte →
    run image held bus (released 8) ≡ sends (send_asks s bus) held (sent_whole s held bus byte) (bits_of 8 byte)
run_read image s held bus {byte} e n out =
    run_sent image s held bus (released 8) e n refl out ∙
    ap (sends (send_asks s bus) held (sent_whole s held bus byte)) (rw (length_bits 8 byte) at (zip_released (bits_of 8 byte)))

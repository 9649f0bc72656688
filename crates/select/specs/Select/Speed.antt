-- When the speed is set: by the slots of a whole 3Ch, or of a whole 69h with the number, and by no others; and that a slot sees nothing of
-- it (request #103). Assumes nothing.
use Rattle.std.specs.Prelude.{◌≡◌, refl, Bool, true, false, ◌&&◌, ◌||◌, List, [], ◌∷◌, ◌++◌, ◌⊎◌, ℕ, zero, suc, ◌+◌, ◌-◌, ◌/◌, ◌^◌, ◌<◌, ◌≤◌, ltb, eqb, T, length, take, drop, if◌then◌else◌}
use Rattle.std.proofs.Common.{sym, ap, ◌∙◌, inl, inr, ⊎_elim, div-one, arith, ltb-true, ltb-false, eqb-true, take-append-drop, length-take-le}
use Rattle.std.specs.Bool.{beq}
use Rattle.std.proofs.Math.Bool.{and-false, and-eq-true_iff}
use Rattle.std.proofs.lemmas.Bool.{false≢true}
use Rattle.std.proofs.Math.Logic.{dite}
use Rattle.std.proofs.Math.Decide.{dec_lt}
use Rattle.bits.specs.Choose.{either, choice, choices}
use Rattle.bits.specs.Bits.{bit_of, bits_of, number_of, shift_in, shift_all}
use Rattle.bits.specs.Bits.Laws.{length_bits, bits_number, number_lt, heard_whole_lem, no_bits, bits_from_lem}
use Rattle.bits.specs.Tests.{or_cases, beq_eq}
use Rattle.select.specs.Select.{mark_in, speed_in, mode_of, keeps, clears, rom_command, command_bit, following, read_bit, heard_bit, slot_at, slot_of, is_chosen, choosing_in_range}
use Rattle.select.specs.Select.Laws.{mark_of_lem, speed_of_lem, following_more, same_bit}
use Rattle.select.specs.declared.Choosing.{Choosing}
use Rattle.select.specs.declared.Choosing.TheVariants.{Silent, Command, Reading, Matching, Giving, Complementing, Awaiting, Selected}
use Rattle.select.specs.declared.Mode.{Mode}
use Rattle.select.specs.declared.Select.{Select}

-- ---- which slots set it

-- the bits begin with these
begins : List Bool → List Bool → Bool
begins [] bits = true
begins (b ∷ bs) [] = false
begins (b ∷ bs) (c ∷ cs) = beq b c && begins bs cs

-- a whole command byte, and then these slots
sets : ℕ → ℕ → List Bool → Bool
sets byte number bits = eqb byte 0x3C || (eqb byte 0x69 && begins (bits_of 64 number) bits)

-- so many bits of the command byte are still to come
comes : ℕ → ℕ → ℕ → List Bool → Bool
comes zero heard number bits = sets heard number bits
comes (suc left) heard number [] = false
comes (suc left) heard number (bit ∷ bits) = comes left (shift_in 8 heard bit) number bits

-- the slots with these bits, from where choosing stands
pub leads : Choosing → ℕ → List Bool → Bool
leads Silent number bits = false
leads (Command heard count) number bits = comes (8 - count) heard number bits
leads (Reading at) number bits = false
leads (Matching fast at) number bits = fast && begins (bits_of (64 - at) (number / 2 ^ at)) bits
leads (Giving at) number bits = false
leads (Complementing at) number bits = false
leads (Awaiting at) number bits = false
leads Selected number bits = false

-- ---- one slot

-- the speed is set, or will be by these slots
abbrev Fast : ℕ → List Bool → Bool → Select → Type 0
Fast number bits before next = before ≡ (leads next.choosing number bits || speed_in next.mode)

rom_leads : (byte : ℕ) (mode : Mode) (alarm : Bool) (number : ℕ) (bits : List Bool) →
    Fast number bits (sets byte number bits || speed_in mode) (rom_command byte mode alarm)
unfolding rom_command leads sets
rom_leads byte mode alarm number bits =
    let Q = Fast number bits (sets byte number bits || speed_in mode) in
    let K : Choosing → Type 0 = λ k. Q (clears (speed_in mode) k) in
    either Q (eqb byte 0x33) (λ e. rw (eqb-true byte 0x33 e, speed_of_lem))
    (λ e. either Q (eqb byte 0x55) (λ e. rw (eqb-true byte 0x55 e, speed_of_lem))
    (λ e. either Q (eqb byte 0x69) (λ e. rw (eqb-true byte 0x69 e, div-one, speed_of_lem))
    (λ match. either Q (eqb byte 0xF0) (λ e. rw (eqb-true byte 0xF0 e, speed_of_lem))
    (λ e. either Q (eqb byte 0xEC) (λ e. choice K alarm (rw (eqb-true byte 0xEC e, speed_of_lem)) (rw (eqb-true byte 0xEC e, speed_of_lem)))
    (λ e. either Q (eqb byte 0xCC) (λ e. rw (eqb-true byte 0xCC e, speed_of_lem))
    (λ e. either Q (eqb byte 0x3C) (λ e. rw (eqb-true byte 0x3C e, speed_of_lem))
    (λ skip. either Q (eqb byte 0xA5) (λ e. choice (λ (k : Choosing). Q (keeps mode k)) (mark_in mode) (rw (skip, match)) (rw (skip, match)))
    (λ e. rw (skip, match)))))))))

command_leads : (heard count : ℕ) (mode : Mode) (bit alarm : Bool) (number : ℕ) (bits : List Bool) → count < 8 →
    Fast number bits (comes (8 - count) heard number (bit ∷ bits) || speed_in mode) (command_bit heard count mode bit alarm)
unfolding command_bit leads comes
command_leads heard count mode bit alarm number bits h =
    let Q = Fast number bits (comes (8 - count) heard number (bit ∷ bits) || speed_in mode) in
    either Q (ltb count 7)
    (λ e.
    let low = ltb-true count 7 e in
    let more : 8 - count ≡ suc (8 - (count + 1)) = omega (arith, low) in
    rw more)
    (λ e.
    let high = ltb-false count 7 e in
    let last : 8 - count ≡ 1 = omega (arith, high) in
    rw last (rom_leads (shift_in 8 heard bit) mode alarm number bits))

or_same : (fast speed : Bool) → ((fast && true) || speed) ≡ (fast || speed)
or_same true speed = refl
or_same false speed = refl

and_none : (fast speed : Bool) → ((fast && false) || speed) ≡ speed
and_none true speed = refl
and_none false speed = refl

match_leads : (number at : ℕ) (fast bit : Bool) (mode : Mode) (bits : List Bool) → at < 64 →
    Fast number bits ((fast && begins (bits_of (64 - at) (number / 2 ^ at)) (bit ∷ bits)) || speed_in mode)
    (heard_bit number at bit (Matching fast (following at)) fast mode)
unfolding heard_bit leads begins
match_leads number at fast bit mode bits h =
    let own = bit_of number at in
    let left : 64 - at ≡ suc (63 - at) = omega arith in
    let Q = Fast number bits ((fast && (beq own bit && begins (bits_of (63 - at) (number / 2 ^ (at + 1))) bits)) || speed_in mode) in
    rw (left, bits_from_lem (63 - at) number at)
    (either Q (beq own bit)
    (λ right. either Q (ltb at 63)
    (λ e.
    let low = ltb-true at 63 e in
    let next : 64 - (at + 1) ≡ 63 - at = omega (arith, low) in
    rw (right, following_more at low, next))
    (λ e.
    let high = ltb-false at 63 e in
    let none : 63 - at ≡ 0 = omega (arith, high) in
    rw (right, none, no_bits, speed_of_lem) (or_same fast (speed_in mode))))
    (λ wrong. rw wrong (and_none fast (speed_in mode))))

-- a slot: what was to come has come, or is still to come
pub slot_leads : (select : Select) (number : ℕ) (bit alarm : Bool) (bits : List Bool) → choosing_in_range select.choosing ≡ true →
    Fast number bits (leads select.choosing number (bit ∷ bits) || speed_in select.mode) (slot_of select number bit alarm).select
unfolding slot_of slot_at read_bit heard_bit leads choosing_in_range
slot_leads select number bit alarm bits h = at select.choosing select.mode h
  where
    at : (k : Choosing) (mode : Mode) → choosing_in_range k ≡ true →
        Fast number bits (leads k number (bit ∷ bits) || speed_in mode) (slot_at k mode number bit alarm).select
    at Silent mode h = refl
    at (Command heard count) mode h = command_leads heard count mode bit alarm number bits (ltb-true count 8 h)
    at (Reading n) mode h = choice (λ (k : Choosing). Fast number bits (speed_in mode) (keeps mode k)) (ltb n 63) refl refl
    at (Matching fast n) mode h = match_leads number n fast bit mode bits (ltb-true n 64 h)
    at (Giving n) mode h = refl
    at (Complementing n) mode h = refl
    at (Awaiting n) mode h =
        let Q = Fast number bits (speed_in mode) in
        choice Q (beq (bit_of number n) bit) (choice Q (ltb n 63) refl (sym (speed_of_lem true (speed_in mode)))) refl
    at Selected mode h = refl

-- with no slot to come nothing sets it, nor do the slots of a silent tag or of a memory command
pub leads_none : (k : Choosing) (number : ℕ) → choosing_in_range k ≡ true → leads k number [] ≡ false
unfolding leads comes begins choosing_in_range bits_of
leads_none Silent number h = refl
leads_none (Command heard count) number h =
    let low = ltb-true count 8 h in
    let left : 8 - count ≡ suc (7 - count) = omega (arith, low) in rw left
leads_none (Reading at) number h = refl
leads_none (Matching fast at) number h =
    let low = ltb-true at 64 h in
    let left : 64 - at ≡ suc (63 - at) = omega (arith, low) in rw left (and-false fast)
leads_none (Giving at) number h = refl
leads_none (Complementing at) number h = refl
leads_none (Awaiting at) number h = refl
leads_none Selected number h = refl

pub leads_silent : (number : ℕ) (bits : List Bool) → leads Silent number bits ≡ false
unfolding leads
leads_silent number bits = refl

pub leads_chosen : (k : Choosing) (number : ℕ) (bits : List Bool) → is_chosen k ≡ true → leads k number bits ≡ false
unfolding leads is_chosen
leads_chosen Silent number bits h = refl
leads_chosen (Command heard count) number bits h = absurd (false≢true h)
leads_chosen (Reading at) number bits h = refl
leads_chosen (Matching fast at) number bits h = absurd (false≢true h)
leads_chosen (Giving at) number bits h = refl
leads_chosen (Complementing at) number bits h = refl
leads_chosen (Awaiting at) number bits h = refl
leads_chosen Selected number bits h = refl

-- ---- from a reset on

-- bits begin with these exactly if they are these and more
begins_more : (first bits : List Bool) → begins first bits ≡ true → (rest : List Bool) × (bits ≡ first ++ rest)
unfolding begins
begins_more [] bits h = (bits, refl)
begins_more (b ∷ bs) [] h = absurd (false≢true h)
begins_more (b ∷ bs) (c ∷ cs) h =
    let both = (and-eq-true_iff (beq b c) (begins bs cs)).0 h in
    let rest = begins_more bs cs both.1 in
    let same : c ≡ b = sym (beq_eq b c (rw both.0 tt)) in
    (rest.0, λ i. same i ∷ rest.1 i)

begins_own : (first rest : List Bool) → begins first (first ++ rest) ≡ true
unfolding begins
begins_own [] rest = refl
begins_own (b ∷ bs) rest = rw (same_bit b, begins_own bs rest)

-- a command byte that is not whole, and one that is
comes_short : (left heard number : ℕ) (bits : List Bool) → length bits < left → comes left heard number bits ≡ false
unfolding comes
comes_short zero heard number bits h = absurd (omega arith)
comes_short (suc left) heard number [] h = refl
comes_short (suc left) heard number (bit ∷ bits) h = comes_short left (shift_in 8 heard bit) number bits (omega arith)

comes_whole : (byte : List Bool) (heard number : ℕ) (bits : List Bool) →
    comes (length byte) heard number (byte ++ bits) ≡ sets (shift_all 8 heard byte) number bits
unfolding comes shift_all
comes_whole [] heard number bits = refl
comes_whole (bit ∷ byte) heard number bits = comes_whole byte (shift_in 8 heard bit) number bits

-- a byte's slots, and more
byte_leads : (number byte : ℕ) (bits : List Bool) → byte < 256 → leads (Command 0 0) number (bits_of 8 byte ++ bits) ≡ sets byte number bits
unfolding leads
byte_leads number byte bits fits =
    ap (λ (n : ℕ). comes n 0 number (bits_of 8 byte ++ bits)) (sym (length_bits 8 byte))
    ∙ comes_whole (bits_of 8 byte) 0 number bits
    ∙ ap (λ (n : ℕ). sets n number bits) (heard_whole_lem 8 (omega arith) fits)

-- eight bits are a byte's
byte_of : (bits : List Bool) → 8 ≤ length bits → (byte : ℕ) × (byte < 256) × (bits ≡ bits_of 8 byte ++ drop 8 bits)
byte_of bits long =
    let eight : length (take 8 bits) ≡ 8 = length-take-le 8 bits long in
    let byte = number_of (take 8 bits) in
    let same : bits_of 8 byte ≡ take 8 bits = rw eight at (bits_number (take 8 bits)) in
    (byte, rw eight at (number_lt (take 8 bits)), sym (ap (λ (first : List Bool). first ++ drop 8 bits) same ∙ take-append-drop 8 bits))

-- after a reset these slots set the speed exactly if they begin with 3Ch, or with 69h and the number
pub leads_by : (number : ℕ) (bits : List Bool) → leads (Command 0 0) number bits ≡ true →
    ((rest : List Bool) × (bits ≡ bits_of 8 0x3C ++ rest)) ⊎ ((rest : List Bool) × (bits ≡ bits_of 8 0x69 ++ (bits_of 64 number ++ rest)))
unfolding leads sets
leads_by number bits h =
    dite (dec_lt (length bits) 8) (λ short. absurd (false≢true (sym (comes_short 8 0 number bits short) ∙ h)))
    (λ long.
    let first = byte_of bits (omega (arith, long)) in
    let byte = first.0 in
    let rest = drop 8 bits in
    let set : sets byte number rest ≡ true =
    sym (byte_leads number byte rest first.1) ∙ ap (leads (Command 0 0) number) (sym first.2) ∙ h in
    ⊎_elim
    (λ skip. inl (rest, first.2 ∙ ap (λ (n : ℕ). bits_of 8 n ++ rest) (eqb-true byte 0x3C (true_of _ skip))))
    (λ match.
    let both = (and-eq-true_iff (eqb byte 0x69) (begins (bits_of 64 number) rest)).0 (true_of _ match) in
    let more = begins_more (bits_of 64 number) rest both.1 in
    inr (more.0, first.2 ∙ ap (λ (n : ℕ). bits_of 8 n ++ rest) (eqb-true byte 0x69 both.0) ∙ ap (◌++◌ (bits_of 8 0x69)) more.1))
    (or_cases (eqb byte 0x3C) (eqb byte 0x69 && begins (bits_of 64 number) rest) (rw set tt)))
  where
    true_of : (b : Bool) → T b → b ≡ true
    true_of true t = refl
    true_of false t = absurd t

pub skip_leads : (number : ℕ) (rest : List Bool) → leads (Command 0 0) number (bits_of 8 0x3C ++ rest) ≡ true
unfolding sets
skip_leads number rest = byte_leads number 0x3C rest (omega arith)

pub match_sets : (number : ℕ) (rest : List Bool) → leads (Command 0 0) number (bits_of 8 0x69 ++ (bits_of 64 number ++ rest)) ≡ true
unfolding sets
match_sets number rest = byte_leads number 0x69 (bits_of 64 number ++ rest) (omega arith) ∙ begins_own (bits_of 64 number) rest

-- ---- what a slot sees of it

-- the mode at another speed
abbrev pub at_speed : Bool → Mode → Mode
at_speed speed mode = mode_of (mark_in mode) speed

-- choosing stands in the same place, with the same mark
abbrev SameBut : Select → Select → Type 0
SameBut a b = (a.choosing ≡ b.choosing) × (mark_in a.mode ≡ mark_in b.mode)

-- a mode at another speed has the same mark, and so have two that are made with one
kept_same : (mode : Mode) (speed : Bool) (k : Choosing) → SameBut (keeps mode k) (keeps (at_speed speed mode) k)
kept_same mode speed k = (refl, sym (mark_of_lem (mark_in mode) speed))

made_same : (mark a b : Bool) (k : Choosing) → SameBut (keeps (mode_of mark a) k) (keeps (mode_of mark b) k)
made_same mark a b k = (refl, mark_of_lem mark a ∙ sym (mark_of_lem mark b))

rom_same : (byte : ℕ) (mode : Mode) (speed alarm : Bool) → SameBut (rom_command byte mode alarm) (rom_command byte (at_speed speed mode) alarm)
unfolding rom_command
rom_same byte mode speed alarm =
    choices SameBut (eqb byte 0x33) (cleared _)
    (choices SameBut (eqb byte 0x55) (cleared _)
    (choices SameBut (eqb byte 0x69) (cleared _)
    (choices SameBut (eqb byte 0xF0) (cleared _)
    (choices SameBut (eqb byte 0xEC) (cleared _)
    (choices SameBut (eqb byte 0xCC) (cleared _)
    (choices SameBut (eqb byte 0x3C) (made_same false true true Selected)
    (choices SameBut (eqb byte 0xA5) resumed (kept_same mode speed Silent))))))))
  where
    same : mark_in mode ≡ mark_in (at_speed speed mode)
    same = sym (mark_of_lem (mark_in mode) speed)

    cleared : (k : Choosing) → SameBut (clears (speed_in mode) k) (clears (speed_in (at_speed speed mode)) k)
    cleared k = made_same false (speed_in mode) (speed_in (at_speed speed mode)) k

    resumed : SameBut (keeps mode (if mark_in mode then Selected else Silent))
        (keeps (at_speed speed mode) (if mark_in (at_speed speed mode) then Selected else Silent))
    resumed = (ap (λ (mark : Bool). if mark then Selected else Silent) same, same)

command_same : (heard count : ℕ) (mode : Mode) (speed bit alarm : Bool) →
    SameBut (command_bit heard count mode bit alarm) (command_bit heard count (at_speed speed mode) bit alarm)
unfolding command_bit
command_same heard count mode speed bit alarm =
    choices SameBut (ltb count 7) (kept_same mode speed _) (rom_same (shift_in 8 heard bit) mode speed alarm)

heard_same : (number at : ℕ) (bit : Bool) (next : Choosing) (fast : Bool) (mode : Mode) (speed : Bool) →
    SameBut (heard_bit number at bit next fast mode) (heard_bit number at bit next fast (at_speed speed mode))
unfolding heard_bit
heard_same number at bit next fast mode speed =
    choices SameBut (beq (bit_of number at) bit)
    (choices SameBut (ltb at 63) (kept_same mode speed next) (made_same true (fast || speed_in mode) (fast || speed_in (at_speed speed mode)) Selected))
    (kept_same mode speed Silent)

-- at another speed a slot gives the same bit, and leaves all but the speed the same
pub slot_same : (select : Select) (speed : Bool) (number : ℕ) (bit alarm : Bool) →
    let c = slot_of select number bit alarm in
    let d = slot_of (keeps (at_speed speed select.mode) select.choosing) number bit alarm in
    (c.line ≡ d.line) × SameBut c.select d.select
unfolding slot_of slot_at read_bit
slot_same select speed number bit alarm = at select.choosing select.mode
  where
    at : (k : Choosing) (mode : Mode) →
        let c = slot_at k mode number bit alarm in
        let d = slot_at k (at_speed speed mode) number bit alarm in
        (c.line ≡ d.line) × SameBut c.select d.select
    at Silent mode = (refl, kept_same mode speed _)
    at (Command heard count) mode = (refl, command_same heard count mode speed bit alarm)
    at (Reading n) mode = (refl, kept_same mode speed _)
    at (Matching fast n) mode = (refl, heard_same number n bit (Matching fast (following n)) fast mode speed)
    at (Giving n) mode = (refl, kept_same mode speed _)
    at (Complementing n) mode = (refl, kept_same mode speed _)
    at (Awaiting n) mode = (refl, heard_same number n bit (Giving (following n)) false mode speed)
    at Selected mode = (refl, kept_same mode speed _)

-- Slots that never choose a tag: after a long reset those of a Match with another number, whole or broken off, and those of Resume without
-- the mark. So they are read off the slots to come, whatever ticks and short resets come between them. Assumes nothing.
use Rattle.std.specs.Prelude.{◌≡◌, refl, Bool, true, false, List, [], ◌∷◌, ◌++◌, ◌≢◌, ◌⊎◌, ℕ, suc, ◌+◌, ◌-◌, ◌/◌, ◌^◌, ◌<◌, length, get_or, drop}
use Rattle.std.proofs.Common.{sym, ap, subst, ◌∙◌, ⊎_elim, div-one, arith, ltb-true}
use Rattle.std.specs.Bool.{beq}
use Rattle.std.proofs.lemmas.Bool.{false≢true}
use Rattle.std.proofs.Math.Logic.{dite}
use Rattle.std.proofs.Math.Decide.{dec_lt}
use Rattle.bits.specs.Bits.{bit_of, bits_of, shift_in, shift_all}
use Rattle.bits.specs.Bits.Laws.{no_bits, bits_from_lem}
use Rattle.select.specs.declared.Choosing.{Choosing}
use Rattle.select.specs.declared.Choosing.TheVariants.{Silent, Command, Matching, Selected}
use Rattle.select.specs.declared.Mode.{Mode}
use Rattle.select.specs.declared.Select.{Select}
use Rattle.select.specs.Select.{mark_in, speed_in, mode_of, rom_command, following, heard_bit, slot_at, slot_of, is_chosen, choosing_in_range}
use Rattle.select.specs.Select.Laws.{command_more, command_last, following_more, heard_right_more, heard_wrong}
use Rattle.promises.specs.Overdrive.{Starts}

-- a whole command byte after which these slots choose no tag with this number: Match without the whole of it, or Resume without the mark
abbrev pub Passes : ℕ → Mode → ℕ → List Bool → Type 0
Passes number mode byte bits =
    (((byte ≡ 0x55) ⊎ (byte ≡ 0x69)) × (Starts (bits_of 64 number) bits → ⊥)) ⊎ ((byte ≡ 0xA5) × (mode ≡ Mode.Plain))

-- where choosing stands, at standard speed, such slots are to come. `Plain` has no mark
pub data Away (number : ℕ) (mode : Mode) : Choosing → List Bool → Type 0 where
  command : (heard count : ℕ) (bits first rest : List Bool) → speed_in mode ≡ false → bits ≡ first ++ rest → count + length first ≡ 8 →
      Passes number mode (shift_all 8 heard first) rest → Away number mode (Command heard count) bits
  matching : (fast : Bool) (at : ℕ) (bits : List Bool) → mode ≡ Mode.Plain → at < 64 → (Starts (bits_of (64 - at) (number / 2 ^ at)) bits → ⊥) →
      Away number mode (Matching fast at) bits
  silent : (bits : List Bool) → mode ≡ Mode.Plain → Away number mode Silent bits

-- the tag is not chosen there
pub away_unchosen : {number : ℕ} {mode : Mode} {k : Choosing} {bits : List Bool} → Away number mode k bits → k ≢ Selected
unfolding is_chosen
away_unchosen (Away.command heard count bits first rest slow split whole passes) e = false≢true (ap is_chosen e)
away_unchosen (Away.matching fast at bits plain low other) e = false≢true (ap is_chosen e)
away_unchosen (Away.silent bits plain) e = false≢true (ap is_chosen e)

-- nor at overdrive
pub away_slow : {number : ℕ} {mode : Mode} {k : Choosing} {bits : List Bool} → Away number mode k bits → speed_in mode ≡ false
unfolding speed_in
away_slow (Away.command heard count bits first rest slow split whole passes) = slow
away_slow (Away.matching fast at bits plain low other) = ap speed_in plain
away_slow (Away.silent bits plain) = ap speed_in plain

-- and with no more slots to come it has no mark
pub away_unmarked : {number : ℕ} {mode : Mode} {k : Choosing} → choosing_in_range k ≡ true → Away number mode k [] → mode ≡ Mode.Plain
unfolding choosing_in_range
away_unmarked range (Away.command heard count bits [] rest slow split whole passes) =
    absurd (omega (arith, ltb-true count 8 range, whole))
away_unmarked range (Away.command heard count bits (bit ∷ first) rest slow split whole passes) = absurd (nil_cons split)
  where
    nil_cons : {b : Bool} {bs : List Bool} → [] ≡ b ∷ bs → ⊥
    nil_cons e = false≢true (ap some e)
      where
        some : List Bool → Bool
        some [] = false
        some (b ∷ bs) = true
away_unmarked range (Away.matching fast at bits plain low other) = plain
away_unmarked range (Away.silent bits plain) = plain

-- ---- one slot

abbrev AwayIn : ℕ → Select → List Bool → Type 0
AwayIn number select bits = Away number select.mode select.choosing bits

plain_of : (mode : Mode) → speed_in mode ≡ false → mode_of false (speed_in mode) ≡ Mode.Plain
unfolding mode_of
plain_of mode slow = ap (mode_of false) slow

-- the byte is whole
byte_away : (number byte : ℕ) (mode : Mode) (alarm : Bool) (bits : List Bool) → speed_in mode ≡ false → Passes number mode byte bits →
    AwayIn number (rom_command byte mode alarm) bits
unfolding rom_command mark_in
byte_away number byte mode alarm bits slow =
    ⊎_elim
    (λ match.
    let other : Starts (bits_of (64 - 0) (number / 2 ^ 0)) bits → ⊥ = rw (div-one number) match.1 in
    ⊎_elim (λ e. rw e (Away.matching false 0 bits (plain_of mode slow) (omega arith) other))
    (λ e. rw e (Away.matching true 0 bits (plain_of mode slow) (omega arith) other)) match.0)
    (λ resume. rw (resume.0, resume.1) (Away.silent bits refl))

-- a bit of the number
bit_away : (number at : ℕ) (fast bit alarm : Bool) (mode : Mode) (bits : List Bool) → mode ≡ Mode.Plain → at < 64 →
    (Starts (bits_of (64 - at) (number / 2 ^ at)) (bit ∷ bits) → ⊥) →
    AwayIn number (heard_bit number at bit (Matching fast (following at)) fast mode) bits
bit_away number at fast bit alarm mode bits plain low other =
    let own = bit_of number at in
    let left : 64 - at ≡ suc (63 - at) = omega (arith, low) in
    let next : Starts (own ∷ bits_of (63 - at) (number / 2 ^ (at + 1))) (bit ∷ bits) → ⊥ =
    subst (λ (first : List Bool). Starts first (bit ∷ bits) → ⊥)
    (ap (λ (n : ℕ). bits_of n (number / 2 ^ at)) left ∙ bits_from_lem (63 - at) number at) other in
    by own bit refl refl next
  where
    same : (b : Bool) → bit_of number at ≡ b → bit ≡ b →
        (Starts (b ∷ bits_of (63 - at) (number / 2 ^ (at + 1))) (b ∷ bits) → ⊥) →
        AwayIn number (heard_bit number at bit (Matching fast (following at)) fast mode) bits
    same b p q next =
        dite (dec_lt at 63)
        (λ more.
        let left : 64 - (at + 1) ≡ 63 - at = omega (arith, more) in
        rw (q ∙ sym p, heard_right_more number at (Matching fast (following at)) fast mode more, following_more at more)
        (Away.matching fast (at + 1) bits plain (omega (arith, more)) (λ starts. next (starts.0, ap (◌∷◌ b) (rw left at starts.1)))))
        (λ last.
        let none : 63 - at ≡ 0 = omega (arith, last) in
        absurd (next (bits, rw (none, no_bits (number / 2 ^ (at + 1))) refl)))

    apart : (own heard : Bool) → bit_of number at ≡ own → bit ≡ heard → beq own heard ≡ false →
        AwayIn number (heard_bit number at bit (Matching fast (following at)) fast mode) bits
    apart own heard p q e =
        rw (heard_wrong number at bit (Matching fast (following at)) fast mode (rw (p, q) e)) (Away.silent bits plain)

    by : (own heard : Bool) → bit_of number at ≡ own → bit ≡ heard →
        (Starts (own ∷ bits_of (63 - at) (number / 2 ^ (at + 1))) (heard ∷ bits) → ⊥) →
        AwayIn number (heard_bit number at bit (Matching fast (following at)) fast mode) bits
    by true true p q next = same true p q next
    by false false p q next = same false p q next
    by true false p q next = apart true false p q refl
    by false true p q next = apart false true p q refl

pub slot_away : (number : ℕ) (bit alarm : Bool) (bits : List Bool) (select : Select) → choosing_in_range select.choosing ≡ true →
    AwayIn number select (bit ∷ bits) → AwayIn number (slot_of select number bit alarm).select bits
unfolding slot_of slot_at choosing_in_range shift_all
slot_away number bit alarm bits select range away = at select.choosing range away
  where
    mode : Mode
    mode = select.mode

    at_byte : (heard : ℕ) (first rest : List Bool) → length first ≡ 0 → bits ≡ first ++ rest → speed_in mode ≡ false →
        Passes number mode (shift_all 8 (shift_in 8 heard bit) first) rest → AwayIn number (rom_command (shift_in 8 heard bit) mode alarm) bits
    at_byte heard [] rest none left slow passes = rw left (byte_away number (shift_in 8 heard bit) mode alarm rest slow passes)
    at_byte heard (b ∷ first) rest none left slow passes = absurd (omega (arith, none))

    at : (k : Choosing) → choosing_in_range k ≡ true → Away number select.mode k (bit ∷ bits) →
        AwayIn number (slot_at k select.mode number bit alarm).select bits
    at k range (Away.command heard count slots [] rest slow split whole passes) = absurd (omega (arith, ltb-true count 8 range, whole))
    at k range (Away.command heard count slots (b ∷ first) rest slow split whole passes) =
        let same : b ≡ bit = sym (ap (λ (l : List Bool). get_or l 0 true) split) in
        let left : bits ≡ first ++ rest = ap (drop 1) split in
        dite (dec_lt count 7)
        (λ more.
        rw (command_more heard count select.mode bit alarm more)
        (Away.command (shift_in 8 heard bit) (count + 1) bits first rest slow left (omega (arith, whole)) (rw same at passes)))
        (λ last.
        let done : length first ≡ 0 = omega (arith, ltb-true count 8 range, last, whole) in
        rw (command_last heard count select.mode bit alarm (omega (arith, last)))
        (at_byte heard first rest done left slow (rw same at passes)))
    at k range (Away.matching fast n slots plain low other) = bit_away number n fast bit alarm select.mode bits plain low other
    at k range (Away.silent slots plain) = Away.silent bits plain

-- The hours in both forms, in plain numbers: which byte an hour has, in which order the bytes step, and what an hour that is not valid
-- in its form becomes. Each rule of the table is one test that is computed at all its entries. Assumes nothing.
use Rattle.std.specs.Prelude.{◌≡◌, refl, Bool, true, false, not, ◌&&◌, ◌||◌, [], ◌∷◌, ◌⊎◌, ℕ, ◌+◌, ◌*◌, ◌/◌, ◌%◌, ◌≤◌, ◌<◌, T, ltb, get_or, if◌then◌else◌}
use Rattle.std.proofs.Common.{sym, ap, ◌∙◌, inl, inr, ⊎_elim, arith, ltb→lt, lit<, ne_eqb}
use Rattle.std.proofs.Math.Bool.{beq, or-true}
use Rattle.std.proofs.lemmas.Bool.{false≢true}
use Rattle.std.proofs.Math.Logic.{dite}
use Rattle.std.proofs.Math.Decide.{ℕ_discrete}
use Rattle.std.proofs.Math.Dec.{eqb, eqb→eq}
use Rattle.std.specs.Float.Ieee.Bits.{is_true}
use Rattle.std.specs.Float.Ieee.Fits.{and_l, and_r}
use Rattle.bits.specs.Bits.{digit, bit_of}
use Rattle.bits.specs.Each.{each, each_at}
use Rattle.bits.specs.Tests.{beq_eq}
use Rattle.calendar.specs.declared.Stepped.{Stepped}
use Rattle.calendar.specs.Calendar.{decimal, is_valid, plus_one, step_along, counting, hour_after, twelve_hours, hours_in, step_hours}
use Rattle.calendar.proofs.Calendar.Laws.{Between, valid_between, between_valid, along_invalid, twelve_between}
use Rattle.calendar.specs.Meaning.{form_of, hour_of, Writes, WritesHour}
use Rattle.calendar.proofs.Meaning.Fields.{spelled, writes_between, by_bit}

-- ---- the table

-- the hours of a day from midnight on, in either form: "the rest runs 12, 1 to 11", from 12 AM to 11 AM and from 12 PM to 11 PM
abbrev pub hour_byte : ℕ → ℕ → ℕ
hour_byte form hour =
    get_or
    (if eqb form 1 then
    0x52 ∷ 0x41 ∷ 0x42 ∷ 0x43 ∷ 0x44 ∷ 0x45 ∷ 0x46 ∷ 0x47 ∷ 0x48 ∷ 0x49 ∷ 0x50 ∷ 0x51
    ∷ 0x72 ∷ 0x61 ∷ 0x62 ∷ 0x63 ∷ 0x64 ∷ 0x65 ∷ 0x66 ∷ 0x67 ∷ 0x68 ∷ 0x69 ∷ 0x70 ∷ 0x71 ∷ []
    else
    0x00 ∷ 0x01 ∷ 0x02 ∷ 0x03 ∷ 0x04 ∷ 0x05 ∷ 0x06 ∷ 0x07 ∷ 0x08 ∷ 0x09 ∷ 0x10 ∷ 0x11
    ∷ 0x12 ∷ 0x13 ∷ 0x14 ∷ 0x15 ∷ 0x16 ∷ 0x17 ∷ 0x18 ∷ 0x19 ∷ 0x20 ∷ 0x21 ∷ 0x22 ∷ 0x23 ∷ [])
    hour 0

-- ---- the two forms

bit_form : (hours : ℕ) → bit_of hours 6 ≡ eqb (form_of hours) 1
unfolding bit_of form_of
bit_form hours = refl

day_form : {hours : ℕ} → Writes 0 23 hours → form_of hours ≡ 0
unfolding form_of decimal
day_form w = omega (arith, w)

twelve_form : (hours : ℕ) → hours / 64 ≡ 1 → form_of hours ≡ 1
unfolding form_of
twelve_form hours e = omega arith

-- ---- an hour that is valid in its form, by the definition's test

twelve_valid : (hours : ℕ) → hours / 64 ≡ 1 → Writes 1 12 (hours % 32) → twelve_hours.is_value hours ≡ true
twelve_valid hours e w = dite (ℕ_discrete (hours / 32 % 2) 0) (λ am. rw (between_valid (morning am))) (λ pm. rw (between_valid (evening pm), or-true (is_valid 0x41 0x52 hours)))
  where
    twelve : Between 0x01 0x12 (hours % 32)
    twelve = writes_between {lowest = 0x01} {last = 0x12} (spelled tt tt tt) (spelled tt tt tt) w

    morning : hours / 32 % 2 ≡ 0 → Between 0x41 0x52 hours
    morning am = record { digits = omega (arith, e, twelve); above = omega (arith, e, twelve); below = omega (arith, e, twelve) }

    evening : ¬ (hours / 32 % 2 ≡ 0) → Between 0x61 0x72 hours
    evening pm = record { digits = omega (arith, e, twelve, pm); above = omega (arith, e, twelve, pm); below = omega (arith, e, twelve, pm) }

hour_valid : {hours : ℕ} → WritesHour hours → (hours_in hours).is_value hours ≡ true
hour_valid {hours} (inl w) = rw (bit_form hours, day_form w) (between_valid (writes_between {lowest = 0x00} {last = 0x23} (spelled tt tt tt) (spelled tt tt tt) w))
hour_valid {hours} (inr (e, w)) = rw (bit_form hours, twelve_form hours e) (twelve_valid hours e w)

valid_twelve : (hours : ℕ) → twelve_hours.is_value hours ≡ true → WritesHour hours
unfolding decimal
valid_twelve hours e = ⊎_elim (λ b. inr (omega (arith, b), omega (arith, b))) (λ b. inr (omega (arith, b), omega (arith, b))) (twelve_between hours e)

valid_day : {hours : ℕ} → is_valid 0x00 0x23 hours ≡ true → WritesHour hours
unfolding decimal
valid_day e = let b = valid_between e in inl (record { digits = b.digits; above = omega arith; below = omega (arith, b) })

valid_hour : {hours : ℕ} → (hours_in hours).is_value hours ≡ true → WritesHour hours
valid_hour {hours} = go (bit_of hours 6)
  where
    go : (twelve : Bool) → (if twelve then twelve_hours else counting 0x00 0x23).is_value hours ≡ true → WritesHour hours
    go true e = valid_twelve hours e
    go false e = valid_day e

-- ---- the table's rules

-- every hour is in it, at its form and number
place : ℕ → Bool
place hours = not ((hours_in hours).is_value hours) || (eqb (hour_byte (form_of hours) (hour_of hours)) hours && ltb (hour_of hours) 24)

placed : T (each 128 place)
unfolding place bit_of is_valid form_of hour_of decimal
placed = tt

-- every entry is an hour of its form and number
reads : ℕ → ℕ → Bool
reads form hour =
    let byte = hour_byte form hour in
    (hours_in byte).is_value byte && (eqb (form_of byte) form && eqb (hour_of byte) hour)

all_read : T (each 2 (λ form. each 24 (reads form)))
unfolding reads bit_of is_valid form_of hour_of decimal
all_read = tt

-- every entry is followed by the next, and the last by the first, with carry
follows : ℕ → ℕ → Bool
follows form hour =
    let next = step_hours (hour_byte form hour) in
    eqb next.byte (hour_byte form ((hour + 1) % 24)) && beq next.carry (eqb hour 23)

all_follow : T (each 2 (λ form. each 24 (follows form)))
unfolding follows step_hours step_along hour_after is_valid plus_one bit_of
all_follow = tt

-- ---- so an hour has one byte in each form

pub form_le : (hours : ℕ) → form_of hours ≤ 1
unfolding form_of
form_le hours = omega arith

small : {hours : ℕ} → WritesHour hours → hours < 128
unfolding decimal
small (inl w) = omega (arith, w)
small (inr (e, w)) = omega arith

module _ {hours : ℕ} (w : WritesHour hours) where
  at_place : T (eqb (hour_byte (form_of hours) (hour_of hours)) hours && ltb (hour_of hours) 24)
  unfolding place
  at_place = rw (hour_valid w) at (each_at 128 place placed hours (small w))

  pub hour_lt : hour_of hours < 24
  hour_lt = ltb→lt _ _ (and_r (eqb (hour_byte (form_of hours) (hour_of hours)) hours) (ltb (hour_of hours) 24) at_place)

  pub byte_of : hour_byte (form_of hours) (hour_of hours) ≡ hours
  byte_of = eqb→eq _ _ (and_l (eqb (hour_byte (form_of hours) (hour_of hours)) hours) (ltb (hour_of hours) 24) at_place)

pub hour_injective : {a b : ℕ} → WritesHour a → WritesHour b → form_of a ≡ form_of b → hour_of a ≡ hour_of b → a ≡ b
hour_injective v w e f = sym (byte_of v) ∙ rw (e, f) (byte_of w)

-- a byte that is an hour of this form and number
pub record Shows (form hour hours : ℕ) : Type 0 where
  pub writes : WritesHour hours
  pub formed : form_of hours ≡ form
  pub counts : hour_of hours ≡ hour

module _ {form hour : ℕ} (f : form ≤ 1) (h : hour < 24) where
  pub shown : Shows form hour (hour_byte form hour)
  unfolding reads
  shown =
      let byte = hour_byte form hour in
      let all = each_at 24 (reads form) (each_at 2 (λ form. each 24 (reads form)) all_read form (omega arith)) hour h in
      let right = and_r ((hours_in byte).is_value byte) (eqb (form_of byte) form && eqb (hour_of byte) hour) all in
      record {
        writes = valid_hour (is_true _ (and_l ((hours_in byte).is_value byte) (eqb (form_of byte) form && eqb (hour_of byte) hour) all));
        formed = eqb→eq (form_of byte) form (and_l (eqb (form_of byte) form) (eqb (hour_of byte) hour) right);
        counts = eqb→eq (hour_of byte) hour (and_r (eqb (form_of byte) form) (eqb (hour_of byte) hour) right);
      }

  -- "11 AM goes to 12 PM and 11 PM goes to 12 AM with the next date"
  pub in_order : step_hours (hour_byte form hour) ≡ record { byte = hour_byte form ((hour + 1) % 24); carry = eqb hour 23 }
  unfolding follows
  in_order =
      let all = each_at 24 (follows form) (each_at 2 (λ form. each 24 (follows form)) all_follow form (omega arith)) hour h in
      let next = step_hours (hour_byte form hour) in
      let goes = eqb next.byte (hour_byte form ((hour + 1) % 24)) in
      let carries = beq next.carry (eqb hour 23) in
      let byte = eqb→eq next.byte (hour_byte form ((hour + 1) % 24)) (and_l goes carries all) in
      let carry = beq_eq next.carry (eqb hour 23) (and_r goes carries all) in
      λ i. record { byte = byte i; carry = carry i }

-- ---- an hour on

-- the next hour of the day in the same form; after 23 comes 0, and the day ends
pub record HourOn (hours : ℕ) (next : Stepped) : Type 0 where
  pub writes : WritesHour next.byte
  pub form : form_of next.byte ≡ form_of hours
  pub counts : hour_of hours + 1 ≡ hour_of next.byte + 24 * digit next.carry

pub hour_on : {hours : ℕ} → WritesHour hours → HourOn hours (step_hours hours)
hour_on {hours} w =
    let form = form_of hours in
    let hour = hour_of hours in
    let next = shown {form = form} {hour = (hour + 1) % 24} (form_le hours) (omega arith) in
    let steps = ap step_hours (sym (byte_of w)) ∙ in_order (form_le hours) (hour_lt w) in
    rw steps (record { writes = next.writes; form = next.formed; counts = rw next.counts (round hour (hour_lt w)) })
  where
    round : (hour : ℕ) → hour < 24 → hour + 1 ≡ (hour + 1) % 24 + 24 * digit (eqb hour 23)
    round hour h = dite (ℕ_discrete hour 23) (λ e. rw e) (λ n. rw (ne_eqb hour 23 n) (omega (arith, n)))

-- to hour 0 of its form, and the day ends
abbrev pub Returns : ℕ → Type 0
Returns hours = step_hours hours ≡ record { byte = hour_byte (form_of hours) 0; carry = true }

-- "An hour not valid in its form returns to 00 or to 12 AM and carries"
pub hour_invalid : (hours : ℕ) → ¬ WritesHour hours → Returns hours
unfolding step_hours
hour_invalid hours n = along_invalid (hours_in hours) hours (not_valid ((hours_in hours).is_value hours) refl) ∙ rw (bit_form hours) (lowest (form_of hours) (form_le hours))
  where
    not_valid : (valid : Bool) → (hours_in hours).is_value hours ≡ valid → valid ≡ false
    not_valid true e = absurd (n (valid_hour e))
    not_valid false e = refl

    Lowest : ℕ → Type 0
    Lowest form = ◌≡◌ {A = Stepped} (record { byte = (if eqb form 1 then twelve_hours else counting 0x00 0x23).lowest; carry = true }) (record { byte = hour_byte form 0; carry = true })

    lowest : (form : ℕ) → form ≤ 1 → Lowest form
    lowest = by_bit Lowest refl refl

-- one or the other, whatever the byte
hour_cases : (hours : ℕ) → HourOn hours (step_hours hours) ⊎ Returns hours
hour_cases hours = go ((hours_in hours).is_value hours) refl
  where
    go : (valid : Bool) → (hours_in hours).is_value hours ≡ valid → HourOn hours (step_hours hours) ⊎ Returns hours
    go true e = inl (hour_on (valid_hour e))
    go false e = inr (hour_invalid hours (λ w. false≢true (sym e ∙ hour_valid w)))

-- "and the form bit stays"
pub form_stays : (hours : ℕ) → form_of (step_hours hours).byte ≡ form_of hours
form_stays hours = ⊎_elim (λ h. h.form) (λ e. rw e (shown (form_le hours) (lit< tt)).formed) (hour_cases hours)

-- What a field's step gives, along any order of values and for any lowest and last value, and n seconds on. Assumes nothing.
use Rattle.std.specs.Prelude.{◌≡◌, refl, Bool, ◌&&◌, ◌||◌, ◌⊎◌, ℕ, zero, suc, ◌+◌, ◌/◌, ◌%◌, ◌≤◌, ◌<◌, eqb}
use Rattle.std.proofs.Common.{sym, ap, ◌∙◌, ⊎_elim, suc-add, zero-add, arith, lit<, lit≤}
use Rattle.std.proofs.Math.Bool.{true, false, not, and-eq-true_iff, or-true}
use Rattle.std.proofs.lemmas.Bool.{false≢true}
use Rattle.std.proofs.Math.Logic.{inl, inr}
use borrow.Author.Tests.{le-leb, leb-true, eq-eqb, eqb-true, ne_eqb, eqb-false, not-false}
use Rattle.bits.specs.Bits.{bit_of}
use Rattle.bits.specs.Choose.{either, choice}
use Rattle.bits.specs.Tests.{neither}
use Rattle.calendar.specs.declared.Clock.{Clock}
use Rattle.calendar.specs.declared.Stepped.{Stepped}
use Rattle.calendar.specs.Calendar.{Order, step_along, counting, Digits, is_valid, plus_one, hour_after, twelve_hours, step_field, carried, step_hours, next_day, next_second, clock_after}

-- ---- a valid field

-- no digit above 9, and not outside lowest .. last
pub record Between (lowest last byte : ℕ) : Type 0 where
  pub digits : Digits byte
  pub above : lowest ≤ byte
  pub below : byte ≤ last

pub valid_between : {lowest last byte : ℕ} → is_valid lowest last byte ≡ true → Between lowest last byte
unfolding is_valid
valid_between {lowest} {last} {byte} e =
    let three = (and-eq-true_iff _ _).0 e in
    let two = (and-eq-true_iff _ _).0 three.0 in
    let one = (and-eq-true_iff _ _).0 two.0 in
    record {
      digits = record { tens = leb-true (byte / 16) 9 one.0; ones = leb-true (byte % 16) 9 one.1 };
      above = leb-true lowest byte two.1;
      below = leb-true byte last three.1;
    }

pub between_valid : {lowest last byte : ℕ} → Between lowest last byte → is_valid lowest last byte ≡ true
unfolding is_valid
between_valid b = simp (le-leb _ _ b.digits.tens, le-leb _ _ b.digits.ones, le-leb _ _ b.above, le-leb _ _ b.below)

-- ---- one field's step, along any values

module _ (order : Order) where
  pub along_last : step_along order order.last ≡ record { byte = order.lowest; carry = true }
  unfolding step_along
  along_last = simp (eq-eqb order.last order.last refl)

  pub along_invalid : (byte : ℕ) → order.is_value byte ≡ false → step_along order byte ≡ record { byte = order.lowest; carry = true }
  unfolding step_along
  along_invalid byte e = rw (e, or-true (eqb byte order.last))

  pub along_on : (byte : ℕ) → order.is_value byte ≡ true → ¬ (byte ≡ order.last) → step_along order byte ≡ record { byte = order.after byte; carry = false }
  unfolding step_along
  along_on byte v n = simp (ne_eqb byte order.last n, v)

  -- a field returns to its lowest, or it is valid, not at its last, and goes on
  pub along_cases : (byte : ℕ) →
      (step_along order byte ≡ record { byte = order.lowest; carry = true })
      ⊎ (order.is_value byte ≡ true × ¬ (byte ≡ order.last) × step_along order byte ≡ record { byte = order.after byte; carry = false })
  unfolding step_along
  along_cases byte =
      either
      (λ s. (s ≡ record { byte = order.lowest; carry = true })
      ⊎ (order.is_value byte ≡ true × ¬ (byte ≡ order.last) × s ≡ record { byte = order.after byte; carry = false }))
      (eqb byte order.last || not (order.is_value byte)) (λ e. inl refl)
      (λ e. let both = neither (eqb byte order.last) _ e in inr (not-false _ both.1, eqb-false byte order.last both.0, refl))

  -- only where it returns it carries
  pub along_carries : (byte : ℕ) → (step_along order byte).carry ≡ true → step_along order byte ≡ record { byte = order.lowest; carry = true }
  along_carries byte e = ⊎_elim (λ r. r) (λ g. absurd (false≢true (sym (ap (λ (s : Stepped). s.carry) g.2) ∙ e))) (along_cases byte)

-- ---- one field's step, from lowest to last

-- a field that does not return to its lowest is valid
pub goes_on_between : (lowest last byte : ℕ) → (eqb byte last || not (is_valid lowest last byte)) ≡ false → Between lowest last byte
goes_on_between lowest last byte e = valid_between (not-false _ (neither (eqb byte last) _ e).1)

pub step_last : (lowest last : ℕ) → step_field lowest last last ≡ record { byte = lowest; carry = true }
unfolding step_field
step_last lowest last = along_last (counting lowest last)

pub step_invalid : (lowest last byte : ℕ) → is_valid lowest last byte ≡ false → step_field lowest last byte ≡ record { byte = lowest; carry = true }
unfolding step_field
step_invalid lowest last byte e = along_invalid (counting lowest last) byte e

pub step_on : {lowest last byte : ℕ} → Between lowest last byte → byte < last → step_field lowest last byte ≡ record { byte = plus_one byte; carry = false }
unfolding step_field
step_on {lowest} {last} {byte} b h = along_on (counting lowest last) byte (between_valid b) (λ e. omega arith)

-- past a 9 the byte goes on by seven, else by one
pub plus_one_lem : (byte : ℕ) → (byte % 16 ≡ 9 × plus_one byte ≡ byte + 7) ⊎ (¬ (byte % 16 ≡ 9) × plus_one byte ≡ byte + 1)
unfolding plus_one
plus_one_lem byte =
    either (λ n. (byte % 16 ≡ 9 × n ≡ byte + 7) ⊎ (¬ (byte % 16 ≡ 9) × n ≡ byte + 1)) (eqb (byte % 16) 9)
    (λ e. inl (eqb-true (byte % 16) 9 e, refl)) (λ e. inr (eqb-false (byte % 16) 9 e, refl))

-- a field returns to its lowest, or it is valid, not yet at its last, and goes on
pub step_cases : (lowest last byte : ℕ) →
    (step_field lowest last byte ≡ record { byte = lowest; carry = true })
    ⊎ (Between lowest last byte × byte < last × step_field lowest last byte ≡ record { byte = plus_one byte; carry = false })
unfolding step_field
step_cases lowest last byte =
    ⊎_elim inl (λ g. let b = valid_between g.0 in inr (b, omega (arith, b, g.1), g.2)) (along_cases (counting lowest last) byte)

-- a field is never past its last value after a step
pub step_le : {lowest last : ℕ} (byte : ℕ) → last % 16 ≤ 9 → lowest ≤ last → (step_field lowest last byte).byte ≤ last
step_le {lowest} {last} byte d h =
    ⊎_elim (λ e. rw e h) (λ g. rw g.2 (⊎_elim (λ n. omega arith) (λ n. omega arith) (plus_one_lem byte))) (step_cases lowest last byte)

-- ---- the hours of the twelve-hour form

pub twelve_between : (byte : ℕ) → twelve_hours.is_value byte ≡ true → Between 0x41 0x52 byte ⊎ Between 0x61 0x72 byte
twelve_between byte e = go (is_valid 0x41 0x52 byte) refl
  where
    go : (am : Bool) → is_valid 0x41 0x52 byte ≡ am → Between 0x41 0x52 byte ⊎ Between 0x61 0x72 byte
    go true a = inl (valid_between a)
    go false a = inr (valid_between (rw a at e))

pub twelve_le : (byte : ℕ) → twelve_hours.is_value byte ≡ true → byte ≤ 0x72
twelve_le byte v = ⊎_elim (λ b. omega (arith, b)) (λ b. b.below) (twelve_between byte v)

after_lt : (byte : ℕ) → twelve_hours.is_value byte ≡ true → hour_after byte < 0x80
unfolding hour_after
after_lt byte v =
    let Below : ℕ → Type 0 = λ hour. hour < 0x80 in
    let small = twelve_le byte v in
    choice Below (eqb byte 0x52) (lit< tt) (choice Below (eqb byte 0x51) (lit< tt) (choice Below (eqb byte 0x72) (lit< tt)
    (⊎_elim (λ n. omega arith) (λ n. omega arith) (plus_one_lem byte))))

-- an hour stays below bit 7
pub hours_lt : (byte : ℕ) → (step_hours byte).byte < 0x80
unfolding step_hours step_field
hours_lt byte =
    choice (λ (order : Order). (step_along order byte).byte < 0x80) (bit_of byte 6)
    (⊎_elim (λ e. rw e (lit< tt)) (λ g. rw g.2 (after_lt byte g.0)) (along_cases twelve_hours byte))
    (omega (arith, step_le {lowest = 0x00} {last = 0x23} byte (lit≤ tt) (lit≤ tt)))

-- ---- one second on

-- seconds that do not carry step alone, whatever the other fields hold
pub next_uncarried : (c : Clock) → (step_field 0x00 0x59 c.seconds).carry ≡ false →
    next_second c
    ≡ record {
      seconds = (step_field 0x00 0x59 c.seconds).byte;
      minutes = c.minutes;
      hours = c.hours;
      date = c.date;
      month = c.month;
      year = c.year;
    }
unfolding next_second carried step_hours
next_uncarried c e = rw e

pub next_alone : {c : Clock} → Between 0x00 0x59 c.seconds → c.seconds < 0x59 →
    next_second c ≡ record { seconds = plus_one c.seconds; minutes = c.minutes; hours = c.hours; date = c.date; month = c.month; year = c.year }
next_alone {c} b h = next_uncarried c (rw (step_on b h)) ∙ rw (step_on b h)

-- "a field .. returns to its lowest and carries": else the hours are not looked at
pub next_hours : (c : Clock) → ((step_field 0x00 0x59 c.seconds).carry && (step_field 0x00 0x59 c.minutes).carry) ≡ false → (next_second c).hours ≡ c.hours
unfolding next_second next_day carried
next_hours c e = go (step_field 0x00 0x59 c.seconds).carry (step_field 0x00 0x59 c.minutes).carry refl refl e
  where
    go : (s m : Bool) → (step_field 0x00 0x59 c.seconds).carry ≡ s → (step_field 0x00 0x59 c.minutes).carry ≡ m → (s && m) ≡ false → (next_second c).hours ≡ c.hours
    go true true a b f = absurd (false≢true (sym f))
    go true false a b f = rw (a, b)
    go false m a b f = rw a

-- ---- n seconds on

pub after_zero : (c : Clock) → clock_after 0 c ≡ c
unfolding clock_after
after_zero c = refl

pub after_suc : (n : ℕ) (c : Clock) → clock_after (suc n) c ≡ next_second (clock_after n c)
unfolding clock_after
after_suc n c = refl

pub after_add : (m n : ℕ) (c : Clock) → clock_after (m + n) c ≡ clock_after m (clock_after n c)
unfolding clock_after
after_add zero n c = rw (zero-add n)
after_add (suc m) n c = rw (suc-add m n) (ap next_second (after_add m n c))

-- the second that comes first may as well be taken first
pub after_next : (n : ℕ) (c : Clock) → clock_after n (next_second c) ≡ clock_after (suc n) c
unfolding clock_after
after_next zero c = refl
after_next (suc n) c = ap next_second (after_next n c)

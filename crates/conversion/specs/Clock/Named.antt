-- A clock that has its named bits alone is read back from the image. Assumes nothing.
use Rattle.std.specs.Prelude.{◌≡◌, List, ℕ, ◌+◌, ◌-◌, ◌*◌, ◌/◌, ◌%◌, ◌^◌, ◌≤◌, ◌<◌, length, get_or}
use Rattle.std.proofs.Common.{ap, ◌∙◌, mod-eq_of_lt, arith}
use Rattle.std.specs.Int.Bits.{bit_and}
use Rattle.std.proofs.lemmas.Nat.{and_le_r, and_mod, and_mask, and_block}
use Rattle.calendar.proofs.Calendar.Named.{Named}
use Rattle.calendar.specs.declared.Clock.{Clock}
use Rattle.image.specs.Tables.{register_at, named}
use Rattle.conversion.specs.Clock.{clock_of, put_clock}
use Rattle.conversion.specs.Clock.Laws.{named_bits, clock_six, six_put_clock}

pub clock_named : (image : List ℕ) → Named (clock_of image)
unfolding clock_of register_at named
clock_named image =
    record {
      seconds = omega (arith, and_le_r (get_or image 0x0200 0) 0x7F);
      minutes = omega (arith, and_le_r (get_or image 0x0201 0) 0x7F);
      hours = omega (arith, and_le_r (get_or image 0x0202 0) 0x7F);
      date = omega (arith, and_le_r (get_or image 0x0203 0) 0x3F);
      month = rw (and_mod (get_or image 0x0204 0) 0x9F 7) (omega (arith, and_le_r (get_or image 0x0204 0 % 128) 0x1F));
      cent = omega (arith, and_le_r (get_or image 0x0204 0) 0x9F);
      year = omega (arith, and_le_r (get_or image 0x0205 0) 0xFF);
    }

low_bits : (n k : ℕ) → n < 2 ^ k → bit_and n (2 ^ k - 1) ≡ n
low_bits n k h = and_mask n k ∙ mod-eq_of_lt h

month_bits : (m : ℕ) → m % 128 < 32 → m < 256 → bit_and m 0x9F ≡ m
month_bits m low h =
    let split : m ≡ m / 128 * 2 ^ 7 + m % 128 = omega arith in
    ap (λ (x : ℕ). bit_and x 0x9F) split
    ∙ and_block 7 (m / 128) 1 (m % 128) 0x1F (omega arith) (omega arith)
    ∙ rw (low_bits (m / 128) 1 (omega arith), low_bits (m % 128) 5 low) (omega arith)

-- such a clock is read back
pub clock_put_clock : (image : List ℕ) (c : Clock) → 0x0206 ≤ length image → Named c → clock_of (put_clock image 0x0200 c) ≡ c
clock_put_clock image c fits n =
    clock_six (put_clock image 0x0200 c) ∙ ap named_bits (six_put_clock image 0x0200 c fits)
    ∙ rw (
      low_bits c.seconds 7 n.seconds,
      low_bits c.minutes 7 n.minutes,
      low_bits c.hours 7 n.hours,
      low_bits c.date 6 n.date,
      month_bits c.month n.month n.cent,
      low_bits c.year 8 n.year,
    )

-- Rules of the three tables, each one test that is computed at all 64 entries. Assumes nothing.
use Rattle.std.specs.Prelude.{◌≡◌, refl, Bool, ◌||◌, ◌&&◌, List, ℕ, ◌+◌, ◌-◌, ◌≤◌, ◌<◌, T, eqb, ltb, leb, length, get_or}
use Rattle.std.proofs.Math.Logic.{dite}
use Rattle.std.proofs.Math.Decide.{dec_lt}
use Rattle.std.proofs.Common.{arith, eqb→eq, ltb→lt}
use Rattle.std.specs.Int.Bits.{bit_and, and_zero_r}
use Rattle.std.specs.Float.Ieee.Fits.{and_l, and_r}
use Rattle.std.proofs.Math.ListN.{get_or-eq_default}
use Rattle.bits.specs.Each.{each, each_at}
use Rattle.image.specs.Map.{byte_in}
use Rattle.image.specs.Tables.{writable, always_one, named, register_at}
use Rattle.image.specs.declared.Region.TheVariants.{Registers}

-- each has 64 entries
pub length_writable : length writable ≡ 64
unfolding writable
length_writable = refl

pub length_always_one : length always_one ≡ 64
unfolding always_one
length_always_one = refl

pub length_named : length named ≡ 64
unfolding named
length_named = refl

-- each entry is a byte
pub bytes_of : (table : List ℕ) → length table ≡ 64 → T (each 64 (λ o. ltb (get_or table o 0) 256)) → (o : ℕ) → get_or table o 0 < 256
bytes_of table e t o =
    dite (dec_lt o 64) (λ lt. ltb→lt (get_or table o 0) 256 (each_at 64 (λ k. ltb (get_or table k 0) 256) t o lt))
    (λ ge. let past : length table ≤ o = omega arith in rw (get_or-eq_default table 0 past) (omega arith))

pub writable_lt : (o : ℕ) → get_or writable o 0 < 256
unfolding writable
writable_lt = bytes_of writable length_writable tt

pub always_one_lt : (o : ℕ) → get_or always_one o 0 < 256
unfolding always_one
always_one_lt = bytes_of always_one length_always_one tt

pub named_lt : (o : ℕ) → get_or named o 0 < 256
unfolding named
named_lt = bytes_of named length_named tt

-- the offsets of the two passwords, 0228h-022Fh and 0230h-0237h
abbrev pub is_password : ℕ → Bool
is_password o = leb 0x28 o && ltb o 0x38

-- writable bits are named bits, but for the passwords, which are written and never read
pub writable_named : (o : ℕ) → o < 64 → T (is_password o || eqb (bit_and (get_or writable o 0) (get_or named o 0)) (get_or writable o 0))
unfolding writable named
writable_named o h = each_at 64 (λ k. is_password k || eqb (bit_and (get_or writable k 0) (get_or named k 0)) (get_or writable k 0)) tt o h

-- at the passwords no bit is sent: none is named, and none is always one
pub password_shut : (o : ℕ) → 0x28 ≤ o → o < 0x38 → (get_or named o 0 ≡ 0) × (get_or always_one o 0 ≡ 0)
unfolding named always_one
password_shut o lo hi =
    let there : 0x28 + (o - 0x28) ≡ o = omega arith in
    let both : T (eqb (get_or named o 0) 0 && eqb (get_or always_one o 0) 0) =
    rw there at (each_at 16 (λ i. eqb (get_or named (0x28 + i) 0) 0 && eqb (get_or always_one (0x28 + i) 0) 0) tt (o - 0x28) (omega arith)) in (
      eqb→eq _ _ (and_l (eqb (get_or named o 0) 0) (eqb (get_or always_one o 0) 0) both),
      eqb→eq _ _ (and_r (eqb (get_or named o 0) 0) (eqb (get_or always_one o 0) 0) both),
    )

-- no bit is both named and always one
pub always_one_unnamed : (o : ℕ) → o < 64 → bit_and (get_or named o 0) (get_or always_one o 0) ≡ 0
unfolding named always_one
always_one_unnamed o h = eqb→eq _ _ (each_at 64 (λ k. eqb (bit_and (get_or named k 0) (get_or always_one k 0)) 0) tt o h)

-- past the 64 there is no register
pub register_past : (image : List ℕ) (o : ℕ) → 64 ≤ o → register_at image o ≡ 0
unfolding register_at
register_past image o h =
    let past : length named ≤ o = omega (arith, length_named) in
    rw (get_or-eq_default named 0 past, and_zero_r (byte_in image (Registers o)))

-- Choices that a mission and its history make alike, over numbers and tests. Assumes nothing.
use Rattle.std.specs.Prelude.{◌≡◌, refl, Bool, true, false, not, ◌&&◌, ◌||◌, ℕ, ◌+◌, ◌-◌, ◌*◌, ◌/◌, ◌%◌, ◌≤◌, ◌<◌, min, eqb, leb, if◌then◌else◌}
use Rattle.std.proofs.Common.{sym, ap, arith, eq-eqb, ne_eqb, eqb-true, le-leb}
use Rattle.std.proofs.lemmas.Bool.{false≢true, eqb-false, lt-leb}
use Rattle.std.proofs.Math.Nat.{sub-zero}
use Rattle.bits.specs.Bits.{digit}
use Rattle.calendar.specs.declared.Clock.{Clock}

-- ---- n entries, m of them counted; b is SUTA, and i whether there is no entry yet

-- the number of the next entry
pub next_count : (b i : Bool) (n m : ℕ) → eqb n 0 ≡ i → m ≡ n - digit b → (if b && i then 0 else if b then m + 1 else m) ≡ n
next_count true true n m e f = omega (arith, eqb-true n 0 e)
next_count true false n m e f = let ne = eqb-false n 0 e in omega arith
next_count false i n m e f = omega arith

-- one more entry
pub count_more : (b i : Bool) (n m : ℕ) → eqb n 0 ≡ i → m ≡ n - digit b → (if b && i then m else m + 1) ≡ n + 1 - digit b
count_more true true n m e f = omega (arith, eqb-true n 0 e)
count_more true false n m e f = let ne = eqb-false n 0 e in omega arith
count_more false i n m e f = omega arith

-- whether it is the first that is counted
pub first_count : (b i : Bool) (n m : ℕ) (u v : Clock) → eqb n 0 ≡ i → m ≡ n - digit b
    → (if b && i then v else if eqb m 0 then u else v) ≡ if eqb n (digit b) then u else v
first_count true true n m u v e f = rw (eqb-true n 0 e)
first_count true false n m u v e f = ap (λ (t : Bool). if t then u else v) (by_test (eqb n 1) refl)
  where
    by_test : (t : Bool) → eqb n 1 ≡ t → eqb m 0 ≡ t
    by_test true g = eq-eqb m 0 (omega (arith, eqb-true n 1 g))
    by_test false g =
        let ne = eqb-false n 1 g in
        let some = eqb-false n 0 e in
        ne_eqb m 0 (omega arith)
first_count false i n m u v e f = rw (f, sub-zero n)

-- ---- the end

-- r is RO, p the places, m the samples counted
pub end_count : (r b : Bool) (p n m : ℕ) → p ≤ 8192 → m ≡ n - digit b → n ≤ (if r then 0xFFFFFF + digit b else min p (0xFFFFFF + digit b))
    → (eqb m 0xFFFFFF || (not r && leb p n)) ≡ leb (if r then 0xFFFFFF + digit b else min p (0xFFFFFF + digit b)) n
end_count true b p n m small f le = by_test (eqb m 0xFFFFFF) refl
  where
    by_test : (t : Bool) → eqb m 0xFFFFFF ≡ t → (t || false) ≡ leb (0xFFFFFF + digit b) n
    by_test true e = sym (le-leb (0xFFFFFF + digit b) n (omega (arith, eqb-true m 0xFFFFFF e)))
    by_test false e = let ne = eqb-false m 0xFFFFFF e in sym (lt-leb (0xFFFFFF + digit b) n (omega arith))
end_count false b p n m small f le =
    let full : min p (0xFFFFFF + digit b) ≡ p = omega arith in
    rw (ne_eqb m 0xFFFFFF (omega arith), full)

-- ---- flags: h and l whether the conversion alarms, u and v the flags before it

pub flags_more : (h l u v i : Bool) → (u || v) ≡ not i → (not i || (h || l)) ≡ true → ((h || u) || (l || v)) ≡ true
flags_more true l u v i e f = refl
flags_more false l true v i e f = refl
flags_more false true false v i e f = refl
flags_more false false false v true e f = absurd (false≢true f)
flags_more false false false v false e f = e

pub flags_same : (h l u v : Bool) → (h || l) ≡ false → ((h || u) || (l || v)) ≡ (u || v)
flags_same true l u v e = absurd (false≢true (sym e))
flags_same false true u v e = absurd (false≢true (sym e))
flags_same false false u v e = refl

-- what is logged: w whether the tag waits, a whether the conversion alarms
pub unlogged_waits : (w a : Bool) → (not w || a) ≡ false → w ≡ true
unlogged_waits true a e = refl
unlogged_waits false a e = sym e

pub unlogged_quiet : (w a : Bool) → (not w || a) ≡ false → a ≡ false
unlogged_quiet true a e = e
unlogged_quiet false a e = absurd (false≢true (sym e))

-- and whether it waits on
pub waits_no_more : (w a : Bool) → (not w || a) ≡ true → (if w && a then false else w) ≡ false
waits_no_more false a e = refl
waits_no_more true true e = refl
waits_no_more true false e = sym e

pub waits_on : (w a : Bool) → (not w || a) ≡ false → (if w && a then false else w) ≡ w
waits_on false a e = refl
waits_on true true e = sym e
waits_on true false e = refl

-- WFTA is SUTA while there is no entry: b is SUTA, i whether there is none
pub waits_while : (b i : Bool) → (b && (b && i)) ≡ (b && i)
waits_while true i = refl
waits_while false i = refl

-- ---- what is kept of a reading

-- by a conversion: t is TLFS, w whether the tag waits
pub stores : (t w : Bool) (reading : ℕ)
    → (let result = if w then reading / 8 * 8 else reading in if t then result else result / 8 * 8)
    ≡ (if not t || w then reading / 8 * 8 else reading)
stores true w reading = refl
stores false true reading = omega arith
stores false false reading = refl

-- ---- places

-- two entries that are less than the log apart lie at different places
pub places_apart : (t : Bool) (k n : ℕ) → k < n → n < k + (if t then 4096 else 8192)
    → k % (if t then 4096 else 8192) ≡ n % (if t then 4096 else 8192) → ⊥
places_apart true k n lo hi = omega arith
places_apart false k n lo hi = omega arith

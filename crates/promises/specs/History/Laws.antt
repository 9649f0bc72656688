-- One more tick is one more step of the history. Assumes nothing.
use Rattle.std.specs.Prelude.{◌≡◌, refl, Bool, true, false, not, ◌&&◌, ◌||◌, List, [], ◌∷◌, ◌++◌, ℕ, zero, suc, ◌+◌, ◌≤◌, ◌<◌, min, eqb, leb, length, take, drop, if◌then◌else◌}
use Rattle.std.proofs.Common.{sym, ap, ◌∙◌, append-nil, zero-add, suc-add, add-suc, not-suc-le-zero, arith, le-leb, leb-true, leb-false, ne_eqb, length-append, length-take, take_all, length-take-le}
use Rattle.std.proofs.lemmas.List.{take-append-le}
use Rattle.bits.specs.Bits.{digit}
use Rattle.bits.specs.Choose.{choice}
use Rattle.promises.specs.History.{Settings, Conversion, places, is_time, alarms, conversions_from, from_alarm, to_log, most, history, uncounted, clock_at, stamp}
use Rattle.promises.specs.Sentences.Clock.{seconds_on}

-- ---- conversions

-- one more reading
pub conversions_more : (s : Settings) (t : ℕ) (rs : List ℕ) (r : ℕ)
    → conversions_from s t (rs ++ r ∷ [])
    ≡ conversions_from s t rs ++ (if is_time s (length rs + t) then record { tick = length rs + t; reading = r } ∷ [] else [])
unfolding conversions_from
conversions_more s t [] r = rw (zero-add t)
conversions_more s t (x ∷ xs) r =
    rw (suc-add (length xs) t, ← add-suc (length xs) t)
    (by_test (is_time s t) (conversions_from s (suc t) (xs ++ r ∷ [])) (conversions_from s (suc t) xs) _ (conversions_more s (suc t) xs r))
  where
    by_test : (b : Bool) (all cs more : List Conversion) → all ≡ cs ++ more
        → (if b then record { tick = t; reading = x } ∷ all else all) ≡ (if b then record { tick = t; reading = x } ∷ cs else cs) ++ more
    by_test true all cs more e = ap (λ (l : List Conversion). record { tick = t; reading = x } ∷ l) e
    by_test false all cs more e = e

-- ---- entries

-- whether a list is empty
abbrev pub is_none : List Conversion → Bool
is_none [] = true
is_none (c ∷ cs) = false

-- what one more conversion adds to those from the first alarm on
alarm_more : (s : Settings) (cs : List Conversion) (c : Conversion)
    → from_alarm s (cs ++ c ∷ [])
    ≡ from_alarm s cs ++ (if not (is_none (from_alarm s cs)) || alarms s c.reading then c ∷ [] else [])
unfolding from_alarm
alarm_more s [] c = by_test (alarms s c.reading)
  where
    by_test : (b : Bool) → (if b then c ∷ [] else []) ≡ (if b then c ∷ [] else [])
    by_test b = refl
alarm_more s (x ∷ xs) c = by_test (alarms s x.reading) (alarm_more s xs c)
  where
    by_test : (b : Bool)
        → from_alarm s (xs ++ c ∷ [])
        ≡ from_alarm s xs ++ (if not (is_none (from_alarm s xs)) || alarms s c.reading then c ∷ [] else [])
        → (if b then x ∷ (xs ++ c ∷ []) else from_alarm s (xs ++ c ∷ []))
        ≡ (if b then x ∷ xs else from_alarm s xs)
        ++ (if not (is_none (if b then x ∷ xs else from_alarm s xs)) || alarms s c.reading then c ∷ [] else [])
    by_test true e = refl
    by_test false e = e

-- whether a conversion is logged after these entries
unfoldable pub logs : Settings → List Conversion → ℕ → Bool
logs s entries reading = not (s.suta && is_none entries) || alarms s reading

log_more : (s : Settings) (cs : List Conversion) (c : Conversion)
    → to_log s (cs ++ c ∷ []) ≡ to_log s cs ++ (if logs s (to_log s cs) c.reading then c ∷ [] else [])
unfolding to_log logs
log_more s cs c = by_test s.suta
  where
    by_test : (b : Bool)
        → (if b then from_alarm s (cs ++ c ∷ []) else cs ++ c ∷ [])
        ≡ (if b then from_alarm s cs else cs)
        ++ (if not (b && is_none (if b then from_alarm s cs else cs)) || alarms s c.reading then c ∷ [] else [])
    by_test true = alarm_more s cs c
    by_test false = refl

-- one more of a list of which so many count
take_more : (m : ℕ) (cs : List Conversion) (c : Conversion)
    → take m (cs ++ c ∷ []) ≡ take m cs ++ (if leb m (length (take m cs)) then [] else c ∷ [])
take_more m cs c = by_test (leb m (length cs)) refl
  where
    by_test : (t : Bool) → leb m (length cs) ≡ t → take m (cs ++ c ∷ []) ≡ take m cs ++ (if leb m (length (take m cs)) then [] else c ∷ [])
    by_test true e =
        let le : m ≤ length cs = leb-true m (length cs) e in
        rw (take-append-le m cs (c ∷ []) le, length-take-le m cs le, le-leb m m (omega arith), append-nil)
    by_test false e =
        let lt : length cs < m = leb-false m (length cs) e in
        let more : length (cs ++ c ∷ []) ≤ m = rw (length-append cs (c ∷ [])) (omega arith) in
        rw (take_all m (cs ++ c ∷ []) more, take_all m cs (omega arith), e)

-- so many count at least one
pub none_taken : (m : ℕ) (cs : List Conversion) → 0 < m → is_none (take m cs) ≡ is_none cs
none_taken zero cs h = absurd (not-suc-le-zero h)
none_taken (suc m) [] h = refl
none_taken (suc m) (c ∷ cs) h = refl

pub most_pos : (s : Settings) → 0 < most s
unfolding most places
most_pos s =
    let countable = 0xFFFFFF + uncounted s in
    choice (λ (n : ℕ). 0 < n) s.ro (omega arith) (choice (λ (n : ℕ). 0 < min n countable) s.tlfs (omega arith) (omega arith))

logs_taken : (s : Settings) (log : List Conversion) (reading : ℕ) → logs s (take (most s) log) reading ≡ logs s log reading
unfolding logs
logs_taken s log reading = rw (none_taken (most s) log (most_pos s))

-- ---- one more tick

-- whether tick t, with this reading, adds an entry to these
unfoldable pub adds : Settings → List Conversion → ℕ → ℕ → Bool
adds s entries t reading = is_time s t && (not (leb (most s) (length entries)) && logs s entries reading)

abbrev pub added : Settings → List Conversion → ℕ → ℕ → List Conversion
added s entries t reading = if adds s entries t reading then record { tick = t; reading = reading } ∷ [] else []

-- one more conversion, when so many entries count
entry_more : (s : Settings) (log : List Conversion) (c : Conversion)
    → take (most s) (log ++ (if logs s log c.reading then c ∷ [] else []))
    ≡ take (most s) log
    ++ (if not (leb (most s) (length (take (most s) log))) && logs s (take (most s) log) c.reading then c ∷ [] else [])
entry_more s log c = rw (logs_taken s log c.reading) (by_log (logs s log c.reading))
  where
    full : (t : Bool) → take (most s) log ++ (if t then [] else c ∷ []) ≡ take (most s) log ++ (if not t && true then c ∷ [] else [])
    full true = refl
    full false = refl

    none : (t : Bool) → take (most s) log ≡ take (most s) log ++ (if not t && false then c ∷ [] else [])
    none true = sym (append-nil (take (most s) log))
    none false = sym (append-nil (take (most s) log))

    by_log : (b : Bool) → take (most s) (log ++ (if b then c ∷ [] else []))
        ≡ take (most s) log ++ (if not (leb (most s) (length (take (most s) log))) && b then c ∷ [] else [])
    by_log true = take_more (most s) log c ∙ full (leb (most s) (length (take (most s) log)))
    by_log false = rw (append-nil log) (none (leb (most s) (length (take (most s) log))))

pub history_more : (s : Settings) (rs : List ℕ) (r : ℕ)
    → history s (rs ++ r ∷ []) ≡ history s rs ++ added s (history s rs) (length rs + 1) r
unfolding history adds
history_more s rs r = rw (conversions_more s 1 rs r) (by_time (is_time s (length rs + 1)) (conversions_from s 1 rs))
  where
    by_time : (b : Bool) (cs : List Conversion)
        → take (most s) (to_log s (cs ++ (if b then record { tick = length rs + 1; reading = r } ∷ [] else [])))
        ≡ take (most s) (to_log s cs)
        ++ (if b && (not (leb (most s) (length (take (most s) (to_log s cs)))) && logs s (take (most s) (to_log s cs)) r)
        then record { tick = length rs + 1; reading = r } ∷ []
        else [])
    by_time true cs = rw (log_more s cs (record { tick = length rs + 1; reading = r }))
        (entry_more s (to_log s cs) (record { tick = length rs + 1; reading = r }))
    by_time false cs = rw (append-nil cs, append-nil (take (most s) (to_log s cs)))

-- what a list of entries never grows past
pub history_le : (s : Settings) (rs : List ℕ) → length (history s rs) ≤ most s
unfolding history
history_le s rs = rw (length-take (most s) (to_log s (conversions_from s 1 rs))) (omega arith)

-- ---- the stamp

pub stamp_more : (s : Settings) (es : List Conversion) (c : Conversion)
    → stamp s (es ++ c ∷ []) ≡ if eqb (length es) (uncounted s) then seconds_on c.tick s.clock else stamp s es
unfolding stamp clock_at
stamp_more s es c = by_suta s.suta es
  where
    by_suta : (b : Bool) (es : List Conversion)
        → clock_at s (drop (digit b) (es ++ c ∷ []))
        ≡ if eqb (length es) (digit b) then seconds_on c.tick s.clock else clock_at s (drop (digit b) es)
    by_suta false [] = refl
    by_suta false (x ∷ xs) = rw (ne_eqb (suc (length xs)) 0 (omega arith))
    by_suta true [] = refl
    by_suta true (x ∷ []) = refl
    by_suta true (x ∷ y ∷ ys) = rw (ne_eqb (suc (suc (length ys))) 1 (omega arith))

-- ---- numbers of entries

pub none_length : (es : List Conversion) → is_none es ≡ eqb (length es) 0
none_length [] = refl
none_length (c ∷ cs) = sym (ne_eqb (suc (length cs)) 0 (omega arith))

pub none_more : (es : List Conversion) (c : Conversion) → is_none (es ++ c ∷ []) ≡ false
none_more [] c = refl
none_more (x ∷ xs) c = refl

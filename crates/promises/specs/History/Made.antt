-- One more tick's reading, as it adds to the conversions that are made: those that an alarm start waits through, and the entries. Assumes
-- nothing.
use Rattle.std.specs.Prelude.{◌≡◌, refl, Bool, true, false, not, ◌&&◌, ◌||◌, List, [], ◌∷◌, ◌++◌, ℕ, ◌+◌, leb, length, if◌then◌else◌}
use Rattle.std.proofs.Common.{sym, ap, ◌∙◌, append_assoc, append-nil, arith, leb-true, le-leb, length-append}
use Rattle.std.proofs.lemmas.Bool.{false≢true, lt-leb}
use Rattle.promises.specs.History.{Settings, Conversion, is_time, alarms, conversions_from, from_alarm, to_log, most, history, before_alarm, waited, made, some_of}
use Rattle.promises.specs.History.Laws.{is_none, none_taken, conversions_more, logs, adds, history_more, most_pos}

-- ---- those that are waited through

-- what one more conversion adds to those before the first alarm
before_more : (s : Settings) (cs : List Conversion) (c : Conversion)
    → before_alarm s (cs ++ c ∷ [])
    ≡ before_alarm s cs ++ (if not (is_none (from_alarm s cs)) || alarms s c.reading then [] else c ∷ [])
unfolding before_alarm from_alarm
before_more s [] c = refl
before_more s (x ∷ xs) c = by_test (alarms s x.reading) (before_more s xs c)
  where
    by_test : (b : Bool)
        → before_alarm s (xs ++ c ∷ [])
        ≡ before_alarm s xs ++ (if not (is_none (from_alarm s xs)) || alarms s c.reading then [] else c ∷ [])
        → (if b then [] else x ∷ before_alarm s (xs ++ c ∷ []))
        ≡ (if b then [] else x ∷ before_alarm s xs)
        ++ (if not (is_none (if b then x ∷ xs else from_alarm s xs)) || alarms s c.reading then [] else c ∷ [])
    by_test true e = refl
    by_test false e = ap (λ (l : List Conversion). x ∷ l) e

-- one more reading
pub waited_more : (s : Settings) (rs : List ℕ) (r : ℕ)
    → waited s (rs ++ r ∷ [])
    ≡ waited s rs
    ++ (if is_time s (length rs + 1) && not (logs s (history s rs) r) then record { tick = length rs + 1; reading = r } ∷ [] else [])
unfolding waited history to_log logs
waited_more s rs r =
    rw (conversions_more s 1 rs r, none_taken (most s) (to_log s (conversions_from s 1 rs)) (most_pos s))
    (by_tests s.suta (is_time s (length rs + 1)) (conversions_from s 1 rs))
  where
    next : Conversion
    next = record { tick = length rs + 1; reading = r }

    turned : (t : Bool) (cs : List Conversion) → cs ++ (if t then [] else next ∷ []) ≡ cs ++ (if not t then next ∷ [] else [])
    turned true cs = refl
    turned false cs = refl

    by_tests : (b t : Bool) (cs : List Conversion)
        → (if b then before_alarm s (cs ++ (if t then next ∷ [] else [])) else [])
        ≡ (if b then before_alarm s cs else [])
        ++ (if t && not (not (b && is_none (if b then from_alarm s cs else cs)) || alarms s r) then next ∷ [] else [])
    by_tests true true cs = before_more s cs next ∙ turned (not (is_none (from_alarm s cs)) || alarms s r) (before_alarm s cs)
    by_tests true false cs = rw (append-nil cs, append-nil (before_alarm s cs))
    by_tests false true cs = refl
    by_tests false false cs = refl

-- ---- all that are made

-- what is not logged comes before every entry
unlogged_none : (s : Settings) (es : List Conversion) (reading : ℕ) → logs s es reading ≡ false → es ≡ []
unfolding logs
unlogged_none s [] reading e = refl
unlogged_none s (c ∷ cs) reading e = by s.suta e
  where
    by : {A : Type 0} (b : Bool) → (not (b && false) || alarms s reading) ≡ false → A
    by true f = absurd (false≢true (sym f))
    by false f = absurd (false≢true (sym f))

-- so conversions do not end before there is an entry
full_logs : (s : Settings) (rs : List ℕ) (r : ℕ) → leb (most s) (length (history s rs)) ≡ true → logs s (history s rs) r ≡ false → ⊥
full_logs s rs r full unlogged =
    let none : length (history s rs) ≡ 0 = rw (unlogged_none s (history s rs) r unlogged) in
    omega (arith, most_pos s, leb-true (most s) (length (history s rs)) full, none)

-- one more at each conversion time, until conversions end
pub made_more : (s : Settings) (rs : List ℕ) (r : ℕ)
    → made s (rs ++ r ∷ [])
    ≡ made s rs
    ++ (if is_time s (length rs + 1) && not (leb (most s) (length (history s rs))) then record { tick = length rs + 1; reading = r } ∷ [] else [])
unfolding made adds
made_more s rs r =
    rw (waited_more s rs r, history_more s rs r)
    (by_tests (is_time s (length rs + 1)) (leb (most s) (length (history s rs))) (logs s (history s rs) r) refl refl)
  where
    next : Conversion
    next = record { tick = length rs + 1; reading = r }

    by_tests : (a b l : Bool) → leb (most s) (length (history s rs)) ≡ b → logs s (history s rs) r ≡ l
        → (waited s rs ++ (if a && not l then next ∷ [] else [])) ++ (history s rs ++ (if a && (not b && l) then next ∷ [] else []))
        ≡ (waited s rs ++ history s rs) ++ (if a && not b then next ∷ [] else [])
    by_tests false b l e f = simp append-nil
    by_tests true true true e f = simp append-nil
    by_tests true true false e f = absurd (full_logs s rs r e f)
    by_tests true false true e f = simp (append-nil, append_assoc)
    by_tests true false false e f = rw (unlogged_none s (history s rs) r f) (simp append-nil)

-- a tick at which none is made adds to neither
pub none_made : (s : Settings) (rs : List ℕ) (r : ℕ) → (is_time s (length rs + 1) && not (leb (most s) (length (history s rs)))) ≡ false
    → (waited s (rs ++ r ∷ []) ≡ waited s rs) × (history s (rs ++ r ∷ []) ≡ history s rs)
unfolding adds
none_made s rs r none =
    rw (waited_more s rs r, history_more s rs r)
    (by_tests (is_time s (length rs + 1)) (leb (most s) (length (history s rs))) (logs s (history s rs) r) none refl refl)
  where
    next : Conversion
    next = record { tick = length rs + 1; reading = r }

    by_tests : (a b l : Bool) → (a && not b) ≡ false → leb (most s) (length (history s rs)) ≡ b → logs s (history s rs) r ≡ l
        → (waited s rs ++ (if a && not l then next ∷ [] else []) ≡ waited s rs)
        × (history s rs ++ (if a && (not b && l) then next ∷ [] else []) ≡ history s rs)
    by_tests false b l d e f = (append-nil (waited s rs), append-nil (history s rs))
    by_tests true true true d e f = (append-nil (waited s rs), append-nil (history s rs))
    by_tests true true false d e f = absurd (full_logs s rs r e f)
    by_tests true false l d e f = absurd (false≢true (sym d))

-- ---- one of them alarms

pub some_more : (test : ℕ → Bool) (cs : List Conversion) (c : Conversion) → some_of test (cs ++ c ∷ []) ≡ (test c.reading || some_of test cs)
unfolding some_of
some_more test [] c = refl
some_more test (x ∷ xs) c = rw (some_more test xs c) (swapped (test x.reading) (test c.reading) (some_of test xs))
  where
    swapped : (a b d : Bool) → (a || (b || d)) ≡ (b || (a || d))
    swapped true true d = refl
    swapped true false d = refl
    swapped false b d = refl

-- ---- which are waited through

-- after so many conversions the next is waited through, or ends the wait, exactly if an alarm start has no entry yet
pub waited_number : (s : Settings) (rs : List ℕ) (r : ℕ)
    → leb (length (made s rs)) (length (waited s (rs ++ r ∷ []))) ≡ is_none (history s rs)
unfolding made
waited_number s rs r =
    rw (waited_more s rs r, length-append (waited s rs) (history s rs))
    (by_logs (is_time s (length rs + 1)) (logs s (history s rs) r) refl)
  where
    next : Conversion
    next = record { tick = length rs + 1; reading = r }

    longer : (n : ℕ) (es : List Conversion) → leb (n + length es) n ≡ is_none es
    longer n [] = le-leb (n + 0) n (omega arith)
    longer n (e ∷ es) = lt-leb (n + length (e ∷ es)) n (omega arith)

    by_logs : (a l : Bool) → logs s (history s rs) r ≡ l
        → leb (length (waited s rs) + length (history s rs)) (length (waited s rs ++ (if a && not l then next ∷ [] else []))) ≡ is_none (history s rs)
    by_logs true true e = rw (append-nil (waited s rs)) (longer (length (waited s rs)) (history s rs))
    by_logs false l e = rw (append-nil (waited s rs)) (longer (length (waited s rs)) (history s rs))
    by_logs true false e =
        rw (unlogged_none s (history s rs) r e, length-append (waited s rs) (next ∷ []))
        (le-leb (length (waited s rs) + 0) (length (waited s rs) + 1) (omega arith))

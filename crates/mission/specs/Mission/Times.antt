-- The conversion times of a mission, by the number of its ticks: "with delay D the first conversion is on tick 60 × D + 1, then
-- every period" (document 01, "A mission"). Delay register and counters say after each tick which number it had.
-- Assumes nothing.
use Rattle.std.specs.Prelude.{◌≡◌, refl, Bool, true, not, ◌&&◌, List, eqb, leb, ltb, T, if◌then◌else◌}
use Rattle.std.proofs.Common.{sym, ◌∙◌, mod-eq_of_lt}
use Rattle.std.proofs.Math.Path.{ap}
use Rattle.std.proofs.Math.Bool.{not-not, and-true}
use Rattle.std.proofs.Math.Logic.{dite}
use Prim.Native.Nat.{ℕ, suc, ◌+◌, ◌-◌, ◌*◌, ◌/◌, ◌%◌, ◌≤◌, ◌<◌}
use Rattle.std.proofs.Math.Nat.{mod-lt, mod_self, suc-mod, sub-zero, zero-mod}
use Rattle.std.proofs.Math.Decide.{ℕ_discrete, dec_lt}
use native.Mathlib.Omega.{arith}
use borrow.Author.Tests.{ne_eqb, lt-leb, le-leb, lt-ltb, le-ltb}
use Rattle.bits.specs.Choose.{either, choice}
use Rattle.image.specs.Keeps.{Run, free}
use Rattle.image.specs.Leaves.{word_left, Flag, spares, touched, Leaves}
use Rattle.image.specs.Registers.{mip, rate, delay}
use Rattle.mission.specs.Mission.{may_start, started, started_counters, period, delaying, minute_over, converting, due, next_minute, next_wait, ticked, ticked_counters}
use Rattle.mission.specs.Mission.Commands.{may_start_lem, starts}
use Rattle.mission.specs.Mission.Frames.{mip_ticked}
use Rattle.mission.specs.Mission.Laws.{period_pos}
use Rattle.conversion.specs.Conversion.Settings.{SameSettings}
use Rattle.mission.specs.Mission.Settings.{settings_ticked, settings_started, period_same}
use Rattle.mission.specs.Mission.Ticks.{counters_ticked, delay_ticked}
use Rattle.conversion.specs.Conversion.Whole.{Whole}
use Rattle.mission.specs.declared.Counters.{Counters}

-- tick t, counted from 1, is a conversion time of a mission with delay d and period p
unfoldable pub is_time : ℕ → ℕ → ℕ → Bool
is_time d p t = ltb (60 * d) t && eqb ((t - 60 * d - 1) % p) 0

-- ---- after t ticks

-- the delay's minute
unfoldable pub minute_at : ℕ → ℕ → ℕ
minute_at d t = if ltb t (60 * d) then t % 60 else 0

-- ticks to the next conversion time
unfoldable pub wait_at : ℕ → ℕ → ℕ → ℕ
wait_at d p t = (p - (t - 60 * d) % p) % p

-- ---- numbers

wait_none : (p : ℕ) → (p - 0) % p ≡ 0
wait_none p = rw (sub-zero p, mod_self p)

wait_some : {p r : ℕ} → 0 < r → r < p → (p - r) % p ≡ p - r
wait_some lo hi = mod-eq_of_lt (omega arith)

-- of a period p with r ticks over, none is left to wait exactly if none is over
wait_over : (p r : ℕ) → r < p → eqb ((p - r) % p) 0 ≡ eqb r 0
wait_over p r h =
    dite (ℕ_discrete r 0) (λ e. rw (e, wait_none p))
    (λ ne. rw (wait_some {p = p} {r = r} (omega arith) h, ne_eqb (p - r) 0 (omega arith), ne_eqb r 0 ne))

-- one tick more
wait_next : (p r : ℕ) → r < p → (if eqb r 0 then p - 1 else (p - r) % p - 1) ≡ (p - suc r % p) % p
wait_next p r h =
    dite (ℕ_discrete r 0) (λ e. rw e (dite (ℕ_discrete p 1) (λ one. rw one) first))
    (λ ne.
    rw (ne_eqb r 0 ne, wait_some {p = p} {r = r} (omega arith) h)
    (dite (ℕ_discrete (suc r) p) (λ e. rw (e, mod_self p, wait_none p) (omega arith)) (later ne)))
  where
    first : (p ≡ 1 → ⊥) → p - 1 ≡ (p - 1 % p) % p
    first ne =
        let more : 1 < p = omega arith in
        rw (mod-eq_of_lt more, mod-eq_of_lt {n = p - 1} {m = p} (omega arith))

    later : (r ≡ 0 → ⊥) → (suc r ≡ p → ⊥) → p - r - 1 ≡ (p - suc r % p) % p
    later ne other =
        let more : suc r < p = omega arith in
        rw (mod-eq_of_lt more, mod-eq_of_lt {n = p - suc r} {m = p} (omega arith)) (omega arith)

module _ (d t : ℕ) where
  delay_next : (if ltb t (60 * d) && leb 59 (minute_at d t) then d - t / 60 - 1 else d - t / 60) ≡ d - suc t / 60
  unfolding minute_at
  delay_next =
      dite (dec_lt t (60 * d))
      (λ lt.
      rw (lt-ltb t (60 * d) lt)
      (dite (dec_lt (t % 60) 59) (λ below. rw (lt-leb 59 (t % 60) below) (omega arith))
      (λ over. let last : 59 ≤ t % 60 = omega arith in rw (le-leb 59 (t % 60) last) (omega arith))))
      (λ ge. let past : 60 * d ≤ t = omega arith in rw (le-ltb t (60 * d) past) (omega arith))

  minute_next : (if ltb t (60 * d) then (if leb 59 (minute_at d t) then 0 else minute_at d t + 1) else minute_at d t) ≡ minute_at d (suc t)
  unfolding minute_at
  minute_next =
      dite (dec_lt t (60 * d))
      (λ lt.
      rw (lt-ltb t (60 * d) lt)
      (dite (dec_lt (t % 60) 59)
      (λ below.
      let more : suc t < 60 * d = omega arith in
      rw (lt-leb 59 (t % 60) below, lt-ltb (suc t) (60 * d) more) (omega arith))
      (λ over.
      let last : 59 ≤ t % 60 = omega arith in
      rw (le-leb 59 (t % 60) last) (either (λ (n : ℕ). 0 ≡ n) (ltb (suc t) (60 * d)) (λ e. omega arith) (λ e. refl)))))
      (λ ge.
      let past : 60 * d ≤ t = omega arith in
      let more : 60 * d ≤ suc t = omega arith in
      rw (le-ltb t (60 * d) past, le-ltb (suc t) (60 * d) more))

  module _ (p : ℕ) (pos : 0 < p) where
    wait_ticked : (if not (ltb t (60 * d)) then (if eqb (wait_at d p t) 0 then p - 1 else wait_at d p t - 1) else wait_at d p t)
        ≡ wait_at d p (suc t)
    unfolding wait_at
    wait_ticked =
        dite (dec_lt t (60 * d))
        (λ lt.
        let now : t - 60 * d ≡ 0 = omega arith in
        let next : suc t - 60 * d ≡ 0 = omega arith in
        rw (lt-ltb t (60 * d) lt, now, next))
        (λ ge.
        let past : 60 * d ≤ t = omega arith in
        let next : suc t - 60 * d ≡ suc (t - 60 * d) = omega arith in
        let over : (t - 60 * d) % p < p = mod-lt (t - 60 * d) pos in
        rw (le-ltb t (60 * d) past, wait_over p ((t - 60 * d) % p) over, next, suc-mod (t - 60 * d) p)
        (wait_next p ((t - 60 * d) % p) over))

    time_next : (not (ltb t (60 * d)) && eqb (wait_at d p t) 0) ≡ is_time d p (suc t)
    unfolding wait_at is_time
    time_next =
        dite (dec_lt t (60 * d))
        (λ lt. let next : suc t ≤ 60 * d = omega arith in rw (lt-ltb t (60 * d) lt, le-ltb (60 * d) (suc t) next))
        (λ ge.
        let past : 60 * d ≤ t = omega arith in
        let next : 60 * d < suc t = omega arith in
        let same : suc t - 60 * d - 1 ≡ t - 60 * d = omega arith in
        rw (le-ltb t (60 * d) past, lt-ltb (60 * d) (suc t) next, same)
        (wait_over p ((t - 60 * d) % p) (mod-lt (t - 60 * d) pos)))

-- ---- a mission after t ticks

pub record OnTime (d p t : ℕ) (image : List ℕ) (c : Counters) : Type 0 where
  pub running : mip image ≡ true
  pub rated : rate image ≡ 0 → ⊥
  pub every : period image ≡ p
  pub left : delay image ≡ d - t / 60
  pub minute : c.minute ≡ minute_at d t
  pub wait : c.wait ≡ wait_at d p t

-- as it starts
pub on_time_started : {image : List ℕ} → Whole image → (c : Counters) → may_start image ≡ true
    → OnTime (delay (started image)) (period (started image)) 0 (started image) (started_counters image c)
unfolding started_counters minute_at wait_at
on_time_started {image} w c m =
    let none : 0 - 60 * delay (started image) ≡ 0 = omega arith in
    rw m
    (record {
      running = (starts w m).mip;
      rated = λ e. (may_start_lem image m).rate (sym (settings_started image).rate ∙ e);
      every = refl;
      left = omega arith;
      minute = choice (λ (n : ℕ). 0 ≡ n) (ltb 0 (60 * delay (started image))) refl refl;
      wait = rw (none, zero-mod (period (started image)), wait_none (period (started image)));
    })

-- a change that leaves settings, delay and MIP leaves it on time
pub on_time_left : {d p t : ℕ} {runs : List Run} {flags : List Flag} {before after : List ℕ} {c : Counters} → Leaves runs flags before after
    → SameSettings before after
    → T (free (touched runs flags) 0x0216 3)
    → T (free runs 0x0215 1)
    → T (spares flags 0x0215 1)
    → OnTime d p t before c
    → OnTime d p t after c
on_time_left l same delay byte mip o =
    record {
      running = l.bits 0x0215 1 byte mip tt ∙ o.running;
      rated = λ e. o.rated (sym same.rate ∙ e);
      every = period_same same ∙ o.every;
      left = word_left 0x0216 3 l delay ∙ o.left;
      minute = o.minute;
      wait = o.wait;
    }

module _ {d p t : ℕ} {image : List ℕ} {c : Counters} (o : OnTime d p t image c) where
  period_positive : 0 < p
  period_positive = rw (← o.every) (period_pos image o.rated)

  -- the delay is over exactly when its minutes are
  delay_over : eqb (delay image) 0 ≡ not (ltb t (60 * d))
  delay_over =
      rw o.left
      (dite (dec_lt t (60 * d)) (λ lt. rw (lt-ltb t (60 * d) lt, ne_eqb (d - t / 60) 0 (omega arith)))
      (λ ge.
      let past : 60 * d ≤ t = omega arith in
      let none : d - t / 60 ≡ 0 = omega arith in
      rw (le-ltb t (60 * d) past, none)))

  delaying_time : delaying image ≡ ltb t (60 * d)
  unfolding delaying
  delaying_time = rw (o.running, delay_over) (not-not (ltb t (60 * d)))

  converting_time : converting image ≡ not (ltb t (60 * d))
  unfolding converting
  converting_time = rw (o.running, delay_over, ne_eqb (rate image) 0 o.rated, and-true)

  -- tick t + 1 is a conversion time by its number alone
  pub due_time : due image c ≡ is_time d p (suc t)
  unfolding due
  due_time = rw (converting_time, o.wait) (time_next d t p period_positive)

  -- after it, one more is over
  pub on_time_ticked : Whole image → (reading : ℕ) → OnTime d p (suc t) (ticked image c reading) (ticked_counters image c reading)
  unfolding next_minute next_wait minute_over
  on_time_ticked w reading =
      let same = settings_ticked image c reading in
      let counters = counters_ticked image c reading in
      record {
        running = mip_ticked image c reading ∙ o.running;
        rated = λ e. o.rated (sym same.rate ∙ e);
        every = period_same same ∙ o.every;
        left = delay_ticked image c reading w ∙ rw (delaying_time, o.minute, o.left) (delay_next d t);
        minute = ap (λ (k : Counters). k.minute) counters ∙ rw (delaying_time, o.minute) (minute_next d t);
        wait = ap (λ (k : Counters). k.wait) counters
            ∙ rw (converting_time, o.wait, o.every) (wait_ticked d t p period_positive);
      }

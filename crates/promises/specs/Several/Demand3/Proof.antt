-- Demand 3 for the line, from demand 3 of each of its tags: where every tag gives the same bits in both runs, so does the line. Assumes
-- nothing.
use Rattle.std.specs.Prelude.{◌≡◌, refl, Bool, true, false, ℕ, ◌<◌, eqb, drop, get_or, if◌then◌else◌}
use Rattle.std.proofs.Common.{sym, ap, subst, ◌∙◌}
use mathlib.Core.List.{List, [], ◌∷◌, ◌++◌, flat_map}
use Rattle.bits.specs.Each.{each_same}
use Rattle.promises.specs.Demand3 as demand3
use Rattle.promises.specs.Demand3.{Premises, Conclusions}
use Rattle.promises.specs.Demand3.Proof as demand3-proof
use Rattle.promises.specs.Runs as alone
use Rattle.promises.specs.Runs.{State, Event}
use Rattle.promises.specs.Several.{Line, LineEvent, count_of, tag_at, hears, heard, bit_of, line_of, Valid}
use Rattle.promises.specs.Several.Demand3.{Alike, AllAlike, LinePremises, LineDemand3}
use Rattle.promises.specs.Several.Laws.{run_tag, run_line}
use Rattle.promises.specs.Several.Proof.{AllValid, valid_accepted}

-- ---- what a tag hears of two events that are alike: nothing, or two events that are

data Both : List Event → List Event → Type 0 where
  neither : Both [] []
  one : (e f : Event) → demand3.Alike e f → Both (e ∷ []) (f ∷ [])

both_hear : {count : ℕ} (place : ℕ) {e f : LineEvent} → Alike count e f → Both (hears place e) (hears place f)
both_hear place (Alike.slots bit) = Both.one (Event.slot bit) (Event.slot bit) (demand3.Alike.slots bit)
both_hear place Alike.resets = Both.one Event.reset Event.reset demand3.Alike.resets
both_hear place Alike.shorts = Both.one Event.short Event.short demand3.Alike.shorts
both_hear place (Alike.ticks named p q there small-p small-q) = by (eqb named place)
  where
    by : (b : Bool) → Both (if b then Event.tick p ∷ [] else []) (if b then Event.tick q ∷ [] else [])
    by true = Both.one (Event.tick p) (Event.tick q) (demand3.Alike.ticks p q small-p small-q)
    by false = Both.neither

-- so what it hears over two runs is alike
alike_then : {es fs : List Event} → Both es fs → (s t : State) (E F : List Event) →
    alone.Together (λ u e v f. demand3.Alike e f) (alone.run s es).state E (alone.run t fs).state F →
    alone.Together (λ u e v f. demand3.Alike e f) s (es ++ E) t (fs ++ F)
unfolding alone.Together alone.run
alike_then Both.neither s t E F rest = rest
alike_then (Both.one e f alike) s t E F rest = (alike, rest)

heard_alike : (count place : ℕ) (E F : List LineEvent) → AllAlike count E F → (s t : State) →
    alone.Together (λ u e v f. demand3.Alike e f) s (heard place E) t (heard place F)
unfolding AllAlike flat_map alone.Together
heard_alike count place [] [] alike s t = tt
heard_alike count place [] (f ∷ fs) alike s t = absurd alike
heard_alike count place (e ∷ es) [] alike s t = absurd alike
heard_alike count place (e ∷ es) (f ∷ fs) alike s t =
    alike_then (both_hear place alike.0) s t (heard place es) (heard place fs) (heard_alike count place es fs alike.1 _ _)

-- ---- the line's bits

-- of two runs that give the same bits, the first give the same, and those behind them
bits_then : {es fs : List Event} → Both es fs → (s t : State) (E F : List Event) →
    (alone.run s (es ++ E)).line ≡ (alone.run t (fs ++ F)).line →
    (bit_of s es ≡ bit_of t fs) × ((alone.run (alone.run s es).state E).line ≡ (alone.run (alone.run t fs).state F).line)
unfolding alone.run
bits_then Both.neither s t E F same = (refl, same)
bits_then (Both.one e f alike) s t E F same =
    (ap (λ (line : List Bool). get_or line 0 true) same, ap (drop 1) same)

lines_agree : (count : ℕ) (s t : ℕ → State) (E F : List LineEvent) → AllAlike count E F →
    ((place : ℕ) → place < count → (alone.run (s place) (heard place E)).line ≡ (alone.run (t place) (heard place F)).line) →
    line_of count s E ≡ line_of count t F
unfolding AllAlike line_of flat_map
lines_agree count s t [] [] alike same = refl
lines_agree count s t [] (f ∷ fs) alike same = absurd alike
lines_agree count s t (e ∷ es) [] alike same = absurd alike
lines_agree count s t (e ∷ es) (f ∷ fs) alike same =
    let apart : (place : ℕ) → place < count → (bit_of (s place) (hears place e) ≡ bit_of (t place) (hears place f))
    × ((alone.run (alone.run (s place) (hears place e)).state (heard place es)).line ≡ (alone.run (alone.run (t place) (hears place f)).state (heard place fs)).line) =
    λ place h. bits_then (both_hear place alike.0) (s place) (t place) (heard place es) (heard place fs) (same place h) in
    let bit = each_same count (λ place. bit_of (s place) (hears place e)) (λ place. bit_of (t place) (hears place f)) (λ place h. (apart place h).0) in
    let rest =
    lines_agree count (λ place. (alone.run (s place) (hears place e)).state) (λ place. (alone.run (t place) (hears place f)).state) es fs
    alike.1 (λ place h. (apart place h).1) in
    λ i. bit i ∷ rest i

-- ---- every event is accepted

both_valid : {count : ℕ} {e f : LineEvent} → Alike count e f → Valid count e × Valid count f
both_valid (Alike.slots bit) = (tt, tt)
both_valid Alike.resets = (tt, tt)
both_valid Alike.shorts = (tt, tt)
both_valid (Alike.ticks place m n there small-m small_n) = ((there, small-m), (there, small_n))

alike_valid : (count : ℕ) (E F : List LineEvent) → AllAlike count E F → AllValid count E × AllValid count F
unfolding AllAlike AllValid
alike_valid count [] [] alike = (tt, tt)
alike_valid count [] (f ∷ fs) alike = absurd alike
alike_valid count (e ∷ es) [] alike = absurd alike
alike_valid count (e ∷ es) (f ∷ fs) alike =
    let first = both_valid alike.0 in
    let rest = alike_valid count es fs alike.1 in
    ((first.0, rest.0), (first.1, rest.1))

-- ---- demand 3

-- of the tag at a place
tag_premises : {l m : Line} {E F : List LineEvent} → LinePremises l m E F → (place : ℕ) → place < count_of l →
    Premises (tag_at l place) (tag_at m place) (heard place E) (heard place F)
tag_premises {l} {m} {E} {F} p place h =
    let begins = p.begins place h in
    record {
      begins =
          record {
            reset_s = begins.reset_s;
            reset_t = begins.reset_t;
            checked_s = begins.checked_s;
            checked_t = begins.checked_t;
            number = begins.number;
            held = begins.held;
            mark = begins.mark;
            alike = heard_alike (count_of l) place E F p.alike (tag_at l place) (tag_at m place);
          };
      fields = p.fields place h;
      alarms = p.alarms place h;
    }

pub line_demand3 : LineDemand3
line_demand3 l m E F p =
    let valid = alike_valid (count_of l) E F p.alike in
    let ok-l = valid_accepted p.fit_l E valid.0 in
    let ok-m = valid_accepted p.fit_m F (subst (λ (n : ℕ). AllValid n F) p.count valid.1) in
    let tag : (place : ℕ) → place < count_of l → Conclusions (tag_at l place) (tag_at m place) (heard place E) (heard place F) =
    λ place h. demand3-proof.demand3 (tag_at l place) (tag_at m place) (heard place E) (heard place F) (tag_premises p place h) in
    record {
      line =
          run_line l p.fit_l.seven E ok-l
          ∙ lines_agree (count_of l) (tag_at l) (tag_at m) E F p.alike (λ place h. (tag place h).line)
          ∙ ap (λ (n : ℕ). line_of n (tag_at m) F) p.count
          ∙ sym (run_line m p.fit_m.seven F ok-m);
      end_l = run_tag l p.fit_l.seven E ok-l;
      end_m = λ place h. run_tag m p.fit_m.seven F ok-m place (subst (λ (n : ℕ). place < n) p.count h);
      left_l = λ place h. (tag place h).left_s;
      left_m = λ place h. (tag place h).left_t;
    }

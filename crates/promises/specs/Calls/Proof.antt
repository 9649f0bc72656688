-- One call is one event, or is refused; calls one after the other are a run. Assumes nothing.
use Rattle.std.specs.Prelude.{◌≡◌, Bool, true, false, ◌&&◌, List, [], ◌∷◌, ◌++◌, map, ℕ, suc, ◌≤◌, ◌<◌, eqb, leb, ℤ, length, get_or, take, drop, if◌then◌else◌}
use Rattle.std.proofs.Math.Path.{refl, ap, subst}
use Rattle.std.proofs.Common.{sym, ◌∙◌, arith, eqb-true, leb-true, leb-false, lt-ltb, take_at}
use Rattle.std.proofs.Math.Logic.{dite}
use Rattle.std.proofs.Math.Decide.{dec_le}
use Rattle.std.proofs.lemmas.Bool.{eqb-false}
use Rattle.std.proofs.lemmas.List.{length-map}
use Rattle.batch.specs.Batch.{Listed}
use Rattle.bits.specs.Bits.{digit}
use Rattle.bits.specs.Bits.Laws.{digit_same}
use Rattle.record.specs.declared.Answered.{Answered}
use Rattle.record.specs.Record.{Outcome}
use Rattle.tag.specs.Tag.{event_of, step}
use Rattle.tag.proofs.Tag.Laws.{step_taken, event_tick, event_reading, event_other}
use Rattle.promises.specs.Batches.{events_of, asked_number, Leaves}
use Rattle.promises.specs.Batches.Words.{asked_none}
use Rattle.promises.specs.Batches.Proof.{batches}
use Rattle.promises.specs.Calls.{Made, Called, Handed, Meaning, meaning_of, Chain, Calls}
use Rattle.promises.specs.Demand2.{Lists, demand2}
use Rattle.promises.specs.Demand3.{JustReset}
use Rattle.promises.specs.Demand3.Proof.{demand3}
use Rattle.promises.specs.History
use Rattle.promises.specs.Runs.{State, Event, leaves, happens, after, line_bit, Ran, run, Reached}
use Rattle.promises.specs.Sentences.Dump.{DumpOf}
use Rattle.promises.specs.Sentences.Events.Proof.{number_accepts}
use Rattle.promises.specs.Runs.Laws.{Sound, reached_sound, slot_happens, reset_happens, short_happens, tick_happens, line_length, run_append, reached_after, reached_run}
use Rattle.promises.specs.Sentences.Course.{mission_ticks, settings_of}

-- ---- one call, by what it is taken for

-- its outcome is the event's, or a refusal's
Gives : State → Outcome → Meaning → Type 0
Gives s o (Meaning.taken e) = o ≡ happens s e
Gives s o Meaning.refused = (o.answered.line ≡ true) × (leaves o ≡ s)

step_gives : {s : State} → Sound s → (code reading : ℕ) → Gives s (step s.image s.tag code reading) (meaning_of code reading)
unfolding Gives meaning_of event_of
step_gives {s} sound code reading =
    rw (step_taken s.image s.tag code reading sound.size sound.ranges)
    (by (eqb code 0) (eqb code 1) (eqb code 2) (eqb code 4) (eqb code 3) (leb reading 2047) refl refl refl refl refl refl)
  where
    by : (zero one two four three small : Bool) →
        eqb code 0 ≡ zero → eqb code 1 ≡ one → eqb code 2 ≡ two → eqb code 4 ≡ four → eqb code 3 ≡ three → leb reading 2047 ≡ small →
        Gives s (event_of s.image s.tag code reading)
        (if zero then Meaning.taken (Event.slot false)
        else if one then Meaning.taken (Event.slot true)
        else if two then Meaning.taken Event.reset
        else if four then Meaning.taken Event.short
        else if three && small then Meaning.taken (Event.tick reading)
        else Meaning.refused)
    by true one two four three small p q r f t h = rw (eqb-true code 0 p) (sym (slot_happens sound false))
    by false true two four three small p q r f t h = rw (eqb-true code 1 q) (sym (slot_happens sound true))
    by false false true four three small p q r f t h = rw (eqb-true code 2 r) (sym (reset_happens sound))
    by false false false true three small p q r f t h = rw (eqb-true code 4 f) (sym (short_happens sound))
    by false false false false true true p q r f t h =
        let low = leb-true reading 2047 h in
        event_tick s.image s.tag code reading (eqb-true code 3 t) low ∙ sym (tick_happens sound reading low)
    by false false false false true false p q r f t h =
        rw (event_reading s.image s.tag code reading (eqb-true code 3 t) (leb-false reading 2047 h)) (refl, refl)
    by false false false false false small p q r f t h =
        rw (event_other s.image s.tag code reading (omega (arith, eqb-false code 0 p, eqb-false code 1 q)) (eqb-false code 2 r) (eqb-false code 3 t) (eqb-false code 4 f))
        (refl, refl)

-- of a reached state: an event that is taken, one that is refused, and a reached state again whatever comes
module _ {s : State} (reached : Reached s) (code reading : ℕ) where
  pub step_taken_is : {e : Event} → meaning_of code reading ≡ Meaning.taken e → step s.image s.tag code reading ≡ happens s e
  unfolding Gives
  step_taken_is m = subst (Gives s (step s.image s.tag code reading)) m (step_gives (reached_sound reached) code reading)

  pub step_refused_is : meaning_of code reading ≡ Meaning.refused →
      ((step s.image s.tag code reading).answered.line ≡ true) × (leaves (step s.image s.tag code reading) ≡ s)
  unfolding Gives
  step_refused_is m = subst (Gives s (step s.image s.tag code reading)) m (step_gives (reached_sound reached) code reading)

  pub reached_step : Reached (leaves (step s.image s.tag code reading))
  unfolding after
  reached_step = by (meaning_of code reading) refl
    where
      by : (m : Meaning) → meaning_of code reading ≡ m → Reached (leaves (step s.image s.tag code reading))
      by (Meaning.taken e) m = subst Reached (ap leaves (sym (step_taken_is m))) (reached_after reached e)
      by Meaning.refused m = subst Reached (sym (step_refused_is m).1) reached

-- what a call that met its contract saw and left is the definition's
called_step : {s t : State} {code reading : ℕ} {bit : Bool} → Called s code reading bit t →
    let o = step s.image s.tag code reading in (bit ≡ o.answered.line) × (t ≡ leaves o)
called_step {s} {code = code} {reading = reading} (Called.called κs image r exit p e) =
    let o : List ℕ → Outcome = λ image. step image s.tag code reading in
    let answered = p.0 ∙ ap (λ i. (o i).answered) e in
    let left = p.1 ∙ ap (λ i. (o i).image) e in
    (ap (λ (a : Answered). a.line) answered, λ i. record { image = left i; tag = (answered i).tag })

module _ {s t : State} {code reading : ℕ} {bit : Bool} (reached : Reached s) (call : Called s code reading bit t) where
  call_taken : {e : Event} → meaning_of code reading ≡ Meaning.taken e → (bit ≡ line_bit s e) × (t ≡ after s e)
  unfolding after
  call_taken {e} m =
      let given = step_taken_is reached code reading m in
      let seen = called_step call in
      (seen.0 ∙ ap (λ (o : Outcome). o.answered.line) given, seen.1 ∙ ap leaves given)

  call_refused : meaning_of code reading ≡ Meaning.refused → (bit ≡ true) × (t ≡ s)
  call_refused m =
      let given = step_refused_is reached code reading m in
      let seen = called_step call in
      (seen.0 ∙ given.0, seen.1 ∙ given.1)

  call_again : Reached t
  call_again = subst Reached (sym (called_step call).1) (reached_step reached code reading)

-- ---- a list

-- bits that give the same bytes are the same
digits_injective : (bits others : List Bool) → map digit bits ≡ map digit others → bits ≡ others
digits_injective [] [] e = refl
digits_injective [] (b ∷ others) e = let none : 0 ≡ suc (length (map digit others)) = ap length e in absurd (omega arith)
digits_injective (a ∷ bits) [] e = let none : suc (length (map digit bits)) ≡ 0 = ap length e in absurd (omega arith)
digits_injective (a ∷ bits) (b ∷ others) e =
    let first : a ≡ b = digit_same a b (ap (λ (l : List ℕ). get_or l 0 0) e) in
    let rest : bits ≡ others = digits_injective bits others (ap (drop 1) e) in
    λ i. first i ∷ rest i

-- one that is not refused whole is a run of its events
pub leaves_taken : {s : State} {words replies : List ℕ} {l : Listed} (bits : List Bool) → Leaves s.image s.tag words replies l →
    asked_number s.image s.tag words replies ≡ 0 → take l.batch.done l.replies ≡ map digit bits →
    run s (events_of words) ≡ record { line = bits; state = record { image = l.image; tag = l.batch.tag } }
leaves_taken {s} {words} {replies} {l} bits left asked seen =
    let same = left.same asked in
    let line = (run s (events_of words)).line in
    let first : take (length (events_of words)) l.replies ≡ map digit line =
    rw (left.bits asked) (take_at (map digit line) _ (length (events_of words)) (length-map line digit ∙ line_length s (events_of words))) in
    let told = digits_injective line bits (sym first ∙ ap (λ (n : ℕ). take n l.replies) (sym same.2) ∙ seen) in
    λ i. record { line = told i; state = record { image = sym same.1 i; tag = sym same.0 i } }

list_taken : {s t : State} {words : List ℕ} {room : ℕ} {bits : List Bool} → Reached s → Handed s words room bits t →
    length words ≤ room → run s (events_of words) ≡ record { line = bits; state = t }
list_taken {s} {words = words} reached (Handed.handed κs image lent replies r exit bits p e f seen) h =
    let left = rw (e, f) at (batches.lists κs image s.tag lent replies r exit p).1 in
    leaves_taken bits left (asked_none (reached_sound reached) words replies.now h) seen

-- one without leaves everything
list_few : {s t : State} {words : List ℕ} {room : ℕ} {bits : List Bool} → Handed s words room bits t → room < length words → t ≡ s
unfolding asked_number
list_few {s} {words = words} (Handed.handed κs image lent replies r exit bits p e f seen) h =
    let left = rw (e, f) at (batches.lists κs image s.tag lent replies r exit p).1 in
    let asked : asked_number s.image s.tag words replies.now ≡ 17 = rw (lt-ltb (length replies.now) (length words) h) in
    let all = left.refused (λ none. absurd (omega (arith, asked, none))) in
    λ i. record { image = all.2 i; tag = all.0 i }

list_again : {s t : State} {words : List ℕ} {room : ℕ} {bits : List Bool} → Reached s → Handed s words room bits t → Reached t
list_again {words = words} {room = room} reached call =
    dite (dec_le (length words) room)
    (λ h. subst Reached (ap (λ (r : Ran). r.state) (list_taken reached call h)) (reached_run (events_of words) reached))
    (λ few. subst Reached (sym (list_few call (omega (arith, few)))) reached)

-- ---- all together

made_reached : {s : State} → Made s → Reached s
made_reached (Made.made κs image number code r exit p zero) =
    subst Reached (λ i. record { image = sym p.1 i; tag = (sym p.0 i).tag })
    (Reached.new image.now number code (ap (λ (a : Answered). a.answer) (sym p.0) ∙ number_accepts zero))

chain_run : {s t : State} {events : List Event} {bits : List Bool} → Reached s → Chain s events bits t →
    run s events ≡ record { line = bits; state = t }
unfolding run
chain_run reached Chain.none = refl
chain_run {s} reached (Chain.taken {es = es} code reading m call rest) =
    let given = call_taken reached call m in
    let after = ap (λ (u : State). run u es) (sym given.1) ∙ chain_run (call_again reached call) rest in
    λ i. record { line = sym given.0 i ∷ (after i).line; state = (after i).state }
chain_run {s} reached (Chain.refused {es = es} code reading m call rest) =
    ap (λ (u : State). run u es) (sym (call_refused reached call m).1) ∙ chain_run (call_again reached call) rest
chain_run {s} reached (Chain.many {es = es} words h call rest) =
    let first = list_taken reached call h in
    let after = ap (λ (r : Ran). run r.state es) first ∙ chain_run (list_again reached call) rest in
    run_append s (events_of words) es ∙ (λ i. record { line = (first i).line ++ (after i).line; state = (after i).state })
chain_run reached (Chain.few {es = es} words h call rest) =
    ap (λ (u : State). run u es) (sym (list_few call h)) ∙ chain_run (list_again reached call) rest

reset_reached : {s : State} → JustReset s → Reached s
reset_reached r = subst Reached (sym r.reset) (reached_after r.reached Event.reset)

pub calls : Calls
calls =
    record {
      made = made_reached;
      again = call_again;
      listed = list_again;
      refused = λ reached m call. call_refused reached call m;
      taken = chain_run;
      listing = λ {s} {end} {e} {events} {bits} reached starts spares chain.
          let settings = settings_of s.image in
          let entries = History.history settings (mission_ticks (after s e) events) in
          subst
          (λ (u : State). (dump : List ℕ) → DumpOf u dump → (lent : List ℤ) → Lists settings entries u.tag.code dump lent)
          (ap (λ (r : Ran). r.state) (chain_run (reached_after reached e) chain))
          (demand2 e events reached starts spares);
      line = λ {s} {t} {u} {v} {E} {F} {seen} {other} premises first second.
          sym (ap (λ (r : Ran). r.line) (chain_run (reset_reached premises.begins.reset_s) first))
          ∙ (demand3 s t E F premises).line
          ∙ ap (λ (r : Ran). r.line) (chain_run (reset_reached premises.begins.reset_t) second);
    }

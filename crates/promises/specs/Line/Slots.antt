-- Slots of a tag one after the other, with no tick in between: over an image that stays, they are the exchange's run with the
-- image's answers. Assumes nothing.
use Rattle.std.specs.Prelude.{◌≡◌, refl, Bool, false, List, [], ◌∷◌, ◌++◌, map, ℕ, zero, suc, replicate}
use Rattle.std.proofs.Common.{ap, ◌∙◌, append_assoc}
use Rattle.exchange.specs.declared.Exchange.{Exchange}
use Rattle.exchange.specs.Exchange.{after_reset as exchange_reset, slot_of, asks}
use Rattle.exchange.specs.Runs as exchange
use Rattle.exchange.specs.Runs.{Way, way_slots, way_line, way_mode}
use Rattle.exchange.specs.Runs.Laws.{quiet_then}
use Rattle.exchange.specs.Runs.Choosing.{reset_way}
use Rattle.bus.specs.declared.Bus.{Bus}
use Rattle.bus.specs.declared.Deed.{Deed}
use Rattle.bus.specs.declared.Question.{Question}
use Rattle.select.specs.declared.Mode.{Mode}
use Rattle.event.specs.Event.{answer_to, performed, performed_counters, slotted, reset_tag}
use Rattle.record.specs.Record.{Outcome}
use Rattle.promises.specs.Runs.{State, Event, leaves, happens, after, line_bit, Ran, run, Kept}
use Rattle.promises.specs.Runs.Laws.{Sound, sound_after, slot_happens, reset_happens}
use Rattle.promises.specs.Words.{number_of}

-- the slots with these bits of the master, one after the other
unfoldable pub slots : State → List Bool → Ran
slots s [] = record { line = []; state = s }
slots s (bit ∷ bits) =
    let out = slotted s.image s.tag bit in
    let rest = slots (leaves out) bits in
    record { line = out.answered.line ∷ rest.line; state = rest.state }

-- the tag with another exchange, and after a deed that leaves this exchange
abbrev pub with_exchange : State → Exchange → State
with_exchange s x =
    record { image = s.image; tag = record { code = s.tag.code; counters = s.tag.counters; exchange = x } }

abbrev pub after_deed : Deed → State → Exchange → State
after_deed deed s x =
    record {
      image = performed deed x s.tag.counters s.image;
      tag = record { code = s.tag.code; counters = performed_counters deed s.tag.counters s.image; exchange = x };
    }

-- just after a reset
abbrev pub after_reset : State → State
after_reset s = with_exchange s (exchange_reset s.tag.exchange)

-- what the image answers
abbrev pub answers_of : State → Question → ℕ
answers_of s question = answer_to s.image s.tag.code question

-- ---- joining

pub slots_append : (s : State) (bits more : List Bool) →
    slots s (bits ++ more) ≡
    record { line = (slots s bits).line ++ (slots (slots s bits).state more).line; state = (slots (slots s bits).state more).state }
unfolding slots
slots_append s [] more = refl
slots_append s (bit ∷ bits) more =
    let out = slotted s.image s.tag bit in
    ap (λ (r : Ran). record { line = out.answered.line ∷ r.line; state = r.state }) (slots_append (leaves out) bits more)

pub slots_then : (s : State) (bits more : List Bool) {line rest : List Bool} {t u : State} →
    slots s bits ≡ record { line = line; state = t } → slots t more ≡ record { line = rest; state = u } →
    slots s (bits ++ more) ≡ record { line = line ++ rest; state = u }
slots_then s bits more p q = slots_append s bits more ∙ rw (p, q)

-- ---- the exchange's run

-- nothing is done but with the last of these slots, and with it this
unfoldable pub Ends : Deed → List Deed → Type 0
Ends deed [] = Deed.Nothing ≡ deed
Ends deed (d ∷ []) = d ≡ deed
Ends deed (d ∷ e ∷ es) = (d ≡ Deed.Nothing) × Ends deed (e ∷ es)

ends_quiet : (line : List Bool) → Ends Deed.Nothing (map (λ bit. Deed.Nothing) line)
unfolding Ends
ends_quiet [] = refl
ends_quiet (bit ∷ []) = refl
ends_quiet (bit ∷ b ∷ bs) = (refl, ends_quiet (b ∷ bs))

pub ends_lastly : (n : ℕ) (deed : Deed) → Ends deed (replicate n Deed.Nothing ++ (deed ∷ []))
unfolding Ends
ends_lastly zero deed = refl
ends_lastly (suc zero) deed = (refl, refl)
ends_lastly (suc (suc n)) deed = (refl, ends_lastly (suc n) deed)

slots_run : (s : State) (bits : List Bool) (deed : Deed) →
    let ran = exchange.run (answers_of s) s.tag.exchange bits in
    Ends deed ran.deeds → slots s bits ≡ record { line = ran.line; state = after_deed deed s ran.exchange }
unfolding slots exchange.run Ends slotted performed performed_counters
slots_run s [] deed e = rw (← e)
slots_run s (bit ∷ []) deed e = rw e
slots_run s (bit ∷ b ∷ bs) deed e =
    let slot = slot_of s.tag.exchange bit (answers_of s (asks s.tag.exchange bit)) in
    rw e.0
    (ap (λ (r : Ran). record { line = slot.line ∷ r.line; state = r.state }) (slots_run (with_exchange s slot.exchange) (b ∷ bs) deed e.1))

-- a run that does nothing leaves image and counters
pub slots_quiet : (s : State) (bits : List Bool) {x : Exchange} {line : List Bool} →
    exchange.run (answers_of s) s.tag.exchange bits ≡ exchange.quietly x line →
    slots s bits ≡ record { line = line; state = with_exchange s x }
unfolding performed performed_counters
slots_quiet s bits {x} {line} e =
    rw e at (slots_run s bits Deed.Nothing (rw e (ends_quiet line)))

-- one that does something with its last slot
pub slots_lastly : (s : State) (bits : List Bool) (n : ℕ) (deed : Deed) {x : Exchange} {line : List Bool} →
    exchange.run (answers_of s) s.tag.exchange bits ≡ record { exchange = x; line = line; deeds = replicate n Deed.Nothing ++ (deed ∷ []) } →
    slots s bits ≡ record { line = line; state = after_deed deed s x }
slots_lastly s bits n deed e =
    rw e at (slots_run s bits deed (rw e (ends_lastly n deed)))

-- ---- as events

-- what an event of this outcome leaves
after_event : (s : State) (e : Event) {out : Outcome} → happens s e ≡ out → after s e ≡ leaves out
unfolding after
after_event s e h = ap leaves h

pub line_event : (s : State) (e : Event) {out : Outcome} → happens s e ≡ out → line_bit s e ≡ out.answered.line
line_event s e h = ap (λ (o : Outcome). o.answered.line) h

run_event : (s : State) (e : Event) (es : List Event) {out : Outcome} → happens s e ≡ out →
    run s (e ∷ es) ≡ record { line = out.answered.line ∷ (run (leaves out) es).line; state = (run (leaves out) es).state }
unfolding run
run_event s e es h = rw (line_event s e h, after_event s e h)

pub run_slots : (s : State) (bits : List Bool) → Sound s → run s (map Event.slot bits) ≡ slots s bits
unfolding run slots
run_slots s [] sound = refl
run_slots s (bit ∷ bits) sound =
    let out = slotted s.image s.tag bit in
    let e = Event.slot bit in
    let next : Sound (leaves out) = rw (after_event s e (slot_happens sound bit)) at (sound_after e sound) in
    run_event s e (map Event.slot bits) (slot_happens sound bit) ∙
    ap (λ (r : Ran). record { line = out.answered.line ∷ r.line; state = r.state }) (run_slots (leaves out) bits next)

-- a reset, which gives 0, and the slots after it
pub run_reset : (s : State) (bits : List Bool) {line : List Bool} {t : State} → Sound s →
    slots (after_reset s) bits ≡ record { line = line; state = t } →
    run s (Event.reset ∷ map Event.slot bits) ≡ record { line = false ∷ line; state = t }
unfolding reset_tag
run_reset s bits sound e =
    let next : Sound (after_reset s) = rw (after_event s Event.reset (reset_happens sound)) at (sound_after Event.reset sound) in
    run_event s Event.reset (map Event.slot bits) (reset_happens sound) ∙
    ap (λ (r : Ran). record { line = false ∷ r.line; state = r.state }) (run_slots (after_reset s) bits next ∙ e)

-- ---- sessions: a reset, a ROM command that chooses the tag, and what comes after it

-- the tag chosen in this way: a memory command comes next
abbrev pub chosen_by : Way → State → Exchange
chosen_by way s = exchange.chosen (number_of s) (way_mode way false) s.tag.exchange.held

-- a reset, a ROM command to this tag, and these slots
abbrev pub session : State → Way → List Bool → List Event
session s way bits = Event.reset ∷ map Event.slot (way_slots way (number_of s) ++ bits)

-- what the line carries up to the end of the ROM command: the presence, then the command's slots
abbrev pub greeting : State → Way → List Bool
greeting s way = false ∷ way_line way (number_of s)

module _ (s : State) (sound : Sound s) (way : Way) where
  -- the ROM command alone
  pub session_way : run s (Event.reset ∷ map Event.slot (way_slots way (number_of s))) ≡
      record { line = greeting s way; state = with_exchange s (chosen_by way s) }
  session_way =
      run_reset s (way_slots way (number_of s)) sound
      (slots_quiet (after_reset s) (way_slots way (number_of s)) (reset_way (answers_of s) s.tag.exchange way))

  chosen_quiet : (bits : List Bool) {x : Exchange} {line : List Bool} →
      exchange.run (answers_of s) (chosen_by way s) bits ≡ exchange.quietly x line →
      slots (after_reset s) (way_slots way (number_of s) ++ bits) ≡ record { line = way_line way (number_of s) ++ line; state = with_exchange s x }
  chosen_quiet bits e =
      let x = s.tag.exchange in
      slots_quiet (after_reset s) (way_slots way (number_of s) ++ bits)
      (quiet_then (answers_of s) (exchange_reset x) (way_slots way x.number) bits (reset_way (answers_of s) x way) e)

  -- what does nothing after it
  pub session_quiet : (bits : List Bool) {x : Exchange} {line : List Bool} →
      exchange.run (answers_of s) (chosen_by way s) bits ≡ exchange.quietly x line →
      run s (session s way bits) ≡ record { line = greeting s way ++ line; state = with_exchange s x }
  session_quiet bits e = run_reset s (way_slots way (number_of s) ++ bits) sound (chosen_quiet bits e)

  -- and after that anything
  pub session_then : (bits more : List Bool) {x : Exchange} {line rest : List Bool} {t : State} →
      exchange.run (answers_of s) (chosen_by way s) bits ≡ exchange.quietly x line →
      slots (with_exchange s x) more ≡ record { line = rest; state = t } →
      run s (session s way (bits ++ more)) ≡ record { line = greeting s way ++ (line ++ rest); state = t }
  session_then bits more {x} {line} {rest} p q =
      run_reset s (way_slots way (number_of s) ++ (bits ++ more)) sound
      (rw (← append_assoc (way_slots way (number_of s)) bits more, ← append_assoc (way_line way (number_of s)) line rest)
      (slots_then (after_reset s) (way_slots way (number_of s) ++ bits) more (chosen_quiet bits p) q))

-- ---- what a session leaves that does nothing

-- these line bits, and nothing has changed
pub kept_by : (s : State) {mode : Mode} {bus : Bus} {line : List Bool} {ran : Ran} →
    ran ≡ record { line = line; state = with_exchange s (exchange.commanding (number_of s) mode s.tag.exchange.held bus) } →
    (ran.line ≡ line) × Kept s ran.state
kept_by s e = rw e (refl, record { image = refl; code = refl; counters = refl; number = refl; held = refl })

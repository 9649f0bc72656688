-- Calls of `tag::new`, `tag::event` and `batch::events` one after the other, as their own contracts have them: they lead to reached states,
-- and the caller sees the line bits and gets the state that `run` gives. So what is said of `run`, demands 2 and 3 too, is said of the code. `calls` in
-- Calls/Proof.antt proves it. Assumes nothing.
use Rattle.std.specs.Prelude.{◌≡◌, Bool, true, false, ◌&&◌, List, [], ◌∷◌, ◌++◌, map, ℕ, ◌≤◌, ◌<◌, eqb, leb, ℤ, length, take, if◌then◌else◌}
use Rattle.batch.specs.declared.Batch.{Batch}
use Rattle.batch.proofs.events.Reads as list
use Rattle.bits.specs.Bits.{digit}
use Rattle.record.specs.declared.Answered.{Answered}
use Rattle.tag.proofs.event.Reads as event
use Rattle.tag.proofs.new.Reads as new
use Rattle.promises.specs.Batches.{events_of}
use Rattle.promises.specs.Demand2.{Lists}
use Rattle.promises.specs.Demand3.{Premises}
use Rattle.promises.specs.History
use Rattle.promises.specs.Runs.{State, Event, after, run, Reached, Always}
use Rattle.promises.specs.Sentences.Dump.{DumpOf}
use Rattle.promises.specs.Sentences.Events.{number_in}
use Rattle.promises.specs.Sentences.Course.{Starts, Spares, mission_ticks, settings_of}
pub mod Proof

-- ---- a call

-- `tag::new` met its contract: it accepted, and left this state
pub data Made : State → Type 2 where
  made : (κs : _) (image : _) (number code : ℕ) (r : Answered) (exit : _) → new.Post κs (image, (number, (code, tt))) r exit →
      number_in r.answer ≡ 0 → Made (record { image = exit.0.now; tag = r.tag })

-- `tag::event` met its contract: from one state, with this code and reading, it put this bit on the line, and left the other state
pub data Called (s : State) (code reading : ℕ) : Bool → State → Type 2 where
  called : (κs : _) (image : _) (r : Answered) (exit : _) → event.Post κs (image, (s.tag, (code, (reading, tt)))) r exit →
      image.now ≡ s.image → Called s code reading r.line (record { image = exit.0.now; tag = r.tag })

-- `batch::events` met its contract: from one state, with these words and so many reply bytes, it left these bits in the bytes of the words
-- that were done, and the other state
pub data Handed (s : State) (words : List ℕ) : ℕ → List Bool → State → Type 2 where
  handed : (κs : _) (image : _) (lent : _) (replies : _) (r : Batch) (exit : _) (bits : List Bool) →
      list.Post κs (image, (s.tag, (lent, (replies, tt)))) r exit → image.now ≡ s.image → lent.now ≡ words →
      take r.done exit.1.1.1.0.now ≡ map digit bits →
      Handed s words (length replies.now) bits (record { image = exit.0.now; tag = r.tag })

-- ---- one after the other

-- "An event is a code and a reading: 0 slot with the line held low, 1 slot with the line released, 2 reset, 3 tick of one second. The
-- reading counts only with code 3." "Event code 4 is a short reset." A code above 4 and a tick with a reading above 2047 are refused
pub data Meaning : Type 0 where
  taken : Event → Meaning
  refused : Meaning

unfoldable pub meaning_of : ℕ → ℕ → Meaning
meaning_of code reading =
    if eqb code 0 then Meaning.taken (Event.slot false)
    else if eqb code 1 then Meaning.taken (Event.slot true)
    else if eqb code 2 then Meaning.taken Event.reset
    else if eqb code 4 then Meaning.taken Event.short
    else if eqb code 3 && leb reading 2047 then Meaning.taken (Event.tick reading)
    else Meaning.refused

-- calls with any codes and readings: the events that were taken, their line bits, and between them whatever was refused
pub data Chain : State → List Event → List Bool → State → Type 2 where
  none : {s : State} → Chain s [] [] s
  taken : {s t u : State} {e : Event} {es : List Event} {bit : Bool} {bits : List Bool} (code reading : ℕ) →
      meaning_of code reading ≡ Meaning.taken e → Called s code reading bit t → Chain t es bits u → Chain s (e ∷ es) (bit ∷ bits) u
  refused : {s t u : State} {es : List Event} {bit : Bool} {bits : List Bool} (code reading : ℕ) →
      meaning_of code reading ≡ Meaning.refused → Called s code reading bit t → Chain t es bits u → Chain s es bits u
  -- a list gives all its events up to a refused word; one with too few reply bytes is refused whole
  many : {s t u : State} {es : List Event} {room : ℕ} {seen bits : List Bool} (words : List ℕ) → length words ≤ room →
      Handed s words room seen t → Chain t es bits u → Chain s (events_of words ++ es) (seen ++ bits) u
  few : {s t u : State} {es : List Event} {room : ℕ} {seen bits : List Bool} (words : List ℕ) → room < length words →
      Handed s words room seen t → Chain t es bits u → Chain s es bits u

-- ---- what holds of them

pub record Calls : Type 2 where
  -- "tags reached from a new one by events": whatever code and reading come, refused ones too, the state is a reached one again
  pub made : {s : State} → Made s → Reached s
  pub again : {s t : State} {code reading : ℕ} {bit : Bool} → Reached s → Called s code reading bit t → Reached t
  pub listed : {s t : State} {words : List ℕ} {room : ℕ} {bits : List Bool} → Reached s → Handed s words room bits t → Reached t
  -- a refused call gives 1 and changes nothing
  pub refused : {s t : State} {code reading : ℕ} {bit : Bool} → Reached s → meaning_of code reading ≡ Meaning.refused →
      Called s code reading bit t → (bit ≡ true) × (t ≡ s)
  -- those that are taken give `run`'s line bits and state
  pub taken : {s t : State} {events : List Event} {bits : List Bool} → Reached s → Chain s events bits t →
      run s events ≡ record { line = bits; state = t }
  -- demand 2, of the calls after the event in which a Start was done
  pub listing : {s end : State} {e : Event} {events : List Event} {bits : List Bool} → Reached s → Starts s e →
      Always Spares (after s e) events → Chain (after s e) events bits end →
      let settings = settings_of s.image in
      (dump : List ℕ) → DumpOf end dump → (lent : List ℤ)
      → Lists settings (History.history settings (mission_ticks (after s e) events)) end.tag.code dump lent
  -- demand 3, of the calls of two tags
  pub line : {s t u v : State} {E F : List Event} {seen other : List Bool} → Premises s t E F → Chain s E seen u → Chain t F other v →
      seen ≡ other

-- What demand 3 of the order rests on: two tags whose exchanges are equal go on alike as long as no password field lets them
-- pass, and do nothing but Forced Conversions. And what either reset leaves, and what a slot sees of the speed. Assumes nothing.
use Rattle.std.specs.Prelude.{◌≡◌, refl, Bool, true, false, ◌||◌, List, ◌∷◌, ℕ, eqb, if◌then◌else◌}
use Rattle.std.proofs.Common.{sym, ap, ◌∙◌}
use Rattle.std.proofs.Math.Bool.{and-eq-true_iff}
use Rattle.bits.specs.Choose.{either, choices}
use Rattle.bus.specs.declared.Moved.{Moved}
use Rattle.bus.specs.declared.Question.{Question}
use Rattle.memory.specs.Memory as memory
use Rattle.memory.specs.Phases.{opened, reading, writing, confirms, lets, lets_write, unguarded}
use Rattle.memory.specs.Phases.Deeds as deeds
use Rattle.memory.specs.Phases.Laws as phases
use Rattle.select.specs.declared.Mode.{Mode}
use Rattle.select.specs.declared.Select.{Select}
use Rattle.select.specs.Select as select
use Rattle.select.specs.Select.Laws.{speed_of_lem, mode_of_lem, slots_agree}
use Rattle.select.specs.Select.Ranges as select-ranges
use Rattle.select.specs.Select.Speed as speeds
use Rattle.memory.specs.Range.{memory_in_range}
use Rattle.memory.specs.Range.Laws as memory-ranges
use Rattle.exchange.specs.declared.Exchange.{Exchange}
use Rattle.exchange.specs.declared.Slotted.{Slotted}
use Rattle.exchange.specs.Exchange.{new_exchange, begun, after_reset, after_short, asks, slot_of, commanded, choosing, exchange_in_range}

-- ---- resets

-- what a reset leaves is fixed by number, Resume mark, scratchpad, TA and E/S
pub reset_agree : (x y : Exchange) → x.number ≡ y.number → select.mark_in x.select.mode ≡ select.mark_in y.select.mode → x.held ≡ y.held → after_reset x ≡ after_reset y
reset_agree x y n m h = cc

-- after it no password has led anywhere
pub begun_shut : (x : Exchange) (next : Select) → opened (begun x next).bus.stage ≡ false
unfolding reading writing confirms
begun_shut x next = refl

-- what holds of a reset and of nothing at all holds of a short reset, each at its speed
pub short_cases : (P : Exchange → Type 0) (x : Exchange) →
    (select.speed_in x.select.mode ≡ true → P (begun x (select.restarted x.select))) → (select.speed_in x.select.mode ≡ false → P x) →
    P (after_short x)
unfolding after_short
short_cases P x fast slow = either P (select.speed_in x.select.mode) fast slow

-- like a reset it leaves number, scratchpad, TA and E/S
pub short_number_lem : (x : Exchange) → (after_short x).number ≡ x.number
short_number_lem x = short_cases (λ y. y.number ≡ x.number) x (λ fast. refl) (λ slow. refl)

pub short_held : (x : Exchange) → (after_short x).held ≡ x.held
short_held x = short_cases (λ y. y.held ≡ x.held) x (λ fast. refl) (λ slow. refl)

-- ---- a slot

-- what choosing asks
abbrev choosing_asks : Exchange → Bool → Question
choosing_asks x bit = if select.asks_alarm x.select bit then Question.Alarm else Question.Nothing

-- what holds of a memory command's slots and of choosing's holds of every slot: of its question, and of what it gives for any answer
pub slot_cases : (P : Question → (ℕ → Slotted) → Type 0) (x : Exchange) (bit : Bool) →
    P (memory.asks x.bus bit) (λ a. commanded x (memory.slot_of x.held x.bus bit a)) →
    P (choosing_asks x bit) (λ a. choosing x (select.slot_of x.select x.number bit (eqb a 1))) →
    P (asks x bit) (slot_of x bit)
unfolding asks slot_of
slot_cases P x bit p q = by (select.is_selected x.select)
  where
    by : (chosen : Bool) → P (if chosen then memory.asks x.bus bit else choosing_asks x bit)
        (λ a. if chosen then commanded x (memory.slot_of x.held x.bus bit a)
        else choosing x (select.slot_of x.select x.number bit (eqb a 1)))
    by true = p
    by false = q

-- no password leads anywhere as long as none is let pass
pub shut_after : (x : Exchange) (bit : Bool) (answer : ℕ) → opened x.bus.stage ≡ false → lets (asks x bit) answer ≡ false →
    opened (slot_of x bit answer).exchange.bus.stage ≡ false
shut_after x bit answer shut =
    slot_cases (λ q s. lets q answer ≡ false → opened (s answer).exchange.bus.stage ≡ false) x bit
    (phases.shut_after x.held x.bus bit answer shut) (λ unlet. shut)

-- the like of what only a field that may write leads to, and of what is done
pub writing_after : (x : Exchange) (bit : Bool) (answer : ℕ) → writing x.bus.stage ≡ false → lets_write (asks x bit) answer ≡ false →
    writing (slot_of x bit answer).exchange.bus.stage ≡ false
writing_after x bit answer shut =
    slot_cases (λ q s. lets_write q answer ≡ false → writing (s answer).exchange.bus.stage ≡ false) x bit
    (phases.writing_after x.held x.bus bit answer shut) (λ unlet. shut)

pub unguarded_deed : (x : Exchange) (bit : Bool) (answer : ℕ) → writing x.bus.stage ≡ false → lets_write (asks x bit) answer ≡ false →
    unguarded (slot_of x bit answer).deed ≡ true
unfolding unguarded
unguarded_deed x bit answer shut =
    slot_cases (λ q s. lets_write q answer ≡ false → unguarded (s answer).deed ≡ true) x bit
    (deeds.unguarded_deed x.held x.bus bit answer shut) (λ unlet. refl)

-- two tags that stand alike and get no password move alike, whatever their images hold, if their alarms agree where they are asked
pub shut_agree : (x : Exchange) (bit : Bool) (a b : ℕ) → opened x.bus.stage ≡ false →
    lets (asks x bit) a ≡ false → lets (asks x bit) b ≡ false → (asks x bit ≡ Question.Alarm → eqb a 1 ≡ eqb b 1) →
    slot_of x bit a ≡ slot_of x bit b
shut_agree x bit a b shut =
    slot_cases (λ q s. lets q a ≡ false → lets q b ≡ false → (q ≡ Question.Alarm → eqb a 1 ≡ eqb b 1) → s a ≡ s b) x bit
    (λ p q alike. ap (commanded x) (phases.shut_agree x.held x.bus bit a b shut p q))
    (λ p q alike. ap (choosing x) (slots_agree x.select x.number bit (eqb a 1) (eqb b 1) (λ asked. alike (simp asked))))

-- no slot changes the number
pub number_kept : (x : Exchange) (bit : Bool) (answer : ℕ) → (slot_of x bit answer).exchange.number ≡ x.number
number_kept x bit answer = slot_cases (λ q s. (s answer).exchange.number ≡ x.number) x bit refl refl

-- ---- ranges

-- an exchange is in its ranges exactly if its parts are
join : (x : Exchange) → select.select_in_range x.select ≡ true → memory_in_range x.held x.bus ≡ true → exchange_in_range x ≡ true
join x p q = simp (p, q)

pub parts : (x : Exchange) → exchange_in_range x ≡ true → (select.select_in_range x.select ≡ true) × (memory_in_range x.held x.bus ≡ true)
parts x h = (and-eq-true_iff (select.select_in_range x.select) (memory_in_range x.held x.bus)).0 h

pub new_in_range : (number : ℕ) → exchange_in_range (new_exchange number) ≡ true
new_in_range number = join (new_exchange number) select-ranges.new_in_range memory-ranges.new_in_range

pub begun_in_range : (x : Exchange) (mode : Mode) → exchange_in_range x ≡ true → exchange_in_range (begun x (select.listening mode)) ≡ true
begun_in_range x mode h =
    join (begun x (select.listening mode)) (select-ranges.listening_in_range mode) (memory-ranges.clear_in_range x.held x.bus (parts x h).1)

pub short_in_range : (x : Exchange) → exchange_in_range x ≡ true → exchange_in_range (after_short x) ≡ true
short_in_range x h = short_cases (λ y. exchange_in_range y ≡ true) x (λ fast. begun_in_range x x.select.mode h) (λ slow. h)

pub slot_in_range : (x : Exchange) (bit : Bool) (answer : ℕ) → exchange_in_range x ≡ true → exchange_in_range (slot_of x bit answer).exchange ≡ true
slot_in_range x bit answer h =
    slot_cases (λ q s. exchange_in_range (s answer).exchange ≡ true) x bit
    (join (commanded x (memory.slot_of x.held x.bus bit answer)).exchange (parts x h).0 (memory-ranges.slot_in_range x.held x.bus bit answer (parts x h).1))
    (join (choosing x (select.slot_of x.select x.number bit (eqb answer 1))).exchange (select-ranges.slot_in_range x.select x.number bit (eqb answer 1) (parts x h).0) (parts x h).1)

-- ---- the speed

-- the exchange at another speed
abbrev pub at_speed : Bool → Exchange → Exchange
at_speed speed x =
    record { number = x.number; select = select.keeps (speeds.at_speed speed x.select.mode) x.select.choosing; held = x.held; bus = x.bus }

-- two slots that give the same bit and do the same, and whose exchanges differ at most in the speed
abbrev pub SameSlot : Slotted → Slotted → Type 0
SameSlot a b =
    (a.line ≡ b.line) × (a.deed ≡ b.deed) × (b.exchange ≡ at_speed (select.speed_in b.exchange.select.mode) a.exchange)

-- of a memory command, whose slots leave the mode
commanded_same : (x : Exchange) (speed : Bool) (m : Moved) → SameSlot (commanded x m) (commanded (at_speed speed x) m)
commanded_same x speed m =
    let mark = select.mark_in x.select.mode in (
      refl,
      refl,
      λ i. record {
        number = x.number;
        select = record { choosing = x.select.choosing; mode = select.mode_of mark (sym (speed_of_lem mark speed) i) };
        held = m.held;
        bus = m.bus;
      },
    )

-- and of choosing
choosing_same : (x : Exchange) (speed bit alarm : Bool) →
    SameSlot (choosing x (select.slot_of x.select x.number bit alarm))
    (choosing (at_speed speed x) (select.slot_of (at_speed speed x).select x.number bit alarm))
choosing_same x speed bit alarm =
    let a = (select.slot_of x.select x.number bit alarm).select in
    let b = (select.slot_of (at_speed speed x).select x.number bit alarm).select in
    let same = speeds.slot_same x.select speed x.number bit alarm in
    let mode : b.mode ≡ select.mode_of (select.mark_in a.mode) (select.speed_in b.mode) =
    sym (mode_of_lem b.mode) ∙ ap (λ (m : Bool). select.mode_of m (select.speed_in b.mode)) (sym same.1.1) in (
      same.0,
      refl,
      λ i. record { number = x.number; select = record { choosing = sym same.1.0 i; mode = mode i }; held = x.held; bus = x.bus },
    )

pub slot_same : (x : Exchange) (speed bit : Bool) (answer : ℕ) → SameSlot (slot_of x bit answer) (slot_of (at_speed speed x) bit answer)
unfolding slot_of
slot_same x speed bit answer =
    choices SameSlot (select.is_selected x.select)
    (commanded_same x speed (memory.slot_of x.held x.bus bit answer)) (choosing_same x speed bit (eqb answer 1))

-- what the slots to come set, a slot has set or leaves to those after it
pub slot_leads : (x : Exchange) (bit : Bool) (answer : ℕ) (bits : List Bool) → exchange_in_range x ≡ true →
    let next = (slot_of x bit answer).exchange.select in
    (speeds.leads x.select.choosing x.number (bit ∷ bits) || select.speed_in x.select.mode) ≡
    (speeds.leads next.choosing x.number bits || select.speed_in next.mode)
unfolding slot_of
slot_leads x bit answer bits h =
    let k = x.select.choosing in
    either
    (λ (s : Slotted). (speeds.leads k x.number (bit ∷ bits) || select.speed_in x.select.mode) ≡
    (speeds.leads s.exchange.select.choosing x.number bits || select.speed_in s.exchange.select.mode))
    (select.is_selected x.select)
    (λ chosen. rw (speeds.leads_chosen k x.number (bit ∷ bits) chosen, speeds.leads_chosen k x.number bits chosen))
    (λ _. speeds.slot_leads x.select x.number bit (eqb answer 1) bits (parts x h).0)

-- A Conditional Search and two slots more: a tag with an alarm flag set sends the first bit of its number and its complement, one
-- with none is silent; no field comes to either. Assumes nothing.
use Rattle.std.specs.Prelude.{◌≢◌, ◌≡◌, Bool, true, false, not, List, [], ◌∷◌, ◌++◌, map, ℕ}
use Rattle.std.proofs.Common.{ap, true≢false}
use Rattle.std.proofs.Math.Bool.{and-eq-true_iff}
use Rattle.std.proofs.lemmas.Bool.{not-true}
use Rattle.bits.specs.Bits.{bits_of}
use Rattle.image.specs.Answers.{alarmed}
use Rattle.select.specs.Runs as runs
use Rattle.select.specs.Select.{slot_of, is_chosen, is_selected}
use Rattle.promises.specs.Demand3.{NoPassword, EndsField, AlarmsAgree}
use Rattle.promises.specs.Line.Choosing.{choosing_at, choosing_run}
use Rattle.promises.specs.Words.{word_at}
use Rattle.promises.specs.Runs.{State, Event, after, Ran, run, Always, Together, OnSlots}
use Rattle.promises.specs.Runs.Laws.{Sound, sound_after, always_map, on_slots}
use Rattle.promises.specs.Sentences.Choosing.{alarm}

-- ECh, and two slots with the line released
abbrev pub search : List Bool
search = bits_of 8 0xEC ++ (true ∷ true ∷ [])

-- slots in which a tag is still being chosen, and what the line carries in them
abbrev pub Choosing : State → List Bool → Type 0
Choosing u bits = runs.still_choosing u.tag.exchange.select u.tag.exchange.number (alarmed u.image) bits ≡ true

abbrev pub choosing_line : State → List Bool → List Bool
choosing_line u bits = (runs.run u.tag.exchange.select u.tag.exchange.number (alarmed u.image) bits).line

pub choosing_line_lem : (u : State) (bits : List Bool) → Sound u → Choosing u bits →
    (run u (map Event.slot bits)).line ≡ choosing_line u bits
choosing_line_lem u bits sound still = ap (λ (r : Ran). r.line) (choosing_run u bits sound still)

-- the state after one of them
choosing_after : (u : State) (bit : Bool) → Sound u → is_selected u.tag.exchange.select ≡ false →
    after u (Event.slot bit) ≡
    choosing_at u (slot_of u.tag.exchange.select u.tag.exchange.number bit (alarmed u.image)).select
unfolding run runs.run runs.still_choosing
choosing_after u bit sound unchosen = ap (λ (r : Ran). r.state) (choosing_run u (bit ∷ []) sound (rw unchosen))

-- ---- no field ends

-- nothing is said of resets and ticks
abbrev Unchosen : State → Event → Type 0
Unchosen = OnSlots (λ u bit. is_selected u.tag.exchange.select ≡ false)

never_chosen : (u : State) (bits : List Bool) → Sound u → Choosing u bits → Always Unchosen u (map Event.slot bits)
unfolding Always runs.still_choosing
never_chosen u [] sound still = tt
never_chosen u (bit ∷ bits) sound still =
    let both = (and-eq-true_iff (not (is_selected u.tag.exchange.select)) _).0 still in
    let unchosen = not-true (is_selected u.tag.exchange.select) both.0 in
    let next = after u (Event.slot bit) in
    (unchosen, never_chosen next bits (sound_after (Event.slot bit) sound) (rw (choosing_after u bit sound unchosen) both.1))

pub choosing_carries_none : (i j : List ℕ) (u : State) (bits : List Bool) → Sound u → Choosing u bits →
    Always (λ v e. NoPassword i v e × NoPassword j v e) u (map Event.slot bits)
unfolding is_chosen
choosing_carries_none i j u bits sound still =
    always_map (λ v e h. (on_slots (none i) v e h, on_slots (none j) v e h)) u (map Event.slot bits) (never_chosen u bits sound still)
  where
    none : (image : List ℕ) (v : State) (bit : Bool) → is_selected v.tag.exchange.select ≡ false → (field : ℕ)
        → EndsField v.tag.exchange bit field → (field ≢ word_at image 0x0228 8) × (field ≢ word_at image 0x0230 8)
    none image v bit unchosen field ends = absurd (true≢false (rw ends.chosen at unchosen))

-- ---- the alarms agree

-- of two tags that both have an alarm flag set, or both none, as long as they are being chosen
pub choosing_agree : (u v : State) (bits : List Bool) → Sound u → Sound v → Choosing u bits → Choosing v bits → alarm u ≡ alarm v →
    Together AlarmsAgree u (map Event.slot bits) v (map Event.slot bits)
unfolding Together runs.still_choosing
choosing_agree u v [] sound-u sound-v still-u still-v agree = tt
choosing_agree u v (bit ∷ bits) sound-u sound-v still-u still-v agree =
    let both-u = (and-eq-true_iff (not (is_selected u.tag.exchange.select)) _).0 still-u in
    let both-v = (and-eq-true_iff (not (is_selected v.tag.exchange.select)) _).0 still-v in
    let next-u = choosing_after u bit sound-u (not-true (is_selected u.tag.exchange.select) both-u.0) in
    let next-v = choosing_after v bit sound-v (not-true (is_selected v.tag.exchange.select) both-v.0) in (
      λ conditional. agree,
      choosing_agree (after u (Event.slot bit)) (after v (Event.slot bit)) bits (sound_after (Event.slot bit) sound-u) (sound_after (Event.slot bit) sound-v)
          (rw next-u both-u.1) (rw next-v both-v.1) (rw (next-u, next-v) agree),
    )

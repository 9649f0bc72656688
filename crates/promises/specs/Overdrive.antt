-- Request #103, "Overdrive": what a short reset does at either speed, when the speed is 1, and that it changes nothing else. `overdrive` in
-- Overdrive/Proof.antt proves it. What 3Ch and 69h choose is in `Sentences.Choosing`, beside Skip and Match; short resets are among the
-- events of every run, in demands 1 to 3 too. Assumes nothing.
use Rattle.std.specs.Prelude.{◌≡◌, Bool, true, false, List, [], ◌∷◌, ◌++◌, ◌⊎◌, ◌≢◌, ℕ, Ok}
use Rattle.record.specs.declared.Tag.{Tag}
use Rattle.select.specs.declared.Mode.{Mode}
use Rattle.select.specs.Select.{mode_of}
use Rattle.tag.specs.Tag.{new_tag, step}
use Rattle.promises.specs.Ranges.{Fit}
use Rattle.promises.specs.Runs.{State, Event, leaves, after, line_bit, run}
use Rattle.promises.specs.Words.{low, number_of, mark_of, speed_of}
pub mod Proof

-- ---- the speed: "The bus record gains a speed" (`speed_of`)

-- the same tag with this Resume mark and speed
abbrev pub with_mode : Mode → State → State
with_mode mode s =
    let x = s.tag.exchange in
    record {
      image = s.image;
      tag = record {
        code = s.tag.code;
        counters = s.tag.counters;
        exchange =
            record { number = x.number; select = record { choosing = x.select.choosing; mode = mode }; held = x.held; bus = x.bus };
      };
    }

-- the same tag at this speed, with its own mark
abbrev pub with_speed : Bool → State → State
with_speed speed s = with_mode (mode_of (mark_of s) speed) s

-- two tags that differ at most in the speed
abbrev pub ButSpeed : State → State → Type 0
ButSpeed s t = t ≡ with_speed (speed_of t) s

-- ---- events

-- none of these is a long reset; and, below, none is a short one
unfoldable pub NoLong : List Event → Type 0
NoLong [] = Unit {0}
NoLong (Event.slot bit ∷ es) = NoLong es
NoLong (Event.reset ∷ es) = ⊥
NoLong (Event.tick reading ∷ es) = NoLong es
NoLong (Event.short ∷ es) = NoLong es

unfoldable pub NoShort : List Event → Type 0
NoShort [] = Unit {0}
NoShort (Event.slot bit ∷ es) = NoShort es
NoShort (Event.reset ∷ es) = NoShort es
NoShort (Event.tick reading ∷ es) = NoShort es
NoShort (Event.short ∷ es) = ⊥

-- the bits of their slots, in order
unfoldable pub slots_in : List Event → List Bool
slots_in [] = []
slots_in (Event.slot bit ∷ es) = bit ∷ slots_in es
slots_in (Event.reset ∷ es) = slots_in es
slots_in (Event.tick reading ∷ es) = slots_in es
slots_in (Event.short ∷ es) = slots_in es

-- bits that start with these
abbrev pub Starts : List Bool → List Bool → Type 0
Starts first bits = (rest : List Bool) × (bits ≡ first ++ rest)

-- a whole 3Ch, or a whole 69h "only when the whole number matches". At standard speed a short reset is nothing at all: so all slots since a
-- long reset are those of one ROM command and of what follows it, until the speed is set
abbrev pub SetsSpeed : ℕ → List Bool → Type 0
SetsSpeed number bits = Starts (low 8 0x3C) bits ⊎ Starts (low 8 0x69 ++ low 64 number) bits

-- ---- what holds

pub record Overdrive : Type 0 where
  -- "at standard speed nothing at all (bit 1)", in whatever state that no event refuses
  pub slow : {s : State} → Fit s → speed_of s ≡ false → (line_bit s Event.short ≡ true) × (after s Event.short ≡ s)
  -- "at overdrive a reset that keeps the speed": the presence, and all that a long reset leaves but the speed
  pub fast : {s : State} → Fit s → speed_of s ≡ true →
      (line_bit s Event.short ≡ false) × (after s Event.short ≡ with_speed true (after s Event.reset))
  -- the reading of code 4 is not looked at, whatever the image and the record are
  pub unread : (image : List ℕ) (tag : Tag) (reading : ℕ) → step image tag 4 reading ≡ step image tag 4 0
  -- a new tag is at standard speed, and stays there until its first long reset
  pub new : (image : List ℕ) (number code : ℕ) → (new_tag image number code).answered.answer ≡ Ok tt →
      (events : List Event) → NoLong events → speed_of (run (leaves (new_tag image number code)) events).state ≡ false
  -- since the last long reset: the speed is 1 exactly if the slots since then set it
  pub only_if : {s : State} → Fit s → (events : List Event) → NoLong events →
      speed_of (run s (Event.reset ∷ events)).state ≡ true → SetsSpeed (number_of s) (slots_in events)
  pub sets : {s : State} → Fit s → (events : List Event) → NoLong events →
      SetsSpeed (number_of s) (slots_in events) → speed_of (run s (Event.reset ∷ events)).state ≡ true
  -- it changes nothing else: for events with no short reset among them the bits are the same, and the states but for the speed
  pub unseen : (s t : State) → ButSpeed s t → (events : List Event) → NoShort events →
      ((run s events).line ≡ (run t events).line) × ButSpeed (run s events).state (run t events).state
  -- a short reset is where it is seen: so that premise is needed
  pub seen : {s : State} → Fit s → line_bit (with_speed true s) Event.short ≢ line_bit (with_speed false s) Event.short
  -- so what is said of events begun by a long reset is said, at overdrive, of those begun by a short one
  pub begun : {s : State} → Fit s → speed_of s ≡ true → (events : List Event) → NoShort events →
      let long = run s (Event.reset ∷ events) in
      let short = run s (Event.short ∷ events) in
      (long.line ≡ short.line) × ButSpeed long.state short.state

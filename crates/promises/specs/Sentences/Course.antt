-- Document 01, "A mission": after any run of a mission, what the registers and the log hold, by its history alone; and which events that is said of.
-- "with no register written and no Clear done" is the order's demand 2, which takes the same words. `course` in Mission/Proof.antt proves it.
-- Assumes nothing.
use Rattle.std.specs.Prelude.{true, false, not, ◌&&◌, ◌||◌, List, [], ◌∷◌, ◌⊎◌, ◌≡◌, ℕ, ◌+◌, ◌-◌, ◌*◌, ◌/◌, ◌%◌, ◌≤◌, ◌<◌, min, eqb, leb, length, get_or, if◌then◌else◌}
use Rattle.bus.specs.declared.Guarded.{Guarded}
use Rattle.bus.specs.declared.Stage.{Stage}
use Rattle.promises.specs.History
use Rattle.promises.specs.History.{Settings, Conversion}
use Rattle.promises.specs.Runs.{State, Event, after, run, Reached, Always}
use Rattle.promises.specs.Sentences.Clock.{seconds_on, clock_at, stamp_at}
use Rattle.promises.specs.Sentences.Mission.{mip_of, wide, rate_of, samples_of, device_of, delay_of, MayStart, Started}
use Rattle.promises.specs.Words.{byte_at, bit_at, held_of}

-- ---- a mission's events

-- a Start is done in this event: MIP was 0, and is 1
pub record Starts (s : State) (e : Event) : Type 0 where
  pub idle : mip_of s.image ≡ false
  pub runs : mip_of (after s e).image ≡ true

-- "with no register written and no Clear done": a Copy that is done here, so that 0, 1, 0, 1 follows, has its TA outside 0200h-023Fh, and
-- MEMCLR does not become 1
pub record Spares (s : State) (e : Event) : Type 0 where
  pub store : s.tag.exchange.bus.stage ≡ Stage.Gathers Guarded.Copying → (after s e).tag.exchange.bus.stage ≡ Stage.Copied →
      ((held_of (after s e)).ta < 0x0200) ⊎ (0x0240 ≤ (held_of (after s e)).ta)
  pub clear : bit_at (after s e).image 0x0215 3 ≡ false

-- the readings of the mission's ticks: of those that find MIP 1; one above 2047 is refused, and is none
unfoldable pub mission_ticks : State → List Event → List ℕ
mission_ticks s [] = []
mission_ticks s (Event.tick reading ∷ es) =
    let rest = mission_ticks (after s (Event.tick reading)) es in
    if mip_of s.image && leb reading 2047 then reading ∷ rest else rest
mission_ticks s (Event.reset ∷ es) = mission_ticks (after s Event.reset) es
mission_ticks s (Event.short ∷ es) = mission_ticks (after s Event.short) es
mission_ticks s (Event.slot b ∷ es) = mission_ticks (after s (Event.slot b)) es

-- the settings that Start finds: "0208h low, 0209h high threshold"; "0210h ETLA bit 0, ETHA 1. 0212h .. EHSS 1. 0213h .. TLFS 2, RO 4, SUTA
-- 5"; "0216h delay, 3 bytes low first"
unfoldable pub settings_of : List ℕ → Settings
settings_of image =
    record {
      rate = rate_of image;
      ehss = bit_at image 0x0212 1;
      delay = delay_of image;
      suta = bit_at image 0x0213 5;
      ro = bit_at image 0x0213 4;
      tlfs = wide image;
      low = byte_at image 0x0208;
      high = byte_at image 0x0209;
      etla = bit_at image 0x0210 0;
      etha = bit_at image 0x0210 1;
      clock = clock_at image;
    }

-- ---- after any run of a mission

-- no reading
abbrev pub none : Conversion
none = record { tick = 0; reading = 0 }

-- the latest reading as conversion i of those made stores it: "low three bits 0 with TLFS 0 (R)", and, while the tag waits and at the alarm,
-- to 8 bits (#102)
abbrev pub shown : Settings → List ℕ → ℕ → ℕ
shown s readings i =
    let reading = (get_or (History.made s readings) i none).reading in
    if not s.tlfs || (s.suta && leb i (length (History.waited s readings))) then reading / 8 * 8 else reading

-- what the image holds, of a mission with these settings and readings, where Start found the image `start`
pub record Told (s : Settings) (readings start image : List ℕ) : Type 0 where
  pub mip : mip_of image ≡ true
  pub memclr : bit_at image 0x0215 3 ≡ false
  pub eosc : bit_at image 0x0212 0 ≡ true
  pub clock : clock_at image ≡ seconds_on (length readings) s.clock
  -- "the delay falls by one each 60 ticks from Start"
  pub delay : delay_of image ≡ s.delay - length readings / 60
  -- both counters: "With SUTA .. entry 0, uncounted"; "Device samples stays at FFFFFFh"
  pub samples : samples_of image ≡ length (History.history s readings) - History.uncounted s
  pub device : device_of image ≡ min (device_of start + length (History.made s readings)) 0xFFFFFF
  -- the flags, and "WFTA equal to SUTA" until "that one clears WFTA"
  pub thf : bit_at image 0x0214 1 ≡ History.some_of (History.high_alarm s) (History.made s readings)
  pub tlf : bit_at image 0x0214 0 ≡ History.some_of (History.low_alarm s) (History.made s readings)
  pub wfta : bit_at image 0x0215 4 ≡ (s.suta && eqb (length (History.history s readings)) 0)
  -- "the latest reading"
  pub latest : (i : ℕ) → length (History.made s readings) ≡ i + 1 →
      (byte_at image 0x020C ≡ shown s readings i % 8 * 32) × (byte_at image 0x020D ≡ shown s readings i / 8)
  pub no_latest : length (History.made s readings) ≡ 0 →
      (byte_at image 0x020C ≡ byte_at start 0x020C) × (byte_at image 0x020D ≡ byte_at start 0x020D)
  pub stamp : stamp_at image ≡ History.stamp s (History.history s readings)
  -- "Entry k lies at place k mod 8192 (one byte, reading divided by 8) or k mod 4096 (two bytes, as 020Dh then 020Ch)": the last of them,
  -- as many as there are places
  pub log : (k : ℕ) → k < length (History.history s readings) → length (History.history s readings) ≤ k + History.places s →
      let reading = History.kept s k (get_or (History.history s readings) k none).reading in
      (s.tlfs ≡ false → byte_at image (0x1000 + k % 8192) ≡ reading / 8)
      × (s.tlfs ≡ true →
      (byte_at image (0x1000 + 2 * (k % 4096)) ≡ reading / 8) × (byte_at image (0x1000 + (2 * (k % 4096) + 1)) ≡ reading % 8 * 32))
  -- and where no entry has come to lie, what was there
  pub unwritten : (j : ℕ) → j < 8192 → length (History.history s readings) ≤ (if s.tlfs then j / 2 else j) →
      byte_at image (0x1000 + j) ≡ byte_at start (0x1000 + j)

-- events that spare the mission, and do no Stop
pub record Going (s : State) (e : Event) : Type 0 where
  pub spares : Spares s e
  pub goes : mip_of (after s e).image ≡ true

-- ---- the sentences

pub record Course : Type 0 where
  -- where a mission begins a Start was done
  pub starts : {s : State} (e : Event) → Reached s → Starts s e → MayStart s.image × Started s.image (after s e).image
  -- and then, after any such events
  pub told : {s : State} (e : Event) (events : List Event) → Reached s → Starts s e → Always Going (after s e) events →
      Told (settings_of s.image) (mission_ticks (after s e) events) s.image (run (after s e) events).state.image

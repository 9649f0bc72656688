-- Document 01, "A mission", with requests #102 and #104: what a tick does to any image at all, a mission's or not. `ticking` in Mission/Proof.antt
-- proves it. Assumes nothing.
use Rattle.std.specs.Prelude.{Bool, true, false, not, ◌&&◌, ◌||◌, List, [], ◌∷◌, ◌≡◌, ℕ, ◌+◌, ◌-◌, ◌*◌, ◌/◌, ◌%◌, ◌≤◌, ◌<◌, min, eqb, leb, if◌then◌else◌}
use Rattle.promises.specs.Ranges.{Fit}
use Rattle.promises.specs.Runs.{State, Event, after, run}
use Rattle.promises.specs.Sentences.Clock.{second_on, clock_at, six_at, stamp_at}
use Rattle.promises.specs.Sentences.Mission.{mip_of, wide, waits, rate_of, period_of, samples_of, device_of, delay_of, high_alarm, low_alarm, alarms}
use Rattle.promises.specs.Words.{byte_at, bit_at, Stays}

-- ---- a conversion

-- "While it waits for an alarm, the device converts to 8 bits only" (request #102)
abbrev pub taken : List ℕ → ℕ → ℕ
taken image reading = if waits image then reading / 8 * 8 else reading

-- the number of its entry, if it is logged: "That one clears WFTA and is entry 0, uncounted .. the next is entry 1"
abbrev pub entry_number : List ℕ → ℕ
entry_number image =
    if waits image then 0
    else if bit_at image 0x0213 5 then samples_of image + 1
    else samples_of image

abbrev pub places : List ℕ → ℕ
places image = if wide image then 4096 else 8192

-- "With RO 0 conversions end when the log is full; in any case when mission samples is FFFFFFh (R)"
abbrev pub ended : List ℕ → Bool
ended image = eqb (samples_of image) 0xFFFFFF || (not (bit_at image 0x0213 4) && leb (places image) (entry_number image))

-- "Entry k lies at place k mod 8192 (one byte, reading divided by 8) or k mod 4096 (two bytes, as 020Dh then 020Ch)": byte j of the log, from
-- 1000h on, with entry k, where it was `old`
unfoldable pub log_byte : Bool → ℕ → ℕ → ℕ → ℕ → ℕ
log_byte tlfs k reading j old =
    if tlfs then
    (if eqb j (2 * (k % 4096)) then reading / 8
    else if eqb j (2 * (k % 4096) + 1) then reading % 8 * 32
    else old)
    else if eqb j (k % 8192) then reading / 8
    else old

pub record Converted (reading : ℕ) (before after : List ℕ) : Type 0 where
  -- "adds 1 to device samples"; "Device samples stays at FFFFFFh (R)"
  pub device : device_of after ≡ min (device_of before + 1) 0xFFFFFF
  -- "stores the latest reading (low three bits 0 with TLFS 0 (R))"
  pub latest : let shown = if wide before then taken before reading else reading / 8 * 8 in
      (byte_at after 0x020C ≡ shown % 8 * 32) × (byte_at after 0x020D ≡ shown / 8)
  -- "sets THF or TLF"
  pub thf : bit_at after 0x0214 1 ≡ (high_alarm before reading || bit_at before 0x0214 1)
  pub tlf : bit_at after 0x0214 0 ≡ (low_alarm before reading || bit_at before 0x0214 0)
  -- "Without SUTA every conversion is logged; the first sets the stamp; each adds 1 to mission samples"; none while the tag waits
  pub samples : samples_of after ≡ (if waits before then samples_of before else samples_of before + 1)
  pub stamp : stamp_at after ≡ (if not (waits before) && eqb (samples_of before) 0 then clock_at after else stamp_at before)
  -- "With SUTA nothing is logged until a conversion alarms. That one clears WFTA and is entry 0, uncounted"
  pub wfta : bit_at after 0x0215 4 ≡ (if waits before && alarms before reading then false else bit_at before 0x0215 4)
  pub log : (j : ℕ) → j < 8192 → byte_at after (0x1000 + j)
      ≡ (if not (waits before) || alarms before reading then
      log_byte (wide before) (entry_number before) (taken before reading) j (byte_at before (0x1000 + j))
      else byte_at before (0x1000 + j))
  pub rest : Stays
      ((0x0200, 0x0205) ∷ (0x020C, 0x020D) ∷ (0x0219, 0x021E) ∷ (0x0220, 0x0222) ∷ (0x0223, 0x0225) ∷ (0x1000, 0x2FFF) ∷ [])
      ((0x0214, 0) ∷ (0x0214, 1) ∷ (0x0215, 4) ∷ []) before after

-- ---- a tick

-- what it finds: "the delay falls by one each 60 ticks from Start"; "a mission with rate 0 makes no conversion"; the counters are the seconds
-- into the delay's minute and those to the next conversion
abbrev pub delayed : List ℕ → Bool
delayed image = mip_of image && not (eqb (delay_of image) 0)

abbrev pub converting : List ℕ → Bool
converting image = mip_of image && eqb (delay_of image) 0 && not (eqb (rate_of image) 0)

-- it makes a conversion
abbrev pub makes : State → Bool
makes s = converting s.image && eqb s.tag.counters.wait 0 && not (ended s.image)

pub record Ticked (read : ℕ) (before after : State) : Type 0 where
  -- "Each tick first advances the clock if EOSC is 1": bit 0 of 0212h
  pub clock : clock_at after.image ≡ (if bit_at before.image 0x0212 0 then second_on (clock_at before.image) else clock_at before.image)
  pub stored : bit_at before.image 0x0212 0 ≡ true → six_at after.image 0x0200 ≡ second_on (clock_at before.image)
  pub still : bit_at before.image 0x0212 0 ≡ false → (a : ℕ) → a < 6 → byte_at after.image (0x0200 + a) ≡ byte_at before.image (0x0200 + a)
  -- "Then, in a mission: the delay falls"
  pub delay : delay_of after.image
      ≡ (if delayed before.image && leb 59 before.tag.counters.minute then delay_of before.image - 1 else delay_of before.image)
  pub minute : after.tag.counters.minute
      ≡ (if delayed before.image then (if leb 59 before.tag.counters.minute then 0 else before.tag.counters.minute + 1)
      else before.tag.counters.minute)
  -- "then every period"
  pub wait : after.tag.counters.wait
      ≡ (if converting before.image then
      (if eqb before.tag.counters.wait 0 then period_of before.image - 1 else before.tag.counters.wait - 1)
      else before.tag.counters.wait)
  pub reading : after.tag.counters.reading ≡ read
  -- a conversion is made, or nothing else changes
  pub converts : makes before ≡ true → Converted read before.image after.image
  pub rests : makes before ≡ false → Stays ((0x0200, 0x0205) ∷ (0x0216, 0x0218) ∷ []) [] before.image after.image

-- ---- the last tick's reading, which a Forced Conversion takes

-- of these events, after a tick with the reading `before`; a tick with a reading above 2047 is refused
unfoldable pub last_reading : ℕ → List Event → ℕ
last_reading before [] = before
last_reading before (Event.slot bit ∷ es) = last_reading before es
last_reading before (Event.reset ∷ es) = last_reading before es
last_reading before (Event.short ∷ es) = last_reading before es
last_reading before (Event.tick reading ∷ es) = last_reading (if leb reading 2047 then reading else before) es

-- ---- the sentences

pub record Ticking : Type 0 where
  -- any image, a mission's or not
  pub ticks : {s : State} → Fit s → (reading : ℕ) → reading ≤ 2047 → Ticked reading s (after s (Event.tick reading))
  -- "the last tick's reading (0 before any)", in a mission or not: a new tag's is 0 (`Events.made`)
  pub last : {s : State} → Fit s → (es : List Event) → (run s es).state.tag.counters.reading ≡ last_reading s.tag.counters.reading es

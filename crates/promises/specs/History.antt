-- A mission's history: what a mission logs, told from its settings at Start and the readings of its ticks alone. It never looks at
-- an image (document 01, "A mission"; the order's demand 2). Assumes nothing.
use Rattle.std.specs.Prelude.{Bool, false, not, ◌&&◌, ◌||◌, cond, List, [], ◌∷◌, ◌++◌, ℕ, suc, ◌+◌, ◌-◌, ◌*◌, ◌/◌, ◌%◌, min, eqb, leb, ltb, ℤ, pos, ◌-ℤ◌, ◌*ℤ◌, take, drop, if◌then◌else◌}
use Rattle.calendar.specs.declared.Clock.{Clock}
use Rattle.promises.specs.Sentences.Clock.{seconds_on}
pub mod Laws
pub mod Made

-- ---- the settings, as Start finds them

pub record Settings : Type 0 where
  pub rate : ℕ
  pub ehss : Bool
  pub delay : ℕ
  pub suta : Bool
  pub ro : Bool
  pub tlfs : Bool
  pub low : ℕ
  pub high : ℕ
  pub etla : Bool
  pub etha : Bool
  pub clock : Clock

-- "period (rate in seconds with EHSS 1, else minutes)"
unfoldable pub period : Settings → ℕ
period s = if s.ehss then s.rate else s.rate * 60

-- "k mod 8192 (one byte ..) or k mod 4096 (two bytes ..)": how many entries the log holds
unfoldable pub places : Settings → ℕ
places s = if s.tlfs then 4096 else 8192

-- ---- conversions. Ticks are counted from 1

-- "with delay D the first conversion is on tick 60 × D + 1, then every period"
unfoldable pub is_time : Settings → ℕ → Bool
is_time s t = ltb (60 * s.delay) t && eqb ((t - 60 * s.delay - 1) % period s) 0

-- "sets THF or TLF if enabled and the reading divided by 8, rounded down, is ≥ high or ≤ low threshold"
abbrev pub high_alarm : Settings → ℕ → Bool
high_alarm s reading = s.etha && leb s.high (reading / 8)

abbrev pub low_alarm : Settings → ℕ → Bool
low_alarm s reading = s.etla && leb (reading / 8) s.low

unfoldable pub alarms : Settings → ℕ → Bool
alarms s reading = high_alarm s reading || low_alarm s reading

-- a conversion: the number of its tick, and the reading
pub record Conversion : Type 0 where
  pub tick : ℕ
  pub reading : ℕ

-- the readings at conversion times, when the first of these readings is that of tick t
unfoldable pub conversions_from : Settings → ℕ → List ℕ → List Conversion
conversions_from s t [] = []
conversions_from s t (r ∷ rs) =
    if is_time s t then record { tick = t; reading = r } ∷ conversions_from s (suc t) rs
    else conversions_from s (suc t) rs

-- ---- entries

-- entry 0 of an alarm start is "uncounted"
abbrev pub uncounted : Settings → ℕ
uncounted s = cond s.suta 1 0

-- from the first conversion that alarms on, it included
unfoldable pub from_alarm : Settings → List Conversion → List Conversion
from_alarm s [] = []
from_alarm s (c ∷ cs) = if alarms s c.reading then c ∷ cs else from_alarm s cs

-- "Without SUTA every conversion is logged .. With SUTA nothing is logged until a conversion alarms"
unfoldable pub to_log : Settings → List Conversion → List Conversion
to_log s cs = if s.suta then from_alarm s cs else cs

-- "With RO 0 conversions end when the log is full; in any case when mission samples is FFFFFFh". With SUTA entry 0 is "uncounted"
unfoldable pub most : Settings → ℕ
most s =
    let countable = 0xFFFFFF + uncounted s in
    if s.ro then countable else min (places s) countable

-- entries 0, 1, .. of a mission whose ticks had these readings
unfoldable pub history : Settings → List ℕ → List Conversion
history s readings = take (most s) (to_log s (conversions_from s 1 readings))

-- ---- conversions that are made

-- those before the first that alarms, which an alarm start waits through
unfoldable pub before_alarm : Settings → List Conversion → List Conversion
before_alarm s [] = []
before_alarm s (c ∷ cs) = if alarms s c.reading then [] else c ∷ before_alarm s cs

unfoldable pub waited : Settings → List ℕ → List Conversion
waited s readings = if s.suta then before_alarm s (conversions_from s 1 readings) else []

-- these, and the entries
unfoldable pub made : Settings → List ℕ → List Conversion
made s readings = waited s readings ++ history s readings

-- one of these alarms so
unfoldable pub some_of : (ℕ → Bool) → List Conversion → Bool
some_of test [] = false
some_of test (c ∷ cs) = test c.reading || some_of test cs

-- ---- the stamp

abbrev pub zeros : Clock
zeros = record { seconds = 0; minutes = 0; hours = 0; date = 0; month = 0; year = 0 }

-- the clock at the first of these entries, zeros while there is none
unfoldable pub clock_at : Settings → List Conversion → Clock
clock_at s [] = zeros
clock_at s (c ∷ cs) = seconds_on c.tick s.clock

-- "the first sets the stamp"; with SUTA "entry 1 sets the stamp"
unfoldable pub stamp : Settings → List Conversion → Clock
stamp s entries = clock_at s (drop (uncounted s) entries)

-- ---- what the log keeps of a reading

-- of the reading of entry k, "to the format's resolution": of an 8-bit entry "a reading of 8 times the byte"; and of entry 0 of an alarm
-- start "demand 2 reads its resolution as 8 bits" (request #102)
unfoldable pub kept : Settings → ℕ → ℕ → ℕ
kept s k reading = if not s.tlfs || (s.suta && eqb k 0) then 8 * (reading / 8) else reading

-- ---- what a listing says of an entry

-- "Seconds from the stamp: period × k, with SUTA period × (k − 1)"
unfoldable pub seconds : Settings → ℕ → ℤ
seconds s k = if s.suta then (pos (period s) *ℤ (pos k -ℤ pos 1)) else (pos (period s) *ℤ pos k)

-- "Temperature in sixteenths of a degree, signed: reading − 656 (L), reading − 16 (T)". L is the code 40h, T is 60h
unfoldable pub temperature : ℕ → ℕ → ℤ
temperature code reading = if eqb code 0x40 then (pos reading -ℤ pos 656) else (pos reading -ℤ pos 16)

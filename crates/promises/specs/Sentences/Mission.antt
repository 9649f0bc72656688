-- Document 01, "A mission": the registers that it speaks of, and what Clear, Start, Stop and Forced Conversion change and leave, by bytes and bits of the
-- image. When they are done is said in `Sentences.Controlling`; ticks are in `Sentences.Ticking`, and what a whole mission leaves in
-- `Sentences.Course`. Assumes nothing.
use Rattle.std.specs.Prelude.{Bool, true, false, ◌&&◌, ◌||◌, List, [], ◌∷◌, ◌≢◌, ◌≡◌, ℕ, ◌+◌, ◌*◌, ◌/◌, ◌%◌, ◌^◌, min, leb, if◌then◌else◌}
use Rattle.mission.specs.declared.Counters.{Counters}
use Rattle.promises.specs.Runs.{State, after}
use Rattle.promises.specs.Words.{byte_at, bit_at, word_at, Stays}
pub mod Deeds
pub mod Ticks
pub mod Last
pub mod Course
pub mod Proof

-- ---- the registers' bits

-- MIP, MEMCLR, WFTA; SUTA, TLFS, RO: "0215h MIP 1, MEMCLR 3, WFTA 4"; "0213h ETL 0, TLFS 2, RO 4, SUTA 5"
abbrev pub mip_of : List ℕ → Bool
mip_of image = bit_at image 0x0215 1

abbrev pub wide : List ℕ → Bool
wide image = bit_at image 0x0213 2

-- "With SUTA nothing is logged until a conversion alarms": it waits while WFTA is 1
abbrev pub waits : List ℕ → Bool
waits image = bit_at image 0x0213 5 && bit_at image 0x0215 4

-- "0206h rate low, 0207h high", of which six bits have a name
abbrev pub rate_of : List ℕ → ℕ
rate_of image = word_at image 0x0206 2 % 2 ^ 14

-- "rate in seconds with EHSS 1, else minutes": bit 1 of 0212h
abbrev pub period_of : List ℕ → ℕ
period_of image = if bit_at image 0x0212 1 then rate_of image else rate_of image * 60

-- "0220h mission samples, 0223h device samples, 3 bytes low first", and "0216h delay"
abbrev pub samples_of : List ℕ → ℕ
samples_of image = word_at image 0x0220 3

abbrev pub device_of : List ℕ → ℕ
device_of image = word_at image 0x0223 3

abbrev pub delay_of : List ℕ → ℕ
delay_of image = word_at image 0x0216 3

-- ---- Clear, Start, Stop, Forced Conversion

-- beside the image number and code stay, and the counters are these
pub record Beside (moved : Counters) (before after : State) : Type 0 where
  pub code : after.tag.code ≡ before.tag.code
  pub number : after.tag.exchange.number ≡ before.tag.exchange.number
  pub counters : after.tag.counters ≡ moved

-- "Clear (no mission): stamp, mission samples and flags to 0, MEMCLR 1; the log stays (R)"
pub record Cleared (before after : List ℕ) : Type 0 where
  pub stamp : word_at after 0x0219 6 ≡ 0
  pub samples : samples_of after ≡ 0
  pub bor : bit_at after 0x0214 7 ≡ false
  pub thf : bit_at after 0x0214 1 ≡ false
  pub tlf : bit_at after 0x0214 0 ≡ false
  pub memclr : bit_at after 0x0215 3 ≡ true
  pub rest : Stays ((0x0219, 0x021E) ∷ (0x0220, 0x0222) ∷ []) ((0x0214, 0) ∷ (0x0214, 1) ∷ (0x0214, 7) ∷ (0x0215, 3) ∷ []) before after

-- "Start (MEMCLR 1, no mission, ETL 1, rate not 0 (R)): ..
pub record MayStart (image : List ℕ) : Type 0 where
  pub memclr : bit_at image 0x0215 3 ≡ true
  pub mip : mip_of image ≡ false
  pub etl : bit_at image 0x0213 0 ≡ true
  pub rate : rate_of image ≢ 0

-- .. MIP 1, MEMCLR 0, EOSC 1, WFTA equal to SUTA"
pub record Started (before after : List ℕ) : Type 0 where
  pub mip : mip_of after ≡ true
  pub memclr : bit_at after 0x0215 3 ≡ false
  pub eosc : bit_at after 0x0212 0 ≡ true
  pub wfta : bit_at after 0x0215 4 ≡ bit_at before 0x0213 5
  pub rest : Stays [] ((0x0212, 0) ∷ (0x0215, 1) ∷ (0x0215, 3) ∷ (0x0215, 4) ∷ []) before after

-- "Stop: MIP 0; WFTA stays"
pub record Stopped (before after : List ℕ) : Type 0 where
  pub mip : mip_of after ≡ false
  pub rest : Stays [] ((0x0215, 1) ∷ []) before after

-- "if enabled and the reading divided by 8, rounded down, is ≥ high or ≤ low threshold": "0208h low, 0209h high threshold"; "0210h ETLA bit
-- 0, ETHA 1"
abbrev pub high_alarm : List ℕ → ℕ → Bool
high_alarm image reading = bit_at image 0x0210 1 && leb (byte_at image 0x0209) (reading / 8)

abbrev pub low_alarm : List ℕ → ℕ → Bool
low_alarm image reading = bit_at image 0x0210 0 && leb (reading / 8) (byte_at image 0x0208)

abbrev pub alarms : List ℕ → ℕ → Bool
alarms image reading = high_alarm image reading || low_alarm image reading

-- "Forced Conversion, no mission only: takes the last tick's reading (0 before any) to 11 bits, counts in device samples, sets EOSC, clears
-- WFTA if it alarms; no flag is set": "020Ch reading bits 2-0 in bits 7-5, 020Dh bits 10-3"
pub record Forced (reading : ℕ) (before after : List ℕ) : Type 0 where
  pub latest : (byte_at after 0x020C ≡ reading % 8 * 32) × (byte_at after 0x020D ≡ reading / 8)
  pub device : device_of after ≡ min (device_of before + 1) 0xFFFFFF
  pub eosc : bit_at after 0x0212 0 ≡ true
  pub wfta : bit_at after 0x0215 4 ≡ (if alarms before reading then false else bit_at before 0x0215 4)
  pub rest : Stays ((0x020C, 0x020D) ∷ (0x0223, 0x0225) ∷ []) ((0x0212, 0) ∷ (0x0215, 4) ∷ []) before after

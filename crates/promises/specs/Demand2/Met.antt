-- Demand 2 says something: its premises can be met. Three statements: a Start whose slots come over the line is one as `Starts` says it
-- (`start_met` in Met/Start.antt proves it), and of one mission, from a new tag on, what the image holds and what is listed, in numbers
-- (`mission_held` and `mission_listed` in Met/Mission.antt). Assumes nothing.
use Rattle.std.specs.Prelude.{◌≡◌, Bool, true, false, List, [], ◌∷◌, ◌++◌, map, ℕ, ◌^◌, ◌<◌, ℤ, pos, negsuc, length, replicate, Ok}
use Rattle.bits.specs.Bits.{bits_of, released}
use Rattle.dock.specs.Listing.{listing_of, temperatures_of, seconds_at}
use Rattle.exchange.specs.Runs.{Way}
use Rattle.bus.specs.declared.Control.{Control}
use Rattle.tag.specs.Tag.{new_tag}
use Rattle.promises.specs.Demand3.Needed.Owner.{skipping}
use Rattle.promises.specs.Line.ControlRun.{control_slots}
use Rattle.promises.specs.Line.Slots.{session}
use Rattle.promises.specs.Line.Sessions.{write_slots, copy_slots}
use Rattle.promises.specs.Runs.{State, Event, leaves, run, Reached}
use Rattle.promises.specs.Sentences.Clock.{clock_at}
use Rattle.promises.specs.Sentences.Dump.{DumpOf}
use Rattle.promises.specs.Sentences.Commands.{PassesFull}
use Rattle.promises.specs.Sentences.Course.{Starts}
use Rattle.promises.specs.Sentences.Mission.{samples_of, device_of, delay_of, MayStart}
use Rattle.promises.specs.Words.{byte_at, bit_at}
pub mod Start
pub mod Page
pub mod Ticks
pub mod Mission

-- ---- a Start over the line

-- its slots but the last, which is a 1: CCh, eight password bytes, and seven bits of FFh
abbrev pub start_slots : ℕ → List Bool
start_slots field = (bits_of 8 0xCC ++ bits_of 64 field) ++ released 7

-- a reset, a way of choosing the tag, and the slots of a Start with a right password
abbrev pub StartMet : Type 0
StartMet = (s : State) (way : Way) (field : ℕ) → Reached s → field < 2 ^ 64 → PassesFull s field → MayStart s.image →
    Starts (run s (session s way (start_slots field))).state (Event.slot true)

-- ---- one mission

-- the registers from 0200h on: a high alarm at 54h starts it after a delay of a minute, with a conversion every 2 s
abbrev pub page : List ℕ
page =
    0x55 ∷ 0x58 ∷ 0x71 ∷ 0x31 ∷ 0x12 ∷ 0x99 ∷  -- 0200h clock: 11:58:55 PM, 31 December 99, in the twelve-hour form
    0x02 ∷ 0x00 ∷  -- 0206h rate
    0x00 ∷ 0x54 ∷  -- 0208h thresholds
    0x00 ∷ 0x00 ∷ 0x00 ∷ 0x00 ∷ 0x00 ∷ 0x00 ∷
    0x02 ∷ 0x00 ∷  -- 0210h ETHA
    0x02 ∷ 0x25 ∷  -- 0212h EHSS; 0213h ETL, TLFS and SUTA
    0x00 ∷ 0x00 ∷
    0x01 ∷ 0x00 ∷ 0x00 ∷  -- 0216h delay
    replicate 7 0x00

-- a minute of readings that would alarm; then a conversion every other second: one below the threshold, then three that are logged
abbrev pub readings : List ℕ
readings = replicate 60 900 ++ (671 ∷ 900 ∷ 679 ∷ 900 ∷ 687 ∷ 900 ∷ 7 ∷ 900 ∷ [])

-- the owner of a new tag, which checks no password, writes the registers and copies them, clears and starts, each after a reset and
-- Skip; then come the ticks
abbrev pub life : List Event
life =
    skipping (write_slots 0x0200 page)
    ++ (skipping (copy_slots 0x0200 0x1F 0 0)
    ++ (skipping (control_slots Control.Clear 0 0xFF)
    ++ (skipping (control_slots Control.Start 0 0xFF)
    ++ map Event.tick readings)))

-- a new tag at the end of it
abbrev pub ended : State → State
ended new = (run new life).state

-- what the image then holds
pub record HeldSo (image : List ℕ) : Type 0 where
  -- 68 s after 11:58:55 PM
  pub clock : clock_at image ≡ record { seconds = 0x03; minutes = 0x00; hours = 0x52; date = 0x01; month = 0x81; year = 0x00 }
  pub delay : delay_of image ≡ 0
  -- of four conversions three are logged, and entry 0 is uncounted
  pub samples : samples_of image ≡ 2
  pub device : device_of image ≡ 4
  pub thf : bit_at image 0x0214 1 ≡ true
  pub tlf : bit_at image 0x0214 0 ≡ false
  pub wfta : bit_at image 0x0215 4 ≡ false
  -- 7
  pub latest : map (byte_at image) (0x020C ∷ 0x020D ∷ []) ≡ 0xE0 ∷ 0x00 ∷ []
  -- 672, 687 and 7
  pub log : map (byte_at image) (0x1000 ∷ 0x1001 ∷ 0x1002 ∷ 0x1003 ∷ 0x1004 ∷ 0x1005 ∷ []) ≡ 0x54 ∷ 0x00 ∷ 0x55 ∷ 0xE0 ∷ 0x00 ∷ 0xE0 ∷ []

-- of an L with the ROM 41 2B C5 FB 00 00 00 A1, whatever the lent image held
abbrev pub MissionHeld : Type 0
MissionHeld = (image : List ℕ) → length image ≡ 8832 → HeldSo (ended (leaves (new_tag image 0xA1000000FBC52B41 0x40))).image

-- ---- its listing

-- four places are lent, with 9 in each
abbrev pub lent : List ℤ
lent = replicate 4 (pos 9)

-- what is listed of its dump
pub record ListedSo (dump : List ℕ) : Type 0 where
  -- three entries, and the stamp of entry 1: 12:00:00 AM, 1 January 00, with CENT flipped, and the form as it was set
  pub listing : listing_of dump 4
      ≡ record {
        answer = Ok tt;
        code = 0x40;
        held = 3;
        first = 0;
        stamp = 0x00 ∷ 0x00 ∷ 0x52 ∷ 0x01 ∷ 0x81 ∷ 0x00 ∷ [];
        rate = 2;
        ehss = true;
        suta = true;
      }
  pub seconds : map (seconds_at (listing_of dump 4)) (0 ∷ 1 ∷ 2 ∷ []) ≡ negsuc 1 ∷ pos 0 ∷ pos 2 ∷ []
  -- 672, 687 and 7 are what the log keeps of the readings: of entry 0, which ended the wait, eight bits, of the others eleven
  pub temperatures : temperatures_of dump lent ≡ pos 16 ∷ pos 31 ∷ negsuc 648 ∷ pos 9 ∷ []

-- of the same tag
abbrev pub MissionListed : Type 0
MissionListed = (image : List ℕ) → length image ≡ 8832 →
    (dump : List ℕ) → DumpOf (ended (leaves (new_tag image 0xA1000000FBC52B41 0x40))) dump → ListedSo dump

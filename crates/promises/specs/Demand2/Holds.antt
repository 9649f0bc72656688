-- What a mission's image holds after some entries, and what else holds while the mission runs. `start` is the image that Start
-- left. Assumes nothing.
use Rattle.std.specs.Prelude.{◌≡◌, true, false, not, ◌&&◌, ◌||◌, List, ◌++◌, ℕ, ◌+◌, ◌-◌, ◌*◌, ◌/◌, ◌%◌, ◌≤◌, ◌<◌, min, T, leb, length, get_or, if◌then◌else◌}
use Rattle.std.proofs.Common.{◌∙◌, mod-lt, arith}
use Rattle.bits.specs.Bits.{digit}
use Rattle.calendar.specs.Calendar.{clock_after}
use Rattle.image.specs.Fields.{word_at}
use Rattle.image.specs.Keeps.{Run, free}
use Rattle.image.specs.Leaves.{Flag, spares, touched, Leaves, word_left}
use Rattle.image.specs.Registers
use Rattle.conversion.specs.Clock.{clock_of, stamp_of}
use Rattle.conversion.specs.Clock.Laws.{stamp_kept}
use Rattle.conversion.specs.Conversion as conversion
use Rattle.mission.specs.Mission
use Rattle.conversion.specs.Conversion.Converts.{log_kept, entry_kept}
use Rattle.conversion.specs.Conversion.Settings.{SameSettings, settings_then, places_same}
use Rattle.mission.specs.Mission.Times.{OnTime}
use Rattle.conversion.specs.Conversion.Whole.{Whole}
use Rattle.mission.specs.declared.Counters.{Counters}
use Rattle.promises.specs.Demand2.AtStart.{places_pos}
use Rattle.promises.specs.History
use Rattle.promises.specs.History.{Settings, Conversion}
use Rattle.promises.specs.History.Laws.{is_none}
use Rattle.promises.specs.Sentences.Course.{settings_of, none}

-- of the log, beside its entries: of an entry of two bytes the second has its low five bits 0, and where no entry has come to lie stands
-- what Start left there
pub record Written (start : List ℕ) (es : List Conversion) (image : List ℕ) : Type 0 where
  pub low : Registers.tlfs start ≡ true → (k : ℕ) → k < length es → get_or image (640 + (2 * (k % 4096) + 1)) 0 % 32 ≡ 0
  pub past : (j : ℕ) → j < 8192 → length es ≤ (if Registers.tlfs start then j / 2 else j) → get_or image (640 + j) 0 ≡ get_or start (640 + j) 0

-- all that a listing goes by, in a mission and after it, and the log's other bytes
pub record Listed (start : List ℕ) (es : List Conversion) (image : List ℕ) : Type 0 where
  pub whole : Whole image
  pub memclr : Registers.memclr image ≡ false
  pub settings : SameSettings start image
  pub samples : Registers.mission_samples image ≡ length es - digit (Registers.suta start)
  pub flags : Registers.suta start ≡ true → (Registers.thf image || Registers.tlf image) ≡ not (is_none es)
  pub stamp : stamp_of image ≡ History.stamp (settings_of start) es
  pub entries : (k : ℕ) → k < length es → length es ≤ k + conversion.places start
      → conversion.entry_at image (k % conversion.places start) ≡ History.kept (settings_of start) k (get_or es k none).reading
  pub written : Written start es image

-- while the mission runs, t ticks after Start
pub record Running (start : List ℕ) (es : List Conversion) (t : ℕ) (image : List ℕ) (c : Counters) : Type 0 where
  pub time : OnTime (Registers.delay start) (Mission.period start) t image c
  pub eosc : Registers.eosc image ≡ true
  pub clock : clock_of image ≡ clock_after t (clock_of start)
  pub wfta : Registers.wfta image ≡ Registers.suta start && is_none es

-- the latest reading, as conversion i of those made stores it
abbrev pub shown_of : Settings → List Conversion → List Conversion → ℕ → ℕ
shown_of s waited es i =
    let reading = (get_or (waited ++ es) i none).reading in
    if not s.tlfs || (s.suta && leb i (length waited)) then reading / 8 * 8 else reading

-- what the conversions that were made have left beside the log: those that were waited through, and the entries
pub record Measured (start : List ℕ) (waited es : List Conversion) (image : List ℕ) : Type 0 where
  pub device : Registers.device_samples image ≡ min (Registers.device_samples start + length (waited ++ es)) 0xFFFFFF
  pub thf : Registers.thf image ≡ History.some_of (History.high_alarm (settings_of start)) (waited ++ es)
  pub tlf : Registers.tlf image ≡ History.some_of (History.low_alarm (settings_of start)) (waited ++ es)
  pub latest : (i : ℕ) → length (waited ++ es) ≡ i + 1 → word_at image 0x020C 2 ≡ 32 * shown_of (settings_of start) waited es i
  pub no_latest : length (waited ++ es) ≡ 0 → word_at image 0x020C 2 ≡ word_at start 0x020C 2

-- a running mission whose ticks had these readings
pub record Holds (start readings image : List ℕ) (c : Counters) : Type 0 where
  pub listed : Listed start (History.history (settings_of start) readings) image
  pub running : Running start (History.history (settings_of start) readings) (length readings) image c
  pub measured : Measured start (History.waited (settings_of start) readings) (History.history (settings_of start) readings) image

-- ---- changes that leave what a listing goes by

pub listed_left : {runs : List Run} {flags : List Flag} {start before after : List ℕ} {es : List Conversion}
    → Leaves runs flags before after → SameSettings before after → Whole after
    → T (free runs 0x0214 1) → T (spares flags 0x0214 1) → T (spares flags 0x0214 0)
    → T (free runs 0x0215 1) → T (spares flags 0x0215 3)
    → T (free (touched runs flags) 0x0213 1)
    → T (free (touched runs flags) 0x0219 6)
    → T (free (touched runs flags) 0x0220 3)
    → T (free (touched runs flags) 640 8192)
    → Listed start es before → Listed start es after
listed_left {start = start} l same whole status thf tlf general memclr control stamp samples log p =
    record {
      whole = whole;
      memclr = l.bits 0x0215 3 general memclr tt ∙ p.memclr;
      settings = settings_then p.settings same;
      samples = word_left 0x0220 3 l samples ∙ p.samples;
      flags = λ s. rw (l.bits 0x0214 1 status thf tt, l.bits 0x0214 0 status tlf tt) (p.flags s);
      stamp = stamp_kept l.keeps stamp ∙ p.stamp;
      entries = λ k lt ge. entry_kept (k % conversion.places start) l.keeps control log
          (rw (places_same p.settings) (mod-lt k (places_pos start)))
          ∙ p.entries k lt ge;
      written = record {
        low = λ wide k lt. rw (log_kept (2 * (k % 4096) + 1) l.keeps log (omega arith)) (p.written.low wide k lt);
        past = λ j inside ge. log_kept j l.keeps log inside ∙ p.written.past j inside ge;
      };
    }

-- ---- and what was measured

pub measured_left : {runs : List Run} {flags : List Flag} {start before after : List ℕ} {waited es : List Conversion}
    → Leaves runs flags before after
    → T (free runs 0x0214 1) → T (spares flags 0x0214 1) → T (spares flags 0x0214 0)
    → T (free (touched runs flags) 0x0223 3)
    → T (free (touched runs flags) 0x020C 2)
    → Measured start waited es before → Measured start waited es after
measured_left l status thf tlf device latest m =
    record {
      device = word_left 0x0223 3 l device ∙ m.device;
      thf = l.bits 0x0214 1 status thf tt ∙ m.thf;
      tlf = l.bits 0x0214 0 status tlf tt ∙ m.tlf;
      latest = λ i e. word_left 0x020C 2 l latest ∙ m.latest i e;
      no_latest = λ e. word_left 0x020C 2 l latest ∙ m.no_latest e;
    }

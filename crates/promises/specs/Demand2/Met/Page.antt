-- The image of a new tag after a Copy of the page and a Clear: what a Start finds, with the mission's settings in numbers. Assumes
-- nothing.
use Rattle.std.specs.Prelude.{◌≡◌, refl, true, false, not, List, [], ◌∷◌, ◌≢◌, ℕ, ◌+◌, ◌-◌, T, eqb, ltb, length, get_or}
use Rattle.std.proofs.Common.{◌∙◌, arith, T_not, ltb→lt}
use Rattle.bits.specs.Bits.{bit_of}
use Rattle.image.specs.Answers.{checked}
use Rattle.image.specs.Answers.Laws.{checked_kept}
use Rattle.image.specs.Fields.{flag_at}
use Rattle.image.specs.Keeps.{Run, free}
use Rattle.image.specs.Leaves.{Flag, touched}
use Rattle.image.specs.Map.Laws.{region_registers}
use Rattle.image.specs.Registers.{mip}
use Rattle.image.specs.Stored.{blend, stored_byte, stored_run}
use Rattle.image.specs.Stored.Laws.{keeps_stored_run, stored_run_at}
use Rattle.image.specs.Tables.{writable}
use Rattle.mission.specs.Mission.{cleared}
use Rattle.mission.specs.Mission.Commands.{clears}
use Rattle.mission.specs.Mission.Frames.{leaves_cleared, mip_cleared}
use Rattle.conversion.specs.Conversion.Whole.{Whole}
use Rattle.tag.proofs.Tag.Laws.{length_new}
use Rattle.promises.specs.Demand2.Met.{page}
use Rattle.promises.specs.Demand3.Needed.Tags.{fresh, fresh_at, fresh_off}
use Rattle.promises.specs.History.{Settings}
use Rattle.promises.specs.Sentences.Clock.{clock_at}
use Rattle.promises.specs.Sentences.Course.{settings_of}
use Rattle.promises.specs.Sentences.Mission.{device_of, MayStart}
use Rattle.promises.specs.Words.{bit, byte_at}

-- after the Copy, and after the Clear
abbrev pub written : List ℕ
written = stored_run fresh 0x0200 page

abbrev pub clean : List ℕ
clean = cleared written

-- ---- the Copy

-- each byte of a page, as far as it is writable; BOR stands in 0214h
pub page_at_lem : (bytes : List ℕ) → length bytes ≡ 32 → (j : ℕ) → T (ltb j 32) → T (not (eqb j 0x14)) →
    get_or (stored_run fresh 0x0200 bytes) (0x0200 + j) 0 ≡ blend (get_or writable j 0) 0 (get_or bytes j 0)
unfolding stored_byte
page_at_lem bytes long j low other =
    let inside = ltb→lt j 32 low in
    let place : 0x0200 + j - 0x0200 ≡ j = omega arith in
    let apart : 0x0200 + j ≢ 0x0214 = λ e. T_not (eqb j 0x14) other (let same : j ≡ 0x14 = omega arith in rw same tt) in
    stored_run_at fresh 0x0200 bytes j (rw long inside) (omega (arith, length_new 8832))
    ∙ rw (region_registers (0x0200 + j) (omega arith) (omega arith), place, fresh_at (0x0200 + j) apart)

written_at : (j : ℕ) → T (ltb j 32) → T (not (eqb j 0x14)) → get_or written (0x0200 + j) 0 ≡ blend (get_or writable j 0) 0 (get_or page j 0)
written_at = page_at_lem page refl

pub written_off : checked written ≡ false
written_off = checked_kept (keeps_stored_run fresh 0x0200 page) tt ∙ fresh_off

written_idle : mip written ≡ false
unfolding flag_at bit_of blend writable
written_idle = rw (written_at 0x15 tt tt)

-- ---- the Clear

-- what it touches: runs of bytes, and bits
abbrev changed : List Run
changed = (0x0219, 6) ∷ (0x0220, 3) ∷ []

abbrev put : List Flag
put = (0x0214, 0) ∷ (0x0214, 1) ∷ (0x0214, 7) ∷ (0x0215, 3) ∷ []

clean_at : (j : ℕ) → T (ltb j 32) → T (not (eqb j 0x14)) → T (free (touched changed put) (0x0200 + j) 1)
    → get_or clean (0x0200 + j) 0 ≡ blend (get_or writable j 0) 0 (get_or page j 0)
clean_at j low other left = (leaves_cleared written).keeps.bytes (0x0200 + j) left ∙ written_at j low other

pub clean_may : Whole written → MayStart clean
unfolding bit flag_at bit_of blend writable
clean_may whole =
    record {
      memclr = (clears whole written_idle).memclr;
      mip = mip_cleared written ∙ written_idle;
      etl = rw (clean_at 0x13 tt tt tt);
      rate = rw (clean_at 0x06 tt tt tt, clean_at 0x07 tt tt tt) (λ e. omega arith);
    }

-- past the page it holds what a new tag does
clean_past : (k : ℕ) → T (free (touched changed put) k 1) → T (free ((0x0200, 32) ∷ []) k 1) → k ≢ 0x0214 → get_or clean k 0 ≡ 0x00
clean_past k left other apart =
    (leaves_cleared written).keeps.bytes k left ∙ (keeps_stored_run fresh 0x0200 page).bytes k other ∙ fresh_at k apart

-- passwords are not checked
pub clean_open : byte_at clean 0x0227 ≡ 0x00
clean_open = clean_past 0x0227 tt tt (omega arith)

-- and no conversion was made
pub clean_unused : device_of clean ≡ 0
clean_unused = rw (clean_past 0x0223 tt tt (omega arith), clean_past 0x0224 tt tt (omega arith), clean_past 0x0225 tt tt (omega arith))

abbrev pub settings : Settings
settings =
    record {
      rate = 2;
      ehss = true;
      delay = 1;
      suta = true;
      ro = false;
      tlfs = true;
      low = 0x00;
      high = 0x54;
      etla = false;
      etha = true;
      clock = record { seconds = 0x55; minutes = 0x58; hours = 0x71; date = 0x31; month = 0x12; year = 0x99 };
    }

pub settings_clean : settings_of clean ≡ settings
unfolding settings_of clock_at bit bit_of blend writable
settings_clean =
    rw (
      clean_at 0x00 tt tt tt,
      clean_at 0x01 tt tt tt,
      clean_at 0x02 tt tt tt,
      clean_at 0x03 tt tt tt,
      clean_at 0x04 tt tt tt,
      clean_at 0x05 tt tt tt,
      clean_at 0x06 tt tt tt,
      clean_at 0x07 tt tt tt,
      clean_at 0x08 tt tt tt,
      clean_at 0x09 tt tt tt,
      clean_at 0x10 tt tt tt,
      clean_at 0x12 tt tt tt,
      clean_at 0x13 tt tt tt,
      clean_at 0x16 tt tt tt,
      clean_at 0x17 tt tt tt,
      clean_at 0x18 tt tt tt,
    )

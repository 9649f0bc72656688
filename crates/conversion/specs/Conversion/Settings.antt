-- A mission's settings: the fields that no tick and no control command touches, and what is read off them alone.
-- Assumes nothing.
use Rattle.std.specs.Prelude.{◌≡◌, refl, List, ℕ, ◌+◌, ◌%◌, ◌^◌, ◌≤◌, T}
use Rattle.std.proofs.Common.{◌∙◌, ap, arith}
use Rattle.image.specs.Keeps.{Run, free, free_part, word_kept, flag_kept}
use Rattle.image.specs.Leaves.{Flag, spares, touched, Leaves}
use Rattle.image.specs.Registers
use Rattle.conversion.specs.Conversion.{resolved, alarms_high, alarms_low, alarms, places}

-- rate, thresholds, enables, EHSS and the four flags of 0213h are the same
pub record SameSettings (before after : List ℕ) : Type 0 where
  pub rate : Registers.rate after ≡ Registers.rate before
  pub low_threshold : Registers.low_threshold after ≡ Registers.low_threshold before
  pub high_threshold : Registers.high_threshold after ≡ Registers.high_threshold before
  pub etla : Registers.etla after ≡ Registers.etla before
  pub etha : Registers.etha after ≡ Registers.etha before
  pub ehss : Registers.ehss after ≡ Registers.ehss before
  pub etl : Registers.etl after ≡ Registers.etl before
  pub tlfs : Registers.tlfs after ≡ Registers.tlfs before
  pub ro : Registers.ro after ≡ Registers.ro before
  pub suta : Registers.suta after ≡ Registers.suta before

pub settings_same : {image : List ℕ} → SameSettings image image
settings_same =
    record {
      rate = refl;
      low_threshold = refl;
      high_threshold = refl;
      etla = refl;
      etha = refl;
      ehss = refl;
      etl = refl;
      tlfs = refl;
      ro = refl;
      suta = refl;
    }

pub settings_then : {a b c : List ℕ} → SameSettings a b → SameSettings b c → SameSettings a c
settings_then p q =
    record {
      rate = q.rate ∙ p.rate;
      low_threshold = q.low_threshold ∙ p.low_threshold;
      high_threshold = q.high_threshold ∙ p.high_threshold;
      etla = q.etla ∙ p.etla;
      etha = q.etha ∙ p.etha;
      ehss = q.ehss ∙ p.ehss;
      etl = q.etl ∙ p.etl;
      tlfs = q.tlfs ∙ p.tlfs;
      ro = q.ro ∙ p.ro;
      suta = q.suta ∙ p.suta;
    }

-- a change that touches none of their bytes, and of 0212h not EHSS
pub settings_left : {runs : List Run} {flags : List Flag} {before after : List ℕ} → Leaves runs flags before after
    → T (free (touched runs flags) 0x0206 4)
    → T (free (touched runs flags) 0x0210 1)
    → T (free runs 0x0212 1)
    → T (spares flags 0x0212 1)
    → T (free (touched runs flags) 0x0213 1)
    → SameSettings before after
settings_left {runs} {flags} p rates enables rtc spared control =
    let within : (k j : ℕ) → 0x0206 ≤ k → k + j ≤ 0x020A → T (free (touched runs flags) k j) =
    λ k j lo hi. free_part (touched runs flags) 0x0206 4 k j lo hi rates in
    record {
      rate = ap (λ (n : ℕ). n % 2 ^ 14) (word_kept 0x0206 2 p.keeps (within 0x0206 2 (omega arith) (omega arith)));
      low_threshold = p.keeps.bytes 0x0208 (within 0x0208 1 (omega arith) (omega arith));
      high_threshold = p.keeps.bytes 0x0209 (within 0x0209 1 (omega arith) (omega arith));
      etla = flag_kept 0x0210 0 p.keeps enables;
      etha = flag_kept 0x0210 1 p.keeps enables;
      ehss = p.bits 0x0212 1 rtc spared tt;
      etl = flag_kept 0x0213 0 p.keeps control;
      tlfs = flag_kept 0x0213 2 p.keeps control;
      ro = flag_kept 0x0213 4 p.keeps control;
      suta = flag_kept 0x0213 5 p.keeps control;
    }

-- ---- what is read off the settings alone

module _ {before after : List ℕ} (s : SameSettings before after) where
  pub places_same : places after ≡ places before
  unfolding places
  places_same = rw s.tlfs

  pub resolved_same : (reading : ℕ) → resolved after reading ≡ resolved before reading
  unfolding resolved
  resolved_same reading = rw s.tlfs

  pub alarms_high_same : (reading : ℕ) → alarms_high after reading ≡ alarms_high before reading
  unfolding alarms_high
  alarms_high_same reading = rw (s.etha, s.high_threshold)

  pub alarms_low_same : (reading : ℕ) → alarms_low after reading ≡ alarms_low before reading
  unfolding alarms_low
  alarms_low_same reading = rw (s.etla, s.low_threshold)

  pub alarms_same : (reading : ℕ) → alarms after reading ≡ alarms before reading
  unfolding alarms
  alarms_same reading = rw (alarms_high_same reading, alarms_low_same reading)

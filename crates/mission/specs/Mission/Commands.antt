-- What Clear, Start, Stop and Forced Conversion do, field by field, in an image of 8,832 bytes; what each leaves is in
-- the frames. Assumes nothing.
use Rattle.std.specs.Prelude.{◌≡◌, refl, Bool, true, false, not, ◌&&◌, List, ℕ, ◌+◌, ◌*◌, ◌%◌, min, eqb, if◌then◌else◌}
use Rattle.std.proofs.Common.{◌∙◌, arith}
use Rattle.std.proofs.Math.Bool.{and-eq-true_iff}
use Rattle.std.proofs.lemmas.Bool.{not-true, eqb-false}
use Rattle.bits.specs.Choose.{choices}
use Rattle.image.specs.Fields.{word_at}
use Rattle.image.specs.Fields.Laws.{word_put_word, flag_put_flag}
use Rattle.image.specs.Leaves.{leaves_put_word, leaves_put_flag, word_left}
use Rattle.image.specs.Registers
use Rattle.image.specs.Registers.{mip, put_latest, put_eosc, put_bor, put_thf, put_tlf, put_mip, put_memclr, put_stamp, put_mission_samples}
use Rattle.conversion.specs.Clock.{stamp_of}
use Rattle.conversion.specs.Clock.Laws.{stamp_zero}
use Rattle.conversion.specs.Conversion.{device_counted, alarms}
use Rattle.mission.specs.Mission.{cleared, may_start, started, stopped, wfta_cleared, forced}
use Rattle.conversion.specs.Conversion.Frames.{leaves_device_counted}
use Rattle.mission.specs.Mission.Frames.{leaves_wfta_cleared}
use Rattle.conversion.specs.Conversion.Reads.{device_counted_lem}
use Rattle.conversion.specs.Conversion.Settings.{settings_then, settings_left, alarms_same}
use Rattle.conversion.specs.Conversion.Whole.{Whole, whole_put_word, whole_put_flag, whole_device_counted}
use Rattle.mission.specs.declared.Counters.{Counters}

-- ---- Clear

-- "Clear (no mission)"
pub cleared_mission : (image : List ℕ) → mip image ≡ true → cleared image ≡ image
unfolding cleared
cleared_mission image e = rw e

pub record Clears (after : List ℕ) : Type 0 where
  pub stamp : stamp_of after ≡ record { seconds = 0; minutes = 0; hours = 0; date = 0; month = 0; year = 0 }
  pub mission_samples : Registers.mission_samples after ≡ 0
  pub bor : Registers.bor after ≡ false
  pub thf : Registers.thf after ≡ false
  pub tlf : Registers.tlf after ≡ false
  pub memclr : Registers.memclr after ≡ true

pub clears : {image : List ℕ} → Whole image → mip image ≡ false → Clears (cleared image)
unfolding cleared
clears {image} w e =
    let a = put_stamp image 0 in
    let b = put_mission_samples a 0 in
    let c = put_bor b false in
    let d = put_thf c false in
    let f = put_tlf d false in
    let wa = whole_put_word 0x0219 6 0 w in
    let wb = whole_put_word 0x0220 3 0 wa in
    let wc = whole_put_flag 0x0214 7 false wb in
    let wd = whole_put_flag 0x0214 1 false wc in
    let wf = whole_put_flag 0x0214 0 false wd in
    let lb = leaves_put_word a 0x0220 3 0 in
    let lc = leaves_put_flag b 0x0214 7 false tt in
    let ld = leaves_put_flag c 0x0214 1 false tt in
    let lf = leaves_put_flag d 0x0214 0 false tt in
    let lg = leaves_put_flag f 0x0215 3 true tt in
    rw e
    (record {
      stamp = stamp_zero _
          (word_left 0x0219 6 lg tt ∙ word_left 0x0219 6 lf tt ∙ word_left 0x0219 6 ld tt ∙ word_left 0x0219 6 lc tt
          ∙ word_left 0x0219 6 lb tt ∙ word_put_word image 0x0219 6 0 (omega (arith, w.size)));
      mission_samples = word_left 0x0220 3 lg tt ∙ word_left 0x0220 3 lf tt ∙ word_left 0x0220 3 ld tt ∙ word_left 0x0220 3 lc tt
          ∙ word_put_word a 0x0220 3 0 (omega (arith, wa.size));
      bor = lg.bits 0x0214 7 tt tt tt ∙ lf.bits 0x0214 7 tt tt tt ∙ ld.bits 0x0214 7 tt tt tt
          ∙ flag_put_flag b 0x0214 7 false (omega (arith, wb.size)) tt;
      thf = lg.bits 0x0214 1 tt tt tt ∙ lf.bits 0x0214 1 tt tt tt ∙ flag_put_flag c 0x0214 1 false (omega (arith, wc.size)) tt;
      tlf = lg.bits 0x0214 0 tt tt tt ∙ flag_put_flag d 0x0214 0 false (omega (arith, wd.size)) tt;
      memclr = flag_put_flag f 0x0215 3 true (omega (arith, wf.size)) tt;
    })

-- ---- Start

-- "Start (MEMCLR 1, no mission, ETL 1, rate not 0)"
pub record MayStart (image : List ℕ) : Type 0 where
  pub memclr : Registers.memclr image ≡ true
  pub mip : Registers.mip image ≡ false
  pub etl : Registers.etl image ≡ true
  pub rate : Registers.rate image ≡ 0 → ⊥

pub may_start_lem : (image : List ℕ) → may_start image ≡ true → MayStart image
unfolding may_start
may_start_lem image e =
    let three = (and-eq-true_iff (Registers.memclr image && not (Registers.mip image) && Registers.etl image) (not (eqb (Registers.rate image) 0))).0 e in
    let two = (and-eq-true_iff (Registers.memclr image && not (Registers.mip image)) (Registers.etl image)).0 three.0 in
    let one = (and-eq-true_iff (Registers.memclr image) (not (Registers.mip image))).0 two.0 in
    record {
      memclr = one.0;
      mip = not-true (Registers.mip image) one.1;
      etl = two.1;
      rate = eqb-false (Registers.rate image) 0 (not-true (eqb (Registers.rate image) 0) three.1);
    }

pub started_not : (image : List ℕ) → may_start image ≡ false → started image ≡ image
unfolding started
started_not image e = rw e

pub record Starts (before after : List ℕ) : Type 0 where
  pub mip : Registers.mip after ≡ true
  pub memclr : Registers.memclr after ≡ false
  pub eosc : Registers.eosc after ≡ true
  pub wfta : Registers.wfta after ≡ Registers.suta before

pub starts : {image : List ℕ} → Whole image → may_start image ≡ true → Starts image (started image)
unfolding started
starts {image} w e =
    let a = put_mip image true in
    let b = put_memclr a false in
    let c = put_eosc b true in
    let wa = whole_put_flag 0x0215 1 true w in
    let wb = whole_put_flag 0x0215 3 false wa in
    let wc = whole_put_flag 0x0212 0 true wb in
    let lb = leaves_put_flag a 0x0215 3 false tt in
    let lc = leaves_put_flag b 0x0212 0 true tt in
    let ld = leaves_put_flag c 0x0215 4 (Registers.suta image) tt in
    rw e
    (record {
      mip = ld.bits 0x0215 1 tt tt tt ∙ lc.bits 0x0215 1 tt tt tt ∙ lb.bits 0x0215 1 tt tt tt
          ∙ flag_put_flag image 0x0215 1 true (omega (arith, w.size)) tt;
      memclr = ld.bits 0x0215 3 tt tt tt ∙ lc.bits 0x0215 3 tt tt tt ∙ flag_put_flag a 0x0215 3 false (omega (arith, wa.size)) tt;
      eosc = ld.bits 0x0212 0 tt tt tt ∙ flag_put_flag b 0x0212 0 true (omega (arith, wb.size)) tt;
      wfta = flag_put_flag c 0x0215 4 (Registers.suta image) (omega (arith, wc.size)) tt;
    })

-- ---- Stop

pub mip_stopped : {image : List ℕ} → Whole image → mip (stopped image) ≡ false
unfolding stopped
mip_stopped {image} w = flag_put_flag image 0x0215 1 false (omega (arith, w.size)) tt

-- ---- Forced Conversion

pub wfta_cleared_lem : {image : List ℕ} → Whole image → (reading : ℕ) →
    Registers.wfta (wfta_cleared image reading) ≡ if alarms image reading then false else Registers.wfta image
unfolding wfta_cleared
wfta_cleared_lem {image} w reading =
    choices (λ (i : List ℕ) (b : Bool). Registers.wfta i ≡ b) (alarms image reading) (flag_put_flag image 0x0215 4 false (omega (arith, w.size)) tt) refl

-- "no mission only"
pub forced_mission : (image : List ℕ) (c : Counters) → mip image ≡ true → forced image c ≡ image
unfolding forced
forced_mission image c e = rw e

pub record Forces (before : List ℕ) (reading : ℕ) (after : List ℕ) : Type 0 where
  pub latest : word_at after 0x020C 2 ≡ 32 * (reading % 2048)
  pub device_samples : Registers.device_samples after ≡ min (Registers.device_samples before + 1) 0xFFFFFF
  pub eosc : Registers.eosc after ≡ true
  pub wfta : Registers.wfta after ≡ if alarms before reading then false else Registers.wfta before

pub forces : {image : List ℕ} → Whole image → (c : Counters) → mip image ≡ false → Forces image c.reading (forced image c)
unfolding forced
forces {image} w c e =
    let a = put_latest image c.reading in
    let b = device_counted a in
    let d = put_eosc b true in
    let wa = whole_put_word 0x020C 2 (c.reading * 32) w in
    let wb = whole_device_counted wa in
    let wd = whole_put_flag 0x0212 0 true wb in
    let la = leaves_put_word image 0x020C 2 (c.reading * 32) in
    let lb = leaves_device_counted a in
    let ld = leaves_put_flag b 0x0212 0 true tt in
    let lw = leaves_wfta_cleared d c.reading in
    let same = settings_then (settings_left la tt tt tt tt tt) (settings_then (settings_left lb tt tt tt tt tt) (settings_left ld tt tt tt tt tt)) in
    rw e
    (record {
      latest = word_left 0x020C 2 lw tt
          ∙ word_left 0x020C 2 ld tt
          ∙ word_left 0x020C 2 lb tt
          ∙ word_put_word image 0x020C 2 (c.reading * 32) (omega (arith, w.size))
          ∙ omega arith;
      device_samples = word_left 0x0223 3 lw tt ∙ word_left 0x0223 3 ld tt ∙ device_counted_lem wa ∙ rw (word_left 0x0223 3 la tt);
      eosc = lw.bits 0x0212 0 tt tt tt ∙ flag_put_flag b 0x0212 0 true (omega (arith, wb.size)) tt;
      wfta = wfta_cleared_lem wd c.reading
          ∙ rw (alarms_same same c.reading, ld.bits 0x0215 4 tt tt tt, lb.bits 0x0215 4 tt tt tt, la.bits 0x0215 4 tt tt tt);
    })

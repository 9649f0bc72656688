-- A case's own numbers stand for it, and the numbers that are some case's own are those that they code to again. Assumes nothing.
use Rattle.std.specs.Prelude.{◌≡◌, refl, true, false, ◌&&◌, ℕ, zero, suc, eqb}
use Rattle.std.proofs.Common.{ap, arith, eqb-true, eq-eqb, ltb-true, ne_eqb}
use Rattle.std.proofs.lemmas.Bool.{le-ltb}
use Rattle.std.proofs.Math.Bool.{and-eq-true_iff}
use Rattle.bits.specs.Bits.{digit}
use Rattle.bus.specs.declared.Addressed.{Addressed}
use Rattle.bus.specs.declared.Control.{Control}
use Rattle.bus.specs.declared.Guarded.{Guarded}
use Rattle.bus.specs.declared.Hearing.{Hearing}
use Rattle.bus.specs.declared.Next.{Next}
use Rattle.bus.specs.declared.Sending.{Sending}
use Rattle.bus.specs.declared.Stage.{Stage}
use Rattle.select.specs.declared.Choosing.{Choosing}
use Rattle.select.specs.declared.Mode.{Mode}
use Rattle.packing.specs.declared.Coded.{Coded}
use Rattle.packing.specs.Codes.{coded_as, addressed_code, addressed_of, control_code, control_of, next_code, next_of, choosing_codes, choosing_of, mode_code, mode_of, hearing_codes, guarded_codes, sending_codes, stage_codes, hearing_of, guarded_of, sending_of, stage_of, same_codes, is_choosing, is_stage, is_mode, is_flag}

-- ---- which stage it is

pub hearing_case : (hearing : Hearing) → (hearing_codes hearing).case ≡ 1
hearing_case Hearing.Command = refl
hearing_case (Hearing.Low addressed) = refl
hearing_case (Hearing.High addressed) = refl
hearing_case (Hearing.Data place) = refl
hearing_case Hearing.Status = refl
hearing_case (Hearing.Confirm control) = refl

pub guarded_case : (guarded : Guarded) → (guarded_codes guarded).case ≡ 2
guarded_case Guarded.Reading = refl
guarded_case Guarded.Copying = refl
guarded_case (Guarded.Controlling control) = refl

pub sending_case : (sending : Sending) → (sending_codes sending).case ≡ 3
sending_case Sending.PadLow = refl
sending_case Sending.PadHigh = refl
sending_case Sending.PadStatus = refl
sending_case (Sending.PadData place) = refl
sending_case Sending.Memory = refl
sending_case (Sending.CrcLow next) = refl
sending_case (Sending.CrcHigh next) = refl

-- ---- a case's own numbers stand for it

pub addressed_back : (addressed : Addressed) → addressed_of (addressed_code addressed) ≡ addressed
unfolding addressed_of
addressed_back Addressed.Write = refl
addressed_back Addressed.Copy = refl
addressed_back Addressed.Read = refl

pub control_back : (control : Control) → control_of (control_code control) ≡ control
unfolding control_of
control_back Control.Clear = refl
control_back Control.Start = refl
control_back Control.Stop = refl
control_back Control.Convert = refl

pub next_back : (next : Next) → next_of (next_code next) ≡ next
unfolding next_of
next_back Next.Nothing = refl
next_back Next.Page = refl

pub choosing_back : (choosing : Choosing) → choosing_of (choosing_codes choosing) ≡ choosing
unfolding choosing_of
choosing_back Choosing.Silent = refl
choosing_back (Choosing.Command heard count) = refl
choosing_back (Choosing.Reading at) = refl
choosing_back (Choosing.Matching true at) = refl
choosing_back (Choosing.Matching false at) = refl
choosing_back (Choosing.Giving at) = refl
choosing_back (Choosing.Complementing at) = refl
choosing_back (Choosing.Awaiting at) = refl
choosing_back Choosing.Selected = refl

pub mode_back : (mode : Mode) → mode_of (mode_code mode) ≡ mode
unfolding mode_of
mode_back Mode.Plain = refl
mode_back Mode.Marked = refl
mode_back Mode.Overdrive = refl
mode_back Mode.OverdriveMarked = refl

pub hearing_back : (hearing : Hearing) → hearing_of (hearing_codes hearing).first (hearing_codes hearing).second ≡ hearing
unfolding hearing_of
hearing_back Hearing.Command = refl
hearing_back (Hearing.Low addressed) = ap Hearing.Low (addressed_back addressed)
hearing_back (Hearing.High addressed) = ap Hearing.High (addressed_back addressed)
hearing_back (Hearing.Data place) = refl
hearing_back Hearing.Status = refl
hearing_back (Hearing.Confirm control) = ap Hearing.Confirm (control_back control)

pub guarded_back : (guarded : Guarded) → guarded_of (guarded_codes guarded).first (guarded_codes guarded).second ≡ guarded
unfolding guarded_of
guarded_back Guarded.Reading = refl
guarded_back Guarded.Copying = refl
guarded_back (Guarded.Controlling control) = ap Guarded.Controlling (control_back control)

pub sending_back : (sending : Sending) → sending_of (sending_codes sending).first (sending_codes sending).second ≡ sending
unfolding sending_of
sending_back Sending.PadLow = refl
sending_back Sending.PadHigh = refl
sending_back Sending.PadStatus = refl
sending_back (Sending.PadData place) = refl
sending_back Sending.Memory = refl
sending_back (Sending.CrcLow next) = ap Sending.CrcLow (next_back next)
sending_back (Sending.CrcHigh next) = ap Sending.CrcHigh (next_back next)

pub stage_back : (stage : Stage) → stage_of (stage_codes stage) ≡ stage
unfolding stage_of
stage_back Stage.Over = refl
stage_back (Stage.Hears hearing) = rw (hearing_case hearing) (ap Stage.Hears (hearing_back hearing))
stage_back (Stage.Gathers guarded) = rw (guarded_case guarded) (ap Stage.Gathers (guarded_back guarded))
stage_back (Stage.Sends sending) = rw (sending_case sending) (ap Stage.Sends (sending_back sending))
stage_back Stage.Copied = refl

pub flag_back : (flag : _) → eqb (digit flag) 1 ≡ flag
flag_back true = refl
flag_back false = refl

-- ---- numbers that are a case's own

same_is : (codes others : Coded) → same_codes codes others ≡ true → codes ≡ others
unfolding same_codes
same_is codes others e =
    let two = (and-eq-true_iff (eqb codes.case others.case && eqb codes.first others.first) (eqb codes.second others.second)).0 e in
    let one = (and-eq-true_iff (eqb codes.case others.case) (eqb codes.first others.first)).0 two.0 in
    let p = eqb-true codes.case others.case one.0 in
    let q = eqb-true codes.first others.first one.1 in
    let r = eqb-true codes.second others.second two.1 in
    λ i. coded_as (p i) (q i) (r i)

pub same_refl : (codes : Coded) → same_codes codes codes ≡ true
unfolding same_codes
same_refl codes = rw (eq-eqb codes.case codes.case refl, eq-eqb codes.first codes.first refl, eq-eqb codes.second codes.second refl)

pub own_choosing : (choosing : Choosing) → is_choosing (choosing_codes choosing) ≡ true
unfolding is_choosing
own_choosing choosing = rw (choosing_back choosing) (same_refl (choosing_codes choosing))

pub own_stage : (stage : Stage) → is_stage (stage_codes stage) ≡ true
unfolding is_stage
own_stage stage = rw (stage_back stage) (same_refl (stage_codes stage))

pub own_mode : (mode : Mode) → is_mode (mode_code mode) ≡ true
unfolding is_mode
own_mode mode = rw (mode_back mode) (eq-eqb (mode_code mode) (mode_code mode) refl)

pub own_flag : (flag : _) → is_flag (digit flag) ≡ true
unfolding is_flag
own_flag true = refl
own_flag false = refl

-- a flag's numbers are those that its value has again
pub flag_own : (code : ℕ) → eqb (digit (eqb code 1)) code ≡ is_flag code
unfolding is_flag
flag_own zero = refl
flag_own (suc zero) = refl
flag_own (suc (suc code)) =
    rw (ne_eqb (suc (suc code)) 1 (omega arith), le-ltb (suc (suc code)) 2 (omega arith)) (ne_eqb 0 (suc (suc code)) (omega arith))

-- what is some case's own is coded again by the case that it stands for
pub choosing_again : (codes : Coded) → is_choosing codes ≡ true → choosing_codes (choosing_of codes) ≡ codes
unfolding is_choosing
choosing_again codes e = same_is (choosing_codes (choosing_of codes)) codes e

pub stage_again : (codes : Coded) → is_stage codes ≡ true → stage_codes (stage_of codes) ≡ codes
unfolding is_stage
stage_again codes e = same_is (stage_codes (stage_of codes)) codes e

pub mode_again : (code : ℕ) → is_mode code ≡ true → mode_code (mode_of code) ≡ code
unfolding is_mode
mode_again code e = eqb-true (mode_code (mode_of code)) code e

pub flag_again : (code : ℕ) → is_flag code ≡ true → digit (eqb code 1) ≡ code
unfolding is_flag
flag_again zero e = refl
flag_again (suc zero) e = refl
flag_again (suc (suc code)) e = absurd (omega (arith, ltb-true (suc (suc code)) 2 e))

-- Two tags with one number, each made by its owner from a new one: the first has its passwords set; the second is cleared first,
-- so that no alarm flag is set, and has bytes of its own in user memory and other passwords. Both wait after a reset with the
-- same scratchpad. Assumes nothing.
use Rattle.std.specs.Prelude.{◌≡◌, refl, Bool, true, false, List, [], ◌∷◌, ◌++◌, ◌≢◌, ℕ, ◌<◌, length, get_or, replicate}
use Rattle.std.proofs.Common.{ap, ◌∙◌, inr, arith, get_or-set_same, get_or-set_other}
use Rattle.std.proofs.Math.Bool.{xor}
use Rattle.std.specs.Float.Ieee.Fits.{and_i}
use Rattle.std.proofs.lemmas.List.{length-replicate}
use Rattle.bits.specs.Bits.{bit_of, bits_of}
use Rattle.bits.specs.Bytes.{byte_blank, bytes_of}
use Rattle.crc.specs.Crc.{taps, crc_bit, crc_bits, mask8, crc8_of, good_crc}
use Rattle.image.specs.Answers.{alarmed, checked}
use Rattle.image.specs.Answers.Laws.{alarmed_kept, checked_kept}
use Rattle.image.specs.Fields.{flag_at, apart}
use Rattle.image.specs.Fields.Laws.{apart_of}
use Rattle.image.specs.Keeps.{Keeps, flag_kept}
use Rattle.image.specs.Map.Laws.{region_user}
use Rattle.image.specs.Registers.{mip}
use Rattle.image.specs.Stored.{stored_byte, stored_run}
use Rattle.image.specs.Stored.Laws.{length_stored_run, keeps_stored_run, stored_run_at}
use Rattle.mission.specs.Mission.{cleared}
use Rattle.mission.specs.Mission.Commands as commands
use Rattle.mission.specs.Mission.Frames.{leaves_cleared, mip_cleared}
use Rattle.conversion.specs.Conversion.Whole.{Whole}
use Rattle.record.specs.Record.{good_number, good_code, Outcome}
use Rattle.tag.specs.Tag.{new_image, new_tag}
use Rattle.tag.proofs.Tag.Laws.{new_made, length_new}
use Rattle.promises.specs.Demand2.Course.{reached_solid}
use Rattle.promises.specs.Demand3.{JustReset}
use Rattle.promises.specs.Demand3.Needed.Keys.{HasKeys, keys_stored}
use Rattle.promises.specs.Demand3.Needed.Owner.{Owned, stored, stored_owned, cleared_by, cleared_owned, ready, waiting, Ready, is_ready}
use Rattle.promises.specs.Runs.{State, leaves, Reached}

-- ---- bytes

-- 0227h-023Fh: AAh, a read password and a full password of eight equal bytes each, and eight bytes that no Copy writes
abbrev keys_of : ℕ → ℕ → List ℕ
keys_of read full = 0xAA ∷ replicate 8 read ++ (replicate 8 full ++ replicate 8 0x00)

abbrev pub first_keys : List ℕ
first_keys = keys_of 0x11 0x22

abbrev pub second_keys : List ℕ
second_keys = keys_of 0x33 0x44

-- what the second has in user memory, and what both have in the scratchpad
abbrev secret : List ℕ
secret = replicate 32 0x5A

abbrev pub pad : List ℕ
pad = replicate 32 0x00

-- ---- a new tag

-- the ROM 41 2B C5 FB 00 00 00 A1 of document 01's points, low byte first
abbrev pub number : ℕ
number = 0xA1000000FBC52B41

pub number_good : good_number number ≡ true
unfolding good_number good_crc taps crc_bit crc_bits mask8 crc8_of bit_of bits_of xor
number_good = refl

-- its image, and the tag that is made over any image lent, as over this one; with another number too
abbrev pub fresh : List ℕ
fresh = new_image 8832

abbrev pub made_with : ℕ → State
made_with rom = leaves (new_tag fresh rom 0x40)

pub with_owned : (rom : ℕ) → good_number rom ≡ true → Owned rom fresh (made_with rom)
unfolding good_code
with_owned rom good =
    let new = new_made fresh rom 0x40 (length_new 8832) good refl in
    record {
      reached = Reached.new fresh rom 0x40 (ap (λ (o : Outcome). o.answered.answer) new);
      numbered = ap (λ (o : Outcome). o.answered.tag.exchange.number) new;
      holds = ap (λ (o : Outcome). o.image) new;
    }

abbrev pub made : State
made = made_with number

pub made_owned : Owned number fresh made
made_owned = with_owned number number_good

pub fresh_at : (k : ℕ) → k ≢ 0x0214 → get_or fresh k 0 ≡ 0
unfolding new_image
fresh_at k ne = get_or-set_other {A = ℕ} (replicate 8832 0) 0x0214 k 0x80 0 ne ∙ byte_blank 8832 k

fresh_flags : get_or fresh 0x0214 0 ≡ 0x80
unfolding new_image
fresh_flags = get_or-set_same {A = ℕ} (replicate 8832 0) 0x0214 0x80 0 (omega (arith, length-replicate {A = ℕ} 8832 0))

pub fresh_off : checked fresh ≡ false
unfolding checked
fresh_off = rw (fresh_at 0x0227 (omega arith))

pub fresh_idle : mip fresh ≡ false
unfolding flag_at bit_of
fresh_idle = rw (fresh_at 0x0215 (omega arith))

fresh_alarmed : alarmed fresh ≡ true
unfolding alarmed flag_at bit_of
fresh_alarmed = rw fresh_flags

-- ---- what is known of each of the two

pub record Prepared (keys : List ℕ) (alarm : Bool) (s : State) : Type 0 where
  pub reset : JustReset s
  pub waits : s.tag.exchange ≡ waiting number pad
  pub keyed : HasKeys keys s.image
  pub idle : mip s.image ≡ false
  pub flags : alarmed s.image ≡ alarm

prepared : {keys image : List ℕ} {alarm : Bool} {s : State} → Ready number image pad s → HasKeys keys image → mip image ≡ false →
    alarmed image ≡ alarm → Prepared keys alarm s
prepared r keyed idle flags =
    record {
      reset = r.reset;
      waits = r.waits;
      keyed = rw r.holds keyed;
      idle = rw r.holds idle;
      flags = rw r.holds flags;
    }

-- ---- the first

abbrev pub first : State
first = ready (stored made 0x0227 first_keys) pad

first_keeps : Keeps ((0x0227, 25) ∷ []) fresh (stored_run fresh 0x0227 first_keys)
first_keeps = keeps_stored_run fresh 0x0227 first_keys

first_ready : Ready number (stored_run fresh 0x0227 first_keys) pad first
first_ready =
    let keyed = stored_owned made_owned fresh_off 0x0227 first_keys (omega arith) refl (bytes_of first_keys tt) fresh_idle in
    is_ready keyed pad refl (bytes_of pad tt)

pub first_prepared : Prepared first_keys true first
first_prepared =
    prepared first_ready (keys_stored fresh first_keys (length_new 8832) refl (bytes_of first_keys tt))
    (flag_kept 0x0215 1 first_keeps tt ∙ fresh_idle) (alarmed_kept first_keeps tt ∙ fresh_alarmed)

-- BOR is set
pub first_bor : flag_at first.image 0x0214 7 ≡ true
unfolding flag_at bit_of
first_bor = rw (first_ready.holds, first_keeps.bytes 0x0214 tt, fresh_flags)

-- its user memory is all zeros
pub first_user : (k : ℕ) → k < 0x0200 → get_or first.image k 0 ≡ 0
first_user k low =
    let untouched = and_i (apart 0x0227 25 k 1) true (apart_of 0x0227 25 k 1 (inr (omega arith))) tt in
    rw first_ready.holds (first_keeps.bytes k untouched ∙ fresh_at k (omega arith))

-- ---- the second

abbrev emptied : List ℕ
emptied = cleared fresh

emptied_long : length emptied ≡ 8832
emptied_long = (leaves_cleared fresh).keeps.lengths ∙ length_new 8832

emptied_off : checked emptied ≡ false
emptied_off = checked_kept (leaves_cleared fresh).keeps tt ∙ fresh_off

emptied_idle : mip emptied ≡ false
emptied_idle = mip_cleared fresh ∙ fresh_idle

emptied_silent : alarmed emptied ≡ false
unfolding alarmed
emptied_silent =
    let whole : Whole fresh = rw made_owned.holds at (reached_solid made_owned.reached).whole in
    let none = commands.clears whole fresh_idle in
    rw (none.bor, none.thf, none.tlf)

abbrev filled : List ℕ
filled = stored_run emptied 0x0000 secret

filled_keeps : Keeps ((0x0000, 32) ∷ []) emptied filled
filled_keeps = keeps_stored_run emptied 0x0000 secret

filled_idle : mip filled ≡ false
filled_idle = flag_kept 0x0215 1 filled_keeps tt ∙ emptied_idle

abbrev pub second : State
second = ready (stored (stored (cleared_by made) 0x0000 secret) 0x0227 second_keys) pad

second_keeps : Keeps ((0x0227, 25) ∷ []) filled (stored_run filled 0x0227 second_keys)
second_keeps = keeps_stored_run filled 0x0227 second_keys

second_ready : Ready number (stored_run filled 0x0227 second_keys) pad second
second_ready =
    let cleaned = cleared_owned made_owned fresh_off in
    let filling = stored_owned cleaned emptied_off 0x0000 secret (omega arith) refl (bytes_of secret tt) emptied_idle in
    let off = checked_kept filled_keeps tt ∙ emptied_off in
    let keyed = stored_owned filling off 0x0227 second_keys (omega arith) refl (bytes_of second_keys tt) filled_idle in
    is_ready keyed pad refl (bytes_of pad tt)

pub second_prepared : Prepared second_keys false second
second_prepared =
    let long = length_stored_run emptied 0x0000 secret ∙ emptied_long in
    prepared second_ready (keys_stored filled second_keys long refl (bytes_of second_keys tt))
    (flag_kept 0x0215 1 second_keeps tt ∙ filled_idle)
    (alarmed_kept second_keeps tt ∙ alarmed_kept filled_keeps tt ∙ emptied_silent)

pub second_user : get_or second.image 0x0000 0 ≡ 0x5A
unfolding stored_byte
second_user =
    rw second_ready.holds
    (second_keeps.bytes 0 tt
    ∙ stored_run_at emptied 0x0000 secret 0 (omega arith) (omega (arith, emptied_long))
    ∙ rw (region_user 0 (omega arith)))

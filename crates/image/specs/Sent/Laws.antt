-- What is sent at an address, region by region, and what it depends on. Assumes nothing.
use Rattle.std.specs.Prelude.{◌≡◌, Bool, true, false, List, ◌≢◌, ℕ, ◌+◌, ◌-◌, ◌≤◌, ◌<◌, eqb, get_or, if◌then◌else◌}
use Rattle.std.proofs.Common.{sym, ap, ◌∙◌, mod-eq_of_lt, arith, ne_eqb}
use Rattle.std.proofs.Math.Bool.{and-true, or-false}
use Rattle.std.specs.Int.Bits.{bit_and, bit_or, and_zero_r, or_zero_r}
use Rattle.std.proofs.lemmas.Nat.{and_comm, and_mask, and_le_r, or_lt}
use Rattle.bits.specs.Bits.{bit_of}
use Rattle.bits.specs.Bits.Laws.{bit_past}
use Rattle.bits.specs.Bytes.{Bytes}
use Rattle.image.specs.Fields.{flag_at}
use Rattle.image.specs.Fields.Laws.{bit_and_lem, bit_or_lem}
use Rattle.image.specs.Map.{region_at, index_of, byte_in}
use Rattle.image.specs.Map.Laws.{region_user, region_registers, region_calibration, region_reserved, region_log, index_low}
use Rattle.image.specs.Sent.{sent_byte, sent_in, sent_at}
use Rattle.image.specs.Tables.{always_one, named}
use Rattle.image.specs.Tables.Laws.{always_one_lt, named_lt, always_one_unnamed, password_shut}
use Rattle.image.specs.declared.Region.{Region}
use Rattle.image.specs.declared.Region.TheVariants.{User, Registers, Calibration, Reserved, Log}

-- an address sends what its region sends
pub sent_in_lem : (image : List ℕ) (code a : ℕ) {r : Region} → region_at a ≡ r → sent_at image code a ≡ sent_in image code r
unfolding sent_at
sent_in_lem image code a e = rw e

-- below 0280h that is of the byte at the address
pub sent_low_lem : (image : List ℕ) (code a : ℕ) → a < 0x0280 → sent_at image code a ≡ sent_byte code (region_at a) (get_or image a 0)
unfolding sent_at sent_in
sent_low_lem image code a h = rw (index_low a h)

-- ---- region by region

-- user memory, calibration and log are sent as they are
pub sent_user : (image : List ℕ) (code a : ℕ) → a < 0x0200 → sent_at image code a ≡ get_or image a 0
unfolding sent_byte
sent_user image code a h = sent_low_lem image code a (omega arith) ∙ rw (region_user a h)

pub sent_calibration : (image : List ℕ) (code a : ℕ) → 0x0240 ≤ a → a < 0x0280 → sent_at image code a ≡ get_or image a 0
unfolding sent_byte
sent_calibration image code a h k = sent_low_lem image code a k ∙ rw (region_calibration a h k)

pub sent_log : (image : List ℕ) (code a : ℕ) → 0x1000 ≤ a → a < 0x3000 → sent_at image code a ≡ get_or image (640 + (a - 0x1000)) 0
unfolding sent_in sent_byte
sent_log image code a h k = sent_in_lem image code a (region_log a h k)

-- what is reserved is sent as 00h
pub sent_reserved : (image : List ℕ) (code a : ℕ) → 0x0280 ≤ a → a < 0x1000 → sent_at image code a ≡ 0
unfolding sent_in sent_byte
sent_reserved image code a h k = sent_in_lem image code a (region_reserved a h k)

-- a register is sent through the tables
pub sent_register : (image : List ℕ) (code a : ℕ) → 0x0200 ≤ a → a < 0x0240 → a ≢ 0x0226
    → sent_at image code a ≡ bit_or (bit_and (get_or image a 0) (get_or named (a - 0x0200) 0)) (get_or always_one (a - 0x0200) 0)
unfolding sent_byte
sent_register image code a h k ne =
    sent_low_lem image code a (omega arith) ∙ rw (region_registers a h k, ne_eqb (a - 0x0200) 0x26 (λ e. ne (omega arith)))

pub sent_code : (image : List ℕ) (code : ℕ) → sent_at image code 0x0226 ≡ code
unfolding sent_byte
sent_code image code = sent_low_lem image code 0x0226 (omega arith) ∙ rw (region_registers 0x0226 (omega arith) (omega arith))

-- a password is sent as 00h, whatever it is
pub sent_password : (image : List ℕ) (code a : ℕ) → 0x0228 ≤ a → a < 0x0238 → sent_at image code a ≡ 0
sent_password image code a h k =
    let shut = password_shut (a - 0x0200) (omega arith) (omega arith) in
    sent_register image code a (omega arith) (omega arith) (λ e. omega arith)
    ∙ rw (shut.0, shut.1, and_zero_r (get_or image a 0))

-- ---- what it depends on

-- only the byte at its own place
pub sent_same : (i j : List ℕ) (code a : ℕ) → get_or i (index_of (region_at a)) 0 ≡ get_or j (index_of (region_at a)) 0
    → sent_at i code a ≡ sent_at j code a
unfolding sent_at sent_in
sent_same i j code a e = rw e

-- a byte is sent
pub sent_lt : (image : List ℕ) (code a : ℕ) → Bytes image → code < 256 → sent_at image code a < 256
unfolding sent_at sent_in sent_byte
sent_lt image code a bytes small = byte (region_at a) (byte_in image (region_at a)) (bytes (index_of (region_at a)))
  where
    through : (o b : ℕ) (t : Bool) → (if t then code else bit_or (bit_and b (get_or named o 0)) (get_or always_one o 0)) < 256
    through o b true = small
    through o b false =
        or_lt 8 (bit_and b (get_or named o 0)) (get_or always_one o 0) (omega (arith, and_le_r b (get_or named o 0), named_lt o)) (always_one_lt o)

    byte : (r : Region) (b : ℕ) → b < 256 → sent_byte code r b < 256
    byte (User o) b h = h
    byte (Registers o) b h = through o b (eqb o 0x26)
    byte (Calibration o) b h = h
    byte Reserved b h = omega arith
    byte (Log o) b h = h

-- ---- a register, bit by bit

-- a named bit is sent as it is stored
pub sent_flag : (image : List ℕ) (code a i : ℕ) → 0x0200 ≤ a → a < 0x0240 → a ≢ 0x0226 → bit_of (get_or named (a - 0x0200) 0) i ≡ true
    → bit_of (sent_at image code a) i ≡ flag_at image a i
unfolding flag_at
sent_flag image code a i lo hi ne e =
    let o = a - 0x0200 in
    let off : bit_of (get_or always_one o 0) i ≡ false =
    sym (rw e at (bit_and_lem (get_or named o 0) (get_or always_one o 0) i))
    ∙ ap (λ (n : ℕ). bit_of n i) (always_one_unnamed o (omega arith))
    ∙ bit_past 0 (omega arith) (omega arith) in
    rw (
      sent_register image code a lo hi ne,
      bit_or_lem (bit_and (get_or image a 0) (get_or named o 0)) (get_or always_one o 0) i,
      bit_and_lem (get_or image a 0) (get_or named o 0) i,
      e,
      off,
      and-true,
      or-false,
    )

-- a byte and FFh
whole : (n : ℕ) → n < 256 → bit_and n 255 ≡ n
whole n h = and_mask n 8 ∙ mod-eq_of_lt h

-- a byte all of whose bits are named is sent as it is stored
pub sent_whole_lem : (image : List ℕ) (code a : ℕ) → 0x0200 ≤ a → a < 0x0240 → a ≢ 0x0226 → get_or named (a - 0x0200) 0 ≡ 255 → Bytes image
    → sent_at image code a ≡ get_or image a 0
sent_whole_lem image code a lo hi ne e bytes =
    let o = a - 0x0200 in
    let off : get_or always_one o 0 ≡ 0 =
    sym (whole (get_or always_one o 0) (always_one_lt o)) ∙ and_comm (get_or always_one o 0) 255
    ∙ rw e at (always_one_unnamed o (omega arith)) in
    sent_register image code a lo hi ne
    ∙ rw (e, off, or_zero_r (bit_and (get_or image a 0) 255), whole (get_or image a 0) (bytes a))

-- A Copy to 0227h-023Fh sets the password control byte and both passwords (document 01, "Memory"). Assumes nothing.
use Rattle.std.specs.Prelude.{◌≡◌, refl, false, List, ℕ, zero, suc, ◌+◌, ◌-◌, ◌≤◌, ◌<◌, length, get_or}
use Rattle.std.proofs.Common.{◌∙◌, mod-eq_of_lt}
use native.Mathlib.Omega.{arith}
use Rattle.std.proofs.lemmas.Bool.{eqb-false}
use Rattle.std.proofs.lemmas.Nat.{and_mask}
use Rattle.std.specs.Int.Bits.{and_zero_r}
use Rattle.std.proofs.Math.Dec.{eqb, eqb→eq}
use Rattle.bits.specs.Bytes.{Bytes}
use Rattle.bits.specs.Each.{each_at}
use Rattle.image.specs.Fields.{word_at}
use Rattle.image.specs.Map.Laws.{region_registers}
use Rattle.image.specs.Registers.{password_control, read_password, full_password}
use Rattle.image.specs.Stored.{blend, stored_byte, stored_run}
use Rattle.image.specs.Stored.Laws.{stored_run_at}
use Rattle.image.specs.Tables.{writable}
use Rattle.promises.specs.Demand3.Needed.Walk.{NoneOf}

-- the control byte, the read password and the full password that such bytes are
pub record HasKeys (bytes image : List ℕ) : Type 0 where
  pub control : password_control image ≡ get_or bytes 0 0
  pub read : read_password image ≡ word_at bytes 1 8
  pub full : full_password image ≡ word_at bytes 9 8

-- a field that is neither password
pub none_of_keys : {bytes image : List ℕ} (field : ℕ) → HasKeys bytes image →
    eqb field (word_at bytes 1 8) ≡ false → eqb field (word_at bytes 9 8) ≡ false → NoneOf field image
none_of_keys {bytes} field keys r f =
    rw (keys.read, keys.full) (eqb-false field (word_at bytes 1 8) r, eqb-false field (word_at bytes 9 8) f)

-- ---- a Copy of them

-- a byte all of whose bits are writable
open_blend : (old new : ℕ) → new < 256 → blend 0xFF old new ≡ new
unfolding blend
open_blend old new small = rw (and_zero_r old, and_mask new 8) (mod-eq_of_lt small)

-- a word of an image is that of the bytes which stand there
word_there : (image bytes : List ℕ) (a j n : ℕ) → ((k : ℕ) → j ≤ k → k < j + n → get_or image (a + k) 0 ≡ get_or bytes k 0) →
    word_at image (a + j) n ≡ word_at bytes j n
unfolding word_at
word_there image bytes a j zero same = refl
word_there image bytes a j (suc n) same =
    let next : suc (a + j) ≡ a + suc j = omega arith in
    let rest = word_there image bytes a (suc j) n (λ k lo hi. same k (omega arith) (omega arith)) in
    rw (same j (omega arith) (omega arith), next, rest)

module _ (image bytes : List ℕ) (long : length image ≡ 8832) (whole : length bytes ≡ 25) (small : Bytes bytes) where
  key_stored : (j : ℕ) → j < 17 → get_or (stored_run image 0x0227 bytes) (0x0227 + j) 0 ≡ get_or bytes j 0
  unfolding stored_byte writable
  key_stored j h =
      let place : 0x0227 + j - 0x0200 ≡ 0x27 + j = omega arith in
      let mask = each_at 17 (λ i. eqb (get_or writable (0x27 + i) 0) 0xFF) tt j h in
      stored_run_at image 0x0227 bytes j (omega arith) (omega arith)
      ∙ rw (region_registers (0x0227 + j) (omega arith) (omega arith), place, eqb→eq (get_or writable (0x27 + j) 0) 0xFF mask)
      (open_blend (get_or image (0x0227 + j) 0) (get_or bytes j 0) (small j))

  pub keys_stored : HasKeys bytes (stored_run image 0x0227 bytes)
  keys_stored =
      let stored = stored_run image 0x0227 bytes in
      record {
        control = key_stored 0 (omega arith);
        read = word_there stored bytes 0x0227 1 8 (λ k lo hi. key_stored k (omega arith));
        full = word_there stored bytes 0x0227 9 8 (λ k lo hi. key_stored k (omega arith));
      }

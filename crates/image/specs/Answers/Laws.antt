-- When the answers are yes and when no, and what they depend on. Assumes nothing.
use Rattle.std.specs.Prelude.{◌≡◌, refl, Bool, true, false, not, ◌&&◌, ◌||◌, List, ◌≢◌, ℕ, ◌<◌, T, ltb}
use Rattle.std.proofs.Common.{◌∙◌, arith}
use Rattle.std.proofs.Math.Bool.{or-true, and-false}
use Rattle.std.proofs.lemmas.Bool.{false≢true}
use borrow.Author.Tests.{eq-eqb, ne_eqb, lt-ltb, ltb-true}
use Rattle.bits.specs.Choose.{choice}
use Rattle.image.specs.Answers.{alarmed, checked, may_read, may_control, may_copy}
use Rattle.image.specs.Keeps.{Run, Keeps, free, free_part, word_kept, flag_kept}
use Rattle.image.specs.Registers.{mip, read_password, full_password, password_control}

-- ---- no, with checking on

module _ (image : List ℕ) (field : ℕ) (on : checked image ≡ true) where
  -- only the full password may control or copy
  pub control_refused : field ≢ full_password image → may_control image field ≡ false
  unfolding may_control
  control_refused ne = rw (on, ne_eqb field (full_password image) ne)

  pub copy_refused : (address : ℕ) → field ≢ full_password image → may_copy image field address ≡ false
  unfolding may_copy
  copy_refused address ne = rw (control_refused ne, and-false)

  -- only the two passwords may read
  pub read_refused : field ≢ read_password image → field ≢ full_password image → may_read image field ≡ false
  unfolding may_read
  read_refused nr nf = rw (control_refused nf, ne_eqb field (read_password image) nr)

-- ---- yes

-- with checking off any eight bytes pass
pub control_open : (image : List ℕ) (field : ℕ) → checked image ≡ false → may_control image field ≡ true
unfolding may_control
control_open image field off = rw off

-- and the right ones pass in any case
pub control_right : (image : List ℕ) → may_control image (full_password image) ≡ true
unfolding may_control
control_right image = choice (λ (b : Bool). b ≡ true) (checked image) (eq-eqb (full_password image) (full_password image) refl) refl

-- what may control may read, and so may the read password
pub read_control : (image : List ℕ) (field : ℕ) → may_control image field ≡ true → may_read image field ≡ true
unfolding may_read
read_control image field e = rw e

pub read_right : (image : List ℕ) → may_read image (read_password image) ≡ true
unfolding may_read
read_right image = rw (eq-eqb (read_password image) (read_password image) refl, or-true)

-- below 0200h what may control may copy; below 0280h if there is no mission
pub copy_user : (image : List ℕ) (field address : ℕ) → address < 0x0200 → may_copy image field address ≡ may_control image field
unfolding may_copy
copy_user image field address h = rw (lt-ltb address 0x0200 h)

pub copy_idle : (image : List ℕ) (field address : ℕ) → address < 0x0280 → mip image ≡ false
    → may_copy image field address ≡ may_control image field
unfolding may_copy
copy_idle image field address h e = rw (lt-ltb address 0x0280 h, e, or-true)

-- and nothing is copied elsewhere
pub copy_below : (image : List ℕ) (field address : ℕ) → may_copy image field address ≡ true → address < 0x0280
unfolding may_copy
copy_below image field address e =
    by_tests (ltb address 0x0200) (ltb address 0x0280) (not (mip image)) (may_control image field) refl refl e
  where
    by_tests : (t u m c : Bool) → ltb address 0x0200 ≡ t → ltb address 0x0280 ≡ u → (t || (u && m)) && c ≡ true → address < 0x0280
    by_tests true u m c p q e = omega (arith, ltb-true address 0x0200 p)
    by_tests false true m c p q e = ltb-true address 0x0280 q
    by_tests false false m c p q e = absurd (false≢true e)

pub copy_mission : (image : List ℕ) (field address : ℕ) → mip image ≡ true → may_copy image field address ≡ true → address < 0x0200
unfolding may_copy
copy_mission image field address m e =
    by_tests (ltb address 0x0200) (ltb address 0x0280) (may_control image field) refl (rw m at e)
  where
    by_tests : (t u c : Bool) → ltb address 0x0200 ≡ t → (t || (u && false)) && c ≡ true → address < 0x0200
    by_tests true u c p e = ltb-true address 0x0200 p
    by_tests false true c p e = absurd (false≢true e)
    by_tests false false c p e = absurd (false≢true e)

-- ---- what they depend on: 0214h, 0215h and 0227h-0237h

pub alarmed_kept : {runs : List Run} {before after : List ℕ} → Keeps runs before after → T (free runs 0x0214 1) → alarmed after ≡ alarmed before
unfolding alarmed
alarmed_kept kept t = rw (flag_kept 0x0214 7 kept t, flag_kept 0x0214 1 kept t, flag_kept 0x0214 0 kept t)

pub checked_kept : {runs : List Run} {before after : List ℕ} → Keeps runs before after → T (free runs 0x0227 1) → checked after ≡ checked before
unfolding checked
checked_kept kept t = rw (kept.bytes 0x0227 t)

-- 0227h-0237h: whether passwords are checked, and which they are
pub record SameKeys (before after : List ℕ) : Type 0 where
  pub control : password_control after ≡ password_control before
  pub read : read_password after ≡ read_password before
  pub full : full_password after ≡ full_password before

pub keys_same : {image : List ℕ} → SameKeys image image
keys_same = record { control = refl; read = refl; full = refl }

pub keys_then : {a b c : List ℕ} → SameKeys a b → SameKeys b c → SameKeys a c
keys_then p q = record { control = q.control ∙ p.control; read = q.read ∙ p.read; full = q.full ∙ p.full }

pub keys_kept : {runs : List Run} {before after : List ℕ} → Keeps runs before after → T (free runs 0x0227 17) → SameKeys before after
keys_kept {runs} kept t =
    record {
      control = kept.bytes 0x0227 (free_part runs 0x0227 17 0x0227 1 (omega arith) (omega arith) t);
      read = word_kept 0x0228 8 kept (free_part runs 0x0227 17 0x0228 8 (omega arith) (omega arith) t);
      full = word_kept 0x0230 8 kept (free_part runs 0x0227 17 0x0230 8 (omega arith) (omega arith) t);
    }

-- on these the two that ask for a password depend; on Copy's address besides, and MIP
module _ {before after : List ℕ} (same : SameKeys before after) (field : ℕ) where
  pub may_control_same : may_control after field ≡ may_control before field
  unfolding may_control checked
  may_control_same = rw (same.control, same.full)

  pub may_read_same : may_read after field ≡ may_read before field
  unfolding may_read
  may_read_same = rw (may_control_same, same.read)

  pub may_copy_same : (address : ℕ) → mip after ≡ mip before → may_copy after field address ≡ may_copy before field address
  unfolding may_copy
  may_copy_same address e = rw (may_control_same, e)

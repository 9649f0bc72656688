-- What the map says of an address, region by region. Assumes nothing.
use Rattle.std.specs.Prelude.{◌≡◌, refl, ℕ, ◌-◌, ◌≤◌, ◌<◌, ltb}
use Rattle.std.proofs.Common.{arith, ltb-true, ltb-false, lt-ltb, le-ltb}
use Rattle.bits.specs.Choose.{either}
use Rattle.image.specs.Map.{region_at, index_of}
use Rattle.image.specs.declared.Region.{Region}
use Rattle.image.specs.declared.Region.TheVariants.{User, Registers, Calibration, Reserved, Log}

-- ---- by the document's bounds

pub region_user : (a : ℕ) → a < 0x0200 → region_at a ≡ User a
unfolding region_at
region_user a h = rw (lt-ltb a 0x0200 h)

pub region_registers : (a : ℕ) → 0x0200 ≤ a → a < 0x0240 → region_at a ≡ Registers (a - 0x0200)
unfolding region_at
region_registers a h k = simp (le-ltb a 0x0200 h, lt-ltb a 0x0240 k)

pub region_calibration : (a : ℕ) → 0x0240 ≤ a → a < 0x0280 → region_at a ≡ Calibration (a - 0x0240)
unfolding region_at
region_calibration a h k = simp (le-ltb a 0x0200 (omega arith), le-ltb a 0x0240 h, lt-ltb a 0x0280 k)

pub region_reserved : (a : ℕ) → 0x0280 ≤ a → a < 0x1000 → region_at a ≡ Reserved
unfolding region_at
region_reserved a h k =
    simp (le-ltb a 0x0200 (omega arith), le-ltb a 0x0240 (omega arith), le-ltb a 0x0280 h, lt-ltb a 0x1000 k)

pub region_log : (a : ℕ) → 0x1000 ≤ a → a < 0x3000 → region_at a ≡ Log (a - 0x1000)
unfolding region_at
region_log a h k =
    simp
    (le-ltb a 0x0200 (omega arith), le-ltb a 0x0240 (omega arith), le-ltb a 0x0280 (omega arith), le-ltb a 0x1000 h, lt-ltb a 0x3000 k)

pub region_past : (a : ℕ) → 0x3000 ≤ a → region_at a ≡ Reserved
unfolding region_at
region_past a h =
    simp (
      le-ltb a 0x0200 (omega arith),
      le-ltb a 0x0240 (omega arith),
      le-ltb a 0x0280 (omega arith),
      le-ltb a 0x1000 (omega arith),
      le-ltb a 0x3000 h,
    )

-- ---- by cases

-- an address lies in a region by these bounds
pub data Lies (a : ℕ) : Region → Type 0 where
  in_user : a < 0x0200 → Lies a (User a)
  in_registers : 0x0200 ≤ a → a < 0x0240 → Lies a (Registers (a - 0x0200))
  in_calibration : 0x0240 ≤ a → a < 0x0280 → Lies a (Calibration (a - 0x0240))
  in_reserved : 0x0280 ≤ a → a < 0x1000 → Lies a Reserved
  in_log : 0x1000 ≤ a → a < 0x3000 → Lies a (Log (a - 0x1000))
  past_log : 0x3000 ≤ a → Lies a Reserved

-- every address lies where the map has it
pub region_lies : (a : ℕ) → Lies a (region_at a)
unfolding region_at
region_lies a =
    either (Lies a) (ltb a 0x0200) (λ e₁. in_user (ltb-true _ _ e₁))
    (λ e₁. either (Lies a) (ltb a 0x0240) (λ e₂. in_registers (ltb-false _ _ e₁) (ltb-true _ _ e₂))
    (λ e₂. either (Lies a) (ltb a 0x0280) (λ e₃. in_calibration (ltb-false _ _ e₂) (ltb-true _ _ e₃))
    (λ e₃. either (Lies a) (ltb a 0x1000) (λ e₄. in_reserved (ltb-false _ _ e₃) (ltb-true _ _ e₄))
    (λ e₄. either (Lies a) (ltb a 0x3000) (λ e₅. in_log (ltb-false _ _ e₄) (ltb-true _ _ e₅)) (λ e₅. past_log (ltb-false _ _ e₅))))))

-- there are 64 registers
pub register_offset_lt : (a : ℕ) {o : ℕ} → region_at a ≡ Registers o → o < 64
register_offset_lt a e = below (region_lies a) e
  where
    below : {r : Region} {o : ℕ} → Lies a r → r ≡ Registers o → o < 64
    below (in_user h) e = let z : ◌≡◌ {A = ℕ} 0 1 = cc in omega arith
    below {o = o} (in_registers h k) e = let z : a - 0x0200 ≡ o = cc in omega arith
    below (in_calibration h k) e = let z : ◌≡◌ {A = ℕ} 0 1 = cc in omega arith
    below (in_reserved h k) e = let z : ◌≡◌ {A = ℕ} 0 1 = cc in omega arith
    below (in_log h k) e = let z : ◌≡◌ {A = ℕ} 0 1 = cc in omega arith
    below (past_log h) e = let z : ◌≡◌ {A = ℕ} 0 1 = cc in omega arith

-- below 0280h an address is its byte's place in the image
pub index_low : (a : ℕ) → a < 0x0280 → index_of (region_at a) ≡ a
index_low a low = at (region_lies a)
  where
    at : {r : Region} → Lies a r → index_of r ≡ a
    at (in_user h) = refl
    at (in_registers h k) = omega arith
    at (in_calibration h k) = omega arith
    at (in_reserved h k) = omega arith
    at (in_log h k) = omega arith
    at (past_log h) = omega arith

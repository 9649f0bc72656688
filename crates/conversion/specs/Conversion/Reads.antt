-- What each part of a conversion puts is read back, in an image of 8,832 bytes. Assumes nothing.
use Rattle.std.specs.Prelude.{◌≡◌, Bool, ◌||◌, ltb, T, length, if◌then◌else◌}
use Rattle.std.proofs.Math.Path.{refl, ap}
use Rattle.std.proofs.Common.{◌∙◌, arith, length-set, get_or-set_same, get_or-set_other}
use Rattle.std.proofs.Math.Bool.{true, false}
use mathlib.Core.List.{List}
use Rattle.std.proofs.Math.Logic.{dite}
use Prim.Native.Nat.{ℕ, ◌+◌, ◌*◌, ◌/◌, ◌%◌, ◌^◌, ◌<◌, min}
use Rattle.std.proofs.Math.Decide.{ℕ_discrete}
use borrow.Author.Tests.{eq-eqb, ne_eqb, ltb-true, ltb-false}
use Rattle.std.proofs.Math.Dec.{eqb}
use Rattle.std.proofs.Math.ListN.{get_or, set}
use Rattle.bits.specs.Choose.{choices, either}
use Rattle.calendar.specs.declared.Clock.{Clock}
use Rattle.image.specs.Fields.{word_at, put_flag, flag_at}
use Rattle.image.specs.Fields.Laws.{word_put_word, word_lt, flag_put_flag}
use Rattle.image.specs.Keeps.{keeps_put_word, flag_kept}
use Rattle.image.specs.Registers.{tlfs, thf, tlf, mission_samples, device_samples}
use Rattle.conversion.specs.Clock.{clock_of, stamp_of}
use Rattle.conversion.specs.Clock.Laws.{stamp_kept, stamp_put_clock}
use Rattle.conversion.specs.Conversion.{device_counted, resolved, latest_stored, alarms_high, alarms_low, thf_set, tlf_set, places, logged, entry_at, stamped, counted}
use Rattle.conversion.specs.Conversion.Frames.{leaves_logged, leaves_stamped}
use Rattle.conversion.specs.Conversion.Whole.{Whole}

-- one byte of the log, from byte 640 of the image on
byte_set : (image : List ℕ) (i j v : ℕ) → 640 + i < length image
    → get_or (set image (640 + i) v) (640 + j) 0 ≡ if eqb j i then v else get_or image (640 + j) 0
byte_set image i j v fits =
    dite (ℕ_discrete j i) (λ e. rw (e, eq-eqb i i refl, get_or-set_same image (640 + i) v 0 fits))
    (λ ne. rw (ne_eqb j i ne, get_or-set_other image (640 + i) (640 + j) v 0 (omega arith)))

-- of two numbers that differ either may be asked for first
either_way : (j a b u v n : ℕ) → (a ≡ b → ⊥)
    → (if eqb j b then u else if eqb j a then v else n) ≡ if eqb j a then v else if eqb j b then u else n
either_way j a b u v n ne =
    dite (ℕ_discrete j a) (λ e. rw (e, eq-eqb a a refl, ne_eqb a b ne)) (λ other. rw (ne_eqb j a other))

-- byte j of the log when `reading` is logged as entry k, where it was `old`
unfoldable pub byte_logged : Bool → ℕ → ℕ → ℕ → ℕ → ℕ
byte_logged wide k reading j old =
    if wide then
    (if eqb j (2 * (k % 4096)) then reading / 8 % 256
    else if eqb j (2 * (k % 4096) + 1) then reading % 8 * 32
    else old)
    else if eqb j (k % 8192) then reading / 8 % 256
    else old

-- an entry of one byte, and one of two, at place q
one_byte : (image : List ℕ) (q place v : ℕ) → 640 + q < length image
    → get_or (set image (640 + q) v) (640 + place) 0 * 8 ≡ if eqb place q then v * 8 else get_or image (640 + place) 0 * 8
one_byte image q place v fits =
    dite (ℕ_discrete place q) (λ e. rw (e, eq-eqb q q refl, get_or-set_same image (640 + q) v 0 fits))
    (λ ne. rw (ne_eqb place q ne, get_or-set_other image (640 + q) (640 + place) v 0 (omega arith)))

two_bytes : (image : List ℕ) (q place u v : ℕ) → 641 + 2 * q < length image
    → get_or (set (set image (640 + 2 * q) u) (641 + 2 * q) v) (640 + 2 * place) 0 * 8
    + get_or (set (set image (640 + 2 * q) u) (641 + 2 * q) v) (641 + 2 * place) 0 / 32
    ≡ if eqb place q then u * 8 + v / 32 else get_or image (640 + 2 * place) 0 * 8 + get_or image (641 + 2 * place) 0 / 32
two_bytes image q place u v fits =
    let one = set image (640 + 2 * q) u in
    dite (ℕ_discrete place q)
    (λ e.
    rw (
      e,
      eq-eqb q q refl,
      get_or-set_other one (641 + 2 * q) (640 + 2 * q) v 0 (omega arith),
      get_or-set_same image (640 + 2 * q) u 0 (omega arith),
      get_or-set_same one (641 + 2 * q) v 0 (rw (length-set image (640 + 2 * q) u) fits),
    ))
    (λ ne.
    rw (
      ne_eqb place q ne,
      get_or-set_other one (641 + 2 * q) (640 + 2 * place) v 0 (omega arith),
      get_or-set_other image (640 + 2 * q) (640 + 2 * place) u 0 (omega arith),
      get_or-set_other one (641 + 2 * q) (641 + 2 * place) v 0 (omega arith),
      get_or-set_other image (640 + 2 * q) (641 + 2 * place) u 0 (omega arith),
    ))

module _ {image : List ℕ} (w : Whole image) where
  -- ---- counts

  pub device_counted_lem : device_samples (device_counted image) ≡ min (device_samples image + 1) 0xFFFFFF
  unfolding device_counted
  device_counted_lem =
      either (λ (i : List ℕ). device_samples i ≡ min (device_samples image + 1) 0xFFFFFF) (ltb (device_samples image) 0xFFFFFF)
      (λ e.
      let lt = ltb-true (device_samples image) 0xFFFFFF e in
      rw (word_put_word image 0x0223 3 (device_samples image + 1) (omega (arith, w.size))) (omega arith))
      (λ e. omega (arith, ltb-false (device_samples image) 0xFFFFFF e, word_lt image 0x0223 3 w.bytes))

  pub mission_counted : mission_samples image < 0xFFFFFF → mission_samples (counted image) ≡ mission_samples image + 1
  unfolding counted
  mission_counted lt =
      rw (word_put_word (stamped image) 0x0220 3 (mission_samples image + 1) (omega (arith, w.size, (leaves_stamped image).keeps.lengths)))
      (omega arith)

  -- ---- the latest reading and the flags

  pub latest_stored_lem : (reading : ℕ) → word_at (latest_stored image reading) 0x020C 2 ≡ 32 * resolved image (reading % 2048)
  unfolding latest_stored resolved
  latest_stored_lem reading =
      rw (word_put_word image 0x020C 2 ((if tlfs image then reading else reading / 8 * 8) * 32) (omega (arith, w.size)))
      (choices (λ (n m : ℕ). n * 32 % 256 ^ 2 ≡ 32 * m) (tlfs image) (omega arith) (omega arith))

  -- a flag of 0214h that is put where a test passes
  raised : (i : ℕ) (t : Bool) → T (ltb i 8) → flag_at (if t then put_flag image 0x0214 i true else image) 0x0214 i ≡ t || flag_at image 0x0214 i
  raised i true small = flag_put_flag image 0x0214 i true (omega (arith, w.size)) small
  raised i false small = refl

  pub thf_set_lem : (reading : ℕ) → thf (thf_set image reading) ≡ alarms_high image reading || thf image
  unfolding thf_set
  thf_set_lem reading = raised 1 (alarms_high image reading) tt

  pub tlf_set_lem : (reading : ℕ) → tlf (tlf_set image reading) ≡ alarms_low image reading || tlf image
  unfolding tlf_set
  tlf_set_lem reading = raised 0 (alarms_low image reading) tt

  -- ---- the stamp

  pub stamp_stamped : stamp_of (stamped image) ≡ if eqb (mission_samples image) 0 then clock_of image else stamp_of image
  unfolding stamped
  stamp_stamped =
      choices (λ (i : List ℕ) (c : Clock). stamp_of i ≡ c) (eqb (mission_samples image) 0) (stamp_put_clock image (clock_of image) (omega (arith, w.size))) refl

  pub stamp_counted : stamp_of (counted image) ≡ if eqb (mission_samples image) 0 then clock_of image else stamp_of image
  unfolding counted
  stamp_counted = stamp_kept (keeps_put_word (stamped image) 0x0220 3 _) tt ∙ stamp_stamped

  -- ---- the log

  -- each byte of the log: an entry's own, one or two, and every other as it was
  pub byte_logged_lem : (k reading j : ℕ) → get_or (logged image k reading) (640 + j) 0 ≡ byte_logged (tlfs image) k reading j (get_or image (640 + j) 0)
  unfolding logged byte_logged places
  byte_logged_lem k reading j = by_format (tlfs image)
    where
      high : ℕ
      high = reading / 8 % 256

      low : ℕ
      low = reading % 8 * 32

      by_format : (t : Bool)
          → (let q = k % (if t then 4096 else 8192) in
          get_or (if t then set (set image (640 + 2 * q) high) (641 + 2 * q) low else set image (640 + q) high) (640 + j) 0)
          ≡ (let old = get_or image (640 + j) 0 in
          if t then (if eqb j (2 * (k % 4096)) then high else if eqb j (2 * (k % 4096) + 1) then low else old)
          else if eqb j (k % 8192) then high
          else old)
      by_format true =
          let q = k % 4096 in
          let one = set image (640 + 2 * q) high in
          let next : 641 + 2 * q ≡ 640 + (2 * q + 1) = omega arith in
          let inside : 640 + (2 * q + 1) < length one = rw (length-set image (640 + 2 * q) high) (omega (arith, w.size)) in
          rw next
          (byte_set one (2 * q + 1) j low inside
          ∙ ap (λ (n : ℕ). if eqb j (2 * q + 1) then low else n) (byte_set image (2 * q) j high (omega (arith, w.size)))
          ∙ either_way j (2 * q) (2 * q + 1) low high (get_or image (640 + j) 0) (omega arith))
      by_format false = byte_set image (k % 8192) j high (omega (arith, w.size))

  -- entry k is read back at its place, and every other place holds what it held
  pub entry_logged : (k reading place : ℕ) → place < places image
      → entry_at (logged image k reading) place
      ≡ if eqb place (k % places image) then resolved image (reading % 2048) else entry_at image place
  unfolding logged entry_at places resolved
  entry_logged k reading place h =
      rw (flag_kept 0x0213 2 (leaves_logged image k reading).keeps tt) (by_format (tlfs image) h)
    where
      by_format : (t : Bool) → place < (if t then 4096 else 8192)
          → let q = k % (if t then 4096 else 8192) in
          let after =
          if t then set (set image (640 + 2 * q) (reading / 8 % 256)) (641 + 2 * q) (reading % 8 * 32)
          else set image (640 + q) (reading / 8 % 256) in
          (if t then get_or after (640 + 2 * place) 0 * 8 + get_or after (641 + 2 * place) 0 / 32 else get_or after (640 + place) 0 * 8)
          ≡ if eqb place q then (if t then reading % 2048 else reading % 2048 / 8 * 8)
          else (if t then get_or image (640 + 2 * place) 0 * 8 + get_or image (641 + 2 * place) 0 / 32 else get_or image (640 + place) 0 * 8)
      by_format true h =
          two_bytes image (k % 4096) place (reading / 8 % 256) (reading % 8 * 32) (omega (arith, w.size))
          ∙ ap (λ (n : ℕ). if eqb place (k % 4096) then n else get_or image (640 + 2 * place) 0 * 8 + get_or image (641 + 2 * place) 0 / 32) (omega arith)
      by_format false h =
          one_byte image (k % 8192) place (reading / 8 % 256) (omega (arith, w.size))
          ∙ ap (λ (n : ℕ). if eqb place (k % 8192) then n else get_or image (640 + place) 0 * 8) (omega arith)

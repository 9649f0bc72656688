-- Which eight bytes pass, and where a Copy may store, as the image answers it. Assumes nothing.
use Rattle.std.specs.Prelude.{◌≡◌, Bool, ◌&&◌, ◌||◌, ◌⊎◌, ℕ, ◌<◌, get_or}
use Rattle.std.proofs.Math.Path.{refl, sym}
use Rattle.std.proofs.Common.{◌∙◌, arith}
use Rattle.std.proofs.Math.Bool.{true, false, not, or-true, and-eq-true_iff}
use Rattle.std.proofs.Math.Logic.{inl, inr, ⊎_elim}
use borrow.Author.Tests.{eq-eqb, eqb-true}
use Rattle.std.proofs.Math.Dec.{eqb, ltb}
use Rattle.bits.specs.Bits.Laws.{digit_one}
use Rattle.bits.specs.Choose.{either}
use Rattle.image.specs.Answers.{checked, may_control, may_read, may_copy}
use Rattle.image.specs.Answers.Laws.{copy_user, copy_idle, copy_below, copy_mission}
use Rattle.image.specs.Fields as fields
use Rattle.image.specs.Fields.{flag_at}
use Rattle.bus.specs.declared.Question.{Question}
use Rattle.event.specs.Event.{answer_to}
use Rattle.promises.specs.Line.Slots.{answers_of}
use Rattle.promises.specs.Runs.{State}
use Rattle.promises.specs.Sentences.Commands.{PassesFull, PassesRead}
use Rattle.promises.specs.Words.{bit_at, word_at}
use Rattle.promises.specs.Words.Laws.{bit_low, word_is}

-- a test that does not pass
pub unless : (test : Bool) → (test ≡ true → ⊥) → test ≡ false
unless true never = absurd (never refl)
unless false never = refl

module _ (s : State) (field : ℕ) where
  -- the full password is the image's field
  full_is : word_at s.image 0x0230 8 ≡ fields.word_at s.image 0x0230 8
  full_is = word_is s.image 0x0230 8 (omega arith)

  -- so is the read password
  read_is : word_at s.image 0x0228 8 ≡ fields.word_at s.image 0x0228 8
  read_is = word_is s.image 0x0228 8 (omega arith)

  -- the full password, or any eight bytes
  pub full_may : PassesFull s field → may_control s.image field ≡ true
  unfolding may_control checked
  full_may passes =
      either (λ (b : Bool). b ≡ true) (eqb (get_or s.image 0x0227 0) 0xAA) (λ on. eq-eqb _ _ (passes (eqb-true _ _ on) ∙ full_is)) (λ off. refl)

  -- and conversely
  pub full_passes : may_control s.image field ≡ true → PassesFull s field
  unfolding may_control checked
  full_passes may on = eqb-true field _ (rw (eq-eqb (get_or s.image 0x0227 0) 0xAA on) at may) ∙ sym full_is

  -- either of the two
  pub read_may : PassesRead s field → may_read s.image field ≡ true
  unfolding may_read may_control checked
  read_may passes =
      either (λ (b : Bool). (b || eqb field (fields.word_at s.image 0x0228 8)) ≡ true) (eqb (get_or s.image 0x0227 0) 0xAA)
      (λ on.
      ⊎_elim (λ (read : field ≡ word_at s.image 0x0228 8). rw (eq-eqb _ _ (read ∙ read_is)) (simp or-true))
      (λ (full : field ≡ word_at s.image 0x0230 8). rw (eq-eqb _ _ (full ∙ full_is))) (passes (eqb-true _ _ on)))
      (λ off. refl)

  -- and conversely
  pub read_passes : may_read s.image field ≡ true → PassesRead s field
  unfolding may_read
  read_passes may on = by (may_control s.image field) refl may
    where
      by : (full : Bool) → may_control s.image field ≡ full → (full || eqb field (fields.word_at s.image 0x0228 8)) ≡ true →
          (field ≡ word_at s.image 0x0228 8) ⊎ (field ≡ word_at s.image 0x0230 8)
      by true e m = inr (full_passes e on)
      by false e m = inl (eqb-true field _ m ∙ sym read_is)

  -- an address that may be written now
  abbrev Copyable : ℕ → Type 0
  Copyable address = (address < 0x0200) ⊎ ((address < 0x0280) × (bit_at s.image 0x0215 1 ≡ false))

  -- with it the full password
  pub copy_may : (address : ℕ) → Copyable address → PassesFull s field → may_copy s.image field address ≡ true
  copy_may address place passes =
      ⊎_elim (λ user. copy_user s.image field address user ∙ full_may passes)
      (λ idle. copy_idle s.image field address idle.0 (sym (bit_low s.image 0x0215 1 (omega arith)) ∙ idle.1) ∙ full_may passes) place

  -- and conversely
  pub copy_passes : (address : ℕ) → may_copy s.image field address ≡ true → Copyable address × PassesFull s field
  unfolding may_copy
  copy_passes address may =
      let there = ltb address 0x0200 || (ltb address 0x0280 && not (flag_at s.image 0x0215 1)) in
      (by (flag_at s.image 0x0215 1) refl, full_passes ((and-eq-true_iff there (may_control s.image field)).0 may).1)
    where
      by : (mip : Bool) → flag_at s.image 0x0215 1 ≡ mip → Copyable address
      by true e = inl (copy_mission s.image field address e may)
      by false e = inr (copy_below s.image field address may, bit_low s.image 0x0215 1 (omega arith) ∙ e)

  -- the image's answer to whether a field may read
  pub answers_read : eqb (answers_of s (Question.MayRead field)) 1 ≡ may_read s.image field
  unfolding answer_to
  answers_read = digit_one (may_read s.image field)

  -- to whether it may clear, start or stop
  pub answers_control : eqb (answers_of s (Question.MayControl field)) 1 ≡ may_control s.image field
  unfolding answer_to
  answers_control = digit_one (may_control s.image field)

  -- and to whether it may copy
  pub answers_copy : (address : ℕ) → eqb (answers_of s (Question.MayCopy field address)) 1 ≡ may_copy s.image field address
  unfolding answer_to
  answers_copy address = digit_one (may_copy s.image field address)

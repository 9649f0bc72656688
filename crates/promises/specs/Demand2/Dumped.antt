-- What the dock reads in the dump of an image: the image's own registers and log. Assumes nothing.
use Rattle.std.specs.Prelude.{◌≡◌, Bool, List, [], ◌∷◌, ℕ, ◌+◌, ◌-◌, ◌*◌, ◌/◌, ◌%◌, ◌≤◌, ◌<◌, if◌then◌else◌}
use Rattle.std.proofs.Math.Path.{refl}
use Rattle.std.proofs.Common.{◌∙◌}
use Rattle.std.proofs.Math.Bool.{true, false}
use native.Mathlib.Omega.{arith}
use Rattle.std.specs.Int.Bits.{bit_and, and_mask, or_zero_r}
use Rattle.std.proofs.Math.ListN.{get_or}
use Rattle.bits.specs.Bits.{bit_of}
use Rattle.calendar.specs.declared.Clock.{Clock}
use Rattle.dock.specs.Dumped.{Agree}
use Rattle.dock.specs.Entries
use Rattle.dock.specs.Registers as Dock
use Rattle.dump.specs.Dump.{dump_of, dump_register, dump_log}
use Rattle.dump.specs.Lines.{bytes_from, dumped_at}
use Rattle.image.specs.Fields.{word_at}
use Rattle.image.specs.Registers
use Rattle.image.specs.Sent.{sent_at}
use Rattle.image.specs.Sent.Laws.{sent_flag, sent_whole_lem, sent_register, sent_log}
use Rattle.image.specs.Tables.{named, always_one}
use Rattle.conversion.specs.Clock.{stamp_of}
use Rattle.conversion.specs.Conversion as conversion
use Rattle.conversion.specs.Conversion.Whole.{Whole}

-- a stamp "in address order"
abbrev pub six_bytes : Clock → List ℕ
six_bytes c = c.seconds ∷ c.minutes ∷ c.hours ∷ c.date ∷ c.month ∷ c.year ∷ []

module _ (image : List ℕ) (code : ℕ) where
  -- ---- flags

  pub ehss_sent : Dock.ehss (sent_at image code) ≡ Registers.ehss image
  unfolding named bit_of
  ehss_sent = sent_flag image code 0x0212 1 (omega arith) (omega arith) (λ e. omega arith) refl

  pub etl_sent : Dock.etl (sent_at image code) ≡ Registers.etl image
  unfolding named bit_of
  etl_sent = sent_flag image code 0x0213 0 (omega arith) (omega arith) (λ e. omega arith) refl

  pub tlfs_sent : Dock.tlfs (sent_at image code) ≡ Registers.tlfs image
  unfolding named bit_of
  tlfs_sent = sent_flag image code 0x0213 2 (omega arith) (omega arith) (λ e. omega arith) refl

  pub ro_sent : Dock.ro (sent_at image code) ≡ Registers.ro image
  unfolding named bit_of
  ro_sent = sent_flag image code 0x0213 4 (omega arith) (omega arith) (λ e. omega arith) refl

  pub suta_sent : Dock.suta (sent_at image code) ≡ Registers.suta image
  unfolding named bit_of
  suta_sent = sent_flag image code 0x0213 5 (omega arith) (omega arith) (λ e. omega arith) refl

  pub tlf_sent : Dock.tlf (sent_at image code) ≡ Registers.tlf image
  unfolding named bit_of
  tlf_sent = sent_flag image code 0x0214 0 (omega arith) (omega arith) (λ e. omega arith) refl

  pub thf_sent : Dock.thf (sent_at image code) ≡ Registers.thf image
  unfolding named bit_of
  thf_sent = sent_flag image code 0x0214 1 (omega arith) (omega arith) (λ e. omega arith) refl

  pub memclr_sent : Dock.memclr (sent_at image code) ≡ Registers.memclr image
  unfolding named bit_of
  memclr_sent = sent_flag image code 0x0215 3 (omega arith) (omega arith) (λ e. omega arith) refl

  -- ---- the log

  log_sent : (j : ℕ) → j < 8192 → sent_at image code (0x1000 + j) ≡ get_or image (640 + j) 0
  log_sent j h =
      let back : 640 + (0x1000 + j - 0x1000) ≡ 640 + j = omega arith in
      rw back at (sent_log image code (0x1000 + j) (omega arith) (omega arith))

  pub places_sent : Entries.places (sent_at image code) ≡ conversion.places image
  unfolding Entries.places conversion.places
  places_sent = rw tlfs_sent

  -- the dock reads the entry that lies at a place
  pub reading_sent : (k : ℕ) → Entries.reading_at (sent_at image code) k ≡ conversion.entry_at image (k % conversion.places image)
  unfolding Entries.reading_at Entries.places conversion.entry_at conversion.places
  reading_sent k = rw tlfs_sent (by_format (Registers.tlfs image))
    where
      by_format : (t : Bool)
          → (let place = k % (if t then 4096 else 8192) in
          let at = 0x1000 + 2 * place in
          if t then 8 * sent_at image code at + sent_at image code (at + 1) / 32 else 8 * sent_at image code (0x1000 + place))
          ≡ (let place = k % (if t then 4096 else 8192) in
          if t then get_or image (640 + 2 * place) 0 * 8 + get_or image (641 + 2 * place) 0 / 32 else get_or image (640 + place) 0 * 8)
      by_format true =
          let next : 0x1000 + 2 * (k % 4096) + 1 ≡ 0x1000 + (2 * (k % 4096) + 1) = omega arith in
          let there : 640 + (2 * (k % 4096) + 1) ≡ 641 + 2 * (k % 4096) = omega arith in
          rw (next, log_sent (2 * (k % 4096)) (omega arith), log_sent (2 * (k % 4096) + 1) (omega arith), there) (omega arith)
      by_format false = rw (log_sent (k % 8192) (omega arith)) (omega arith)

  module _ (w : Whole image) where
    -- ---- words

    whole_at : (a : ℕ) → 0x0200 ≤ a → a < 0x0240 → (a ≡ 0x0226 → ⊥) → get_or named (a - 0x0200) 0 ≡ 255 → sent_at image code a ≡ get_or image a 0
    whole_at a lo hi ne e = sent_whole_lem image code a lo hi ne e w.bytes

    pub samples_sent : Dock.mission_samples (sent_at image code) ≡ Registers.mission_samples image
    unfolding Dock.word_at word_at named
    samples_sent =
        rw (
          whole_at 0x0220 (omega arith) (omega arith) (λ e. omega arith) refl,
          whole_at 0x0221 (omega arith) (omega arith) (λ e. omega arith) refl,
          whole_at 0x0222 (omega arith) (omega arith) (λ e. omega arith) refl,
        )

    pub stamp_sent : Dock.stamp (sent_at image code) ≡ six_bytes (stamp_of image)
    unfolding bytes_from stamp_of named
    stamp_sent =
        rw (
          whole_at 0x0219 (omega arith) (omega arith) (λ e. omega arith) refl,
          whole_at 0x021A (omega arith) (omega arith) (λ e. omega arith) refl,
          whole_at 0x021B (omega arith) (omega arith) (λ e. omega arith) refl,
          whole_at 0x021C (omega arith) (omega arith) (λ e. omega arith) refl,
          whole_at 0x021D (omega arith) (omega arith) (λ e. omega arith) refl,
          whole_at 0x021E (omega arith) (omega arith) (λ e. omega arith) refl,
        )

    -- of the high byte six bits are named
    high_sent : sent_at image code 0x0207 ≡ get_or image 0x0207 0 % 64
    unfolding named always_one
    high_sent =
        sent_register image code 0x0207 (omega arith) (omega arith) (λ e. omega arith)
        ∙ or_zero_r (bit_and (get_or image 0x0207 0) 0x3F)
        ∙ and_mask (get_or image 0x0207 0) 6

    pub rate_sent : Dock.rate (sent_at image code) ≡ Registers.rate image
    unfolding Dock.word_at word_at named
    rate_sent =
        rw (whole_at 0x0206 (omega arith) (omega arith) (λ e. omega arith) refl, high_sent)
        (omega (arith, w.bytes 0x0206, w.bytes 0x0207))

    pub dump_agrees : code < 256 → Agree (dumped_at (dump_of image code)) (sent_at image code)
    dump_agrees small =
        record { registers = dump_register image code w.bytes small; log = dump_log image code w.bytes small }

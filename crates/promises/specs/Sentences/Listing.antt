-- Document 01, "The dump and its listing": what the bytes of a dump say, by their addresses, and the lines of its listing. `Sentences.Dump` says
-- that this is what the dock returns and prints. Assumes nothing.
use Rattle.std.specs.Prelude.{Bool, not, ◌&&◌, ◌||◌, List, [], ◌∷◌, ◌++◌, ℕ, zero, suc, ◌+◌, ◌-◌, ◌*◌, ◌/◌, ◌%◌, ◌^◌, min, eqb, ltb, ℤ, pos, negsuc, ◌-ℤ◌, ◌*ℤ◌, if◌then◌else◌}
use Rattle.promises.specs.Ranges.{is_configuration}
use Rattle.promises.specs.Words.{bit}

-- "high byte first, upper case": the last `count` digits of a number
unfoldable pub digits_of : ℕ → ℕ → List ℕ
digits_of zero n = []
digits_of (suc count) n = digits_of count (n / 16) ++ ((if ltb (n % 16) 10 then 0x30 + n % 16 else 0x37 + n % 16) ∷ [])

-- "signed": as so many digits write it
abbrev pub signed : ℕ → ℤ → ℕ
signed count (pos n) = n
signed count (negsuc n) = 16 ^ count - suc n

-- of dumped bytes: SUTA, TLFS, RO and ETL in 0213h, TLF and THF in 0214h, mission samples in 0220h to 0222h, "low first"
module _ (byte : ℕ → ℕ) where
  abbrev pub samples : ℕ
  samples = byte 0x0220 + 256 * (byte 0x0221 + 256 * byte 0x0222)

  abbrev pub is_flagged : Bool
  is_flagged = bit (byte 0x0214) 1 || bit (byte 0x0214) 0

  -- "Entries n: SUTA 0, mission samples; SUTA 1, that plus 1 if THF or TLF, else 0. WFTA isn't used"
  abbrev pub entries : ℕ
  entries = if bit (byte 0x0213) 5 then (if is_flagged then samples + 1 else 0) else samples

  -- "Held: the last min(n, places)"
  abbrev pub places : ℕ
  places = if bit (byte 0x0213) 2 then 4096 else 8192

  abbrev pub held : ℕ
  held = min entries places

  -- "The rate is all sixteen bits of the dump's two bytes"
  abbrev pub rate : ℕ
  rate = byte 0x0206 + 256 * byte 0x0207

  -- 11: "code not 40h/60h, rate 0, ETL 0, or counts that can't be": "RO 0 with n above the log's places, or SUTA 1, no flag and samples above 0"
  abbrev pub cannot_be : Bool
  cannot_be =
      not (is_configuration (byte 0x0226))
      || (eqb rate 0
      || (not (bit (byte 0x0213) 0)
      || ((not (bit (byte 0x0213) 4) && ltb places entries)
      || (bit (byte 0x0213) 5 && (not is_flagged && ltb 0 samples)))))

  -- "10, 11, 12": "MEMCLR is 1", bit 3 of 0215h; "fewer places lent for temperatures than entries held"
  unfoldable pub content_number : ℕ → ℕ
  content_number lent =
      if bit (byte 0x0215) 3 then 10
      else if cannot_be then 11
      else if ltb lent held then 12
      else 0

  -- "an 8-bit entry is a reading of 8 times the byte; the low five bits of a 16-bit entry are ignored": entry k, at its place from 1000h on
  unfoldable pub reading_at : ℕ → ℕ
  reading_at k =
      if bit (byte 0x0213) 2 then 8 * byte (0x1000 + 2 * (k % 4096)) + byte (0x1000 + (2 * (k % 4096) + 1)) / 32
      else 8 * byte (0x1000 + k % 8192)

  -- "Temperature in sixteenths of a degree, signed: reading − 656 (L), reading − 16 (T)"
  unfoldable pub temperature_at : ℕ → ℤ
  temperature_at k = if eqb (byte 0x0226) 0x40 then (pos (reading_at k) -ℤ pos 656) else (pos (reading_at k) -ℤ pos 16)

  -- "Seconds from the stamp: period × k, with SUTA period × (k − 1)"; "rate in seconds with EHSS 1, else minutes", bit 1 of 0212h
  unfoldable pub seconds_for : ℕ → ℤ
  seconds_for k =
      let period = if bit (byte 0x0212) 1 then rate else rate * 60 in
      if bit (byte 0x0213) 5 then (pos period *ℤ (pos k -ℤ pos 1)) else (pos period *ℤ pos k)

  -- "Listing: first line code, number held (4 bytes), stamp (6, in address order); ..
  unfoldable pub first_line : List ℕ
  first_line =
      digits_of 2 (byte 0x0226) ++ (digits_of 8 held
      ++ (digits_of 2 (byte 0x0219) ++ (digits_of 2 (byte 0x021A) ++ (digits_of 2 (byte 0x021B)
      ++ (digits_of 2 (byte 0x021C) ++ (digits_of 2 (byte 0x021D) ++ (digits_of 2 (byte 0x021E) ++ (0x0A ∷ []))))))))

  -- .. then per entry k (4), seconds (8, signed), temperature (2, signed), numbers high byte first, upper case"; oldest first: from entry k on
  unfoldable pub entry_lines : ℕ → ℕ → List ℕ
  entry_lines k zero = []
  entry_lines k (suc count) =
      digits_of 8 k ++ (digits_of 16 (signed 16 (seconds_for k)) ++ (digits_of 4 (signed 4 (temperature_at k)) ++ (0x0A ∷ entry_lines (suc k) count)))

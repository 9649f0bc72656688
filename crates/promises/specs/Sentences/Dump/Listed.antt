-- What the dock lists of a dump is what the dump's own characters say: number, counts, stamp, seconds and temperatures. Assumes nothing.
use Rattle.std.specs.Prelude.{Bool, not, List, ◌≢◌, ◌≡◌, ℕ, suc, ◌+◌, ◌-◌, ◌*◌, ◌/◌, ◌%◌, ◌≤◌, ◌<◌, eqb, ltb, ℤ, pos, length, get_or, if◌then◌else◌, Ok, Err}
use Rattle.std.proofs.Math.Bool.{true, false}
use Rattle.std.proofs.Math.Logic.{dite}
use Rattle.std.proofs.Math.Path.{refl}
use Rattle.std.proofs.Common.{sym, ap, ◌∙◌, eqb-true, ne_eqb, lt-ltb, le-ltb}
use Rattle.std.proofs.Math.Decide.{dec_lt}
use native.Mathlib.Omega.{arith}
use Rattle.answer.specs.declared.Refusal.{Refusal}
use Rattle.bits.specs.Bits.{bit_of}
use Rattle.dock.specs.declared.Listing.{Listing}
use Rattle.dock.specs.Dumped.{Agree}
use Rattle.dock.specs.Entries as dock-entries
use Rattle.dock.specs.Listing as dock
use Rattle.dock.specs.Listing.{listing_of, temperatures_of, seconds_at}
use Rattle.dock.specs.Listing.Laws.{judged_only, answer_only, answer_listing, listing_refused, temperatures_refused}
use Rattle.dock.specs.Listing.Memory.{memory_listing, memory_temperature, memory_past}
use Rattle.dock.specs.Registers.{word_at, memclr}
use Rattle.dump.specs.Check.{first_refusal, check_lines, check_of}
use Rattle.dump.specs.Check.Laws.{check_lines_lem}
use Rattle.dump.specs.Check.Unique.{accepted_length}
use Rattle.dump.specs.Lines.{bytes_from, dumped_at}
use Rattle.promises.specs.Sentences.Dump.{lines_number, dumped, dump_number, zero_counts, listed_by}
use Rattle.promises.specs.Sentences.Listing.{entries, held, cannot_be, content_number, reading_at, temperature_at, seconds_for}
use Rattle.promises.specs.Sentences.Dump.Lines.{first_number, all_number, dumped_is}
use Rattle.promises.specs.Sentences.Events.{number_in}
use Rattle.promises.specs.Sentences.Events.Proof.{numbered, number_accepts}
use Rattle.promises.specs.Words.{bit}

-- ---- what a memory says

module _ (byte : ℕ → ℕ) where
  -- numbers of two and of three bytes, "low first"
  two : (a : ℕ) → word_at byte a 2 ≡ byte a + 256 * byte (suc a)
  unfolding word_at
  two a = omega arith

  three : (a : ℕ) → word_at byte a 3 ≡ byte a + 256 * (byte (suc a) + 256 * byte (suc (suc a)))
  unfolding word_at
  three a = omega arith

  -- entries, number held and the oldest
  entries_are : dock-entries.entries byte ≡ entries byte
  unfolding dock-entries.entries dock-entries.is_flagged bit bit_of
  entries_are = rw (three 0x0220)

  held_are : dock-entries.held byte ≡ held byte
  unfolding dock-entries.held dock-entries.places bit bit_of
  held_are = rw entries_are

  first_is : dock-entries.first byte ≡ entries byte - held byte
  unfolding dock-entries.first
  first_is = rw (entries_are, held_are)

  -- 11, and all of "10, 11, 12"
  cannot_be_lem : dock.cannot_be byte ≡ cannot_be byte
  unfolding dock.cannot_be dock.is_known dock.is_overfull dock.is_unflagged dock-entries.is_flagged dock-entries.places bit bit_of
  cannot_be_lem = rw (two 0x0206, entries_are, three 0x0220)

  content_number_lem : (lent : ℕ) → number_in (dock.judged byte lent) ≡ content_number byte lent
  unfolding dock.judged content_number bit bit_of
  content_number_lem lent =
      rw (cannot_be_lem, held_are)
      (numbered (bit (byte 0x0215) 3) (Err Refusal.Cleared) _ refl
      (numbered (cannot_be byte) (Err Refusal.Counts) _ refl (numbered (ltb lent (held byte)) (Err Refusal.Places) (Ok tt) refl refl)))

  -- the listing
  listed_is : dock.listed byte ≡ listed_by byte
  unfolding dock.listed bytes_from bit bit_of
  listed_is = rw (held_are, first_is, two 0x0206)

  -- an entry
  reading_is : (k : ℕ) → dock-entries.reading_at byte k ≡ reading_at byte k
  unfolding dock-entries.reading_at reading_at dock-entries.places bit bit_of
  reading_is k = by (bit (byte 0x0213) 2)
    where
      by : (wide : Bool)
          → (let at = 0x1000 + 2 * (k % (if wide then 4096 else 8192)) in
          if wide then 8 * byte at + byte (at + 1) / 32 else 8 * byte (0x1000 + k % (if wide then 4096 else 8192)))
          ≡ (if wide then 8 * byte (0x1000 + 2 * (k % 4096)) + byte (0x1000 + (2 * (k % 4096) + 1)) / 32 else 8 * byte (0x1000 + k % 8192))
      by true = let next : 0x1000 + 2 * (k % 4096) + 1 ≡ 0x1000 + (2 * (k % 4096) + 1) = omega arith in rw next
      by false = refl

  temperature_is : (k : ℕ) → dock-entries.temperature_of (byte 0x0226) (dock-entries.reading_at byte k) ≡ temperature_at byte k
  unfolding dock-entries.temperature_of temperature_at
  temperature_is k = rw (reading_is k)

  pub seconds_is : (i : ℕ) → seconds_at (listed_by byte) i ≡ seconds_for byte (entries byte - held byte + i)
  unfolding seconds_at dock-entries.seconds_of dock-entries.period_of seconds_for
  seconds_is i = refl

-- ---- a dump's number

-- by length, lines and contents
pub dump_number_lem : (dump : List ℕ) (lent : ℕ) → number_in (dock.answer_of dump lent) ≡ dump_number dump lent
unfolding dock.answer_of check_of dump_number
dump_number_lem dump lent = by (eqb (length dump) 18834) refl
  where
    turned : (none : Bool) (lines : ℕ) {content other : ℕ} → (none ≡ true → content ≡ other)
        → (if none then content else lines) ≡ (if not none then lines else other)
    turned true lines e = e refl
    turned false lines e = refl

    by : (whole : Bool) → eqb (length dump) 18834 ≡ whole
        → number_in (first_refusal (if not whole then Err Refusal.DumpForm else check_lines dump 0 258) (dock.judged (dumped_at dump) lent))
        ≡ (if not whole then 7
        else if not (eqb (lines_number dump 0 258) 0) then lines_number dump 0 258 else content_number (dumped dump) lent)
    by false e = first_number (Err Refusal.DumpForm) (dock.judged (dumped_at dump) lent) refl refl
    by true e =
        let size = eqb-true (length dump) 18834 e in
        first_number (check_lines dump 0 258) (dock.judged (dumped_at dump) lent) (all_number dump size) (content_number_lem (dumped_at dump) lent)
        ∙ turned (eqb (lines_number dump 0 258) 0) (lines_number dump 0 258)
        (λ none. ap (λ (byte : ℕ → ℕ). content_number byte lent) (sym (dumped_is dump size (eqb-true (lines_number dump 0 258) 0 none))))

-- ---- a dump that is refused

-- zero counts, and no place changed
pub listing_zero : (dump : List ℕ) (lent : List ℤ) → dump_number dump (length lent) ≢ 0 →
    (listing_of dump (length lent) ≡ zero_counts (listing_of dump (length lent)).answer) × (temperatures_of dump lent ≡ lent)
unfolding dock.is_accepted dock.refused
listing_zero dump lent bad =
    let answer = dock.answer_of dump (length lent) in
    let no_number : dock.is_accepted answer ≡ false =
    ne_eqb _ 0 (λ e. bad (sym (dump_number_lem dump (length lent)) ∙ e)) in
    (listing_refused dump (length lent) no_number ∙ ap zero_counts (sym (answer_listing dump (length lent))), temperatures_refused dump lent no_number)

-- ---- a dump that is accepted

module _ (dump : List ℕ) (lent : List ℤ) (accepted : dump_number dump (length lent) ≡ 0) where
  passes : (check_of dump ≡ Ok tt) × (dock.judged (dumped_at dump) (length lent) ≡ Ok tt)
  passes = answer_only dump (length lent) (number_accepts (dump_number_lem dump (length lent) ∙ accepted))

  -- its bytes are those that the dock reads
  bytes_are : dumped dump ≡ dumped_at dump
  bytes_are =
      let size = accepted_length dump passes.0 in
      dumped_is dump size (sym (all_number dump size) ∙ ap number_in (sym (check_lines_lem dump size) ∙ passes.0))

  judged : (memclr (dumped_at dump) ≡ false) × ((dock.cannot_be (dumped_at dump) ≡ false) × (dock-entries.held (dumped_at dump) ≤ length lent))
  judged = judged_only (dumped_at dump) (length lent) passes.1

  same : Agree (dumped_at dump) (dumped_at dump)
  same = record { registers = λ a low high. refl; log = λ a low high. refl }

  pub listing_is : listing_of dump (length lent) ≡ listed_by (dumped dump)
  listing_is =
      rw bytes_are
      (memory_listing dump (dumped_at dump) passes.0 same judged.0 judged.1.0 (length lent) judged.1.1 ∙ listed_is (dumped_at dump))

  pub listing_seconds : (i : ℕ) → let byte = dumped dump in
      seconds_at (listing_of dump (length lent)) i ≡ seconds_for byte (entries byte - held byte + i)
  listing_seconds i = ap (λ (l : Listing). seconds_at l i) listing_is ∙ seconds_is (dumped dump) i

  -- a place below the number held, and one past it
  pub place_held : (i : ℕ) → let byte = dumped dump in
      i < held byte → get_or (temperatures_of dump lent) i (pos 0) ≡ temperature_at byte (entries byte - held byte + i)
  place_held i =
      let byte = dumped_at dump in
      rw (bytes_are, ← first_is byte, ← held_are byte)
      (λ h.
      memory_temperature dump byte passes.0 same judged.0 judged.1.0 lent judged.1.1 i h
      ∙ temperature_is byte (dock-entries.first byte + i))

  pub place_past : (i : ℕ) → held (dumped dump) ≤ i → get_or (temperatures_of dump lent) i (pos 0) ≡ get_or lent i (pos 0)
  place_past i =
      let byte = dumped_at dump in
      rw (bytes_are, ← held_are byte)
      (memory_past dump byte passes.0 same judged.0 judged.1.0 lent judged.1.1 i)

  pub place_is : (i : ℕ) → let byte = dumped dump in
      get_or (temperatures_of dump lent) i (pos 0) ≡ (if ltb i (held byte) then temperature_at byte (entries byte - held byte + i) else get_or lent i (pos 0))
  place_is i =
      let byte = dumped dump in
      dite (dec_lt i (held byte)) (λ h. rw (lt-ltb i (held byte) h) (place_held i h))
      (λ h. rw (le-ltb i (held byte) (omega arith)) (place_past i (omega arith)))

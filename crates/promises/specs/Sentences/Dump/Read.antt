-- A fit tag has one dump, and its lines are what Read Memory sends. Assumes nothing.
use Rattle.std.specs.Prelude.{Bool, ◌≡◌}
use mathlib.Core.List.{List, [], ◌∷◌, ◌++◌, append_assoc, append-nil, flat_map}
use Rattle.std.proofs.Math.Path.{refl, sym, ap}
use Rattle.std.proofs.Common.{◌∙◌, add-zero}
use Prim.Native.Nat.{ℕ, zero, suc, ◌+◌, ◌-◌, ◌/◌, ◌%◌, ◌^◌, ◌≤◌, ◌<◌}
use native.Mathlib.Omega.{arith}
use Rattle.bits.specs.Bits.Laws.{slots_append}
use Rattle.dump.specs.Check.Laws.{check_lines_lem}
use Rattle.dump.specs.Check.Unique.{accepted_unique}
use Rattle.dump.specs.Dump.{dump_of, dump_length, dump_accepted, dump_data}
use Rattle.record.specs.Record.Laws.{ranges_of}
use Rattle.promises.specs.Demand2.Listing.{code_small}
use Rattle.promises.specs.Line.Pages.{page_low, page_aligned}
use Rattle.promises.specs.Ranges.{Fit}
use Rattle.promises.specs.Ranges.Laws.{fit_sound}
use Rattle.promises.specs.Runs.{State}
use Rattle.promises.specs.Sentences.Commands.{sent, head_of, PassesRead}
use Rattle.promises.specs.Sentences.Reading.{page, pages}
use Rattle.promises.specs.Sentences.Commands.Reading.{reads}
use Rattle.promises.specs.Sentences.Dump.{page_at, shown, shown_from, lines_number, dumped, DumpOf}
use Rattle.promises.specs.Sentences.Dump.Lines.{Right, page_is, shown_data, shown_small, two_low, where_in, all_number, lines_right, lines_check, dumped_is}
use Rattle.promises.specs.Sentences.Events.{number_in}
use Rattle.promises.specs.Sentences.Memory.{sent_from}
use Rattle.promises.specs.Sentences.Memory.Laws.{sent_is}
use Rattle.promises.specs.Words.{low, slots, released, Chosen}
use Rattle.promises.specs.Words.Laws.{slots_are}

-- ---- one dump

-- what the dump's definition writes of a fit tag is its dump
dump_written : {s : State} → Fit s → DumpOf s (dump_of s.image s.tag.code)
dump_written {s} fit =
    let image = s.image in
    let code = s.tag.code in
    let dump = dump_of image code in
    let small = code_small code (ranges_of s.tag (fit_sound fit).ranges).code in
    let size = dump_length image code in
    let lines : lines_number dump 0 258 ≡ 0 =
    sym (all_number dump size) ∙ ap number_in (sym (check_lines_lem dump size) ∙ dump_accepted image code fit.bytes small) in
    record {
      size = size;
      lines = lines;
      bytes = λ line i h k.
          shown_data dump line (lines_right dump size lines line h).are i k
          ∙ dump_data image code fit.bytes small line i h k
          ∙ rw (page_is line h) (sym (sent_is image fit.size code (page_at line + i)));
    }

-- so there is one ..
pub dump_exists : {s : State} → Fit s → (dump : List ℕ) × DumpOf s dump
dump_exists {s} fit = (dump_of s.image s.tag.code, dump_written fit)

-- two dumps of a tag have the same bytes
dumped_same : {s : State} (p q : List ℕ) → DumpOf s p → DumpOf s q → (address : ℕ) → dumped p address ≡ dumped q address
unfolding dumped
dumped_same p q d e address =
    where_in 0x0200 address 0x0240 (λ from to. same ((address - 0x0200) / 32) (address % 32) (omega arith) (omega arith))
    (where_in 0x1000 address 0x3000 (λ from to. same (2 + (address - 0x1000) / 32) (address % 32) (omega arith) (omega arith)) refl)
  where
    same : (line i : ℕ) → line < 258 → i < 32 → shown p line (2 + i) ≡ shown q line (2 + i)
    same line i h k = d.bytes line i h k ∙ sym (e.bytes line i h k)

-- .. and no other
pub dump_unique : {s : State} (p q : List ℕ) → DumpOf s p → DumpOf s q → p ≡ q
dump_unique p q d e =
    accepted_unique p q (lines_check p d.size d.lines) (lines_check q e.size e.lines)
    (λ address. rw (← dumped_is p d.size d.lines, ← dumped_is q e.size e.lines) (dumped_same p q d e address))

-- so any is the one that the definition writes
pub dump_is : {s : State} → Fit s → (dump : List ℕ) → DumpOf s dump → dump_of s.image s.tag.code ≡ dump
dump_is {s} fit dump is = dump_unique (dump_of s.image s.tag.code) dump (dump_written fit) is

-- ---- a line of it

-- its data, and its CRC
shown_parts : (dump : List ℕ) (line : ℕ) → shown_from dump line 2 34 ≡ shown_from dump line 2 32 ++ shown_from dump line 34 2
unfolding shown_from
shown_parts dump line = refl

-- the slots of two runs of bytes
slots_joined : (a b : List ℕ) → slots (a ++ b) ≡ slots a ++ slots b
slots_joined a b = rw (slots_are (a ++ b), slots_are a, slots_are b) (slots_append a b)

-- a line's page is where Read Memory begins
page_start : (line : ℕ) → line < 258 → (page_at line % 32 ≡ 0) × (page_at line < 0x3000)
page_start line h = rw (← page_is line h) (page_aligned line h, page_low line h)

module _ {s : State} (dump : List ℕ) (is : DumpOf s dump) (line : ℕ) (there : line < 258) where
  -- its data are what is sent
  data_sent : (i count : ℕ) → i + count ≤ 32 → shown_from dump line (2 + i) count ≡ sent_from s.image s.tag.code (page_at line + i) count
  unfolding shown_from sent_from
  data_sent i zero h = refl
  data_sent i (suc count) h =
      let next : suc (2 + i) ≡ 2 + suc i = omega arith in
      let more : suc (page_at line + i) ≡ page_at line + suc i = omega arith in
      rw (is.bytes line i there (omega arith), next, more, data_sent (suc i) count (omega arith))

  -- its page is the address that the master sends
  head_shown : Right dump line → (bits : List Bool) →
      low 8 0x69 ++ (low 8 (shown dump line 1) ++ (low 8 (shown dump line 0) ++ bits)) ≡ head_of 0x69 (page_at line) ++ bits
  unfolding flat_map
  head_shown right bits =
      let low_byte = shown dump line 1 in
      let high_byte = shown dump line 0 in
      let address : low 16 (page_at line) ≡ slots (low_byte ∷ high_byte ∷ []) =
      ap (low 16) (omega (arith, right.page)) ∙ sym (two_low low_byte high_byte (shown_small dump line right.are 1 (omega arith))) in
      rw address (simp (append_assoc, append-nil))

  -- and with its CRC all is a page
  line_sent : slots (shown_from dump line 2 34) ≡ page s (head_of 0x69 (page_at line)) (page_at line) 32
  line_sent =
      let right = lines_right dump is.size is.lines line there in
      let same : shown_from dump line 2 32 ≡ sent_from s.image s.tag.code (page_at line) 32 =
      rw (add-zero (page_at line)) at (data_sent 0 32 (omega arith)) in
      rw (
        shown_parts dump line,
        slots_joined (shown_from dump line 2 32) (shown_from dump line 34 2),
        right.bits,
        head_shown right (slots (shown_from dump line 2 32)),
        same,
      )

  pub line_read : Fit s → Chosen s → (field : ℕ) → field < 2 ^ 64 → PassesRead s field →
      let head = head_of 0x69 (page_at line) ++ low 64 field in
      (sent s (head ++ released 272)).line ≡ head ++ slots (shown_from dump line 2 34)
  unfolding pages
  line_read fit ready field whole passes =
      let head = head_of 0x69 (page_at line) in
      let start = page_start line there in
      rw (append_assoc head (low 64 field) (released 272), append_assoc head (low 64 field) (slots (shown_from dump line 2 34)), line_sent)
      (rw (start.0, append-nil) at (reads fit ready (page_at line) field whole passes 0 (omega (arith, start.1))).0)

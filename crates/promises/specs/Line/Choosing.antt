-- Slots after a reset in which the tag is still being chosen, or has dropped out: what they come to in the words of `select`'s runs, and the
-- run of the tag that they make. `Sentences.Choosing` is proved by it. Assumes nothing.
use Rattle.std.specs.Prelude.{◌≡◌, Bool, ◌≢◌, ℕ, zero, suc, ◌+◌, ◌/◌, ◌^◌, ◌<◌, ◌≤◌, length}
use Rattle.std.proofs.Math.Path.{refl, ap}
use Rattle.std.proofs.Common.{sym, ◌∙◌, div-one, arith, lt-ltb, length-append}
use Rattle.std.proofs.Math.Bool.{true, false, not}
use Rattle.std.specs.Bool.{beq}
use mathlib.Core.List.{List, [], ◌∷◌, ◌++◌, map, flat_map, append-nil, append_assoc}
use Rattle.bits.specs.Bits.{bit_of, bits_of, shift_all, shift_in}
use Rattle.bits.specs.Bits.Laws.{digit_one, length_bits, no_bits, bits_from_lem}
use Rattle.bits.specs.Choose.{choice}
use Rattle.event.specs.Event.{answer_to}
use Rattle.exchange.specs.Exchange.{begun, after_reset as exchange_reset}
use Rattle.exchange.specs.Runs.Laws.{alarm_in, run_choosing}
use Rattle.image.specs.Answers.{alarmed}
use Rattle.image.specs.Fields.{flag_at}
use Rattle.select.specs.declared.Choosing.{Choosing}
use Rattle.select.specs.declared.Choosing.TheVariants.{Silent, Command, Matching, Giving, Selected}
use Rattle.select.specs.declared.Mode.{Mode}
use Rattle.select.specs.declared.Select.{Select}
use Rattle.select.specs.Select.{speed_in, mode_of, keeps, clears, listening, rom_command, following, heard_bit, slot_at, slot_of}
use Rattle.select.specs.Select.Laws.{mark_of_lem, speed_of_lem, command_more, following_more, heard_right_more}
use Rattle.select.specs.Select.Mark.{joins, rom_joined}
use Rattle.select.specs.Runs as select
use Rattle.select.specs.Runs.{match_byte, search_with, search_answers}
use Rattle.select.specs.Runs.Laws.{follows, run_append, run_silent, after_command, searching, told_wrong, match_lt, rom_match, length_search, run_match_other, run_search}
use Rattle.select.specs.Runs.Through.{Lasts, choosing_while, choosing_append, choosing_through}
use Rattle.promises.specs.Line.Slots.{answers_of, after_reset, with_exchange, slots_quiet, run_slots, run_reset}
use Rattle.promises.specs.Runs.{State, Event, run}
use Rattle.promises.specs.Runs.Laws.{Sound}
use Rattle.promises.specs.Sentences.Choosing.{alarm}
use Rattle.promises.specs.Words.{bit_at, number_of, mark_of}
use Rattle.promises.specs.Words.Laws.{mark_is, bit_low}

-- at standard speed, with this Resume mark
abbrev pub slowly : Bool → Mode
slowly marked = mode_of marked false

-- after a reset, with the first mark, these slots leave the tag here, with the second, and the line carries these bits; none was a memory
-- command's
pub record Comes (mark : Bool) (number : ℕ) (alarm : Bool) (bits : List Bool) (k : Choosing) (marked : Bool) (line : List Bool) : Type 0 where
  pub still : select.still_choosing (listening (slowly mark)) number alarm bits ≡ true
  pub ran : select.run (listening (slowly mark)) number alarm bits ≡ record { select = keeps (slowly marked) k; line = line }

-- ---- from a stage on

-- a command's byte that is not whole
command_part : (number : ℕ) (alarm : Bool) (mode : Mode) (bits : List Bool) (heard count : ℕ) → count + length bits ≤ 7 →
    select.run (keeps mode (Command heard count)) number alarm bits ≡
    record { select = keeps mode (Command (shift_all 8 heard bits) (count + length bits)); line = bits }
unfolding select.run slot_of slot_at shift_all
command_part number alarm mode [] heard count h = let here : count + 0 ≡ count = omega arith in rw here
command_part number alarm mode (bit ∷ bits) heard count h =
    let next : count + suc (length bits) ≡ count + 1 + length bits = omega arith in
    rw (command_more heard count mode bit alarm (omega arith), next)
    (ap (follows (bit ∷ [])) (command_part number alarm mode bits (shift_in 8 heard bit) (count + 1) (omega arith)))

-- a bit that is not the last: the tag goes on or drops out
heard_more : (P : Select → Type 0) (number at : ℕ) (bit : Bool) (next : Choosing) (fast : Bool) (mode : Mode) → at < 63 →
    P (keeps mode next) → P (keeps mode Silent) → P (heard_bit number at bit next fast mode)
unfolding heard_bit
heard_more P number at bit next fast mode more right wrong = rw (lt-ltb at 63 more) (choice P (beq (bit_of number at) bit) right wrong)

-- while it is told a number by Match the tag listens, and before the last bit nothing is set
match_listens : (number : ℕ) (alarm fast : Bool) (mode : Mode) (bits : List Bool) (at : ℕ) → at + length bits ≤ 64 →
    let ran = select.run (keeps mode (Matching fast at)) number alarm bits in
    (ran.line ≡ bits) × (at + length bits ≤ 63 → ran.select.mode ≡ mode)
unfolding select.run slot_of slot_at
match_listens number alarm fast mode [] at h = (refl, λ short. refl)
match_listens number alarm fast mode (bit ∷ []) at h =
    (refl, λ short. heard_more (λ next. next.mode ≡ mode) number at bit (Matching fast (following at)) fast mode (omega arith) refl refl)
match_listens number alarm fast mode (bit ∷ b ∷ bs) at h =
    let rest = match_listens number alarm fast mode (b ∷ bs) (at + 1) (omega arith) in
    let goes : Select → Type 0 = λ next. let ran = select.run next number alarm (b ∷ bs) in
    (bit ∷ ran.line ≡ bit ∷ b ∷ bs) × (at + suc (suc (length bs)) ≤ 63 → ran.select.mode ≡ mode) in
    heard_more goes number at bit (Matching fast (following at)) fast mode (omega arith)
    (rw (following_more at (omega arith)) (ap (◌∷◌ bit) rest.0, λ short. rest.1 (omega arith)))
    (let silent = run_silent mode number alarm (b ∷ bs) in
    (ap (λ (r : select.Ran). bit ∷ r.line) silent, λ short. ap (λ (r : select.Ran). r.select.mode) silent))

-- a Search goes on while the choices are the tag's bits
search_right : (number : ℕ) (alarm : Bool) (mode : Mode) (k at : ℕ) (rest : List Bool) → at + k ≤ 63 →
    let right = bits_of k (number / 2 ^ at) in
    select.run (keeps mode (Giving at)) number alarm (search_with right ++ rest) ≡
    follows (search_answers right) (select.run (keeps mode (Giving (at + k))) number alarm rest)
unfolding flat_map searching
search_right number alarm mode zero at rest h = let here : at + 0 ≡ at = omega arith in rw (no_bits (number / 2 ^ at), here)
search_right number alarm mode (suc k) at rest h =
    let own = bit_of number at in
    let left = search_with (bits_of k (number / 2 ^ (at + 1))) ++ rest in
    let next : at + suc k ≡ at + 1 + k = omega arith in
    rw (bits_from_lem k number at, next)
    (searching.tells number alarm mode own at left
    ∙ rw (heard_right_more number at (Giving (following at)) false mode (omega arith), following_more at (omega arith))
    (ap (follows (own ∷ not own ∷ own ∷ [])) (search_right number alarm mode k (at + 1) rest (omega arith))))

differs : (bit : Bool) → beq bit (not bit) ≡ false
differs true = refl
differs false = refl

-- ---- from a reset on

-- a command that clears the mark leaves the speed
pub cleared : (mark : Bool) (k : Choosing) → clears (speed_in (slowly mark)) k ≡ keeps (slowly false) k
cleared mark k = ap (λ (speed : Bool). clears speed k) (speed_of_lem mark false)

module _ (mark : Bool) (number : ℕ) (alarm : Bool) where
  -- a byte that is not whole
  pub begun_comes : (bits : List Bool) → length bits < 8 → Comes mark number alarm bits (Command (shift_all 8 0 bits) (0 + length bits)) mark bits
  unfolding Lasts
  begun_comes bits short =
      record {
        still = choosing_while (listening (slowly mark)) number alarm bits (omega arith);
        ran = command_part number alarm (slowly mark) bits 0 0 (omega arith);
      }

  -- a whole byte, and slots over which choosing lasts
  byte_comes : (byte : ℕ) (bits : List Bool) {next : Select} {k : Choosing} {marked : Bool} {line : List Bool} → byte < 256 →
      rom_command byte (slowly mark) alarm ≡ next → Lasts next.choosing (length bits) →
      select.run next number alarm bits ≡ record { select = keeps (slowly marked) k; line = line } →
      Comes mark number alarm (bits_of 8 byte ++ bits) k marked (bits_of 8 byte ++ line)
  byte_comes byte bits small e lasts ran =
      record {
        still = choosing_through (slowly mark) number byte alarm bits small (rw e lasts);
        ran = after_command (slowly mark) number byte alarm bits small ∙ rw (e, ran);
      }

  -- the byte of a Search that is joined
  pub search_begun : (byte : ℕ) → byte < 256 → joins byte alarm ≡ true → Comes mark number alarm (bits_of 8 byte) (Giving 0) false (bits_of 8 byte)
  unfolding Lasts select.run
  search_begun byte small joined =
      rw (append-nil (bits_of 8 byte)) at
      (byte_comes byte [] small (rom_joined byte (slowly mark) alarm joined ∙ cleared mark (Giving 0)) (omega arith) refl)

  -- a tag that has dropped out is silent whatever follows
  silent_then : (bits more : List Bool) {marked : Bool} {line : List Bool} →
      Comes mark number alarm bits Silent marked line → Comes mark number alarm (bits ++ more) Silent marked (line ++ more)
  unfolding Lasts
  silent_then bits more {marked} silent =
      record {
        still = choosing_append (listening (slowly mark)) number alarm bits more
            ∙ rw (silent.still, silent.ran, choosing_while (keeps (slowly marked) Silent) number alarm more tt);
        ran = run_append (listening (slowly mark)) number alarm bits more ∙ rw (silent.ran, run_silent (slowly marked) number alarm more);
      }

  -- so by its byte alone
  pub byte_silent : (byte : ℕ) (bits : List Bool) {marked : Bool} → byte < 256 →
      rom_command byte (slowly mark) alarm ≡ keeps (slowly marked) Silent →
      Comes mark number alarm (bits_of 8 byte ++ bits) Silent marked (bits_of 8 byte ++ bits)
  unfolding Lasts
  byte_silent byte bits {marked} small e = byte_comes byte bits small e tt (run_silent (slowly marked) number alarm bits)

  -- Match: part of it, and one with other bits
  told : (fast : Bool) → rom_command (match_byte fast) (slowly mark) alarm ≡ keeps (slowly false) (Matching fast 0)
  told fast = rom_match fast (slowly mark) alarm ∙ cleared mark (Matching fast 0)

  pub match_part : (fast : Bool) (bits : List Bool) → length bits < 64 →
      let slots = bits_of 8 (match_byte fast) ++ bits in
      Comes mark number alarm slots (select.run (keeps (slowly false) (Matching fast 0)) number alarm bits).select.choosing false slots
  unfolding Lasts
  match_part fast bits short =
      let listens = match_listens number alarm fast (slowly false) bits 0 (omega arith) in
      let stays = listens.1 (omega arith) in
      byte_comes (match_byte fast) bits (match_lt fast) (told fast) (omega arith)
      (λ i. record {
        select = keeps (stays i) (select.run (keeps (slowly false) (Matching fast 0)) number alarm bits).select.choosing;
        line = listens.0 i;
      })

  pub match_other : (fast : Bool) (bits more : List Bool) → length bits ≡ 64 → bits ≢ bits_of 64 number →
      let slots = bits_of 8 (match_byte fast) ++ (bits ++ more) in Comes mark number alarm slots Silent false slots
  unfolding Lasts
  match_other fast bits more whole other =
      let byte = match_byte fast in
      let silent = rw (after_command (slowly mark) number byte alarm bits (match_lt fast), told fast, cleared mark Silent) at
      (run_match_other (slowly mark) number alarm fast bits whole other) in
      let line = (match_listens number alarm fast (slowly false) bits 0 (omega arith)).0 in
      rw (← append_assoc (bits_of 8 byte) bits more)
      (silent_then (bits_of 8 byte ++ bits) more
      (byte_comes byte bits (match_lt fast) (told fast) (omega arith) (λ i. record { select = silent i; line = line i })))

  -- Search: with the first k bits of the number, and then with one that differs
  search_first : (k : ℕ) (rest : List Bool) → k ≤ 63 →
      let right = bits_of k number in
      select.run (keeps (slowly false) (Giving 0)) number alarm (search_with right ++ rest) ≡
      follows (search_answers right) (select.run (keeps (slowly false) (Giving k)) number alarm rest)
  search_first k rest low =
      let here : 0 + k ≡ k = omega arith in rw (div-one, here) at (search_right number alarm (slowly false) k 0 rest (omega arith))

  pub search_part : (k : ℕ) → k ≤ 63 →
      let right = bits_of k number in
      Comes mark number alarm (bits_of 8 0xF0 ++ search_with right) (Giving k) false (bits_of 8 0xF0 ++ search_answers right)
  unfolding rom_command Lasts select.run
  search_part k low =
      let right = bits_of k number in
      byte_comes 0xF0 (search_with right) (omega arith) (cleared mark (Giving 0)) (omega (arith, length_search right, length_bits k number))
      (simp append-nil at (search_first k [] low))

  pub search_other : (k : ℕ) (more : List Bool) → k ≤ 63 →
      let own = bit_of number k in
      let right = bits_of k number in
      Comes mark number alarm (bits_of 8 0xF0 ++ (search_with right ++ (true ∷ true ∷ not own ∷ more))) Silent false
      (bits_of 8 0xF0 ++ (search_answers right ++ (own ∷ not own ∷ not own ∷ more)))
  unfolding rom_command Lasts searching
  search_other k more low =
      let own = bit_of number k in
      let right = bits_of k number in
      let slots = search_with right ++ (true ∷ true ∷ not own ∷ []) in
      let line = search_answers right ++ (own ∷ not own ∷ not own ∷ []) in
      rw (
        ← append_assoc (search_with right) (true ∷ true ∷ not own ∷ []) more,
        ← append_assoc (search_answers right) (own ∷ not own ∷ not own ∷ []) more,
        ← append_assoc (bits_of 8 0xF0) slots more,
        ← append_assoc (bits_of 8 0xF0) line more,
      )
      (silent_then (bits_of 8 0xF0 ++ slots) more {line = bits_of 8 0xF0 ++ line}
      (byte_comes 0xF0 slots (omega arith) (cleared mark (Giving 0))
      (rw (length-append (search_with right) (true ∷ true ∷ not own ∷ [])) (omega (arith, length_search right, length_bits k number)))
      (search_first k (true ∷ true ∷ not own ∷ []) low
      ∙ ap (follows (search_answers right)) (told_wrong searching number alarm (slowly false) (not own) k [] (differs own)))))

  -- Conditional Search with an alarm, and Resume with the mark
  pub search_joined : alarm ≡ true →
      let bits = bits_of 64 number in
      Comes mark number alarm (bits_of 8 0xEC ++ search_with bits) Selected true (bits_of 8 0xEC ++ search_answers bits)
  unfolding rom_command Lasts joins
  search_joined asked =
      let bits = bits_of 64 number in
      record {
        still = choosing_through (slowly mark) number 0xEC alarm (search_with bits) (omega arith)
            (rw asked (omega (arith, length_search bits, length_bits 64 number)));
        ran = rw (speed_of_lem mark false) at (run_search (slowly mark) number 0xEC alarm (omega arith) asked);
      }

  pub resume_joined : mark ≡ true → Comes mark number alarm (bits_of 8 0xA5) Selected true (bits_of 8 0xA5)
  unfolding rom_command Lasts select.run bits_of
  resume_joined marked = byte_comes 0xA5 [] (omega arith) (rw (mark_of_lem mark false, marked)) refl refl

-- ---- of the tag

-- the alarm as the image answers it, and that it is the one of document 01's bits
abbrev pub alarm_of : State → Bool
alarm_of s = alarm_in (answers_of s)

pub alarm_known : (s : State) → alarm_of s ≡ alarmed s.image
unfolding answer_to
alarm_known s = digit_one (alarmed s.image)

pub alarm_is : (s : State) → alarmed s.image ≡ alarm s
unfolding alarmed
alarm_is s =
    let flag : (i : ℕ) → bit_at s.image 0x0214 i ≡ flag_at s.image 0x0214 i = λ i. bit_low s.image 0x0214 i (omega arith) in
    sym (simp flag)

-- the tag with another place of choosing
abbrev pub choosing_at : State → Select → State
choosing_at s next = let x = s.tag.exchange in with_exchange s (record { number = x.number; select = next; held = x.held; bus = x.bus })

module _ (s : State) (bits : List Bool) (sound : Sound s) where
  -- slots in which it is still being chosen
  pub choosing_run : select.still_choosing s.tag.exchange.select (number_of s) (alarmed s.image) bits ≡ true →
      let ran = select.run s.tag.exchange.select (number_of s) (alarmed s.image) bits in
      run s (map Event.slot bits) ≡ record { line = ran.line; state = choosing_at s ran.select }
  choosing_run still =
      run_slots s bits sound
      ∙ slots_quiet s bits (rw (alarm_known s) at (run_choosing (answers_of s) s.tag.exchange bits (rw (alarm_known s) still)))

  -- those of a silent tag
  pub silent_run : s.tag.exchange.select.choosing ≡ Silent → run s (map Event.slot bits) ≡ record { line = bits; state = s }
  unfolding Lasts
  silent_run silent =
      let select = s.tag.exchange.select in
      let here : select ≡ keeps select.mode Silent = ap (keeps select.mode) silent in
      choosing_run (choosing_while select (number_of s) (alarmed s.image) bits (rw silent tt))
      ∙ rw (here, run_silent select.mode (number_of s) (alarmed s.image) bits)

  -- and those after a reset
  pub comes_run : {k : Choosing} {marked : Bool} {line : List Bool} → Comes (mark_of s) (number_of s) (alarm_of s) bits k marked line →
      run s (Event.reset ∷ map Event.slot bits) ≡
      record { line = false ∷ line; state = with_exchange s (begun s.tag.exchange (keeps (slowly marked) k)) }
  comes_run comes =
      let here = rw (mark_is s.tag.exchange.select.mode) at comes in
      run_reset s bits sound
      (slots_quiet (after_reset s) bits (run_choosing (answers_of s) (exchange_reset s.tag.exchange) bits here.still ∙ rw here.ran))

-- Whole ROM commands after a reset: Read ROM, Match, Search and Skip choose the tag, from any exchange (document 01, "Choosing a
-- tag on the line"), and so do the overdrive Match and Skip of request #103. Assumes nothing.
use Rattle.std.specs.Prelude.{◌≡◌, refl, Bool, true, false, List, [], ◌++◌, ℕ, ◌<◌, length}
use Rattle.std.proofs.Common.{◌∙◌, arith}
use Rattle.bits.specs.Bits.{bits_of, released}
use Rattle.bits.specs.Bits.Laws.{length_bits}
use Rattle.bus.specs.declared.Question.{Question}
use Rattle.select.specs.declared.Choosing.TheVariants.{Selected}
use Rattle.select.specs.declared.Mode.{Mode}
use Rattle.select.specs.Select.{mark_in, speed_in, standard, listening, rom_command, keeps}
use Rattle.select.specs.Select.Laws.{speed_of_lem}
use Rattle.select.specs.Select.Mark.{joins}
use Rattle.select.specs.Runs as select-runs
use Rattle.select.specs.Runs.Laws.{match_lt, rom_match, length_search, run_read, run_match, run_search, run_skip}
use Rattle.select.specs.Runs.Through.{Lasts, choosing_through}
use Rattle.exchange.specs.declared.Exchange.{Exchange}
use Rattle.exchange.specs.Exchange.{begun, after_reset}
use Rattle.exchange.specs.Runs.{run, quietly, chosen, Way, way_slots, way_line, way_mode}
use Rattle.exchange.specs.Runs.Way.{read, match, search, skip}
use Rattle.exchange.specs.Runs.Laws.{alarm_in, run_choosing}

-- a ROM command byte and its slots, over which choosing lasts, that select as select's own run says
chosen_by : (answers : Question → ℕ) (x : Exchange) (mode : Mode) (byte : ℕ) (bits : List Bool) {next : Mode} {line : List Bool} → byte < 256 →
    Lasts (rom_command byte mode (alarm_in answers)).choosing (length bits) →
    select-runs.run (listening mode) x.number (alarm_in answers) (bits_of 8 byte ++ bits) ≡ record { select = keeps next Selected; line = line } →
    run answers (begun x (listening mode)) (bits_of 8 byte ++ bits) ≡ quietly (chosen x.number next x.held) line
chosen_by answers x mode byte bits fits lasts e =
    run_choosing answers (begun x (listening mode)) (bits_of 8 byte ++ bits) (choosing_through mode x.number byte (alarm_in answers) bits fits lasts) ∙ rw e

-- each of the ways chooses the tag, and sets or clears the Resume mark and the speed; scratchpad, TA and E/S stay
pub run_way : (answers : Question → ℕ) (x : Exchange) (mode : Mode) (way : Way) →
    run answers (begun x (listening mode)) (way_slots way x.number) ≡
    quietly (chosen x.number (way_mode way (speed_in mode)) x.held) (way_line way x.number)
unfolding way_slots way_line way_mode rom_command Lasts joins bits_of
run_way answers x mode read =
    chosen_by answers x mode 0x33 (released 64) (omega arith) (omega arith) (run_read mode x.number (alarm_in answers))
run_way answers x mode (match fast) =
    chosen_by answers x mode (select-runs.match_byte fast) (bits_of 64 x.number) (match_lt fast)
    (rw (rom_match fast mode (alarm_in answers)) (omega (arith, length_bits 64 x.number))) (run_match mode x.number (alarm_in answers) fast)
run_way answers x mode search =
    chosen_by answers x mode 0xF0 (select-runs.search_with (bits_of 64 x.number)) (omega arith)
    (omega (arith, length_search (bits_of 64 x.number), length_bits 64 x.number))
    (run_search mode x.number 0xF0 (alarm_in answers) (omega arith) refl)
run_way answers x mode (skip false) = chosen_by answers x mode 0xCC [] (omega arith) refl (run_skip mode x.number (alarm_in answers) false)
run_way answers x mode (skip true) = chosen_by answers x mode 0x3C [] (omega arith) refl (run_skip mode x.number (alarm_in answers) true)

-- after a long reset, from standard speed
pub reset_way : (answers : Question → ℕ) (x : Exchange) (way : Way) →
    run answers (after_reset x) (way_slots way x.number) ≡ quietly (chosen x.number (way_mode way false) x.held) (way_line way x.number)
reset_way answers x way = rw (speed_of_lem (mark_in x.select.mode) false) at (run_way answers x (standard x.select.mode) way)

-- `dump::read` meets its contract. The loop's invariant: the lines that are left answer for all, and with their data still to
-- store the memory, of 8,256 bytes, ends as all lines' data. Assumes nothing.
use Rattle.std.proofs.Common.{◌≡◌, ◌-◌, ◌*◌, length}
use Rattle.std.proofs.lemmas.List.Edits.{sets}
use Rattle.dump.specs.Lines.{data_lines}
use Rattle.dump.specs.Check.{check_lines}
use Rattle.dump.proofs.read.Given as goal

abbrev pub invariant-loop-line : goal.invariant-loop-line
invariant-loop-line l =
    (check_lines l.dump l.line (258 - l.line) ≡ check_lines l.dump 0 258)
    × (length l.memory ≡ 8256)
    × (sets l.memory (32 * l.line) (data_lines l.dump l.line (258 - l.line)) ≡ data_lines l.dump 0 258)

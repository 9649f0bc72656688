-- `dump::read_text` meets its contract. The loop's invariant: the bytes so far are the text's, and all its pairs are digits
-- exactly if those that are left are. Assumes nothing.
use Rattle.std.proofs.Common.{◌≡◌, ◌-◌, ◌*◌, length, take}
use Rattle.hexadecimal.specs.Hex.{all_digits}
use Rattle.dump.specs.Lines.{bytes_in}
use Rattle.dump.proofs.read_text.Given as goal

abbrev pub invariant-loop-i : goal.invariant-loop-i
invariant-loop-i l =
    (length l.place-items ≡ 36)
    × (take l.i l.place-items ≡ take l.i (bytes_in l.text))
    × (all_digits l.text (2 * l.i) (36 - l.i) ≡ all_digits l.text 0 36)

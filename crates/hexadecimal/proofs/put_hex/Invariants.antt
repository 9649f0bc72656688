-- `hexadecimal::put_hex` meets its contract. The loop's invariant: with the digits that are left still to store, the list ends as it does
-- with all of them. Assumes nothing.
use Rattle.std.proofs.Common.{◌≡◌}
use Rattle.std.proofs.lemmas.List.Edits.{sets}
use Rattle.hexadecimal.specs.Hex.{hex_of}
use Rattle.hexadecimal.proofs.put_hex.Given as goal

abbrev pub invariant-loop-left : goal.invariant-loop-left
invariant-loop-left l = sets l.out l.at (hex_of l.left l.rest) ≡ sets l.initial.out l.at (hex_of l.digits l.value)

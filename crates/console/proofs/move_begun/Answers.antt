-- `console::move_begun` meets its contract: the bytes behind the whole groups are as many as the code counts, and are copied.
use Rattle.std.specs.Prelude.{◌≡◌, ◌%◌}
use Rattle.std.proofs.Common.{sym, ◌∙◌}
use Rattle.std.proofs.Math.Nat.{mod-zero}
use Rattle.console.proofs.Console.Laws.{begun_counted, begun_moved}
use Rattle.console.proofs.move_begun.Goals.{then-size-eq0, else-size-eq0}
use Rattle.console.proofs.move_begun.Goals as goal

-- of groups of no bytes all have only begun
pub returns : goal.returns
returns c =
    let a = c.args in
    let end = c.min-end.result in
    let begun = c.if-size-eq0.begun in
    let counted : begun ≡ end % a.size = elim c.if-size-eq0.branch [
      | then-size-eq0 w ↦ rw w.if-size-eq0.true (w.begun-is ∙ sym (mod-zero end))
      | else-size-eq0 w ↦ w.begun-is
    ] in
    record {
      value = sym (begun_counted a.size a.held a.input.now end begun c.min-end.ensures counted);
      input_after = c.copy_within.ensures.after ∙ begun_moved a.size a.held a.input.now end begun c.min-end.ensures counted;
    }

-- `hexadecimal::put_hex` meets its contract: a turn stores the last digit of those left, or leaves it out where it falls past the end.
-- Assumes nothing.
use Rattle.std.proofs.Common.{◌≡◌, ◌+◌, ◌-◌, set, ap, sym, ◌∙◌, arith}
use Rattle.std.proofs.Math.Seq.{set_out}
use Rattle.hexadecimal.specs.Hex.{hex_digit}
use Rattle.hexadecimal.specs.Hex.Laws.{digit_listed}
use Rattle.hexadecimal.specs.Hex.Stores.{put_last, put_none}
use Rattle.hexadecimal.proofs.put_hex.Goals as goal
use Rattle.hexadecimal.proofs.put_hex.Goals.{then-left-room, else-left-room}

pub loop-left-preserved : goal.loop-left-preserved
loop-left-preserved c =
    let turn = c.loop-left in
    let at = c.args.at in
    let place = at + (turn.left - 1) in
    let stored : c.if-left-room.out ≡ set turn.out place (hex_digit turn.rest) =
    elim c.if-left-room.branch [
      | then-left-room w ↦ w.out-is ∙ ap (set turn.out place) (digit_listed turn.rest)
      | else-left-room w ↦ w.out-is ∙ sym (set_out turn.out place (hex_digit turn.rest) (omega arith))
    ] in
    rw (stored, ← put_last turn.out at turn.left turn.rest c.loop-left-test.true) turn.invariant

pub returns : goal.returns
returns c =
    let end = c.loop-left in
    sym (put_none end.out _ end.left end.rest c.loop-left-test.false) ∙ end.invariant

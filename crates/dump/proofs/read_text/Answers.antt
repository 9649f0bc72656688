-- `dump::read_text` meets its contract: a text of another length or with a pair that is no byte is refused, and what is read of any other
-- decides by the tests that are left. Assumes nothing.
use Rattle.std.proofs.Common.{ℕ, ◌≡◌, ◌-◌, ◌*◌, ◌≤◌, length-set, true, false, List, length, get_or, take, sym, ◌∙◌}
use Rattle.hexadecimal.specs.Hex.{all_digits, pair_at}
use Rattle.hexadecimal.specs.Hex.Text.{read_bad, read_byte, read_more, read_all, read_done}
use Rattle.hexadecimal.specs.declared.Pair.TheVariants.{Byte, Bad}
use Rattle.dump.specs.Lines.{bytes_in}
use Rattle.dump.specs.Check.{formed, crc_right}
use Rattle.dump.specs.Check.Laws.{formed_not_long, formed_not_digits, formed_not_ended, formed_whole, check_form, check_page, check_crc, check_accepted, text_refused, text_accepted}
use Rattle.dump.proofs.read_text.Goals as goal

-- what the loop keeps, and what that is once all is read
abbrev SoFar : List ℕ → List ℕ → ℕ → Type 0
SoFar text bytes i =
    (length bytes ≡ 36) × (take i bytes ≡ take i (bytes_in text)) × (all_digits text (2 * i) (36 - i) ≡ all_digits text 0 36)

module _ (text bytes : List ℕ) (i : ℕ) (past : 36 ≤ i) (so : SoFar text bytes i) where
  read : bytes_in text ≡ bytes
  read = sym (read_all text 36 i bytes so.0 past so.1)

  whole : length text ≡ 73 → get_or text 72 0 ≡ 0x0A → formed text ≡ true
  whole long ended = formed_whole text long (sym so.2 ∙ read_done text 36 i past) ended

pub returns-then-text-ne-LINE : goal.returns-then-text-ne-LINE
returns-then-text-ne-LINE c =
    let a = c.args in
    sym (text_refused a.text.now a.page (check_form a.text.now a.page (formed_not_long a.text.now c.if-text-ne-LINE.true)))

pub returns-in_default : goal.returns-in_default
returns-in_default c =
    let a = c.args in
    let turn = c.loop-i in
    let bad : pair_at a.text.now (2 * turn.i) ≡ Bad = sym c.pair_at.ensures ∙ c.in_default.is in
    let digits = sym turn.invariant.2 ∙ read_bad a.text.now 36 turn.i c.loop-i-test.true bad in
    sym (text_refused a.text.now a.page (check_form a.text.now a.page (formed_not_digits a.text.now digits)))

pub loop-i-preserved : goal.loop-i-preserved
loop-i-preserved c =
    let turn = c.loop-i in
    let text = c.args.text.now in
    let inside = c.loop-i-test.true in
    let byte : pair_at text (2 * turn.i) ≡ Byte c.in-Byte.byte = sym c.pair_at.ensures ∙ c.in-Byte.is in (
      rw length-set turn.invariant.0,
      read_more text 36 turn.i inside turn.place-items turn.invariant.0 byte turn.invariant.1,
      read_byte text 36 turn.i inside byte ∙ turn.invariant.2,
    )

pub returns-then-text-ne10 : goal.returns-then-text-ne10
returns-then-text-ne10 c =
    let a = c.args in
    sym (text_refused a.text.now a.page (check_form a.text.now a.page (formed_not_ended a.text.now c.if-text-ne10.true)))

pub returns-then-page_in-page : goal.returns-then-page_in-page
returns-then-page_in-page c =
    let a = c.args in
    let end = c.loop-i in
    let read = read a.text.now end.place-items end.i c.loop-i-test.false end.invariant in
    let whole = whole a.text.now end.place-items end.i c.loop-i-test.false end.invariant c.if-text-ne-LINE.false c.if-text-ne10.false in
    sym (text_refused a.text.now a.page (check_page a.text.now a.page read whole (λ e. c.if-page_in-page.true (c.page_in.ensures ∙ e))))

pub returns-then-not-crc_right : goal.returns-then-not-crc_right
returns-then-not-crc_right c =
    let a = c.args in
    let end = c.loop-i in
    let read = read a.text.now end.place-items end.i c.loop-i-test.false end.invariant in
    let whole = whole a.text.now end.place-items end.i c.loop-i-test.false end.invariant c.if-text-ne-LINE.false c.if-text-ne10.false in
    let wrong : crc_right end.place-items ≡ false = sym c.crc_right.ensures ∙ c.if-not-crc_right.true in
    sym (text_refused a.text.now a.page (check_crc a.text.now a.page read whole (sym c.page_in.ensures ∙ c.if-page_in-page.false) wrong))

pub returns-else-not-crc_right : goal.returns-else-not-crc_right
returns-else-not-crc_right c =
    let a = c.args in
    let end = c.loop-i in
    let read = read a.text.now end.place-items end.i c.loop-i-test.false end.invariant in
    let whole = whole a.text.now end.place-items end.i c.loop-i-test.false end.invariant c.if-text-ne-LINE.false c.if-text-ne10.false in
    let right : crc_right end.place-items ≡ true = sym c.crc_right.ensures ∙ c.if-not-crc_right.false in
    let accepted = check_accepted a.text.now a.page read whole (sym c.page_in.ensures ∙ c.if-page_in-page.false) right in
    rw (c.data_in.ensures, ← read) (sym (text_accepted a.text.now a.page accepted))

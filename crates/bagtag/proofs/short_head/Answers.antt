-- `bagtag::short_head` meets its contract: the number is the dump's, with no place lent. Assumes nothing.
use Rattle.std.proofs.Common.{◌≡◌, List, ℕ, sym, ap, ◌∙◌, arith}
use Rattle.answer.specs.Answer.{Answer, answer_number}
use Rattle.answer.specs.Answer.Laws.{refusal_counts}
use Rattle.dock.specs.declared.Listing.{Listing}
use Rattle.dock.specs.Listing.{listing_of, answer_of}
use Rattle.dock.specs.Listing.Laws.{answer_listing}
use Rattle.bagtag.specs.Bagtag.Laws.{room_accepted, room_refused}
use Rattle.bagtag.proofs.short_head.Goals as goal

told : (dump : List ℕ) {listing : Listing} {answer : Answer} → listing ≡ listing_of dump 0 → listing.answer ≡ answer →
    answer_number (answer_of dump 0) ≡ answer_number answer
told dump value is = ap answer_number (sym (ap (λ (l : Listing). l.answer) value ∙ answer_listing dump 0) ∙ is)

pub returns-in-Ok : goal.returns-in-Ok
returns-in-Ok c =
    let dump = c.args.dump.now in
    c.from.ensures ∙ sym (room_accepted dump 0 (told dump c.list_dump-listing.ensures.value c.in-Ok.is))

pub returns-in-Err : goal.returns-in-Err
returns-in-Err c =
    let dump = c.args.dump.now in
    let number = told dump c.list_dump-listing.ensures.value c.in-Err.is in
    c.from-in-Err.ensures
    ∙ sym (room_refused dump 0 (λ zero. absurd (omega (arith, refusal_counts c.in-Err.refusal, number, zero))) ∙ number)

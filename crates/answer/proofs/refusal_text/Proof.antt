-- `answer::refusal_text` meets its contract. Assumes nothing.
use mathlib.Core.Path.{refl}
use borrow.Author.Rules.{rules}
use Rattle.answer.specs.Answer.{refusal_text}
use Rattle.answer.proofs.refusal_text.Statement.{statement}
use Rattle.answer.proofs.refusal_text.Tie as tie

returns : tie.Need-returns
unfolding refusal_text
returns c = refl

pub refusal_text_spec : {M : Type 1} → statement M
refusal_text_spec = tie.close (tie.spec (λ c. search rules) (λ c. search rules) returns)

use Rattle.std.proofs.Common.{sym, ◌∙◌, arith}
use Rattle.script.proofs.CapabilityTexts.{text_from_words, no_text}
use Rattle.script.proofs.CapabilityWords.{capability_found, no_kind, no_arguments, words_left_over}
use Rattle.script.proofs.named.capability_of.Goals as goal

pub returns-in_err-kind-clause-none : goal.returns-in_err-kind-clause-none
returns-in_err-kind-clause-none c = rw c.from_residual-in_err-kind.ensures (λ d well small.
    no_text c.args.text.now d (well, small) (no_kind _ _ _ (sym c.new-words.ensures ∙ c.in_ok-next.ensures) c.in_err-kind.ensures.none d
    (well, small)))

pub returns-in_err-capability-clause-none : goal.returns-in_err-capability-clause-none
returns-in_err-capability-clause-none c = rw c.from_residual-in_err-capability.ensures (λ d well small.
    no_text c.args.text.now d (well, small)
    (no_arguments _ _ _ _ (sym c.new-words.ensures ∙ c.in_ok-next.ensures) c.in_ok-kind.ensures.found c.in_err-capability.ensures d
    (well, small)))

pub returns-then-is_empty-clause-some : goal.returns-then-is_empty-clause-some
returns-then-is_empty-clause-some c =
    let found = capability_found _ _ _ _ _ _ (sym c.new-words.ensures ∙ c.in_ok-next.ensures) c.in_ok-kind.ensures.found
    c.in_ok-capability.ensures
    (grind arith) in
    (found.0.0, found.0.1, text_from_words c.args.text.now _ found.1)

pub returns-else-is_empty-clause-none : goal.returns-else-is_empty-clause-none
returns-else-is_empty-clause-none c = λ d well small.
    no_text c.args.text.now d (well, small)
    (words_left_over _ _ _ _ _ _ (sym c.new-words.ensures ∙ c.in_ok-next.ensures) c.in_ok-kind.ensures.found c.in_ok-capability.ensures
    (grind arith) d
    (well, small))

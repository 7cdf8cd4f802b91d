use Rattle.std.proofs.Common.{◌≡◌, ◌≤◌, subst, arith}
use Rattle.word_machine.specs.Words.{step_count}
use Rattle.call_search.proofs.trial.checked_word.Goals as goal

pub returns : goal.returns
returns c =
    let word = c.args.proposal.whole.word.items in
    let counted : c.steps_of.result ≡ step_count word = subst (λ w. c.steps_of.result ≡ step_count w) c.deref.ensures.value c.steps_of.ensures in
    let within : step_count word ≤ c.args.bound = omega (arith, counted, c.if-steps_of-bound.false) in
    c.in_ok-is_least.ensures c.if-not-branch.false c.args.bound within

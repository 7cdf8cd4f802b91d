use Rattle.std.proofs.Common.{sym, subst, ◌∙◌}
use Rattle.std.specs.Prelude.{IfSome}
use Rattle.word_machine.specs.Answer.{IsAnswer}
use Rattle.word_machine.proofs.Answering.{answer_of}
use Rattle.word_machine.proofs.search.find_word.Goals as goal

pub returns-clause-answer : goal.returns-clause-answer
returns-clause-answer g c =
    let m = g.M.Machine.words c.args.machine.now in
    subst (λ o. IfSome o (IsAnswer m c.args.bounds.nodes)) (sym c.found.ensures ∙ c.in-Some.is)
    (answer_of m c.args.bounds.nodes c.in_ok-outcome.outcome c.in_ok-outcome.ensures.outcome)

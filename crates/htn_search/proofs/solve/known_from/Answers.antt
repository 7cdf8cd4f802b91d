use Rattle.std.proofs.Common.{subst}
use Rattle.htn_model.proofs.Grounded.{tasks_are_grounded}
use Rattle.word_machine.specs.Answer.{IsEnding}
use Rattle.htn_walk.specs.Listed.{listing_machine}
use Rattle.htn_walk.proofs.Told.{none_known}
use Rattle.htn_search.proofs.solve.known_from.Goals as goal

pub answer_from-requires-clause-found : goal.answer_from-requires-clause-found
answer_from-requires-clause-found c =
    (c.args.bound, subst (IsEnding (listing_machine c.args.task.now) c.args.bound) c.in-Answer.is c.requires.ending)

pub returns-in_ok-answer-in-Answer-clause-known : goal.returns-in_ok-answer-in-Answer-clause-known
returns-in_ok-answer-in-Answer-clause-known c =
    c.in_ok-answer-in-Answer.ensures c.args.bound (subst (IsEnding (listing_machine c.args.task.now) c.args.bound) c.in-Answer.is c.requires.ending)

pub returns-in-Stopped-clause-known : goal.returns-in-Stopped-clause-known
returns-in-Stopped-clause-known c =
    let t = c.args.task.now in
    none_known t (tasks_are_grounded t c.objects-typed.ensures.typed) c.in-Stopped.none_below c.checked_sub.result c.checked_sub.ensures
    (subst (IsEnding (listing_machine t) c.args.bound) c.in-Stopped.is c.requires.ending)

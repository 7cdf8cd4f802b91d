use Rattle.plan_room.proofs.Searched.{best_first, best_never}
use Rattle.plan_room.proofs.matching.best_matching.Goals as goal

pub returns-in-Some-clause-finish : goal.returns-in-Some-clause-finish
returns-in-Some-clause-finish g c =
    best_first (g.C.Choices.seating c.args.choices.now) c.advance.new.trial.best c.in-Over.ensures.tried.searched.found c.in-Over.ensures.step c.in-Some.end c.in-Some.is

pub returns-in-None-clause-finish : goal.returns-in-None-clause-finish
returns-in-None-clause-finish g c =
    best_never (g.C.Choices.seating c.args.choices.now) c.advance.new.trial.best c.in-Over.ensures.tried.searched.found c.in-Over.ensures.step c.in-None.is

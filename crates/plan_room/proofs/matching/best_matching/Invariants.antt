use Rattle.plan_room.specs.Trials.{IsTried, left_of}
use Rattle.plan_room.proofs.matching.best_matching.Given as goal

abbrev pub invariant-loop-question : goal.invariant-loop-question
invariant-loop-question g l = IsTried (g.C.Choices.seating l.choices) l.trial

abbrev pub decreases-loop-question : goal.decreases-loop-question
decreases-loop-question g l = left_of (g.C.Choices.seating l.choices) l.trial

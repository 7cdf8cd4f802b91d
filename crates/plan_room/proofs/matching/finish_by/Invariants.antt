use Rattle.plan_room.specs.Trials.{IsTried, left_of}
use Rattle.plan_room.proofs.matching.finish_by.Given as goal

abbrev pub invariant-steps : goal.invariant-steps
invariant-steps g l = IsTried (g.C.Choices.seating l.choices) l.trial

abbrev pub decreases-steps : goal.decreases-steps
decreases-steps g l = left_of (g.C.Choices.seating l.choices) l.trial

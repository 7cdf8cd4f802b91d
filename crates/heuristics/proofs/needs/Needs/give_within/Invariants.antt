use Rattle.std.proofs.Common.{All, take}
use Rattle.htn_ground.specs.Views.{child_view}
use Rattle.heuristics.specs.CheckedNeeds.{GivesWithin}
use Rattle.heuristics.proofs.needs.Needs.give_within.Given as goal

abbrev pub invariant-loop-child : goal.invariant-loop-child
invariant-loop-child l = All (λ x. GivesWithin l.self (child_view x) l.row) (take l.child-index l.children)

use Rattle.std.proofs.Common.{◌≡◌, ◌++◌, map, take}
use Rattle.plan_text.specs.Forest.{lists_of}
use Rattle.htn_review.proofs.details.push_names.Given as goal

abbrev pub invariant-loop-variable : goal.invariant-loop-variable
invariant-loop-variable l = lists_of l.names.items ≡ lists_of l.initial.names.items ++ map (λ v. v.text) (take l.variable-index l.variables)

use Rattle.std.proofs.Common.{◌≡◌, ◌++◌, List, map, take, ℕ}
use Rattle.htn_ground.specs.Counted.{counted, fitted}
use Rattle.htn_ground.specs.Methods.{live_instances, numbered_instances}
use Rattle.htn_ground.proofs.methods.push_live_instances.Given as goal

abbrev pub invariant-loop-rank : goal.invariant-loop-rank
invariant-loop-rank l =
    (xs : List (ℕ × List ℕ)) → l.rank-items ≡ map fitted xs
    → l.found.items ≡ l.initial.found.items ++ map counted (live_instances l.task (numbered_instances l.task l.number l.method (take l.rank-index xs)))

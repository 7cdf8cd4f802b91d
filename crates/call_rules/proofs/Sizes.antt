-- Sizes of nodes that a step lowers by one at most.
use Rattle.std.proofs.Common.{◌≡◌, List, [], ◌∷◌, length, sym, refl, ◌∙◌, arith}
use Rattle.std.specs.List.{sum_by}
use Rattle.std.proofs.lemmas.List.Sums.{sum_by-cons}
use Rattle.htn_model.specs.Problem.{Child}
use Rattle.htn_model.specs.Task.{Task}
use Rattle.htn_model.proofs.Configs.{open_step}
use Rattle.call_rules.specs.Listing.{listed_problem}
use Rattle.call_rules.specs.Bounds.{NodesAreSizes}
use Rattle.call_rules.proofs.Listing.{listed_steps}

-- as many ones as nodes
ones : (xs : List Child) → sum_by (λ x. 1) xs ≡ length xs
ones [] = refl
ones (x ∷ xs) =
    let rest = ones xs in
    let more = sum_by-cons (λ (y : Child). 1) x xs in
    omega arith

-- a step closes one node at most
pub nodes_are_sizes : (t : Task) → NodesAreSizes t
nodes_are_sizes t c d rank passed step =
    let closes = open_step (listed_problem t) c d rank (sym (listed_steps t c rank) ∙ step) in
    let before = ones c.open_nodes in
    let after = ones d.open_nodes in
    omega arith

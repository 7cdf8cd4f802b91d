-- No two numbers stand for the same network.
use Rattle.std.proofs.Common.{◌≡◌, ℕ, suc, ◌<◌, List, [], ◌∷◌, map, length, get_or, refl, ap, ap₂, arith, All, drop}
use Rattle.htn_model.specs.Problem.{Child, Network, precondition}
use Rattle.htn_model.specs.Choice.{child_of}
use Rattle.htn_model.specs.PlanFile.{IsWithoutRepeats}
use Rattle.network_table.specs.Numbered.{nothing}
use Rattle.network_table.specs.Networks.{NumbersDiffer, children, numbered_at}
use Rattle.network_table.proofs.Keys.{apart}
use Rattle.network_table.proofs.Expanding.{within_at}

-- numbers of the same nodes are the same
same_numbers : (children : List Child) → IsWithoutRepeats children → (xs ys : List ℕ) → All (λ id. id < length children) xs → All (λ id. id < length children) ys
    → map (child_of children) xs ≡ map (child_of children) ys → xs ≡ ys
same_numbers children distinct [] [] there here same = refl
same_numbers children distinct [] (y ∷ ys) there here same = let e = ap length same in absurd (omega (arith, e))
same_numbers children distinct (x ∷ xs) [] there here same = let e = ap length same in absurd (omega (arith, e))
same_numbers children distinct (x ∷ xs) (y ∷ ys) there here same =
    ap₂ (λ k l. k ∷ l) (apart (precondition []) children distinct x y (there 0 x (omega arith)) (here 0 y (omega arith)) (ap (λ l. get_or l 0 (precondition [])) same))
    (same_numbers children distinct xs ys (λ k d inside. there (suc k) d (omega (arith, inside))) (λ k d inside. here (suc k) d (omega (arith, inside))) (ap (λ l. drop 1 l) same))

-- no two numbers of a table stand for one network
pub numbers_differ : NumbersDiffer
numbers_differ t m n whole here there same =
    let a = numbered_at t m in
    let b = numbered_at t n in
    let nodes = same_numbers (children t) whole.nodes.distinct a.nodes b.nodes (within_at t m whole here) (within_at t n whole there) (ap (λ (x : Network). x.children) same) in
    let order = ap (λ (x : Network). x.order) same in
    apart nothing t.networks whole.distinct m n here there (ap₂ (λ ns o. record { nodes = ns; order = o }) nodes order)

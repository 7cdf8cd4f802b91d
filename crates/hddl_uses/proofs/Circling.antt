-- Ranks that rise along pairs, and ways back along them.
use Rattle.std.proofs.Common.{◌≡◌, ◌<◌, ◌⊎◌, ℕ, List, arith, inl, inr, get_or, subst, sym}
use Rattle.std.specs.List.{All, Contains}
use Rattle.std.proofs.lemmas.List.Elements.{All-contains}
use Rattle.htn_order.specs.Closure.{IsAcyclic, Precedes, Direct, Through}
use Rattle.hddl_uses.specs.Labels.{Circles}

-- the rank of the first position of a pair is below that of its second
abbrev pub Rises : List ℕ → ℕ × ℕ → Type 0
Rises ranks p = get_or ranks p.0 0 < get_or ranks p.1 0

-- where ranks rise along each pair, they rise along all that leads on
rise_along : (ranks : List ℕ) (pairs : List (ℕ × ℕ)) → All (Rises ranks) pairs → (a b : ℕ) → Precedes pairs a b → get_or ranks a 0 < get_or ranks b 0
rise_along ranks pairs rise a b (Direct _ _ at) = All-contains (Rises ranks) pairs (a, b) rise at
rise_along ranks pairs rise a c (Through _ b _ at on) =
    let first : get_or ranks a 0 < get_or ranks b 0 = All-contains (Rises ranks) pairs (a, b) rise at in
    let rest : get_or ranks b 0 < get_or ranks c 0 = rise_along ranks pairs rise b c on in
    omega (arith, first, rest)

-- so no position leads to itself
pub acyclic : (ranks : List ℕ) (pairs : List (ℕ × ℕ)) → All (Rises ranks) pairs → IsAcyclic pairs
acyclic ranks pairs rise a on = let above : get_or ranks a 0 < get_or ranks a 0 = rise_along ranks pairs rise a a on in absurd (omega (arith, above))

-- one step further back from where a way began, or from what leads there
pub step_back : (pairs : List (ℕ × ℕ)) (start at before : ℕ) → Contains pairs (before, at) → (at ≡ start) ⊎ Precedes pairs at start → Precedes pairs before start
step_back pairs start at before pair (inl is) = subst (Precedes pairs before) is (Direct before at pair)
step_back pairs start at before pair (inr on) = Through before at start pair on

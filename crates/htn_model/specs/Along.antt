-- After each number of a code the machine's open nodes are the front, in the order of the forest.
use Rattle.std.specs.Prelude.{◌≡◌, ℕ, List, [], ◌∷◌, Bool, Some, slice_get}
use Rattle.htn_model.specs.Problem.{is_before, Network, Problem}
use Rattle.htn_model.specs.Tree.{Place, Solution, IsSolution, forest_order}
use Rattle.htn_model.specs.Choice.{first_free_compound}
use Rattle.htn_model.specs.Code.{Placed, placed, front_roots, front_order, PeelsBy}
use Rattle.htn_model.specs.Machine.{Config, step_by, start}

-- the numbers peel one front with the list's places to another with the rest
abbrev pub PeelsTo : (Place → Place → Bool) → List ℕ → List Placed → List Place → List Placed → List Place → Type 0
PeelsTo precedes [] front list last rest = (front ≡ last) × (list ≡ rest)
PeelsTo precedes (number ∷ word) front list last rest =
    PeelsBy precedes number (λ f l. PeelsTo precedes word f l last rest) (first_free_compound (front_roots front) (front_order precedes front)) front list

-- the numbers lead one configuration to another
abbrev pub LeadsTo : Problem → List ℕ → Config → Config → Type 0
LeadsTo problem [] c last = c ≡ last
LeadsTo problem (number ∷ word) c last = (next : Config) × (step_by problem c number ≡ Some next) × LeadsTo problem word next last

-- the open nodes of a configuration are those of the front, and so is their order
pub record HasFront (problem : Problem) (s : Solution) (front : List Placed) (c : Config) : Type 0 where
  pub open_nodes : c.open_nodes ≡ front_roots front
  pub order : (a b : ℕ) → is_before c.order a b ≡ front_order (forest_order problem s) front a b

-- the word leads the machine to a configuration that has the front
pub record Follows (problem : Problem) (s : Solution) (word : List ℕ) (front : List Placed) : Type 0 where
  pub network : Network
  pub is_initial : slice_get problem.initials s.number ≡ Some network
  pub last : Config
  pub leads : LeadsTo problem word (start problem network) last
  pub has_front : HasFront problem s front last

-- where numbers peel a solution, they lead the machine along its front
abbrev pub MachineFollows : Problem → Type 0
MachineFollows problem =
    (s : Solution) (word : List ℕ) (front : List Placed) (rest : List Place) → IsSolution problem s
    → PeelsTo (forest_order problem s) word (placed [] 0 s.trees) s.linearisation front rest
    → Follows problem s word front

-- The nodes that have numbers.
use Rattle.std.specs.Prelude.{◌≡◌, ℕ, ◌<◌, ◌++◌, List, map, length, All}
use Rattle.htn_model.specs.Problem as model
use Rattle.htn_model.specs.Choice.{child_of}
use Rattle.htn_model.specs.PlanFile.{IsWithoutRepeats}
use Rattle.htn_ground.specs.Views.{children_of}
use Rattle.htn_ground.specs.declared.child.Child.{Child}
use Rattle.network_table.specs.declared.child_table.ChildTable.{ChildTable}

-- the numbered nodes
abbrev pub numbered_children : ChildTable → List model.Child
numbered_children t = children_of t.children.keys

-- no node has two numbers, and each has a bound
pub record AreWhole (t : ChildTable) : Type 0 where
  pub distinct : IsWithoutRepeats (numbered_children t)
  pub bounded : length t.bounds.items ≡ length (numbered_children t)

-- what had a number keeps it, and its bound
pub record AreKept (old new : ChildTable) : Type 0 where
  pub more : List Child
  pub children : new.children.keys ≡ old.children.keys ++ more
  pub more_bounds : List ℕ
  pub bounds : new.bounds.items ≡ old.bounds.items ++ more_bounds

-- a node has this number
abbrev pub IsNumber : ChildTable → ℕ → model.Child → Type 0
IsNumber t id child = (id < length (numbered_children t)) × (child_of (numbered_children t) id ≡ child)

-- the bounds are those of a measure on nodes
abbrev pub AreBounds : (model.Child → ℕ) → ChildTable → Type 0
AreBounds measure t = t.bounds.items ≡ map measure (numbered_children t)

-- the numbers of these nodes, in their order
abbrev pub AreNumbers : ChildTable → List ℕ → List model.Child → Type 0
AreNumbers t ids nodes =
    All (λ id. id < length (numbered_children t)) ids × (map (child_of (numbered_children t)) ids ≡ nodes)

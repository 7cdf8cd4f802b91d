-- The lists of a forest's places have no place twice.
use Rattle.std.proofs.Common.{◌≡◌, ℕ, suc, ◌+◌, [], ◌∷◌, ◌++◌, length, Option, sym, ap, ◌∙◌, append_assoc, arith}
use Rattle.std.proofs.lemmas.List.{length-append}
use Rattle.htn_model.specs.Tree.{Node, leaf, step, compound, Nodes, no_nodes, node, Place, primitives, primitives_from}
use Rattle.htn_model.specs.PlanFile.{IsWithoutRepeats}
use Rattle.htn_model.specs.Placement.{IsPrimitive}
use Rattle.htn_model.specs.Shadow.{compounds, compounds_from}
use Rattle.htn_model.proofs.Ascending.{all_in}
use Rattle.htn_model.proofs.Numbered.{At, FromAt, IsCompound, primitives_stand, primitives_from_stand, compounds_stand, compounds_from_stand}
use Rattle.htn_model.proofs.Rearranged.{distinct_join}

-- what comes after a place
pub after_place : (place p q : Place) → place ++ p ≡ place ++ q → p ≡ q
after_place [] p q e = e
after_place (i ∷ place) p q e = after_place place p q (let tails : place ++ p ≡ place ++ q = cc in tails)

-- places that part at different positions
first_apart : (place r s : Place) (k i : ℕ) → place ++ k ∷ r ≡ place ++ (suc k + i) ∷ s → ⊥
first_apart place r s k i e =
    let inner = after_place place (k ∷ r) ((suc k + i) ∷ s) e in
    let heads : k ≡ suc k + i = cc in
    omega arith

-- no place is one below it
place_apart : (place r : Place) (i : ℕ) → place ≡ place ++ i ∷ r → ⊥
place_apart place r i e = let long = ap length e ∙ length-append place (i ∷ r) in omega arith

-- what is below one child is not below a later one
child_apart : (P : Option Node → Type 0) (place : Place) (k : ℕ) (n : Node) (ns : Nodes) (q : Place)
    → At P (place ++ k ∷ []) n q → FromAt P place (suc k) ns q → ⊥
child_apart P place k n ns q (r, e, is) (i, s, f, at) = first_apart place r s k i (sym (append_assoc place (k ∷ []) r) ∙ sym e ∙ f)

mutual
  -- no place stands twice among a tree's leaves and steps
  primitives_distinct : (place : Place) (n : Node) → IsWithoutRepeats (primitives place n)
  primitives_distinct place (leaf g) = ((λ i. i), tt)
  primitives_distinct place (step literals) = ((λ i. i), tt)
  primitives_distinct place (compound t number nodes) = all_primitives_distinct place 0 nodes

  -- the same of trees from the k-th child on
  pub all_primitives_distinct : (place : Place) (k : ℕ) (ns : Nodes) → IsWithoutRepeats (primitives_from place k ns)
  all_primitives_distinct place k no_nodes = tt
  all_primitives_distinct place k (node n ns) =
      distinct_join (primitives (place ++ k ∷ []) n) (primitives_from place (suc k) ns) (primitives_distinct (place ++ k ∷ []) n) (all_primitives_distinct place (suc k) ns)
      (λ q i j. child_apart IsPrimitive place k n ns q
      (all_in (At IsPrimitive (place ++ k ∷ []) n) q _ (primitives_stand (place ++ k ∷ []) n) i)
      (all_in (FromAt IsPrimitive place (suc k) ns) q _ (primitives_from_stand place (suc k) ns) j))

mutual
  -- no place stands twice among a tree's compound nodes
  compounds_distinct : (place : Place) (n : Node) → IsWithoutRepeats (compounds place n)
  compounds_distinct place (leaf g) = tt
  compounds_distinct place (step literals) = tt
  compounds_distinct place (compound t number nodes) = (
    (λ i. let (k, r, e, is) = all_in (FromAt IsCompound place 0 nodes) place _ (compounds_from_stand place 0 nodes) i in place_apart place r (0 + k) e),
    all_compounds_distinct place 0 nodes,
  )

  -- the same of trees from the k-th child on
  pub all_compounds_distinct : (place : Place) (k : ℕ) (ns : Nodes) → IsWithoutRepeats (compounds_from place k ns)
  all_compounds_distinct place k no_nodes = tt
  all_compounds_distinct place k (node n ns) =
      distinct_join (compounds (place ++ k ∷ []) n) (compounds_from place (suc k) ns) (compounds_distinct (place ++ k ∷ []) n) (all_compounds_distinct place (suc k) ns)
      (λ q i j. child_apart IsCompound place k n ns q
      (all_in (At IsCompound (place ++ k ∷ []) n) q _ (compounds_stand (place ++ k ∷ []) n) i)
      (all_in (FromAt IsCompound place (suc k) ns) q _ (compounds_from_stand place (suc k) ns) j))

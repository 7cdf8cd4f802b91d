-- In places sorted by their slots a step has as many actions before it as its slot says.
use Rattle.std.proofs.Common.{◌≡◌, ℕ, ◌+◌, ◌≤◌, ◌<◌, Bool, true, false, cond, ◌||◌, List, [], ◌∷◌, length, Some, slice_get, sym, ap, ◌∙◌, inl, inr, subst, arith}
use Rattle.std.proofs.lemmas.Bool.{cases_lt, lt-ltb}
use Rattle.htn_model.specs.State.{State}
use Rattle.htn_model.specs.Literal.{Literal}
use Rattle.htn_model.specs.Problem.{GroundTask, Problem, Order}
use Rattle.htn_model.specs.Tree.{leaf, step, Nodes, Place, node_at, before, Respects}
use Rattle.htn_model.specs.PlanFile.{ActionLine, PlanFile, Naming, IsIn, IsForest}
use Rattle.htn_model.specs.Placement.{Slots, IsPrimitive, duration}
use Rattle.htn_model.specs.Decoupling.{ForestKeeps}
use Rattle.htn_model.specs.Numbered.{is_same_place}
use Rattle.htn_model.specs.Shadow.{AreActionLines}
use Rattle.htn_model.specs.Shown.{LinesRun}
use Rattle.htn_model.proofs.Laid.{AllMarks}
use Rattle.htn_model.proofs.Marked.{one_index, actions_distinct, leaf_line}
use Rattle.htn_model.proofs.Executed.{line_at, key, precedes, precedes_irreflexive}
use Rattle.htn_model.proofs.Timed.{slot_in, line_of_leaf, slot_ends, slots_keep, as_many}
use Rattle.line_details.specs.Details.{actions_before}

-- the slot of a place in a list is how many actions come before it
pub slot_before : (trees : Nodes) (i : ℕ) (qs : List Place) (p : Place) → slot_in trees i qs p ≡ i + actions_before trees qs p
slot_before trees i [] p = omega arith
slot_before trees i (q ∷ qs) p = by (is_same_place p q) (slot_before trees (duration (node_at trees q) + i) qs p)
  where
    by : (b : Bool) → slot_in trees (duration (node_at trees q) + i) qs p ≡ (duration (node_at trees q) + i) + actions_before trees qs p
        → cond b i (slot_in trees (duration (node_at trees q) + i) qs p) ≡ i + cond b 0 (duration (node_at trees q) + actions_before trees qs p)
    by true more = omega arith
    by false more = omega arith

module _ (naming : Naming) (problem : Problem) (file : PlanFile) (is_forest : IsForest file) (states : ℕ → State) (runs : LinesRun naming problem file states)
    (order : Order) (trees : Nodes) (slots : Slots) (ids : Place → ℕ) (marks : AllMarks naming file slots ids 0 trees)
    (keeps : ForestKeeps problem states slots order trees (length file.actions))
    (leaf_of : (i : ℕ) (line : ActionLine) → slice_get file.actions i ≡ Some line → (p : Place) × (g : GroundTask) × (node_at trees p ≡ Some (leaf g)) × (slots p ≡ i))
    (list : List Place) (there : (p : Place) → IsPrimitive (node_at trees p) → IsIn p list)
    (sorted : Respects (precedes problem order trees slots) list)
    (shown : AreActionLines naming trees ids list file.actions) where
  -- how many actions come before a place
  abbrev slot : Place → ℕ
  slot = slot_in trees 0 list

  -- a place that precedes another has ended by that one's turn
  in_turn : (p q : Place) → IsPrimitive (node_at trees p) → IsPrimitive (node_at trees q)
      → key problem order trees slots p < key problem order trees slots q → duration (node_at trees p) + slot p ≤ slot q
  in_turn p q hp hq less =
      slots_keep trees (precedes problem order trees slots) (precedes_irreflexive problem order trees slots) 0 list p q sorted (there p hp) (there q hq)
      (ap (λ b. b || before problem order trees p q) (lt-ltb (key problem order trees slots p) (key problem order trees slots q) less))

  -- a leaf has as many actions before it as action lines are before its own
  leaf_in_turn : (p : Place) (g : GroundTask) → node_at trees p ≡ Some (leaf g) → slot p ≡ slots p
  leaf_in_turn p g e =
      let from : (k : ℕ) → slice_get file.actions k ≡ slice_get file.actions (0 + k) = λ k. ap (slice_get file.actions) (let w : k ≡ 0 + k = omega arith in w) in
      let l = line_of_leaf naming problem file states runs trees ids list file.actions shown 0 from p g (there p (subst IsPrimitive (sym e) tt)) e in
      let m = leaf_line naming file slots ids trees marks p g e in
      one_index file.actions (slot p) (slots p) l.line m.line (actions_distinct file is_forest) l.stands m.stands (l.is ∙ sym m.is)

  -- the leaf of a line
  record Leaf (i : ℕ) : Type 0 where
    place : Place
    primitive : IsPrimitive (node_at trees place)
    lasts : duration (node_at trees place) ≡ 1
    is : slots place ≡ i
    comes : slot place ≡ i

  -- each line has one
  leaf_at : (i : ℕ) → i < length file.actions → Leaf i
  leaf_at i low =
      let (line, stands) = line_at file.actions i low in
      let (p, g, e, is) = leaf_of i line stands in
      record { place = p; primitive = subst IsPrimitive (sym e) tt; lasts = ap duration e; is = is; comes = leaf_in_turn p g e ∙ is }

  -- so a step has as many actions before it as its gap says
  pub step_in_turn : (p : Place) (literals : List Literal) → node_at trees p ≡ Some (step literals) → actions_before trees list p ≡ slots p
  step_in_turn p literals e =
      let primitive : IsPrimitive (node_at trees p) = subst IsPrimitive (sym e) tt in
      let none : duration (node_at trees p) ≡ 0 = ap duration e in
      let counted = slot_before trees 0 list p in
      let ends = slot_ends trees 0 list p (there p primitive) in
      let many = as_many trees naming ids list file.actions shown in
      let within = keeps.ends p primitive in
      elim (cases_lt (slots p) (slot p)) [
        | inl less ↦ (
            let l = leaf_at (slots p) (omega arith) in
            let one = l.lasts in let is = l.is in let comes = l.comes in
            let turn = in_turn p l.place primitive l.primitive (omega arith) in
            omega arith)
        | inr not_less ↦ elim (cases_lt (slot p) (slots p)) [
          | inl more ↦ (
              let l = leaf_at (slot p) (omega arith) in
              let one = l.lasts in let is = l.is in let comes = l.comes in
              let turn = in_turn l.place p l.primitive primitive (omega arith) in
              omega arith)
          | inr same ↦ omega arith
        ]
      ]

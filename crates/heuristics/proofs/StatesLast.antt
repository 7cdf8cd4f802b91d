-- What no effect names stays as it was at first, and so a dead literal never holds.
use Rattle.std.proofs.Common.{◌≡◌, Bool, true, false, not, cond, ◌&&◌, ◌||◌, List, [], ◌∷◌, Option, None, Some, refl, sym, ap, ap₂, ◌∙◌, inl, inr}
use Rattle.std.specs.Prelude.{is_some}
use Rattle.std.specs.FinMap.{get-retain_keys}
use Rattle.std.specs.List.{list_any}
use Rattle.std.proofs.lemmas.Bool.{and_parts, cases_Bool}
use Rattle.htn_model.specs.Atom.{Atom}
use Rattle.htn_model.specs.AtomOrder.{atom_cmp-same, same_state, state_eq-decides}
use Rattle.htn_model.specs.State.{State, contains}
use Rattle.htn_model.specs.Literal.{Literal, atom, equality, literal_holds, holds}
use Rattle.htn_model.specs.Problem.{IsGrounded, Problem}
use Rattle.htn_model.specs.Exhaustion.{is_dead_literal}
use Rattle.htn_model.proofs.Exhaustion.{Agrees}
use Rattle.heuristics.specs.Measure.{lasting, is_as_at_first}

-- what is left where a test fails is nothing
or_none : (b : Bool) (x : Option (Unit {0})) → is_some (cond b x None) ≡ (is_some x && b)
or_none true None = refl
or_none true (Some u) = refl
or_none false None = refl
or_none false (Some u) = refl

-- what is so and true is so
and_true : (a : Bool) → (a && true) ≡ a
and_true true = refl
and_true false = refl

-- what is so and false is false
and_false : (a : Bool) → (a && false) ≡ false
and_false true = refl
and_false false = refl

module _ (problem : Problem) (grounded : IsGrounded problem) where
  -- which atoms last
  contains_lasting : (s : State) (q : Atom) → contains (lasting problem s) q ≡ (contains s q && not (problem.is_changed q.predicate))
  contains_lasting s q =
      ap is_some (get-retain_keys s (λ a. not (problem.is_changed a.predicate)) q (λ x tie. ap (λ (a : Atom). not (problem.is_changed a.predicate)) (sym (atom_cmp-same q x tie))))
      ∙ or_none (not (problem.is_changed q.predicate)) _

  -- a state that agrees with the initial one has the same lasting atoms
  pub agreeing : (s : State) → Agrees problem grounded s → is_as_at_first problem s ≡ true
  agreeing s agrees =
      (state_eq-decides (lasting problem s) (lasting problem problem.initial_state)).1
      (same_state (lasting problem s) (lasting problem problem.initial_state)
      (λ q. contains_lasting s q ∙ by q (problem.is_changed q.predicate) refl ∙ sym (contains_lasting problem.initial_state q)))
    where
      by : (q : Atom) (b : Bool) → problem.is_changed q.predicate ≡ b → (contains s q && not b) ≡ (contains problem.initial_state q && not b)
      by q true e = and_false (contains s q) ∙ sym (and_false (contains problem.initial_state q))
      by q false e = ap (λ x. x && true) (agrees q e)

  -- and the other way round
  pub agreed : (s : State) → is_as_at_first problem s ≡ true → Agrees problem grounded s
  agreed s passes = λ q still.
      let same = (state_eq-decides (lasting problem s) (lasting problem problem.initial_state)).0 passes in
      let kept : (t : State) → contains (lasting problem t) q ≡ contains t q = λ t. contains_lasting t q ∙ ap (λ b. contains t q && not b) still ∙ and_true (contains t q) in
      sym (kept s) ∙ ap (λ t. contains t q) same ∙ kept problem.initial_state

  -- where it held at first no literal is dead
  not_dead : (b x : Bool) → x ≡ true → (b && not x) ≡ false
  not_dead b x e = ap (λ y. b && not y) e ∙ and_false b

  -- neither where its predicate changes
  not_still : (b x : Bool) → b ≡ true → (not b && x) ≡ false
  not_still b x e = ap (λ y. not y && x) e

  -- what holds in a state that agrees is not dead
  alive_literal : (s : State) (l : Literal) → Agrees problem grounded s → literal_holds s l ≡ true → is_dead_literal problem l ≡ false
  alive_literal s (atom true a) agrees holds = elim (cases_Bool (problem.is_changed a.predicate)) [
    | inl changes ↦ not_still (problem.is_changed a.predicate) _ changes
    | inr still ↦ not_dead (not (problem.is_changed a.predicate)) (contains problem.initial_state a) (sym (agrees a still) ∙ holds)
  ]
  alive_literal s (atom false a) agrees holds = elim (cases_Bool (problem.is_changed a.predicate)) [
    | inl changes ↦ not_still (problem.is_changed a.predicate) _ changes
    | inr still ↦ not_dead (not (problem.is_changed a.predicate)) (not (contains problem.initial_state a)) (ap not (sym (agrees a still)) ∙ holds)
  ]
  alive_literal s (equality true x y) agrees holds = ap not holds
  alive_literal s (equality false x y) agrees holds = ap not holds

  -- so no literal that is dead is among those that hold
  pub alive_literals : (s : State) (ls : List Literal) → Agrees problem grounded s → holds s ls ≡ true → list_any (is_dead_literal problem) ls ≡ false
  alive_literals s [] agrees all = refl
  alive_literals s (l ∷ ls) agrees all =
      let parts = and_parts (literal_holds s l) (holds s ls) all in
      ap₂ (λ a b. a || b) (alive_literal s l agrees parts.0) (alive_literals s ls agrees parts.1)

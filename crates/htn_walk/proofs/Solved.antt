-- The solution that a walk along a finishing word has recorded.
use Rattle.std.proofs.Common.{◌≡◌, ℕ, List, [], ◌∷◌, length, Some, slice_get, sym, ap, ap₂, ◌∙◌, subst}
use Rattle.std.proofs.lemmas.List.{append-nil}
use Rattle.std.proofs.lemmas.Option.{same_Some}
use Rattle.htn_model.specs.Problem.{Network, Problem, IsGrounded}
use Rattle.htn_model.specs.Tree.{Place, Solution, IsSolution, nodes_of}
use Rattle.htn_model.specs.Code.{IsCode}
use Rattle.htn_model.specs.Machine.{Config, start, Finishes}
use Rattle.htn_model.proofs.Regrown.{rebuild}
use Rattle.htn_model.proofs.Rebuild.{route}
use Rattle.htn_model.proofs.OneToOne.{one_to_one, rebuilds, rebuilt_solution}
use Rattle.htn_ground.specs.Trees.{Numbering}
use Rattle.htn_walk.specs.declared.trail.Move.{Move}
use Rattle.htn_walk.specs.Trail.{before_moves}
use Rattle.htn_walk.specs.Places.{child_places}
use Rattle.htn_walk.specs.Rebuilt.{IsSolutionOf}
use Rattle.htn_walk.proofs.Way.{IsUnderWay, same_places}

-- all numbers are walked, from an initial network on
pub solved : (numbering : Numbering) (problem : Problem) → IsGrounded problem → (number : ℕ) (numbers : List ℕ) (h : Finishes problem (number ∷ numbers)) (network : Network)
    → slice_get problem.initials number ≡ Some network
    → (first : Config) (roots : List Place) → first ≡ start problem network → roots ≡ child_places [] 0 (length network.children)
    → (c : Config) (trail : List Move) (places visits : List Place) → IsUnderWay numbering problem numbers first roots [] c trail places visits
    → (s : Solution) → s.number ≡ number → s.trees ≡ nodes_of (before_moves numbering trail []) → s.linearisation ≡ visits
    → IsSolutionOf problem (number ∷ numbers) s
solved numbering problem grounded number numbers h network is first roots f r c trail places visits way s n t l =
    let same : network ≡ h.0 = same_Some network h.0 (sym is ∙ h.1) in
    let trees : s.trees ≡ nodes_of (rebuild problem numbers (start problem h.0)) =
    t ∙ ap nodes_of way.trees ∙ ap (λ x. nodes_of (rebuild problem numbers x)) f ∙ ap (λ x. nodes_of (rebuild problem numbers (start problem x))) same in
    let list : s.linearisation ≡ (rebuilt_solution problem h.0 number numbers).linearisation =
    l ∙ sym (append-nil visits) ∙ way.carried_out ∙ ap₂ (route problem numbers) f r ∙ ap (route problem numbers (start problem network)) (same_places [] 0 (length network.children))
    ∙ ap (λ x. (rebuilt_solution problem x number numbers).linearisation) same in
    let whole : s ≡ rebuilt_solution problem h.0 number numbers = λ i. record { number = n i; trees = trees i; linearisation = list i } in
    let own = rebuilds problem grounded number numbers h in
    record {
      solves = subst (λ r. IsSolution problem r) (sym whole) own.0;
      code = subst (λ r. IsCode problem r (number ∷ numbers)) (sym whole) own.1;
      only = λ other solves code.
          (one_to_one problem grounded).one_solution other (rebuilt_solution problem h.0 number numbers) (number ∷ numbers) solves own.0 code own.1 ∙ sym whole;
    }

use Rattle.std.proofs.Common.{◌≡◌, ◌∷◌, Some, slice_get, sym, ◌∙◌, subst}
use Rattle.htn_model.specs.Grounding.{problem_of}
use Rattle.htn_model.specs.Instances.{initials}
use Rattle.htn_model.specs.Machine.{Finishes}
use Rattle.htn_model.specs.Tree.{nodes_of}
use Rattle.htn_ground.specs.Trees.{number_of, solution_of}
use Rattle.htn_walk.specs.Rebuilt.{IsSolutionOf}
use Rattle.htn_walk.proofs.Closing.{initial_number_is}
use Rattle.htn_net.proofs.Finishing.{finishes_onward, is_initial, no_initial, stands_there}
use Rattle.htn_net.proofs.rebuilding.rebuild.Goals as goal

pub unreachable-requires-in_default-2 : goal.unreachable-requires-in_default-2
unreachable-requires-in_default-2 c =
    let t = c.args.task.now in
    no_initial t c.in-Some.number.now c.in-Some.numbers.now (sym c.in_ok-initial.ensures ∙ c.in_default-2.is) (subst (Finishes (problem_of t)) c.in-Some.ensures.cases.0 c.requires)

pub walk_along-requires-clause-initial : goal.walk_along-requires-clause-initial
walk_along-requires-clause-initial c =
    let t = c.args.task.now in
    is_initial t c.in-Some.number.now c.in-Some-2.initial (sym c.in_ok-initial.ensures ∙ c.in-Some-2.is)

pub walk_along-requires-clause-finishes : goal.walk_along-requires-clause-finishes
walk_along-requires-clause-finishes c =
    let t = c.args.task.now in
    finishes_onward t c.in-Some.number.now c.in-Some-2.initial (sym c.in_ok-initial.ensures ∙ c.in-Some-2.is) c.in-Some.numbers.now
    (subst (Finishes (problem_of t)) c.in-Some.ensures.cases.0 c.requires)

pub returns : goal.returns
returns c =
    let t = c.args.task.now in
    let problem = problem_of t in
    let number = c.in-Some.number.now in
    let numbers = c.in-Some.numbers.now in
    let initial = c.in-Some-2.initial in
    let at : slice_get (initials t) number ≡ Some initial = sym c.in_ok-initial.ensures ∙ c.in-Some-2.is in
    let same_number = sym (initial_number_is t c.objects-typed.ensures.typed initial number at) in
    let same_trees = sym (c.in_ok-trees.ensures (number_of t)) in
    let own = solution_of t (record { initial = initial; trees = c.in_ok-trees.trees; linearisation = c.in_ok-walk.walk.visits }) in
    subst (λ w. IsSolutionOf problem w own) (sym c.in-Some.ensures.cases.0)
    (subst (λ s. IsSolutionOf problem (number ∷ numbers) s)
    (λ i. record {
      number = same_number i;
      trees = nodes_of (same_trees i);
      linearisation = own.linearisation;
    })
    (c.in_ok-walk.ensures.solved number (stands_there t number initial at)))

-- The small problems, computed.
use Rattle.std.proofs.Common.{◌≡◌, ℕ, true, List, [], ◌∷◌, slice_get, Some, option_map, refl, ap, ◌∙◌}
use Rattle.htn_model.specs.Atom.{Atom}
use Rattle.htn_model.specs.State.{set_of}
use Rattle.htn_model.specs.Literal.{atom, equality}
use Rattle.htn_model.specs.Problem.{precondition, Network}
use Rattle.htn_model.specs.Tree.{roots, AreTrees, primitives_from, IsRearrangement, Respects, Solution, forest_order, IsSolution}
use Rattle.htn_model.specs.Code.{IsCode}
use Rattle.htn_model.specs.Sketch.{Sketch, sketched}
use Rattle.htn_model.specs.Examples.{renewing, renewed, AddsComeLast, needing, step_last, StepsAreTestedInPlace, nothing, two_methods, by_method, two_actions, first_then, LeastCodeAnswers, chain, chained, makes, needs, OrderGoesThroughEmptyTasks, three_before, ChildrenInheritOrder, touching, touched, having, hidden, had, fact, one_alone, NumbersAreChosen}
use Rattle.htn_model.proofs.Sketches.{dead_shown, shown_holds, holds_shown, shown_run, run_shown}
use Rattle.htn_model.proofs.Searches.{is_answer, no_answer, unsolvable, not_met}
use Rattle.htn_model.proofs.Grounds.{grounded_from}

-- a solution of a sketched problem, where its linearisation computes to these atoms
pub solves : (k : Sketch) (s : Solution) (network : Network) (atoms : List Atom) → slice_get k.initials s.number ≡ Some network → roots s.trees ≡ network.children
    → AreTrees (sketched k) s.trees → IsRearrangement s.linearisation (primitives_from [] 0 s.trees) → Respects (forest_order (sketched k) s) s.linearisation
    → shown_run k s.trees k.initial_atoms s.linearisation ≡ Some atoms → shown_holds atoms k.goal ≡ true → IsSolution (sketched k) s
solves k s network atoms initial are_roots are_trees rearranged respects runs goal = record {
  network = network;
  is_initial = initial;
  are_roots = are_roots;
  are_trees = are_trees;
  is_rearrangement = rearranged;
  respects = respects;
  reaches_goal = (set_of atoms, run_shown k s.trees k.initial_atoms s.linearisation ∙ ap (option_map set_of) runs, holds_shown atoms k.goal ∙ goal);
}

-- the one action is a solution
renewed_solves : IsSolution (sketched renewing) renewed
renewed_solves = solves renewing renewed _ _ refl refl ((_, refl), tt) ([], [], refl, refl) (tt, tt) refl refl

-- so what it deletes and adds is true
pub adds_come_last : AddsComeLast
adds_come_last =
    let grounded = grounded_from renewing refl in
    record {
      answer = is_answer renewing 1 0 (0 ∷ []) renewed grounded refl refl renewed_solves (refl, (0, _, refl, refl, (refl, refl)));
      too_few = no_answer renewing 0 grounded refl;
    }

-- the step after the action is a solution
step_last_solves : IsSolution (sketched needing) step_last
step_last_solves =
    solves needing step_last _ _ refl refl ((_, refl, refl, (tt, tt)), ((_, refl), tt)) ((0 ∷ 0 ∷ []) ∷ [], [], refl, ([], [], refl, refl)) ((refl, tt), (tt, tt)) refl refl

-- so a precondition is tested at its place
pub steps_are_tested_in_place : StepsAreTestedInPlace
steps_are_tested_in_place =
    let grounded = grounded_from needing refl in
    let code : IsCode (sketched needing) step_last (0 ∷ 0 ∷ 1 ∷ 0 ∷ []) = (refl, ((_, _, refl), (1, _, refl, refl, (0, _, refl, refl, (refl, refl))))) in
    record {
      answer = is_answer needing 3 0 (0 ∷ 1 ∷ 0 ∷ []) step_last grounded refl refl step_last_solves code;
      code = code;
      too_few = no_answer needing 2 grounded refl;
    }

-- each method gives a solution
by_method_solves : (number : ℕ) → slice_get (nothing ∷ nothing ∷ []) number ≡ Some nothing → IsSolution (sketched two_methods) (by_method number)
by_method_solves number h = solves two_methods (by_method number) _ _ refl refl ((nothing, h, refl, tt), tt) refl tt refl refl

-- that of the least code is the answer
pub least_code_answers : LeastCodeAnswers
least_code_answers = record {
  first_method = is_answer two_methods 1 0 (0 ∷ []) (by_method 0) (grounded_from two_methods refl) refl refl (by_method_solves 0 refl) (refl, ((_, _, refl), (refl, refl)));
  second_method = by_method_solves 1 refl;
  declared_order =
      is_answer two_actions 2 0 (0 ∷ 0 ∷ []) (first_then 0 1) (grounded_from two_actions refl) refl refl
      (solves two_actions (first_then 0 1) _ _ refl refl ((_, refl), ((_, refl), tt)) ([], (1 ∷ []) ∷ [], refl, ([], [], refl, refl)) ((refl, tt), (tt, tt)) refl refl)
      (refl, (0, _, refl, refl, (0, _, refl, refl, (refl, refl))));
  other_order =
      solves two_actions (first_then 1 0) _ _ refl refl ((_, refl), ((_, refl), tt)) ((0 ∷ []) ∷ [], [], refl, ([], [], refl, refl)) ((refl, tt), (tt, tt)) refl refl;
  other_code = (refl, (1, _, refl, refl, (0, _, refl, refl, (refl, refl))));
}

-- the two actions around the task are a solution
chained_solves : IsSolution (sketched (chain (makes 0) (needs 0))) chained
chained_solves =
    solves (chain (makes 0) (needs 0)) chained _ _ refl refl ((_, refl), ((_, refl, refl, tt), ((_, refl), tt))) ([], (2 ∷ []) ∷ [], refl, ([], [], refl, refl)) ((refl, tt), (tt, tt)) refl refl

-- so the order goes through a task without nodes
pub order_goes_through_empty_tasks : OrderGoesThroughEmptyTasks
order_goes_through_empty_tasks = record {
  answer =
      is_answer (chain (makes 0) (needs 0)) 4 0 (0 ∷ 0 ∷ 0 ∷ []) chained (grounded_from (chain (makes 0) (needs 0)) refl) refl refl chained_solves
      (refl, (0, _, refl, refl, ((_, _, refl), (0, _, refl, refl, (refl, refl)))));
  other_way = unsolvable (chain (needs 0) (makes 0)) 4 (grounded_from (chain (needs 0) (makes 0)) refl) refl;
  within = λ bound low. not_met (chain (needs 0) (makes 0)) 4 3 bound refl low;
}

-- so children inherit the order of their task
pub children_inherit_order : ChildrenInheritOrder
children_inherit_order = unsolvable three_before 6 (grounded_from three_before refl) refl

-- the action on the first object is a solution
touched_solves : IsSolution (sketched touching) (touched 0 1)
touched_solves = solves touching (touched 0 1) _ _ refl refl ((_, refl), tt) ([], [], refl, refl) (tt, tt) refl refl

-- the second instance gives a solution
had_solves : IsSolution (sketched hidden) had
had_solves = solves hidden had _ _ refl refl ((_, refl, refl, (tt, tt)), tt) ([], [], refl, refl) (tt, tt) refl refl

-- so a code has the numbers that were chosen
pub numbers_are_chosen : NumbersAreChosen
numbers_are_chosen =
    let code : IsCode (sketched hidden) had (0 ∷ 1 ∷ 0 ∷ []) = (refl, ((_, _, refl), (0, _, refl, refl, (refl, refl)))) in
    record {
      first_network = is_answer touching 1 0 (0 ∷ []) (touched 0 1) (grounded_from touching refl) refl refl touched_solves (refl, (0, _, refl, refl, (refl, refl)));
      second_network = solves touching (touched 1 2) _ _ refl refl ((_, refl), tt) ([], [], refl, refl) (tt, tt) refl refl;
      second_instance = is_answer hidden 2 0 (1 ∷ 0 ∷ []) had (grounded_from hidden refl) refl refl had_solves code;
      instance_code = code;
      first_dead = dead_shown hidden (having 0);
      second_alive = dead_shown hidden (having 1);
      equality_dead = refl;
      inequality_dead = refl;
      changed_alive = dead_shown renewing (record { children = precondition (atom true (fact 0) ∷ equality true 1 1 ∷ []) ∷ []; order = one_alone });
    }

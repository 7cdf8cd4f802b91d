-- One number peels a solution's front as it steps the machine.
use Rattle.std.proofs.Common.{◌≡◌, ℕ, ◌<◌, Bool, true, List, [], ◌∷◌, length, Option, Some, None, sym, refl, ap, ◌∙◌, subst, false}
use Rattle.std.proofs.lemmas.Bool.{both_ways}
use Rattle.htn_model.specs.Problem.{Child, task, is_compound, Order, Problem, IsGrounded, perform, precondition, action}
use Rattle.htn_model.specs.Tree.{Nodes, root, Place, node_at, before, perform_at, run, ReachesGoal}
use Rattle.htn_model.specs.Choice.{splice, is_free, nth_free, first_free_compound}
use Rattle.htn_model.specs.Code.{Placed, front_at, children_at, front_roots, front_order, HasNumber, Peeling, PeelsBy}
use Rattle.htn_model.specs.Machine.{Config, no_network, Choice, choose, result_of}
use Rattle.htn_model.proofs.Passing.{passes}
use Rattle.htn_model.proofs.Fronts.{IsFront, Matches, Expands, front_next, matches_next}
use Rattle.htn_model.proofs.Steps.{choose_decomposes, choose_executes, same_first, same_nth, same_child, is_primitive, first_compound, free_primitive}
use Rattle.htn_model.proofs.Words.{method_of, expands_primitive, no_children_at, performed}

-- a step or an action is a place of the linearisation
abbrev pub visited : Child → Place → List Place → List Place
visited (precondition literals) place rest = place ∷ rest
visited (action g) place rest = place ∷ rest
visited (task t) place rest = rest

-- an action or a step puts its place in front
visited_primitive : (child : Child) (place : Place) (rest : List Place) → is_compound child ≡ false → visited child place rest ≡ place ∷ rest
visited_primitive (precondition literals) place rest h = refl
visited_primitive (action g) place rest h = refl
visited_primitive (task t) place rest h = absurd cc

module _ (problem : Problem) (grounded : IsGrounded problem) (order : Order) (trees : Nodes) where
  -- the inherited order of places
  abbrev precedes : Place → Place → Bool
  precedes = before problem order trees

  -- the order of a front
  abbrev fo : List Placed → ℕ → ℕ → Bool
  fo = front_order precedes

  -- a front of the forest, the configuration that has it, and a list that runs from its state to the goal
  pub record Followed (front : List Placed) (list : List Place) (c : Config) : Type 0 where
    pub is_front : IsFront problem order trees front
    pub matches : Matches problem order trees front c
    pub goal : ReachesGoal problem (run problem trees c.state list)

  -- what one number does to both
  pub record Onward (front : List Placed) (list : List Place) (c : Config) (number : ℕ) (next : Peeling) : Type 0 where
    pub choice : Choice
    pub chooses : choose problem c number ≡ Some choice
    pub within : choice.position < length front
    pub expands : Expands problem (front_at front choice.position) choice.network
    pub kind : (is_compound (root (front_at front choice.position).node) ≡ true → HasNumber (front_at front choice.position).node number)
    pub rest : List Place
    pub visits : list ≡ visited (root (front_at front choice.position).node) (front_at front choice.position).place rest
    pub followed : Followed (splice choice.position (children_at (front_at front choice.position)) front) rest (result_of c choice)
    pub peels : next (splice choice.position (children_at (front_at front choice.position)) front) rest

  -- the number of an instance peels the front as it steps the machine
  onward_compound : (front : List Placed) (list : List Place) (c : Config) (i number : ℕ) (next : Peeling) → Followed front list c
      → first_free_compound (front_roots front) (fo front) ≡ Some i → HasNumber (front_at front i).node number
      → next (splice i (children_at (front_at front i)) front) list → Onward front list c number next
  onward_compound front list c i number next f first has peels =
      let fc = first_compound problem order trees front i first in
      let x = front_at front i in
      let method = method_of problem x has.0 number has.1 has.2 (f.is_front.are_trees i fc.within) in
      let choice : Choice = record { position = i; network = method.network; state = c.state } in
      record {
        choice = choice;
        chooses = choose_decomposes problem c number choice (record {
          first = same_first problem order trees front c f.matches ∙ first;
          name = has.0;
          is_task = same_child problem order trees front c f.matches i fc.within ∙ ap root has.2;
          method = method.is;
          state = refl;
        });
        within = fc.within;
        expands = method.expands;
        kind = λ is. has;
        rest = list;
        visits = ap (λ n. visited (root n) x.place list) (sym has.2);
        followed = record {
          is_front = front_next problem grounded order trees front i fc.within f.is_front;
          matches = matches_next problem grounded order trees front i fc.within f.is_front c f.matches method.network method.expands c.state;
          goal = f.goal;
        };
        peels = peels;
      }

  -- the number of a free node peels the front as it steps the machine
  onward_primitive : (front : List Placed) (list rest : List Place) (c : Config) (i number : ℕ) (next : Peeling) → Followed front list c
      → first_free_compound (front_roots front) (fo front) ≡ None → nth_free (length front) (fo front) number ≡ Some i → list ≡ (front_at front i).place ∷ rest
      → next (splice i [] front) rest → Onward front list c number next
  onward_primitive front list rest c i number next f none nth is peels =
      let found = passes (is_free (length front) (fo front)) (length front) number i nth in
      let x = front_at front i in
      let not_compound = free_primitive problem order trees front i none found.0 found.1 in
      let primitive = is_primitive problem x.node not_compound in
      let goal = subst (λ l. ReachesGoal problem (run problem trees c.state l)) is f.goal in
      let runs = performed problem (λ s. run problem trees s rest) (perform_at problem c.state (node_at trees x.place)) goal in
      let performs : perform problem c.state (root x.node) ≡ Some runs.0 = sym (ap (perform_at problem c.state) (f.is_front.stands i found.0)) ∙ runs.1 in
      let choice : Choice = record { position = i; network = no_network; state = runs.0 } in
      record {
        choice = choice;
        chooses = choose_executes problem c number choice (record {
          none = same_first problem order trees front c f.matches ∙ none;
          nth = same_nth problem order trees front c f.matches number ∙ nth;
          performs = ap (perform problem c.state) (same_child problem order trees front c f.matches i found.0) ∙ performs;
          network = refl;
        });
        within = found.0;
        expands = expands_primitive problem x primitive;
        kind = λ is. absurd (both_ways (is_compound (root x.node)) not_compound is);
        rest = rest;
        visits = is ∙ sym (visited_primitive (root x.node) x.place rest not_compound);
        followed = record {
          is_front = front_next problem grounded order trees front i found.0 f.is_front;
          matches = matches_next problem grounded order trees front i found.0 f.is_front c f.matches no_network (expands_primitive problem x primitive) runs.0;
          goal = runs.2;
        };
        peels = subst (λ ys. next (splice i ys front) rest) (sym (no_children_at problem x primitive)) peels;
      }

  -- by whether a compound task is free
  by : (front : List Placed) (list : List Place) (c : Config) (number : ℕ) (next : Peeling) → Followed front list c
      → (o : Option ℕ) → first_free_compound (front_roots front) (fo front) ≡ o → PeelsBy precedes number next o front list → Onward front list c number next
  by front list c number next f (Some i) first p = onward_compound front list c i number next f first p.0 p.1
  by front list c number next f None none p = onward_primitive front list p.1 c p.0 number next f none p.2 p.3 p.4

  -- each number peels the front as it steps the machine
  pub onward : (front : List Placed) (list : List Place) (c : Config) (number : ℕ) (next : Peeling) → Followed front list c
      → PeelsBy precedes number next (first_free_compound (front_roots front) (fo front)) front list → Onward front list c number next
  onward front list c number next f p = by front list c number next f (first_free_compound (front_roots front) (fo front)) refl p

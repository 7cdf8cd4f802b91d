-- What is checked of sets of nodes is so of all solutions.
use Rattle.std.proofs.Common.{◌≡◌, ℕ, Bool, true, false, not, cond, ◌||◌, List, [], ◌∷◌, length, map, slice_get, Option, Some, None, refl, sym, ap, ◌∙◌, subst, ◌+◌, nat_eq, arith}
use Rattle.std.specs.Prelude.{IfSome, IsSome}
use Rattle.std.specs.List.{All, enumerate_from, list_all, list_any}
use Rattle.std.proofs.lemmas.Bool.{and_from, and_parts, both_ways, false_from_ne_true, not_from_false}
use Rattle.std.proofs.lemmas.List.Elements.{All-weaker}
use Rattle.std.proofs.lemmas.List.Folds.{Any-from_list_any}
use Rattle.htn_model.specs.Equality.{ground_task_eq-decides}
use Rattle.htn_model.specs.Atom.{Atom}
use Rattle.htn_model.specs.Exhaustion.{IsUnsolvable, is_dead_child}
use Rattle.htn_model.specs.Grounding.{problem_of}
use Rattle.htn_model.specs.Instance.{Instance}
use Rattle.htn_model.specs.Instances.{initials, methods_of}
use Rattle.htn_model.specs.Literal.{Action}
use Rattle.htn_model.specs.Problem.{Child, precondition, action, task, GroundTask, IsGrounded, Network, Problem, ground_task_eq}
use Rattle.htn_model.specs.State.{State}
use Rattle.htn_model.specs.State as states
use Rattle.htn_model.specs.Task.{Task}
use Rattle.htn_model.specs.Tree.{Node, leaf, step, compound, Nodes, no_nodes, node, root, roots, IsTree, AreTrees, Solution, IsSolution}
use Rattle.htn_ground.specs.Counted.{counted}
use Rattle.htn_ground.specs.Distinct.{distinct, live_methods, is_live}
use Rattle.htn_ground.specs.Methods.{live_instances}
use Rattle.task_graph.specs.Barred.{is_barred, is_barred_by}
use Rattle.task_graph.specs.Graph.{AreBarredActions, IsGraph}
use Rattle.task_graph.specs.declared.graph.TaskGraph.{TaskGraph}
use Rattle.task_graph.proofs.Listed.{among_barred}
use Rattle.heuristics.specs.Facts as relaxed
use Rattle.heuristics.specs.Facts.{are_possible, has_effects, is_within, may_fail}
use Rattle.heuristics.specs.ReachTables.{is_among}
use Rattle.htn_model.proofs.Sets.{set_of-Contains}
use Rattle.heuristics.proofs.Factual.{listed_atom}
use Rattle.heuristics.proofs.ReachLists.{all_from}
use Rattle.never_applied.specs.Fine.{AreFine, AreNodesFine, IsActionRight, IsClosed, IsRight, IsTaskRight, IsTaskUsed, facts_of, has_instance, is_barred_node, is_fine, is_known_fine}
use Rattle.never_applied.specs.Used.{AreUsed, HasMethod, has_method, has_node}
use Rattle.never_applied.specs.Never.{Applies, AreFindings, IsNeverApplied, IsNeverPerformed, Performs}
use Rattle.never_applied.specs.Stages.{AreUnused, IsActionUnused, IsMethodUnused}
use Rattle.never_applied.specs.Solutions.{AllBelow, Below}
use Rattle.never_applied.specs.declared.answer.Findings.{Findings}
use Rattle.never_applied.specs.declared.fine.Fine.{Fine}
use Rattle.never_applied.specs.declared.usable.Usable.{Usable}
use Rattle.never_applied.proofs.Listed.{filtered_holds, initial_holds, live_holds, mapped_at}
use Rattle.never_applied.proofs.Running.{MayBe, solution_runs}

-- ## Nodes of trees

-- the root of a tree
below_root : (P : Node → Type 0) (n : Node) → Below P n → P n
below_root P (leaf g) h = h
below_root P (step literals) h = h
below_root P (compound t number nodes) h = h.0

-- what is so of each node is so by a test of all roots
all_roots : (test : Child → Bool) (ns : Nodes) → AllBelow (λ n. test (root n) ≡ true) ns → list_all test (roots ns) ≡ true
all_roots test no_nodes h = refl
all_roots test (node n ns) h = and_from _ _ (below_root (λ m. test (root m) ≡ true) n h.0) (all_roots test ns h.1)

-- what is so of any node
mutual
  any_below : (P : Node → Type 0) → ((n : Node) → P n) → (n : Node) → Below P n
  any_below P all (leaf g) = all (leaf g)
  any_below P all (step literals) = all (step literals)
  any_below P all (compound t number nodes) = (all (compound t number nodes), any_all_below P all nodes)

  any_all_below : (P : Node → Type 0) → ((n : Node) → P n) → (ns : Nodes) → AllBelow P ns
  any_all_below P all no_nodes = tt
  any_all_below P all (node n ns) = (any_below P all n, any_all_below P all ns)

-- what follows for each node
mutual
  mapped_below : (P Q : Node → Type 0) → ((n : Node) → P n → Q n) → (n : Node) → Below P n → Below Q n
  mapped_below P Q up (leaf g) h = up (leaf g) h
  mapped_below P Q up (step literals) h = up (step literals) h
  mapped_below P Q up (compound t number nodes) h = (up (compound t number nodes) h.0, mapped_all_below P Q up nodes h.1)

  mapped_all_below : (P Q : Node → Type 0) → ((n : Node) → P n → Q n) → (ns : Nodes) → AllBelow P ns → AllBelow Q ns
  mapped_all_below P Q up no_nodes h = tt
  mapped_all_below P Q up (node n ns) h = (mapped_below P Q up n h.0, mapped_all_below P Q up ns h.1)

-- what holds of all elements holds of each that is among them
among_holds : (P : GroundTask → Type 0) (keys : List GroundTask) (g : GroundTask) → All P keys → is_among keys g ≡ true → P g
among_holds P keys g all among =
    let found = Any-from_list_any (ground_task_eq g) keys among in
    let same : g ≡ found.1 = (ground_task_eq-decides g found.1).0 found.4 in
    subst P (sym same) (subst P found.3 (all found.0 found.1 found.2))

-- ## What is checked of a task

-- a task that is fine
pub known_right : (t : Task) (f : Fine) (g : GroundTask) → is_among f.tasks.keys g ≡ true → IsTaskRight t f g
known_right t f g known = λ k i low fine. known

-- one without a live instance whose nodes are all fine
pub lost_right : (t : Task) (f : Fine) (g : GroundTask)
    → All (λ p. list_all (is_fine f) p.1.network.children ≡ false) (map counted (live_instances t (enumerate_from 0 (methods_of t g)))) → IsTaskRight t f g
lost_right t f g lost =
    live_holds t g (λ i. list_all (is_fine f) i.network.children ≡ true → is_among f.tasks.keys g ≡ true)
    (All-weaker (λ p. list_all (is_fine f) p.1.network.children ≡ false) (λ p. list_all (is_fine f) p.1.network.children ≡ true → is_among f.tasks.keys g ≡ true)
    (λ p none fine. absurd (both_ways _ none fine)) (map counted (live_instances t (enumerate_from 0 (methods_of t g)))) lost)

-- ## What is dead

-- facts that rule nothing out
abbrev any_facts : relaxed.Facts
any_facts = record { may_hold = λ a. true; lasting = states.set_of [] }

-- nothing is true in no atoms
none_true : (x : Atom) → states.contains (states.set_of []) x ≡ true → ⊥
none_true x h = let at = (set_of-Contains [] x).0 h in let low = at.1 in omega (arith, low)

-- all pass
all_true : {X : Type 0} (xs : List X) → list_all (λ x. true) xs ≡ true
all_true [] = refl
all_true (x ∷ xs) = all_true xs

module _ (t : Task) (grounded : IsGrounded (problem_of t)) where
  -- the ground problem
  abbrev problem : Problem
  problem = problem_of t

  -- a node isn't dead
  abbrev IsAlive : Node → Type 0
  IsAlive n = MayBe problem grounded any_facts (root n)

  -- each state is made of any facts
  any_within : (s : State) → is_within any_facts s ≡ true
  any_within s =
      and_from _ _ (all_true (states.atoms_of s))
      (all_from (states.contains s) (states.atoms_of (states.set_of [])) (λ x at. absurd (none_true x (listed_atom (states.set_of []) x at))))

  -- they allow each action
  any_effects : (a : Action) → has_effects any_facts a ≡ true
  any_effects a =
      and_from _ _ (all_true (states.atoms_of a.adds))
      (all_from (λ x. may_fail any_facts x || states.contains a.adds x) (states.atoms_of a.deletes)
      (λ x at. ap (λ b. b || states.contains a.adds x) (not_from_false _ (false_from_ne_true _ (none_true x)))))

  -- no node of a solution is dead
  alive : (s : Solution) → IsSolution problem s → AllBelow IsAlive s.trees
  alive s solves =
      (solution_runs problem grounded any_facts (λ x. true) (λ g a is_known is possible. any_effects a) (any_within problem.initial_state) s solves
      (any_all_below (λ n. true ≡ true) (λ n. refl) s.trees)).nodes

  -- a dead step isn't alive
  step_alive : (n : Node) → IsAlive n → is_dead_child problem (root n) ≡ false
  step_alive (leaf g) h = refl
  step_alive (step literals) h = h.1
  step_alive (compound g number nodes) h = refl

  -- so a network of such nodes is live
  roots_alive : (ns : Nodes) → AllBelow IsAlive ns → list_any (is_dead_child problem) (roots ns) ≡ false
  roots_alive no_nodes h = refl
  roots_alive (node n ns) h =
      ap (λ b. b || list_any (is_dead_child problem) (roots ns)) (step_alive n (below_root IsAlive n h.0)) ∙ roots_alive ns h.1

  -- an instance that a tree has
  record HasInstance (g : GroundTask) (number : ℕ) (nodes : Nodes) : Type 0 where
    instance : Instance
    at : slice_get (methods_of t g) number ≡ Some instance
    children : instance.network.children ≡ roots nodes
    live : is_live t instance.network ≡ true

  -- each compound node has one
  instance_of : (g : GroundTask) (number : ℕ) (nodes : Nodes) → IsTree problem (compound g number nodes) → AllBelow IsAlive nodes → HasInstance g number nodes
  instance_of g number nodes tree lives =
      let found = mapped_at (λ (i : Instance). i.network) (methods_of t g) number tree.0 tree.1 in
      let same : found.0.network.children ≡ roots nodes = ap (λ (n : Network). n.children) found.2 ∙ sym tree.2 in
      record {
        instance = found.0;
        at = found.1;
        children = same;
        live = not_from_false _ (ap (list_any (is_dead_child problem)) same ∙ roots_alive nodes lives);
      }

  -- what holds of each live instance of a task holds of that of a node
  live_instance : (P : Instance → Type 0) (g : GroundTask) (number : ℕ) (nodes : Nodes) (i : HasInstance g number nodes) → All P (live_methods t g) → P i.instance
  live_instance P g number nodes i all = filtered_holds P (λ x. is_live t x.network) (methods_of t g) number i.instance i.at i.live all

  -- ## Fine nodes are used

  module _ (f : Fine) (u : Usable) (closed : IsClosed t f u) where
    -- a node is fine
    abbrev IsFineNode : Node → Type 0
    IsFineNode n = is_fine f (root n) ≡ true

    -- a node is used
    abbrev IsUsedNode : Node → Type 0
    IsUsedNode n = has_node u (root n) ≡ true

    -- a node and its method are
    abbrev IsUsed : Node → Type 0
    IsUsed n = IsUsedNode n × HasMethod t u n

    -- the instance of a used node is used
    used_instance : (g : GroundTask) (number : ℕ) (nodes : Nodes) (i : HasInstance g number nodes) → AllBelow IsFineNode nodes → is_among u.tasks.keys g ≡ true
        → has_instance u i.instance ≡ true
    used_instance g number nodes i fine used =
        live_instance (λ x. list_all (is_fine f) x.network.children ≡ true → has_instance u x ≡ true) g number nodes i (among_holds (IsTaskUsed t f u) u.tasks.keys g closed.tasks used)
        (ap (list_all (is_fine f)) i.children ∙ all_roots (is_fine f) nodes fine)

    -- its method is
    used_method : (g : GroundTask) (number : ℕ) (nodes : Nodes) (i : HasInstance g number nodes) → has_instance u i.instance ≡ true → HasMethod t u (compound g number nodes)
    used_method g number nodes i used = λ j at.
        let same : i.instance ≡ j = (let e = i.at in cc) in
        subst (λ (x : Instance). has_method u x.method ≡ true) same (and_parts _ _ used).0

    mutual
      -- below a used node all nodes are used
      used_below : (n : Node) → IsTree problem n → Below IsAlive n → Below IsFineNode n → IsUsedNode n → Below IsUsed n
      used_below (leaf g) tree lives fine used = (used, tt)
      used_below (step literals) tree lives fine used = (used, tt)
      used_below (compound g number nodes) tree lives fine used =
          let i = instance_of g number nodes tree lives.1 in
          let has = used_instance g number nodes i fine.1 used in (
            (used, used_method g number nodes i has),
            used_all nodes tree.3 lives.1 fine.1 (sym (ap (list_all (has_node u)) i.children) ∙ (and_parts _ _ has).1),
          )

      used_all : (ns : Nodes) → AreTrees problem ns → AllBelow IsAlive ns → AllBelow IsFineNode ns → list_all (has_node u) (roots ns) ≡ true → AllBelow IsUsed ns
      used_all no_nodes trees lives fine used = tt
      used_all (node n ns) trees lives fine used =
          let parts = and_parts _ _ used in (used_below n trees.0 lives.0 fine.0 parts.0, used_all ns trees.1 lives.1 fine.1 parts.1)

    -- so all nodes of a solution are
    used_of : AreNodesFine t f → (s : Solution) → IsSolution problem s → AllBelow IsUsed s.trees
    used_of fine s solves =
        let nodes = fine s solves in
        let starts = initial_holds t (λ n. list_all (is_fine f) n.children ≡ true → list_all (has_node u) n.children ≡ true) s.number solves.network solves.is_initial closed.starts in
        used_all s.trees solves.are_trees (alive s solves) nodes
        (ap (list_all (has_node u)) solves.are_roots ∙ starts (sym (ap (list_all (is_fine f)) solves.are_roots) ∙ all_roots (is_fine f) s.trees nodes))

    -- what is gathered by fine nodes is all that solutions use
    pub closed_used : AreNodesFine t f → AreUsed t u
    closed_used fine = record {
      nodes = λ s solves. mapped_all_below IsUsed IsUsedNode (λ n h. h.0) s.trees (used_of fine s solves);
      methods = λ s solves. mapped_all_below IsUsed (HasMethod t u) (λ n h. h.1) s.trees (used_of fine s solves);
    }

  -- ## What is used is fine

  module _ (f : Fine) (u : Usable) (right : IsRight t u f) (used : AreUsed t u) where
    -- a node is used
    abbrev IsThere : Node → Type 0
    IsThere n = has_node u (root n) ≡ true

    -- a node may be by the facts
    abbrev Runs : Node → Type 0
    Runs n = MayBe problem grounded (facts_of f.facts) (root n)

    -- a node is fine
    abbrev IsFineToo : Node → Type 0
    IsFineToo n = is_fine f (root n) ≡ true

    -- it is so by what is known
    known_fine : (x : Child) → is_known_fine f x ≡ true → is_fine f x ≡ true
    known_fine x h = ap (λ b. cond b (not (is_barred_node f x)) (is_known_fine f x)) right.known ∙ h

    mutual
      -- a node that is used and may be is fine, and so are those below it
      fine_below : (n : Node) → IsTree problem n → Below IsAlive n → Below IsThere n → Below Runs n → Below IsFineToo n
      fine_below (leaf g) tree lives there may =
          known_fine (action g) (among_holds (IsActionRight t f) u.actions.keys g right.actions (and_parts _ _ there).0 may.0 may.1 may.2).1
      fine_below (step literals) tree lives there may = known_fine (precondition literals) may.0
      fine_below (compound g number nodes) tree lives there may =
          let i = instance_of g number nodes tree lives.1 in
          let below = fine_all nodes tree.3 lives.1 there.1 may.1 in (
            known_fine (task g) (live_instance (λ x. list_all (is_fine f) x.network.children ≡ true → is_among f.tasks.keys g ≡ true) g number nodes i
                (among_holds (IsTaskRight t f) u.tasks.keys g right.tasks there.0)
                (ap (list_all (is_fine f)) i.children ∙ all_roots (is_fine f) nodes below)),
            below,
          )

      fine_all : (ns : Nodes) → AreTrees problem ns → AllBelow IsAlive ns → AllBelow IsThere ns → AllBelow Runs ns → AllBelow IsFineToo ns
      fine_all no_nodes trees lives there may = tt
      fine_all (node n ns) trees lives there may = (fine_below n trees.0 lives.0 there.0 may.0, fine_all ns trees.1 lives.1 there.1 may.1)

    -- the effects of used actions are among the facts
    used_effects : (g : GroundTask) (a : Action) → has_node u (action g) ≡ true → problem.action_of g ≡ Some a → are_possible (facts_of f.facts) a.precondition ≡ true
        → has_effects (facts_of f.facts) a ≡ true
    used_effects g a there is possible = (among_holds (IsActionRight t f) u.actions.keys g right.actions (and_parts _ _ there).0 a is possible).0

    -- what is found right is fine
    pub right_fine : AreFine t f
    right_fine = record {
      nodes = λ s solves.
          (let runs = solution_runs problem grounded (facts_of f.facts) (has_node u) used_effects right.within s solves (used.nodes s solves) in
          fine_all s.trees solves.are_trees (alive s solves) (used.nodes s solves) runs.nodes);
      goal = λ s solves. (solution_runs problem grounded (facts_of f.facts) (has_node u) used_effects right.within s solves (used.nodes s solves)).goal;
    }

  -- ## Where nothing is known

  module _ (f : Fine) (open_is : f.is_open ≡ true) (barred : (g : GroundTask) → is_among f.barred.keys g ≡ true → is_barred problem g ≡ true) where
    -- a node that isn't dead is fine
    open_node : (n : Node) → IsAlive n → is_fine f (root n) ≡ true
    open_node n h = ap (λ b. cond b (not (is_barred_node f (root n))) (is_known_fine f (root n))) open_is ∙ by n h
      where
        by : (n : Node) → IsAlive n → not (is_barred_node f (root n)) ≡ true
        by (leaf g) h =
            not_from_false _ (false_from_ne_true _ (λ among. both_ways _ (ap (is_barred_by problem) h.1 ∙ h.3) (barred g among)))
        by (step literals) h = refl
        by (compound g number nodes) h = refl

    -- so all nodes of solutions are
    pub open_fine : AreNodesFine t f
    open_fine = λ s solves. mapped_all_below IsAlive (λ n. is_fine f (root n) ≡ true) open_node s.trees (alive s solves)

-- what is gathered where nothing is known but actions that are barred
pub used_openly : (t : Task) → IsGrounded (problem_of t) → (g : TaskGraph) → IsGraph t g → (keys : List GroundTask) → AreBarredActions g keys
    → (f : Fine) → f.is_open ≡ true → f.barred.keys ≡ keys → (o : Option Usable) → IfSome o (IsClosed t f) → IfSome o (AreUsed t)
used_openly t grounded g graph keys are f open_is same None closed = tt
used_openly t grounded g graph keys are f open_is same (Some u) closed =
    closed_used t grounded f u closed
    (open_fine t grounded f open_is (λ h among. among_barred t g keys h graph.grounded are (sym (ap (λ l. is_among l h) same) ∙ among)))

-- ## What no solution uses

-- a method that isn't among those that are used
pub never_applied : (t : Task) (u : Usable) (m : ℕ) → AreUsed t u → list_any (nat_eq m) u.methods.keys ≡ false → IsNeverApplied t m
never_applied t u m used lacks s solves = mapped_all_below (HasMethod t u) (λ n. Applies t m n → ⊥) by s.trees (used.methods s solves)
  where
    by : (n : Node) → HasMethod t u n → Applies t m n → ⊥
    by (leaf g) h a = a
    by (step literals) h a = a
    by (compound g number nodes) h a = both_ways _ lacks (sym (ap (has_method u) a.2) ∙ h a.0 a.1)

-- an action that isn't
pub never_performed : (t : Task) (u : Usable) (m : ℕ) → AreUsed t u → list_any (nat_eq (length t.tasks + m)) u.names.keys ≡ false → IsNeverPerformed t m
never_performed t u m used lacks s solves = mapped_all_below (λ n. has_node u (root n) ≡ true) (λ n. Performs t m n → ⊥) by s.trees (used.nodes s solves)
  where
    by : (n : Node) → has_node u (root n) ≡ true → Performs t m n → ⊥
    by (leaf g) h a = both_ways _ lacks (ap (λ k. list_any (nat_eq k) u.names.keys) (sym a) ∙ (and_parts _ _ h).1)
    by (step literals) h a = a
    by (compound g number nodes) h a = a

-- all that is found
pub findings_right : (t : Task) (f : Fine) (r : Findings) → AreFine t f → AreUsed t r.usable → AreUnused t r.usable r.methods.items r.actions.items
    → (IsSome r.no_plan → AreFine t f → IsUnsolvable (problem_of t)) → AreFindings t r
findings_right t f r fine used are none = record {
  methods = All-weaker (λ x. IsMethodUnused r.usable x.place) (λ x. IsNeverApplied t x.place) (λ x lacks. never_applied t r.usable x.place used lacks) r.methods.items are.methods;
  actions = All-weaker (λ x. IsActionUnused t r.usable x.place) (λ x. IsNeverPerformed t x.place) (λ x lacks. never_performed t r.usable x.place used lacks) r.actions.items are.actions;
  usable = used;
  no_plan = λ some. none some fine;
}

-- ## There is no solution

-- where a literal of the goal is never so
pub goal_lost : (t : Task) (f : Fine) → AreFine t f → are_possible (facts_of f.facts) (problem_of t).goal ≡ false → IsUnsolvable (problem_of t)
goal_lost t f fine lost s solves = both_ways _ lost (fine.goal s solves)

-- where each initial network has a node that isn't fine
pub starts_lost : (t : Task) (f : Fine) → AreNodesFine t f → All (λ i. list_all (is_fine f) i.network.children ≡ false) (distinct (initials t)) → IsUnsolvable (problem_of t)
starts_lost t f fine lost s solves =
    both_ways _ (initial_holds t (λ n. list_all (is_fine f) n.children ≡ false) s.number solves.network solves.is_initial lost)
    (sym (ap (list_all (is_fine f)) solves.are_roots) ∙ all_roots (is_fine f) s.trees (fine s solves))

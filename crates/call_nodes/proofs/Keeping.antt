-- The nodes of a task stay so with one more, with more lists or states, and where the instances of one are listed.
use Rattle.std.proofs.Common.{◌≡◌, ◌∙◌, ◌⊎◌, ◌||◌, inl, inr, ℕ, Bool, if◌then◌else◌, List, [], ◌∷◌, ◌++◌, Some, length, map, set, slice_get, refl, ap, sym, subst, append-nil}
use Rattle.std.specs.List.{AllZip, list_any}
use Rattle.std.specs.Ordering.{on}
use Rattle.std.proofs.lemmas.List.{length-map, map-append}
use Rattle.indexmap.specs.IndexSet.{insert_key}
use Rattle.htn_model.specs.Grounding.{problem_of}
use Rattle.htn_model.specs.PlanFile.{IsWithoutRepeats}
use Rattle.htn_model.specs.Equality.{child_eq-decides}
use Rattle.htn_model.specs.Problem.{Child, child_eq}
use Rattle.htn_model.specs.Task.{Task}
use Rattle.htn_ground.specs.Views.{child_view, children_of}
use Rattle.htn_ground.specs.declared.child.Child.{Child as Node}
use Rattle.state_table.specs.Numberings.{IsExtension}
use Rattle.state_table.specs.Table.{IsLater, IsSetOf}
use Rattle.state_table.proofs.Keys.{at_end, not_any}
use Rattle.state_table.proofs.States.{later_itself}
use Rattle.heuristics.specs.Sizes.{size_of}
use Rattle.call_table.specs.Lists.{Lists}
use Rattle.call_nodes.specs.Nodes.{AreMore, AreNodes, IsOperator, children}
use Rattle.call_nodes.specs.declared.call_nodes.CallNodes.{CallNodes}
use Rattle.call_nodes.specs.declared.operator.Operator.{Operator}
use Rattle.call_nodes.proofs.Numbering.{same_lists, stays_in_use}
use Rattle.call_nodes.proofs.Staying.{apart_with, atoms_later, literals_later, operators_stay, sets_later, state_stays, zip_last, zip_set}

-- what passes a test of what it stands for
any_mapped : {X Y : Type 0} (test : Y → Bool) (f : X → Y) (xs : List X) → list_any (λ x. test (f x)) xs ≡ list_any test (map f xs)
any_mapped test f [] = refl
any_mapped test f (x ∷ xs) = ap (λ b. test (f x) || b) (any_mapped test f xs)

-- a node that is none of those before goes last
pub node_last : (keys : List Node) (v : Node) → ((n : ℕ) → slice_get (children_of keys) n ≡ Some (child_view v) → ⊥) → insert_key (on child_view child_eq) keys v ≡ keys ++ v ∷ []
node_last keys v none =
    ap (λ b. if b then keys else keys ++ v ∷ [])
    (any_mapped (child_eq (child_view v)) child_view keys ∙ not_any child_eq child_eq-decides (child_view v) (children_of keys) none)

module _ (t : Task) (a : CallNodes) (own : AreNodes t a) where
  -- ## More lists

  module _ (lists : Lists) (more : IsExtension a.lists.lists lists.lists) where
    pub with_lists : lists.counts ≡ a.lists.counts → AreNodes t (record a { lists = lists })
    with_lists counts = record {
      atoms = own.atoms;
      begun = own.begun;
      start = own.start;
      sets = own.sets;
      states_apart = own.states_apart;
      nodes_apart = own.nodes_apart;
      goal = own.goal;
      measure = own.measure;
      sizes = counts ∙ own.sizes;
      operators = operators_stay (children a) (children a) (same_lists (children a)) a.lists lists more t a.atoms a.atoms (later_itself a.atoms own.atoms.table)
          (children a) a.operators.items own.operators;
    }

    pub more_with_lists : AreMore a (record a { lists = lists })
    more_with_lists = record {
      atoms = later_itself a.atoms own.atoms.table;
      states = same_lists a.states;
      nodes = same_lists (children a);
      lists = more;
    }

  -- ## More states

  module _ (states : List (List ℕ)) (more : IsExtension a.states states) where
    -- no state has two numbers, and one that is new is a set of atoms of the table
    pub with_states : (words : List ℕ) → IsWithoutRepeats states
        → ((i : ℕ) (other : List ℕ) → slice_get states i ≡ Some other → (slice_get a.states i ≡ Some other) ⊎ (other ≡ words))
        → IsSetOf a.atoms words → AreNodes t (record a { states = states })
    with_states words apart others within = record {
      atoms = own.atoms;
      begun = stays_in_use a.states states 0 more own.begun;
      start = state_stays a.atoms a.atoms (later_itself a.atoms own.atoms.table) a.states own.sets states more 0 own.begun ∙ own.start;
      sets = λ i other at. elim (others i other at) [
        | inl before ↦ own.sets i other before
        | inr here ↦ subst (IsSetOf a.atoms) (sym here) within
      ];
      states_apart = apart;
      nodes_apart = own.nodes_apart;
      goal = own.goal;
      measure = own.measure;
      sizes = own.sizes;
      operators = own.operators;
    }

    pub more_with_states : AreMore a (record a { states = states })
    more_with_states = record {
      atoms = later_itself a.atoms own.atoms.table;
      states = more;
      nodes = same_lists (children a);
      lists = same_lists a.lists.lists;
    }

  -- ## The instances of a node

  -- another operator of a node
  pub with_operator : (b : CallNodes) (place : ℕ) (x : Child) (o : Operator) → b ≡ record a { operators = b.operators } → b.operators.items ≡ set a.operators.items place o
      → slice_get (children a) place ≡ Some x → IsOperator t a.atoms (children a) a.lists x o → AreNodes t b
  with_operator b place x o same operators at is =
      subst (AreNodes t) (sym same) (record {
        atoms = own.atoms;
        begun = own.begun;
        start = own.start;
        sets = own.sets;
        states_apart = own.states_apart;
        nodes_apart = own.nodes_apart;
        goal = own.goal;
        measure = own.measure;
        sizes = own.sizes;
        operators = subst (λ os. AllZip (IsOperator t a.atoms (children a) a.lists) (children a) os) (sym operators)
            (zip_set (IsOperator t a.atoms (children a) a.lists) (children a) a.operators.items place x o own.operators at is);
      })

  -- ## One node more

  module _ (b : CallNodes) (v : Node) (later : IsLater a.atoms b.atoms) (nodes : b.nodes.keys ≡ a.nodes.keys ++ v ∷ []) (lists : b.lists.lists ≡ a.lists.lists) where
    -- the nodes are those and the new one
    one_more : children b ≡ children a ++ child_view v ∷ []
    one_more = ap children_of nodes ∙ map-append child_view a.nodes.keys (v ∷ [])

    -- so they grow
    wider : IsExtension (children a) (children b)
    wider = (child_view v ∷ [], one_more)

    -- the lists are the same
    same : IsExtension a.lists.lists b.lists.lists
    same = ([], lists ∙ sym (append-nil a.lists.lists))

    -- the new one has the number that comes next
    pub number_of_new : (number : ℕ) → number ≡ length a.lists.counts → slice_get (children b) number ≡ Some (child_view v)
    number_of_new number next =
        let count : number ≡ length (children a) = next ∙ ap length own.sizes ∙ length-map (children a) (size_of a.sizes.now) in
        ap (slice_get (children b)) count ∙ ap (λ (xs : List Child). slice_get xs (length (children a))) one_more ∙ at_end (children a) (child_view v)

    pub more_with_node : b.states ≡ a.states → AreMore a b
    more_with_node states = record {
      atoms = later;
      states = ([], states ∙ sym (append-nil a.states));
      nodes = wider;
      lists = same;
    }

    -- with its operator and its size
    pub with_node : (o : Operator) → b ≡ record a { atoms = b.atoms; nodes = b.nodes; operators = b.operators; lists = b.lists }
        → b.operators.items ≡ a.operators.items ++ o ∷ [] → b.lists.counts ≡ a.lists.counts ++ size_of a.sizes.now (child_view v) ∷ []
        → ((n : ℕ) → slice_get (children a) n ≡ Some (child_view v) → ⊥) → IsOperator t b.atoms (children b) b.lists (child_view v) o → AreNodes t b
    with_node o is_b operators counts new is =
        let x = child_view v in
        subst (AreNodes t) (sym is_b) (record {
          atoms = atoms_later t a.atoms b.atoms later own.atoms;
          begun = own.begun;
          start = state_stays a.atoms b.atoms later a.states own.sets a.states (same_lists a.states) 0 own.begun ∙ own.start;
          sets = sets_later a.atoms b.atoms later a.states own.sets;
          states_apart = own.states_apart;
          nodes_apart = subst IsWithoutRepeats (sym one_more) (apart_with (children a) x own.nodes_apart new);
          goal = literals_later t a.atoms b.atoms later a.goal (problem_of t).goal own.goal;
          measure = own.measure;
          sizes = counts ∙ ap (λ (ns : List ℕ). ns ++ size_of a.sizes.now x ∷ []) own.sizes ∙ sym (map-append (size_of a.sizes.now) (children a) (x ∷ [])) ∙ ap (map (size_of a.sizes.now)) (sym one_more);
          operators =
              subst (λ xs. AllZip (IsOperator t b.atoms (children b) b.lists) xs b.operators.items) (sym one_more)
              (subst (λ os. AllZip (IsOperator t b.atoms (children b) b.lists) (children a ++ x ∷ []) os) (sym operators)
              (zip_last (IsOperator t b.atoms (children b) b.lists) (children a) a.operators.items x o
              (operators_stay (children a) (children b) wider a.lists b.lists same t a.atoms b.atoms later (children a) a.operators.items own.operators) is));
        })

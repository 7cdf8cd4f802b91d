-- A task that is decomposed into itself for ever, and one into two of itself.
use Rattle.std.proofs.Common.{◌≡◌, ℕ, zero, suc, ◌+◌, ◌-◌, ◌<◌, ◌≤◌, Bool, true, false, cond, ◌&&◌, List, [], ◌∷◌, length, filter, slice_get, Some, None, option_map, ◌⊎◌, inl, inr, refl, sym, ap, ◌∙◌, arith}
use Rattle.std.specs.List.{range_with_len}
use Rattle.std.specs.Option.{unwrap_or}
use Rattle.std.proofs.lemmas.Bool.{cases_lt, and_from}
use Rattle.htn_model.specs.Problem.{ground_task_eq, Child, precondition, task, is_compound, is_before, Network}
use Rattle.htn_model.specs.Tree.{Node, leaf, step, compound, Nodes, no_nodes, node, root, roots, IsTree, AreTrees}
use Rattle.htn_model.specs.Choice.{is_empty, passing, is_free, child_of, splice}
use Rattle.htn_model.specs.Machine.{Config, Choice, origin, replaced_order, choose, result_of, start}
use Rattle.htn_model.specs.Exhaustion.{LeadsLive, IsMet, IsUnsolvable}
use Rattle.htn_model.specs.Sketch.{sketched}
use Rattle.htn_model.specs.Examples.{named, one_alone, two_unordered, endless, itself, twice, EndlessTasks}
use Rattle.htn_model.proofs.Splices.{Inside, Outside, places_of_splice, length_splice, table_within, table_past_left, table_past_right}
use Rattle.htn_model.proofs.Steps.{choose_decomposes}

-- ## No tree

module _ (network : Network) (rest : List Child) (starts : network.children ≡ task (named 0) ∷ rest) where
  -- the one method's network is the only one
  instance_is : (b : Bool) (number : ℕ) (n : Network) → slice_get (unwrap_or (cond b (Some (network ∷ [])) None) []) number ≡ Some n → n ≡ network
  instance_is true zero n h = cc
  instance_is true (suc number) n h = absurd cc
  instance_is false number n h = absurd cc

  mutual
    -- no tree has such a root
    no_tree : (n : Node) → root n ≡ task (named 0) → IsTree (sketched (endless network)) n → ⊥
    no_tree (leaf g) e h = absurd cc
    no_tree (step literals) e h = absurd cc
    no_tree (compound t number nodes) e h =
        no_trees nodes rest (h.2 ∙ ap (λ (n : Network). n.children) (instance_is (ground_task_eq (named 0) t) number h.0 h.1) ∙ starts) h.3

    -- nor do trees begin with it
    no_trees : (ns : Nodes) (later : List Child) → roots ns ≡ task (named 0) ∷ later → AreTrees (sketched (endless network)) ns → ⊥
    no_trees no_nodes later e h = absurd cc
    no_trees (node n ns) later e h = let first : root n ≡ task (named 0) = cc in no_tree n first h.0

  -- a task that leads only to itself has no solution
  never_solved : IsUnsolvable (sketched (endless network))
  never_solved s solves = no_trees s.trees [] (solves.are_roots ∙ initial s.number solves.network solves.is_initial) solves.are_trees
    where
      initial : (number : ℕ) (n : Network) → slice_get (sketched (endless network)).initials number ≡ Some n → n.children ≡ task (named 0) ∷ []
      initial zero n h = let same : record { children = task (named 0) ∷ []; order = one_alone } ≡ n = cc in ap (λ (m : Network). m.children) (sym same)
      initial (suc number) n h = absurd cc

-- ## One configuration comes back

-- the configuration of that task alone
abbrev alone : Config
alone = start (sketched itself) (record { children = task (named 0) ∷ []; order = one_alone })

-- a step leads from it to itself
comes_back : (number : ℕ) (choice : Choice) → choose (sketched itself) alone number ≡ Some choice → result_of alone choice ≡ alone
comes_back zero choice h =
    let same : option_map (result_of alone) (choose (sketched itself) alone zero) ≡ Some (result_of alone choice) = ap (option_map (result_of alone)) h in
    let back : option_map (result_of alone) (choose (sketched itself) alone zero) ≡ Some alone = refl in
    let both : Some (result_of alone choice) ≡ Some alone = sym same ∙ back in
    cc
comes_back (suc number) choice h = absurd cc

-- all steps lead from it to itself
stays_alone : (word : List ℕ) (c d : Config) → d ≡ alone → LeadsLive (sketched itself) word d c → c ≡ alone
stays_alone [] c d e leads = sym leads ∙ e
stays_alone (number ∷ word) c d e leads =
    let chosen : choose (sketched itself) alone number ≡ Some leads.0 = ap (λ (x : Config). choose (sketched itself) x number) (sym e) ∙ leads.1 in
    stays_alone word c (result_of d leads.0) (ap (λ (x : Config). result_of x leads.0) e ∙ comes_back number leads.0 chosen) leads.3

-- it is what the problem starts with
from_start : (number : ℕ) (n : Network) → slice_get (sketched itself).initials number ≡ Some n → start (sketched itself) n ≡ alone
from_start zero n h = let same : record { children = task (named 0) ∷ []; order = one_alone } ≡ n = cc in ap (start (sketched itself)) (sym same)
from_start (suc number) n h = absurd cc

-- no bound from 1 on is met
never_met : (bound : ℕ) → 1 ≤ bound → IsMet (sketched itself) bound → ⊥
never_met bound low met =
    let r = met.reached in
    let same : met.config ≡ alone = stays_alone r.word met.config (start (sketched itself) r.network) (from_start r.number r.network r.is_initial) r.leads in
    let few : length met.config.open_nodes ≡ 1 = ap (λ (c : Config). length c.open_nodes) same in
    met.beyond 0 (record { number = 0; network = _; is_initial = refl; word = []; long = refl; leads = sym same }) (omega arith)

-- ## Ever more open nodes

-- only such tasks are open, in no order
record IsWide (c : Config) : Type 0 where
  some : 0 < length c.open_nodes
  tasks : (i : ℕ) → i < length c.open_nodes → child_of c.open_nodes i ≡ task (named 0)
  loose : (a b : ℕ) → is_before c.order a b ≡ false

-- where the first number passes, it is the first that does
first_passes : (n : ℕ) (test : ℕ → Bool) → 0 < n → test 0 ≡ true → slice_get (passing test n) 0 ≡ Some 0
first_passes zero test low h = absurd (omega arith)
first_passes (suc n) test low h = ap (λ b. slice_get (cond b (0 ∷ filter test (range_with_len 1 n)) (filter test (range_with_len 1 n))) 0) h

-- where no number passes, none is left
none_pass : (test : ℕ → Bool) (ks : List ℕ) → ((k : ℕ) → test k ≡ false) → filter test ks ≡ []
none_pass test [] h = refl
none_pass test (k ∷ ks) h = ap (λ b. cond b (k ∷ filter test ks) (filter test ks)) (h k) ∙ none_pass test ks h

-- the task twice, in any order
abbrev pair : Network
pair = record { children = task (named 0) ∷ task (named 0) ∷ []; order = two_unordered }

-- neither comes before the other
pair_loose : (a b : ℕ) → is_before pair.order a b ≡ false
pair_loose zero zero = refl
pair_loose zero (suc zero) = refl
pair_loose zero (suc (suc b)) = refl
pair_loose (suc zero) zero = refl
pair_loose (suc zero) (suc zero) = refl
pair_loose (suc zero) (suc (suc b)) = refl
pair_loose (suc (suc a)) b = refl

-- one of two that both fail fails
either : (b : Bool) (x y : Bool) → x ≡ false → y ≡ false → cond b x y ≡ false
either true x y e f = e
either false x y e f = f

module _ (c : Config) (wide : IsWide c) where
  -- the choice of the first task
  abbrev taken : Choice
  taken = record { position = 0; network = pair; state = c.state }

  -- that choice is possible
  takes : choose (sketched twice) c 0 ≡ Some taken
  takes =
      choose_decomposes (sketched twice) c 0 taken
      (record {
        first =
            first_passes (length c.open_nodes) (λ i. is_compound (child_of c.open_nodes i) && is_free (length c.open_nodes) (is_before c.order) i) wide.some
            (and_from _ _ (ap is_compound (wide.tasks 0 wide.some))
            (ap is_empty (none_pass (λ k. is_before c.order k 0) (range_with_len 0 (length c.open_nodes)) (λ k. wide.loose k 0))));
        name = named 0;
        is_task = wide.tasks 0 wide.some;
        method = refl;
        state = refl;
      })

  -- the open nodes after it
  abbrev wider : List Child
  wider = splice 0 pair.children c.open_nodes

  -- there is one more of them
  one_more : length wider ≡ suc (length c.open_nodes)
  one_more = let l = length_splice 0 pair.children c.open_nodes wide.some in omega arith

  -- both nodes of the pair are the task
  pair_tasks : (i : ℕ) → i < 2 → child_of pair.children i ≡ task (named 0)
  pair_tasks zero h = refl
  pair_tasks (suc zero) h = refl
  pair_tasks (suc (suc i)) h = absurd (omega arith)

  -- so are all open nodes after it
  still_tasks : (i : ℕ) → i < length wider → child_of wider i ≡ task (named 0)
  still_tasks i h = by (places_of_splice 0 pair.children c.open_nodes (precondition []) i wide.some)
    where
      by : Inside 0 pair.children c.open_nodes (precondition []) i ⊎ Outside 0 pair.children c.open_nodes (precondition []) i → child_of wider i ≡ task (named 0)
      by (inl inside) = inside.element ∙ pair_tasks inside.offset inside.within
      by (inr outside) = outside.element ∙ wide.tasks (origin 0 (length pair.children) i) (outside.within h)

  -- none of them comes before another
  still_loose : (a b : ℕ) → is_before (result_of c taken).order a b ≡ false
  still_loose a b =
      let f = replaced_order c.order 0 (length pair.children) pair.order in
      elim (cases_lt a (length wider)) [
        | inr past ↦ table_past_left (length wider) f a b past
        | inl low ↦ elim (cases_lt b (length wider)) [
          | inr past ↦ table_past_right (length wider) f a b past
          | inl high ↦ table_within (length wider) f a b low high
              ∙ either _ _ _ (pair_loose (a - 0) (b - 0)) (wide.loose (origin 0 (length pair.children) a) (origin 0 (length pair.children) b))
        ]
      ]

  -- what is reached is so too
  grown : IsWide (result_of c taken)
  grown = record { some = (let m = one_more in omega arith); tasks = still_tasks; loose = still_loose }

-- a word of so many zeros
abbrev zeros : ℕ → List ℕ
zeros zero = []
zeros (suc n) = 0 ∷ zeros n

-- it has that length
zeros_long : (n : ℕ) → length (zeros n) ≡ n
zeros_long zero = refl
zeros_long (suc n) = ap suc (zeros_long n)

-- so many steps lead to so many more open nodes
record Grows (n : ℕ) (c : Config) : Type 0 where
  last : Config
  leads : LeadsLive (sketched twice) (zeros n) c last
  long : length last.open_nodes ≡ length c.open_nodes + n

-- from a configuration of such tasks they do
grows : (n : ℕ) (c : Config) → IsWide c → Grows n c
grows zero c wide = record { last = c; leads = refl; long = omega arith }
grows (suc n) c wide =
    let later = grows n (result_of c (taken c wide)) (grown c wide) in
    let m = one_more c wide in
    let l = later.long in
    record { last = later.last; leads = (taken c wide, takes c wide, refl, later.leads); long = omega arith }

-- the configuration that the task starts with
abbrev first : Config
first = start (sketched twice) (record { children = task (named 0) ∷ []; order = one_alone })

-- it is such a configuration
first_wide : IsWide first
first_wide = record { some = omega arith; tasks = one; loose = alone_loose }
  where
    one : (i : ℕ) → i < 1 → child_of first.open_nodes i ≡ task (named 0)
    one zero h = refl
    one (suc i) h = absurd (omega arith)

    alone_loose : (a b : ℕ) → is_before one_alone a b ≡ false
    alone_loose zero zero = refl
    alone_loose zero (suc b) = refl
    alone_loose (suc a) b = refl

-- each bound is met
always_met : (bound : ℕ) → IsMet (sketched twice) bound
always_met bound =
    let g = grows bound first first_wide in
    record {
      config = g.last;
      steps = bound;
      reached = record { number = 0; network = _; is_initial = refl; word = zeros bound; long = zeros_long bound; leads = g.leads };
      beyond = λ m r within. (let l = g.long in omega arith);
    }

-- neither task has a solution, and only the second meets each bound
pub endless_tasks : EndlessTasks
endless_tasks = record {
  itself_unsolvable = never_solved (record { children = task (named 0) ∷ []; order = one_alone }) [] refl;
  itself_within = never_met;
  twice_unsolvable = never_solved pair (task (named 0) ∷ []) refl;
  twice_beyond = always_met;
}

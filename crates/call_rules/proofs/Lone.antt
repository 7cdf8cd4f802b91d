-- The rules of lone nodes are by rank what the listing machine's steps lead to.
use Rattle.std.proofs.Common.{◌≡◌, ℕ, zero, suc, Bool, true, false, cond, List, [], ◌∷◌, map, length, ltb, Option, Some, None, slice_get, option_map, option_and_then, sym, refl, ap, ◌∙◌, subst}
use Rattle.std.specs.Prelude.{Contains}
use Rattle.std.proofs.lemmas.List.Sums.{AllPass-from_list_all}
use Rattle.std.proofs.lemmas.Option.{none-some, same_Some, cond_some, slice_get-map, slice_get_within, get_or_from_slice_get}
use Rattle.std.proofs.lemmas.Simd.{map-map}
use Rattle.htn_model.specs.Equality.{order_eq-decides}
use Rattle.htn_model.specs.Grounding.{problem_of}
use Rattle.htn_model.specs.Instance.{Instance}
use Rattle.htn_model.specs.Literal.{Literal}
use Rattle.htn_model.specs.Machine.{Config, Choice, no_network, result_of, step_by}
use Rattle.htn_model.specs.Problem.{Child, precondition, action, task, GroundTask, Network, perform}
use Rattle.htn_model.specs.State.{State}
use Rattle.htn_model.specs.Task.{Task}
use Rattle.htn_model.proofs.Splices.{table_square}
use Rattle.htn_order.specs.Shapes.{chain}
use Rattle.htn_ground.specs.Distinct.{distinct, live_methods}
use Rattle.htn_calls.specs.Calls.{Rule}
use Rattle.htn_calls.specs.Series.{series_of, opened, opened_series, with_behind, IsTable, AreRulesAlone}
use Rattle.htn_calls.proofs.Words.{nothing_square}
use Rattle.htn_calls.proofs.Blocks.{one_block, series_join}
use Rattle.htn_calls.proofs.Cuts.{cuts_split}
use Rattle.htn_calls.specs.Ordered.{ordered, lone}
use Rattle.htn_calls.proofs.Ordered.{ordered_split, lone_replaced}
use Rattle.htn_walk.specs.Listed.{listed_methods}
use Rattle.htn_walk.proofs.Listed.{listed_instances}
use Rattle.call_rules.specs.Listing.{listed_step, listed_problem}
use Rattle.call_rules.specs.Lone.{is_total, are_total, rule_into, rules_after, node_rules, the_only, lone_rules, LoneAreNodes, led_by, RulesAreRanked, NodesAreOrdered}
use Rattle.call_rules.proofs.Listing.{same_perform, listed_network, listed_steps, listed_in_front}

-- ## Totally ordered networks

-- a totally ordered network is that of its nodes
pub total_is : (n : Network) → is_total n ≡ true → n ≡ ordered n.children
total_is n total =
    let order : n.order ≡ chain (length n.children) = (order_eq-decides n.order (chain (length n.children))).0 total in
    λ i. record { children = n.children; order = order i }

-- its order is a square table
ordered_square : (nodes : List Child) → IsTable (ordered nodes)
ordered_square nodes = table_square (length nodes) ltb

-- nodes, each alone in series, are a totally ordered network
pub lone_in_series : (nodes : List Child) → series_of (map lone nodes) ≡ ordered nodes
lone_in_series nodes =
    sym (ap series_of (ordered_split nodes)) ∙ cuts_split.whole (ordered nodes)
    ∙ one_block (ordered nodes) (ordered_square nodes)

-- so they are opened
pub nodes_are_ordered : NodesAreOrdered
nodes_are_ordered s nodes = ap (opened s) (lone_in_series nodes)

-- ## Rules

-- rules, and what one of them leads to
abbrev NodeRules : Type 0
NodeRules = List (Rule State Network)

abbrev leads_to : Rule State Network → Config
leads_to r = opened_series r.state r.blocks

-- what the rule at a place leads to
abbrev led : NodeRules → ℕ → Option Config
led rs rank = option_map leads_to (slice_get rs rank)

-- what stands at a place is among the others
stands_among : {X : Type 0} (xs : List X) (k : ℕ) (x : X) → slice_get xs k ≡ Some x → Contains xs x
stands_among xs k x at = (k, slice_get_within xs k x at, get_or_from_slice_get xs k x x at)

module _ (t : Task) (s : State) where
  -- the steps from a network
  abbrev stepped : Network → ℕ → Option Config
  stepped n rank = step_by (listed_problem t) (opened s n) rank

  -- the instances of a task that are listed
  abbrev listed : GroundTask → List Instance
  listed g = distinct (live_methods t g)

  -- whether an instance is totally ordered
  abbrev is_total_instance : Instance → Bool
  is_total_instance i = is_total i.network

  -- one of them is, if all are
  total_at : (g : GroundTask) (rank : ℕ) (i : Instance) → are_total t g ≡ true → slice_get (listed g) rank ≡ Some i
      → is_total i.network ≡ true
  total_at g rank i all at =
      ap is_total_instance (sym (get_or_from_slice_get (listed g) rank i i at))
      ∙ AllPass-from_list_all is_total_instance (listed g) all rank i (slice_get_within (listed g) rank i at)

  -- the networks that are listed
  networks : (g : GroundTask) → map listed_network (listed_methods t g) ≡ map (λ (i : Instance). i.network) (listed g)
  networks g =
      sym (map-map (λ (i : Instance). i.network) (λ (p : ℕ × Instance). p.1) (listed_methods t g))
      ∙ ap (map (λ (i : Instance). i.network)) (listed_instances t g)

  -- what comes in the place of a node alone, with the state after
  abbrev put : Child → Network → State → Config
  put x network after = result_of (opened s (lone x)) (record { position = 0; network = network; state = after })

  -- what comes in the place of a task alone
  abbrev in_place : GroundTask → Option Network → Option Config
  in_place g o =
      option_map (result_of (opened s (lone (task g))))
      (option_map (λ network. let c : Choice = record { position = 0; network = network; state = s } in c) o)

  -- a totally ordered network there is its nodes, each alone
  instance_opened : (g : GroundTask) (i : Instance) → is_total i.network ≡ true
      → put (task g) i.network s ≡ leads_to (rule_into s i)
  instance_opened g i total =
      let is = total_is i.network total in
      lone_replaced s s (task g) i.network
      (subst (λ (n : Network). IsTable n) (sym is) (ordered_square i.network.children))
      ∙ ap (opened s) (is ∙ sym (lone_in_series i.network.children))

  -- a rank of a task alone leads where its instance's rule does
  task_ranked : (g : GroundTask) (rank : ℕ) → are_total t g ≡ true
      → stepped (lone (task g)) rank ≡ led (map (rule_into s) (listed g)) rank
  task_ranked g rank all =
      ap (λ ns. in_place g (slice_get ns rank)) (networks g)
      ∙ ap (in_place g) (slice_get-map (λ (i : Instance). i.network) (listed g) rank)
      ∙ by (slice_get (listed g) rank) refl
      ∙ ap (option_map leads_to) (sym (slice_get-map (rule_into s) (listed g) rank))
    where
      by : (o : Option Instance) → slice_get (listed g) rank ≡ o
          → in_place g (option_map (λ (i : Instance). i.network) o) ≡ option_map leads_to (option_map (rule_into s) o)
      by None at = refl
      by (Some i) at = ap Some (instance_opened g i (total_at g rank i all at))

  -- what carrying out a node alone leads to, if it can be
  abbrev carried : Child → Option State → Option Config
  carried x o =
      option_map (result_of (opened s (lone x)))
      (option_map (λ after. let c : Choice = record { position = 0; network = no_network; state = after } in c) o)

  -- that is its rule
  carried_is : (x : Child) (o : Option State) → carried x o ≡ led (rules_after o) 0
  carried_is x None = refl
  carried_is x (Some after) = ap Some (lone_replaced s after x no_network nothing_square)

  -- and there is no other
  no_more : (o : Option State) (rank : ℕ) → None ≡ led (rules_after o) (suc rank)
  no_more None rank = refl
  no_more (Some after) rank = refl

  -- what carrying out a node leads to by the problem of what is listed is its rule by the task's problem
  performed_is : (x : Child)
      → carried x (perform (listed_problem t) s x) ≡ led (rules_after (perform (problem_of t) s x)) 0
  performed_is x = ap (carried x) (sym (same_perform t s x)) ∙ carried_is x (perform (problem_of t) s x)

  -- a rank of a step alone leads where its rule does
  step_ranked : (literals : List Literal) (rank : ℕ)
      → stepped (lone (precondition literals)) rank
      ≡ led (rules_after (perform (problem_of t) s (precondition literals))) rank
  step_ranked literals zero = performed_is (precondition literals)
  step_ranked literals (suc rank) = no_more (perform (problem_of t) s (precondition literals)) rank

  -- and so does one of an action
  action_ranked : (g : GroundTask) (rank : ℕ)
      → stepped (lone (action g)) rank ≡ led (rules_after (perform (problem_of t) s (action g))) rank
  action_ranked g zero = performed_is (action g)
  action_ranked g (suc rank) = no_more (perform (problem_of t) s (action g)) rank

  -- the rules of a node are by rank what its steps lead to
  node_ranked : (x : Child) (rs : NodeRules) (rank : ℕ) → node_rules t s x ≡ Some rs
      → stepped (lone x) rank ≡ led rs rank
  node_ranked (precondition literals) rs rank known =
      let own = rules_after (perform (problem_of t) s (precondition literals)) in
      step_ranked literals rank ∙ ap (λ xs. led xs rank) (same_Some own rs known)
  node_ranked (action g) rs rank known =
      let own = rules_after (perform (problem_of t) s (action g)) in
      action_ranked g rank ∙ ap (λ xs. led xs rank) (same_Some own rs known)
  node_ranked (task g) rs rank known =
      let k = cond_some (are_total t g) (map (rule_into s) (listed g)) rs known in
      task_ranked g rank k.0 ∙ ap (λ xs. led xs rank) k.1

  -- where rules are known, there is one node
  only_is : (xs : List Child) (rs : NodeRules) → option_and_then (node_rules t s) (the_only xs) ≡ Some rs
      → (x : Child) × (xs ≡ x ∷ []) × (node_rules t s x ≡ Some rs)
  only_is [] rs known = absurd (none-some rs known)
  only_is (x ∷ []) rs known = (x, refl, known)
  only_is (x ∷ y ∷ xs) rs known = absurd (none-some rs known)

  -- and it is alone
  lone_is : (block : Network) (rs : NodeRules) → lone_rules t s block ≡ Some rs
      → (x : Child) × (block ≡ lone x) × (node_rules t s x ≡ Some rs)
  lone_is block rs known = by (is_total block) refl known
    where
      by : (b : Bool) → is_total block ≡ b
          → cond b (option_and_then (node_rules t s) (the_only block.children)) None ≡ Some rs
          → (x : Child) × (block ≡ lone x) × (node_rules t s x ≡ Some rs)
      by true total known =
          let only = only_is block.children rs known in
          (only.0, total_is block total ∙ ap ordered only.1, only.2)
      by false total known = absurd (none-some rs known)

  module _ (block : Network) (rs : NodeRules) (known : lone_rules t s block ≡ Some rs) where
    -- so it has nodes
    has_nodes : block.children ≡ [] → ⊥
    has_nodes none =
        let is = lone_is block rs known in
        let one : block.children ≡ is.0 ∷ [] = ap (λ (n : Network). n.children) is.1 in
        absurd cc

    -- and its rules are by rank what its steps lead to
    alone_ranked : (rank : ℕ) → listed_step t (opened s block) rank ≡ led rs rank
    alone_ranked rank =
        let is = lone_is block rs known in
        listed_steps t (opened s block) rank ∙ ap (λ n. stepped n rank) is.1 ∙ node_ranked is.0 rs rank is.2

    -- also in front of others
    ranked : (rest : List Network) (rank : ℕ)
        → listed_step t (opened_series s (block ∷ rest)) rank ≡ option_map (led_by rest) (slice_get rs rank)
    ranked rest rank =
        listed_in_front t (opened s block) (series_of rest) rank has_nodes
        ∙ ap (option_map (λ d. with_behind d (series_of rest))) (alone_ranked rank)
        ∙ by (slice_get rs rank)
      where
        by : (o : Option (Rule State Network))
            → option_map (λ d. with_behind d (series_of rest)) (option_map leads_to o) ≡ option_map (led_by rest) o
        by None = refl
        by (Some r) = ap Some (ap (opened r.state) (series_join.joined r.blocks rest))

-- the rules of a node alone are those of the node
pub lone_are_nodes : (t : Task) → LoneAreNodes t
lone_are_nodes t s x = refl

-- a rank leads where the rule at its place does
pub rules_are_ranked : (t : Task) → RulesAreRanked t
rules_are_ranked t s block rest rs rank known = ranked t s block rs known rest rank

-- so they are rules
pub rules_alone : (t : Task) → AreRulesAlone (listed_step t) (lone_rules t)
rules_alone t s block rs known = (
  has_nodes t s block rs known,
  λ number next h. by number next (slice_get rs number) refl (sym (alone_ranked t s block rs known number) ∙ h),
)
  where
    by : (number : ℕ) (next : Config) (o : Option (Rule State Network)) → slice_get rs number ≡ o
        → option_map leads_to o ≡ Some next
        → (r : Rule State Network) × Contains rs r × (next ≡ opened_series r.state r.blocks)
    by number next None at h = absurd (none-some next h)
    by number next (Some r) at h = (r, stands_among rs number r at, sym (same_Some (leads_to r) next h))

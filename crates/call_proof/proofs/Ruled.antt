-- The rules of calls, by what their numbers stand for.
use Rattle.std.proofs.Common.{◌≡◌, ◌∙◌, ℕ, suc, ◌+◌, ◌<◌, ◌≤◌, true, cond, ◌&&◌, List, [], ◌∷◌, length, ◌==◌, map, get_or, slice_get, take, Option, Some, None, option_map, refl, sym, ap, subst, arith, eqb-true}
use Rattle.std.specs.Prelude.{Contains}
use Rattle.std.specs.List.{list_all}
use Rattle.std.proofs.lemmas.List.{take_all, take_more_same, get_or-map, length-map}
use Rattle.std.proofs.lemmas.List.Elements.{All-contains}
use Rattle.std.proofs.lemmas.Map.Views.{Contains-from_lookup}
use Rattle.std.proofs.lemmas.Option.{none-some, same_Some, slice_get_within, get_or_from_slice_get}
use Rattle.std.proofs.lemmas.Simd.{map-map}
use Rattle.htn_model.specs.Choice.{child_of}
use Rattle.htn_model.specs.Equality.{order_eq-decides}
use Rattle.htn_model.specs.Grounding.{problem_of}
use Rattle.htn_model.specs.Instance.{Instance}
use Rattle.htn_model.specs.Literal.{Literal}
use Rattle.htn_model.specs.Problem.{Child, precondition, action, task, GroundTask, Network, perform}
use Rattle.htn_model.specs.State.{State}
use Rattle.htn_model.specs.Task.{Task}
use Rattle.htn_order.specs.Shapes.{chain}
use Rattle.htn_ground.specs.Distinct.{distinct, live_methods}
use Rattle.state_table.specs.Table.{state_of}
use Rattle.htn_calls.specs.Calls as model
use Rattle.htn_calls.specs.Numbered.{rule_of}
use Rattle.htn_calls.proofs.Numbered.{mapped_in, in_mapped}
use Rattle.htn_calls.specs.Ordered.{ordered, lone}
use Rattle.call_table.specs.Lists.{list_at}
use Rattle.call_table.specs.Sites.{site_eq-decides}
use Rattle.call_table.specs.Views.{call_at, listing, numbers, rule_view, summary_view}
use Rattle.call_table.specs.declared.call.Call.{Call}
use Rattle.call_table.specs.declared.call.CallTable.{CallTable}
use Rattle.call_table.specs.declared.call.Rule.{Rule}
use Rattle.call_table.specs.declared.site.Site.{Site}
use Rattle.call_nodes.specs.Nodes.{AreListsOf, AreNodes, AreNumbersOf, IsListOf, IsOperator, LeadsTo, children, state_at}
use Rattle.call_nodes.specs.declared.operator.Operator.{Operator}
use Rattle.call_nodes.specs.declared.operator.Operator.TheVariants.{Unlisted, Task as Listed, Partly, Step, Action as Acts, Never}
use Rattle.call_nodes.specs.declared.call_nodes.CallNodes.{CallNodes}
use Rattle.call_rules.specs.Lone.{is_total, node_rules, rule_into, rules_after}
use Rattle.call_rules.specs.Tables.{AreSites}
use Rattle.call_proof.specs.Meaning.{AreRules, AreRulesAt, AreRulesInto, IsCarriedOut, block_at, meant, node_at}
use Rattle.call_proof.proofs.Numbers.{one_node, one_state}

-- ## Steps and actions

-- a list of one rule
pub one_rule : (rules : List Rule) (d : Rule) → length rules ≡ 1 → rules ≡ get_or rules 0 d ∷ []
one_rule [] d one = absurd (omega arith)
one_rule (r ∷ []) d one = refl
one_rule (r ∷ q ∷ rules) d one = absurd (omega arith)

-- a list of none
pub no_rule : (rules : List Rule) → (length rules == 0) ≡ true → rules ≡ []
no_rule [] none = refl
no_rule (r ∷ rules) none = absurd (let zero : suc (length rules) ≡ 0 = eqb-true (suc (length rules)) 0 none in omega arith)

-- rules that lead to a state stand for the rules into it
pub into_meant : (n : CallNodes) (rules : List Rule) (after : Option (List ℕ)) → AreRulesInto n.lists n.states rules after
    → rules_after (option_map (state_of n.atoms) after) ≡ meant n rules
into_meant n rules None are = ap (meant n) (sym are)
into_meant n rules (Some words) are =
    let r = are.0 in
    let state : state_of n.atoms words ≡ state_at n r.state =
    ap (state_of n.atoms) (sym (get_or_from_slice_get n.states r.state words [] are.2)) in
    let blocks : [] ≡ map (block_at n) (list_at n.lists r.blocks) = ap (map (block_at n)) (sym are.3) in
    let one : rules_after (Some (state_of n.atoms words)) ≡ meant n (r ∷ []) =
    ap (λ (s : State). rules_after (Some s)) state
    ∙ ap (λ (bs : List Network). rule_alone (state_at n r.state) bs) blocks in
    one ∙ ap (meant n) (sym are.1)
  where
    rule_alone : State → List Network → List (model.Rule State Network)
    rule_alone s bs = record { state = s; blocks = bs } ∷ []

-- where a node is carried out, its rules are those into the state after it
pub performed : (t : Task) (n : CallNodes) (i j : ℕ) (rules : List Rule) (after : Option (List ℕ))
    → LeadsTo t n j i (option_map (state_of n.atoms) after) → AreRulesInto n.lists n.states rules after
    → (x : Child) → slice_get (children n) j ≡ Some x → i < length n.states
    → rules_after (perform (problem_of t) (state_at n i) x) ≡ meant n rules
performed t n i j rules after leads are x at inside = ap rules_after (sym (leads x at inside)) ∙ into_meant n rules after are

-- the node of a number
pub node_is : (n : CallNodes) (j : ℕ) (x : Child) → slice_get (children n) j ≡ Some x → node_at n j ≡ x
node_is n j x at = get_or_from_slice_get (children n) j x (precondition []) at

module _ (t : Task) (n : CallNodes) (i j : ℕ) (rules : List Rule) (inside : i < length n.states) (x : Child)
    (at : slice_get (children n) j ≡ Some x) where
  -- the rules of the node of a number, by the node
  pub rules_at : node_rules t (state_at n i) x ≡ Some (meant n rules) → AreRulesAt n t i j rules
  rules_at are = record {
    state = inside;
    node = slice_get_within (children n) j x at;
    rules_of = ap (node_rules t (state_at n i)) (node_is n j x at) ∙ are;
  }

  -- of a step, and of an action
  pub step_rules : (literals : List Literal) → x ≡ precondition literals
      → rules_after (perform (problem_of t) (state_at n i) x) ≡ meant n rules → AreRulesAt n t i j rules
  step_rules literals is are =
      rules_at
      (ap (node_rules t (state_at n i)) is
      ∙ ap (λ y. Some (rules_after (perform (problem_of t) (state_at n i) y))) (sym is) ∙ ap Some are)

  pub action_rules : (g : GroundTask) → x ≡ action g
      → rules_after (perform (problem_of t) (state_at n i) x) ≡ meant n rules → AreRulesAt n t i j rules
  action_rules g is are =
      rules_at
      (ap (node_rules t (state_at n i)) is
      ∙ ap (λ y. Some (rules_after (perform (problem_of t) (state_at n i) y))) (sym is) ∙ ap Some are)

  -- of each node that is carried out
  pub carried_rules : (o : Operator) → IsCarriedOut o → IsOperator t n.atoms (children n) n.lists x o
      → rules_after (perform (problem_of t) (state_at n i) x) ≡ meant n rules → AreRulesAt n t i j rules
  carried_rules Unlisted carried is are = absurd carried
  carried_rules (Listed numbers) carried is are = absurd carried
  carried_rules Partly carried is are = absurd carried
  carried_rules (Step literals) carried is are = step_rules is.0 is.1 are
  carried_rules (Acts compiled) carried is are = action_rules is.0 is.2 are
  carried_rules Never carried is are = action_rules is.0 is.1 are

-- ## Compound tasks

-- the nodes of numbers
pub nodes_are : (known : List Child) (numbers : List ℕ) (nodes : List Child) → AreNumbersOf known numbers nodes
    → map (child_of known) numbers ≡ nodes
nodes_are known [] [] are = refl
nodes_are known [] (x ∷ xs) are = absurd are
nodes_are known (k ∷ ks) [] are = absurd are
nodes_are known (k ∷ ks) (x ∷ xs) are =
    let here : child_of known k ≡ x = get_or_from_slice_get known k x (precondition []) are.0 in
    ap (λ y. y ∷ map (child_of known) ks) here ∙ ap (λ ys. x ∷ ys) (nodes_are known ks xs are.1)

-- a network that is that of its nodes is totally ordered
ordered_total : (network : Network) → network ≡ ordered network.children → is_total network ≡ true
ordered_total network is =
    (order_eq-decides network.order (chain (length network.children))).1 (ap (λ (m : Network). m.order) is)

-- a rule that leads to a list, and leaves the state of a number
abbrev pub into : ℕ → ℕ → Rule
into i number = record { state = i; blocks = number }

module _ (n : CallNodes) (s : State) where
  -- the nodes of an instance, each alone
  instance_meant : (number : ℕ) (instance : Instance) → IsListOf (children n) n.lists number instance.network
      → map lone instance.network.children ≡ map (block_at n) (list_at n.lists number)
  instance_meant number instance is =
      ap (map lone) (sym (nodes_are (children n) (list_at n.lists number) instance.network.children is.nodes))
      ∙ map-map lone (node_at n) (list_at n.lists number)

  -- the lists of instances that leave a state stand for their rules
  pub instances_meant : (i : ℕ) → state_at n i ≡ s → (lists : List ℕ) (instances : List Instance)
      → AreListsOf (children n) n.lists lists instances → map (rule_into s) instances ≡ meant n (map (into i) lists)
  instances_meant i at [] [] are = refl
  instances_meant i at [] (x ∷ xs) are = absurd are
  instances_meant i at (k ∷ ks) [] are = absurd are
  instances_meant i at (k ∷ ks) (x ∷ xs) are =
      let rest = instances_meant i at ks xs are.1 in
      let blocks = instance_meant k x are.0 in
      ap (λ rs. rule_into s x ∷ rs) rest ∙ ap (λ r. r ∷ meant n (map (into i) ks)) (one blocks)
    where
      one : {bs : List Network} → map lone x.network.children ≡ bs
          → rule_into s x ≡ record { state = state_at n i; blocks = bs }
      one same = λ e. record { state = sym at e; blocks = same e }

  -- instances that have lists are totally ordered
  pub instances_total : (lists : List ℕ) (instances : List Instance) → AreListsOf (children n) n.lists lists instances
      → list_all (λ (x : Instance). is_total x.network) instances ≡ true
  instances_total [] [] are = refl
  instances_total [] (x ∷ xs) are = absurd are
  instances_total (k ∷ ks) [] are = absurd are
  instances_total (k ∷ ks) (x ∷ xs) are =
      ap (λ b. b && list_all (λ (y : Instance). is_total y.network) xs) (ordered_total x.network are.0.in_order)
      ∙ instances_total ks xs are.1

-- these are the lists of the operator of a task
abbrev pub IsListed : Operator → List ℕ → Type 0
IsListed Unlisted lists = ⊥
IsListed (Listed numbers) lists = numbers.items ≡ lists
IsListed Partly lists = ⊥
IsListed (Step literals) lists = ⊥
IsListed (Acts compiled) lists = ⊥
IsListed Never lists = ⊥

-- so are the rules of a task
pub task_rules : (t : Task) (n : CallNodes) (i j : ℕ) (rules : List Rule) (lists : List ℕ) (g : GroundTask) (x : Child)
    → i < length n.states → slice_get (children n) j ≡ Some x → x ≡ task g
    → AreListsOf (children n) n.lists lists (distinct (live_methods t g)) → rules ≡ map (into i) lists
    → AreRulesAt n t i j rules
task_rules t n i j rules lists g x inside at is are same =
    let instances = distinct (live_methods t g) in
    let s = state_at n i in
    rules_at t n i j rules inside x at
    (ap (node_rules t s) is
    ∙ ap (λ b. cond b (Some (map (rule_into s) instances)) None) (instances_total n s lists instances are)
    ∙ ap Some (instances_meant n s i refl lists instances are ∙ ap (meant n) (sym same)))

-- of a task by its operator
pub listed_rules : (t : Task) (n : CallNodes) (i j : ℕ) (rules : List Rule) (x : Child) (o : Operator) (lists : List ℕ)
    → i < length n.states → slice_get (children n) j ≡ Some x → IsOperator t n.atoms (children n) n.lists x o
    → IsListed o lists → rules ≡ map (into i) lists → AreRulesAt n t i j rules
listed_rules t n i j rules x Unlisted lists inside at is listed same = absurd listed
listed_rules t n i j rules x (Listed numbers) lists inside at is listed same =
    task_rules t n i j rules lists is.0 x inside at is.1
    (subst (λ ls. AreListsOf (children n) n.lists ls (distinct (live_methods t is.0))) listed is.2) same
listed_rules t n i j rules x Partly lists inside at is listed same = absurd listed
listed_rules t n i j rules x (Step literals) lists inside at is listed same = absurd listed
listed_rules t n i j rules x (Acts compiled) lists inside at is listed same = absurd listed
listed_rules t n i j rules x Never lists inside at is listed same = absurd listed

-- one more rule that leads to its list
pub one_more_into : (state : ℕ) (rules : List Rule) (lists : List ℕ) (k : ℕ) (d : Rule) (e : ℕ) → k < length rules
    → length rules ≡ length lists → (get_or rules k d).state ≡ state → (get_or rules k d).blocks ≡ get_or lists k e
    → take k rules ≡ take k (map (into state) lists) → take (k + 1) rules ≡ take (k + 1) (map (into state) lists)
one_more_into state rules lists k d e inside as_many same_state same_blocks before =
    let same : get_or rules k d ≡ into state (get_or lists k e) =
    λ i. record { state = same_state i; blocks = same_blocks i } in
    take_more_same rules (map (into state) lists) k d inside (omega (arith, length-map lists (into state))) before
    (same ∙ sym (get_or-map (into state) lists k e d (omega arith)))

-- all of them, once each was looked at
pub all_into : (state : ℕ) (rules : List Rule) (lists : List ℕ) (k : ℕ) → length rules ≤ k → length rules ≡ length lists
    → take k rules ≡ take k (map (into state) lists) → rules ≡ map (into state) lists
all_into state rules lists k past as_many same =
    sym (take_all k rules past) ∙ same
    ∙ take_all k (map (into state) lists) (omega (arith, length-map lists (into state)))

-- ## The table

-- an image that is there is that of something
mapped : {A B : Type 0} (f : A → B) (o : Option A) (y : B) → option_map f o ≡ Some y → (x : A) × (o ≡ Some x) × (f x ≡ y)
mapped f None y h = absurd (none-some y h)
mapped f (Some x) y h = (x, refl, same_Some (f x) y h)

module _ (t : Task) (n : CallNodes) (table : CallTable) (are : AreRules n t table) where
  -- a call that is looked up is one of the table
  called : (i j : ℕ) (call : Call) → call_at table i j ≡ Some call
      → Contains table.calls.entries (record { state = i; number = j }, call)
  called i j call at =
      Contains-from_lookup (λ p q. (site_eq-decides p q).0) (record { state = i; number = j }) call table.calls.entries at

  -- so its rules are those of its node
  pub rules_are : (i j : ℕ) (call : Call) → call_at table i j ≡ Some call → AreRulesAt n t i j call.rules.items
  rules_are i j call at =
      All-contains (λ (p : Site × Call). AreRulesAt n t p.0.state p.0.number p.1.rules.items) table.calls.entries
      (record { state = i; number = j }, call) are (called i j call at)

  -- by numbers too
  pub ruled : (i j : ℕ) (rs : List (model.Rule ℕ ℕ)) → numbers n.lists table i j ≡ Some rs
      → node_rules t (state_at n i) (node_at n j) ≡ Some (map (rule_of (state_at n) (block_at n)) rs)
  ruled i j rs known =
      let call = mapped (λ (c : Call). map (rule_view n.lists) c.rules.items) (call_at table i j) rs known in
      let rules = rules_are i j call.0 call.1 in
      rules.rules_of
      ∙ ap Some (sym (map-map (rule_of (state_at n) (block_at n)) (rule_view n.lists) call.0.rules.items))
      ∙ ap (λ xs. Some (map (rule_of (state_at n) (block_at n)) xs)) call.2

  -- the sites of the table
  abbrev site_of : Site × Call → ℕ × ℕ
  site_of p = (p.0.state, p.0.number)

  abbrev pub sites : List (ℕ × ℕ)
  sites = map site_of table.calls.entries

  -- their states and nodes have numbers
  inside : (p : ℕ × ℕ) → Contains sites p → (p.0 < length n.states) × (p.1 < length (children n))
  inside p there =
      let from = in_mapped site_of p table.calls.entries there in
      let rules : AreRulesAt n t from.0.0.state from.0.0.number from.0.1.rules.items =
      All-contains (λ (q : Site × Call). AreRulesAt n t q.0.state q.0.number q.1.rules.items) table.calls.entries
      from.0 are from.1 in
      subst (λ (q : ℕ × ℕ). (q.0 < length n.states) × (q.1 < length (children n))) from.2 (rules.state, rules.node)

  -- no two of them stand for the same
  pub at_sites : AreNodes t n → AreSites (state_at n) (block_at n) (listing table) sites
  at_sites own = record {
    listed = λ i j u at.
        (let call = mapped summary_view (call_at table i j) u at in
        mapped_in site_of (record { state = i; number = j }, call.0) table.calls.entries (called i j call.0 call.1));
    apart = λ p q one other states blocks.
        (let p_in = inside p one in
        let q_in = inside q other in
        let first = one_state n.atoms n.states own.atoms.table own.sets own.states_apart p.0 q.0 p_in.0 q_in.0 states in
        let second = one_node (children n) own.nodes_apart p.1 q.1 p_in.1 q_in.1 blocks in
        λ e. (first e, second e));
  }

-- What is used stays so as more is.
use Rattle.std.proofs.Common.{◌≡◌, ℕ, ◌+◌, ◌<◌, ◌≤◌, Bool, true, false, ◌||◌, List, [], ◌∷◌, ◌++◌, length, take, get_or, slice_get, Option, Some, None, refl, sym, ap, ◌∙◌, subst, arith, nat_eq, inl, inr, if◌then◌else◌}
use Rattle.std.specs.List.{All, list_all, list_any}
use Rattle.std.proofs.lemmas.Bool.{and_from, and_parts, eq-eqb}
use Rattle.std.proofs.lemmas.List.{take-append-le, take_all, take_more}
use Rattle.std.proofs.lemmas.List.Elements.{All-push, All-weaker}
use Rattle.std.proofs.lemmas.List.Folds.{list_all-map, list_all_more, list_any-append}
use Rattle.std.proofs.lemmas.Option.{get_or_from_slice_get, none-some, slice_get_cases, slice_get_within}
use Rattle.indexmap.specs.IndexSet.{insert_key}
use Rattle.htn_model.specs.Instance.{Instance}
use Rattle.htn_model.specs.Problem.{Child, precondition, action, task, GroundTask, ground_task_eq}
use Rattle.htn_model.specs.Task.{Task}
use Rattle.htn_ground.specs.Distinct.{live_methods}
use Rattle.htn_ground.specs.Views.{child_view, children_of}
use Rattle.htn_ground.specs.declared.child.Child.{Child as Node}
use Rattle.task_graph.specs.Graph.{IsGrown}
use Rattle.heuristics.specs.ReachTables.{is_among}
use Rattle.heuristics.proofs.ReachLists.{all_more, all_taken}
use Rattle.task_graph.proofs.Ids.{grown_at, grown_itself, grown_then}
use Rattle.task_graph.proofs.Sets.{put_among}
use Rattle.never_applied.specs.Fine.{IsInstanceUsed, IsMore, IsStartUsed, IsTaskUsed}
use Rattle.never_applied.specs.Used.{has_method, has_node}
use Rattle.never_applied.specs.declared.fine.Fine.{Fine}
use Rattle.never_applied.specs.declared.usable.Usable.{Usable}

-- a list grows when one more is put in
pub put_more : {X : Type 0} (eq : X → X → Bool) (keys : List X) (x : X) → IsGrown keys (insert_key eq keys x)
put_more eq keys x = elim (list_any (eq x) keys) as (λ b. IsGrown keys (if b then keys else keys ++ x ∷ [])) [
  | true ↦ grown_itself keys
  | false ↦ (x ∷ [], refl)
]

-- a number that is put in is there
pub number_put : (keys : List ℕ) (x : ℕ) → list_any (nat_eq x) (insert_key nat_eq keys x) ≡ true
number_put keys x = by (list_any (nat_eq x) keys) refl
  where
    or_true : (a : Bool) → (a || true) ≡ true
    or_true true = refl
    or_true false = refl

    by : (b : Bool) → list_any (nat_eq x) keys ≡ b → list_any (nat_eq x) (if b then keys else keys ++ x ∷ []) ≡ true
    by true e = e
    by false e = list_any-append (nat_eq x) keys (x ∷ []) ∙ ap (λ b. list_any (nat_eq x) keys || (b || false)) (eq-eqb x x refl) ∙ or_true (list_any (nat_eq x) keys)

-- one that passes is there in a grown list
any_grown : {X : Type 0} (test : X → Bool) (old new : List X) → IsGrown old new → list_any test old ≡ true → list_any test new ≡ true
any_grown test old new grown any = ap (list_any test) grown.1 ∙ list_any-append test old grown.0 ∙ ap (λ b. b || list_any test grown.0) any

-- from the same
pub more_itself : (u : Usable) → IsMore u u
more_itself u = record {
  tasks = grown_itself u.tasks.keys;
  actions = grown_itself u.actions.keys;
  names = grown_itself u.names.keys;
  methods = grown_itself u.methods.keys;
}

-- one after the other
pub more_then : (a b c : Usable) → IsMore a b → IsMore b c → IsMore a c
more_then a b c first second = record {
  tasks = grown_then a.tasks.keys b.tasks.keys c.tasks.keys first.tasks second.tasks;
  actions = grown_then a.actions.keys b.actions.keys c.actions.keys first.actions second.actions;
  names = grown_then a.names.keys b.names.keys c.names.keys first.names second.names;
  methods = grown_then a.methods.keys b.methods.keys c.methods.keys first.methods second.methods;
}

module _ (old new : Usable) (more : IsMore old new) where
  -- a node that is used
  pub node_more : (x : Child) → has_node old x ≡ true → has_node new x ≡ true
  node_more (precondition literals) has = refl
  node_more (action g) has =
      let parts = and_parts (is_among old.actions.keys g) (list_any (nat_eq g.name) old.names.keys) has in
      and_from _ _ (any_grown (ground_task_eq g) old.actions.keys new.actions.keys more.actions parts.0) (any_grown (nat_eq g.name) old.names.keys new.names.keys more.names parts.1)
  node_more (task g) has = any_grown (ground_task_eq g) old.tasks.keys new.tasks.keys more.tasks has

  -- several nodes
  pub nodes_more : (xs : List Child) → list_all (has_node old) xs ≡ true → list_all (has_node new) xs ≡ true
  nodes_more [] all = refl
  nodes_more (x ∷ xs) all = let parts = and_parts _ _ all in and_from _ _ (node_more x parts.0) (nodes_more xs parts.1)

  -- a method
  pub method_more : (m : Option ℕ) → has_method old m ≡ true → has_method new m ≡ true
  method_more None has = refl
  method_more (Some m) has = any_grown (nat_eq m) old.methods.keys new.methods.keys more.methods has

  module _ (f : Fine) where
    -- an instance
    pub instance_more : (i : Instance) → IsInstanceUsed f old i → IsInstanceUsed f new i
    instance_more i has fine =
        let parts = and_parts (has_method old i.method) (list_all (has_node old) i.network.children) (has fine) in
        and_from _ _ (method_more i.method parts.0) (nodes_more i.network.children parts.1)

    -- initial networks
    pub starts_more : (xs : List Instance) → All (IsStartUsed f old) xs → All (IsStartUsed f new) xs
    starts_more xs all = All-weaker (IsStartUsed f old) (IsStartUsed f new) (λ i has fine. nodes_more i.network.children (has fine)) xs all

    -- live instances
    pub task_more : (t : Task) (g : GroundTask) → IsTaskUsed t f old g → IsTaskUsed t f new g
    task_more t g all = All-weaker (IsInstanceUsed f old) (IsInstanceUsed f new) instance_more (live_methods t g) all

    -- one more of the tasks
    pub tasks_more : (t : Task) (place : ℕ) (g : GroundTask) → slice_get old.tasks.keys place ≡ Some g → All (IsTaskUsed t f old) (take place old.tasks.keys) → IsTaskUsed t f new g
        → All (IsTaskUsed t f new) (take (place + 1) new.tasks.keys)
    tasks_more t place g at all here =
        let there : slice_get new.tasks.keys place ≡ Some g = grown_at old.tasks.keys new.tasks.keys place g more.tasks at in
        let next : take (place + 1) new.tasks.keys ≡ take place new.tasks.keys ++ g ∷ [] =
        take_more new.tasks.keys place g (slice_get_within new.tasks.keys place g there) ∙ ap (λ y. take place new.tasks.keys ++ y ∷ []) (get_or_from_slice_get new.tasks.keys place g g there) in
        let before : take place new.tasks.keys ≡ take place old.tasks.keys =
        ap (take place) more.tasks.1 ∙ take-append-le place old.tasks.keys more.tasks.0 (let low = slice_get_within old.tasks.keys place g at in omega arith) in
        subst (All (IsTaskUsed t f new)) (sym (next ∙ ap (λ l. l ++ g ∷ []) before))
        (All-push (IsTaskUsed t f new) (take place old.tasks.keys) g (All-weaker (IsTaskUsed t f old) (IsTaskUsed t f new) (task_more t) (take place old.tasks.keys) all) here)

-- ## One more of something

-- one that is another with one more put in has grown from it
pub put_grown : {X : Type 0} (eq : X → X → Bool) (old new : List X) (x : X) → new ≡ insert_key eq old x → IsGrown old new
put_grown eq old new x put = subst (IsGrown old) (sym put) (put_more eq old x)

-- a ground task that was put in is there
pub task_in : (old new : List GroundTask) (g : GroundTask) → new ≡ insert_key ground_task_eq old g → is_among new g ≡ true
task_in old new g put = ap (list_any (ground_task_eq g)) put ∙ put_among old g

-- so is a number
pub number_in : (old new : List ℕ) (n : ℕ) → new ≡ insert_key nat_eq old n → list_any (nat_eq n) new ≡ true
number_in old new n put = ap (list_any (nat_eq n)) put ∙ number_put old n

-- ## Nodes in turn

-- all of some nodes once all were taken
pub nodes_taken : (u : Usable) (nodes : List Node) (k : ℕ) → length nodes ≤ k → list_all (has_node u) (children_of (take k nodes)) ≡ true → list_all (has_node u) (children_of nodes) ≡ true
nodes_taken u nodes k past all = subst (λ (l : List Node). list_all (has_node u) (children_of l) ≡ true) (take_all k nodes past) all

-- one more of them
pub nodes_next : (old new : Usable) → IsMore old new → (nodes : List Node) (k : ℕ) (item : Node) → k < length nodes → item ≡ get_or nodes k item
    → list_all (has_node old) (children_of (take k nodes)) ≡ true → has_node new (child_view item) ≡ true → list_all (has_node new) (children_of (take (k + 1) nodes)) ≡ true
nodes_next old new more nodes k item low is all here =
    let test = λ (x : Node). has_node new (child_view x) in
    let before : list_all test (take k nodes) ≡ true =
    sym (list_all-map (has_node new) child_view (take k nodes)) ∙ nodes_more old new more (children_of (take k nodes)) all in
    let there : test (get_or nodes k item) ≡ true = subst (λ (x : Node). test x ≡ true) is here in
    list_all-map (has_node new) child_view (take (k + 1) nodes) ∙ list_all_more test nodes k item low ∙ and_from _ _ before there

-- ## Instances in turn

-- one more instance with its number
pub instances_next : (old new : Usable) → IsMore old new → (f : Fine) (items : List (Option ℕ × Instance)) (k : ℕ) (item : Option ℕ × Instance) → k < length items → item ≡ get_or items k item
    → All (λ p. IsInstanceUsed f old p.1) (take k items) → IsInstanceUsed f new item.1 → All (λ p. IsInstanceUsed f new p.1) (take (k + 1) items)
instances_next old new more f items k item low is all here =
    all_more (λ p. IsInstanceUsed f new p.1) items k item low is
    (All-weaker (λ p. IsInstanceUsed f old p.1) (λ p. IsInstanceUsed f new p.1) (λ p. instance_more old new more f p.1) (take k items) all) here

-- one more initial network
pub starts_next : (old new : Usable) → IsMore old new → (f : Fine) (items : List Instance) (k : ℕ) (item : Instance) → k < length items → item ≡ get_or items k item
    → All (IsStartUsed f old) (take k items) → IsStartUsed f new item → All (IsStartUsed f new) (take (k + 1) items)
starts_next old new more f items k item low is all here = all_more (IsStartUsed f new) items k item low is (starts_more old new more f (take k items) all) here

-- what holds of all before a place where there is none holds of all
pub all_before : {X : Type 0} (P : X → Type 0) (xs : List X) (n : ℕ) → slice_get xs n ≡ None → All P (take n xs) → All P xs
all_before P xs n none all = elim ((slice_get_cases xs n).1) [
  | inl f ↦ absurd (none-some f.0 (sym none ∙ f.2))
  | inr p ↦ all_taken P xs n p.0 all
]

-- The tests of equality are true exactly of equal values, and so they have the laws of `==`.
use Rattle.std.specs.Prelude.{◌≡◌, ℕ, true, Option, Some, None, refl, nat_eq}
use Rattle.std.specs.Bool.{Decides}
use Rattle.std.specs.Cmp.{IsEquivalence, IsPartialEquivalence, partial_equiv_from_equiv, unsigned_Decides, booleans_Decides, decided, first_so, second_so}
use Rattle.std.specs.Cmp.Lexicographic.{pointwise_decides}
use Rattle.std.specs.Option.{option_eq}
use Rattle.std.proofs.Common.{ap, ap₂, sym, ◌∙◌}
use Rattle.htn_model.specs.Atom.{Atom, atom_eq}
use Rattle.htn_model.specs.State.{State, state_eq}
use Rattle.htn_model.specs.AtomOrder.{both_true, atom_eq-decides, state_eq-decides}
use Rattle.htn_model.specs.Literal.{Literal, atom, equality, literal_eq}
use Rattle.htn_model.specs.Problem.{GroundTask, ground_task_eq, Child, precondition, action, task, child_eq, Order, order_eq, Network, network_eq}
use Rattle.htn_model.specs.Instance.{Instance, instance_eq}
use Rattle.htn_model.specs.Machine.{Config, config_eq}

-- ## Literals

-- literals that the test finds equal are equal
same_literal : (l m : Literal) → literal_eq l m ≡ true → l ≡ m
same_literal (atom p a) (atom q b) e = ap₂ atom ((booleans_Decides p q).0 (first_so _ _ e)) ((atom_eq-decides a b).0 (second_so _ _ e))
same_literal (atom p a) (equality q x y) e = absurd cc
same_literal (equality p x y) (atom q b) e = absurd cc
same_literal (equality p x y) (equality q v w) e =
    let sign = (booleans_Decides p q).0 (first_so _ _ e) in
    let sides = second_so _ _ e in
    let left = (unsigned_Decides x v).0 (first_so _ _ sides) in
    let right = (unsigned_Decides y w).0 (second_so _ _ sides) in
    λ i. equality (sign i) (left i) (right i)

-- the test finds a literal equal to itself
literal_itself : (l : Literal) → literal_eq l l ≡ true
literal_itself (atom p a) = both_true _ _ ((booleans_Decides p p).1 refl) ((atom_eq-decides a a).1 refl)
literal_itself (equality p x y) = both_true _ _ ((booleans_Decides p p).1 refl) (both_true _ _ ((unsigned_Decides x x).1 refl) ((unsigned_Decides y y).1 refl))

-- the test of literals is true exactly of equal literals
pub literal_eq-decides : (l m : Literal) → Decides (literal_eq l m) (l ≡ m)
literal_eq-decides l m = (same_literal l m, λ e. sym (ap (literal_eq l) e) ∙ literal_itself l)

-- the test of literals is an equivalence
pub literal_eq-laws : IsEquivalence literal_eq
literal_eq-laws = decided literal_eq literal_eq-decides

-- the test of literals is an equivalence in the sense of `PartialEq`
pub literal_eq-partial : IsPartialEquivalence literal_eq
literal_eq-partial = partial_equiv_from_equiv literal_eq-laws

-- ## Ground tasks

-- the test of ground tasks is true exactly of equal ground tasks
pub ground_task_eq-decides : (g h : GroundTask) → Decides (ground_task_eq g h) (g ≡ h)
ground_task_eq-decides g h =
    let names = unsigned_Decides g.name h.name in
    let arguments = pointwise_decides unsigned_Decides g.arguments h.arguments in (
      λ e. let name = names.0 (first_so _ _ e) in
          let values = arguments.0 (second_so _ _ e) in
          λ i. record { name = name i; arguments = values i },
      λ e. both_true _ _ (names.1 (ap (λ (t : GroundTask). t.name) e)) (arguments.1 (ap (λ (t : GroundTask). t.arguments) e)),
    )

-- the test of ground tasks is an equivalence
pub ground_task_eq-laws : IsEquivalence ground_task_eq
ground_task_eq-laws = decided ground_task_eq ground_task_eq-decides

-- the test of ground tasks is an equivalence in the sense of `PartialEq`
pub ground_task_eq-partial : IsPartialEquivalence ground_task_eq
ground_task_eq-partial = partial_equiv_from_equiv ground_task_eq-laws

-- ## Children

-- nodes of a network that the test finds equal are equal
same_child : (x y : Child) → child_eq x y ≡ true → x ≡ y
same_child (precondition ls) (precondition ms) e = ap precondition ((pointwise_decides literal_eq-decides ls ms).0 e)
same_child (precondition ls) (action h) e = absurd cc
same_child (precondition ls) (task u) e = absurd cc
same_child (action g) (precondition ms) e = absurd cc
same_child (action g) (action h) e = ap action ((ground_task_eq-decides g h).0 e)
same_child (action g) (task u) e = absurd cc
same_child (task t) (precondition ms) e = absurd cc
same_child (task t) (action h) e = absurd cc
same_child (task t) (task u) e = ap task ((ground_task_eq-decides t u).0 e)

-- the test finds a node of a network equal to itself
child_itself : (x : Child) → child_eq x x ≡ true
child_itself (precondition ls) = (pointwise_decides literal_eq-decides ls ls).1 refl
child_itself (action g) = (ground_task_eq-decides g g).1 refl
child_itself (task t) = (ground_task_eq-decides t t).1 refl

-- the test of nodes of a network is true exactly of equal nodes
pub child_eq-decides : (x y : Child) → Decides (child_eq x y) (x ≡ y)
child_eq-decides x y = (same_child x y, λ e. sym (ap (child_eq x) e) ∙ child_itself x)

-- the test of nodes of a network is an equivalence
pub child_eq-laws : IsEquivalence child_eq
child_eq-laws = decided child_eq child_eq-decides

-- the test of nodes of a network is an equivalence in the sense of `PartialEq`
pub child_eq-partial : IsPartialEquivalence child_eq
child_eq-partial = partial_equiv_from_equiv child_eq-laws

-- ## Orders and networks

-- the test of orders is true exactly of equal orders
pub order_eq-decides : (o p : Order) → Decides (order_eq o p) (o ≡ p)
order_eq-decides = pointwise_decides (pointwise_decides booleans_Decides)

-- the test of orders is an equivalence
pub order_eq-laws : IsEquivalence order_eq
order_eq-laws = decided order_eq order_eq-decides

-- the test of orders is an equivalence in the sense of `PartialEq`
pub order_eq-partial : IsPartialEquivalence order_eq
order_eq-partial = partial_equiv_from_equiv order_eq-laws

-- the test of networks is true exactly of equal networks
pub network_eq-decides : (m n : Network) → Decides (network_eq m n) (m ≡ n)
network_eq-decides m n =
    let children = pointwise_decides child_eq-decides m.children n.children in
    let orders = order_eq-decides m.order n.order in (
      λ e. let nodes = children.0 (first_so _ _ e) in
          let order = orders.0 (second_so _ _ e) in
          λ i. record { children = nodes i; order = order i },
      λ e. both_true _ _ (children.1 (ap (λ (x : Network). x.children) e)) (orders.1 (ap (λ (x : Network). x.order) e)),
    )

-- the test of networks is an equivalence
pub network_eq-laws : IsEquivalence network_eq
network_eq-laws = decided network_eq network_eq-decides

-- the test of networks is an equivalence in the sense of `PartialEq`
pub network_eq-partial : IsPartialEquivalence network_eq
network_eq-partial = partial_equiv_from_equiv network_eq-laws

-- ## Instances

-- optional numbers that the test finds equal are equal
same_number : (o p : Option ℕ) → option_eq nat_eq o p ≡ true → o ≡ p
same_number None None e = refl
same_number None (Some y) e = absurd cc
same_number (Some x) None e = absurd cc
same_number (Some x) (Some y) e = ap Some ((unsigned_Decides x y).0 e)

-- the test finds an optional number equal to itself
number_itself : (o : Option ℕ) → option_eq nat_eq o o ≡ true
number_itself None = refl
number_itself (Some x) = (unsigned_Decides x x).1 refl

-- the test of instances is true exactly of equal instances
pub instance_eq-decides : (x y : Instance) → Decides (instance_eq x y) (x ≡ y)
instance_eq-decides x y =
    let values = pointwise_decides unsigned_Decides x.values y.values in
    let networks = network_eq-decides x.network y.network in (
      λ e. let both = first_so _ _ e in
          let method = same_number x.method y.method (first_so _ _ both) in
          let value = values.0 (second_so _ _ both) in
          let network = networks.0 (second_so _ _ e) in
          λ i. record { method = method i; values = value i; network = network i },
      λ e. both_true _ _
          (both_true _ _ (sym (ap (λ (i : Instance). option_eq nat_eq x.method i.method) e) ∙ number_itself x.method) (values.1 (ap (λ (i : Instance). i.values) e)))
          (networks.1 (ap (λ (i : Instance). i.network) e)),
    )

-- the test of instances is an equivalence
pub instance_eq-laws : IsEquivalence instance_eq
instance_eq-laws = decided instance_eq instance_eq-decides

-- the test of instances is an equivalence in the sense of `PartialEq`
pub instance_eq-partial : IsPartialEquivalence instance_eq
instance_eq-partial = partial_equiv_from_equiv instance_eq-laws

-- ## Configurations

-- the test of configurations is true exactly of equal configurations
pub config_eq-decides : (c d : Config) → Decides (config_eq c d) (c ≡ d)
config_eq-decides c d =
    let states = state_eq-decides c.state d.state in
    let children = pointwise_decides child_eq-decides c.open_nodes d.open_nodes in
    let orders = order_eq-decides c.order d.order in (
      λ e. let both = first_so _ _ e in
          let state = states.0 (first_so _ _ both) in
          let nodes = children.0 (second_so _ _ both) in
          let order = orders.0 (second_so _ _ e) in
          λ i. record { state = state i; open_nodes = nodes i; order = order i },
      λ e. both_true _ _
          (both_true _ _ (states.1 (ap (λ (x : Config). x.state) e)) (children.1 (ap (λ (x : Config). x.open_nodes) e)))
          (orders.1 (ap (λ (x : Config). x.order) e)),
    )

-- the test of configurations is an equivalence
pub config_eq-laws : IsEquivalence config_eq
config_eq-laws = decided config_eq config_eq-decides

-- the test of configurations is an equivalence in the sense of `PartialEq`
pub config_eq-partial : IsPartialEquivalence config_eq
config_eq-partial = partial_equiv_from_equiv config_eq-laws

-- ## All of them

-- each test of equality holds exactly of equal values
pub record TestsDecide : Type 0 where
  pub atoms : (x y : Atom) → Decides (atom_eq x y) (x ≡ y)
  pub states : (x y : State) → Decides (state_eq x y) (x ≡ y)
  pub literals : (x y : Literal) → Decides (literal_eq x y) (x ≡ y)
  pub ground_tasks : (x y : GroundTask) → Decides (ground_task_eq x y) (x ≡ y)
  pub children : (x y : Child) → Decides (child_eq x y) (x ≡ y)
  pub orders : (x y : Order) → Decides (order_eq x y) (x ≡ y)
  pub networks : (x y : Network) → Decides (network_eq x y) (x ≡ y)
  pub instances : (x y : Instance) → Decides (instance_eq x y) (x ≡ y)
  pub configs : (x y : Config) → Decides (config_eq x y) (x ≡ y)

-- each test of equality holds exactly of equal values
pub tests_decide : TestsDecide
tests_decide = record {
  atoms = atom_eq-decides;
  states = state_eq-decides;
  literals = literal_eq-decides;
  ground_tasks = ground_task_eq-decides;
  children = child_eq-decides;
  orders = order_eq-decides;
  networks = network_eq-decides;
  instances = instance_eq-decides;
  configs = config_eq-decides;
}

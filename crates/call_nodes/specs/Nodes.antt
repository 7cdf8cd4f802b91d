-- What nodes do, and which networks lists of them stand for.
use Rattle.std.specs.Prelude.{◌≡◌, ℕ, ◌<◌, ◌&&◌, not, List, [], length, map, Option, Some, None, get_or, slice_get}
use Rattle.std.specs.List.{AllZip}
use Rattle.htn_model.specs.Atom.{Atom}
use Rattle.htn_model.specs.Grounding as ground
use Rattle.htn_model.specs.Grounding.{problem_of}
use Rattle.htn_model.specs.Instance.{Instance}
use Rattle.htn_model.specs.Literal.{Literal, Action as ModelAction}
use Rattle.htn_model.specs.PlanFile.{IsWithoutRepeats}
use Rattle.htn_model.specs.Problem.{Child, GroundTask, Network, precondition, action, perform, task}
use Rattle.htn_model.specs.State.{State, contains}
use Rattle.htn_model.specs.Task.{Task}
use Rattle.htn_ground.specs.Distinct.{distinct, live_methods}
use Rattle.htn_ground.specs.Views.{children_of}
use Rattle.state_table.specs.Compiled.{AreCompiled, IsCompiled}
use Rattle.state_table.specs.Numberings.{IsExtension}
use Rattle.state_table.specs.Table.{Table, IsLater, IsSetOf, IsTable, is_changed, is_fluent, state_of}
use Rattle.heuristics.specs.Measure.{IsLowerMeasure}
use Rattle.heuristics.specs.Sizes.{size_of}
use Rattle.call_table.specs.Lists.{Lists, list_at}
use Rattle.htn_calls.specs.Ordered.{ordered}
use Rattle.call_nodes.specs.declared.operator.Operator.{Operator}
use Rattle.call_nodes.specs.declared.operator.Operator.TheVariants.{Unlisted, Task as Listed, Partly, Step, Action as Acts, Never}
use Rattle.call_nodes.specs.declared.call_nodes.CallNodes.{CallNodes}

-- the nodes by number
abbrev pub children : CallNodes → List Child
children n = children_of n.nodes.keys

-- the state of a number
abbrev pub state_at : CallNodes → ℕ → State
state_at n i = state_of n.atoms (get_or n.states i [])

-- each of these has only atoms of the table
abbrev pub AreSetsOf : Table → List (List ℕ) → Type 0
AreSetsOf atoms sets = (i : ℕ) (words : List ℕ) → slice_get sets i ≡ Some words → IsSetOf atoms words

-- these are the numbers of some nodes, in their order
abbrev pub AreNumbersOf : List Child → List ℕ → List Child → Type 0
AreNumbersOf known numbers nodes = AllZip (λ number x. slice_get known number ≡ Some x) numbers nodes

-- the network is totally ordered, and this number is that of the list of its nodes
pub record IsListOf (known : List Child) (l : Lists) (number : ℕ) (network : Network) : Type 0 where
  pub inside : number < length l.lists
  pub nodes : AreNumbersOf known (list_at l number) network.children
  pub in_order : network ≡ ordered network.children

-- so it is with each of some instances, in their order
abbrev pub AreListsOf : List Child → Lists → List ℕ → List Instance → Type 0
AreListsOf known l numbers instances = AllZip (λ number i. IsListOf known l number i.network) numbers instances

-- this is what a node does, by tables of these nodes and lists, and by later ones
abbrev pub IsOperator : Task → Table → List Child → Lists → Child → Operator → Type 0
IsOperator t atoms known l child Unlisted = (g : GroundTask) × (child ≡ task g)
IsOperator t atoms known l child (Listed numbers) =
    (g : GroundTask) × (child ≡ task g) × AreListsOf known l numbers.items (distinct (live_methods t g))
IsOperator t atoms known l child Partly = (g : GroundTask) × (child ≡ task g)
IsOperator t atoms known l child (Step literals) =
    (model : List Literal) × (child ≡ precondition model) × AreCompiled atoms literals model
IsOperator t atoms known l child (Acts compiled) =
    (g : GroundTask) × (model : ModelAction) × (child ≡ action g) × ((problem_of t).action_of g ≡ Some model) × IsCompiled atoms compiled model
IsOperator t atoms known l child Never = (g : GroundTask) × (child ≡ action g) × ((problem_of t).action_of g ≡ None)

-- the atoms are told apart as the task does: those of a predicate that some effect names are fluent, and of the others
-- those that are true at first are static
pub record AreAtoms (t : Task) (atoms : Table) : Type 0 where
  pub table : IsTable atoms
  pub fluents : (predicate : ℕ) → is_changed atoms.fluents predicate ≡ ground.is_changed t predicate
  pub statics : (a : Atom) → contains atoms.statics a ≡ (contains t.initial_atoms a && not (is_fluent atoms a))

-- the states and the nodes of a task: no state and no node has two numbers, the initial state has number 0, and each
-- node has its operator, and its size, which is no more than the steps that it takes
pub record AreNodes (t : Task) (n : CallNodes) : Type 0 where
  pub atoms : AreAtoms t n.atoms
  pub begun : 0 < length n.states
  pub start : state_at n 0 ≡ t.initial_atoms
  pub sets : AreSetsOf n.atoms n.states
  pub states_apart : IsWithoutRepeats n.states
  pub nodes_apart : IsWithoutRepeats (children n)
  pub goal : AreCompiled n.atoms n.goal (problem_of t).goal
  pub measure : IsLowerMeasure (problem_of t) (size_of n.sizes.now)
  pub sizes : n.lists.counts ≡ map (size_of n.sizes.now) (children n)
  pub operators : AllZip (IsOperator t n.atoms (children n) n.lists) (children n) n.operators.items

-- the same with more atoms, states, nodes and lists
pub record AreMore (old new : CallNodes) : Type 0 where
  pub atoms : IsLater old.atoms new.atoms
  pub states : IsExtension old.states new.states
  pub nodes : IsExtension (children old) (children new)
  pub lists : IsExtension old.lists.lists new.lists.lists

-- a node leads from a state to this one, or to none where it can't be performed there
abbrev pub LeadsTo : Task → CallNodes → ℕ → ℕ → Option State → Type 0
LeadsTo t n node state after =
    (x : Child) → slice_get (children n) node ≡ Some x → state < length n.states → after ≡ perform (problem_of t) (state_at n state) x

-- Instances without those whose network an earlier one has.
use Rattle.std.specs.Prelude.{◌≡◌, ◌∷◌, Bool, List, Some, [], false, map, not, true, ℕ}
use Rattle.std.specs.Cmp.{IsEquivalence, IsPartialEquivalence, on_equiv, partial_equiv_from_equiv}
use Rattle.std.specs.Hash.{Alike, HashWrites, on_Alike, same_Alike}
use Rattle.std.specs.List.{filter}
use Rattle.std.specs.Ordering.{on}
use Rattle.indexmap.specs.IndexSet.{insert_all}
use Rattle.htn_model.specs.Equality.{network_eq-decides, network_eq-laws}
use Rattle.htn_model.specs.Exhaustion.{is_dead}
use Rattle.htn_model.specs.Grounding.{problem_of}
use Rattle.htn_model.specs.Instance.{Instance}
use Rattle.htn_model.specs.Instances.{methods_of}
use Rattle.htn_model.specs.Problem.{GroundTask, Network, network_eq, task}
use Rattle.htn_model.specs.Task.{Task}
use Rattle.htn_ground.specs.Hashes.{children_hash}

-- whether two instances have one network
abbrev pub same_network : Instance → Instance → Bool
same_network = on (λ i. i.network) network_eq

-- each instance whose network none before it has, in order
abbrev pub distinct : List Instance → List Instance
distinct instances = insert_all same_network [] instances

-- the network is not dead in the task's problem
abbrev pub is_live : Task → Network → Bool
is_live t network = not (is_dead (problem_of t) network)

-- the instances of a ground task's methods that are not dead
abbrev pub live_methods : Task → GroundTask → List Instance
live_methods t g = filter (λ i. is_live t i.network) (methods_of t g)

-- the test that each network passes
abbrev pub any_network : Network → Bool
any_network network = true

-- some instances and then, of those at these values, each one that passes the test and whose network no earlier one has
abbrev pub gathered : (Network → Bool) → (List ℕ → Instance) → List Instance → List (List ℕ) → List Instance
gathered passes make kept values = insert_all same_network kept (filter (λ i. passes i.network) (map make values))

-- ## The laws of their equality

pub same_network-laws : IsEquivalence same_network
same_network-laws = on_equiv (λ (i : Instance). i.network) network_eq-laws

pub same_network-partial : IsPartialEquivalence same_network
same_network-partial = partial_equiv_from_equiv same_network-laws

-- an instance feeds a hasher its nodes alone, since most networks of one schema have the same order
abbrev pub network_hash : Instance → HashWrites
network_hash i = children_hash i.network.children

pub network_hash-Alike : Alike same_network network_hash
network_hash-Alike = on_Alike (λ (i : Instance). i.network) (same_Alike (λ (n : Network). children_hash n.children) network_eq-decides)

-- ## An example

-- a method's instance at a value, with one subtask at an object
abbrev pub one_task : ℕ → ℕ → Instance
one_task value argument = record {
  method = Some 0;
  values = value ∷ argument ∷ [];
  network = record { children = task (record { name = 0; arguments = argument ∷ [] }) ∷ []; order = (false ∷ []) ∷ [] };
}

-- the third has the network of the first
abbrev pub ThirdIsDropped : Type 0
ThirdIsDropped = distinct (one_task 0 5 ∷ one_task 0 6 ∷ one_task 1 5 ∷ one_task 1 7 ∷ []) ≡ one_task 0 5 ∷ one_task 0 6 ∷ one_task 1 7 ∷ []

-- Networks whose nodes are numbers, and what they stand for.
use Rattle.std.specs.Prelude.{◌≡◌, ℕ, ◌<◌, ◌++◌, List, [], map, length, fold, Bool, nat_eq, refl, All}
use Rattle.std.specs.Bool.{Decides}
use Rattle.std.specs.Cmp.{IsEquivalence, IsPartialEquivalence, partial_equiv_from_equiv, unsigned_Decides, decided, first_so, second_so}
use Rattle.std.specs.Cmp.Lexicographic.{pointwise, pointwise_decides}
use Rattle.std.specs.Coded.{Coded, code_by, coded×, coded_ℕ, coded_list}
use Rattle.std.specs.Hash as fed
use Rattle.std.specs.Hash.FoldHasher as folding
use Rattle.std.specs.Hash.{HashWrites, Alike, same_Alike}
use Rattle.std.specs.Ordering.{on, eq_of_both}
use Rattle.std.proofs.Common.{ap}
use Rattle.htn_model.specs.AtomOrder.{both_true}
use Rattle.htn_model.specs.Problem.{Child, Order, order_eq, order_code, Network}
use Rattle.htn_model.specs.Equality.{order_eq-decides}
use Rattle.htn_model.specs.Choice.{child_of, splice}
use Rattle.htn_model.specs.Machine as machine
use Rattle.htn_model.specs.State.{State}
use Rattle.htn_order.specs.OrderHash.{order_hash}

-- the numbers of the nodes, and their closed order
pub record Numbered : Type 0 where
  pub nodes : List ℕ
  pub order : Order

-- the network of no nodes
abbrev pub nothing : Numbered
nothing = record { nodes = []; order = [] }

-- whether they have the same nodes in the same order
abbrev pub numbered_eq : Numbered → Numbered → Bool
numbered_eq = eq_of_both (on (λ n. n.nodes) (pointwise nat_eq)) (on (λ n. n.order) order_eq)

-- as values
abbrev pub numbered_code : Coded Numbered
numbered_code = code_by (List ℕ × Order) (coded× (coded_list coded_ℕ) order_code) (λ n. (n.nodes, n.order))
    (λ p. record { nodes = p.0; order = p.1 }) (λ _. refl)

-- the test is true exactly of equal networks
pub numbered_eq-decides : (m n : Numbered) → Decides (numbered_eq m n) (m ≡ n)
numbered_eq-decides m n =
    let numbers = pointwise_decides unsigned_Decides m.nodes n.nodes in
    let orders = order_eq-decides m.order n.order in (
      λ e. let nodes = numbers.0 (first_so _ _ e) in
          let order = orders.0 (second_so _ _ e) in
          λ i. record { nodes = nodes i; order = order i },
      λ e. both_true _ _ (numbers.1 (ap (λ (x : Numbered). x.nodes) e)) (orders.1 (ap (λ (x : Numbered). x.order) e)),
    )

-- the test has the laws of an equality
pub numbered_eq-laws : IsEquivalence numbered_eq
numbered_eq-laws = decided numbered_eq numbered_eq-decides

-- the test has the laws of a partial equality
pub numbered_eq-partial : IsPartialEquivalence numbered_eq
numbered_eq-partial = partial_equiv_from_equiv numbered_eq-laws

-- the hash of all that it is
abbrev pub numbered_digest : Numbered → ℕ
numbered_digest n = folding.finish (fold folding.write folding.initial (fed.slice fed.u32 n.nodes ++ order_hash n.order))

-- what such a network feeds a hasher
abbrev pub numbered_hash : Numbered → HashWrites
numbered_hash n = fed.u64 (numbered_digest n)

-- equal ones feed it alike
pub numbered_hash-Alike : Alike numbered_eq numbered_hash
numbered_hash-Alike = same_Alike numbered_hash numbered_eq-decides

-- ## What they stand for

-- the network whose nodes have these numbers among some
abbrev pub network_of : List Child → Numbered → Network
network_of children n = record { children = map (child_of children) n.nodes; order = n.order }

-- each node has a number
abbrev pub IsWithin : List Child → Numbered → Type 0
IsWithin children n = All (λ id. id < length children) n.nodes

-- ## Networks with one in the place of a node

-- by the numbers of the nodes
abbrev pub replaced_numbered : Numbered → ℕ → Numbered → Numbered
replaced_numbered n i inner =
    let nodes = splice i inner.nodes n.nodes in
    record {
      nodes = nodes;
      order = machine.table (length nodes)
          (machine.replaced_order n.order i (length inner.nodes) inner.order);
    }

-- by the nodes themselves
abbrev pub replaced_network : Network → ℕ → Network → Network
replaced_network n i inner =
    let children = splice i inner.children n.children in
    record {
      children = children;
      order = machine.table (length children)
          (machine.replaced_order n.order i (length inner.children) inner.order);
    }

-- the network in a state
abbrev pub config_at : State → Network → machine.Config
config_at state n = record { state = state; open_nodes = n.children; order = n.order }

-- the model replaces a node in the same way, whatever the state
abbrev pub ReplacesAsModel : Type 0
ReplacesAsModel =
    (before after : State) (n inner : Network) (i : ℕ)
    → machine.replaced (config_at before n) i inner after ≡ config_at after (replaced_network n i inner)

-- Chains in a table.
use Rattle.std.proofs.Common.{◌≡◌, ℕ, suc, ◌+◌, ◌-◌, ◌<◌, ◌∙◌, false, ◌&&◌, List, [], ◌∷◌, ◌++◌, map, length, refl, sym, ap, ap₂, subst, arith, None, Some, length-append}
use Rattle.std.proofs.lemmas.List.{length-map}
use Rattle.htn_model.specs.Problem.{Child, GroundTask, is_before, is_compound, task}
use Rattle.htn_model.specs.Choice.{child_of, is_free}
use Rattle.htn_model.specs.Machine.{replaced_order, table}
use Rattle.htn_ground.specs.Views.{child_view}
use Rattle.htn_ground.specs.declared.child.Child.{Child as Node}
use Rattle.htn_ground.specs.declared.ground_task.GroundTask.{GroundTask as Goal}
use Rattle.htn_order.specs.Shapes.{chain}
use Rattle.htn_order.specs.Free.{IsFirstFree, HasNoneFree}
use Rattle.htn_order.proofs.Chains.{chain_size}
use Rattle.htn_order.proofs.Free.{chain_first_free, chain_none_free, one_passes, passing_until}
use Rattle.htn_order.proofs.Replaced.{chain_in_chain}
use Rattle.network_table.specs.Numbered.{Numbered, IsWithin, network_of, replaced_numbered}
use Rattle.network_table.specs.Entries.{IsChain, IsEntryAt, chain_before, chained}
use Rattle.network_table.specs.Networks.{IsWhole, Knows, children, network_at, numbered_at}
use Rattle.network_table.specs.Expansions.{first_free, free_positions}
use Rattle.network_table.specs.declared.network_set.Entry.TheVariants.{Chain}
use Rattle.network_table.specs.declared.network_set.Link.{Link}
use Rattle.network_table.specs.declared.table.NetworkTable.{NetworkTable}
use Rattle.network_table.proofs.Expanding.{within_at}
use Rattle.network_table.proofs.First.{first_task, is_free_task, no_task}

-- what is no task is not compound
pub not_compound : (node : Node) → ((goal : Goal) → node ≡ Node.Task goal → ⊥) → is_compound (child_view node) ≡ false
not_compound (Node.Precondition literals) never = refl
not_compound (Node.Action goal) never = refl
not_compound (Node.Task goal) never = absurd (never goal refl)

-- of a chain the first node alone is free
pub free_chain : (n : ℕ) → 0 < n → 0 ∷ [] ≡ free_positions n (chain n)
free_chain n some =
    let test = is_free n (is_before (chain n)) in
    sym (passing_until test n 1 (omega (arith, some)) (λ i low high. chain_none_free n i (omega (arith, low)) high) ∙ one_passes test 0 (sym (chain_first_free n)))

-- so it is of a first node and others
pub free_chained : (n : Numbered) (first : ℕ) (rest : Numbered) → n ≡ chained first rest → 0 ∷ [] ≡ free_positions (length n.nodes) n.order
free_chained n first rest is =
    free_chain (length rest.nodes + 1) (omega arith)
    ∙ ap (λ k. free_positions k (chain (length rest.nodes + 1))) (let e : length rest.nodes + 1 ≡ suc (length rest.nodes) = omega arith in e)
    ∙ sym (ap (λ (m : Numbered). free_positions (length m.nodes) m.order) is)

-- the first free node of a chain is its first
first_of_chain : (n : ℕ) → 0 < n → IsFirstFree (chain n) 0 0
first_of_chain n some = record {
  low = omega arith;
  high = omega (arith, some, chain_size n);
  free = ap (λ k. is_free k (is_before (chain n)) 0) (chain_size n) ∙ sym (chain_first_free n);
  first = λ i low high. absurd (omega (arith, high));
}

-- no later one is free
none_after : (n : ℕ) → HasNoneFree (chain n) 1
none_after n i low high =
    ap (λ k. is_free k (is_before (chain n)) i) (chain_size n) ∙ chain_none_free n i (omega (arith, low)) (omega (arith, high, chain_size n))

module _ (t : NetworkTable) (number : ℕ) (link : Link) (whole : IsWhole t) (known : Knows t number) (entry : IsEntryAt t.networks number (Chain link)) where
  -- the network of the others
  rest : Numbered
  rest = numbered_at t link.rest

  -- the network is its first node before these
  pub chain_is : numbered_at t number ≡ chained link.first (numbered_at t link.rest)
  chain_is = entry.2

  -- the others have a number
  pub rest_known : Knows t link.rest
  rest_known = omega (arith, entry.0, known)

  -- the first node has one
  pub first_within : link.first < length (children t)
  first_within = subst (λ (n : Numbered). IsWithin (children t) n) chain_is (within_at t number whole known) 0 0 (omega arith)

  -- the nodes that the numbers stand for
  abbrev nodes : List Child
  nodes = map (child_of (children t)) (link.first ∷ (numbered_at t link.rest).nodes)

  -- how many nodes there are
  abbrev count : ℕ
  count = length (numbered_at t link.rest).nodes + 1

  -- the order has as many
  as_long : length (chain count) ≡ length nodes
  as_long = let e = length-map (numbered_at t link.rest).nodes (child_of (children t)) in omega (arith, chain_size count, e)

  -- a first node that is a task is the first free one
  pub first_is_task : (goal : GroundTask) → child_of (children t) link.first ≡ task goal → Some 0 ≡ first_free (network_at t number)
  first_is_task goal stands =
      first_task nodes (chain count) 0 0 goal as_long (λ j low. absurd (omega (arith, low))) (first_of_chain count (omega arith)) stands
      ∙ sym (ap (λ (n : Numbered). first_free (network_of (children t) n)) chain_is)

  -- else none is free
  pub first_is_none : is_compound (child_of (children t) link.first) ≡ false → None ≡ first_free (network_at t number)
  first_is_none other =
      no_task nodes (chain count) 1 as_long (λ j low. none j (omega (arith, low))) (none_after count)
      ∙ sym (ap (λ (n : Numbered). first_free (network_of (children t) n)) chain_is)
    where
      none : (j : ℕ) → j ≡ 0 → is_free_task nodes (chain count) j ≡ false
      none j at = ap (λ k. is_free_task nodes (chain count) k) at ∙ ap (λ b. b && is_free (length nodes) (is_before (chain count)) 0) other

-- a chain in the place of the first node of a chain
pub replaced_chain : (first : ℕ) (rest inner : Numbered) → IsChain inner → IsChain rest → replaced_numbered (chained first rest) 0 inner ≡ chain_before inner.nodes rest
replaced_chain first rest inner inner_is rest_is =
    let n = length rest.nodes + 1 in
    let m = length inner.nodes in
    let all = inner.nodes ++ rest.nodes in
    let long : length all ≡ n - 1 + m = (let e = length-append inner.nodes rest.nodes in omega (arith, e)) in
    let order : table (length all) (replaced_order (chain n) 0 m inner.order) ≡ chain (length inner.nodes + length rest.nodes) =
    ap₂ (λ k o. table k (replaced_order (chain n) 0 m o)) long inner_is ∙ chain_in_chain n 0 m (omega arith) ∙ ap chain (let e : n - 1 + m ≡ length inner.nodes + length rest.nodes = omega arith in e) in
    λ i. record { nodes = all; order = order i }

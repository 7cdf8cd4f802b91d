-- A configuration whose open nodes are kept from the last to the first, with a network in the place of one.
use Rattle.std.proofs.Common.{◌≡◌, ℕ, suc, ◌+◌, ◌-◌, ◌<◌, List, [], ◌++◌, length, take, drop, get_or, reverse, sym, ap, ap₂, ◌∙◌, arith}
use Rattle.std.proofs.lemmas.List.{get_or-map, get_or-reverse, get_or-take, length-map, length-reverse}
use Rattle.std.specs.List.{remove}
use Rattle.htn_ground.specs.declared.child.Child.{Child as Node}
use Rattle.htn_ground.specs.Views.{child_view, children_of}
use Rattle.htn_model.specs.Choice.{child_of, splice}
use Rattle.htn_model.specs.Machine.{Config, replaced, replaced_order, table}
use Rattle.htn_model.specs.Problem.{Order, precondition}
use Rattle.htn_model.specs.State.{State}
use Rattle.htn_model.proofs.Splices.{length_splice, table_square}
use Rattle.htn_walk.proofs.Reversed.{map_splice, spliced}

-- there are as many open nodes as are kept
pub kept_len : (kept : List Node) → length (children_of (reverse kept)) ≡ length kept
kept_len kept = length-map (reverse kept) child_view ∙ length-reverse kept

module _ (old : List Node) (at position : ℕ) (long : suc at + position ≡ length old) (left : List Node) (front : left ≡ take (suc at) old) where
  -- the node at the position is the last one of those that are left
  pub node_kept : (node : Node) → node ≡ get_or left at node → child_view node ≡ child_of (children_of (reverse old)) position
  node_kept node is =
      let within : position < length old = omega arith in
      let same : at ≡ length old - 1 - position = omega arith in
      ap child_view (is ∙ ap (λ xs. get_or xs at node) front ∙ get_or-take (suc at) old at node (omega arith) ∙ ap (λ k. get_or old k node) same ∙ sym (get_or-reverse old position node within))
      ∙ sym (get_or-map child_view (reverse old) position node (precondition []) (let e = length-reverse old in omega arith))

  -- others take its place
  pub nodes_spliced : (earlier kept others out : List Node) → earlier ≡ drop (suc at) old → reverse kept ≡ others → out ≡ (remove left at ++ kept) ++ earlier
      → children_of (reverse out) ≡ splice position (children_of others) (children_of (reverse old))
  nodes_spliced earlier kept others out back is o =
      ap children_of (spliced old left earlier out kept at position long front back o ∙ ap (λ xs. splice position xs (reverse old)) is)
      ∙ map_splice child_view position others (reverse old)

module _ (c : Config) (position : ℕ) (others : List Node) (inner order : Order) (whole : length c.order ≡ length c.open_nodes) (placed : position < length c.open_nodes)
    (fits : length inner ≡ length others) (ordered : order ≡ table (length c.order - 1 + length inner) (replaced_order c.order position (length inner) inner))
    (out : List Node) (nodes : children_of (reverse out) ≡ splice position (children_of others) c.open_nodes) where
  -- there are as many as the order is on
  pub order_whole : length order ≡ length out
  order_whole =
      let rows = ap length ordered ∙ (table_square (length c.order - 1 + length inner) (replaced_order c.order position (length inner) inner)).0 in
      let all = sym (kept_len out) ∙ ap length nodes in
      let parts = length_splice position (children_of others) c.open_nodes placed in
      let few = length-map others child_view in
      omega (arith, rows, all, parts, few, whole, fits)

  -- the configuration is the one before with the network in the place of the node
  pub is_replaced : (state : State) → record { state = state; open_nodes = children_of (reverse out); order = order }
      ≡ replaced c position (record { children = children_of others; order = inner }) state
  is_replaced state =
      let few = length-map others child_view in
      let parts = length_splice position (children_of others) c.open_nodes placed in
      let size : length c.order - 1 + length inner ≡ length (splice position (children_of others) c.open_nodes) = omega (arith, parts, few, whole, fits, placed) in
      let same : order ≡ table (length (splice position (children_of others) c.open_nodes)) (replaced_order c.order position (length (children_of others)) inner) =
      ordered ∙ ap₂ (λ n m. table n (replaced_order c.order position m inner)) size (fits ∙ sym few) in
      λ i. record { state = state; open_nodes = nodes i; order = same i }

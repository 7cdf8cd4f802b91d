-- A network with another in the place of a node.
use Rattle.std.proofs.Common.{◌≡◌, ℕ, suc, ◌+◌, ◌-◌, List, [], ◌++◌, map, length, take, drop, refl, sym, ap, ap₂, ◌∙◌, append_assoc, arith}
use Rattle.std.proofs.lemmas.List.{take_rest, length-map}
use Rattle.htn_model.specs.Problem.{Child}
use Rattle.htn_model.specs.Choice.{child_of, splice}
use Rattle.htn_model.specs.Machine.{table, replaced_order}
use Rattle.htn_model.proofs.Splices.{map_splice}
use Rattle.network_table.specs.Numbered.{Numbered, network_of, replaced_numbered, replaced_network, ReplacesAsModel}

-- three parts, one after another, are the list with others in the place of one item
pub parts_spliced : {X : Type 0} (nodes others first second third : List X) (at : ℕ) → first ≡ [] ++ take at nodes → second ≡ first ++ others
    → third ≡ second ++ take (length nodes - (at + 1)) (drop (at + 1) nodes) → third ≡ splice at others nodes
parts_spliced nodes others first second third at one two three =
    let back = take_rest nodes (at + 1) ∙ ap (λ k. drop k nodes) (let e : at + 1 ≡ suc at = omega arith in e) in
    three ∙ ap₂ (λ xs ys. xs ++ ys) (two ∙ ap (λ xs. xs ++ others) one) back ∙ append_assoc (take at nodes) others (drop (suc at) nodes)

-- what the numbers stand for is replaced in the same way
pub replaced_alike : (children : List Child) (n inner : Numbered) (i : ℕ) → network_of children (replaced_numbered n i inner) ≡ replaced_network (network_of children n) i (network_of children inner)
replaced_alike children n inner i =
    let nodes = splice i inner.nodes n.nodes in
    let are : map (child_of children) nodes ≡ splice i (map (child_of children) inner.nodes) (map (child_of children) n.nodes) = map_splice (child_of children) i inner.nodes n.nodes in
    let long : length nodes ≡ length (splice i (map (child_of children) inner.nodes) (map (child_of children) n.nodes)) = sym (length-map nodes (child_of children)) ∙ ap length are in
    let inner_long : length inner.nodes ≡ length (map (child_of children) inner.nodes) = sym (length-map inner.nodes (child_of children)) in
    λ k. record { children = are k; order = table (long k) (replaced_order n.order i (inner_long k) inner.order) }

-- the model replaces in the same way
pub replaces_as_model : ReplacesAsModel
replaces_as_model before after n inner i = refl

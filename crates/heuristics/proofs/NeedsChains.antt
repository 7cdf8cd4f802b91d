-- What chains among numbered networks need.
use Rattle.std.proofs.Common.{◌≡◌, ◌⊎◌, ℕ, suc, ◌+◌, ◌∙◌, Bool, true, false, List, [], ◌∷◌, inl, inr, length, map, nat_eq, Option, None, Some, refl, sym, ap, arith, true≢false}
use Rattle.std.proofs.lemmas.List.{length-map}
use Rattle.std.specs.Cmp.{unsigned_Decides}
use Rattle.htn_model.specs.Choice.{child_of}
use Rattle.htn_model.specs.Equality.{order_eq-decides}
use Rattle.htn_model.specs.Literal.{Literal}
use Rattle.htn_model.specs.Problem.{Network, Order, order_eq}
use Rattle.htn_order.specs.Shapes.{chain}
use Rattle.heuristics.specs.Chains.{led_by}
use Rattle.heuristics.specs.Chains as model
use Rattle.network_table.specs.Entries.{IsChain, IsEntryAt}
use Rattle.network_table.specs.Networks.{children, network_at, numbered_at}
use Rattle.network_table.specs.Numbered.{Numbered, network_of, nothing}
use Rattle.network_table.specs.declared.network_set.Entry.TheVariants.{Chain, Whole}
use Rattle.network_table.specs.declared.network_set.Link.{Link}
use Rattle.network_table.specs.declared.table.NetworkTable.{NetworkTable}
use Rattle.state_table.specs.Table.{Table}
use Rattle.state_table.specs.declared.compiled.CompiledLiterals.{CompiledLiterals}
use Rattle.heuristics.specs.StoredNeeds.{IsKept}
use Rattle.heuristics.specs.ListedNeeds.{IsListed, chain_at}
use Rattle.heuristics.specs.Prospects.{outlook_by}
use Rattle.heuristics.specs.declared.prospects.Prospects.{Prospects}
use Rattle.heuristics.specs.declared.wants.Want.{Want}

-- a chain's test says so
pub chain_told : (t : NetworkTable) (n : ℕ) → IsChain (numbered_at t n) → chain_at t n ≡ true
chain_told t n chain_is = (order_eq-decides (numbered_at t n).order (chain (length (numbered_at t n).nodes))).1 chain_is

-- what is kept whole and has a node is no chain
pub whole_told : (t : NetworkTable) (n : ℕ) (network : Numbered) → IsEntryAt t.networks n (Whole network) → (length network.nodes ≡ 0 → ⊥) → chain_at t n ≡ false
whole_told t n network (fits, is) some = ap (λ (m : Numbered). order_eq m.order (chain (length m.nodes))) is ∙ by fits (order_eq network.order (chain (length network.nodes))) refl
  where
    by : (network ≡ nothing) ⊎ (IsChain network → ⊥) → (b : Bool) → order_eq network.order (chain (length network.nodes)) ≡ b → order_eq network.order (chain (length network.nodes)) ≡ false
    by fits false is = is
    by (inl none) true is = absurd (some (ap (λ (m : Numbered). length m.nodes) none))
    by (inr other) true is = absurd (other ((order_eq-decides network.order (chain (length network.nodes))).0 is))

-- what stands for a chain is one
pub chain_stands : (t : NetworkTable) (n : ℕ) → IsChain (numbered_at t n) → model.IsChain (network_at t n)
chain_stands t n chain_is = chain_is ∙ ap chain (sym (length-map (numbered_at t n).nodes (child_of (children t))))

-- a chain is its first node before the network of the others
pub led : (t : NetworkTable) (n : ℕ) (link : Link) → IsEntryAt t.networks n (Chain link) → led_by (child_of (children t) link.first) (network_at t link.rest) ≡ network_at t n
led t n link (low, chain_is, is) =
    let rest = numbered_at t link.rest in
    let f = child_of (children t) in
    let e = length-map rest.nodes f in
    let count : suc (length (map f rest.nodes)) ≡ length rest.nodes + 1 = omega (arith, e) in
    let long : chain (suc (length (map f rest.nodes))) ≡ chain (length rest.nodes + 1) = ap chain count in
    ap (λ (o : Order). record { children = f link.first ∷ map f rest.nodes; order = o }) long ∙ sym (ap (network_of (children t)) is)

-- what is right by ids is right
pub listed_is_kept : (p : Prospects) (goal : List Literal) (atoms : Table) (wants : List Want) (n : Network) (needed : Option CompiledLiterals) (ids : List ℕ) → IsListed p goal atoms wants n needed ids
    → IsKept (outlook_by p) goal atoms n needed
listed_is_kept p goal atoms wants n None ids listed = listed
listed_is_kept p goal atoms wants n (Some needed) ids listed = listed.0

-- what has no items is the empty list
pub no_items : (xs : List ℕ) (b : Bool) → b ≡ nat_eq (length xs) 0 → b ≡ true → xs ≡ []
no_items [] b is told = refl
no_items (x ∷ xs) b is told = (let e = (unsigned_Decides (length (x ∷ xs)) 0).0 (sym is ∙ told) in absurd (omega (arith, e)))

-- what has some has a length
pub some_items : (xs ys : List ℕ) (b : Bool) → b ≡ nat_eq (length xs) 0 → b ≡ false → xs ≡ ys → length ys ≡ 0 → ⊥
some_items xs ys b is told same none = true≢false (sym ((unsigned_Decides (length xs) 0).1 (ap length same ∙ none)) ∙ sym is ∙ told)

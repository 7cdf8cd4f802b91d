-- Networks as they are stored: a totally ordered one as its first node and a link to the network of the other nodes.
use Rattle.std.specs.Prelude.{◌≡◌, ℕ, ◌<◌, ◌+◌, ◌++◌, ◌∷◌, [], ◌⊎◌, ◌&&◌, List, All, Bool, true, false, fold, length, map, get_or, nat_eq}
use Rattle.std.specs.Bool.{Decides}
use Rattle.std.specs.Cmp.{IsEquivalence, IsPartialEquivalence, partial_equiv_from_equiv, unsigned_Decides, decided, first_so, second_so}
use Rattle.std.specs.Hash as fed
use Rattle.std.specs.Hash.{HashWrites, Alike, same_Alike}
use Rattle.std.proofs.Common.{ap, true≢false, sym}
use Rattle.htn_model.specs.AtomOrder.{both_true}
use Rattle.htn_order.specs.Shapes.{chain}
use Rattle.network_table.specs.Numbered.{Numbered, nothing, numbered_eq, numbered_eq-decides, numbered_hash}
use Rattle.network_table.specs.declared.network_set.Entry.{Entry}
use Rattle.network_table.specs.declared.network_set.Entry.TheVariants.{Chain, Whole}
use Rattle.network_table.specs.declared.network_set.Link.{Link}

-- the nodes are totally ordered, in the order of the list
abbrev pub IsChain : Numbered → Type 0
IsChain n = n.order ≡ chain (length n.nodes)

-- a node, and then the nodes of a network, one after another
abbrev pub chained : ℕ → Numbered → Numbered
chained first rest = record { nodes = first ∷ rest.nodes; order = chain (length rest.nodes + 1) }

-- nodes, and then those of a network, one after another
abbrev pub chain_before : List ℕ → Numbered → Numbered
chain_before nodes rest = record { nodes = nodes ++ rest.nodes; order = chain (length nodes + length rest.nodes) }

-- what an entry stands for among networks
abbrev pub network_by : List Numbered → Entry → Numbered
network_by networks (Chain link) = chained link.first (get_or networks link.rest nothing)
network_by networks (Whole network) = network

-- the networks that entries stand for, where each links to networks before it
abbrev pub networks_of : List Entry → List Numbered
networks_of entries = fold (λ networks entry. networks ++ network_by networks entry ∷ []) [] entries

-- a network is stored whole: it is no chain, or has no node
abbrev pub IsKeptWhole : Numbered → Type 0
IsKeptWhole network = (network ≡ nothing) ⊎ (IsChain network → ⊥)

-- an entry may be added to these networks: a chain links to a chain among them, and only the empty network and those
-- that are no chains are stored whole
abbrev pub Fits : List Numbered → Entry → Type 0
Fits networks (Chain link) = (link.rest < length networks) × IsChain (get_or networks link.rest nothing)
Fits networks (Whole network) = IsKeptWhole network

-- an entry has no link to another one, so that it may be added to any networks
abbrev pub IsAlone : Entry → Type 0
IsAlone = Fits []

-- the networks that entries without links stand for
abbrev pub networks_alone : List Entry → List Numbered
networks_alone = map (network_by [])

-- the places, among some networks, of the sought ones, in their order
pub record ArePlacesOf (networks : List Numbered) (places : List ℕ) (sought : List Numbered) : Type 0 where
  pub inside : All (λ p. p < length networks) places
  pub each : map (λ p. get_or networks p nothing) places ≡ sought

-- an entry is that of the network at a place: it stands for this network, and a chain links to a chain at an earlier
-- place
abbrev pub IsEntryAt : List Numbered → ℕ → Entry → Type 0
IsEntryAt networks place (Chain link) =
    (link.rest < place) × IsChain (get_or networks link.rest nothing)
    × (get_or networks place nothing ≡ chained link.first (get_or networks link.rest nothing))
IsEntryAt networks place (Whole network) = IsKeptWhole network × (get_or networks place nothing ≡ network)

-- each entry is that of the network at its place
abbrev pub AreLinked : List Entry → Type 0
AreLinked entries = (place : ℕ) (entry : Entry) → place < length entries → IsEntryAt (networks_of entries) place (get_or entries place entry)

-- ## Equality, and what is hashed

-- whether two entries are equal
abbrev pub entry_eq : Entry → Entry → Bool
entry_eq (Chain link) (Chain other) = nat_eq link.first other.first && nat_eq link.rest other.rest
entry_eq (Chain link) (Whole other) = false
entry_eq (Whole network) (Chain other) = false
entry_eq (Whole network) (Whole other) = numbered_eq network other

-- whether an entry is stored as a chain
abbrev is_chain : Entry → Bool
is_chain (Chain link) = true
is_chain (Whole network) = false

-- the link of a chain
abbrev link_of : Link → Entry → Link
link_of other (Chain link) = link
link_of other (Whole network) = other

-- the network of an entry that is stored whole, and another one for a chain
abbrev whole_of : Numbered → Entry → Numbered
whole_of other (Chain link) = other
whole_of other (Whole network) = network

-- the test is true exactly of equal entries
pub entry_eq-decides : (d e : Entry) → Decides (entry_eq d e) (d ≡ e)
entry_eq-decides (Chain link) (Chain other) =
    let firsts = unsigned_Decides link.first other.first in
    let rests = unsigned_Decides link.rest other.rest in (
      λ e. let first = firsts.0 (first_so _ _ e) in
          let rest = rests.0 (second_so _ _ e) in
          λ i. Chain (record { first = first i; rest = rest i }),
      λ e. let same = ap (link_of link) e in both_true _ _ (firsts.1 (ap (λ (l : Link). l.first) same)) (rests.1 (ap (λ (l : Link). l.rest) same)),
    )
entry_eq-decides (Chain link) (Whole other) = (λ e. absurd (true≢false (sym e)), λ e. absurd (true≢false (ap is_chain e)))
entry_eq-decides (Whole network) (Chain other) = (λ e. absurd (true≢false (sym e)), λ e. absurd (true≢false (sym (ap is_chain e))))
entry_eq-decides (Whole network) (Whole other) =
    let same = numbered_eq-decides network other in (λ e. ap Whole (same.0 e), λ e. same.1 (ap (whole_of network) e))

-- the test has the laws of an equality
pub entry_eq-laws : IsEquivalence entry_eq
entry_eq-laws = decided entry_eq entry_eq-decides

-- the test has the laws of a partial equality
pub entry_eq-partial : IsPartialEquivalence entry_eq
entry_eq-partial = partial_equiv_from_equiv entry_eq-laws

-- the writes by which an entry feeds a hasher
abbrev pub entry_hash : Entry → HashWrites
entry_hash (Chain link) = fed.u32 link.first ++ fed.u32 link.rest
entry_hash (Whole network) = numbered_hash network

-- equal ones feed it alike
pub entry_hash-Alike : Alike entry_eq entry_hash
entry_hash-Alike = same_Alike entry_hash entry_eq-decides

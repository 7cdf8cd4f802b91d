-- Networks that are kept, the totally ordered ones over one another.
use Rattle.std.proofs.Common.{◌≡◌, ℕ, zero, suc, ◌+◌, ◌<◌, ◌≤◌, inl, inr, List, [], ◌∷◌, ◌++◌, fold, length, get_or, drop, refl, sym, ap, ap₂, subst, ◌∙◌, arith, length-append, append-nil}
use Rattle.std.proofs.lemmas.Bool.{cases_lt}
use Rattle.std.proofs.lemmas.List.{get_or_append_left}
use Rattle.std.proofs.lemmas.List.Sums.{fold-append}
use Rattle.htn_model.specs.PlanFile.{IsWithoutRepeats}
use Rattle.htn_order.specs.Shapes.{chain}
use Rattle.network_table.specs.Numbered.{Numbered, nothing}
use Rattle.network_table.specs.Entries.{AreLinked, Fits, IsChain, IsEntryAt, chained, chain_before, network_by, networks_of}
use Rattle.network_table.specs.declared.network_set.Entry.{Entry}
use Rattle.network_table.specs.declared.network_set.Entry.TheVariants.{Chain, Whole}
use Rattle.network_table.proofs.Keys.{AreApart, apart, without_repeats}

-- one more entry, one more network
pub networks_push : (entries : List Entry) (entry : Entry) → networks_of (entries ++ entry ∷ []) ≡ networks_of entries ++ network_by (networks_of entries) entry ∷ []
networks_push entries entry = fold-append (λ networks e. networks ++ network_by networks e ∷ []) [] entries (entry ∷ [])

-- as many networks come to those that were there as there are entries
fold_len : (networks : List Numbered) (entries : List Entry) → length (fold (λ ns e. ns ++ network_by ns e ∷ []) networks entries) ≡ length networks + length entries
fold_len networks [] = omega arith
fold_len networks (e ∷ entries) =
    let rest = fold_len (networks ++ network_by networks e ∷ []) entries in
    omega (arith, rest, length-append networks (network_by networks e ∷ []))

-- as many networks as entries
pub networks_len : (entries : List Entry) → length (networks_of entries) ≡ length entries
networks_len entries = let e = fold_len [] entries in omega (arith, e)

-- an entry stays that of its place while networks are added
pub entry_longer : (networks more : List Numbered) (place : ℕ) (entry : Entry) → place < length networks → IsEntryAt networks place entry → IsEntryAt (networks ++ more) place entry
entry_longer networks more place (Chain link) inside (low, chain_is, is) =
    let rest = get_or_append_left networks more nothing link.rest (omega (arith, low, inside)) in (
      low,
      subst IsChain (sym rest) chain_is,
      get_or_append_left networks more nothing place inside ∙ is ∙ ap (chained link.first) (sym rest),
    )
entry_longer networks more place (Whole network) inside (fits, is) = (fits, get_or_append_left networks more nothing place inside ∙ is)

-- what comes last stands at the end
get_last : (networks : List Numbered) (x : Numbered) → get_or (networks ++ x ∷ []) (length networks) nothing ≡ x
get_last [] x = refl
get_last (y ∷ networks) x = get_last networks x

-- an entry that fits is that of the place after all others
entry_last : (networks : List Numbered) (entry : Entry) → Fits networks entry → IsEntryAt (networks ++ network_by networks entry ∷ []) (length networks) entry
entry_last networks (Chain link) (low, chain_is) =
    let x = chained link.first (get_or networks link.rest nothing) in
    let rest = get_or_append_left networks (x ∷ []) nothing link.rest low in (
      low,
      subst IsChain (sym rest) chain_is,
      get_last networks x ∙ ap (chained link.first) (sym rest),
    )
entry_last networks (Whole network) fits = (fits, get_last networks network)

-- the entry at a place before the last stays there
entry_before : (entries : List Entry) (e d : Entry) (place : ℕ) → place < length entries → get_or (entries ++ e ∷ []) place d ≡ get_or entries place d
entry_before entries e d place inside = get_or_append_left entries (e ∷ []) d place inside

-- what comes last stands at the end of entries
entry_end : (entries : List Entry) (e d : Entry) → get_or (entries ++ e ∷ []) (length entries) d ≡ e
entry_end [] e d = refl
entry_end (x ∷ entries) e d = entry_end entries e d

-- no entries are linked
pub linked_none : AreLinked []
linked_none place entry inside = absurd (omega (arith, inside))

-- one more that fits
pub linked_push : (entries : List Entry) (entry : Entry) → AreLinked entries → Fits (networks_of entries) entry → AreLinked (entries ++ entry ∷ [])
linked_push entries entry linked fits place d inside =
    subst (λ ns. IsEntryAt ns place (get_or (entries ++ entry ∷ []) place d)) (sym (networks_push entries entry)) (elim (cases_lt place (length entries)) [
      | inl before ↦ subst (IsEntryAt (networks_of entries ++ network_by (networks_of entries) entry ∷ []) place) (sym (entry_before entries entry d place before))
          (entry_longer (networks_of entries) (network_by (networks_of entries) entry ∷ []) place (get_or entries place d) (omega (arith, before, networks_len entries)) (linked place d before))
      | inr on ↦ (let at : length (networks_of entries) ≡ place = omega (arith, inside, on, networks_len entries, length-append entries (entry ∷ [])) in
          let end : get_or (entries ++ entry ∷ []) place d ≡ entry =
          ap (λ k. get_or (entries ++ entry ∷ []) k d) (let e : place ≡ length entries = omega (arith, at, networks_len entries) in e) ∙ entry_end entries entry d in
          subst (IsEntryAt (networks_of entries ++ network_by (networks_of entries) entry ∷ []) place) (sym end)
          (subst (λ k. IsEntryAt (networks_of entries ++ network_by (networks_of entries) entry ∷ []) k entry) at (entry_last (networks_of entries) entry fits)))
    ])

-- no node stands after no node
not_nothing : (first : ℕ) (rest : Numbered) → chained first rest ≡ nothing → ⊥
not_nothing first rest e = let long = ap (λ (n : Numbered). length n.nodes) e in omega (arith, long)

-- a node before a chain makes a chain
pub chained_chain : (first : ℕ) (rest : Numbered) → IsChain (chained first rest)
chained_chain first rest = ap chain (let e : length rest.nodes + 1 ≡ suc (length rest.nodes) = omega arith in e)

-- of an entry with a chain there are not more nodes than its place, if that holds of those before
short_at : (networks : List Numbered) (place : ℕ) (entry : Entry) → IsEntryAt networks place entry
    → ((k : ℕ) → k < place → IsChain (get_or networks k nothing) → length (get_or networks k nothing).nodes ≤ k) → IsChain (get_or networks place nothing)
    → length (get_or networks place nothing).nodes ≤ place
short_at networks place (Chain link) (low, chain_is, is) before _ =
    let rest = before link.rest low chain_is in let long = ap (λ (n : Numbered). length n.nodes) is in omega (arith, rest, low, long)
short_at networks place (Whole network) (inl none, is) before _ = let long = ap (λ (n : Numbered). length n.nodes) (is ∙ none) in omega (arith, long)
short_at networks place (Whole network) (inr other, is) before chain_is = absurd (other (subst IsChain is chain_is))

-- so it is of the first places
short_below : (entries : List Entry) → AreLinked entries → (end place : ℕ) → place < end → place < length entries → IsChain (get_or (networks_of entries) place nothing)
    → length (get_or (networks_of entries) place nothing).nodes ≤ place
short_below entries linked zero place low inside chain_is = absurd (omega (arith, low))
short_below entries linked (suc end) place low inside chain_is =
    short_at (networks_of entries) place (get_or entries place (Whole nothing)) (linked place (Whole nothing) inside)
    (λ k less. short_below entries linked end k (omega (arith, low, less)) (omega (arith, inside, less))) chain_is

-- a chain has not more nodes than its place
pub chain_short : (entries : List Entry) → AreLinked entries → (place : ℕ) → place < length entries → IsChain (get_or (networks_of entries) place nothing)
    → length (get_or (networks_of entries) place nothing).nodes ≤ place
chain_short entries linked place inside = short_below entries linked (suc place) place (omega arith) inside

-- ## No network twice

-- chains of the same nodes are the same
pub same_chain : (m n : Numbered) → IsChain m → IsChain n → m.nodes ≡ n.nodes → m ≡ n
same_chain m n here there nodes = let order : m.order ≡ n.order = here ∙ ap (λ (l : List ℕ). chain (length l)) nodes ∙ sym there in ap₂ (λ ns o. record { nodes = ns; order = o }) nodes order

-- entries that stand for one network are the same, where no network stands twice
same_entry : (networks : List Numbered) → IsWithoutRepeats networks → (place : ℕ) (own other : Entry) → place < length networks → Fits networks own → IsEntryAt networks place other
    → get_or networks place nothing ≡ network_by networks own → own ≡ other
same_entry networks distinct place (Chain link) (Chain other) inside (low, chain_is) (before, chain_too, is) same =
    let both : chained link.first (get_or networks link.rest nothing) ≡ chained other.first (get_or networks other.rest nothing) = sym same ∙ is in
    let nodes = ap (λ (n : Numbered). n.nodes) both in
    let firsts : link.first ≡ other.first = ap (λ l. get_or l 0 0) nodes in
    let rests = same_chain (get_or networks link.rest nothing) (get_or networks other.rest nothing) chain_is chain_too (ap (λ l. drop 1 l) nodes) in
    let places : link.rest ≡ other.rest = apart nothing networks distinct link.rest other.rest low (omega (arith, before, inside)) rests in
    ap₂ (λ f r. Chain (record { first = f; rest = r })) firsts places
same_entry networks distinct place (Chain link) (Whole other) inside (low, chain_is) (inl none, is) same =
    absurd (not_nothing link.first (get_or networks link.rest nothing) (sym same ∙ is ∙ none))
same_entry networks distinct place (Chain link) (Whole other) inside (low, chain_is) (inr whole, is) same =
    absurd (whole (subst IsChain (sym same ∙ is) (chained_chain link.first (get_or networks link.rest nothing))))
same_entry networks distinct place (Whole own) (Chain other) inside (inl none) (before, chain_too, is) same =
    absurd (not_nothing other.first (get_or networks other.rest nothing) (sym is ∙ same ∙ none))
same_entry networks distinct place (Whole own) (Chain other) inside (inr whole) (before, chain_too, is) same =
    absurd (whole (subst IsChain (sym is ∙ same) (chained_chain other.first (get_or networks other.rest nothing))))
same_entry networks distinct place (Whole own) (Whole other) inside fits (fits_too, is) same = ap Whole (sym same ∙ is)

-- the entry of a place is the one that stands for its network
pub entry_is : (entries : List Entry) → AreLinked entries → IsWithoutRepeats (networks_of entries) → (place : ℕ) (own d : Entry) → place < length entries → Fits (networks_of entries) own
    → get_or (networks_of entries) place nothing ≡ network_by (networks_of entries) own → get_or entries place d ≡ own
entry_is entries linked distinct place own d inside fits same =
    sym (same_entry (networks_of entries) distinct place own (get_or entries place d) (omega (arith, inside, networks_len entries)) fits (linked place d inside) same)

-- the network of an entry at a place
pub network_at_place : (networks : List Numbered) (place : ℕ) (entry : Entry) → IsEntryAt networks place entry → get_or networks place nothing ≡ network_by networks entry
network_at_place networks place (Chain link) (low, chain_is, is) = is
network_at_place networks place (Whole network) (fits, is) = is

-- one more network that stands nowhere
pub distinct_push : (networks : List Numbered) (x : Numbered) → IsWithoutRepeats networks → ((n : ℕ) → n < length networks → get_or networks n nothing ≡ x → ⊥)
    → IsWithoutRepeats (networks ++ x ∷ [])
distinct_push networks x distinct new = without_repeats nothing (networks ++ x ∷ []) are
  where
    left : (i : ℕ) → i < length networks → get_or (networks ++ x ∷ []) i nothing ≡ get_or networks i nothing
    left i low = get_or_append_left networks (x ∷ []) nothing i low

    right : (i : ℕ) → i < length (networks ++ x ∷ []) → length networks ≤ i → get_or (networks ++ x ∷ []) i nothing ≡ x
    right i high on =
        ap (λ k. get_or (networks ++ x ∷ []) k nothing) (let e : i ≡ length networks = omega (arith, high, on, length-append networks (x ∷ [])) in e) ∙ get_last networks x

    are : AreApart nothing (networks ++ x ∷ [])
    are i j here there alike = elim (cases_lt i (length networks)) [
      | inl low ↦ elim (cases_lt j (length networks)) [
        | inl less ↦ apart nothing networks distinct i j low less (sym (left i low) ∙ alike ∙ left j less)
        | inr on ↦ absurd (new i low (sym (left i low) ∙ alike ∙ right j there on))
      ]
      | inr on ↦ elim (cases_lt j (length networks)) [
        | inl less ↦ absurd (new j less (sym (left j less) ∙ sym alike ∙ right i here on))
        | inr past ↦ omega (arith, here, there, on, past, length-append networks (x ∷ []))
      ]
    ]

-- ## Nodes before a chain

-- nodes before a chain make a chain
pub before_chain : (nodes : List ℕ) (rest : Numbered) → IsChain (chain_before nodes rest)
before_chain nodes rest = ap chain (let e = length-append nodes rest.nodes in omega (arith, e))

-- no node before a chain
pub before_none : (nodes : List ℕ) (rest : Numbered) → IsChain rest → chain_before (drop (length nodes) nodes) rest ≡ rest
before_none nodes rest chain_is =
    same_chain (chain_before (drop (length nodes) nodes) rest) rest (before_chain (drop (length nodes) nodes) rest) chain_is (ap (λ l. l ++ rest.nodes) (drop_all nodes))
  where
    drop_all : (xs : List ℕ) → drop (length xs) xs ≡ []
    drop_all [] = refl
    drop_all (x ∷ xs) = drop_all xs

-- one more node before the others
pub before_next : (nodes : List ℕ) (k first : ℕ) (rest : Numbered) → drop k nodes ≡ first ∷ drop (suc k) nodes
    → chained first (chain_before (drop (suc k) nodes) rest) ≡ chain_before (drop k nodes) rest
before_next nodes k first rest split =
    same_chain (chained first (chain_before (drop (suc k) nodes) rest)) (chain_before (drop k nodes) rest)
    (chained_chain first (chain_before (drop (suc k) nodes) rest)) (before_chain (drop k nodes) rest) (ap (λ l. l ++ rest.nodes) (sym split))

-- before the network of no nodes stand all of a chain
pub before_nothing : (n : Numbered) → IsChain n → chain_before n.nodes nothing ≡ n
before_nothing n chain_is = same_chain (chain_before n.nodes nothing) n (before_chain n.nodes nothing) chain_is (append-nil n.nodes)

-- the network of no nodes is a chain
pub nothing_chain : IsChain nothing
nothing_chain = refl

-- More nodes get numbers.
use Rattle.std.proofs.Common.{◌≡◌, ℕ, ◌-◌, ◌^◌, ◌<◌, List, [], map, length, get_or, sym, ap, ap₂, ◌∙◌, refl, All, arith, min, length-append, ◌∷◌, ◌++◌, append_assoc}
use Rattle.std.specs.List.{sum, sum_by}
use Rattle.std.proofs.lemmas.List.{length-map, get_or-map, map-append, map_push, get_or_append_left}
use Rattle.std.proofs.lemmas.List.Elements.{All-push}
use Rattle.std.proofs.lemmas.List.Sums.{sum-map}
use Rattle.htn_ground.specs.Views.{child_view, children_of}
use Rattle.htn_ground.specs.declared.child.Child.{Child as Node}
use Rattle.htn_model.specs.Problem.{Child, Network, precondition}
use Rattle.htn_model.specs.Choice.{child_of}
use Rattle.network_table.specs.Children.{AreBounds, AreKept, AreNumbers, AreWhole, IsNumber, numbered_children}
use Rattle.network_table.specs.Numbered.{Numbered, IsWithin, network_of, replaced_network, nothing}
use Rattle.network_table.specs.Networks.{bound_of, children, numbered_at, network_at, IsGrown, Knows, IsWhole, NumbersStay}
use Rattle.network_table.specs.declared.child_table.ChildTable.{ChildTable}
use Rattle.network_table.specs.Expansions.{IsKnownRemoval, IsExpansion, IsSound, Live, first_free, free_positions, removal_network, position_network}
use Rattle.network_table.specs.declared.expansion.Removal.{Removal}
use Rattle.network_table.specs.declared.expansion.Expansion.{Expansion}
use Rattle.network_table.specs.declared.expansion.Expansion.TheVariants.{Decomposed, Performed}
use Rattle.network_table.specs.declared.table.NetworkTable.{NetworkTable}
use Rattle.network_table.proofs.Expanding.{all_more, map_all, map_two, within_at}

-- a node's number stays one
pub longer : (old new : ChildTable) → AreKept old new → (id : ℕ) → id < length (numbered_children old) → id < length (numbered_children new)
longer old new kept id inside =
    let old_len = length-map old.children.keys child_view in
    let new_len = length-map new.children.keys child_view in
    omega (arith, inside, ap length kept.children, length-append old.children.keys kept.more)

-- a node stays at its number
pub child_kept : (old new : ChildTable) → AreKept old new → (id : ℕ) → id < length (numbered_children old)
    → child_of (numbered_children new) id ≡ child_of (numbered_children old) id
child_kept old new kept id inside =
    ap (λ l. get_or l id (precondition [])) (ap children_of kept.children ∙ map-append child_view old.children.keys kept.more)
    ∙ get_or_append_left (numbered_children old) (children_of kept.more) (precondition []) id inside

-- a network's sum of bounds stays
pub same_bound : (old new : ChildTable) → AreWhole old → AreKept old new → (n : Numbered) → IsWithin (numbered_children old) n → bound_of new n ≡ bound_of old n
same_bound old new whole kept n within =
    let f : ℕ → ℕ = λ id. get_or new.bounds.items id 0 in
    let g : ℕ → ℕ = λ id. get_or old.bounds.items id 0 in
    let each : map f n.nodes ≡ map g n.nodes =
    map_all (λ id. id < length (numbered_children old)) f g
    (λ id inside. ap (λ l. get_or l id 0) kept.bounds ∙ get_or_append_left old.bounds.items kept.more_bounds 0 id (omega (arith, inside, whole.bounded))) n.nodes within in
    ap (λ s. min s (2 ^ 64 - 1)) (sym (sum-map f n.nodes) ∙ ap sum each ∙ sum-map g n.nodes)

-- a number stands for the same network in a table that has grown
pub numbers_stay : NumbersStay
numbers_stay old new n whole grown known = (
  omega (arith, known, ap length grown.networks, length-append old.networks grown.more),
  ap (network_of (children new)) (ap (λ l. get_or l n nothing) grown.networks ∙ get_or_append_left old.networks grown.more nothing n known)
      ∙ (let same = map_all (λ id. id < length (children old)) (child_of (children new)) (child_of (children old)) (child_kept old.children new.children grown.children) (numbered_at old n).nodes
      (within_at old n whole known) in ap (λ (l : List Child). record { children = l; order = (numbered_at old n).order }) same),
)

-- ## What is remembered

module _ (s : NetworkTable) (new : ChildTable) (kept : AreKept s.children new) (whole : IsWhole s) where
  -- the table with the new nodes, and all else as it was
  abbrev after : NetworkTable
  after = record { children = new; networks = s.networks; open_lens = s.open_lens; bounds = s.bounds; expansions = s.expansions }

  -- a node stays at its number
  child_same : (id : ℕ) → id < length (children s) → child_of (children after) id ≡ child_of (children s) id
  child_same = child_kept s.children new kept

  -- a number stands for what it stood for
  network_same : (n : ℕ) → Knows s n → network_at after n ≡ network_at s n
  network_same n known =
      let nodes = (numbered_at s n).nodes in
      let are = map_all (λ id. id < length (children s)) (child_of (children after)) (child_of (children s)) child_same nodes (within_at s n whole known) in
      ap (λ (l : List Child). record { children = l; order = (numbered_at s n).order }) are

  -- a known removal stays known
  known_after : (r : Removal) → IsKnownRemoval s r → IsKnownRemoval after r
  known_after r known = (known.0, longer s.children new kept r.node known.1)

  -- an expansion stays right
  right_after : (live : Live) (n : ℕ) (e : Expansion) → Knows s n → IsExpansion live s n e → IsExpansion live after n e
  right_after live n (Decomposed i successors) known are =
      let same = network_same n known in
      record {
        goal = are.goal;
        first = ap first_free same ∙ are.first;
        stands = ap (λ (m : Network). child_of m.children i) same ∙ are.stands;
        known = are.known;
        each = map_all (Knows s) (network_at after) (network_at s) (λ x own. network_same x own) successors.items are.known
            ∙ are.each ∙ ap (λ (m : Network). map (replaced_network m i) (live are.goal)) (sym same);
      }
  right_after live n (Performed removals) known are =
      let same = network_same n known in
      record {
        first = ap first_free same ∙ are.first;
        known = all_more (IsKnownRemoval s) (IsKnownRemoval after) known_after removals.items are.known;
        each = map_all (IsKnownRemoval s) (removal_network after) (removal_network s)
            (λ r own. ap₂ (λ (c : Child) (m : Network). (c, m)) (child_same r.node own.1) (network_same r.network own.0)) removals.items are.known
            ∙ are.each ∙ ap (λ (x : Network). map (position_network x) (free_positions (length x.children) x.order)) (sym same);
      }

  -- all that is remembered stays right
  pub sound_after : (live : Live) → IsSound live s → IsSound live after
  sound_after live sound n e known is = right_after live n e known (sound n e known is)

-- ## Nodes, one after another

-- kept, and then kept
kept_then : (s t u : ChildTable) → AreKept s t → AreKept t u → AreKept s u
kept_then s t u first second = record {
  more = first.more ++ second.more;
  children = second.children ∙ ap (λ l. l ++ second.more) first.children ∙ append_assoc s.children.keys first.more second.more;
  more_bounds = first.more_bounds ++ second.more_bounds;
  bounds = second.bounds ∙ ap (λ l. l ++ second.more_bounds) first.bounds ∙ append_assoc s.bounds.items first.more_bounds second.more_bounds;
}

-- grown, and then grown
pub grown_then : (s t u : NetworkTable) → IsGrown s t → IsGrown t u → IsGrown s u
grown_then s t u first second = record {
  children = kept_then s.children t.children u.children first.children second.children;
  more = first.more ++ second.more;
  networks = second.networks ∙ ap (λ l. l ++ second.more) first.networks ∙ append_assoc s.networks first.more second.more;
  expansions = λ n e is. second.expansions n e (first.expansions n e is);
}

-- numbers of nodes stay theirs
numbers_kept : (old new : ChildTable) → AreKept old new → (ids : List ℕ) (nodes : List Child) → AreNumbers old ids nodes → AreNumbers new ids nodes
numbers_kept old new kept ids nodes are = (
  all_more (λ id. id < length (numbered_children old)) (λ id. id < length (numbered_children new)) (λ id inside. longer old new kept id inside) ids are.0,
  map_all (λ id. id < length (numbered_children old)) (child_of (numbered_children new)) (child_of (numbered_children old)) (child_kept old new kept) ids are.0 ∙ are.1,
)

-- the number of one more node
pub numbers_next : (old new : ChildTable) → AreKept old new → (ids : List ℕ) (nodes : List Child) (id : ℕ) (node : Child) → AreNumbers old ids nodes → IsNumber new id node
    → AreNumbers new (ids ++ id ∷ []) (nodes ++ node ∷ [])
numbers_next old new kept ids nodes id node are is =
    let stay = numbers_kept old new kept ids nodes are in (
      All-push (λ id. id < length (numbered_children new)) ids id stay.0 is.0,
      map_push (child_of (numbered_children new)) ids id ∙ ap₂ (λ l y. l ++ y ∷ []) stay.1 is.1,
    )

-- ## Bounds by a measure

-- a node's bound is its measure, where the bounds of some nodes are theirs
pub bound_at : (measure : Child → ℕ) (nodes : List Node) (bounds : List ℕ) (k : ℕ) (node : Node) → bounds ≡ map measure (children_of nodes) → k < length nodes
    → node ≡ get_or nodes k node → measure (child_view node) ≡ get_or bounds k 0
bound_at measure nodes bounds k node given inside is =
    ap (λ x. measure (child_view x)) is
    ∙ sym (ap (λ l. get_or l k 0) given ∙ get_or-map measure (children_of nodes) k (precondition []) 0 (omega (arith, inside, length-map nodes child_view))
    ∙ ap measure (get_or-map child_view nodes k node (precondition []) inside))

-- the bounds of some nodes are the measures of what they stand for
pub measured : (measure : Child → ℕ) (children : List Child) (nodes : List ℕ) → All (λ id. id < length children) nodes
    → sum_by (λ id. get_or (map measure children) id 0) nodes ≡ sum_by measure (map (child_of children) nodes)
measured measure children nodes within =
    sym (sum-map (λ id. get_or (map measure children) id 0) nodes)
    ∙ ap sum (map_all (λ id. id < length children) (λ id. get_or (map measure children) id 0) (λ id. measure (child_of children id))
    (λ id inside. get_or-map measure children id (precondition []) 0 inside) nodes within
    ∙ map_two (λ id. measure (child_of children id)) (child_of children) measure (λ id. refl) nodes)
    ∙ sum-map measure (map (child_of children) nodes)

-- a network's bound is the sum of the measures of its nodes, as far as a word holds it
pub bound_measured : (measure : Child → ℕ) (t : NetworkTable) (n : ℕ) → IsWhole t → Knows t n → AreBounds measure t.children
    → bound_of t.children (numbered_at t n) ≡ min (sum_by measure (network_at t n).children) (2 ^ 64 - 1)
bound_measured measure t n whole known bounds =
    ap (λ (l : List ℕ). min (sum_by (λ id. get_or l id 0) (numbered_at t n).nodes) (2 ^ 64 - 1)) bounds
    ∙ ap (λ s. min s (2 ^ 64 - 1)) (measured measure (children t) (numbered_at t n).nodes (within_at t n whole known))

-- The last end among the leaves and steps below a node.
use Rattle.std.proofs.Common.{◌≡◌, ℕ, zero, suc, ◌+◌, ◌≤◌, [], ◌∷◌, Option, Some, None, inl, inr, sym, refl, subst, arith}
use Rattle.std.proofs.lemmas.Bool.{cases_lt}
use Rattle.htn_model.specs.Tree.{Node, leaf, step, compound, Nodes, no_nodes, node, Place, child_at, children_in, node_below}
use Rattle.htn_model.specs.Placement.{Slots, IsPrimitive, duration}
use Rattle.htn_model.proofs.Decoupled.{nothing_below, none_primitive}

-- the least number that is not below g nor below the value of any number
pub record IsGreatest (g : ℕ) (value : ℕ → ℕ) (top : ℕ) : Type 0 where
  pub low : g ≤ top
  pub upper : (i : ℕ) → value i ≤ top
  pub least : (x : ℕ) → g ≤ x → ((i : ℕ) → value i ≤ x) → top ≤ x

-- it exists where all but the first n values are at most g
pub greatest : (g : ℕ) (value : ℕ → ℕ) (n : ℕ) → ((i : ℕ) → n ≤ i → value i ≤ g) → (top : ℕ) × IsGreatest g value top
greatest g value zero small = (g, record { low = omega arith; upper = λ i. small i (omega arith); least = λ x l u. l })
greatest g value (suc n) small =
    let (top, is) = greatest g (λ i. value (suc i)) n (λ i h. small (suc i) (omega arith)) in elim (cases_lt top (value 0)) [
      | inl above ↦ (
        value 0,
        record {
          low = let l = is.low in omega arith;
          upper = λ i. elim i as (λ k. value k ≤ value 0) [ zero ↦ omega arith | suc j ↦ (let u = is.upper j in omega arith) ];
          least = λ x l u. u 0;
        },
      )
      | inr below ↦ (
        top,
        record {
          low = is.low;
          upper = λ i. elim i as (λ k. value k ≤ top) [ zero ↦ below | suc j ↦ is.upper j ];
          least = λ x l u. is.least x l (λ i. u (suc i));
        },
      )
    ]

-- each leaf and step below a node ends by a gap
abbrev pub EndsBy : Slots → Option Node → ℕ → Type 0
EndsBy slots m x = (p : Place) → IsPrimitive (node_below m p) → duration (node_below m p) + slots p ≤ x

-- the last end below a node, but not before g
pub record IsLastEnd (g : ℕ) (slots : Slots) (m : Option Node) (top : ℕ) : Type 0 where
  pub low : g ≤ top
  pub upper : EndsBy slots m top
  pub least : (x : ℕ) → g ≤ x → EndsBy slots m x → top ≤ x

-- a value in front of the others
abbrev at_front : ℕ → (ℕ → ℕ) → ℕ → ℕ
at_front x value zero = x
at_front x value (suc i) = value i

-- where the last of the leaves and steps below each child ends
pub record LastEnds (g : ℕ) (slots : Slots) (k : ℕ) (nodes : Nodes) : Type 0 where
  pub tops : ℕ → ℕ
  pub count : ℕ
  pub each : (i : ℕ) → IsLastEnd g (λ p. slots ((k + i) ∷ p)) (child_at nodes i) (tops i)
  pub small : (i : ℕ) → count ≤ i → tops i ≤ g

-- nothing ends by any gap
none_ends : (slots : Slots) (x : ℕ) → EndsBy slots None x
none_ends slots x p h = absurd (none_primitive (node_below None p) (nothing_below p) h)

-- nothing ends where it starts
nothing_last : (g : ℕ) (slots : Slots) → IsLastEnd g slots None g
nothing_last g slots = record { low = omega arith; upper = none_ends slots g; least = λ x l u. l }

-- a node without children ends by a gap if it does itself
alone : (slots : Slots) (m : Node) (x : ℕ) → children_in (Some m) ≡ no_nodes → (IsPrimitive (Some m) → duration (Some m) + slots [] ≤ x) → EndsBy slots (Some m) x
alone slots m x childless ends [] h = ends h
alone slots m x childless ends (i ∷ p) h =
    absurd (none_primitive (node_below None p) (nothing_below p) (subst (λ ns. IsPrimitive (node_below (child_at ns i) p)) childless h))

-- a leaf or step ends where it does
primitive_end : (g : ℕ) (slots : Slots) (m : Node) → children_in (Some m) ≡ no_nodes → IsPrimitive (Some m) → (top : ℕ) × IsLastEnd g slots (Some m) top
primitive_end g slots m childless primitive = elim (cases_lt g (duration (Some m) + slots [])) [
  | inl above ↦ (duration (Some m) + slots [], record { low = omega arith; upper = alone slots m _ childless (λ h. omega arith); least = λ x l u. u [] primitive })
  | inr below ↦ (g, record { low = omega arith; upper = alone slots m g childless (λ h. below); least = λ x l u. l })
]

-- a compound node ends by a gap if each child does
compound_ends : (slots : Slots) (m : Node) (nodes : Nodes) (x : ℕ) → children_in (Some m) ≡ nodes → (IsPrimitive (Some m) → ⊥)
    → ((i : ℕ) → EndsBy (λ p. slots (i ∷ p)) (child_at nodes i) x) → EndsBy slots (Some m) x
compound_ends slots m nodes x is not_itself each [] h = absurd (not_itself h)
compound_ends slots m nodes x is not_itself each (i ∷ p) h =
    subst (λ ns. duration (node_below (child_at ns i) p) + slots (i ∷ p) ≤ x) (sym is) (each i p (subst (λ ns. IsPrimitive (node_below (child_at ns i) p)) is h))

-- children at equal positions end where one does
pub shifted : (g : ℕ) (slots : Slots) (m : Option Node) (i j top : ℕ) → i ≡ j → IsLastEnd g (λ p. slots (i ∷ p)) m top → IsLastEnd g (λ p. slots (j ∷ p)) m top
shifted g slots m i j top same is = subst (λ k. IsLastEnd g (λ p. slots (k ∷ p)) m top) same is

mutual
  -- a node has a last end below it
  pub last_end : (g : ℕ) (slots : Slots) (m : Node) → (top : ℕ) × IsLastEnd g slots (Some m) top
  last_end g slots (leaf named) = primitive_end g slots (leaf named) refl tt
  last_end g slots (step literals) = primitive_end g slots (step literals) refl tt
  last_end g slots (compound t number nodes) =
      let ends = last_ends g slots 0 nodes in
      let (top, is) = greatest g ends.tops ends.count ends.small in (
        top,
        record {
          low = is.low;
          upper = compound_ends slots (compound t number nodes) nodes top refl (λ h. h) (λ i p h.
              let u = is.upper i in
              let e = (shifted g slots (child_at nodes i) (0 + i) i (ends.tops i) (omega arith) (ends.each i)).upper p h in omega arith);
          least = λ x l u. is.least x l (λ i. (shifted g slots (child_at nodes i) (0 + i) i (ends.tops i) (omega arith) (ends.each i)).least x l (λ p h. u (i ∷ p) h));
        },
      )

  -- and so does each of its children
  pub last_ends : (g : ℕ) (slots : Slots) (k : ℕ) (nodes : Nodes) → LastEnds g slots k nodes
  last_ends g slots k no_nodes = record { tops = λ i. g; count = 0; each = λ i. nothing_last g (λ p. slots ((k + i) ∷ p)); small = λ i h. omega arith }
  last_ends g slots k (node n ns) =
      let (top, is) = last_end g (λ p. slots (k ∷ p)) n in
      let rest = last_ends g slots (suc k) ns in
      record {
        tops = at_front top rest.tops;
        count = suc rest.count;
        each = λ i. elim i as (λ j. IsLastEnd g (λ p. slots ((k + j) ∷ p)) (child_at (node n ns) j) (at_front top rest.tops j)) [
          | zero ↦ shifted g slots (Some n) k (k + 0) top (omega arith) is
          | suc j ↦ shifted g slots (child_at ns j) (suc k + j) (k + suc j) (rest.tops j) (omega arith) (rest.each j)
        ];
        small = λ i. elim i as (λ j. suc rest.count ≤ j → at_front top rest.tops j ≤ g) [ zero ↦ (λ h. absurd (omega arith)) | suc j ↦ (λ h. rest.small j (omega arith)) ];
      }

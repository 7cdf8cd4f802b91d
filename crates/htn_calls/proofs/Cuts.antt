-- The series decomposition splits networks into blocks.
use Rattle.std.proofs.Common.{◌≡◌, ℕ, zero, suc, ◌+◌, ◌-◌, ◌<◌, ◌≤◌, Bool, true, false, cond, not, ◌&&◌, List, [], ◌∷◌, ◌++◌, length, take, drop, ◌⊎◌, inl, inr, sym, refl, ap, ap₂, ◌∙◌, subst, append-nil, arith}
use Rattle.std.specs.Prelude.{Contains}
use Rattle.std.proofs.lemmas.Bool.{cases_Bool, both_ways, cases_lt, and_parts, and_from, not-true, not_from_false}
use Rattle.std.proofs.lemmas.List.{length-append, length-take-le, length-drop, take-append-le, drop-append-le, take-append-drop, take_all, drop_all}
use Rattle.htn_model.specs.Problem.{Child, is_before, IsSquare, Network}
use Rattle.htn_model.specs.Choice.{is_empty}
use Rattle.htn_model.specs.Machine.{no_network}
use Rattle.htn_model.proofs.Splices.{table_within, table_square}
use Rattle.htn_calls.specs.Series.{series_before, series, series_of, IsTable}
use Rattle.htn_calls.specs.Cuts.{all_below, is_cut, front, back, next_cut, first_cut, split_by, split}
use Rattle.htn_calls.specs.Split.{IsSplit}
use Rattle.htn_calls.proofs.Series.{before_first, before_across, before_back, before_second, entry, same_tables}
use Rattle.htn_calls.proofs.Words.{series_square, nothing_square}
use Rattle.htn_calls.proofs.Blocks.{same_network, assoc, one_block}

-- ## Cuts

-- where all below pass, each does
below_each : (test : ℕ → Bool) (n k : ℕ) → all_below test n ≡ true → k < n → test k ≡ true
below_each test zero k h low = absurd (omega arith)
below_each test (suc n) k h low =
    let parts = and_parts (test n) (all_below test n) h in
    elim (cases_lt k n) [
      | inl less ↦ below_each test n k parts.1 less
      | inr other ↦ (let same : n ≡ k = omega arith in subst (λ x. test x ≡ true) same parts.0)
    ]

-- where each passes, all do
below_all : (test : ℕ → Bool) (n : ℕ) → ((k : ℕ) → k < n → test k ≡ true) → all_below test n ≡ true
below_all test zero each = refl
below_all test (suc n) each = and_from _ _ (each n (omega arith)) (below_all test n (λ k low. each k (omega arith)))

-- the first k nodes are before the others, and none back
abbrev IsCut : Network → ℕ → Type 0
IsCut n k = (i j : ℕ) → i < k → k ≤ j → j < length n.children → (is_before n.order i j ≡ true) × (is_before n.order j i ≡ false)

-- the test says so
cut_holds : (n : Network) (k : ℕ) → is_cut n k ≡ true → IsCut n k
cut_holds n k h i j low near high =
    let e : k + (j - k) ≡ j = omega arith in
    let row = below_each (λ i. all_below (λ j. is_before n.order i (k + j) && not (is_before n.order (k + j) i)) (length n.children - k)) k i h low in
    both_hold (below_each (λ j. is_before n.order i (k + j) && not (is_before n.order (k + j) i)) (length n.children - k) (j - k) row (omega arith)) e
  where
    both_hold : (is_before n.order i (k + (j - k)) && not (is_before n.order (k + (j - k)) i)) ≡ true → k + (j - k) ≡ j
        → (is_before n.order i j ≡ true) × (is_before n.order j i ≡ false)
    both_hold t e = let parts = and_parts _ _ t in (subst (λ x. is_before n.order i x ≡ true) e parts.0, subst (λ x. is_before n.order x i ≡ false) e (not-true _ parts.1))

-- and is passed by a cut
cut_passes : (n : Network) (k : ℕ) → IsCut n k → is_cut n k ≡ true
cut_passes n k cut =
    below_all _ k (λ i low. below_all _ (length n.children - k) (λ j high. (let c = cut i (k + j) low (omega arith) (omega arith) in
    and_from _ _ c.0 (not_from_false _ c.1))))

-- a cut behind some nodes, and no other before it
record IsFirst (n : Network) (k : ℕ) : Type 0 where
  some : 0 < k
  within : k ≤ length n.children
  cut : IsCut n k
  least : (j : ℕ) → 0 < j → j < k → IsCut n j → ⊥

-- the search from k on finds it
found : (n : Network) (k more : ℕ) → k + more ≡ length n.children → 0 < k → ((j : ℕ) → 0 < j → j < k → IsCut n j → ⊥) → IsFirst n (next_cut n k more)
found n k zero e some least = record { some = some; within = omega arith; cut = λ i j low near high. absurd (omega arith); least = least }
found n k (suc more) e some least = elim (cases_Bool (is_cut n k)) [
  | inl t ↦ subst (IsFirst n) (sym (ap (λ b. cond b k (next_cut n (suc k) more)) t))
      (let first : IsFirst n k = record { some = some; within = omega arith; cut = cut_holds n k t; least = least } in first)
  | inr f ↦ subst (IsFirst n) (sym (ap (λ b. cond b k (next_cut n (suc k) more)) f))
      (found n (suc k) more (omega arith) (omega arith) (λ j low high cut. elim (cases_lt j k) [
        | inl less ↦ least j low less cut
        | inr other ↦ (let same : j ≡ k = omega arith in both_ways (is_cut n k) f (cut_passes n k (subst (IsCut n) same cut)))
      ]))
]

-- so it is the first cut of a network with nodes
first_is : (n : Network) → 0 < length n.children → IsFirst n (first_cut n)
first_is n some = found n 1 (length n.children - 1) (omega arith) (omega arith) (λ j low high cut. absurd (omega arith))

-- and there is one only
first_one : (n : Network) (j k : ℕ) → IsFirst n j → IsFirst n k → j ≡ k
first_one n j k p q = elim (cases_lt j k) [
  | inl less ↦ absurd (q.least j p.some less p.cut)
  | inr other ↦ elim (cases_lt k j) [ inl less ↦ absurd (p.least k q.some less q.cut) | inr same ↦ omega arith ]
]

-- ## Fronts and backs

-- the front is a square table
front_square : (k : ℕ) (n : Network) → k ≤ length n.children → IsTable (front k n)
front_square k n low = subst (λ l. IsSquare l (front k n).order) (sym (length-take-le k n.children low)) (table_square k _)

-- so is the back
back_square : (k : ℕ) (n : Network) → IsTable (back k n)
back_square k n = subst (λ l. IsSquare l (back k n).order) (sym (length-drop k n.children)) (table_square (length n.children - k) _)

-- two networks have the same nodes, and the same entries for those
record Alike (n m : Network) : Type 0 where
  nodes : n.children ≡ m.children
  ordered : (a b : ℕ) → a < length n.children → b < length n.children → is_before n.order a b ≡ is_before m.order a b

-- a network is like itself
alike_itself : (n : Network) → Alike n n
alike_itself n = record { nodes = refl; ordered = λ a b h g. refl }

-- networks that are alike have one first cut
alike_first : (n m : Network) (k : ℕ) → Alike n m → IsFirst n k → IsFirst m k
alike_first n m k alike first =
    let l = ap length alike.nodes in
    let within = first.within in
    record {
      some = first.some;
      within = omega arith;
      cut = λ i j low near high.
          (let c = first.cut i j low near (omega arith) in
          (sym (alike.ordered i j (omega arith) (omega arith)) ∙ c.0, sym (alike.ordered j i (omega arith) (omega arith)) ∙ c.1));
      least = λ p some less cut.
          first.least p some less (λ i j low near high.
          (let c = cut i j low near (omega arith) in
          (alike.ordered i j (omega arith) (omega arith) ∙ c.0, alike.ordered j i (omega arith) (omega arith) ∙ c.1)));
    }

-- their fronts are one
alike_front : (n m : Network) (k : ℕ) → Alike n m → k ≤ length n.children → front k n ≡ front k m
alike_front n m k alike within =
    let l = ap length alike.nodes in
    same_network (front k n) (front k m) (front_square k n within) (front_square k m (omega arith)) (ap (take k) alike.nodes)
    (same_tables k k (is_before n.order) (is_before m.order) refl (λ a b h g. alike.ordered a b (omega arith) (omega arith)))

-- and their backs
alike_back : (n m : Network) (k : ℕ) → Alike n m → back k n ≡ back k m
alike_back n m k alike =
    let l = ap length alike.nodes in
    same_network (back k n) (back k m) (back_square k n) (back_square k m) (ap (drop k) alike.nodes)
    (same_tables (length n.children - k) (length m.children - k) _ _ (omega arith) (λ a b h g. alike.ordered (k + a) (k + b) (omega arith) (omega arith)))

-- ## Splits

-- a list is empty or has some
cases_some : {X : Type 0} (xs : List X) → (xs ≡ []) ⊎ ((is_empty xs ≡ false) × (0 < length xs))
cases_some [] = inl refl
cases_some (x ∷ xs) = inr (refl, omega arith)

-- no nodes have no blocks
split_none : (f : ℕ) (n : Network) → n.children ≡ [] → split_by f n ≡ []
split_none zero n e = refl
split_none (suc f) n e = ap (λ b. cond b [] (front (first_cut n) n ∷ split_by f (back (first_cut n) n))) (ap is_empty e)

-- some nodes have the first block and the others
split_some : (f : ℕ) (n : Network) (k : ℕ) → is_empty n.children ≡ false → first_cut n ≡ k → split_by (suc f) n ≡ front k n ∷ split_by f (back k n)
split_some f n k e first =
    ap (λ b. cond b [] (front (first_cut n) n ∷ split_by f (back (first_cut n) n))) e ∙ ap (λ j. front j n ∷ split_by f (back j n)) first

-- networks that are alike have the same blocks
split_alike : (f g : ℕ) (n m : Network) → length n.children ≤ f → length m.children ≤ g → Alike n m → split_by f n ≡ split_by g m
split_alike zero g n m lf lg alike = elim (cases_some n.children) [
  | inl none ↦ sym (split_none g m (sym alike.nodes ∙ none))
  | inr some ↦ (let s = some.1 in absurd (omega arith))
]
split_alike (suc f) zero n m lf lg alike = elim (cases_some m.children) [
  | inl none ↦ split_none (suc f) n (alike.nodes ∙ none)
  | inr some ↦ (let s = some.1 in absurd (omega arith))
]
split_alike (suc f) (suc g) n m lf lg alike = by (split_alike f g) (cases_some n.children)
  where
    by : ((x y : Network) → length x.children ≤ f → length y.children ≤ g → Alike x y → split_by f x ≡ split_by g y)
        → (n.children ≡ []) ⊎ ((is_empty n.children ≡ false) × (0 < length n.children)) → split_by (suc f) n ≡ split_by (suc g) m
    by shorter (inl none) = split_none (suc f) n none ∙ sym (split_none (suc g) m (sym alike.nodes ∙ none))
    by shorter (inr some) =
        let s = some.1 in
        let l = ap length alike.nodes in
        let k = first_cut n in
        let first = first_is n some.1 in
        let one : first_cut m ≡ k = first_one m (first_cut m) k (first_is m (omega arith)) (alike_first n m k alike first) in
        let positive = first.some in
        let long = length-drop k m.children in
        split_some f n k some.0 refl
        ∙ ap₂ (λ x y. x ∷ split_by f y) (alike_front n m k alike first.within) (alike_back n m k alike)
        ∙ ap (λ xs. front k m ∷ xs) (shorter (back k m) (back k m) (omega arith) (omega arith) (alike_itself (back k m)))
        ∙ sym (split_some g m k (ap is_empty (sym alike.nodes) ∙ some.0) one)

-- ## The blocks in series

-- without nodes a network is, as a table, that with none
none_whole : (n : Network) → n.children ≡ [] → no_network ≡ series n no_network
none_whole n e =
    let l = ap length e in
    same_network no_network (series n no_network) nothing_square (series_square n no_network) (sym (append-nil n.children ∙ e))
    (λ a b. sym (same_tables (length n.children + 0) 0 (series_before (length n.children) n.order []) (λ x y. false) (omega arith) (λ x y h g. absurd (omega arith)) a b))

-- a front and a back in series are the network
cut_whole : (n : Network) (k : ℕ) → k ≤ length n.children → IsCut n k → series (front k n) (back k n) ≡ series n no_network
cut_whole n k within cut =
    let x = length-take-le k n.children within in
    let y = length-drop k n.children in
    same_network (series (front k n) (back k n)) (series n no_network) (series_square (front k n) (back k n)) (series_square n no_network)
    (take-append-drop k n.children ∙ sym (append-nil n.children))
    (same_tables (length (front k n).children + length (back k n).children) (length n.children + 0) _ _ (omega arith) (λ a b h g. parts a b (omega arith) (omega arith)))
  where
    -- the length of the front
    p : ℕ
    p = length (front k n).children

    parts : (a b : ℕ) → a < length n.children → b < length n.children
        → series_before (length (take k n.children)) (front k n).order (back k n).order a b ≡ series_before (length n.children) n.order [] a b
    parts a b h g =
        ap (λ l. series_before l (front k n).order (back k n).order a b) (length-take-le k n.children within)
        ∙ sides ∙ sym (before_first (length n.children) 0 n.order [] a b h g)
      where
        sides : series_before k (front k n).order (back k n).order a b ≡ is_before n.order a b
        sides = elim (cases_lt a k) [
          | inl low ↦ elim (cases_lt b k) [
            | inl near ↦ before_first k 0 (front k n).order (back k n).order a b low near ∙ table_within k (is_before n.order) a b low near
            | inr far ↦ before_across k 0 (front k n).order (back k n).order a b low far ∙ sym (cut a b low far g).0
          ]
          | inr up ↦ elim (cases_lt b k) [
            | inl near ↦ before_back k 0 (front k n).order (back k n).order a b up near ∙ sym (cut b a near up h).1
            | inr far ↦ (let ea : k + (a - k) ≡ a = omega arith in let eb : k + (b - k) ≡ b = omega arith in
                before_second k 0 (front k n).order (back k n).order a b up far
                ∙ table_within (length n.children - k) (λ i j. is_before n.order (k + i) (k + j)) (a - k) (b - k) (omega arith) (omega arith)
                ∙ ap₂ (is_before n.order) ea eb)
          ]
        ]

-- the blocks in series are the network
whole : (f : ℕ) (n : Network) → length n.children ≤ f → series_of (split_by f n) ≡ series n no_network
whole zero n lf = elim (cases_some n.children) [ inl none ↦ none_whole n none | inr some ↦ (let s = some.1 in absurd (omega arith)) ]
whole (suc f) n lf = by (whole f) (cases_some n.children)
  where
    by : ((x : Network) → length x.children ≤ f → series_of (split_by f x) ≡ series x no_network)
        → (n.children ≡ []) ⊎ ((is_empty n.children ≡ false) × (0 < length n.children)) → series_of (split_by (suc f) n) ≡ series n no_network
    by shorter (inl none) = ap series_of (split_none (suc f) n none) ∙ none_whole n none
    by shorter (inr some) =
        let k = first_cut n in
        let first = first_is n some.1 in
        let positive = first.some in
        let long = length-drop k n.children in
        ap series_of (split_some f n k some.0 refl)
        ∙ ap (series (front k n)) (shorter (back k n) (omega arith))
        ∙ sym (assoc (front k n) (back k n) no_network)
        ∙ one_block (series (front k n) (back k n)) (series_square (front k n) (back k n))
        ∙ cut_whole n k first.within first.cut

-- ## The blocks of networks in series

module _ (n m : Network) where
  -- the entries of the first nodes
  among_first : (a b : ℕ) → a < length n.children → b < length n.children → is_before (series n m).order a b ≡ is_before n.order a b
  among_first a b h g =
      entry (length n.children) (length m.children) n.order m.order a b (omega arith) (omega arith)
      ∙ before_first (length n.children) (length m.children) n.order m.order a b h g

  -- the first cut of the first is that of both
  series_first : (k : ℕ) → IsFirst n k → IsFirst (series n m) k
  series_first k first =
      let l = length-append n.children m.children in
      let inside = first.within in
      record {
        some = first.some;
        within = omega arith;
        cut = λ i j low near high. (elim (cases_lt j (length n.children)) [
          | inl here ↦ (let c = first.cut i j low near here in (among_first i j (omega arith) here ∙ c.0, among_first j i here (omega arith) ∙ c.1))
          | inr past ↦ (
            entry (length n.children) (length m.children) n.order m.order i j (omega arith) (omega arith)
                ∙ before_across (length n.children) (length m.children) n.order m.order i j (omega arith) past,
            entry (length n.children) (length m.children) n.order m.order j i (omega arith) (omega arith)
                ∙ before_back (length n.children) (length m.children) n.order m.order j i past (omega arith),
          )
        ]);
        least = λ p some less cut.
            first.least p some less (λ i j low near high.
            (let c = cut i j low near (omega arith) in
            (sym (among_first i j (omega arith) high) ∙ c.0, sym (among_first j i high (omega arith)) ∙ c.1)));
      }

  -- the front of both is that of the first
  series_front : (k : ℕ) → k ≤ length n.children → front k (series n m) ≡ front k n
  series_front k low =
      let l = length-append n.children m.children in
      same_network (front k (series n m)) (front k n) (front_square k (series n m) (omega arith)) (front_square k n low) (take-append-le k n.children m.children low)
      (same_tables k k (is_before (series n m).order) (is_before n.order) refl (λ a b h g. among_first a b (omega arith) (omega arith)))

  -- the back of both is that of the first, and then the second
  series_back : (k : ℕ) → k ≤ length n.children → back k (series n m) ≡ series (back k n) m
  series_back k low =
      let l = length-append n.children m.children in
      let d = length-drop k n.children in
      same_network (back k (series n m)) (series (back k n) m) (back_square k (series n m)) (series_square (back k n) m) (drop-append-le k n.children m.children low)
      (same_tables (length (series n m).children - k) (length (back k n).children + length m.children) _ _ (omega arith) (λ a b h g. sides a b (omega arith) (omega arith)))
    where
      sides : (a b : ℕ) → k + a < length n.children + length m.children → k + b < length n.children + length m.children
          → is_before (series n m).order (k + a) (k + b) ≡ series_before (length (drop k n.children)) (back k n).order m.order a b
      sides a b h g =
          entry (length n.children) (length m.children) n.order m.order (k + a) (k + b) h g
          ∙ by ∙ sym (ap (λ l. series_before l (back k n).order m.order a b) (length-drop k n.children))
        where
          by : series_before (length n.children) n.order m.order (k + a) (k + b) ≡ series_before (length n.children - k) (back k n).order m.order a b
          by = elim (cases_lt a (length n.children - k)) [
            | inl a1 ↦ elim (cases_lt b (length n.children - k)) [
              | inl b1 ↦ before_first (length n.children) 0 n.order m.order (k + a) (k + b) (omega arith) (omega arith)
                  ∙ sym (before_first (length n.children - k) 0 (back k n).order m.order a b a1 b1
                  ∙ table_within (length n.children - k) (λ i j. is_before n.order (k + i) (k + j)) a b a1 b1)
              | inr b1 ↦ before_across (length n.children) 0 n.order m.order (k + a) (k + b) (omega arith) (omega arith)
                  ∙ sym (before_across (length n.children - k) 0 (back k n).order m.order a b a1 b1)
            ]
            | inr a1 ↦ elim (cases_lt b (length n.children - k)) [
              | inl b1 ↦ before_back (length n.children) 0 n.order m.order (k + a) (k + b) (omega arith) (omega arith)
                  ∙ sym (before_back (length n.children - k) 0 (back k n).order m.order a b a1 b1)
              | inr b1 ↦ (let ea : k + a - length n.children ≡ a - (length n.children - k) = omega arith in
                  let eb : k + b - length n.children ≡ b - (length n.children - k) = omega arith in
                  before_second (length n.children) 0 n.order m.order (k + a) (k + b) (omega arith) (omega arith)
                  ∙ ap₂ (is_before m.order) ea eb
                  ∙ sym (before_second (length n.children - k) 0 (back k n).order m.order a b a1 b1))
            ]
          ]

  -- in front of a network stand no nodes
  none_front : n.children ≡ [] → Alike (series n m) m
  none_front e =
      let l = ap length e in
      let t = length-append n.children m.children in
      record {
        nodes = ap (λ xs. xs ++ m.children) e;
        ordered = λ a b h g.
            (let ea : a - length n.children ≡ a = omega arith in
            let eb : b - length n.children ≡ b = omega arith in
            entry (length n.children) (length m.children) n.order m.order a b (omega arith) (omega arith)
            ∙ before_second (length n.children) (length m.children) n.order m.order a b (omega arith) (omega arith)
            ∙ ap₂ (is_before m.order) ea eb);
      }

-- networks in series have the blocks of both
joined : (f g h : ℕ) (n m : Network) → length n.children + length m.children ≤ f → length n.children ≤ g → length m.children ≤ h
    → split_by f (series n m) ≡ split_by g n ++ split_by h m
joined f zero h n m lf lg lh = elim (cases_some n.children) [
  | inl none ↦ split_alike f h (series n m) m (let t = length-append n.children m.children in omega arith) lh (none_front n m none)
  | inr some ↦ (let s = some.1 in absurd (omega arith))
]
joined zero (suc g) h n m lf lg lh = elim (cases_some n.children) [
  | inl none ↦ split_alike zero h (series n m) m (let t = length-append n.children m.children in omega arith) lh (none_front n m none)
      ∙ sym (ap (λ xs. xs ++ split_by h m) (split_none (suc g) n none))
  | inr some ↦ (let s = some.1 in absurd (omega arith))
]
joined (suc f) (suc g) h n m lf lg lh = by (joined f g h) (cases_some n.children)
  where
    by : ((x y : Network) → length x.children + length y.children ≤ f → length x.children ≤ g → length y.children ≤ h → split_by f (series x y) ≡ split_by g x ++ split_by h y)
        → (n.children ≡ []) ⊎ ((is_empty n.children ≡ false) × (0 < length n.children)) → split_by (suc f) (series n m) ≡ split_by (suc g) n ++ split_by h m
    by shorter (inl none) =
        split_alike (suc f) h (series n m) m (let t = length-append n.children m.children in omega arith) lh (none_front n m none)
        ∙ sym (ap (λ xs. xs ++ split_by h m) (split_none (suc g) n none))
    by shorter (inr some) =
        let t = length-append n.children m.children in
        let k = first_cut n in
        let first = first_is n some.1 in
        let positive = first.some in
        let long = length-drop k n.children in
        let s = some.1 in
        let one : first_cut (series n m) ≡ k = first_one (series n m) (first_cut (series n m)) k (first_is (series n m) (omega arith)) (series_first n m k first) in
        split_some f (series n m) k (still n.children m.children some.0) one
        ∙ ap₂ (λ x y. x ∷ split_by f y) (series_front n m k first.within) (series_back n m k first.within)
        ∙ ap (λ xs. front k n ∷ xs) (shorter (back k n) m (omega arith) (omega arith) lh)
        ∙ sym (ap (λ xs. xs ++ split_by h m) (split_some g n k some.0 refl))
      where
        still : (xs ys : List Child) → is_empty xs ≡ false → is_empty (xs ++ ys) ≡ false
        still [] ys e = absurd cc
        still (x ∷ xs) ys e = refl

-- ## Blocks alone

-- the front at the first cut is not split further
front_alone : (n : Network) (k f : ℕ) → IsFirst n k → length (front k n).children ≤ f → split_by f (front k n) ≡ front k n ∷ []
front_alone n k zero first lf = (let l = length-take-le k n.children first.within in let s = first.some in absurd (omega arith))
front_alone n k (suc f) first lf =
    let l = length-take-le k n.children first.within in
    let s = first.some in
    let inside = first.within in
    let own : IsFirst (front k n) k = record {
      some = first.some;
      within = omega arith;
      cut = λ i j low near high. absurd (omega arith);
      least = λ p some less cut.
          first.least p some less (λ i j low near high. (elim (cases_lt j k) [
            | inl here ↦ (let c = cut i j low near (omega arith) in
                (sym (table_within k (is_before n.order) i j (omega arith) here) ∙ c.0, sym (table_within k (is_before n.order) j i here (omega arith)) ∙ c.1))
            | inr past ↦ first.cut i j (omega arith) past high
          ]));
    } in
    let one : first_cut (front k n) ≡ k = first_one (front k n) (first_cut (front k n)) k (first_is (front k n) (omega arith)) own in
    let same : front k (front k n) ≡ front k n =
    same_network (front k (front k n)) (front k n) (front_square k (front k n) (omega arith)) (front_square k n first.within)
    (take_all k (take k n.children) (omega arith))
    (same_tables k k (is_before (front k n).order) (is_before n.order) refl (λ a b h g. table_within k (is_before n.order) a b h g)) in
    split_some f (front k n) k (has_some (take k n.children) (omega arith)) one
    ∙ ap₂ (λ x xs. x ∷ xs) same (split_none f (back k (front k n)) (drop_all k (take k n.children) (omega arith)))
  where
    has_some : (xs : List Child) → 0 < length xs → is_empty xs ≡ false
    has_some [] h = absurd (omega arith)
    has_some (x ∷ xs) h = refl

-- what stands in a list is its first or among the others
first_or : {X : Type 0} (y x : X) (ys : List X) → Contains (y ∷ ys) x → (y ≡ x) ⊎ Contains ys x
first_or y x ys (zero, low, is) = inl is
first_or y x ys (suc k, low, is) = inr (k, omega arith, is)

-- nothing stands in an empty list
none_in : {X : Type 0} (x : X) (xs : List X) → xs ≡ [] → Contains xs x → ⊥
none_in x xs e h = (let l = ap length e in let k = h.1 in omega arith)

-- a block is not split further
alone : (f : ℕ) (n x : Network) → length n.children ≤ f → Contains (split_by f n) x → split x ≡ x ∷ []
alone zero n x lf h = absurd (none_in x [] refl h)
alone (suc f) n x lf h = by (alone f) (cases_some n.children)
  where
    by : ((y z : Network) → length y.children ≤ f → Contains (split_by f y) z → split z ≡ z ∷ [])
        → (n.children ≡ []) ⊎ ((is_empty n.children ≡ false) × (0 < length n.children)) → split x ≡ x ∷ []
    by shorter (inl none) = absurd (none_in x (split_by (suc f) n) (split_none (suc f) n none) h)
    by shorter (inr some) =
        let k = first_cut n in
        let first = first_is n some.1 in
        let positive = first.some in
        let long = length-drop k n.children in
        elim (first_or (front k n) x (split_by f (back k n)) (subst (λ xs. Contains xs x) (split_some f n k some.0 refl) h)) [
          | inl same ↦ subst (λ y. split y ≡ y ∷ []) same (front_alone n k (length (front k n).children) first (omega arith))
          | inr later ↦ shorter (back k n) x (omega arith) later
        ]

-- the series decomposition splits networks
pub cuts_split : IsSplit split
cuts_split = record {
  whole = λ n. whole (length n.children) n (omega arith);
  nothing = λ n e. split_none (length n.children) n e;
  joined = λ n m.
      joined (length (series n m).children) (length n.children) (length m.children) n m (let t = length-append n.children m.children in omega arith) (omega arith) (omega arith);
  alone = λ n x h. alone (length n.children) n x (omega arith) h;
}

-- Pairs beside the sequence of the list.
use Rattle.std.proofs.Common.{◌≡◌, ℕ, zero, suc, ◌+◌, ◌-◌, ◌<◌, ◌≤◌, true, inl, inr, List, ◌++◌, length, get_or, sym, ap, ◌∙◌, subst, arith}
use Rattle.std.specs.List.{Contains}
use Rattle.std.proofs.lemmas.Bool.{cases_lt}
use Rattle.std.proofs.lemmas.List.FromFn.{get_or-map-range_with_len, length-map-range_with_len}
use Rattle.std.proofs.lemmas.List.Elements.{Contains-append_left, Contains-append_right, Contains-append_cases, All-contains, All-from_get_or}
use Rattle.htn_model.specs.Problem.{is_before}
use Rattle.htn_order.specs.Shapes.{chain}
use Rattle.htn_order.specs.Closure.{Precedes, Direct, Through, AreBelow, IsAcyclic, IsClosureOf, successors}
use Rattle.htn_order.specs.Faults.{IsCycle}
use Rattle.htn_order.specs.declared.closure.OrderFault.TheVariants.{Cycle}
use Rattle.htn_order.proofs.Chains.{before_chain, chain_before, chain_closed}
use Rattle.htn_order.proofs.Joining.{acyclic_of, closure_of, pair_among, pair_below}

-- a position with the next
abbrev next_pair : ℕ → ℕ × ℕ
next_pair k = (k, k + 1)

-- the k-th pair of a sequence is k with the next
successor_at : (n k : ℕ) (d : ℕ × ℕ) → k < n - 1 → get_or (successors n) k d ≡ (k, k + 1)
successor_at n k d low = get_or-map-range_with_len next_pair 0 (n - 1) k k d low (omega arith)

-- each position but the last is paired with the next
has_successor : (n k : ℕ) → k + 1 < n → Contains {X = ℕ × ℕ} (successors n) (k, k + 1)
has_successor n k low =
    (k, (let l = length-map-range_with_len next_pair 0 (n - 1) in omega arith), successor_at n k (k, k + 1) (omega arith))

-- a pair of the sequence ascends and lies in it
is_successor : (n x y : ℕ) → Contains {X = ℕ × ℕ} (successors n) (x, y) → (x < y) × (y < n)
is_successor n x y (k, low, is) =
    let fits : k < n - 1 = (let l = length-map-range_with_len next_pair 0 (n - 1) in omega arith) in
    let same = sym (successor_at n k (x, y) fits) ∙ is in
    let first : k ≡ x = ap (λ p. p.0) same in
    let second : k + 1 ≡ y = ap (λ p. p.1) same in
    (omega arith, omega arith)

-- a position leads to each later one
steps : (n : ℕ) (pairs : List (ℕ × ℕ)) (x d : ℕ) → x + suc d < n → Precedes (successors n ++ pairs) x (x + suc d)
steps n pairs x zero low =
    let next : x + 1 ≡ x + suc zero = omega arith in
    subst (Precedes (successors n ++ pairs) x) next (Direct x (x + 1) (Contains-append_left (successors n) pairs (x, x + 1) (has_successor n x (omega arith))))
steps n pairs x (suc d) low =
    let far : x + 1 + suc d ≡ x + suc (suc d) = omega arith in
    subst (Precedes (successors n ++ pairs) x) far
    (Through x (x + 1) (x + 1 + suc d) (Contains-append_left (successors n) pairs (x, x + 1) (has_successor n x (omega arith))) (steps n pairs (x + 1) d (omega arith)))

-- the sequence leads from each position to each greater one
onward : (n : ℕ) (pairs : List (ℕ × ℕ)) (x y : ℕ) → x < y → y < n → Precedes (successors n ++ pairs) x y
onward n pairs x y before low =
    let e : x + suc (y - x - 1) ≡ y = omega arith in subst (Precedes (successors n ++ pairs) x) e (steps n pairs x (y - x - 1) (omega arith))

-- the first k pairs lead to later positions
abbrev pub Ascends : List (ℕ × ℕ) → ℕ → Type 0
Ascends pairs k = (j : ℕ) → j < k → (get_or pairs j (0, 0)).0 < (get_or pairs j (0, 0)).1

-- one pair more that ascends
pub ascends_more : (pairs : List (ℕ × ℕ)) (k : ℕ) → Ascends pairs k → (get_or pairs k (0, 0)).0 < (get_or pairs k (0, 0)).1 → Ascends pairs (k + 1)
ascends_more pairs k so_far here j low = elim (cases_lt j k) [
  | inl before ↦ so_far j before
  | inr now ↦ (let e : k ≡ j = omega arith in subst (λ i. (get_or pairs i (0, 0)).0 < (get_or pairs i (0, 0)).1) e here)
]

-- where all pairs ascend, the chain has them
each_before : (n : ℕ) (pairs : List (ℕ × ℕ)) (k : ℕ) → AreBelow n pairs → length pairs ≤ k → Ascends pairs k
    → (x y : ℕ) → Contains {X = ℕ × ℕ} (successors n ++ pairs) (x, y) → is_before (chain n) x y ≡ true
each_before n pairs k below past ascends x y h = elim (Contains-append_cases (successors n) pairs (x, y) h) [
  | inl next ↦ (let p = is_successor n x y next in before_chain n x y p.0 p.1)
  | inr pair ↦ (let bounds = All-contains (λ p. (p.0 < n) × (p.1 < n)) pairs (x, y) below pair in
      let up = All-contains (λ p. p.0 < p.1) pairs (x, y) (All-from_get_or (λ p. p.0 < p.1) pairs (0, 0) (λ j low. ascends j (omega arith))) pair in
      before_chain n x y up bounds.1)
]

-- where all pairs ascend, the chain is the closure of the sequence with them
pub chain_closure : (n : ℕ) (pairs : List (ℕ × ℕ)) (k : ℕ) → AreBelow n pairs → length pairs ≤ k → Ascends pairs k → IsClosureOf (successors n ++ pairs) (chain n)
chain_closure n pairs k below past ascends =
    closure_of (successors n ++ pairs) (chain n) (chain_closed n)
    (λ x y h. let p = chain_before n x y h in onward n pairs x y p.0 p.1) (each_before n pairs k below past ascends)

-- where all pairs ascend, they and the sequence have no cycle
pub chain_acyclic : (n : ℕ) (pairs : List (ℕ × ℕ)) (k : ℕ) → AreBelow n pairs → length pairs ≤ k → Ascends pairs k → IsAcyclic (successors n ++ pairs)
chain_acyclic n pairs k below past ascends = acyclic_of (successors n ++ pairs) (chain n) (chain_closed n) (each_before n pairs k below past ascends)

-- a pair that leads back is on a cycle
pub chain_cycle : (n : ℕ) (pairs : List (ℕ × ℕ)) (k a b : ℕ) → AreBelow n pairs → k < length pairs → get_or pairs k (0, 0) ≡ (a, b) → b ≤ a → IsCycle (successors n) pairs (Cycle k)
chain_cycle n pairs k a b below low at back =
    let pair = Contains-append_right (successors n) pairs (a, b) (pair_among pairs k a b low at) in
    let bounds = pair_below pairs n k a b below low at in
    let around : Precedes (successors n ++ pairs) a a = (elim (cases_lt b a) [
      | inl before ↦ Through a b a pair (onward n pairs b a before bounds.0)
      | inr same ↦ (let e : b ≡ a = omega arith in subst (Precedes (successors n ++ pairs) a) e (Direct a b pair))
    ]) in
    (low, subst (λ p. Precedes (successors n ++ pairs) p.0 p.0) (sym at) around)

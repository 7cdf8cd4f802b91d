-- Orders that are total in the sequence of the list.
use Rattle.std.proofs.Common.{◌≡◌, ℕ, zero, suc, ◌+◌, ◌-◌, ◌<◌, ◌≤◌, Bool, true, false, cond, ltb, eqb, ◌⊎◌, ◌↔◌, inl, inr, length, refl, sym, ap, ◌∙◌, subst, arith}
use Rattle.std.proofs.lemmas.Bool.{cases_lt, lt-ltb, le-ltb, both_ways, ltb-true, false_from_ne_true, eqb-true, eq-eqb}
use Rattle.htn_model.specs.Problem.{Order, is_before, IsClosed, IsSquare, order_eq}
use Rattle.htn_model.proofs.Splices.{table_within, table_past_right, table_square, same_order, square_past_left, square_past_right}
use Rattle.htn_order.specs.Shapes.{chain, unordered}
use Rattle.htn_model.specs.Equality.{order_eq-decides}
use Rattle.htn_order.specs.OrderHash.{order_hash}
use Rattle.htn_order.specs.BitRows.{rows_hash}
use Rattle.std.specs.Hash as fed
use Rattle.std.proofs.lemmas.Bool.Decides.{same_from_decides}
use Rattle.htn_order.proofs.Tables.{table_size, within}

-- a chain of n has n rows
pub chain_size : (n : ℕ) → length (chain n) ≡ n
chain_size n = table_size n ltb

-- a chain of n is a square table
pub chain_square : (n : ℕ) → IsSquare n (chain n)
chain_square n = table_square n ltb

-- what comes before another in a chain has a smaller position, and both are in it
pub chain_before : (n x y : ℕ) → is_before (chain n) x y ≡ true → (x < y) × (y < n)
chain_before n x y h = let w = within n ltb x y h in (ltb-true x y w.2, w.1)

-- a smaller position comes before a greater one in the chain
pub before_chain : (n x y : ℕ) → x < y → y < n → is_before (chain n) x y ≡ true
before_chain n x y h g = table_within n ltb x y (omega arith) g ∙ lt-ltb x y h

-- no position comes before one past the end, nor before one that isn't greater
pub not_before_chain : (n x y : ℕ) → (n ≤ y) ⊎ (y ≤ x) → is_before (chain n) x y ≡ false
not_before_chain n x y (inl past) = table_past_right n ltb x y past
not_before_chain n x y (inr back) = false_from_ne_true (is_before (chain n) x y) (λ t. let w = chain_before n x y t in omega arith)

-- a chain is a closed order
pub chain_closed : (n : ℕ) → IsClosed (chain n)
chain_closed n = record {
  irreflexive = λ a. not_before_chain n a a (inr (omega arith));
  transitive = λ a b c h g. (let p = chain_before n a b h in let q = chain_before n b c g in before_chain n a c (omega arith) (omega arith));
}

-- no order at all is a closed order
pub unordered_closed : (n : ℕ) → IsClosed (unordered n)
unordered_closed n = record {
  irreflexive = λ a. false_from_ne_true (is_before (unordered n) a a) (λ t. both_ways false refl ((within n (λ a b. false) a a t).2));
  transitive = λ a b c h g. absurd (both_ways false refl ((within n (λ a b. false) a b h).2));
}

-- ## Each position before the next

-- each of the first k nodes comes before the next
abbrev pub NextBelow : Order → ℕ → Type 0
NextBelow order k = (b : ℕ) → 1 ≤ b → b < k → is_before order (b - 1) b ≡ true

-- so a node comes before each that is further on
pub ahead : (order : Order) → IsClosed order → (k : ℕ) → NextBelow order k → (a d : ℕ) → a + suc d < k → is_before order a (a + suc d) ≡ true
ahead order closed k next a zero h =
    let e : a + suc 0 - 1 ≡ a = omega arith in subst (λ u. is_before order u (a + suc 0) ≡ true) e (next (a + suc 0) (omega arith) h)
ahead order closed k next a (suc d) h =
    let e : a + suc (suc d) - 1 ≡ a + suc d = omega arith in
    closed.transitive a (a + suc d) (a + suc (suc d)) (ahead order closed k next a d (omega arith))
    (subst (λ u. is_before order u (a + suc (suc d)) ≡ true) e (next (a + suc (suc d)) (omega arith) h))

-- so a smaller position comes before a greater one
ahead_of : (order : Order) → IsClosed order → (k : ℕ) → NextBelow order k → (a b : ℕ) → a < b → b < k → is_before order a b ≡ true
ahead_of order closed k next a b h g =
    let e : a + suc (b - a - 1) ≡ b = omega arith in
    subst (λ u. is_before order a u ≡ true) e (ahead order closed k next a (b - a - 1) (omega arith))

-- a closed order whose nodes come one before the next is a chain
pub chain_from_next : (order : Order) → IsClosed order → IsSquare (length order) order → (k : ℕ) → length order ≤ k → NextBelow order k → order ≡ chain (length order)
chain_from_next order closed square k past next =
    let n = length order in
    same_order n order (chain n) square (chain_square n) (λ a b. elim (cases_lt b n) [
      | inr out ↦ square_past_right n order a b square out ∙ sym (not_before_chain n a b (inl out))
      | inl low ↦ elim (cases_lt a b) [
        | inl before ↦ ahead_of order closed k next a b before (omega arith) ∙ sym (before_chain n a b before low)
        | inr back ↦ never a b low back ∙ sym (not_before_chain n a b (inr back))
      ]
    ])
  where
    never : (a b : ℕ) → b < length order → b ≤ a → is_before order a b ≡ false
    never a b low back = elim (cases_lt a (length order)) [
      | inr out ↦ square_past_left (length order) order a b square out
      | inl in_it ↦ false_from_ne_true (is_before order a b) (λ t. both_ways (is_before order b b) (closed.irreflexive b) (again a b in_it back t))
    ]
      where
        again : (a b : ℕ) → a < length order → b ≤ a → is_before order a b ≡ true → is_before order b b ≡ true
        again a b in_it back t = elim (cases_lt b a) [
          | inl less ↦ closed.transitive b a b (ahead_of order closed k next b a less (omega arith)) t
          | inr more ↦ (let e : a ≡ b = omega arith in subst (λ u. is_before order u b ≡ true) e t)
        ]

-- of one node nothing is to be said
pub next_start : (order : Order) → NextBelow order 1
next_start order b low high = absurd (omega arith)

-- one node more that comes after the one before it
pub next_more : (order : Order) (k : ℕ) → NextBelow order k → is_before order (k - 1) k ≡ true → NextBelow order (k + 1)
next_more order k so_far here b low high = elim (cases_lt b k) [
  | inl less ↦ so_far b low less
  | inr more ↦ (let e : k ≡ b = omega arith in subst (λ u. is_before order (u - 1) u ≡ true) e here)
]

-- an order with a node that doesn't come before the next is no chain
pub no_chain : (order : Order) (k : ℕ) → 1 ≤ k → k < length order → is_before order (k - 1) k ≡ false → order ≡ chain (length order) → ⊥
no_chain order k low high out e =
    both_ways (is_before order (k - 1) k) out (subst (λ o. is_before o (k - 1) k ≡ true) (sym e) (before_chain (length order) (k - 1) k (omega arith) high))

-- what shows that an order is no chain makes the test of that fail
pub no_chain_eq : (order : Order) (b : Bool) → b ≡ false → (order ≡ chain (length order) → b ≡ true) → order_eq order (chain (length order)) ≡ false
no_chain_eq order b f given =
    false_from_ne_true (order_eq order (chain (length order))) (λ t. both_ways b f (given ((order_eq-decides order (chain (length order))).0 t)))

-- a chain is as wide as it is long
pub chain_square_of : (n : ℕ) → IsSquare (length (chain n)) (chain n)
chain_square_of n = subst (λ m. IsSquare m (chain n)) (sym (chain_size n)) (chain_square n)

-- a smaller position comes before a greater one exactly where that is in the chain
pub chain_read : (n x y : ℕ) → x < y → is_before (chain n) x y ≡ ltb y n
chain_read n x y h = elim (cases_lt y n) [
  | inl low ↦ before_chain n x y h low ∙ sym (lt-ltb y n low)
  | inr past ↦ not_before_chain n x y (inl past) ∙ sym (le-ltb y n past)
]

-- ## Equal orders

-- a chain feeds a hasher its length
pub chain_hash : (n : ℕ) → order_hash (chain n) ≡ fed.usize n
chain_hash n =
    let size = chain_size n in
    let same : order_eq (chain n) (chain (length (chain n))) ≡ true = (order_eq-decides (chain n) (chain (length (chain n)))).1 (ap chain (sym size)) in
    ap (λ b. cond b (fed.usize (length (chain n))) (rows_hash (chain n))) same ∙ ap fed.usize size

-- a test that tells equality answers as the test of orders does
pub same_eq : (r s : Order) (b : Bool) → (b ≡ true) ↔ (r ≡ s) → b ≡ order_eq r s
same_eq r s b h = same_from_decides b (order_eq r s) h (order_eq-decides r s)

-- chains are equal exactly where they have one length
pub chain_eq : (n m : ℕ) → eqb n m ≡ order_eq (chain n) (chain m)
chain_eq n m =
    same_eq (chain n) (chain m) (eqb n m) (λ t. ap chain (eqb-true n m t), λ e. eq-eqb n m (sym (chain_size n) ∙ ap length e ∙ chain_size m))

-- an order that is no chain of its own size is no chain at all
pub other_than_chain : (order : Order) (n : ℕ) → order_eq order (chain (length order)) ≡ false → order ≡ chain n → ⊥
other_than_chain order n h e =
    both_ways (order_eq order (chain (length order))) h ((order_eq-decides order (chain (length order))).1 (e ∙ ap chain (sym (chain_size n) ∙ sym (ap length e))))

-- a chain isn't equal to rows that are no chain
pub chain_or_rows : (n : ℕ) (order : Order) → order_eq order (chain (length order)) ≡ false → false ≡ order_eq (chain n) order
chain_or_rows n order h =
    sym (false_from_ne_true (order_eq (chain n) order) (λ t. other_than_chain order n h (sym ((order_eq-decides (chain n) order).0 t))))

-- rows that are no chain aren't equal to a chain
pub rows_or_chain : (order : Order) (n : ℕ) → order_eq order (chain (length order)) ≡ false → false ≡ order_eq order (chain n)
rows_or_chain order n h =
    sym (false_from_ne_true (order_eq order (chain n)) (λ t. other_than_chain order n h ((order_eq-decides order (chain n)).0 t)))

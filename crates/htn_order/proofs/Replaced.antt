-- The order in which a node is replaced by a network.
use Rattle.std.proofs.Common.{◌≡◌, ◌≢◌, ℕ, ◌+◌, ◌-◌, ◌<◌, ◌≤◌, Bool, true, false, cond, eqb, ltb, ◌&&◌, inl, inr, length, sym, ap, ap₂, ◌∙◌, subst, arith}
use Rattle.std.proofs.lemmas.Bool.{cases_lt, cases_eq, eq-eqb, ne_eqb, lt-ltb, le-ltb, both_ways, false_from_ne_true}
use Rattle.htn_model.specs.Problem.{Order, is_before, IsClosed}
use Rattle.htn_model.specs.Machine.{origin, replaced_order, table}
use Rattle.htn_model.proofs.Splices.{table_within, origin_below, origin_inside, origin_above}
use Rattle.htn_order.specs.Shapes.{chain, is_before_with_first, with_first}
use Rattle.htn_order.proofs.Tables.{within, same_tables}
use Rattle.htn_order.proofs.Chains.{before_chain, chain_size, not_before_chain}

-- ## Closed

-- a table of a test that is irreflexive and transitive is closed
pub table_closed : (n : ℕ) (f : ℕ → ℕ → Bool) → ((a : ℕ) → f a a ≡ false) → ((a b c : ℕ) → f a b ≡ true → f b c ≡ true → f a c ≡ true) → IsClosed (table n f)
table_closed n f irreflexive transitive = record {
  irreflexive = λ a. false_from_ne_true (is_before (table n f) a a) (λ t. both_ways (f a a) (irreflexive a) (within n f a a t).2);
  transitive = λ a b c h g. (let p = within n f a b h in let q = within n f b c g in table_within n f a c p.0 q.1 ∙ transitive a b c p.2 q.2);
}

module _ (order : Order) (i m : ℕ) (inner : Order) where
  -- of two nodes of the inner network its own order tells
  read_in : (a b : ℕ) → origin i m a ≡ i → origin i m b ≡ i → replaced_order order i m inner a b ≡ is_before inner (a - i) (b - i)
  read_in a b e f =
      ap₂ (λ p q. cond (p && q) (is_before inner (a - i) (b - i)) (is_before order (origin i m a) (origin i m b))) (eq-eqb (origin i m a) i e) (eq-eqb (origin i m b) i f)

  -- before another by the order of the node that it stands for, if it is outside
  read_left : (a b : ℕ) → (origin i m a ≡ i → ⊥) → replaced_order order i m inner a b ≡ is_before order (origin i m a) (origin i m b)
  read_left a b e =
      ap (λ p. cond (p && eqb (origin i m b) i) (is_before inner (a - i) (b - i)) (is_before order (origin i m a) (origin i m b))) (ne_eqb (origin i m a) i e)

  -- a node of the inner network comes before one outside as the replaced one does
  read_right : (a b : ℕ) → origin i m a ≡ i → (origin i m b ≡ i → ⊥) → replaced_order order i m inner a b ≡ is_before order i (origin i m b)
  read_right a b e f =
      ap₂ (λ p q. cond (p && q) (is_before inner (a - i) (b - i)) (is_before order (origin i m a) (origin i m b))) (eq-eqb (origin i m a) i e) (ne_eqb (origin i m b) i f)
      ∙ ap (λ u. is_before order u (origin i m b)) e

  -- nothing comes before itself
  pub replaced_irreflexive : IsClosed order → IsClosed inner → (a : ℕ) → replaced_order order i m inner a a ≡ false
  replaced_irreflexive outer inside a = elim (cases_eq (origin i m a) i) [
    | inl e ↦ read_in a a e e ∙ inside.irreflexive (a - i)
    | inr e ↦ read_left a a e ∙ outer.irreflexive (origin i m a)
  ]

  -- what comes before what comes before another comes before that
  pub replaced_transitive : IsClosed order → IsClosed inner → (a b c : ℕ) → replaced_order order i m inner a b ≡ true → replaced_order order i m inner b c ≡ true
      → replaced_order order i m inner a c ≡ true
  replaced_transitive outer inside a b c h g = elim (cases_eq (origin i m a) i) [
    | inl e ↦ elim (cases_eq (origin i m b) i) [
      | inl f ↦ elim (cases_eq (origin i m c) i) [
        | inl k ↦ read_in a c e k ∙ inside.transitive (a - i) (b - i) (c - i) (sym (read_in a b e f) ∙ h) (sym (read_in b c f k) ∙ g)
        | inr k ↦ read_right a c e k ∙ sym (read_right b c f k) ∙ g
      ]
      | inr f ↦ (let first : is_before order i (origin i m b) ≡ true = sym (read_right a b e f) ∙ h in
          let second : is_before order (origin i m b) (origin i m c) ≡ true = sym (read_left b c f) ∙ g in
          let both : is_before order i (origin i m c) ≡ true = outer.transitive i (origin i m b) (origin i m c) first second in
          elim (cases_eq (origin i m c) i) [
            | inl k ↦ absurd (both_ways (is_before order i i) (outer.irreflexive i) (subst (λ u. is_before order i u ≡ true) k both))
            | inr k ↦ read_right a c e k ∙ both
          ])
    ]
    | inr e ↦ elim (cases_eq (origin i m b) i) [
      | inl f ↦ (let first : is_before order (origin i m a) i ≡ true = subst (λ u. is_before order (origin i m a) u ≡ true) f (sym (read_left a b e) ∙ h) in
          elim (cases_eq (origin i m c) i) [
            | inl k ↦ read_left a c e ∙ subst (λ u. is_before order (origin i m a) u ≡ true) (sym k) first
            | inr k ↦ read_left a c e ∙ outer.transitive (origin i m a) i (origin i m c) first (sym (read_right b c f k) ∙ g)
          ])
      | inr f ↦ read_left a c e ∙ outer.transitive (origin i m a) (origin i m b) (origin i m c) (sym (read_left a b e) ∙ h) (sym (read_left b c f) ∙ g)
    ]
  ]

-- the order with a node replaced is closed
pub replaced_closed : (n : ℕ) (order : Order) (i m : ℕ) (inner : Order) → IsClosed order → IsClosed inner → IsClosed (table n (replaced_order order i m inner))
replaced_closed n order i m inner outer inside =
    table_closed n (replaced_order order i m inner) (replaced_irreflexive order i m inner outer inside) (replaced_transitive order i m inner outer inside)

-- ## A chain in a chain

-- where two positions stood, seen from where they stand
data Side (i m a : ℕ) : Type 0 where
  Before : a < i → origin i m a ≡ a → Side i m a
  Inside : i ≤ a → a < i + m → origin i m a ≡ i → Side i m a
  After : i + m ≤ a → origin i m a ≡ a + 1 - m → Side i m a

-- a position is before the inner network, in it, or behind it
side_of : (i m a : ℕ) → Side i m a
side_of i m a = elim (cases_lt a i) [
  | inl low ↦ Before low (origin_below i m a low)
  | inr up ↦ elim (cases_lt a (i + m)) [
    | inl within ↦ Inside up within (origin_inside i m a up within)
    | inr above ↦ After above (origin_above i m a above)
  ]
]

-- in a chain a position comes before another exactly where it is smaller
chain_test : (n x y : ℕ) → y < n → is_before (chain n) x y ≡ ltb x y
chain_test n x y h = elim (cases_lt x y) [
  | inl low ↦ before_chain n x y low h ∙ sym (lt-ltb x y low)
  | inr back ↦ not_before_chain n x y (inr back) ∙ sym (le-ltb x y back)
]

-- two comparisons that follow from one another have one answer
ltb_alike : (x y a b : ℕ) → (x < y → a < b) → (a < b → x < y) → ltb x y ≡ ltb a b
ltb_alike x y a b there back = elim (cases_lt x y) [
  | inl low ↦ lt-ltb x y low ∙ sym (lt-ltb a b (there low))
  | inr up ↦ elim (cases_lt a b) [
    | inl low ↦ lt-ltb x y (back low) ∙ sym (lt-ltb a b low)
    | inr other ↦ le-ltb x y up ∙ sym (le-ltb a b other)
  ]
]

module _ (n i m : ℕ) (h : i < n) where
  -- from outside, a chain in a chain compares positions
  outside_left : (a b : ℕ) → (origin i m a ≡ i → ⊥) → Side i m a → Side i m b → b < n - 1 + m → replaced_order (chain n) i m (chain m) a b ≡ ltb a b
  outside_left a b out sa sb fits =
      read_left (chain n) i m (chain m) a b out ∙ chain_test n (origin i m a) (origin i m b) (low sb) ∙ ltb_alike (origin i m a) (origin i m b) a b (there sa sb) (back sa sb)
    where
      low : Side i m b → origin i m b < n
      low (Before p e) = omega arith
      low (Inside p q e) = omega arith
      low (After p e) = omega arith

      there : Side i m a → Side i m b → origin i m a < origin i m b → a < b
      there (Before p e) (Before q f) g = omega arith
      there (Before p e) (Inside q r f) g = omega arith
      there (Before p e) (After q f) g = omega arith
      there (Inside p r e) sb g = absurd (out e)
      there (After p e) (Before q f) g = omega arith
      there (After p e) (Inside q r f) g = omega arith
      there (After p e) (After q f) g = omega arith

      back : Side i m a → Side i m b → a < b → origin i m a < origin i m b
      back (Before p e) (Before q f) g = omega arith
      back (Before p e) (Inside q r f) g = omega arith
      back (Before p e) (After q f) g = omega arith
      back (Inside p r e) sb g = absurd (out e)
      back (After p e) (Before q f) g = omega arith
      back (After p e) (Inside q r f) g = omega arith
      back (After p e) (After q f) g = omega arith

  -- from inside to outside, a chain in a chain compares positions
  outside_right : (a b : ℕ) → origin i m a ≡ i → (origin i m b ≡ i → ⊥) → Side i m a → Side i m b → b < n - 1 + m → replaced_order (chain n) i m (chain m) a b ≡ ltb a b
  outside_right a b e out sa sb fits =
      read_right (chain n) i m (chain m) a b e out ∙ chain_test n i (origin i m b) (low sb) ∙ ltb_alike i (origin i m b) a b (there sa sb) (back sa sb)
    where
      low : Side i m b → origin i m b < n
      low (Before p f) = omega arith
      low (Inside p q f) = omega arith
      low (After p f) = omega arith

      there : Side i m a → Side i m b → i < origin i m b → a < b
      there (Before p f) sb g = omega arith
      there (Inside p r f) (Before q k) g = omega arith
      there (Inside p r f) (Inside q s k) g = absurd (out k)
      there (Inside p r f) (After q k) g = omega arith
      there (After p f) sb g = omega arith

      back : Side i m a → Side i m b → a < b → i < origin i m b
      back (Before p f) sb g = omega arith
      back (Inside p r f) (Before q k) g = omega arith
      back (Inside p r f) (Inside q s k) g = absurd (out k)
      back (Inside p r f) (After q k) g = omega arith
      back (After p f) sb g = omega arith

  -- inside, a chain in a chain compares positions
  inside_both : (a b : ℕ) → origin i m a ≡ i → origin i m b ≡ i → Side i m a → Side i m b → replaced_order (chain n) i m (chain m) a b ≡ ltb a b
  inside_both a b e f sa sb =
      read_in (chain n) i m (chain m) a b e f ∙ chain_test m (a - i) (b - i) (low sb) ∙ ltb_alike (a - i) (b - i) a b (λ g. first sa sb g) (λ g. second sa sb g)
    where
      low : Side i m b → b - i < m
      low (Before p k) = omega arith
      low (Inside p q k) = omega arith
      low (After p k) = omega arith

      first : Side i m a → Side i m b → a - i < b - i → a < b
      first sa (Before p k) g = omega arith
      first sa (Inside p q k) g = omega arith
      first sa (After p k) g = omega arith

      second : Side i m a → Side i m b → a < b → a - i < b - i
      second (Before p k) sb g = omega arith
      second (Inside p q k) sb g = omega arith
      second (After p k) sb g = omega arith

  -- a chain in the place of a chain's node makes a chain
  pub chain_in_chain : table (n - 1 + m) (replaced_order (chain n) i m (chain m)) ≡ chain (n - 1 + m)
  chain_in_chain = same_tables (n - 1 + m) (replaced_order (chain n) i m (chain m)) ltb (λ a b low fits. elim (cases_eq (origin i m a) i) [
    | inl e ↦ elim (cases_eq (origin i m b) i) [
      | inl f ↦ inside_both a b e f (side_of i m a) (side_of i m b)
      | inr f ↦ outside_right a b e f (side_of i m a) (side_of i m b) fits
    ]
    | inr e ↦ outside_left a b e (side_of i m a) (side_of i m b) fits
  ])

-- a chain whose node is replaced by a chain is the chain of all nodes
pub chain_replaced : (n i m : ℕ) → i < length (chain n)
    → chain (length (chain n) - 1 + length (chain m)) ≡ table (length (chain n) - 1 + length (chain m)) (replaced_order (chain n) i (length (chain m)) (chain m))
chain_replaced n i m low =
    let outer = chain_size n in
    let inside = chain_size m in
    let size : length (chain n) - 1 + length (chain m) ≡ n - 1 + m = omega arith in
    ap chain size ∙ sym (chain_in_chain n i m (omega arith))
    ∙ sym (ap₂ (λ k j. table k (replaced_order (chain n) i j (chain m))) size inside)

-- ## A new first position

-- a network behind one node is ordered as the order with a first node says
first_test : (m : ℕ) (inner : Order) (a b : ℕ) → a < m + 1 → b < m + 1 → replaced_order (chain 2) 1 m inner a b ≡ is_before_with_first inner a b
first_test m inner a b low fits = elim (cases_eq b 0) [
  | inl zero_b ↦ (let o : origin 1 m b ≡ b = origin_below 1 m b (omega arith) in
      before_first o zero_b ∙ sym (ap (λ p. cond p false (cond (eqb a 0) true (is_before inner (a - 1) (b - 1)))) (eq-eqb b 0 zero_b)))
  | inr later ↦ (let b_later : b ≢ 0 = later in
      let o : origin 1 m b ≡ 1 = origin_inside 1 m b (omega arith) (omega arith) in
      elim (cases_eq a 0) [
        | inl zero_a ↦ (let p : origin 1 m a ≡ a = origin_below 1 m a (omega arith) in
            read_left (chain 2) 1 m inner a b (λ e. omega arith) ∙ ap₂ (is_before (chain 2)) (p ∙ zero_a) o
            ∙ sym (ap₂ (λ p q. cond p false (cond q true (is_before inner (a - 1) (b - 1)))) (ne_eqb b 0 later) (eq-eqb a 0 zero_a)))
        | inr other ↦ (let a_later : a ≢ 0 = other in
            read_in (chain 2) 1 m inner a b (origin_inside 1 m a (omega arith) (omega arith)) o
            ∙ sym (ap₂ (λ p q. cond p false (cond q true (is_before inner (a - 1) (b - 1)))) (ne_eqb b 0 later) (ne_eqb a 0 other)))
      ])
]
  where
    before_first : origin 1 m b ≡ b → b ≡ 0 → replaced_order (chain 2) 1 m inner a b ≡ false
    before_first o z = elim (cases_eq (origin 1 m a) 1) [
      | inl e ↦ read_right (chain 2) 1 m inner a b e (λ f. omega arith) ∙ not_before_chain 2 1 (origin 1 m b) (inr (omega arith))
      | inr e ↦ read_left (chain 2) 1 m inner a b e ∙ not_before_chain 2 (origin 1 m a) (origin 1 m b) (inr (omega arith))
    ]

-- a new first position is the first of two whose second is replaced
pub first_of_two : (inner : Order) → table (length (chain 2) - 1 + length inner) (replaced_order (chain 2) 1 (length inner) inner) ≡ with_first inner
first_of_two inner =
    let m = length inner in
    let size : length (chain 2) - 1 + m ≡ m + 1 = (let two = chain_size 2 in omega arith) in
    ap (λ n. table n (replaced_order (chain 2) 1 m inner)) size
    ∙ same_tables (m + 1) (replaced_order (chain 2) 1 m inner) (is_before_with_first inner) (λ a b low fits. first_test m inner a b low fits)

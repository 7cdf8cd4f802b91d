-- What a chain needs, by what the chain of its later nodes does.
use Rattle.std.proofs.Common.{◌≡◌, ℕ, zero, suc, ◌+◌, ◌<◌, Bool, true, false, not, cond, ◌&&◌, ◌||◌, ltb, List, [], ◌∷◌, ◌++◌, length, filter, inl, inr, refl, sym, ap, ap₂, ◌∙◌, arith, add-one}
use Rattle.std.specs.List.{flat_map, list_any, range_with_len}
use Rattle.std.proofs.Math.Dec.{eqb-suc-suc, eqb-suc-zero, eqb-zero-suc}
use Rattle.std.proofs.lemmas.Bool.{cases_lt, lt-ltb, le-ltb}
use Rattle.std.proofs.lemmas.List.Elements.{filter-append}
use Rattle.htn_model.specs.Choice.{child_of}
use Rattle.htn_model.specs.Literal.{Literal}
use Rattle.htn_model.specs.Problem.{Child, Network, Order, is_before}
use Rattle.htn_model.proofs.Splices.{table_within}
use Rattle.htn_order.proofs.Chains.{before_chain, not_before_chain}
use Rattle.heuristics.specs.Chains.{ChainsNeed, IsChain, led_by, not_given_by}
use Rattle.heuristics.specs.Needs.{is_ungiven, may_give, needed, needed_at, needed_goal, Outlook}
use Rattle.heuristics.proofs.RowsThere.{not_given}

-- ## Lists

-- what the numbers from the next one on make together is what those from this one make of their next ones
joined_next : {X : Type 0} (f : ℕ → List X) (a n : ℕ) → flat_map f (range_with_len (a + 1) n) ≡ flat_map (λ i. f (suc i)) (range_with_len a n)
joined_next f a zero = refl
joined_next f a (suc n) = ap₂ (λ (k : ℕ) l. f k ++ l) (add-one a) (joined_next f (a + 1) n)

-- so it is with whether one of them passes
any_next : (test : ℕ → Bool) (a n : ℕ) → list_any test (range_with_len (a + 1) n) ≡ list_any (λ i. test (suc i)) (range_with_len a n)
any_next test a zero = refl
any_next test a (suc n) = ap₂ (λ (k : ℕ) b. test k || b) (add-one a) (any_next test (a + 1) n)

-- numbers of which each makes the same make the same together
joined_same : {X : Type 0} (f g : ℕ → List X) (a n : ℕ) → ((i : ℕ) → i < a + n → f i ≡ g i) → flat_map f (range_with_len a n) ≡ flat_map g (range_with_len a n)
joined_same f g a zero same = refl
joined_same f g a (suc n) same = ap₂ (λ k l. k ++ l) (same a (omega arith)) (joined_same f g (a + 1) n (λ i low. same i (omega (arith, low))))

-- tests that agree on each number agree on whether one passes
any_same : (p q : ℕ → Bool) (a n : ℕ) → ((i : ℕ) → i < a + n → p i ≡ q i) → list_any p (range_with_len a n) ≡ list_any q (range_with_len a n)
any_same p q a zero same = refl
any_same p q a (suc n) same = ap₂ (λ b c. b || c) (same a (omega arith)) (any_same p q (a + 1) n (λ i low. same i (omega (arith, low))))

-- what passes both tests passes one after the other
filter_both : {X : Type 0} (p q : X → Bool) (xs : List X) → filter (λ x. p x && q x) xs ≡ filter p (filter q xs)
filter_both p q [] = refl
filter_both p q (x ∷ xs) = by (p x) (q x) refl (filter_both p q xs)
  where
    by : (b c : Bool) → p x ≡ b → filter (λ x. p x && q x) xs ≡ filter p (filter q xs)
        → cond (b && c) (x ∷ filter (λ x. p x && q x) xs) (filter (λ x. p x && q x) xs) ≡ filter p (cond c (x ∷ filter q xs) (filter q xs))
    by true true is same = ap (λ l. x ∷ l) same ∙ sym (ap (λ b. cond b (x ∷ filter p (filter q xs)) (filter p (filter q xs))) is)
    by false true is same = same ∙ sym (ap (λ b. cond b (x ∷ filter p (filter q xs)) (filter p (filter q xs))) is)
    by true false is same = same
    by false false is same = same

-- a test that all pass keeps all
pub filter_all : {X : Type 0} (p : X → Bool) (xs : List X) → ((x : X) → p x ≡ true) → filter p xs ≡ xs
filter_all p [] all = refl
filter_all p (x ∷ xs) all = ap (λ b. cond b (x ∷ filter p xs) (filter p xs)) (all x) ∙ ap (λ l. x ∷ l) (filter_all p xs all)

-- tests that agree keep the same
filter_same : {X : Type 0} (p q : X → Bool) (xs : List X) → ((x : X) → p x ≡ q x) → filter p xs ≡ filter q xs
filter_same p q [] same = refl
filter_same p q (x ∷ xs) same = ap₂ (λ b l. cond b (x ∷ l) l) (same x) (filter_same p q xs same)

-- what is kept of joined lists is what is kept of each
filter_joined : {X Y : Type 0} (p : Y → Bool) (f : X → List Y) (xs : List X) → filter p (flat_map f xs) ≡ flat_map (λ x. filter p (f x)) xs
filter_joined p f [] = refl
filter_joined p f (x ∷ xs) = filter-append p (f x) (flat_map f xs) ∙ ap (λ l. filter p (f x) ++ l) (filter_joined p f xs)

-- neither of two
not_or : (a b : Bool) → not (a || b) ≡ (not a && not b)
not_or true b = refl
not_or false b = refl

-- a number is below another where the next one is below the other's next one
below_next : (i j : ℕ) → ltb (suc i) (suc j) ≡ ltb i j
below_next i j = elim (cases_lt i j) [
  | inl low ↦ lt-ltb (suc i) (suc j) (omega arith) ∙ sym (lt-ltb i j low)
  | inr past ↦ le-ltb (suc i) (suc j) (omega arith) ∙ sym (le-ltb i j past)
]

-- ## A node before all others

module _ (o : Outlook) (x : Child) (n : Network) (chained : IsChain n) where
  -- how many the others are
  abbrev count : ℕ
  count = length n.children

  -- the network with the node
  abbrev all : Network
  all = led_by x n

  -- the others are ordered as without it
  before_next : (i j : ℕ) → i < count → j < count → is_before all.order (suc i) (suc j) ≡ is_before n.order i j
  before_next i j low high =
      table_within (suc count) ltb (suc i) (suc j) (omega arith) (omega arith)
      ∙ below_next i j
      ∙ sym (table_within count ltb i j low high)
      ∙ ap (λ (order : Order). is_before order i j) (sym chained)

  -- they give one another what they do without it
  may_give_next : (l : Literal) (i j : ℕ) → i < count → j < count → may_give o all l (suc i) (suc j) ≡ may_give o n l i j
  may_give_next l i j low high =
      ap₂ (λ (e b : Bool). not e && (not b && o.gives (child_of n.children j) l)) (eqb-suc-suc i j) (before_next i j low high)

  -- it gives them all that it gives
  may_give_first : (l : Literal) (i : ℕ) → may_give o all l (suc i) 0 ≡ o.gives x l
  may_give_first l i =
      ap₂ (λ (e b : Bool). not e && (not b && o.gives x l)) (eqb-suc-zero i) (not_before_chain (suc count) (suc i) 0 (inr (omega arith)))

  -- what none of the others nor it gives one of them
  ungiven_next : (i : ℕ) (l : Literal) → i < count → is_ungiven o all (suc i) l ≡ (not (o.gives x l) && is_ungiven o n i l)
  ungiven_next i l low =
      ap₂ (λ b c. not (b || c)) (may_give_first l i)
      (any_next (may_give o all l (suc i)) 0 count
      ∙ any_same (λ j. may_give o all l (suc i) (suc j)) (may_give o n l i) 0 count (λ j high. may_give_next l i j low (omega (arith, high))))
      ∙ not_or (o.gives x l) (list_any (may_give o n l i) (range_with_len 0 count))

  -- nothing is given to it
  ungiven_first : (l : Literal) → is_ungiven o all 0 l ≡ true
  ungiven_first l = not_given o all l 0 none
    where
      none : (j : ℕ) → j < suc count → may_give o all l 0 j ≡ false
      none zero low = refl
      none (suc j) low =
          ap₂ (λ (e b : Bool). not e && (not b && o.gives (child_of n.children j) l)) (eqb-zero-suc j) (before_chain (suc count) 0 (suc j) (omega arith) low)

  -- what one of the others needs is what it needs without it, and it doesn't give
  needed_next : (i : ℕ) → i < count → needed_at o all (suc i) ≡ not_given_by o x (needed_at o n i)
  needed_next i low =
      let ls = o.wants (child_of n.children i) in
      filter_same (is_ungiven o all (suc i)) (λ l. not (o.gives x l) && is_ungiven o n i l) ls (λ l. ungiven_next i l low)
      ∙ filter_both (λ l. not (o.gives x l)) (is_ungiven o n i) ls

  -- so it is with all of them
  needed_nodes : needed o all ≡ o.wants x ++ not_given_by o x (needed o n)
  needed_nodes =
      ap₂ (λ k l. k ++ l) (filter_all (is_ungiven o all 0) (o.wants x) ungiven_first)
      (joined_next (needed_at o all) 0 count
      ∙ joined_same (λ i. needed_at o all (suc i)) (λ i. not_given_by o x (needed_at o n i)) 0 count (λ i low. needed_next i (omega (arith, low)))
      ∙ sym (filter_joined (λ l. not (o.gives x l)) (needed_at o n) (range_with_len 0 count)))

  -- and with the goal
  needed_goals : (goal : List Literal) → needed_goal o goal all ≡ not_given_by o x (needed_goal o goal n)
  needed_goals goal =
      filter_same (λ l. not (o.gives x l || list_any (λ y. o.gives y l) n.children)) (λ l. not (o.gives x l) && not (list_any (λ y. o.gives y l) n.children)) goal
      (λ l. not_or (o.gives x l) (list_any (λ y. o.gives y l) n.children))
      ∙ filter_both (λ l. not (o.gives x l)) (λ l. not (list_any (λ y. o.gives y l) n.children)) goal

-- what chains need
pub chains_need : ChainsNeed
chains_need o goal x n chained = record {
  nodes = needed_nodes o x n chained;
  goals = needed_goals o x n chained goal;
  blocked = refl;
}

-- Numbers that are apart and below as many cover all below, and lists of values at numbers in turn.
use Rattle.std.proofs.Common.{◌≡◌, ℕ, zero, suc, ◌+◌, ◌≤◌, ◌<◌, ◌⊎◌, inl, inr, List, [], ◌∷◌, length, map, get_or, sym, refl, ap, ◌∙◌, subst, arith}
use Rattle.std.proofs.lemmas.Bool.{cases_eq}
use Rattle.std.proofs.lemmas.List.{length-map}
use Rattle.htn_model.specs.PlanFile.{IsIn, IsWithoutRepeats, IsRearrangementOf}
use Rattle.htn_model.proofs.Ascending.{in_map}
use Rattle.htn_model.proofs.Planted.{no_longer}
use Rattle.htn_model.proofs.Proper.{same_members}

-- a number is in a list or isn't
decide_in : (x : ℕ) (xs : List ℕ) → IsIn x xs ⊎ (IsIn x xs → ⊥)
decide_in x [] = inr (λ i. i)
decide_in x (y ∷ ys) = by (cases_eq x y) (decide_in x ys)
  where
    by : (x ≡ y) ⊎ (x ≡ y → ⊥) → IsIn x ys ⊎ (IsIn x ys → ⊥) → IsIn x (y ∷ ys) ⊎ (IsIn x (y ∷ ys) → ⊥)
    by (inl same) rest = inl (inl same)
    by (inr other) (inl there) = inl (inr there)
    by (inr other) (inr none) = inr (λ i. elim i [ inl same ↦ other same | inr there ↦ none there ])

-- the numbers below a bound
below : ℕ → List ℕ
below zero = []
below (suc n) = n ∷ below n

-- each of them is there
in_below : (n x : ℕ) → x < n → IsIn x (below n)
unfolding below
in_below zero x low = absurd (omega arith)
in_below (suc n) x low = elim (cases_eq x n) [ inl same ↦ inl same | inr other ↦ inr (in_below n x (omega arith)) ]

-- there are as many
length_below : (n : ℕ) → length (below n) ≡ n
unfolding below
length_below zero = refl
length_below (suc n) = ap suc (length_below n)

-- no image stands twice where different members have different ones
distinct_map : (m : ℕ → ℕ) (xs : List ℕ) → IsWithoutRepeats xs → ((a b : ℕ) → IsIn a xs → IsIn b xs → m a ≡ m b → a ≡ b) → IsWithoutRepeats (map m xs)
distinct_map m [] d apart = tt
distinct_map m (x ∷ xs) d apart = (
  (λ i. let (a, there, same) = in_map m (m x) xs i in d.0 (subst (λ y. IsIn y xs) (sym (apart x a (inl refl) (inr there) same)) there)),
  distinct_map m xs d.1 (λ a b i j. apart a b (inr i) (inr j)),
)

-- each number below n is that of some member
pub onto : (m : ℕ → ℕ) (xs : List ℕ) (n : ℕ) → IsWithoutRepeats xs → ((a b : ℕ) → IsIn a xs → IsIn b xs → m a ≡ m b → a ≡ b) → length xs ≡ n
    → ((a : ℕ) → IsIn a xs → m a < n) → (c : ℕ) → c < n → (a : ℕ) × IsIn a xs × (m a ≡ c)
onto m xs n distinct apart many low c small = by (decide_in c (map m xs))
  where
    by : IsIn c (map m xs) ⊎ (IsIn c (map m xs) → ⊥) → (a : ℕ) × IsIn a xs × (m a ≡ c)
    by (inl there) = let (a, i, same) = in_map m c xs there in (a, i, sym same)
    by (inr none) =
        let more = no_longer (c ∷ map m xs) (below n) (none, distinct_map m xs distinct apart) (λ x i. elim i [
          | inl same ↦ in_below n x (omega arith)
          | inr there ↦ (let (a, j, even) = in_map m x xs there in let l = low a j in in_below n x (omega arith))
        ]) in
        let e = length-map xs m in let f = length_below n in absurd (omega arith)

-- the values at n numbers in turn, from i on
pub in_turn : (ℕ → ℕ) → ℕ → ℕ → List ℕ
in_turn f i zero = []
in_turn f i (suc n) = f i ∷ in_turn f (suc i) n

-- as many values as numbers
pub length_in_turn : (f : ℕ → ℕ) (i n : ℕ) → length (in_turn f i n) ≡ n
unfolding in_turn
length_in_turn f i zero = refl
length_in_turn f i (suc n) = ap suc (length_in_turn f (suc i) n)

-- the value at a number
pub at_turn : (f : ℕ → ℕ) (i n j : ℕ) → j < n → get_or (in_turn f i n) j 0 ≡ f (i + j)
unfolding in_turn
at_turn f i zero j low = absurd (omega arith)
at_turn f i (suc n) zero low = ap f (let e : i ≡ i + 0 = omega arith in e)
at_turn f i (suc n) (suc j) low = at_turn f (suc i) n j (omega arith) ∙ ap f (let e : suc i + j ≡ i + suc j = omega arith in e)

-- the value of each number is in the list
in_turn_in : (f : ℕ → ℕ) (i n j : ℕ) → i ≤ j → j < i + n → IsIn (f j) (in_turn f i n)
unfolding in_turn
in_turn_in f i zero j from to = absurd (omega arith)
in_turn_in f i (suc n) j from to = elim (cases_eq j i) [ inl same ↦ inl (ap f same) | inr other ↦ inr (in_turn_in f (suc i) n j (omega arith) (omega arith)) ]

-- each in the list is the value of a number
in_in_turn : (f : ℕ → ℕ) (i n x : ℕ) → IsIn x (in_turn f i n) → (j : ℕ) × (i ≤ j) × (j < i + n) × (x ≡ f j)
unfolding in_turn
in_in_turn f i zero x h = absurd h
in_in_turn f i (suc n) x (inl same) = (i, omega arith, omega arith, same)
in_in_turn f i (suc n) x (inr there) = let (j, from, to, same) = in_in_turn f (suc i) n x there in (j, omega arith, omega arith, same)

-- no value stands twice where different numbers have different ones
distinct_in_turn : (f : ℕ → ℕ) (i n : ℕ) → ((a b : ℕ) → a < i + n → b < i + n → f a ≡ f b → a ≡ b) → IsWithoutRepeats (in_turn f i n)
unfolding in_turn
distinct_in_turn f i zero apart = tt
distinct_in_turn f i (suc n) apart = (
  (λ h. let (j, from, to, same) = in_in_turn f (suc i) n (f i) h in let e = apart i j (omega arith) (omega arith) same in omega arith),
  distinct_in_turn f (suc i) n (λ a b la lb. apart a b (omega arith) (omega arith)),
)

-- members with the numbers below n, in turn, are a rearrangement of all that have those
pub turned : (m f : ℕ → ℕ) (xs : List ℕ) (n : ℕ) → IsWithoutRepeats xs → ((a b : ℕ) → IsIn a xs → IsIn b xs → m a ≡ m b → a ≡ b) → ((a : ℕ) → IsIn a xs → m a < n)
    → ((c : ℕ) → c < n → IsIn (f c) xs) → ((c : ℕ) → c < n → m (f c) ≡ c) → IsRearrangementOf (in_turn f 0 n) xs
turned m f xs n distinct apart low inside is = same_members (in_turn f 0 n) xs
    (distinct_in_turn f 0 n (λ a b la lb same. sym (is a (omega arith)) ∙ ap m same ∙ is b (omega arith))) distinct
    (λ x i. let (j, from, to, same) = in_in_turn f 0 n x i in subst (λ y. IsIn y xs) (sym same) (inside j (omega arith)))
    (λ x i. let l = low x i in subst (λ y. IsIn y (in_turn f 0 n)) (apart (f (m x)) x (inside (m x) l) i (is (m x) l)) (in_turn_in f 0 n (m x) (omega arith) (omega arith)))

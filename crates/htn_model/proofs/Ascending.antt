-- Words in lexicographic order, and lists of them.
use Rattle.std.proofs.Common.{◌≡◌, ℕ, zero, suc, ◌<◌, Bool, true, false, cond, List, [], ◌∷◌, ◌++◌, length, filter, flat_map, ◌⊎◌, inl, inr, sym, refl, ap, ◌∙◌, subst, arith, map, slice_get, Some, ◌||◌}
use Rattle.std.specs.List.{AllByRecursion, list_any}
use Rattle.std.proofs.lemmas.Bool.{cases_order, or_cases}
use Rattle.htn_model.specs.Answer.{IsNoGreater}

-- ## Words of one length

-- a word comes before another of its length, or of any
abbrev pub Less : List ℕ → List ℕ → Type 0
Less [] w = ⊥
Less (x ∷ v) [] = ⊥
Less (x ∷ v) (y ∷ w) = (x < y) ⊎ ((x ≡ y) × Less v w)

-- no word comes before itself
pub less_itself : (v : List ℕ) → Less v v → ⊥
less_itself [] h = h
less_itself (x ∷ v) (inl h) = omega arith
less_itself (x ∷ v) (inr h) = less_itself v h.1

-- a word before one that is before another is before that
pub less_trans : (u v w : List ℕ) → Less u v → Less v w → Less u w
less_trans [] v w h g = absurd h
less_trans (x ∷ u) [] w h g = absurd h
less_trans (x ∷ u) (y ∷ v) [] h g = absurd g
less_trans (x ∷ u) (y ∷ v) (z ∷ w) (inl h) (inl g) = inl (omega arith)
less_trans (x ∷ u) (y ∷ v) (z ∷ w) (inl h) (inr g) = inl (let e = g.0 in omega arith)
less_trans (x ∷ u) (y ∷ v) (z ∷ w) (inr h) (inl g) = inl (let e = h.0 in omega arith)
less_trans (x ∷ u) (y ∷ v) (z ∷ w) (inr h) (inr g) = inr (h.0 ∙ g.0, less_trans u v w h.1 g.1)

-- of two words of one length one comes before the other, or is no greater
pub less_or : (v w : List ℕ) → length v ≡ length w → Less w v ⊎ IsNoGreater v w
less_or [] w long = inr tt
less_or (x ∷ v) [] long = absurd (omega arith)
less_or (x ∷ v) (y ∷ w) long = by (cases_order x y) (less_or v w (omega arith))
  where
    by : (x ≡ y) ⊎ ((x < y) ⊎ (y < x)) → Less w v ⊎ IsNoGreater v w → Less (y ∷ w) (x ∷ v) ⊎ IsNoGreater (x ∷ v) (y ∷ w)
    by (inl same) (inl less) = inl (inr (sym same, less))
    by (inl same) (inr greater) = inr (inr (same, greater))
    by (inr (inl below)) deeper = inr (inl below)
    by (inr (inr above)) deeper = inl (inl above)

-- a word with a smaller last number comes first
pub less_last : (u : List ℕ) (a b : ℕ) → a < b → Less (u ++ a ∷ []) (u ++ b ∷ [])
less_last [] a b h = inl h
less_last (x ∷ u) a b h = inr (refl, less_last u a b h)

-- words that come one before the other do so whatever follows
pub less_more : (u v s t : List ℕ) → Less u v → Less (u ++ s) (v ++ t)
less_more [] v s t h = absurd h
less_more (x ∷ u) [] s t h = absurd h
less_more (x ∷ u) (y ∷ v) s t (inl h) = inl h
less_more (x ∷ u) (y ∷ v) s t (inr h) = inr (h.0, less_more u v s t h.1)

-- ## Induction along the order

-- what holds of all words before one of a length holds of it
abbrev Steps : (List ℕ → Type 0) → ℕ → Type 0
Steps P n = (w : List ℕ) → length w ≡ n → ((v : List ℕ) → length v ≡ n → Less v w → P v) → P w

-- so it holds of all words of that length
abbrev Inducts : ℕ → Type 1
Inducts n = (P : List ℕ → Type 0) → Steps P n → (w : List ℕ) → length w ≡ n → P w

-- it holds of words with a first number, if of those with a smaller one
under : (P : List ℕ → Type 0) (n x : ℕ) (w : List ℕ) → ((y : ℕ) → y < x → (v : List ℕ) → length v ≡ n → P (y ∷ v)) → ((v : List ℕ) → length v ≡ n → Less v w → P (x ∷ v))
    → (v : List ℕ) → length v ≡ suc n → Less v (x ∷ w) → P v
under P n x w heads tails [] long less = absurd less
under P n x w heads tails (y ∷ v) long (inl less) = heads y less v (omega arith)
under P n x w heads tails (y ∷ v) long (inr less) = subst (λ z. P (z ∷ v)) (sym less.0) (tails v (omega arith) less.1)

-- it holds of words with each first number below a bound
heads : (n : ℕ) → Inducts n → (P : List ℕ → Type 0) → Steps P (suc n) → (bound x : ℕ) → x < bound → (w : List ℕ) → length w ≡ n → P (x ∷ w)
heads n tails P step zero x h w long = absurd (omega arith)
heads n tails P step (suc bound) x h w long =
    tails (λ w. P (x ∷ w))
    (λ w long ih. step (x ∷ w) (ap suc long) (under P n x w (λ y less v long. heads n tails P step bound y (omega arith) v long) ih))
    w long

-- so it is for words longer by one
inducts_more : (n : ℕ) → Inducts n → Inducts (suc n)
inducts_more n tails P step [] long = absurd (omega arith)
inducts_more n tails P step (x ∷ w) long = heads n tails P step (suc x) x (omega arith) w (omega arith)

-- no word comes before the empty one
nothing_less : (P : List ℕ → Type 0) (v w : List ℕ) → length v ≡ 0 → Less v w → P v
nothing_less P [] w long less = absurd less
nothing_less P (x ∷ v) w long less = absurd (omega arith)

-- what holds of a word if it holds of all smaller ones as long holds of all
pub along_words : (n : ℕ) → Inducts n
along_words zero P step w long = step w long (λ v same less. nothing_less P v w same less)
along_words (suc n) P step w long = inducts_more n (along_words n) P step w long

-- ## Members

-- a value stands in a list
abbrev pub In : {X : Type 0} → X → List X → Type 0
In x [] = ⊥
In x (y ∷ ys) = (x ≡ y) ⊎ In x ys

-- what holds of all of a list holds of each value in it
pub all_in : {X : Type 0} (P : X → Type 0) (x : X) (xs : List X) → AllByRecursion P xs → In x xs → P x
all_in P x [] all i = absurd i
all_in P x (y ∷ ys) all (inl same) = subst P (sym same) all.0
all_in P x (y ∷ ys) all (inr later) = all_in P x ys all.1 later

-- what holds of each value in a list holds of all
pub all_from : {X : Type 0} (P : X → Type 0) (xs : List X) → ((x : X) → In x xs → P x) → AllByRecursion P xs
all_from P [] each = tt
all_from P (x ∷ xs) each = (each x (inl refl), all_from P xs (λ y i. each y (inr i)))

-- what is in the first of two lists is in both joined
pub in_left : {X : Type 0} (x : X) (xs ys : List X) → In x xs → In x (xs ++ ys)
in_left x [] ys i = absurd i
in_left x (y ∷ xs) ys (inl same) = inl same
in_left x (y ∷ xs) ys (inr i) = inr (in_left x xs ys i)

-- what is in the second of two lists is in both joined
pub in_right : {X : Type 0} (x : X) (xs ys : List X) → In x ys → In x (xs ++ ys)
in_right x [] ys i = i
in_right x (y ∷ xs) ys i = inr (in_right x xs ys i)

-- what is in the part of a value is in the joined parts
pub in_flat_map : {X Y : Type 0} (f : X → List Y) (x : X) (y : Y) (xs : List X) → In x xs → In y (f x) → In y (flat_map f xs)
in_flat_map f x y [] i j = absurd i
in_flat_map f x y (z ∷ xs) (inl same) j = in_left y (f z) (flat_map f xs) (subst (λ w. In y (f w)) same j)
in_flat_map f x y (z ∷ xs) (inr i) j = in_right y (f z) (flat_map f xs) (in_flat_map f x y xs i j)

-- what is in a list and passes is in the filtered one
pub in_filter : {X : Type 0} (test : X → Bool) (x : X) (xs : List X) → In x xs → test x ≡ true → In x (filter test xs)
in_filter test x [] i t = absurd i
in_filter test x (y ∷ ys) (inl same) t = subst (λ b. In x (cond b (y ∷ filter test ys) (filter test ys))) (sym (ap test (sym same) ∙ t)) (inl same)
in_filter test x (y ∷ ys) (inr i) t = by (test y) (in_filter test x ys i t)
  where
    by : (b : Bool) → In x (filter test ys) → In x (cond b (y ∷ filter test ys) (filter test ys))
    by true j = inr j
    by false j = j

-- where one passes, there is one in the list that does
pub any_some : {X : Type 0} (test : X → Bool) (xs : List X) → list_any test xs ≡ true → (x : X) × In x xs × (test x ≡ true)
any_some test [] h = absurd cc
any_some test (x ∷ xs) h = by (or_cases (test x) (list_any test xs) h) (any_some test xs)
  where
    by : (test x ≡ true) ⊎ (list_any test xs ≡ true) → (list_any test xs ≡ true → (y : _) × In y xs × (test y ≡ true)) → (y : _) × In y (x ∷ xs) × (test y ≡ true)
    by (inl t) later = (x, inl refl, t)
    by (inr h) later = let found = later h in (found.0, inr found.1, found.2)

-- what is in joined lists is in the first or in the second
pub in_split : {X : Type 0} (x : X) (xs ys : List X) → In x (xs ++ ys) → In x xs ⊎ In x ys
in_split x [] ys i = inr i
in_split x (y ∷ xs) ys (inl e) = inl (inl e)
in_split x (y ∷ xs) ys (inr i) = by (in_split x xs ys i)
  where
    by : In x xs ⊎ In x ys → In x (y ∷ xs) ⊎ In x ys
    by (inl j) = inl (inr j)
    by (inr j) = inr j

-- what is in the mapped list is an image
pub in_map : {X Y : Type 0} (f : X → Y) (y : Y) (xs : List X) → In y (map f xs) → (x : X) × In x xs × (y ≡ f x)
in_map f y [] i = absurd i
in_map f y (x ∷ xs) (inl e) = (x, inl refl, e)
in_map f y (x ∷ xs) (inr i) = let found = in_map f y xs i in (found.0, inr found.1, found.2)

-- the image of a value is in the mapped list
pub in_mapped : {X Y : Type 0} (f : X → Y) (x : X) (xs : List X) → In x xs → In (f x) (map f xs)
in_mapped f x [] i = absurd i
in_mapped f x (y ∷ xs) (inl e) = inl (ap f e)
in_mapped f x (y ∷ xs) (inr i) = inr (in_mapped f x xs i)

-- where a value in the list passes, one does
pub any_in : {X : Type 0} (test : X → Bool) (x : X) (xs : List X) → In x xs → test x ≡ true → list_any test xs ≡ true
any_in test x [] i t = absurd i
any_in test x (y ∷ xs) (inl e) t = ap (λ b. b || list_any test xs) (ap test (sym e) ∙ t)
any_in test x (y ∷ xs) (inr i) t = by (test y) (any_in test x xs i t)
  where
    by : (b : Bool) → list_any test xs ≡ true → (b || list_any test xs) ≡ true
    by true h = refl
    by false h = h

-- what is in a list stands at a place
pub in_at : {X : Type 0} (x : X) (xs : List X) → In x xs → (k : ℕ) × (slice_get xs k ≡ Some x)
in_at x [] i = absurd i
in_at x (y ∷ xs) (inl e) = (0, ap Some (sym e))
in_at x (y ∷ xs) (inr i) = let found = in_at x xs i in (suc found.0, found.1)

-- what stands at a place is in the list
pub at_in : {X : Type 0} (x : X) (xs : List X) (k : ℕ) → slice_get xs k ≡ Some x → In x xs
at_in x [] k h = absurd cc
at_in x (y ∷ xs) zero h = let same : y ≡ x = cc in inl (sym same)
at_in x (y ∷ xs) (suc k) h = inr (at_in x xs k h)

-- What can be decided: of finite lists, whether some member or some part has a property that can be decided of each.
use Rattle.std.proofs.Common.{◌≡◌, ℕ, zero, suc, ◌≤◌, ◌<◌, Bool, true, false, List, [], ◌∷◌, ◌++◌, Some, None, slice_get, ◌⊎◌, inl, inr, sym, refl, ap, subst, arith}
use Rattle.std.specs.Bool.{Decides}
use Rattle.std.specs.List.{AllByRecursion}
use Rattle.std.proofs.lemmas.Bool.{both_ways, cases_lt, cases_eq}
use Rattle.htn_model.specs.PlanFile.{IsRearrangementOf, IsIn, IsWithoutRepeats}

-- it holds, or it doesn't
abbrev pub Decided : Type 0 → Type 0
Decided A = A ⊎ (A → ⊥)

-- by a test that decides it
pub by_test : {A : Type 0} (b : Bool) → Decides b A → Decided A
by_test true h = inl (h.0 refl)
by_test false h = inr (λ a. both_ways false refl (h.1 a))

-- both of two
pub both : {A B : Type 0} → Decided A → Decided B → Decided (A × B)
both (inl a) (inl b) = inl (a, b)
both (inl a) (inr not_so) = inr (λ h. not_so h.1)
both (inr not_so) d = inr (λ h. not_so h.0)

-- one of two
pub either : {A B : Type 0} → Decided A → Decided B → Decided (A ⊎ B)
either (inl a) d = inl (inl a)
either (inr not_so) (inl b) = inl (inr b)
either (inr not_so) (inr never) = inr (λ h. elim h [ inl a ↦ not_so a | inr b ↦ never b ])

-- that it doesn't hold
pub denied : {A : Type 0} → Decided A → Decided (A → ⊥)
denied (inl a) = inr (λ not_so. not_so a)
denied (inr not_so) = inl not_so

-- what is the same as another thing
pub likewise : {A B : Type 0} → (A → B) → (B → A) → Decided A → Decided B
likewise to back (inl a) = inl (to a)
likewise to back (inr not_so) = inr (λ b. not_so (back b))

-- ## Numbers

-- two numbers are equal
pub numbers_equal : (m n : ℕ) → Decided (m ≡ n)
numbers_equal m n = elim (cases_eq m n) [ inl same ↦ inl same | inr other ↦ inr other ]

-- one is no greater than another
pub no_greater : (m n : ℕ) → Decided (m ≤ n)
no_greater m n = elim (cases_lt n m) [ inl less ↦ inr (λ h. (omega arith)) | inr h ↦ inl h ]

-- all numbers below an end have a property
pub all_below : (P : ℕ → Type 0) → ((k : ℕ) → Decided (P k)) → (n : ℕ) → Decided ((k : ℕ) → k < n → P k)
all_below P d zero = inl (λ k low. absurd (omega arith))
all_below P d (suc n) = by (all_below P d n) (d n)
  where
    by : Decided ((k : ℕ) → k < n → P k) → Decided (P n) → Decided ((k : ℕ) → k < suc n → P k)
    by (inr not_so) here = inr (λ h. not_so (λ k low. h k (omega arith)))
    by (inl before) (inr not_so) = inr (λ h. not_so (h n (omega arith)))
    by (inl before) (inl here) = inl (λ k low. elim (cases_eq k n) [
      | inl same ↦ subst P (sym same) here
      | inr other ↦ before k (omega arith)
    ])

-- the first number that has a property, up to an end
pub first_up_to : (P : ℕ → Type 0) → ((k : ℕ) → Decided (P k)) → (n : ℕ)
    → ((k : ℕ) × P k × ((j : ℕ) → P j → k ≤ j)) ⊎ ((k : ℕ) → k ≤ n → P k → ⊥)
first_up_to P d zero = elim (d zero) [
  | inl here ↦ inl (zero, here, λ j h. omega arith)
  | inr not_so ↦ inr (λ k low h. not_so (let same : k ≡ zero = omega arith in subst P same h))
]
first_up_to P d (suc n) = by (first_up_to P d n) (d (suc n))
  where
    by : ((k : ℕ) × P k × ((j : ℕ) → P j → k ≤ j)) ⊎ ((k : ℕ) → k ≤ n → P k → ⊥) → Decided (P (suc n))
        → ((k : ℕ) × P k × ((j : ℕ) → P j → k ≤ j)) ⊎ ((k : ℕ) → k ≤ suc n → P k → ⊥)
    by (inl found) here = inl found
    by (inr none) (inl here) = inl (suc n, here, λ j h. elim (cases_lt n j) [ inl past ↦ omega arith | inr low ↦ absurd (none j low h) ])
    by (inr none) (inr not_so) = inr (λ k low h. elim (cases_lt n k) [
      | inl past ↦ not_so (let same : k ≡ suc n = omega arith in subst P same h)
      | inr within ↦ none k within h
    ])

-- ## Lists

-- one of the members has a property
pub some_in : {X : Type 0} (P : X → Type 0) → ((x : X) → Decided (P x)) → (xs : List X) → Decided ((x : X) × IsIn x xs × P x)
some_in P d [] = inr (λ h. h.1)
some_in {X = X} P d (y ∷ ys) = by (d y) (some_in P d ys)
  where
    by : Decided (P y) → Decided ((x : X) × IsIn x ys × P x) → Decided ((x : X) × IsIn x (y ∷ ys) × P x)
    by (inl here) later = inl (y, inl refl, here)
    by (inr not_so) (inl (x, there, h)) = inl (x, inr there, h)
    by (inr not_so) (inr none) = inr (λ h. elim h.1 [ inl same ↦ not_so (subst P same h.2) | inr there ↦ none (h.0, there, h.2) ])

-- each of the members has one
pub each_in : {X : Type 0} (P : X → Type 0) → ((x : X) → Decided (P x)) → (xs : List X) → Decided ((x : X) → IsIn x xs → P x)
each_in P d [] = inl (λ x i. absurd i)
each_in {X = X} P d (y ∷ ys) = by (d y) (each_in P d ys)
  where
    by : Decided (P y) → Decided ((x : X) → IsIn x ys → P x) → Decided ((x : X) → IsIn x (y ∷ ys) → P x)
    by (inr not_so) later = inr (λ h. not_so (h y (inl refl)))
    by (inl here) (inr not_so) = inr (λ h. not_so (λ x i. h x (inr i)))
    by (inl here) (inl later) = inl (λ x i. elim i [ inl same ↦ subst P (sym same) here | inr there ↦ later x there ])

-- a member with its position has one
pub some_at : {X : Type 0} (P : ℕ → X → Type 0) (xs : List X) → ((n : ℕ) (x : X) → slice_get xs n ≡ Some x → Decided (P n x))
    → Decided ((n : ℕ) × (x : X) × (slice_get xs n ≡ Some x) × P n x)
some_at P [] d = inr (λ h. let none : None ≡ Some h.1 = h.2 in absurd cc)
some_at {X = X} P (y ∷ ys) d = by (d zero y refl) (some_at (λ n. P (suc n)) ys (λ n x is. d (suc n) x is))
  where
    none_at : (P zero y → ⊥) → ((n : ℕ) (x : X) → slice_get ys n ≡ Some x → P (suc n) x → ⊥)
        → (n : ℕ) (x : X) → slice_get (y ∷ ys) n ≡ Some x → P n x → ⊥
    none_at not_so none zero x is h = not_so (let same : x ≡ y = cc in subst (P zero) same h)
    none_at not_so none (suc n) x is h = none n x is h

    by : Decided (P zero y) → Decided ((n : ℕ) × (x : X) × (slice_get ys n ≡ Some x) × P (suc n) x)
        → Decided ((n : ℕ) × (x : X) × (slice_get (y ∷ ys) n ≡ Some x) × P n x)
    by (inl here) later = inl (zero, y, refl, here)
    by (inr not_so) (inl (n, x, is, h)) = inl (suc n, x, is, h)
    by (inr not_so) (inr none) = inr (λ h. none_at not_so (λ n x is p. none (n, x, is, p)) h.0 h.1 h.2 h.3)

-- a number is a member
pub number_in : (n : ℕ) (ns : List ℕ) → Decided (IsIn n ns)
number_in n [] = inr (λ i. i)
number_in n (m ∷ ns) = either (numbers_equal n m) (number_in n ns)

-- no number stands twice
pub without_repeats : (ns : List ℕ) → Decided (IsWithoutRepeats ns)
without_repeats [] = inl tt
without_repeats (n ∷ ns) = both (denied (number_in n ns)) (without_repeats ns)

-- ## Splits

-- A list has a member with what is before and after it that gives a result, or none has the property.
pub search_splits : {X Q : Type 0} (P : List X → X → List X → Type 0) (xs : List X)
    → ((left : List X) (x : X) (right : List X) → xs ≡ left ++ x ∷ right → Q ⊎ (P left x right → ⊥))
    → Q ⊎ ((left : List X) (x : X) (right : List X) → xs ≡ left ++ x ∷ right → P left x right → ⊥)
search_splits {X = X} P [] d = inr none
  where
    none : (left : List X) (x : X) (right : List X) → [] ≡ left ++ x ∷ right → P left x right → ⊥
    none [] x right is h = absurd cc
    none (y ∷ left) x right is h = absurd cc
search_splits {X = X} {Q = Q} P (y ∷ ys) d =
    by (d [] y ys refl) (search_splits (λ left x right. P (y ∷ left) x right) ys (λ left x right is. d (y ∷ left) x right (ap (λ zs. y ∷ zs) is)))
  where
    none : (P [] y ys → ⊥) → ((left : List X) (x : X) (right : List X) → ys ≡ left ++ x ∷ right → P (y ∷ left) x right → ⊥)
        → (left : List X) (x : X) (right : List X) → y ∷ ys ≡ left ++ x ∷ right → P left x right → ⊥
    none not_so later [] x right is h =
        let first : x ≡ y = cc in let rest : right ≡ ys = cc in not_so (subst (λ z. P [] z ys) first (subst (λ zs. P [] x zs) rest h))
    none not_so later (z ∷ left) x right is h =
        let first : z ≡ y = cc in let rest : ys ≡ left ++ x ∷ right = cc in later left x right rest (subst (λ w. P (w ∷ left) x right) first h)

    by : Q ⊎ (P [] y ys → ⊥) → Q ⊎ ((left : List X) (x : X) (right : List X) → ys ≡ left ++ x ∷ right → P (y ∷ left) x right → ⊥)
        → Q ⊎ ((left : List X) (x : X) (right : List X) → y ∷ ys ≡ left ++ x ∷ right → P left x right → ⊥)
    by (inl found) later = inl found
    by (inr not_so) (inl found) = inl found
    by (inr not_so) (inr later) = inr (none not_so later)

-- a member with what is before and after it
abbrev pub Split : {X : Type 0} → (List X → X → List X → Type 0) → List X → Type 0
Split {X = X} P xs = (left : List X) × (x : X) × (right : List X) × (xs ≡ left ++ x ∷ right) × P left x right

-- some split has a property
pub some_split : {X : Type 0} (P : List X → X → List X → Type 0) → ((left : List X) (x : X) (right : List X) → Decided (P left x right))
    → (xs : List X) → Decided (Split P xs)
some_split {X = X} P d xs = by (search_splits P xs (λ left x right is. one left x right is (d left x right)))
  where
    one : (left : List X) (x : X) (right : List X) → xs ≡ left ++ x ∷ right → Decided (P left x right) → Split P xs ⊎ (P left x right → ⊥)
    one left x right is (inl h) = inl (left, x, right, is, h)
    one left x right is (inr not_so) = inr not_so

    by : Split P xs ⊎ ((left : List X) (x : X) (right : List X) → xs ≡ left ++ x ∷ right → P left x right → ⊥) → Decided (Split P xs)
    by (inl found) = inl found
    by (inr none) = inr (λ h. none h.0 h.1 h.2 h.3 h.4)

-- numbers are a rearrangement of others
pub rearranged : (ns ms : List ℕ) → Decided (IsRearrangementOf ns ms)
rearranged [] [] = inl refl
rearranged [] (m ∷ ms) = inr (λ e. absurd cc)
rearranged (n ∷ ns) ms = by (some_split (λ left m right. (m ≡ n) × IsRearrangementOf ns (left ++ right)) (λ left m right. both (numbers_equal m n) (rearranged ns (left ++ right))) ms)
  where
    by : Decided (Split (λ left m right. (m ≡ n) × IsRearrangementOf ns (left ++ right)) ms) → Decided (IsRearrangementOf (n ∷ ns) ms)
    by (inl (left, m, right, is, h)) = inl (left, right, subst (λ k. ms ≡ left ++ k ∷ right) h.0 is, h.1)
    by (inr none) = inr (λ h. none (h.0, n, h.1, h.2, (refl, h.3)))

-- the members before the first that lacks a property, or all
pub first_lacking : {X : Type 0} (P : X → Type 0) → ((x : X) → Decided (P x)) → (xs : List X)
    → AllByRecursion P xs ⊎ Split (λ left x right. AllByRecursion P left × (P x → ⊥)) xs
first_lacking P d [] = inl tt
first_lacking {X = X} P d (y ∷ ys) = by (d y) (first_lacking P d ys)
  where
    by : Decided (P y) → AllByRecursion P ys ⊎ Split (λ left x right. AllByRecursion P left × (P x → ⊥)) ys
        → AllByRecursion P (y ∷ ys) ⊎ Split (λ left x right. AllByRecursion P left × (P x → ⊥)) (y ∷ ys)
    by (inr not_so) later = inr ([], y, ys, refl, (tt, not_so))
    by (inl here) (inl later) = inl (here, later)
    by (inl here) (inr (left, x, right, is, h)) = inr (y ∷ left, x, right, ap (λ zs. y ∷ zs) is, ((here, h.0), h.1))

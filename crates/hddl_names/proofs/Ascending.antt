-- Lists of objects that grow by one object after another.
use Rattle.std.proofs.Common.{◌≡◌, ◌≢◌, ℕ, ◌<◌, ◌≤◌, ◌+◌, ◌||◌, Bool, true, false, not, cond, List, [], ◌∷◌, ◌++◌, refl, sym, ap, subst, ◌∙◌, arith, ⊎_elim, nat_eq, length, get_or, set, take, replicate, get_or-set_same, get_or-set_other}
use Rattle.std.specs.List.{Contains, AllByRecursion, IsDistinct, filter, list_any}
use Rattle.std.specs.List.Sorted.{IsStrictlySortedBy}
use Rattle.std.specs.Ordering.{nat_cmp}
use Rattle.std.specs.declared.cmp.Ordering.TheVariants.{Less, Equal, Greater}
use Rattle.std.specs.Cmp.{unsigned_Decides}
use Rattle.std.specs.Cmp.Lexicographic.{pointwise, pointwise_decides}
use Rattle.std.proofs.lemmas.Bool.{true≢false}
use Rattle.std.proofs.lemmas.Cmp.{nat_eq_equiv}
use Rattle.std.proofs.lemmas.Bool.{cases_Bool, cases_eq, cases_lt, eqb-true, eq-eqb, lt-ltb, or_left, or_right}
use Rattle.std.proofs.lemmas.List.{take_more, get_or-take, length-take, append-nil, get_or-replicate, get_or_past, length-replicate, get_or_default}
use Rattle.std.proofs.lemmas.List.Folds.{list_any-append}
use Rattle.std.proofs.lemmas.List.Elements.{Contains-append_left, Contains-append_right, Contains-append_cases}
use Rattle.std.proofs.lemmas.Map.Made.{AllPairs-from_IsDistinct}
use Rattle.std.proofs.lemmas.Map.Views.{list_any-from_Contains, Contains-from_any}
use Rattle.hddl_names.specs.Reach.{Reaches, IsAboveSome}
use Rattle.hddl_names.specs.Members.{AreFilled, IsFlaggedAbove}
use Rattle.hddl_names.proofs.Within.{first, cons_cases, kept, nothing, unkept}

-- ## An object more for some types

-- a number of a list without repeats is not among those before it
pub not-before : (xs : List ℕ) (i : ℕ) → IsDistinct nat_eq xs → i < length xs → list_any (nat_eq (get_or xs i 0)) (take i xs) ≡ false
not-before xs i different lt = ⊎_elim (λ e. absurd (twice (Contains-from_any eqb-true (get_or xs i 0) (take i xs) e))) (λ e. e) (cases_Bool (list_any (nat_eq (get_or xs i 0)) (take i xs)))
  where
    twice : Contains (take i xs) (get_or xs i 0) → ⊥
    twice (j, below, is) =
        let len = length-take i xs in
        let less : j < i = omega (arith, below, len, lt) in
        AllPairs-from_IsDistinct unsigned_Decides xs different j i 0 less lt (sym (get_or-take i xs j 0 less) ∙ get_or_default (take i xs) j 0 (get_or xs i 0) below ∙ is)

-- whether a number is among the first ones, with one more of them
pub any-more : (k : ℕ) (xs : List ℕ) (i : ℕ) → i < length xs → list_any (nat_eq k) (take (i + 1) xs) ≡ (list_any (nat_eq k) (take i xs) || (nat_eq k (get_or xs i 0) || false))
any-more k xs i lt = ap (list_any (nat_eq k)) (take_more xs i 0 lt) ∙ list_any-append (nat_eq k) (take i xs) (get_or xs i 0 ∷ [])

-- one of the types more has the object at the end of its list
pub pushed-more : (start now new : List (List ℕ)) (types : List ℕ) (i o : ℕ) → IsDistinct nat_eq types → i < length types → get_or types i 0 < length now
    → new ≡ set now (get_or types i 0) (get_or now (get_or types i 0) [] ++ o ∷ [])
    → ((k : ℕ) → get_or now k [] ≡ get_or start k [] ++ cond (list_any (nat_eq k) (take i types)) (o ∷ []) [])
    → (k : ℕ) → get_or new k [] ≡ get_or start k [] ++ cond (list_any (nat_eq k) (take (i + 1) types)) (o ∷ []) []
pushed-more start now new types i o different lt small is before k = ⊎_elim same other (cases_eq k t)
  where
    t : ℕ
    t = get_or types i 0

    at : ℕ → Bool → List ℕ
    at k b = get_or start k [] ++ cond b (o ∷ []) []

    was : get_or now t [] ≡ get_or start t []
    was = before t ∙ ap (λ b. get_or start t [] ++ cond b (o ∷ []) []) (not-before types i different lt) ∙ append-nil (get_or start t [])

    here : list_any (nat_eq t) (take (i + 1) types) ≡ true
    here = any-more t types i lt ∙ or_right (list_any (nat_eq t) (take i types)) (nat_eq t t || false) (or_left (nat_eq t t) false (eq-eqb t t refl))

    at_t : get_or new t [] ≡ get_or start t [] ++ cond (list_any (nat_eq t) (take (i + 1) types)) (o ∷ []) []
    at_t = ap (λ l. get_or l t []) is ∙ get_or-set_same now t (get_or now t [] ++ o ∷ []) [] small ∙ ap (λ l. l ++ o ∷ []) was
        ∙ ap (λ b. get_or start t [] ++ cond b (o ∷ []) []) (sym here)

    same : k ≡ t → get_or new k [] ≡ get_or start k [] ++ cond (list_any (nat_eq k) (take (i + 1) types)) (o ∷ []) []
    same e = subst (λ k. get_or new k [] ≡ get_or start k [] ++ cond (list_any (nat_eq k) (take (i + 1) types)) (o ∷ []) []) (sym e) at_t

    stays : k ≢ t → list_any (nat_eq k) (take (i + 1) types) ≡ list_any (nat_eq k) (take i types)
    stays ne =
        any-more k types i lt
        ∙ ap (λ b. list_any (nat_eq k) (take i types) || (b || false)) (⊎_elim (λ e. absurd (ne (eqb-true k t e))) (λ e. e) (cases_Bool (nat_eq k t)))
        ∙ no_more (list_any (nat_eq k) (take i types))
      where
        no_more : (b : Bool) → (b || (false || false)) ≡ b
        no_more true = refl
        no_more false = refl

    other : k ≢ t → get_or new k [] ≡ get_or start k [] ++ cond (list_any (nat_eq k) (take (i + 1) types)) (o ∷ []) []
    other ne = ap (λ l. get_or l k []) is ∙ get_or-set_other now t k (get_or now t [] ++ o ∷ []) [] ne ∙ before k ∙ ap (λ b. get_or start k [] ++ cond b (o ∷ []) []) (sym (stays ne))

-- ## The lists

-- a smaller number compares as less
less : (x y : ℕ) → x < y → nat_cmp x y ≡ Less
less x y lt = ap (λ b. cond b Less (cond (nat_eq x y) Equal Greater)) (lt-ltb x y lt)

-- a number less than all of a list and one more is less than all of both
all-push : (x y : ℕ) (xs : List ℕ) → AllByRecursion (λ z. nat_cmp x z ≡ Less) xs → nat_cmp x y ≡ Less → AllByRecursion (λ z. nat_cmp x z ≡ Less) (xs ++ y ∷ [])
all-push x y [] all lt = (lt, tt)
all-push x y (z ∷ zs) all lt = (all.0, all-push x y zs all.1 lt)

-- a number greater than all of an ascending list may be put at its end
pub sorted-push : (xs : List ℕ) (y : ℕ) → IsStrictlySortedBy nat_cmp xs → ((x : ℕ) → Contains xs x → x < y) → IsStrictlySortedBy nat_cmp (xs ++ y ∷ [])
unfolding IsStrictlySortedBy
sorted-push [] y sorted below = (tt, tt)
sorted-push (x ∷ xs) y sorted below =
    (all-push x y xs sorted.0 (less x y (below x (first x xs))), sorted-push xs y sorted.1 (λ z h. below z (Contains-append_right (x ∷ []) xs z h)))

-- an empty list ascends
sorted-none : IsStrictlySortedBy nat_cmp []
unfolding IsStrictlySortedBy
sorted-none = tt

-- before the first object all lists are empty
pub filled-start : (pairs : List (ℕ × ℕ)) (declared : List (List ℕ)) (flags : List Bool) (n : ℕ) (lists : List (List ℕ)) → lists ≡ replicate n [] → AreFilled pairs declared flags n 0 lists
filled-start pairs declared flags n lists is =
    subst (AreFilled pairs declared flags n 0) (sym is)
    record {
      count = length-replicate {A = List ℕ} n [];
      ascending = λ k. subst (IsStrictlySortedBy nat_cmp) (sym (empty k)) sorted-none;
      members = λ k o. (λ h. absurd (nothing o (subst (λ l. Contains l o) (empty k) h)), λ h. let none = h.0 in absurd (omega (arith, none)));
    }
  where
    empty : (k : ℕ) → get_or (replicate {A = List ℕ} n []) k [] ≡ []
    empty k = ⊎_elim (λ lt. get_or-replicate n k [] [] lt) (λ past. get_or_past (replicate {A = List ℕ} n []) k [] (omega (arith, past, length-replicate {A = List ℕ} n []))) (cases_lt k n)

-- a declared type of an object leads to the type
abbrev Has : List (ℕ × ℕ) → List (List ℕ) → ℕ → ℕ → Type 0
Has pairs declared k o = (t : ℕ) × Contains (get_or declared o []) t × Reaches pairs t k

-- an object below m is listed for a type
abbrev IsListed : List (ℕ × ℕ) → List (List ℕ) → List Bool → ℕ → ℕ → ℕ → Type 0
IsListed pairs declared flags m k o = (o < m) × (get_or flags k false ≡ true) × Has pairs declared k o

-- one object more is in the lists of the types that it leads to
pub filled-more : (pairs : List (ℕ × ℕ)) (declared : List (List ℕ)) (flags : List Bool) (n i : ℕ) (lists new : List (List ℕ)) (above : List ℕ) → IsFlaggedAbove pairs flags (get_or declared i []) above
    → length new ≡ length lists → ((k : ℕ) → get_or new k [] ≡ get_or lists k [] ++ cond (list_any (nat_eq k) above) (i ∷ []) []) → AreFilled pairs declared flags n i lists
    → AreFilled pairs declared flags n (i + 1) new
filled-more pairs declared flags n i lists new above some same grown filled =
    record {
      count = same ∙ filled.count;
      ascending = λ k. subst (IsStrictlySortedBy nat_cmp) (sym (grown k)) (sorted k (list_any (nat_eq k) above));
      members = λ k o. (λ h. to k o (list_any (nat_eq k) above) refl (subst (λ l. Contains l o) (grown k) h), λ h. subst (λ l. Contains l o) (sym (grown k)) (from k o h));
    }
  where
    sorted : (k : ℕ) (b : Bool) → IsStrictlySortedBy nat_cmp (get_or lists k [] ++ cond b (i ∷ []) [])
    sorted k true = sorted-push (get_or lists k []) i (filled.ascending k) (λ x h. ((filled.members k x).0 h).0)
    sorted k false = subst (IsStrictlySortedBy nat_cmp) (sym (append-nil (get_or lists k []))) (filled.ascending k)

    widen : (k o : ℕ) → IsListed pairs declared flags i k o → IsListed pairs declared flags (i + 1) k o
    widen k o m = (let lt = m.0 in omega (arith, lt), m.1, m.2)

    newest : (k : ℕ) → Contains above k → IsListed pairs declared flags (i + 1) k i
    newest k h = let has = (some.members k).0 h in (omega arith, has.0, has.1)

    last : (k o : ℕ) (b : Bool) → list_any (nat_eq k) above ≡ b → Contains (cond b (i ∷ []) []) o → IsListed pairs declared flags (i + 1) k o
    last k o true e h =
        ⊎_elim
        (λ is. subst (λ o. IsListed pairs declared flags (i + 1) k o) is (newest k (Contains-from_any eqb-true k above e)))
        (λ none. absurd (nothing o none)) (cons_cases i o [] h)
    last k o false e h = absurd (nothing o h)

    to : (k o : ℕ) (b : Bool) → list_any (nat_eq k) above ≡ b → Contains (get_or lists k [] ++ cond b (i ∷ []) []) o → IsListed pairs declared flags (i + 1) k o
    to k o b e h = ⊎_elim (λ old. widen k o ((filled.members k o).0 old)) (λ new. last k o b e new) (Contains-append_cases (get_or lists k []) (cond b (i ∷ []) []) o h)

    from : (k o : ℕ) → IsListed pairs declared flags (i + 1) k o → Contains (get_or lists k [] ++ cond (list_any (nat_eq k) above) (i ∷ []) []) o
    from k o (lt, flag, t) =
        ⊎_elim
        (λ before. Contains-append_left (get_or lists k []) (cond (list_any (nat_eq k) above) (i ∷ []) []) o ((filled.members k o).1 (before, flag, t)))
        (λ past. let is : i ≡ o = omega (arith, past, lt) in
        let there : list_any (nat_eq k) above ≡ true = list_any-from_Contains nat_eq_equiv k above ((some.members k).1 (flag, subst (λ o. Has pairs declared k o) (sym is) t)) in
        Contains-append_right (get_or lists k []) (cond (list_any (nat_eq k) above) (i ∷ []) []) o
        (subst (λ b. Contains (cond b (i ∷ []) []) o) (sym there) (subst (Contains (i ∷ [])) is (first i []))))
        (cases_lt o i)

-- ## Types with a flag

-- two numbers that differ are told apart
differs : (k n : ℕ) → k ≢ n → nat_eq k n ≡ false
differs k n ne = ⊎_elim (λ e. absurd (ne (eqb-true k n e))) (λ e. e) (cases_Bool (nat_eq k n))

-- what fails adds nothing
no_flag : (a b : Bool) → b ≡ false → (a || (b || false)) ≡ a
no_flag true b e = refl
no_flag false b e = ap (λ b. b || false) e

-- what is left of different numbers is different
all-filter : (p : ℕ → Bool) (x : ℕ) (xs : List ℕ) → AllByRecursion (λ y. nat_eq x y ≡ false) xs → AllByRecursion (λ y. nat_eq x y ≡ false) (filter p xs)
all-filter p x [] all = tt
all-filter p x (y ∷ ys) all = by (p y) (all-filter p x ys all.1)
  where
    by : (b : Bool) → AllByRecursion (λ y. nat_eq x y ≡ false) (filter p ys) → AllByRecursion (λ y. nat_eq x y ≡ false) (cond b (y ∷ filter p ys) (filter p ys))
    by true rest = (all.0, rest)
    by false rest = rest

-- a list without repeats has none once it is filtered
pub distinct-filter : (p : ℕ → Bool) (xs : List ℕ) → IsDistinct nat_eq xs → IsDistinct nat_eq (filter p xs)
unfolding IsDistinct
distinct-filter p [] different = tt
distinct-filter p (x ∷ xs) different = by (p x) (distinct-filter p xs different.1)
  where
    by : (b : Bool) → IsDistinct nat_eq (filter p xs) → IsDistinct nat_eq (cond b (x ∷ filter p xs) (filter p xs))
    by true rest = (all-filter p x xs different.0, rest)
    by false rest = rest

-- an empty list has no repeats
distinct-none : IsDistinct nat_eq []
unfolding IsDistinct
distinct-none = tt

-- no types
pub flagged-none : (pairs : List (ℕ × ℕ)) (flags : List Bool) (found : List ℕ) → found ≡ [] → IsFlaggedAbove pairs flags [] found
flagged-none pairs flags found empty = subst (IsFlaggedAbove pairs flags []) (sym empty) record {
  different = distinct-none;
  members = λ x. (λ h. absurd (nothing x h), λ h. absurd (nothing h.1.0 h.1.1));
}

-- those of the types above that have a flag
pub flagged-above : (pairs : List (ℕ × ℕ)) (flags : List Bool) (starts above found : List ℕ) → IsAboveSome pairs starts above → IsDistinct nat_eq found
    → found ≡ filter (λ n. get_or flags n false) above → IsFlaggedAbove pairs flags starts found
flagged-above pairs flags starts above found some different is = record {
  different = different;
  members = λ x. (
    λ h. let there = unkept (λ n. get_or flags n false) above x (subst (λ l. Contains l x) is h) in (there.1, (some x).0 there.0),
    λ (flag, t). subst (λ l. Contains l x) (sym is) (kept (λ n. get_or flags n false) above x ((some x).1 t) flag),
  );
}

-- a flag more
pub flag-more : (count : ℕ) (flags : List Bool) (numbers : List ℕ) (i n : ℕ) → i < length numbers → n ≡ get_or numbers i 0 → length flags ≡ count → n < count
    → ((k : ℕ) → k < count → get_or flags k false ≡ list_any (nat_eq k) (take i numbers))
    → (k : ℕ) → k < count → get_or (set flags n true) k false ≡ list_any (nat_eq k) (take (i + 1) numbers)
flag-more count flags numbers i n lt is long small before k low = ⊎_elim same other (cases_eq k n)
  where
    more : (m : ℕ) → list_any (nat_eq m) (take (i + 1) numbers) ≡ (list_any (nat_eq m) (take i numbers) || (nat_eq m n || false))
    more m = any-more m numbers i lt ∙ ap (λ x. list_any (nat_eq m) (take i numbers) || (nat_eq m x || false)) (sym is)

    here : get_or (set flags n true) n false ≡ list_any (nat_eq n) (take (i + 1) numbers)
    here =
        get_or-set_same flags n true false (omega (arith, long, small))
        ∙ sym (more n ∙ or_right (list_any (nat_eq n) (take i numbers)) (nat_eq n n || false) (or_left (nat_eq n n) false (eq-eqb n n refl)))

    same : k ≡ n → get_or (set flags n true) k false ≡ list_any (nat_eq k) (take (i + 1) numbers)
    same e = subst (λ m. get_or (set flags n true) m false ≡ list_any (nat_eq m) (take (i + 1) numbers)) (sym e) here

    other : k ≢ n → get_or (set flags n true) k false ≡ list_any (nat_eq k) (take (i + 1) numbers)
    other ne = get_or-set_other flags n k true false ne ∙ before k low ∙ sym (more k ∙ no_flag (list_any (nat_eq k) (take i numbers)) (nat_eq k n) (differs k n ne))

-- a number past the flags
pub flag-past : (count : ℕ) (flags : List Bool) (numbers : List ℕ) (i n : ℕ) → i < length numbers → n ≡ get_or numbers i 0 → count ≤ n
    → ((k : ℕ) → k < count → get_or flags k false ≡ list_any (nat_eq k) (take i numbers))
    → (k : ℕ) → k < count → get_or flags k false ≡ list_any (nat_eq k) (take (i + 1) numbers)
flag-past count flags numbers i n lt is past before k low =
    before k low
    ∙ sym (any-more k numbers i lt ∙ ap (λ x. list_any (nat_eq k) (take i numbers) || (nat_eq k x || false)) (sym is)
    ∙ no_flag (list_any (nat_eq k) (take i numbers)) (nat_eq k n) (differs k n (λ e. omega (arith, e, low, past))))

-- ## Rows of types that objects share

-- rows that the test doesn't tell apart are equal
pub same_row : (xs ys : List ℕ) → false ≡ not (pointwise nat_eq xs ys) → xs ≡ ys
same_row xs ys e = (pointwise_decides unsigned_Decides xs ys).0 (by (pointwise nat_eq xs ys) e)
  where
    by : (b : Bool) → false ≡ not b → b ≡ true
    by true e = refl
    by false e = absurd (true≢false (sym e))

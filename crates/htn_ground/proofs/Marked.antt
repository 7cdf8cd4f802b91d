-- Terms with objects in place of parameters, and the atoms of a predicate in a state.
use Rattle.std.proofs.Common.{◌≡◌, ◌∙◌, ◌+◌, ◌-◌, ◌++◌, ◌<◌, ◌≤◌, ◌∷◌, ◌⊎◌, Bool, IfSome, List, Option, [], ap, arith, drop, false, get_or, inl, inr, leb, length, length-drop, ltb, map, refl, subst, suc, sym, take, true, zero, ℕ}
use Rattle.std.specs.Cmp.{nat_cmp_is}
use Rattle.std.specs.Cmp.Lexicographic.{slice_cmp}
use Rattle.std.specs.FinMap.{contains_key-keys}
use Rattle.std.specs.List.{Contains, list_any}
use Rattle.std.specs.List.Sorted.{IsNonDecreasingBy, IsPartitionPoint, IsStrictlySortedBy}
use Rattle.std.specs.Ordering.{nat_cmp, ordering_then}
use Rattle.std.specs.declared.cmp.Ordering.TheVariants.{Less, Greater}
use Rattle.std.proofs.lemmas.Bool.{cases_lt, cases_order}
use Rattle.std.proofs.lemmas.Bool.Decides.{nat_tests}
use Rattle.std.proofs.lemmas.List.{get_or-drop, get_or-take, get_or_default, length-take, take_more}
use Rattle.std.proofs.lemmas.List.Folds.{Any-from_list_any}
use Rattle.std.proofs.lemmas.Map.Keys.{Less-from_sorted}
use Rattle.htn_model.proofs.Sets.{is_same, same_as}
use Rattle.htn_model.specs.Atom.{Atom, atom_cmp}
use Rattle.htn_model.specs.Instances.{value_of}
use Rattle.htn_model.specs.State.{State, atoms_of, contains}
use Rattle.htn_task.specs.Views.{term_of, terms_of}
use Rattle.htn_task.specs.declared.term.Term.{Term}

-- the object that stands for the term at a place
pub place_value : (values : List ℕ) (terms : List Term) (i : ℕ) (d : Term) → i < length terms → get_or (map (value_of values) (terms_of terms)) i 0 ≡ value_of values (term_of (get_or terms i d))
place_value values [] i d h = absurd (omega arith)
place_value values (x ∷ terms) zero d h = refl
place_value values (x ∷ terms) (suc i) d h = place_value values terms i d (omega arith)

-- as many objects as terms
pub values_long : (values : List ℕ) (terms : List Term) → length (map (value_of values) (terms_of terms)) ≡ length terms
values_long values [] = refl
values_long values (x ∷ terms) = ap (λ n. suc n) (values_long values terms)

-- the objects of two lists of terms
values_append : (values : List ℕ) (xs ys : List Term) → map (value_of values) (terms_of (xs ++ ys)) ≡ map (value_of values) (terms_of xs) ++ map (value_of values) (terms_of ys)
values_append values [] ys = refl
values_append values (x ∷ xs) ys = ap (λ l. value_of values (term_of x) ∷ l) (values_append values xs ys)

-- a loop's step: one more term, by one that stands for the same object
pub pinned_more : (values : List ℕ) (terms done new : List Term) (i : ℕ) (d x : Term) → i < length terms → d ≡ get_or terms i d → value_of values (term_of x) ≡ value_of values (term_of d)
    → map (value_of values) (terms_of done) ≡ map (value_of values) (terms_of (take i terms)) → new ≡ done ++ x ∷ []
    → map (value_of values) (terms_of new) ≡ map (value_of values) (terms_of (take (i + 1) terms))
pinned_more values terms done new i d x below is same so_far pushed =
    ap (λ (l : List Term). map (value_of values) (terms_of l)) pushed
    ∙ values_append values done (x ∷ [])
    ∙ (λ k. so_far k ++ (same ∙ ap (λ (t : Term). value_of values (term_of t)) is) k ∷ [])
    ∙ sym (values_append values (take i terms) (get_or terms i d ∷ []))
    ∙ ap (λ (l : List Term). map (value_of values) (terms_of l)) (sym (take_more terms i d below))

-- a place of terms at which the parameter stands, if there is one
abbrev pub IsPlaced : List Term → ℕ → Option ℕ → Type 0
IsPlaced terms parameter o =
    IfSome o (λ n. n < length terms)
    × IfSome o (λ n. (values : List ℕ) → get_or (map (value_of values) (terms_of terms)) n 0 ≡ get_or values parameter 0)

-- a loop's step: the object of one more atom is marked, if that may be one over the terms
pub marked_more : (values : List ℕ) (terms : List Term) (atoms : List Atom) (place i : ℕ) (x : Atom) (old new : List Bool) → i < length atoms → x ≡ get_or atoms i x
    → ((o : ℕ) → get_or old o true ≡ true → get_or new o true ≡ true)
    → (x.arguments ≡ map (value_of values) (terms_of terms) → get_or new (get_or x.arguments place 0) true ≡ true)
    → ((k : ℕ) (d : Atom) → k < i → (get_or atoms k d).arguments ≡ map (value_of values) (terms_of terms) → get_or old (get_or (get_or atoms k d).arguments place 0) true ≡ true)
    → (k : ℕ) (d : Atom) → k < i + 1 → (get_or atoms k d).arguments ≡ map (value_of values) (terms_of terms) → get_or new (get_or (get_or atoms k d).arguments place 0) true ≡ true
marked_more values terms atoms place i x old new inside is others here before k d below e = by (cases_lt k i)
  where
    by : (k < i) ⊎ (i ≤ k) → get_or new (get_or (get_or atoms k d).arguments place 0) true ≡ true
    by (inl early) = others _ (before k d early e)
    by (inr late) =
        let same : k ≡ i = omega arith in
        let at : get_or atoms k d ≡ x = ap (λ n. get_or atoms n d) same ∙ get_or_default atoms i d x inside ∙ sym is in
        subst (λ (y : Atom). get_or new (get_or y.arguments place 0) true ≡ true) (sym at) (here (ap (λ (y : Atom). y.arguments) (sym at) ∙ e))

-- ## The atoms of a predicate

-- predicates rise where atoms do
first_le : (a b : Atom) → atom_cmp a b ≡ Less → a.predicate ≤ b.predicate
first_le a b less = by (cases_order a.predicate b.predicate)
  where
    by : (a.predicate ≡ b.predicate) ⊎ ((a.predicate < b.predicate) ⊎ (b.predicate < a.predicate)) → a.predicate ≤ b.predicate
    by (inl e) = omega arith
    by (inr (inl h)) = omega arith
    by (inr (inr h)) =
        let greater : nat_cmp a.predicate b.predicate ≡ Greater = sym (nat_cmp_is a.predicate b.predicate Greater h) in
        let is : atom_cmp a b ≡ Greater = ap (λ o. ordering_then o (slice_cmp nat_cmp a.arguments b.arguments)) greater in
        absurd cc

pub rising : (atoms : List Atom) → IsStrictlySortedBy atom_cmp atoms → IsNonDecreasingBy (λ a. a.predicate) atoms
rising atoms sorted i j d low high = by (cases_lt i j)
  where
    by : (i < j) ⊎ (j ≤ i) → (get_or atoms i d).predicate ≤ (get_or atoms j d).predicate
    by (inl less) = first_le (get_or atoms i d) (get_or atoms j d) (Less-from_sorted atom_cmp atoms i j d sorted less high)
    by (inr more) =
        let same : i ≡ j = omega arith in
        let alike : (get_or atoms i d).predicate ≡ (get_or atoms j d).predicate = ap (λ n. (get_or atoms n d).predicate) same in
        omega (arith, alike)

below_of : (m n : ℕ) → ltb m n ≡ true → m < n
below_of m n e = grind (arith, nat_tests)

above_of : (m n : ℕ) → leb m n ≡ false → n < m
above_of m n e = grind (arith, nat_tests)

-- each true atom of a predicate is between the places where its predicate begins and ends
pub of_predicate : (state : State) (atoms : List Atom) (predicate first count : ℕ) → atoms ≡ atoms_of state
    → IsPartitionPoint (λ a. ltb a.predicate predicate ≡ true) (λ a. ltb a.predicate predicate ≡ false) atoms first
    → IsPartitionPoint (λ a. leb a.predicate predicate ≡ true) (λ a. leb a.predicate predicate ≡ false) (drop first atoms) count
    → (a : Atom) → a.predicate ≡ predicate → contains state a ≡ true → Contains (take count (drop first atoms)) a
of_predicate state atoms predicate first count are starts ends a named has =
    let found = Any-from_list_any (is_same a) atoms (ap (list_any (is_same a)) are ∙ sym (contains_key-keys state a) ∙ has) in
    by found.0 found.2 (get_or_default atoms found.0 a found.1 found.2 ∙ found.3 ∙ sym (same_as a found.1 found.4))
  where
    by : (k : ℕ) → k < length atoms → get_or atoms k a ≡ a → Contains (take count (drop first atoms)) a
    by k inside at = late (cases_lt k first)
      where
        predicate_at : (get_or atoms k a).predicate ≡ predicate
        predicate_at = ap (λ (x : Atom). x.predicate) at ∙ named

        late : (k < first) ⊎ (first ≤ k) → Contains (take count (drop first atoms)) a
        late (inl h) = let less = below_of _ _ (starts.0 k a (omega arith) h) in absurd (omega (arith, less, predicate_at))
        late (inr h) = early (cases_lt (k - first) count)
          where
            back : first + (k - first) ≡ k
            back = omega arith

            there : get_or (drop first atoms) (k - first) a ≡ get_or atoms k a
            there = get_or-drop first atoms (k - first) a ∙ ap (λ n. get_or atoms n a) back

            long : k - first < length (drop first atoms)
            long = omega (arith, length-drop first atoms)

            early : (k - first < count) ⊎ (count ≤ k - first) → Contains (take count (drop first atoms)) a
            early (inl g) = (k - first, omega (arith, long, length-take count (drop first atoms)), get_or-take count (drop first atoms) (k - first) a g ∙ there ∙ at)
            early (inr g) =
                let more = above_of _ _ (ends.1 (k - first) a g long) in
                let predicate_there : (get_or (drop first atoms) (k - first) a).predicate ≡ predicate = ap (λ (x : Atom). x.predicate) there ∙ predicate_at in
                absurd (omega (arith, more, predicate_there))

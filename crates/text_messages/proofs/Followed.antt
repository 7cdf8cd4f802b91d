-- Words that may follow some bytes, and the nearest of them.
use Rattle.std.proofs.Common.{◌≡◌, ℕ, suc, ◌+◌, ◌<◌, Bool, true, false, not, inl, inr, Some, List, [], ◌∷◌, ◌++◌, length, get_or, slice_get, option_map, take, if◌then◌else◌, refl, sym, ap, subst, ◌∙◌, arith}
use Rattle.std.specs.Borrow.{Bor}
use Rattle.std.specs.List.{All, Contains, list_all}
use Rattle.std.proofs.lemmas.Bool.{and_parts, not-true}
use Rattle.std.proofs.lemmas.Option.{get_or_from_slice_get, same_Some, slice_get-map, slice_get_within}
use Rattle.std.proofs.lemmas.List.{map_push, take_more}
use Rattle.std.proofs.lemmas.List.Elements.{All-nil, All-cons, All-contains, All-push, All-take, All-weaker, Contains-append_left, Contains-get_or, Contains-push, Contains-push_cases}
use Rattle.diagnostics.specs.Near.{distance_of, indices_from, is_nearer, is_nearest, may_be_meant, names_of, nearest_of}
use Rattle.diagnostics.specs.declared.diagnostic.Role.{Role}
use Rattle.text_messages.specs.Following.{HasFollowing, IsNearestKeyword, MayFollow, keywords}
use Rattle.text_messages.specs.Near.{ArePicked}

module _ (r : Role) (before : List ℕ) where
  -- those that are found are candidates where there is one candidate more
  still_among : (candidates found : List (List ℕ)) (x : List ℕ) → All (Contains candidates) found → All (Contains (candidates ++ x ∷ [])) found
  still_among candidates found x all =
      All-weaker (Contains candidates) (Contains (candidates ++ x ∷ [])) (λ y among. Contains-append_left candidates (x ∷ []) y among) found all

  -- one candidate more, which is found
  pub found_more : (candidates found : List (List ℕ)) (x : List ℕ) → HasFollowing r before candidates found → HasFollowing r before (candidates ++ x ∷ []) (found ++ x ∷ [])
  found_more candidates found x h = record {
    are = All-push (Contains (candidates ++ x ∷ [])) found x (still_among candidates found x h.are) (Contains-push candidates x);
    each = λ word at follows. elim (Contains-push_cases candidates x word at) [
      | inl old ↦ Contains-append_left found (x ∷ []) word (h.each word old follows)
      | inr is ↦ subst (Contains (found ++ x ∷ [])) is (Contains-push found x)
    ];
  }

  -- one that may not follow
  pub others_more : (candidates found : List (List ℕ)) (x : List ℕ) → (MayFollow r before x → ⊥) → HasFollowing r before candidates found → HasFollowing r before (candidates ++ x ∷ []) found
  others_more candidates found x never h = record {
    are = still_among candidates found x h.are;
    each = λ word at follows. elim (Contains-push_cases candidates x word at) [
      | inl old ↦ h.each word old follows
      | inr is ↦ absurd (never (subst (MayFollow r before) (sym is) follows))
    ];
  }

  -- one slice more
  pub names_more : (slices : List (Bor (List ℕ))) (k : ℕ) (d : Bor (List ℕ)) → k < length slices → names_of (take (k + 1) slices) ≡ names_of (take k slices) ++ (get_or slices k d).now ∷ []
  names_more slices k d lt = ap names_of (take_more slices k d lt) ∙ map_push (λ s. s.now) (take k slices) (get_or slices k d)

  -- the next slice is found
  pub following_found : (slices : List (Bor (List ℕ))) (k : ℕ) (d : Bor (List ℕ)) (found more : List (Bor (List ℕ))) → k < length slices
      → HasFollowing r before (names_of (take k slices)) (names_of found) → more ≡ found ++ get_or slices k d ∷ [] → HasFollowing r before (names_of (take (k + 1) slices)) (names_of more)
  following_found slices k d found more lt h is =
      subst (λ cs. HasFollowing r before cs (names_of more)) (sym (names_more slices k d lt))
      (subst (HasFollowing r before (names_of (take k slices) ++ (get_or slices k d).now ∷ [])) (sym (ap names_of is ∙ map_push (λ s. s.now) found (get_or slices k d)))
      (found_more (names_of (take k slices)) (names_of found) (get_or slices k d).now h))

  -- the next slice may not follow
  pub following_refused : (slices : List (Bor (List ℕ))) (k : ℕ) (d : Bor (List ℕ)) (found more : List (Bor (List ℕ))) → k < length slices
      → (MayFollow r before (get_or slices k d).now → ⊥) → HasFollowing r before (names_of (take k slices)) (names_of found) → more ≡ found
      → HasFollowing r before (names_of (take (k + 1) slices)) (names_of more)
  following_refused slices k d found more lt never h is =
      subst (λ cs. HasFollowing r before cs (names_of more)) (sym (names_more slices k d lt))
      (subst (HasFollowing r before (names_of (take k slices) ++ (get_or slices k d).now ∷ [])) (sym (ap names_of is))
      (others_more (names_of (take k slices)) (names_of found) (get_or slices k d).now never h))

-- ## The nearest ones

module _ {X : Type 0} where
  -- an index at which each element passes
  abbrev Passes : (X → Bool) → List X → ℕ → Type 0
  Passes p all i = (x : X) → slice_get all i ≡ Some x → p x ≡ true

  -- at each of the indices an element passes
  passing : (p : X → Bool) (all : List X) (base : ℕ) (xs : List X) → ((k : ℕ) → slice_get all (base + k) ≡ slice_get xs k) → All (Passes p all) (indices_from p base xs)
  passing p all base [] shift = All-nil (Passes p all)
  passing p all base (x ∷ xs) shift =
      by (p x) refl (passing p all (base + 1) xs (λ k. let e : (base + 1) + k ≡ base + suc k = omega arith in ap (slice_get all) e ∙ shift (suc k)))
    where
      here : slice_get all base ≡ Some x
      here = let e : base ≡ base + 0 = omega arith in ap (slice_get all) e ∙ shift 0

      by : (b : Bool) → p x ≡ b → All (Passes p all) (indices_from p (base + 1) xs)
          → All (Passes p all) (if b then base ∷ indices_from p (base + 1) xs else indices_from p (base + 1) xs)
      by true is later = All-cons (Passes p all) base (indices_from p (base + 1) xs) (λ y at. subst (λ z. p z ≡ true) (same_Some x y (sym here ∙ at)) is) later
      by false is later = later

  -- what passes a test of all is passed by each
  each_passes : (p : X → Bool) (xs : List X) → list_all p xs ≡ true → All (λ x. p x ≡ true) xs
  each_passes p [] all = All-nil (λ x. p x ≡ true)
  each_passes p (y ∷ xs) all = let parts = and_parts (p y) (list_all p xs) all in All-cons (λ x. p x ≡ true) y xs parts.0 (each_passes p xs parts.1)

-- what stands at an index is one of a list
slice_among : {X : Type 0} (all : List X) (k : ℕ) (x : X) → slice_get all k ≡ Some x → Contains all x
slice_among all k x is = subst (Contains all) (get_or_from_slice_get all k x x is) (Contains-get_or all k x (slice_get_within all k x is))

-- one more that is picked
pub picked_more : (r : Role) (before : List ℕ) (slices : List (Bor (List ℕ))) (numbers : List ℕ) (k : ℕ) (d : Bor (List ℕ)) (found more : List (Bor (List ℕ)))
    → ArePicked r before (names_of slices) numbers (names_of found) → MayFollow r before d.now → k < length numbers → slice_get slices (get_or numbers k 0) ≡ Some d → more ≡ found ++ d ∷ []
    → ArePicked r before (names_of slices) numbers (names_of more)
picked_more r before slices numbers k d found more all follows lt at is =
    let P : List ℕ → Type 0 = λ name. MayFollow r before name × ((i : ℕ) × Contains numbers i × (slice_get (names_of slices) i ≡ Some name)) in
    subst (All P) (sym (ap names_of is ∙ map_push (λ s. s.now) found d))
    (All-push P (names_of found) d.now all
    (follows, (get_or numbers k 0, Contains-get_or numbers k 0 lt, slice_get-map (λ s. s.now) slices (get_or numbers k 0) ∙ ap (option_map (λ s. s.now)) at)))

-- the names that are picked by the numbers of the nearest are nearest keywords
pub picked_are : (r : Role) (before word : List ℕ) (found picked : List (List ℕ)) → HasFollowing r before keywords found → ArePicked r before found (nearest_of word found) picked
    → All (IsNearestKeyword r before word) picked
picked_are r before word found picked all h =
    All-weaker (λ name. MayFollow r before name × ((k : ℕ) × Contains (nearest_of word found) k × (slice_get found k ≡ Some name))) (IsNearestKeyword r before word)
    (λ name (follows, (k, at, is)).
    let near : is_nearest word found name ≡ true =
    All-contains (Passes (is_nearest word found) found) (nearest_of word found) k
    (All-take (Passes (is_nearest word found) found) 3 (indices_from (is_nearest word found) 0 found)
    (passing (is_nearest word found) found 0 found (λ k. let e : 0 + k ≡ k = omega arith in ap (slice_get found) e))) at name is in
    let parts = and_parts (may_be_meant word name) (list_all (λ other. not (is_nearer word (distance_of word name) other)) found) near in
    record {
      known = All-contains (Contains keywords) found name all.are (slice_among found k name is);
      follows = follows;
      meant = parts.0;
      none_nearer = λ other among may.
          not-true _ (All-contains (λ other. not (is_nearer word (distance_of word name) other) ≡ true) found other
          (each_passes (λ other. not (is_nearer word (distance_of word name) other)) found parts.1) (all.each other among may));
    }) picked h

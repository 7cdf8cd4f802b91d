-- The nearest of some names, as they are written and in lower case.
use Rattle.std.proofs.Common.{◌≡◌, ℕ, zero, suc, ◌+◌, Bool, true, false, not, ◌&&◌, inl, inr, Option, Some, None, List, [], ◌∷◌, length, map, filter_map, slice_get, get_or, if◌then◌else◌, nat_lt, nat_le, refl, sym, ap, subst, ◌∙◌, arith}
use Rattle.std.specs.List.{All, cons_option, list_all}
use Rattle.std.specs.Char.{to_ascii_lowercase}
use Rattle.std.specs.Str.{str_to_ascii_lowercase}
use Rattle.std.proofs.lemmas.Bool.{and_parts, not-true}
use Rattle.std.proofs.lemmas.Bool.Decides.{nat_tests}
use Rattle.std.proofs.lemmas.Option.{same_Some}
use Rattle.std.proofs.lemmas.List.Elements.{All-nil, All-cons, All-head, All-tail, All-take}
use Rattle.diagnostics.specs.Near.{alignment, distance_of, indices_from, is_nearer, is_nearest, may_be_meant, nearest_of, slip_len}
use Rattle.hddl_meaning.specs.Mentions.{IsIn, Text, folded}
use Rattle.hddl_meaning.proofs.Listed.{at_head, at_tail, in_cases, in_nothing, in_map}
use Rattle.pair_messages.specs.Offers.{IsNearest, nearest_in}

-- ## In lower case

lower_twice : (b : ℕ) → to_ascii_lowercase (to_ascii_lowercase b) ≡ to_ascii_lowercase b
lower_twice b = grind (arith, nat_tests)

-- what is in lower case stays as it is
pub folded_twice : (name : List ℕ) → folded (folded name) ≡ folded name
folded_twice [] = refl
folded_twice (b ∷ bytes) = ap (λ x. x ∷ folded (folded bytes)) (lower_twice b) ∙ ap (λ l. to_ascii_lowercase b ∷ l) (folded_twice bytes)

-- case makes no name farther
pub distance_folded : (word name : List ℕ) → distance_of word (folded name) ≡ distance_of word name
distance_folded word name = ap (alignment (str_to_ascii_lowercase word)) (folded_twice name)

-- names that differ in case alone are equally far
pub distance_same : (word name other : List ℕ) → folded name ≡ folded other → distance_of word name ≡ distance_of word other
distance_same word name other is = ap (alignment (str_to_ascii_lowercase word)) is

-- ## Elements at indices

module _ {X : Type 0} where
  -- an element at a position is in the list
  pub slice_got : (xs : List X) (k : ℕ) (x : X) → slice_get xs k ≡ Some x → IsIn x xs
  slice_got [] k x is = absurd cc
  slice_got (y ∷ xs) zero x is = let e : y ≡ x = cc in subst (λ z. IsIn z (y ∷ xs)) e (at_head y xs)
  slice_got (y ∷ xs) (suc k) x is = at_tail y x xs (slice_got xs k x is)

  -- an index at which each element passes
  abbrev Passes : (X → Bool) → List X → ℕ → Type 0
  Passes p all i = (x : X) → slice_get all i ≡ Some x → p x ≡ true

  -- at each of the indices an element passes
  passing : (p : X → Bool) (all : List X) (base : ℕ) (xs : List X) → ((k : ℕ) → slice_get all (base + k) ≡ slice_get xs k) → All (Passes p all) (indices_from p base xs)
  passing p all base [] shift = All-nil (Passes p all)
  passing p all base (x ∷ xs) shift =
      by (p x) refl (passing p all (base + 1) xs (λ k. let e : (base + 1) + k ≡ base + suc k = omega arith in ap (slice_get all) e ∙ shift (suc k)))
    where
      here : slice_get all base ≡ Some x
      here = let e : base ≡ base + 0 = omega arith in ap (slice_get all) e ∙ shift 0

      by : (b : Bool) → p x ≡ b → All (Passes p all) (indices_from p (base + 1) xs)
          → All (Passes p all) (if b then base ∷ indices_from p (base + 1) xs else indices_from p (base + 1) xs)
      by true is later = All-cons (Passes p all) base (indices_from p (base + 1) xs) (λ y at. subst (λ z. p z ≡ true) (same_Some x y (sym here ∙ at)) is) later
      by false is later = later

  -- what holds of the elements at the indices holds of those that are picked
  picked : (P : ℕ → Type 0) (Q : X → Type 0) (xs : List X) (is : List ℕ) → ((i : ℕ) (x : X) → P i → slice_get xs i ≡ Some x → Q x) → All P is → All Q (filter_map (slice_get xs) is)
  picked P Q xs [] f all = All-nil Q
  picked P Q xs (i ∷ is) f all = by (slice_get xs i) refl (picked P Q xs is f (All-tail P i is all))
    where
      by : (o : Option X) → slice_get xs i ≡ o → All Q (filter_map (slice_get xs) is) → All Q (cons_option o (filter_map (slice_get xs) is))
      by None e later = later
      by (Some x) e later = All-cons Q x (filter_map (slice_get xs) is) (f i x (All-head P i is all) e) later

  -- what passes a test of all is passed by each
  each_passes : (p : X → Bool) (xs : List X) → list_all p xs ≡ true → (x : X) → IsIn x xs → p x ≡ true
  each_passes p [] all x at = absurd (in_nothing x at)
  each_passes p (y ∷ xs) all x at = elim (in_cases y x xs at) [
    | inl is ↦ subst (λ z. p z ≡ true) is (and_parts (p y) (list_all p xs) all).0
    | inr later ↦ each_passes p xs (and_parts (p y) (list_all p xs) all).1 x later
  ]

-- a value of a mapped list is the image of one
pub unmapped : {X Y : Type 0} (f : X → Y) (xs : List X) (y : Y) → IsIn y (map f xs) → (x : X) × IsIn x xs × (f x ≡ y)
unmapped f [] y at = absurd (in_nothing y at)
unmapped f (x ∷ xs) y at = elim (in_cases (f x) y (map f xs) at) [
  | inl is ↦ (x, at_head x xs, is)
  | inr later ↦ let (z, here, is) = unmapped f xs y later in (z, at_tail x z xs here, is)
]

-- ## Nearest names

-- each of those that are found is one of the nearest
pub nearest_are : (word : List ℕ) (names : List (List ℕ)) → All (λ name. IsIn name names × (is_nearest word names name ≡ true)) (nearest_in word names)
nearest_are word names =
    picked (Passes (is_nearest word names) names) (λ name. IsIn name names × (is_nearest word names name ≡ true)) names (nearest_of word names)
    (λ i x passes at. (slice_got names i x at, passes x at))
    (All-take (Passes (is_nearest word names) names) 3 (indices_from (is_nearest word names) 0 names)
    (passing (is_nearest word names) names 0 names (λ k. let e : 0 + k ≡ k = omega arith in ap (slice_get names) e)))

module _ (word : List ℕ) (names : List (List ℕ)) (name : List ℕ) where
  -- one of the nearest of names as they are written is one of the nearest of them in lower case
  pub nearest_folded : IsIn name names → is_nearest word names name ≡ true → IsNearest word (map folded names) name
  nearest_folded at is =
      let parts = and_parts (may_be_meant word name) (list_all (λ other. not (is_nearer word (distance_of word name) other)) names) is in
      record {
        declared = in_map folded name names at;
        meant = parts.0;
        none_nearer = λ other among.
            let (x, here, e) = unmapped folded names other among in
            subst (λ t. is_nearer word (distance_of word name) t ≡ false) e (folded_as_far x (not-true _ (each_passes (λ other. not (is_nearer word (distance_of word name) other)) names
            parts.1 x here)));
      }
    where
      folded_as_far : (x : List ℕ) → is_nearer word (distance_of word name) x ≡ false → is_nearer word (distance_of word name) (folded x) ≡ false
      folded_as_far x h = subst (λ n. (nat_lt 0 n && nat_le n (slip_len (length word)) && nat_lt n (distance_of word name)) ≡ false) (sym (distance_folded word x)) h

-- each of those that are found is one of the nearest in lower case
pub nearest_all : (word : List ℕ) (names : List (List ℕ)) → All (IsNearest word (map folded names)) (nearest_in word names)
nearest_all word names = λ k d lt. let (at, is) = nearest_are word names k d lt in nearest_folded word names (get_or (nearest_in word names) k d) at is

-- a name as it is written, where it is one of the nearest in lower case
pub nearest_written : (word : List ℕ) (names : List Text) (text name : List ℕ) → IsIn text names → is_nearest word names text ≡ true → folded name ≡ text → IsNearest word names name
nearest_written word names text name at is same =
    let parts = and_parts (may_be_meant word text) (list_all (λ other. not (is_nearer word (distance_of word text) other)) names) is in
    let far : distance_of word text ≡ distance_of word name = ap (distance_of word) (sym same) ∙ distance_folded word name in
    record {
      declared = subst (λ t. IsIn t names) (sym same) at;
      meant = subst (λ n. (nat_lt 0 n && nat_le n (slip_len (length word))) ≡ true) far parts.0;
      none_nearer = λ other among. subst (λ n. is_nearer word n other ≡ false) far (not-true _ (each_passes (λ o. not (is_nearer word (distance_of word text) o)) names parts.1 other among));
    }

-- the nearest of some names are those of others that are the same
pub nearest_same : (word : List ℕ) (names others : List Text) (name : List ℕ) → ((t : Text) → IsIn t names → IsIn t others) → ((t : Text) → IsIn t others → IsIn t names)
    → IsNearest word names name → IsNearest word others name
nearest_same word names others name to from h = record { declared = to (folded name) h.declared; meant = h.meant; none_nearer = λ other at. h.none_nearer other (from other at) }

-- a name in another case is as near
pub nearest_in_case : (word : List ℕ) (names : List Text) (name other : List ℕ) → folded name ≡ folded other → IsNearest word names name → IsNearest word names other
nearest_in_case word names name other is h = record {
  declared = subst (λ t. IsIn t names) is h.declared;
  meant = subst (λ n. (nat_lt 0 n && nat_le n (slip_len (length word))) ≡ true) (distance_same word name other is) h.meant;
  none_nearer = λ t at. subst (λ n. is_nearer word n t ≡ false) (distance_same word name other is) (h.none_nearer t at);
}

-- The numbers of names: where they are, and that the first declaration of a name stands at its number.
use Rattle.std.proofs.Common.{◌≡◌, ℕ, suc, ◌+◌, ◌<◌, Bool, true, false, cond, not, List, [], ◌∷◌, ◌++◌, length, map, get_or, Some, None, sym, refl, ap, ◌∙◌, subst, arith, nat_lt, ◌||◌}
use Rattle.std.specs.List.{find, list_any, position_or_len}
use Rattle.std.proofs.lemmas.Bool.Decides.{Decides-ltb}
use Rattle.std.proofs.lemmas.List.{get_or-map}
use Rattle.std.proofs.lemmas.List.Folds.{find_at}
use Rattle.std.proofs.lemmas.Option.{slice_get-get_or}
use Rattle.hddl_meaning.specs.Mentions.{IsIn, Text}
use Rattle.hddl_meaning.specs.Names.{is_same_text, number_in, number_or_zero}
use Rattle.hddl_meaning.specs.Items.{Signature}
use Rattle.hddl_meaning.proofs.Listed.{found}

-- ## Positions

module _ {X : Type 0} (test : X → Bool) where
  -- a value that passes has its first place in the list, whether it is first or not
  first_below_by : (x : X) (xs : List X) (b : Bool) → (b || list_any test xs) ≡ true → (list_any test xs ≡ true → position_or_len test xs < length xs)
      → cond (not b) (1 + position_or_len test xs) 0 < suc (length xs)
  first_below_by x xs true h later = omega arith
  first_below_by x xs false h later = let below = later h in omega arith

  -- where some element passes, the first one has a position
  pub first_below : (xs : List X) → list_any test xs ≡ true → position_or_len test xs < length xs
  first_below [] h = absurd cc
  first_below (x ∷ xs) h = first_below_by x xs (test x) h (first_below xs)

  -- the same with more behind it
  first_within_by : (x : X) (xs ys : List X) (b : Bool) → (b || list_any test xs) ≡ true → (list_any test xs ≡ true → position_or_len test (xs ++ ys) < length xs)
      → cond (not b) (1 + position_or_len test (xs ++ ys)) 0 < suc (length xs)
  first_within_by x xs ys true h later = omega arith
  first_within_by x xs ys false h later = let below = later h in omega arith

  -- a first place in the list is the same with more behind it
  pub first_within : (xs ys : List X) → list_any test xs ≡ true → position_or_len test (xs ++ ys) < length xs
  first_within [] ys h = absurd cc
  first_within (x ∷ xs) ys h = first_within_by x xs ys (test x) h (first_within xs ys)

module _ {X Y : Type 0} (test : Y → Bool) (f : X → Y) where
  -- a first place in the mapped list is that in the list
  pub first_mapped : (xs : List X) → position_or_len test (map f xs) ≡ position_or_len (λ x. test (f x)) xs
  first_mapped [] = refl
  first_mapped (x ∷ xs) = ap (λ n. cond (not (test (f x))) (1 + n) 0) (first_mapped xs)

  -- one passes in the mapped list where one does by its image
  pub any_mapped : (xs : List X) → list_any test (map f xs) ≡ list_any (λ x. test (f x)) xs
  any_mapped [] = refl
  any_mapped (x ∷ xs) = ap (λ b. test (f x) || b) (any_mapped xs)

-- a list in which one passes has a length
pub some_pass : {X : Type 0} (test : X → Bool) (xs : List X) → list_any test xs ≡ true → 0 < length xs
some_pass test xs h = let k = first_below test xs h in omega arith

-- ## Numbers

-- a name that isn't unknown is named
pub is_named : (t : Text) (names : List Text) → ((IsIn t names → ⊥) → ⊥) → list_any (is_same_text t) names ≡ true
is_named t names h = by (list_any (is_same_text t) names) refl
  where
    by : (b : Bool) → list_any (is_same_text t) names ≡ b → b ≡ true
    by true e = refl
    by false e = absurd (h (λ is_in. let named : list_any (is_same_text t) names ≡ true = found t names is_in in absurd cc))

-- a number that is found is below the count
within_by : (t : Text) (names : List Text) (b : Bool) → nat_lt (position_or_len (is_same_text t) names) (length names) ≡ b → 0 < length names
    → number_or_zero (cond b (Some (position_or_len (is_same_text t) names)) None) < length names
within_by t names true e some = (Decides-ltb (position_or_len (is_same_text t) names) (length names)).0 e
within_by t names false e some = some

-- each text has a number of some name, where there is a name
pub number_within : (names : List Text) (t : Text) → 0 < length names → number_in names t < length names
number_within names t some = within_by t names (nat_lt (position_or_len (is_same_text t) names) (length names)) refl some

-- the number of a name is its position
pub number_is : (names : List Text) (t : Text) → list_any (is_same_text t) names ≡ true → number_in names t ≡ position_or_len (is_same_text t) names
number_is names t h =
    let first = position_or_len (is_same_text t) names in
    ap (λ b. number_or_zero (cond b (Some first) None)) ((Decides-ltb first (length names)).1 (first_below (is_same_text t) names h))

-- ## Signatures

-- the names of the declarations
abbrev pub names_in : List Signature → List Text
names_in signatures = map (λ s. s.name) signatures

-- a name with its first declaration, which stands at its number
pub record Declared (signatures : List Signature) (t : Text) : Type 0 where
  pub declaration : Signature
  pub is_found : find (λ s. is_same_text t s.name) signatures ≡ Some declaration
  pub below : number_in (names_in signatures) t < length signatures
  pub at : (f : Signature → List ℕ) → get_or (map f signatures) (number_in (names_in signatures) t) [] ≡ f declaration

-- a name that is declared has a declaration, the one at its number
pub declared : (signatures : List Signature) (t : Text) → list_any (is_same_text t) (names_in signatures) ≡ true → Declared signatures t
declared signatures t h =
    let test : Signature → Bool = λ s. is_same_text t s.name in
    let first : ℕ = position_or_len test signatures in
    let nobody : Signature = record { name = []; places = [] } in
    let below : first < length signatures = first_below test signatures (sym (any_mapped (is_same_text t) (λ s. s.name) signatures) ∙ h) in
    let same : number_in (names_in signatures) t ≡ first = number_is (names_in signatures) t h ∙ first_mapped (is_same_text t) (λ s. s.name) signatures in
    record {
      declaration = get_or signatures first nobody;
      is_found = find_at test signatures ∙ slice_get-get_or signatures first nobody below;
      below = subst (λ n. n < length signatures) (sym same) below;
      at = λ f. ap (λ n. get_or (map f signatures) n []) same ∙ get_or-map f signatures first nobody [] below;
    }

-- What stands at a number in a list of pieces, and in the completions of a partial choice.
use Rattle.std.proofs.Common.{◌≡◌, ◌+◌, ◌<◌, ◌∙◌, ◌++◌, ◌∷◌, List, [], Some, ap, append_assoc, arith, drop, false, get_or, length, refl, slice_get, suc, sym, take, true, zero, ℕ}
use Rattle.std.specs.List.{enumerate_from, flat_map}
use Rattle.std.proofs.lemmas.List.{drop_more, take-append-drop}
use Rattle.std.proofs.lemmas.List.Concat.{flat_map-append}
use Rattle.std.proofs.lemmas.Option.{get_or_from_slice_get, slice_get-get_or}
use Rattle.htn_ground.specs.declared.relation.Relation.{Relation}
use Rattle.htn_ground.specs.Search.{AreRelationsOf, bound_relations_hold, completions}
use Rattle.htn_ground.proofs.Completions.{completions_leaf, completions_none}
use Rattle.htn_ground.proofs.Numbered.{enumerate-append, method_more}

-- what stands within the first of two lists
pub slice_get-left : {X : Type 0} (xs ys : List X) (n : ℕ) → n < length xs → slice_get (xs ++ ys) n ≡ slice_get xs n
slice_get-left [] ys n h = absurd (omega arith)
slice_get-left (x ∷ xs) ys zero h = refl
slice_get-left (x ∷ xs) ys (suc n) h = slice_get-left xs ys n (omega arith)

-- what stands in the second
pub slice_get-right : {X : Type 0} (xs ys : List X) (m n : ℕ) → m ≡ length xs + n → slice_get (xs ++ ys) m ≡ slice_get ys n
slice_get-right [] ys m n e = let same : m ≡ n = omega arith in ap (slice_get ys) same
slice_get-right (x ∷ xs) ys zero n e = absurd (omega arith)
slice_get-right (x ∷ xs) ys (suc m) n e = slice_get-right xs ys m n (omega arith)

-- an item stands at its place, whatever else would be read past the end
pub stands : (xs : List ℕ) (i : ℕ) → i < length xs → get_or xs i 0 ≡ get_or xs i (get_or xs i 0)
stands xs i inside = sym (get_or_from_slice_get xs i (get_or xs i 0) (get_or xs i 0) (slice_get-get_or xs i 0 inside))

-- what stands within a piece that has so many before it
pub at_piece : {X : Type 0} (before piece after all : List X) (m n : ℕ) → all ≡ before ++ (piece ++ after) → m ≡ length before + n → n < length piece → slice_get all m ≡ slice_get piece n
at_piece before piece after all m n split counted within =
    ap (λ l. slice_get l m) split ∙ slice_get-right before (piece ++ after) m n counted ∙ slice_get-left piece after n within

-- the pieces up to one, that one, and those after it
pub split_pieces : {X Y : Type 0} (f : X → List Y) (xs : List X) (i : ℕ) (x : X) → i < length xs → x ≡ get_or xs i x
    → flat_map f xs ≡ flat_map f (take i xs) ++ (f x ++ flat_map f (drop (i + 1) xs))
split_pieces f xs i x below is =
    ap (flat_map f) (sym (take-append-drop i xs))
    ∙ flat_map-append f (take i xs) (drop i xs)
    ∙ ap (λ l. flat_map f (take i xs) ++ flat_map f l) (drop_more xs i x below)
    ∙ ap (λ y. flat_map f (take i xs) ++ (f y ++ flat_map f (drop (i + 1) xs))) (sym is)

-- the same of numbered items
pub split_methods : {X Y : Type 0} (f : ℕ × X → List Y) (xs : List X) (i : ℕ) (x : X) → i < length xs → x ≡ get_or xs i x
    → flat_map f (enumerate_from 0 xs)
    ≡ flat_map f (enumerate_from 0 (take i xs)) ++ (f (i, x) ++ flat_map f (enumerate_from (0 + length (take (i + 1) xs)) (drop (i + 1) xs)))
split_methods f xs i x below is =
    let after = enumerate_from (0 + length (take (i + 1) xs)) (drop (i + 1) xs) in
    ap (λ l. flat_map f (enumerate_from 0 l)) (sym (take-append-drop (i + 1) xs))
    ∙ ap (flat_map f) (enumerate-append 0 (take (i + 1) xs) (drop (i + 1) xs))
    ∙ flat_map-append f (enumerate_from 0 (take (i + 1) xs)) after
    ∙ ap (λ l. l ++ flat_map f after) (method_more f xs i x below is)
    ∙ append_assoc (flat_map f (enumerate_from 0 (take i xs))) (f (i, x)) (flat_map f after)

-- where all parameters have values, the only completion has the number
pub leaf_at : (domains : List (List ℕ)) (relations : List Relation) (values : List ℕ) (number : ℕ) → AreRelationsOf relations (length domains) → length values ≡ length domains
    → number < length (completions domains relations values) → slice_get (completions domains relations values) number ≡ Some values
leaf_at domains relations values number of long within =
    elim (bound_relations_hold relations values) as (λ b. bound_relations_hold relations values ≡ b → slice_get (completions domains relations values) number ≡ Some values) [
      | true ↦ λ holds.
          let one = completions_leaf domains relations values of long holds in
          let first : number ≡ 0 = omega (arith, within, ap length one) in
          ap (λ l. slice_get l number) one ∙ ap (slice_get (values ∷ [])) first
      | false ↦ λ fails. absurd (omega (arith, within, ap length (completions_none domains relations values fails)))
    ] refl

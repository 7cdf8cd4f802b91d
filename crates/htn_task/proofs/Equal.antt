-- What tests of equality answer, and what lists feed a hasher, through a view.
use Rattle.std.proofs.Common.{◌≡◌, ◌∙◌, ◌++◌, ◌&&◌, Bool, List, [], ◌∷◌, ap, length, map, refl, sym}
use Rattle.std.proofs.lemmas.List.{length-map}
use Rattle.std.specs.Bool.{Decides}
use Rattle.std.specs.Cmp.Lexicographic.{pointwise}
use Rattle.std.specs.Hash as fed
use Rattle.std.specs.Hash.{HashWrites}
use Rattle.std.specs.List.{flat_map}
use Rattle.std.specs.Ordering.{on}
use Rattle.std.specs.Prelude.{IsTrue}

-- what an answer says that is that of a test which decides P
pub told : (b t : Bool) {P : Type 0} → b ≡ t → Decides t P → (IsTrue b → P) × (P → IsTrue b)
told b t e d = (λ h. d.0 (sym e ∙ h), λ p. e ∙ d.1 p)

-- lists are tested one by one through a view as the lists of views are
pub pointwise-map : {X Y : Type 0} (f : X → Y) (test : Y → Y → Bool) (xs ys : List X) → pointwise (on f test) xs ys ≡ pointwise test (map f xs) (map f ys)
pointwise-map f test [] [] = refl
pointwise-map f test [] (y ∷ ys) = refl
pointwise-map f test (x ∷ xs) [] = refl
pointwise-map f test (x ∷ xs) (y ∷ ys) = ap (λ b. test (f x) (f y) && b) (pointwise-map f test xs ys)

-- lists feed a hasher through a view as the lists of views do
flat_map-map : {X Y A : Type 0} (f : X → Y) (g : Y → List A) (xs : List X) → flat_map (λ x. g (f x)) xs ≡ flat_map g (map f xs)
flat_map-map f g [] = refl
flat_map-map f g (x ∷ xs) = ap (λ l. g (f x) ++ l) (flat_map-map f g xs)

-- the writes for a list, through a view of its elements
pub slice-map : {X Y : Type 0} (f : X → Y) (writes : Y → HashWrites) (xs : List X) → fed.slice (λ x. writes (f x)) xs ≡ fed.slice writes (map f xs)
slice-map f writes xs =
    ap (λ n. fed.usize n ++ flat_map (λ x. writes (f x)) xs) (sym (length-map xs f))
    ∙ ap (λ l. fed.usize (length (map f xs)) ++ l) (flat_map-map f writes xs)

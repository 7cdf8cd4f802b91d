-- Lists in pairs, one more.
use Rattle.std.proofs.Common.{◌≡◌, ◌∙◌, ℕ, zero, suc, ◌+◌, ◌<◌, ◌≤◌, List, [], ◌∷◌, ◌++◌, ap, ap₂, append_assoc, append-nil, arith, get_or, length, min, refl, sym, take}
use Rattle.std.specs.List.{flat_map, zip}
use Rattle.std.proofs.lemmas.Grind.{flat_map-append}

suc_more : {X Y : Type 0} (xs : List X) (ys : List Y) (i : ℕ) (x : X) (y : Y) → i < length xs → i < length ys → zip (take (suc i) xs) ys ≡ zip (take i xs) ys ++ (get_or xs i x, get_or ys i y) ∷ []
suc_more [] ys i x y less more = absurd (omega arith)
suc_more (a ∷ xs) [] i x y less more = absurd (omega arith)
suc_more (a ∷ xs) (b ∷ ys) zero x y less more = refl
suc_more (a ∷ xs) (b ∷ ys) (suc i) x y less more = ap (λ l. (a, b) ∷ l) (suc_more xs ys i x y (omega arith) (omega arith))

-- a pair more
pub zip_more : {X Y : Type 0} (xs : List X) (ys : List Y) (i : ℕ) (x : X) (y : Y) → i < length xs → i < length ys → zip (take (i + 1) xs) ys ≡ zip (take i xs) ys ++ (get_or xs i x, get_or ys i y) ∷ []
zip_more xs ys i x y less more =
    let next : i + 1 ≡ suc i = omega arith in
    ap (λ n. zip (take n xs) ys) next ∙ suc_more xs ys i x y less more

-- the pairs end with the shorter list
pub zip_all : {X Y : Type 0} (xs : List X) (ys : List Y) (n : ℕ) → min (length xs) (length ys) ≤ n → zip (take n xs) ys ≡ zip xs ys
zip_all [] ys zero most = refl
zip_all [] ys (suc n) most = refl
zip_all (a ∷ xs) [] zero most = refl
zip_all (a ∷ xs) [] (suc n) most = refl
zip_all (a ∷ xs) (b ∷ ys) zero most = absurd (omega arith)
zip_all (a ∷ xs) (b ∷ ys) (suc n) most = ap (λ l. (a, b) ∷ l) (zip_all xs ys n (omega arith))

-- what is written of a pair more
pub written_more : {X Y : Type 0} (f : X × Y → List ℕ) (xs : List X) (ys : List Y) (i : ℕ) (x : X) (y : Y) (start text next : List ℕ)
    → i < length xs → i < length ys → x ≡ get_or xs i x → y ≡ get_or ys i y
    → text ≡ start ++ flat_map f (zip (take i xs) ys) → next ≡ text ++ f (x, y) → next ≡ start ++ flat_map f (zip (take (i + 1) xs) ys)
written_more f xs ys i x y start text next less more one other so_far added =
    let pair : (get_or xs i x, get_or ys i y) ≡ (x, y) = ap₂ (λ a b. (a, b)) (sym one) (sym other) in
    let last : flat_map f (zip (take (i + 1) xs) ys) ≡ flat_map f (zip (take i xs) ys) ++ f (x, y) =
    ap (flat_map f) (zip_more xs ys i x y less more)
    ∙ flat_map-append f (zip (take i xs) ys) ((get_or xs i x, get_or ys i y) ∷ [])
    ∙ ap (λ l. flat_map f (zip (take i xs) ys) ++ l) (append-nil (f (get_or xs i x, get_or ys i y)) ∙ ap f pair) in
    added ∙ ap (λ l. l ++ f (x, y)) so_far ∙ append_assoc start (flat_map f (zip (take i xs) ys)) (f (x, y)) ∙ ap (λ l. start ++ l) (sym last)

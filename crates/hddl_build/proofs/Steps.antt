-- Steps of loops that add to a list.
use Rattle.std.proofs.Common.{◌≡◌, ℕ, ◌+◌, ◌<◌, ◌≤◌, List, [], ◌∷◌, ◌++◌, sym, ap, ◌∙◌, length, map, take, get_or, subst}
use Rattle.std.specs.List.{AllZip, flat_map}
use Rattle.std.proofs.lemmas.List.{flat_map_more, map-append, take_more, take_all}

-- a mapped list, one value further
pub map_step : {X A : Type 0} (f : X → A) (mid new : List A) (xs : List X) (i : ℕ) (x : X) → i < length xs → x ≡ get_or xs i x
    → mid ≡ map f (take i xs) → new ≡ mid ++ f x ∷ [] → new ≡ map f (take (i + 1) xs)
map_step f mid new xs i x h at before step =
    step ∙ ap (λ l. l ++ f x ∷ []) before ∙ sym (map-append f (take i xs) (x ∷ []))
    ∙ ap (λ l. map f l) (ap (λ y. take i xs ++ y ∷ []) at ∙ sym (take_more xs i x h))

-- joined lists, one value further
pub flat_step : {X A : Type 0} (f : X → List A) (old mid new : List A) (xs : List X) (i : ℕ) (x : X) → i < length xs → x ≡ get_or xs i x
    → mid ≡ old ++ flat_map f (take i xs) → new ≡ mid ++ f x → new ≡ old ++ flat_map f (take (i + 1) xs)
flat_step f old mid new xs i x h at before step =
    step ∙ ap (λ l. l ++ f x) before ∙ flat_map_more f old (take i xs) x
    ∙ ap (λ l. old ++ flat_map f l) (ap (λ y. take i xs ++ y ∷ []) at ∙ sym (take_more xs i x h))

-- joined lists, at the end
pub flat_end : {X A : Type 0} (f : X → List A) (old mid : List A) (xs : List X) (i : ℕ) → length xs ≤ i → mid ≡ old ++ flat_map f (take i xs)
    → mid ≡ old ++ flat_map f xs
flat_end f old mid xs i h before = before ∙ ap (λ l. old ++ flat_map f l) (take_all i xs h)

-- two lists that correspond do with one more pair that does
zip_push : {X Y : Type 0} (R : X → Y → Type 0) (xs : List X) (ys : List Y) (x : X) (y : Y) → AllZip R xs ys → R x y → AllZip R (xs ++ x ∷ []) (ys ++ y ∷ [])
zip_push R [] [] x y all h = (h, tt)
zip_push R [] (z ∷ ys) x y all h = absurd all
zip_push R (z ∷ xs) [] x y all h = absurd all
zip_push R (z ∷ xs) (w ∷ ys) x y all h = (all.0, zip_push R xs ys x y all.1 h)

-- one pair more
pub zip_step : {X Y : Type 0} (R : X → Y → Type 0) (xs : List X) (i : ℕ) (x : X) (old new : List Y) (y : Y) → i < length xs → x ≡ get_or xs i x
    → AllZip R (take i xs) old → new ≡ old ++ y ∷ [] → R x y → AllZip R (take (i + 1) xs) new
zip_step R xs i x old new y h at before step here =
    let grown : AllZip R (take i xs ++ x ∷ []) (old ++ y ∷ []) = zip_push R (take i xs) old x y before here in
    subst (λ l. AllZip R l new) (ap (λ z. take i xs ++ z ∷ []) at ∙ sym (take_more xs i x h)) (subst (λ l. AllZip R (take i xs ++ x ∷ []) l) (sym step) grown)

-- two lists correspond at the end of the first
pub zip_end : {X Y : Type 0} (R : X → Y → Type 0) (xs : List X) (i : ℕ) (ys : List Y) → length xs ≤ i → AllZip R (take i xs) ys → AllZip R xs ys
zip_end R xs i ys h before = subst (λ l. AllZip R l ys) (take_all i xs h) before

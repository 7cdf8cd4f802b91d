-- Lists whose elements are related one by one.
use Rattle.std.proofs.Common.{◌≡◌, ℕ, ◌+◌, ◌<◌, List, [], ◌∷◌, ◌++◌, sym, length, take, get_or, subst}
use Rattle.std.specs.List.{AllZip}
use Rattle.std.proofs.lemmas.List.{take_more}

-- one more pair
AllZip-snoc : {X Y : Type 0} (R : X → Y → Type 0) (xs : List X) (ys : List Y) (x : X) (y : Y) → AllZip R xs ys → R x y → AllZip R (xs ++ x ∷ []) (ys ++ y ∷ [])
AllZip-snoc R [] [] x y all one = (one, tt)
AllZip-snoc R [] (b ∷ bs) x y all one = absurd all
AllZip-snoc R (a ∷ as') [] x y all one = absurd all
AllZip-snoc R (a ∷ as') (b ∷ bs) x y all one = (all.0, AllZip-snoc R as' bs x y all.1 one)

-- one more element of the first list, and what is pushed onto the second
pub zip_step : {X Y : Type 0} (R : X → Y → Type 0) (xs : List X) (i : ℕ) (any : X) (old new : List Y) (y : Y) → i < length xs
    → AllZip R (take i xs) old → new ≡ old ++ y ∷ [] → R (get_or xs i any) y → AllZip R (take (i + 1) xs) new
zip_step R xs i any old new y less before step here =
    let x = get_or xs i any in
    let grown : AllZip R (take i xs ++ x ∷ []) (old ++ y ∷ []) = AllZip-snoc R (take i xs) old x y before here in
    subst (λ l. AllZip R l new) (sym (take_more xs i any less)) (subst (λ l. AllZip R (take i xs ++ x ∷ []) l) (sym step) grown)

-- The first position of each name of a network.
use Rattle.std.proofs.Common.{◌≡◌, ℕ, ◌+◌, ◌<◌, Bool, cond, List, [], ◌∷◌, ◌++◌, length, Some, None, is_some, sym, ap, ◌∙◌, take, get_or, arith}
use Rattle.std.specs.List.{position}
use Rattle.std.proofs.lemmas.Iterator.Adapters.{position_from-zero}
use Rattle.std.proofs.lemmas.List.{take_more, length-take-le}
use Rattle.hddl_scope.proofs.Positions.{push_from}

-- the first place that passes, one value further
pub position_next : {X : Type 0} (p : X → Bool) (xs : List X) (k : ℕ) (x : X) → k < length xs → x ≡ get_or xs k x
    → position p (take (k + 1) xs) ≡ cond (is_some (position p (take k xs))) (position p (take k xs)) (cond (p x) (Some k) None)
position_next p xs k x lt is =
    let front = take k xs in
    let cut : take (k + 1) xs ≡ front ++ x ∷ [] = take_more xs k x lt ∙ ap (λ y. front ++ y ∷ []) (sym is) in
    let wide : 0 + length front ≡ k = let e = length-take-le k xs (omega arith) in omega (arith, e) in
    ap (position p) cut ∙ position_from-zero p (front ++ x ∷ []) ∙ push_from p 0 front x
    ∙ (λ i. cond (is_some (sym (position_from-zero p front) i)) (sym (position_from-zero p front) i) (cond (p x) (Some (wide i)) None))

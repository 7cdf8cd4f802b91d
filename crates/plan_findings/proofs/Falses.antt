-- Lists in pairs, and literals that are false, one more.
use Rattle.std.proofs.Common.{◌≡◌, ◌∙◌, ℕ, zero, suc, ◌+◌, ◌<◌, ◌≤◌, List, [], ◌∷◌, ◌++◌, Option, ap, ap₂, arith, get_or, length, map, min, refl, subst, sym, take}
use Rattle.std.specs.List.{AllZip, zip}
use Rattle.indexmap.proofs.SetLemmas.{AllZip-push}
use Rattle.htn_model.specs.Literal.{Literal}
use Rattle.htn_model.specs.Task.{Task}
use Rattle.plan_causes.specs.declared.standing.Standing.{Standing}
use Rattle.plan_findings.specs.Falsities.{IsFalsityIf}
use Rattle.plan_causes.specs.declared.literals.FalseLiteral.{FalseLiteral}

suc_more : {X Y : Type 0} (xs : List X) (ys : List Y) (i : ℕ) (x : X) (y : Y) → i < length xs → i < length ys → zip (take (suc i) xs) ys ≡ zip (take i xs) ys ++ (get_or xs i x, get_or ys i y) ∷ []
suc_more [] ys i x y less more = absurd (omega arith)
suc_more (a ∷ xs) [] i x y less more = absurd (omega arith)
suc_more (a ∷ xs) (b ∷ ys) zero x y less more = refl
suc_more (a ∷ xs) (b ∷ ys) (suc i) x y less more = ap (λ l. (a, b) ∷ l) (suc_more xs ys i x y (omega arith) (omega arith))

-- a pair more
pub zip_more : {X Y : Type 0} (xs : List X) (ys : List Y) (i : ℕ) (x : X) (y : Y) → i < length xs → i < length ys → zip (take (i + 1) xs) ys ≡ zip (take i xs) ys ++ (get_or xs i x, get_or ys i y) ∷ []
zip_more xs ys i x y less more =
    let next : i + 1 ≡ suc i = omega arith in
    ap (λ n. zip (take n xs) ys) next ∙ suc_more xs ys i x y less more

-- the pairs end with the shorter list
pub zip_all : {X Y : Type 0} (xs : List X) (ys : List Y) (n : ℕ) → min (length xs) (length ys) ≤ n → zip (take n xs) ys ≡ zip xs ys
zip_all [] ys zero most = refl
zip_all [] ys (suc n) most = refl
zip_all (a ∷ xs) [] zero most = refl
zip_all (a ∷ xs) [] (suc n) most = refl
zip_all (a ∷ xs) (b ∷ ys) zero most = absurd (omega arith)
zip_all (a ∷ xs) (b ∷ ys) (suc n) most = ap (λ l. (a, b) ∷ l) (zip_all xs ys n (omega arith))

-- an entry of a list, as it is mapped
pub get_map : {X Y : Type 0} (f : X → Y) (xs : List X) (i : ℕ) (x : X) → i < length xs → x ≡ get_or xs i x → f x ≡ get_or (map f xs) i (f x)
get_map f [] i x less is = absurd (omega arith)
get_map f (a ∷ xs) zero x less is = ap f is
get_map f (a ∷ xs) (suc i) x less is = get_map f xs i x (omega arith) is

-- a literal more
pub falsity_more : (t : Task) (ls : List Literal) (ss : List Standing) (i : ℕ) (l : Literal) (s : Standing) (o : Option FalseLiteral) (each : List (Option FalseLiteral))
    → i < length ls → i < length ss → l ≡ get_or ls i l → s ≡ get_or ss i s → IsFalsityIf t (l, s) o → AllZip (IsFalsityIf t) (zip (take i ls) ss) each
    → AllZip (IsFalsityIf t) (zip (take (i + 1) ls) ss) (each ++ o ∷ [])
falsity_more t ls ss i l s o each less more one other is all =
    let pair : (get_or ls i l, get_or ss i s) ≡ (l, s) = ap₂ (λ x y. (x, y)) (sym one) (sym other) in
    subst (λ ps. AllZip (IsFalsityIf t) ps (each ++ o ∷ [])) (sym (zip_more ls ss i l s less more))
    (AllZip-push (IsFalsityIf t) (zip (take i ls) ss) each (get_or ls i l, get_or ss i s) o all (subst (λ p. IsFalsityIf t p o) (sym pair) is))

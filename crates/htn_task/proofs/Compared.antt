-- Lists that are compared one by one, once one of them has ended.
use Rattle.std.proofs.Common.{◌≡◌, ◌<◌, ◌-◌, ℕ, suc, List, [], ◌∷◌, min, length, drop, refl, arith}
use Rattle.std.specs.declared.cmp.Ordering.{Ordering}
use Rattle.std.specs.declared.cmp.Ordering.TheVariants.{Less, Equal, Greater}
use Rattle.std.specs.Cmp.Lexicographic.{slice_cmp}
use Rattle.std.specs.Ordering.{nat_cmp, MatchOrdering}
use Rattle.std.proofs.lemmas.Cmp.{ranked}
use Rattle.std.proofs.lemmas.List.{length-drop}

-- where one of two lists is empty, their lengths decide
by_lengths : (us vs : List ℕ) (r : Ordering) → min (length us) (length vs) ≡ 0
    → MatchOrdering r (length us < length vs) (length us ≡ length vs) (length vs < length us) → r ≡ slice_cmp nat_cmp us vs
by_lengths [] [] Less m h = let e : 0 < 0 = h in absurd (omega arith)
by_lengths [] [] Equal m h = refl
by_lengths [] [] Greater m h = let e : 0 < 0 = h in absurd (omega arith)
by_lengths [] (v ∷ vs) Less m h = refl
by_lengths [] (v ∷ vs) Equal m h = let e : 0 ≡ suc (length vs) = h in absurd (omega arith)
by_lengths [] (v ∷ vs) Greater m h = let e : suc (length vs) < 0 = h in absurd (omega arith)
by_lengths (u ∷ us) [] Less m h = let e : suc (length us) < 0 = h in absurd (omega arith)
by_lengths (u ∷ us) [] Equal m h = let e : suc (length us) ≡ 0 = h in absurd (omega arith)
by_lengths (u ∷ us) [] Greater m h = refl
by_lengths (u ∷ us) (v ∷ vs) r m h = let e : min (suc (length us)) (suc (length vs)) ≡ 0 = m in absurd (omega arith)

-- lengths that lose as much compare as before
shifted : (a b i c d : ℕ) (r : Ordering) → i ≡ min a b → c ≡ a - i → d ≡ b - i → MatchOrdering r (a < b) (a ≡ b) (b < a) → MatchOrdering r (c < d) (c ≡ d) (d < c)
shifted a b i c d Less m p q h = let l : a < b = h in omega arith
shifted a b i c d Equal m p q h = let l : a ≡ b = h in omega arith
shifted a b i c d Greater m p q h = let l : b < a = h in omega arith

-- from where one of two lists has ended, their lengths decide
pub ended : (xs ys : List ℕ) (i : ℕ) (r : Ordering) → i ≡ min (length xs) (length ys) → r ≡ nat_cmp (length xs) (length ys)
    → r ≡ slice_cmp nat_cmp (drop i xs) (drop i ys)
ended xs ys i r m h =
    let p = length-drop i xs in
    let q = length-drop i ys in
    by_lengths (drop i xs) (drop i ys) r (omega arith)
    (shifted (length xs) (length ys) i (length (drop i xs)) (length (drop i ys)) r m p q (ranked (length xs) (length ys) r h))

-- What an output has after some writes.
use Rattle.std.proofs.Common.{◌≡◌, ℕ, ◌+◌, ◌-◌, ◌<◌, ◌≤◌, Bool, List, [], ◌∷◌, ◌++◌, length, get_or, take, drop, min, arith, sym, ap, ◌∙◌, append_assoc, append-nil}
use Rattle.std.specs.List.{flat_map}
use Rattle.std.proofs.lemmas.Grind.{flat_map-append}
use Rattle.std.proofs.lemmas.List.{take_more, take_all, take_min}
use Rattle.diagnostics.specs.Ink.{Ink, ink_bytes, written}

-- one after another
pub written-append : (colour : Bool) (xs ys : List Ink) → written colour (xs ++ ys) ≡ written colour xs ++ written colour ys
written-append colour xs ys = flat_map-append (ink_bytes colour) xs ys

-- what two writes add
pub adds : (colour : Bool) (o n m : List ℕ) (xs ys : List Ink) → n ≡ o ++ written colour xs → m ≡ n ++ written colour ys → m ≡ o ++ written colour (xs ++ ys)
adds colour o n m xs ys first next =
    next ∙ ap (λ l. l ++ written colour ys) first ∙ append_assoc o (written colour xs) (written colour ys) ∙ ap (λ l. o ++ l) (sym (written-append colour xs ys))

-- what is written of one element more
pub each : {X : Type 0} (colour : Bool) (f : X → List Ink) (o n m : List ℕ) (xs : List X) (i : ℕ) (x : X) → i < length xs → x ≡ get_or xs i x → n ≡ o ++ written colour (flat_map f (take i xs)) → m ≡ n ++ written colour (f x) → m ≡ o ++ written colour (flat_map f (take (i + 1) xs))
each colour f o n m xs i x h is first next =
    let more : flat_map f (take (i + 1) xs) ≡ flat_map f (take i xs) ++ f x =
    ap (flat_map f) (take_more xs i x h) ∙ ap (λ y. flat_map f (take i xs ++ y ∷ [])) (sym is) ∙ flat_map-append f (take i xs) (x ∷ []) ∙ ap (λ l. flat_map f (take i xs) ++ l) (append-nil (f x)) in
    adds colour o n m (flat_map f (take i xs)) (f x) first next ∙ ap (λ l. o ++ written colour l) (sym more)

-- a list is its first element and the rest
pub front_of : {X : Type 0} (xs : List X) (x : X) → 1 ≤ length xs → x ≡ get_or xs 0 x → x ∷ take (length xs - 1) (drop 1 xs) ≡ xs
front_of [] x h is = absurd (omega arith)
front_of (y ∷ ys) x h is =
    let n : length (y ∷ ys) - 1 ≡ length ys = omega arith in
    ap (λ z. z ∷ take (length (y ∷ ys) - 1) ys) is ∙ ap (λ l. y ∷ l) (ap (λ m. take m ys) n ∙ take_all (length ys) ys (omega arith))

-- three elements at most
pub at_most_three : {X : Type 0} (xs : List X) (n : ℕ) → n ≡ min (length xs) 3 → take n xs ≡ take 3 xs
at_most_three xs n is = let e : n ≡ min 3 (length xs) = omega (arith, is) in ap (λ m. take m xs) e ∙ take_min 3 xs

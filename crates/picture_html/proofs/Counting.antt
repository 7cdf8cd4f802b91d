-- What is written of numbers from 0 on, and of folds that end.
use Rattle.std.proofs.Common.{◌≡◌, ℕ, zero, suc, ◌+◌, ◌-◌, ◌<◌, List, [], ◌∷◌, ◌++◌, codes, length, get_or, take, sym, ap, ◌∙◌, arith}
use Rattle.std.specs.List.{flat_map, range_with_len}
use Rattle.std.proofs.lemmas.List.{append_assoc, append-nil, flat_map_more, take_more}
use Rattle.picture_html.specs.Outline.{ends}

range_more : (a k : ℕ) → range_with_len a (suc k) ≡ range_with_len a k ++ (a + k) ∷ []
range_more a zero = ap (λ n. n ∷ []) (let e : a ≡ a + 0 = omega arith in e)
range_more a (suc k) = ap (λ xs. a ∷ xs) (range_more (a + 1) k ∙ ap (λ n. range_with_len (a + 1) k ++ n ∷ []) (let e : a + 1 + k ≡ a + suc k = omega arith in e))

-- one number more
pub numbers_more : (f : ℕ → List ℕ) (o n m : List ℕ) (k : ℕ) → n ≡ o ++ flat_map f (range_with_len 0 k) → m ≡ n ++ f k → m ≡ o ++ flat_map f (range_with_len 0 (k + 1))
numbers_more f o n m k first next =
    let more : k + 1 ≡ suc k = omega arith in
    next ∙ ap (λ l. l ++ f k) first ∙ flat_map_more f o (range_with_len 0 k) k
    ∙ ap (λ l. o ++ flat_map f l) (sym (range_more 0 k ∙ ap (λ n. range_with_len 0 k ++ n ∷ []) (let e : 0 + k ≡ k = omega arith in e)) ∙ ap (range_with_len 0) (sym more))

-- one item of a list more
pub items_more : {X : Type 0} (f : X → List ℕ) (xs : List X) (i : ℕ) (d : X) (o n m : List ℕ) → i < length xs → n ≡ o ++ flat_map f (take i xs) → m ≡ n ++ f (get_or xs i d)
    → m ≡ o ++ flat_map f (take (i + 1) xs)
items_more f xs i d o n m low so_far next =
    next ∙ ap (λ l. l ++ f (get_or xs i d)) so_far ∙ flat_map_more f o (take i xs) (get_or xs i d) ∙ ap (λ l. o ++ flat_map f l) (sym (take_more xs i d low))

-- one fold more ends
pub one_end_more : (left : ℕ) (before after all : List ℕ) → 0 < left → before ++ ends left ≡ all → after ≡ before ++ codes "</details>\n" → after ++ ends (left - 1) ≡ all
one_end_more left before after all some so_far more =
    let next : suc (left - 1) ≡ left = omega arith in
    ap (λ xs. xs ++ ends (left - 1)) more ∙ append_assoc before (codes "</details>\n") (ends (left - 1)) ∙ ap (λ k. before ++ ends k) next ∙ so_far

pub all_ended : (left : ℕ) (found all : List ℕ) → left ≡ 0 → found ++ ends left ≡ all → found ≡ all
all_ended left found all none so_far = sym (append-nil found) ∙ ap (λ k. found ++ ends k) (sym none) ∙ so_far

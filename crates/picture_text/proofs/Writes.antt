-- What an output has after some writes.
use Rattle.std.proofs.Common.{◌≡◌, ℕ, ◌+◌, ◌<◌, List, ◌++◌, length, get_or, take, cond, Result, Ok, Err, sym, ap, ◌∙◌}
use Rattle.std.specs.List.{flat_map}
use Rattle.std.specs.Result.{OnOk, is_ok}
use Rattle.std.proofs.lemmas.List.{append_assoc, flat_map_more, take_more}

-- one after another
pub adds : (o n m xs ys : List ℕ) → n ≡ o ++ xs → m ≡ n ++ ys → m ≡ o ++ (xs ++ ys)
adds o n m xs ys first next = next ∙ ap (λ l. l ++ ys) first ∙ append_assoc o xs ys

-- the last one may fail
pub last : {T E : Type 0} (r : Result T E) (o n m xs ys : List ℕ) → n ≡ o ++ xs → m ≡ cond (is_ok r) (n ++ ys) n → OnOk r (m ≡ o ++ (xs ++ ys))
last (Ok x) o n m xs ys first next = adds o n m xs ys first next
last (Err e) o n m xs ys first next = tt

-- the last one says itself what it wrote
pub after : {T E : Type 0} (r : Result T E) (o n m xs ys : List ℕ) → n ≡ o ++ xs → OnOk r (m ≡ n ++ ys) → OnOk r (m ≡ o ++ (xs ++ ys))
after (Ok x) o n m xs ys first next = adds o n m xs ys first next
after (Err e) o n m xs ys first next = tt

-- what is written of one number more
pub each_more : (f : ℕ → List ℕ) (o n m : List ℕ) (xs : List ℕ) (i : ℕ) → i < length xs → n ≡ o ++ flat_map f (take i xs) → m ≡ n ++ f (get_or xs i 0) → m ≡ o ++ flat_map f (take (i + 1) xs)
each_more f o n m xs i low first next =
    next ∙ ap (λ l. l ++ f (get_or xs i 0)) first ∙ flat_map_more f o (take i xs) (get_or xs i 0) ∙ ap (λ l. o ++ flat_map f l) (sym (take_more xs i 0 low))

-- five parts, and seven
pub five : (a b c d e : List ℕ) → (((a ++ b) ++ c) ++ d) ++ e ≡ a ++ (b ++ (c ++ (d ++ e)))
five a b c d e = simp append_assoc

pub seven : (a b c d e f g : List ℕ) → (((((a ++ b) ++ c) ++ d) ++ e) ++ f) ++ g ≡ a ++ (b ++ (c ++ (d ++ (e ++ (f ++ g)))))
seven a b c d e f g = simp append_assoc

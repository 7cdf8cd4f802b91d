-- Writes one after another, of which the last may fail.
use Rattle.std.proofs.Common.{◌≡◌, ℕ, List, ◌++◌, cond, Result, Ok, Err, ap, ◌∙◌}
use Rattle.std.specs.Result.{OnOk, is_ok}
use Rattle.picture_text.proofs.Writes.{adds}

-- the last one
pub ended : {T E : Type 0} (r : Result T E) (n m ys : List ℕ) → m ≡ cond (is_ok r) (n ++ ys) n → OnOk r (m ≡ n ++ ys)
ended (Ok x) n m ys e = e
ended (Err x) n m ys e = tt

-- one before the others
pub follows : {T E : Type 0} (r : Result T E) (o n m xs ys : List ℕ) → n ≡ o ++ xs → OnOk r (m ≡ n ++ ys) → OnOk r (m ≡ o ++ (xs ++ ys))
follows (Ok x) o n m xs ys first rest = adds o n m xs ys first rest
follows (Err x) o n m xs ys first rest = tt

-- what is written is known by another term
pub reads : {T E : Type 0} (r : Result T E) (o m xs ys : List ℕ) → xs ≡ ys → OnOk r (m ≡ o ++ xs) → OnOk r (m ≡ o ++ ys)
reads (Ok x) o m xs ys same e = e ∙ ap (λ l. o ++ l) same
reads (Err x) o m xs ys same e = tt

-- What a network needs, found one literal after another.
use Rattle.std.proofs.Common.{◌≡◌, ℕ, zero, suc, ◌+◌, ◌<◌, Bool, true, false, ◌&&◌, cond, List, [], ◌∷◌, ◌++◌, length, get_or, take, filter, refl, sym, ap, ap₂, ◌∙◌, arith, append-nil}
use Rattle.std.specs.List.{flat_map, range_with_len}
use Rattle.std.proofs.lemmas.List.Concat.{flat_map-append}
use Rattle.std.proofs.lemmas.List.Elements.{filter_more}
use Rattle.std.proofs.lemmas.List.Folds.{list_all-append}
use Rattle.htn_model.specs.Literal.{Literal, equality, holds, literal_holds}
use Rattle.htn_model.specs.State.{State}

-- a conjunction of three, grouped either way
pub all_three : (a b c : Bool) → ((a && b) && c) ≡ (a && (b && c))
all_three true b c = refl
all_three false b c = refl

-- nothing more
pub and_nothing : (b : Bool) → b ≡ (b && true)
and_nothing true = refl
and_nothing false = refl

-- one literal, if it is kept
one_kept : (s : State) (l : Literal) (b : Bool) → cond b (literal_holds s l) true ≡ holds s (cond b (l ∷ []) [])
one_kept s l true = and_nothing (literal_holds s l)
one_kept s l false = refl

-- a literal that stands for one past the end of a list
abbrev pub some_literal : Literal
some_literal = equality true 0 0

-- what holds of none of those that a test keeps
pub nothing_kept : (s : State) (test : Literal → Bool) (ls : List Literal) (first : Bool) → first ≡ (first && holds s (filter test (take 0 ls)))
nothing_kept s test [] true = refl
nothing_kept s test [] false = refl
nothing_kept s test (l ∷ ls) true = refl
nothing_kept s test (l ∷ ls) false = refl

-- what holds of those that a test keeps, with one more of them
pub kept_more : (s : State) (test : Literal → Bool) (ls : List Literal) (i : ℕ) (d : Literal) (first old new b met : Bool) → i < length ls → b ≡ test (get_or ls i d)
    → met ≡ literal_holds s (get_or ls i d) → old ≡ (first && holds s (filter test (take i ls))) → new ≡ (old && cond b met true) → new ≡ (first && holds s (filter test (take (i + 1) ls)))
kept_more s test ls i d first old new b met low tells holds_so before after =
    let l = get_or ls i d in
    let some = filter test (take i ls) in
    let more = cond (test l) (l ∷ []) [] in
    after
    ∙ ap₂ (λ (t m : Bool). old && cond t m true) tells holds_so
    ∙ ap (λ o. o && cond (test l) (literal_holds s l) true) before
    ∙ ap (λ m. (first && holds s some) && m) (one_kept s l (test l))
    ∙ all_three first (holds s some) (holds s more)
    ∙ ap (λ h. first && h) (sym (list_all-append (literal_holds s) some more))
    ∙ ap (λ (k : List Literal). first && holds s k) (sym (filter_more test ls i d low))

-- one more number
range_more : (a n : ℕ) → range_with_len a (suc n) ≡ range_with_len a n ++ (a + n) ∷ []
range_more a zero = ap (λ k. k ∷ []) (let e : a ≡ a + 0 = omega arith in e)
range_more a (suc n) =
    ap (λ l. a ∷ l) (range_more (a + 1) n)
    ∙ ap (λ k. a ∷ (range_with_len (a + 1) n ++ k ∷ [])) (let e : (a + 1) + n ≡ a + suc n = omega arith in e)

-- what the positions below the next one give together
pub joined_more : {X : Type 0} (f : ℕ → List X) (k : ℕ) → flat_map f (range_with_len 0 (k + 1)) ≡ flat_map f (range_with_len 0 k) ++ f k
joined_more f k =
    ap (λ n. flat_map f (range_with_len 0 n)) (let e : k + 1 ≡ suc k = omega arith in e)
    ∙ ap (flat_map f) (range_more 0 k)
    ∙ ap (λ n. flat_map f (range_with_len 0 k ++ n ∷ [])) (let e : 0 + k ≡ k = omega arith in e)
    ∙ flat_map-append f (range_with_len 0 k) (k ∷ [])
    ∙ ap (λ l. flat_map f (range_with_len 0 k) ++ l) (append-nil (f k))

-- what the positions below the next one need holds where that below this one does, and what this one needs
pub needed_more : (s : State) (f : ℕ → List Literal) (k : ℕ) (first old new : Bool) → old ≡ (first && holds s (flat_map f (range_with_len 0 k))) → new ≡ (old && holds s (f k))
    → new ≡ (first && holds s (flat_map f (range_with_len 0 (k + 1))))
needed_more s f k first old new before after =
    let some = flat_map f (range_with_len 0 k) in
    after
    ∙ ap (λ o. o && holds s (f k)) before
    ∙ all_three first (holds s some) (holds s (f k))
    ∙ ap (λ h. first && h) (sym (list_all-append (literal_holds s) some (f k)))
    ∙ ap (λ (l : List Literal). first && holds s l) (sym (joined_more f k))

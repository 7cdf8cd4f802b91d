-- Texts and their numbers among different names.
use Rattle.std.proofs.Common.{◌≡◌, ◌≢◌, ℕ, zero, suc, ◌<◌, ◌+◌, Bool, true, false, cond, not, List, [], ◌∷◌, ◌++◌, Some, None, refl, sym, ap, subst, ◌∙◌, arith, ⊎_elim, length, get_or}
use Rattle.std.specs.List.{Contains, IsDistinct, AllPairs, fold, list_any, position, position_or_len}
use Rattle.std.specs.Cmp.Lexicographic.{pointwise_decides}
use Rattle.std.specs.Cmp.{unsigned_Decides}
use Rattle.std.proofs.lemmas.Cmp.{nat_list_eq_equiv}
use Rattle.std.proofs.lemmas.Bool.{cases_Bool, cases_lt, cases_eq, lt-ltb, true≢false}
use Rattle.std.proofs.lemmas.List.Elements.{Contains-get_or}
use Rattle.std.proofs.Math.Seq.{get_or-append_seam}
use Rattle.std.proofs.Common.{length-append, append_assoc}
use Rattle.std.proofs.lemmas.List.{get_or_default, get_or_append_left, append-nil}
use Rattle.std.proofs.lemmas.List.Quantifiers.{position-Some}
use Rattle.std.proofs.lemmas.Map.Made.{AllPairs-from_IsDistinct}
use Rattle.std.proofs.lemmas.Map.Views.{Contains-from_any}
use Rattle.hddl_meaning.specs.Mentions.{Text}
use Rattle.hddl_meaning.specs.Names.{is_same_text, with_name, distinct, number_in, number_or_zero}
use Rattle.hddl_names.proofs.Distinct.{insert_all-more, insert_all-new, insert_all-cases, insert_all-different}

-- texts that the test finds the same are equal
pub same : (x y : Text) → is_same_text x y ≡ true → x ≡ y
same x y = (pointwise_decides unsigned_Decides x y).0

-- equal texts are found the same
pub same_as_itself : (x y : Text) → x ≡ y → is_same_text x y ≡ true
same_as_itself x y = (pointwise_decides unsigned_Decides x y).1

-- each text is among the distinct ones
pub distinct-has : (xs : List Text) (x : Text) → Contains xs x → Contains (distinct xs) x
distinct-has xs x h = insert_all-new is_same_text same [] xs x h

-- each of the distinct texts is among the texts
pub distinct-from : (xs : List Text) (x : Text) → Contains (distinct xs) x → Contains xs x
distinct-from xs x h = ⊎_elim (λ none. absurd (omega (arith, none.1))) (λ there. there) (insert_all-cases is_same_text [] xs x h)

-- the distinct texts differ
pub distinct-different : (xs : List Text) → IsDistinct is_same_text (distinct xs)
unfolding IsDistinct
distinct-different xs = insert_all-different nat_list_eq_equiv [] xs tt

-- where a value that passes is in a list, the first that does is in it
pub early : {X : Type 0} (p : X → Bool) (xs : List X) (x : X) → p x ≡ true → Contains xs x → position_or_len p xs < length xs
early p [] x passes (k, lt, is) = absurd (omega (arith, lt))
early p (y ∷ ys) x passes h = ⊎_elim first (λ e. later e (early p ys x passes (rest e h))) (cases_Bool (p y))
  where
    first : p y ≡ true → position_or_len p (y ∷ ys) < length (y ∷ ys)
    first e = subst (λ t. cond (not t) (1 + position_or_len p ys) 0 < length (y ∷ ys)) (sym e) (omega arith)

    rest : p y ≡ false → Contains (y ∷ ys) x → Contains ys x
    rest e (zero, lt, is) = absurd (true≢false (sym passes ∙ ap p (sym is) ∙ e))
    rest e (suc k, lt, is) = (k, omega (arith, lt), is)

    later : p y ≡ false → position_or_len p ys < length ys → position_or_len p (y ∷ ys) < length (y ∷ ys)
    later e next = subst (λ t. cond (not t) (1 + position_or_len p ys) 0 < length (y ∷ ys)) (sym e) (omega (arith, next))

-- a name of the list has a number, at which it stands
pub position_of : (names : List Text) (x : Text) → Contains names x → (k : ℕ) × (position (is_same_text x) names ≡ Some k) × (k < length names) × (get_or names k [] ≡ x)
position_of names x h =
    let k = position_or_len (is_same_text x) names in
    let lt : k < length names = early (is_same_text x) names x (same_as_itself x x refl) h in
    let found : position (is_same_text x) names ≡ Some k = ap (λ t. cond t (Some k) None) (lt-ltb k (length names) lt) in
    (k, found, lt, sym (same x (get_or names k []) (position-Some (is_same_text x) names k [] found).1))

-- the number of a name among others is below their count
pub number-small : (names : List Text) (x : Text) → Contains names x → number_in names x < length names
number-small names x h = let at = position_of names x h in subst (λ o. number_or_zero o < length names) (sym at.1) at.2

-- at the number of a name stands the name
pub number-names : (names : List Text) (x : Text) → Contains names x → get_or names (number_in names x) [] ≡ x
number-names names x h = let at = position_of names x h in ap (λ o. get_or names (number_or_zero o) []) at.1 ∙ at.3

-- the number of the name at a place is that place
pub number-at : (names : List Text) (k : ℕ) → IsDistinct is_same_text names → k < length names → number_in names (get_or names k []) ≡ k
number-at names k different lt = ⊎_elim (λ e. e) (λ ne. absurd (apart ne)) (cases_eq (number_in names x) k)
  where
    x : Text
    x = get_or names k []

    here : Contains names x
    here = Contains-get_or names k [] lt

    pairwise : AllPairs (λ x y. x ≢ y) names
    pairwise = AllPairs-from_IsDistinct (pointwise_decides unsigned_Decides) names different

    apart : number_in names x ≢ k → ⊥
    apart ne =
        let small = number-small names x here in
        let is = number-names names x here in
        ⊎_elim (λ less. pairwise (number_in names x) k [] less lt is) (λ past. pairwise k (number_in names x) [] (omega (arith, past, ne)) small (sym is))
        (cases_lt (number_in names x) k)

-- the first name has number 0
pub number-first : (x : Text) (xs : List Text) → number_in (distinct (x ∷ xs)) x ≡ 0
number-first x xs =
    let all = distinct (x ∷ xs) in
    let grown = insert_all-more is_same_text (x ∷ []) xs in
    let first : get_or all 0 [] ≡ x = ap (λ l. get_or l 0 []) grown.1 ∙ get_or_append_left (x ∷ []) grown.0 [] 0 (omega arith) in
    let some : 0 < length all = subst (λ l. 0 < length l) (sym grown.1) (let n = length-append (x ∷ []) grown.0 in omega (arith, n)) in
    ap (number_in all) (sym first) ∙ number-at all 0 (distinct-different (x ∷ xs)) some

-- different names stay as they are
pub distinct-same : (ks xs : List Text) → IsDistinct is_same_text (ks ++ xs) → fold with_name ks xs ≡ ks ++ xs
distinct-same ks [] different = sym (append-nil ks)
distinct-same ks (x ∷ xs) different =
    let step : with_name ks x ≡ ks ++ x ∷ [] = ap (λ t. cond t ks (ks ++ x ∷ [])) new in
    let shift : (ks ++ x ∷ []) ++ xs ≡ ks ++ x ∷ xs = append_assoc ks (x ∷ []) xs in
    ap (λ l. fold with_name l xs) step ∙ distinct-same (ks ++ x ∷ []) xs (subst (IsDistinct is_same_text) (sym shift) different) ∙ shift
  where
    new : list_any (is_same_text x) ks ≡ false
    new = ⊎_elim (λ e. absurd (twice (Contains-from_any same x ks e))) (λ e. e) (cases_Bool (list_any (is_same_text x) ks))
      where
        twice : Contains ks x → ⊥
        twice (k, lt, is) =
            let apart = AllPairs-from_IsDistinct (pointwise_decides unsigned_Decides) (ks ++ x ∷ xs) different k (length ks) [] lt (let n = length-append ks (x ∷ xs) in omega (arith, n)) in
            apart (get_or_append_left ks (x ∷ xs) [] k lt ∙ get_or_default ks k [] x lt ∙ is ∙ sym (get_or-append_seam ks x xs []))

-- the names are all different: they are their own vocabulary
pub distinct-plain : (xs : List Text) → IsDistinct is_same_text xs → distinct xs ≡ xs
distinct-plain xs different = distinct-same [] xs different

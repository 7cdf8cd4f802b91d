-- A list of some lists is replaced.
use Rattle.std.proofs.Common.{◌≡◌, ℕ, ◌<◌, ◌++◌, ◌∷◌, List, [], sym, ap, subst, ◌∙◌, arith, length, get_or, set, Vec}
use Rattle.std.specs.List.{All}
use Rattle.std.proofs.lemmas.List.{map-set, length-map, get_or-map, length-set}
use Rattle.std.proofs.lemmas.List.Elements.{All-set, All-push, All-get_or, All-same}
use Rattle.hddl_names.specs.Rows.{lists_of, AreWithin}

-- rows stay within with one that is within set
pub set_within : {A : Type 0} (rows : List (Vec ℕ A)) (i : ℕ) (v : Vec ℕ A) → AreWithin (lists_of rows) → All (λ x. x < length (lists_of rows)) v.items
    → AreWithin (lists_of (set rows i v))
set_within rows i v within row =
    let same : lists_of (set rows i v) ≡ set (lists_of rows) i v.items = map-set (λ v. v.items) rows i v in
    let long : length (set (lists_of rows) i v.items) ≡ length (lists_of rows) = length-set (lists_of rows) i v.items in
    subst AreWithin (sym same)
    (subst (λ n. All (All (λ x. x < n)) (set (lists_of rows) i v.items)) (sym long) (All-set (All (λ x. x < length (lists_of rows))) (lists_of rows) i v.items row within))

-- the list before is as it was in the rows
pub row_is : {A : Type 0} (rows : List (Vec ℕ A)) (i : ℕ) (d : Vec ℕ A) → i < length (lists_of rows) → (get_or rows i d).items ≡ get_or (lists_of rows) i []
row_is rows i d lt = sym (get_or-map (λ v. v.items) rows i d [] (let long = length-map rows (λ v. v.items) in omega (arith, lt, long)))

-- each row is within
pub row_within : {A : Type 0} (rows : List (Vec ℕ A)) (i : ℕ) (d : Vec ℕ A) → i < length (lists_of rows) → AreWithin (lists_of rows) → All (λ x. x < length (lists_of rows)) (get_or rows i d).items
row_within rows i d lt within =
    All-same (λ x. x < length (lists_of rows)) (get_or rows i d).items (get_or (lists_of rows) i []) (row_is rows i d lt)
    (All-get_or (All (λ x. x < length (lists_of rows))) (lists_of rows) i [] lt within)

-- a row with a number more that is within is so
pub push_within : {A : Type 0} (rows : List (Vec ℕ A)) (now : List (List ℕ)) (i x : ℕ) (row : Vec ℕ A) → lists_of rows ≡ now → i < length now → x < length now → AreWithin (lists_of rows)
    → row ≡ get_or rows i row → All (λ y. y < length (lists_of rows)) (row.items ++ x ∷ [])
push_within rows now i x row view lt small within is =
    let long : length (lists_of rows) ≡ length now = ap length view in
    All-push (λ y. y < length (lists_of rows)) row.items x
    (All-same (λ y. y < length (lists_of rows)) row.items (get_or rows i row).items (ap (λ v. v.items) is) (row_within rows i row (omega (arith, long, lt)) within))
    (omega (arith, long, small))

-- a row with a number more, set in its place
pub pushed : {A : Type 0} (rows : List (Vec ℕ A)) (now : List (List ℕ)) (i x : ℕ) (row new : Vec ℕ A) → lists_of rows ≡ now → i < length now
    → row ≡ get_or rows i row → new.items ≡ row.items ++ x ∷ [] → lists_of (set rows i new) ≡ set now i (get_or now i [] ++ x ∷ [])
pushed rows now i x row new view lt is items =
    let long : length (lists_of rows) ≡ length now = ap length view in
    map-set (λ v. v.items) rows i new ∙ ap (λ r. set (lists_of rows) i r) (items ∙ ap (λ r. r ++ x ∷ []) (ap (λ v. v.items) is ∙ row_is rows i row (omega (arith, long, lt))))
    ∙ ap (λ t. set t i (get_or t i [] ++ x ∷ [])) view

-- Names as texts and as vectors.
use Rattle.std.proofs.Common.{◌≡◌, ℕ, ◌+◌, ◌||◌, Bool, true, false, not, List, [], ◌∷◌, ◌++◌, map, Vec, Some, None, refl, sym, ap, ◌∙◌, ap₂, cond, nat_lt, if◌then◌else◌}
use Rattle.std.specs.List.{position, position_or_len, list_any, AllByRecursion, IsDistinct}
use Rattle.std.proofs.lemmas.List.{map-append, length-map}
use Rattle.indexmap.specs.IndexSet.{insert_key}
use Rattle.hddl_meaning.specs.Names.{is_same_text, with_name}
use Rattle.hddl_names.specs.Texts.{texts_of}

-- a place in the mapped list is that in the list
pub position_or_len-map : {X Y : Type 0} (p : Y → Bool) (f : X → Y) (xs : List X) → position_or_len p (map f xs) ≡ position_or_len (λ x. p (f x)) xs
position_or_len-map p f [] = refl
position_or_len-map p f (x ∷ xs) = ap (λ n. cond (not (p (f x))) (1 + n) 0) (position_or_len-map p f xs)

-- the same where there may be no place
pub position-map : {X Y : Type 0} (p : Y → Bool) (f : X → Y) (xs : List X) → position p (map f xs) ≡ position (λ x. p (f x)) xs
position-map p f xs = ap₂ (λ k n. cond (nat_lt k n) (Some k) None) (position_or_len-map p f xs) (length-map xs f)

-- whether one passes in the mapped list is whether one does by its image
pub list_any-map : {X Y : Type 0} (p : Y → Bool) (f : X → Y) (xs : List X) → list_any p (map f xs) ≡ list_any (λ x. p (f x)) xs
list_any-map p f [] = refl
list_any-map p f (x ∷ xs) = ap (λ r. p (f x) || r) (list_any-map p f xs)

-- a vector is added where its text is
pub inserted_texts : {A : Type 0} (ks : List (Vec ℕ A)) (k : Vec ℕ A)
    → texts_of (insert_key (λ a b. is_same_text a.items b.items) ks k) ≡ with_name (texts_of ks) k.items
inserted_texts ks k = by_case (list_any (λ b. is_same_text k.items b.items) ks) ∙ ap (λ t. cond t (texts_of ks) (texts_of ks ++ k.items ∷ [])) (sym (list_any-map (is_same_text k.items) (λ v. v.items) ks))
  where
    by_case : (t : Bool) → texts_of (if t then ks else ks ++ k ∷ []) ≡ cond t (texts_of ks) (texts_of ks ++ k.items ∷ [])
    by_case true = refl
    by_case false = map-append (λ v. v.items) ks (k ∷ [])

-- a vector that differs from all differs in text from all
none-map : {A : Type 0} (k : Vec ℕ A) (ks : List (Vec ℕ A)) → AllByRecursion (λ y. is_same_text k.items y.items ≡ false) ks → AllByRecursion (λ t. is_same_text k.items t ≡ false) (texts_of ks)
none-map k [] none = none
none-map k (x ∷ ks) none = (none.0, none-map k ks none.1)

-- different vectors have different texts
pub distinct_texts : {A : Type 0} (ks : List (Vec ℕ A)) → IsDistinct (λ a b. is_same_text a.items b.items) ks → IsDistinct is_same_text (texts_of ks)
unfolding IsDistinct
distinct_texts [] different = different
distinct_texts (k ∷ ks) different = (none-map k ks different.0, distinct_texts ks different.1)

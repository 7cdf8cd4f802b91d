-- Rearrangements, and lists without repeats.
use Rattle.std.proofs.Common.{◌≡◌, List, [], ◌∷◌, ◌++◌, map, ◌⊎◌, inl, inr, sym, refl, ap, ap₂, ◌∙◌, subst}
use Rattle.std.proofs.lemmas.List.{map-append}
use Rattle.htn_model.specs.PlanFile.{IsRearrangementOf, IsIn, IsWithoutRepeats}
use Rattle.htn_model.proofs.Ascending.{in_left, in_right, in_split, in_mapped}

-- ## Members

-- a member of two lists joined is one with another member between them
pub in_wider : {X : Type 0} (x y : X) (left right : List X) → IsIn x (left ++ right) → IsIn x (left ++ y ∷ right)
in_wider x y left right i = elim (in_split x left right i) [
  | inl l ↦ in_left x left (y ∷ right) l
  | inr r ↦ in_right x left (y ∷ right) (inr r)
]

-- a member of two lists with another member between them is that one, or one of the lists joined
pub in_narrower : {X : Type 0} (x y : X) (left right : List X) → IsIn x (left ++ y ∷ right) → (x ≡ y) ⊎ IsIn x (left ++ right)
in_narrower x y left right i = elim (in_split x left (y ∷ right) i) [
  | inl l ↦ inr (in_left x left right l)
  | inr r ↦ elim r [ inl same ↦ inl same | inr later ↦ inr (in_right x left right later) ]
]

-- a rearrangement has each member
pub in_rearranged : {X : Type 0} (x : X) (xs ys : List X) → IsRearrangementOf xs ys → IsIn x xs → IsIn x ys
in_rearranged x [] ys r i = absurd i
in_rearranged x (y ∷ xs) ys (left, right, e, r) (inl same) = subst (IsIn x) (sym e) (in_right x left (y ∷ right) (inl same))
in_rearranged x (y ∷ xs) ys (left, right, e, r) (inr i) =
    subst (IsIn x) (sym e) (in_wider x y left right (in_rearranged x xs (left ++ right) r i))

-- and no other
pub in_arranged : {X : Type 0} (x : X) (xs ys : List X) → IsRearrangementOf xs ys → IsIn x ys → IsIn x xs
in_arranged x [] ys r i = absurd (subst (IsIn x) r i)
in_arranged x (y ∷ xs) ys (left, right, e, r) i = by (in_narrower x y left right (subst (IsIn x) e i)) (in_arranged x xs (left ++ right) r)
  where
    by : (x ≡ y) ⊎ IsIn x (left ++ right) → (IsIn x (left ++ right) → IsIn x xs) → IsIn x (y ∷ xs)
    by (inl same) more = inl same
    by (inr i) more = inr (more i)

-- ## A member's place

-- a list is cut at a value
pub record Splits {X : Type 0} (x : X) (xs : List X) : Type 0 where
  pub left : List X
  pub right : List X
  pub is : xs ≡ left ++ x ∷ right

-- a member has a place
pub split_in : {X : Type 0} (x : X) (xs : List X) → IsIn x xs → Splits x xs
split_in x [] i = absurd i
split_in x (y ∷ xs) (inl same) = record { left = []; right = xs; is = ap (λ z. z ∷ xs) (sym same) }
split_in x (y ∷ xs) (inr i) = let s = split_in x xs i in record { left = y ∷ s.left; right = s.right; is = ap (λ zs. y ∷ zs) s.is }

-- ## Mapped

-- what a function makes of a rearrangement is a rearrangement of what it makes
pub map_rearranged : {X Y : Type 0} (f : X → Y) (xs ys : List X) → IsRearrangementOf xs ys → IsRearrangementOf (map f xs) (map f ys)
map_rearranged f [] ys r = ap (map f) r
map_rearranged f (x ∷ xs) ys (left, right, e, r) = (
  map f left,
  map f right,
  ap (map f) e ∙ map-append f left (x ∷ right),
  subst (IsRearrangementOf (map f xs)) (map-append f left right) (map_rearranged f xs (left ++ right) r),
)

-- a cut of the mapped list is one of the list
record Unmapped {X Y : Type 0} (f : X → Y) (left : List Y) (y : Y) (right : List Y) (xs : List X) : Type 0 where
  before : List X
  x : X
  after : List X
  is : xs ≡ before ++ x ∷ after
  is_left : map f before ≡ left
  is_x : f x ≡ y
  is_right : map f after ≡ right

-- a split of what a function makes of a list is one of the list
unmap_split : {X Y : Type 0} (f : X → Y) (left : List Y) (y : Y) (right : List Y) (xs : List X) → map f xs ≡ left ++ y ∷ right → Unmapped f left y right xs
unmap_split f [] y right [] e = absurd cc
unmap_split f [] y right (x ∷ xs) e = record {
  before = [];
  x = x;
  after = xs;
  is = refl;
  is_left = refl;
  is_x = (let same : f x ≡ y = cc in same);
  is_right = (let same : map f xs ≡ right = cc in same);
}
unmap_split f (z ∷ left) y right [] e = absurd cc
unmap_split f (z ∷ left) y right (x ∷ xs) e =
    let heads : f x ≡ z = cc in
    let tails : map f xs ≡ left ++ y ∷ right = cc in
    let u = unmap_split f left y right xs tails in
    record {
      before = x ∷ u.before;
      x = u.x;
      after = u.after;
      is = ap (λ zs. x ∷ zs) u.is;
      is_left = ap₂ ◌∷◌ heads u.is_left;
      is_x = u.is_x;
      is_right = u.is_right;
    }

-- a rearrangement of what a function makes of a list is what it makes of a rearrangement
pub unmapped : {X Y : Type 0} (f : X → Y) (ys : List Y) (xs : List X) → IsRearrangementOf ys (map f xs)
    → (zs : List X) × (ys ≡ map f zs) × IsRearrangementOf zs xs
unmapped f [] [] r = ([], refl, refl)
unmapped f [] (x ∷ xs) r = absurd cc
unmapped f (y ∷ ys) xs (left, right, e, r) =
    let u = unmap_split f left y right xs e in
    let below = unmapped f ys (u.before ++ u.after)
    (subst (IsRearrangementOf ys) (sym (map-append f u.before u.after ∙ ap₂ ◌++◌ u.is_left u.is_right)) r) in
    (u.x ∷ below.0, ap₂ ◌∷◌ (sym u.is_x) below.1, (u.before, u.after, u.is, below.2))

-- ## Without repeats

-- a new member anywhere makes no repeat
pub distinct_with : {X : Type 0} (x : X) (left right : List X) → IsWithoutRepeats (left ++ right) → (IsIn x (left ++ right) → ⊥) → IsWithoutRepeats (left ++ x ∷ right)
distinct_with x [] right d new = (new, d)
distinct_with x (y ∷ left) right d new = (
  (λ i. elim (in_narrower y x left right i) [ inl same ↦ new (inl (sym same)) | inr there ↦ d.0 there ]),
  distinct_with x left right d.1 (λ i. new (inr i)),
)

-- without one of its members a list has no repeats, and that member no more
pub distinct_without : {X : Type 0} (x : X) (left right : List X) → IsWithoutRepeats (left ++ x ∷ right) → IsWithoutRepeats (left ++ right) × (IsIn x (left ++ right) → ⊥)
distinct_without x [] right d = (d.1, d.0)
distinct_without x (y ∷ left) right d =
    let below = distinct_without x left right d.1 in (
      ((λ i. d.0 (in_wider y x left right i)), below.0),
      λ i. elim i [ inl same ↦ d.0 (in_right y left (x ∷ right) (inl (sym same))) | inr there ↦ below.1 there ],
    )

-- a rearrangement of a list without repeats has none
pub distinct_rearranged : {X : Type 0} (xs ys : List X) → IsRearrangementOf xs ys → IsWithoutRepeats xs → IsWithoutRepeats ys
distinct_rearranged [] ys r d = subst IsWithoutRepeats (sym r) tt
distinct_rearranged (x ∷ xs) ys (left, right, e, r) d =
    subst IsWithoutRepeats (sym e)
    (distinct_with x left right (distinct_rearranged xs (left ++ right) r d.1) (λ i. d.0 (in_arranged x xs (left ++ right) r i)))

-- and the other way round
pub distinct_arranged : {X : Type 0} (xs ys : List X) → IsRearrangementOf xs ys → IsWithoutRepeats ys → IsWithoutRepeats xs
distinct_arranged [] ys r d = tt
distinct_arranged (x ∷ xs) ys (left, right, e, r) d =
    let parts = distinct_without x left right (subst IsWithoutRepeats e d) in
    ((λ i. parts.1 (in_rearranged x xs (left ++ right) r i)), distinct_arranged xs (left ++ right) r parts.0)

-- the first of two lists joined without repeats has none
pub distinct_left : {X : Type 0} (xs ys : List X) → IsWithoutRepeats (xs ++ ys) → IsWithoutRepeats xs
distinct_left [] ys d = tt
distinct_left (x ∷ xs) ys d = ((λ i. d.0 (in_left x xs ys i)), distinct_left xs ys d.1)

-- nor has the second
pub distinct_right : {X : Type 0} (xs ys : List X) → IsWithoutRepeats (xs ++ ys) → IsWithoutRepeats ys
distinct_right [] ys d = d
distinct_right (x ∷ xs) ys d = distinct_right xs ys d.1

-- and they have no member in common
pub distinct_apart : {X : Type 0} (x : X) (xs ys : List X) → IsWithoutRepeats (xs ++ ys) → IsIn x xs → IsIn x ys → ⊥
distinct_apart x [] ys d i j = i
distinct_apart x (z ∷ xs) ys d (inl same) j = d.0 (subst (λ y. IsIn y (xs ++ ys)) same (in_right x xs ys j))
distinct_apart x (z ∷ xs) ys d (inr i) j = distinct_apart x xs ys d.1 i j

-- lists without repeats and without a common member are joined without repeats
pub distinct_join : {X : Type 0} (xs ys : List X) → IsWithoutRepeats xs → IsWithoutRepeats ys → ((x : X) → IsIn x xs → IsIn x ys → ⊥) → IsWithoutRepeats (xs ++ ys)
distinct_join [] ys d e apart = e
distinct_join (x ∷ xs) ys d e apart = (
  (λ i. elim (in_split x xs ys i) [ inl l ↦ d.0 l | inr r ↦ apart x (inl refl) r ]),
  distinct_join xs ys d.1 e (λ y i j. apart y (inr i) j),
)

-- what a function makes of members is alike only where they are
pub distinct_mapped : {X Y : Type 0} (f : X → Y) (x y : X) (xs : List X) → IsWithoutRepeats (map f xs) → IsIn x xs → IsIn y xs → f x ≡ f y → x ≡ y
distinct_mapped f x y [] d i j e = absurd i
distinct_mapped f x y (z ∷ xs) d (inl a) (inl b) e = a ∙ sym b
distinct_mapped {Y = Y} f x y (z ∷ xs) d (inl a) (inr j) e =
    absurd (d.0 (subst (λ w. IsIn w (map f xs)) (sym e ∙ ap f a) (in_mapped f y xs j)))
distinct_mapped {Y = Y} f x y (z ∷ xs) d (inr i) (inl b) e =
    absurd (d.0 (subst (λ w. IsIn w (map f xs)) (e ∙ ap f b) (in_mapped f x xs i)))
distinct_mapped f x y (z ∷ xs) d (inr i) (inr j) e = distinct_mapped f x y xs d.1 i j e

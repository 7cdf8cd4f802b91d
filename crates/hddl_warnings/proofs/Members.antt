-- What is in a list, and lists read item by item.
use Rattle.std.proofs.Common.{◌≡◌, ℕ, ◌+◌, ◌<◌, List, [], ◌∷◌, ◌++◌, map, ◌⊎◌, inl, inr, sym, ap, ◌∙◌, subst, take, get_or, length, append-nil, append_assoc, refl}
use Rattle.std.specs.List.{flat_map}
use Rattle.std.proofs.lemmas.List.{take_more, map-append}
use Rattle.std.proofs.lemmas.Grind.{flat_map-append}
use Rattle.std.proofs.lemmas.List.Elements.{Contains-append_left, Contains-push, Contains-push_cases}
use Rattle.hddl_meaning.specs.Mentions.{IsIn}
use Rattle.hddl_meaning.proofs.Listed.{at_head, at_tail, in_cases, in_nothing}

-- a list read one item further
pub grown : {X : Type 0} (xs : List X) (k : ℕ) (x : X) → k < length xs → x ≡ get_or xs k x → take (k + 1) xs ≡ take k xs ++ x ∷ []
grown xs k x lt is = take_more xs k x lt ∙ ap (λ y. take k xs ++ y ∷ []) (sym is)

-- the images of a list read one item further
pub map_grown : {X Y : Type 0} (f : X → Y) (xs : List X) (k : ℕ) (x : X) → k < length xs → x ≡ get_or xs k x
    → map f (take (k + 1) xs) ≡ map f (take k xs) ++ f x ∷ []
map_grown f xs k x lt is = ap (map f) (grown xs k x lt is) ∙ map-append f (take k xs) (x ∷ [])

-- the parts of a list read one item further
pub flat_grown : {X Y : Type 0} (f : X → List Y) (xs : List X) (k : ℕ) (x : X) → k < length xs → x ≡ get_or xs k x
    → flat_map f (take (k + 1) xs) ≡ flat_map f (take k xs) ++ f x
flat_grown f xs k x lt is =
    ap (flat_map f) (grown xs k x lt is) ∙ flat_map-append f (take k xs) (x ∷ []) ∙ ap (λ l. flat_map f (take k xs) ++ l) (append-nil (f x))

-- what is in a list read one item further was read before, or is that item
pub read_cases : {X : Type 0} (xs : List X) (k : ℕ) (x y : X) → k < length xs → x ≡ get_or xs k x → IsIn y (take (k + 1) xs) → IsIn y (take k xs) ⊎ (x ≡ y)
read_cases xs k x y lt is h = Contains-push_cases (take k xs) x y (subst (IsIn y) (grown xs k x lt is) h)

-- what was read before is in a list read one item further
pub read_before : {X : Type 0} (xs : List X) (k : ℕ) (x y : X) → k < length xs → x ≡ get_or xs k x → IsIn y (take k xs) → IsIn y (take (k + 1) xs)
read_before xs k x y lt is h = subst (IsIn y) (sym (grown xs k x lt is)) (Contains-append_left (take k xs) (x ∷ []) y h)

-- and so is that item
pub read_now : {X : Type 0} (xs : List X) (k : ℕ) (x : X) → k < length xs → x ≡ get_or xs k x → IsIn x (take (k + 1) xs)
read_now xs k x lt is = subst (IsIn x) (sym (grown xs k x lt is)) (Contains-push (take k xs) x)

-- what is in a mapped list is the image of a value in the list
pub mapped : {X Y : Type 0} (f : X → Y) (xs : List X) (y : Y) → IsIn y (map f xs) → (x : X) × IsIn x xs × (f x ≡ y)
mapped f [] y h = absurd (in_nothing y h)
mapped f (x ∷ xs) y h = elim (in_cases (f x) y (map f xs) h) [
  | inl e ↦ (x, at_head x xs, e)
  | inr later ↦ let (z, at, e) = mapped f xs y later in (z, at_tail x z xs at, e)
]

-- a list with one more item, cut before an item: that is the last one, or the rest is cut there
pub snoc_cases : {X : Type 0} (ms : List X) (m : X) (before : List X) (second : X) (after : List X) → ms ++ m ∷ [] ≡ before ++ second ∷ after
    → ((before ≡ ms) × (second ≡ m)) ⊎ ((rest : List X) × (ms ≡ before ++ second ∷ rest))
snoc_cases [] m [] second after e = inl (refl, cc)
snoc_cases [] m (b ∷ []) second after e = cc
snoc_cases [] m (b ∷ (c ∷ bs)) second after e = cc
snoc_cases (x ∷ ms) m [] second after e = inr (ms, let same : x ≡ second = cc in ap (λ y. y ∷ ms) same)
snoc_cases (x ∷ ms) m (b ∷ bs) second after e =
    let same : x ≡ b = cc in
    elim (snoc_cases ms m bs second after (let rest : ms ++ m ∷ [] ≡ bs ++ second ∷ after = cc in rest)) [
      | inl (is, last) ↦ inl ((λ i. sym same i ∷ is i), last)
      | inr (rest, is) ↦ inr (rest, λ i. same i ∷ is i)
    ]

-- an empty list isn't cut at an item
pub nothing_cut : {X : Type 0} (before : List X) (x : X) (after : List X) → [] ≡ before ++ x ∷ after → ⊥
nothing_cut [] x after e = cc
nothing_cut (y ∷ before) x after e = cc

-- what is cut in a list is cut in a list with one item more
pub cut_longer : {X : Type 0} (ms : List X) (m : X) (before : List X) (second : X) (after : List X) → ms ≡ before ++ second ∷ after
    → ms ++ m ∷ [] ≡ before ++ second ∷ (after ++ m ∷ [])
cut_longer ms m before second after e = ap (λ l. l ++ m ∷ []) e ∙ append_assoc before (second ∷ after) (m ∷ [])

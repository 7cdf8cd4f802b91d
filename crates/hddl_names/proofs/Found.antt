-- What a search of a domain's types found.
use Rattle.std.proofs.Common.{◌≡◌, ℕ, ◌<◌, ◌≤◌, ◌↔◌, true, false, List, refl, sym, ap, subst, ◌∙◌, arith, nat_eq, length, get_or}
use Rattle.std.specs.List.{Contains, list_any}
use Rattle.std.proofs.lemmas.Bool.{eqb-true, true≢false}
use Rattle.std.proofs.lemmas.List.{get_or_default}
use Rattle.std.proofs.lemmas.Cmp.{nat_eq_equiv}
use Rattle.std.proofs.lemmas.Map.Views.{list_any-from_Contains, Contains-from_any}
use Rattle.hddl_words.specs.declared.domain.DomainText.{DomainText}
use Rattle.hddl_meaning.specs.Mentions.{Text}
use Rattle.hddl_meaning.specs.Names.{type_names}
use Rattle.hddl_meaning.specs.Types.{IsBelow}
use Rattle.hddl_meaning.specs.Items.{ShareSubtype}
use Rattle.hddl_names.specs.Rows.{turned}
use Rattle.hddl_names.specs.Reach.{IsReached, Reaches}
use Rattle.hddl_names.specs.TypeNumbers.{AreTypesOf, type_at, numbered_pairs}
use Rattle.std.proofs.Common.{inl, inr}
use Rattle.std.proofs.lemmas.List.Elements.{All-contains}
use Rattle.htn_order.specs.Closure.{Precedes, Direct, Through, AreBelow}
use Rattle.hddl_names.proofs.Parents.{numbers-below, below-reaches, reaches-below, turn-reaches, unturn-reaches, share-number, number-share, number-type}

-- the numbers found from a type on tell which types it is below
pub found-below : (d : DomainText) (names : List Text) (up down : List (List ℕ)) (t u : ℕ) (found : List ℕ) → AreTypesOf d names up down
    → t < length (type_names d) → u < length (type_names d) → IsReached up t found
    → (list_any (nat_eq u) found ≡ true) ↔ IsBelow d (type_at d t) (type_at d u)
found-below d names up down t u found types small small_u reached = (
  λ h. reaches-below d t u ((reached (numbered_pairs d) types.parents u).0 (Contains-from_any eqb-true u found h)),
  λ h. list_any-from_Contains nat_eq_equiv u found ((reached (numbered_pairs d) types.parents u).1 (below-reaches d t u small small_u h)),
)

-- what leads on along pairs below n is below n
pub leading-small : (n : ℕ) (ps : List (ℕ × ℕ)) (a b : ℕ) → AreBelow n ps → Precedes ps a b → a < n
leading-small n ps _ _ below (Direct a b pair) = (All-contains (λ (p : ℕ × ℕ). (p.0 < n) × (p.1 < n)) ps (a, b) below pair).0
leading-small n ps _ _ below (Through a b c pair rest) = (All-contains (λ (p : ℕ × ℕ). (p.0 < n) × (p.1 < n)) ps (a, b) below pair).0

-- what was found from two types tells whether they share a subtype
pub found-share : (d : DomainText) (names : List Text) (up down : List (List ℕ)) (t u : ℕ) (these those : List ℕ) → AreTypesOf d names up down
    → t < length (type_names d) → u < length (type_names d) → IsReached down t these → IsReached down u those
    → ((x : ℕ) × Contains these x × Contains those x) ↔ ShareSubtype d (type_at d t) (type_at d u)
found-share d names up down t u these those types small small_u one two = (to, from)
  where
    pairs : List (ℕ × ℕ)
    pairs = numbered_pairs d

    reaching-small : (x : ℕ) → Reaches pairs x t → x < length (type_names d)
    reaching-small x (inl is) = subst (λ k. k < length (type_names d)) (sym is) small
    reaching-small x (inr r) = leading-small (length (type_names d)) pairs x t (numbers-below d) r

    to : (x : ℕ) × Contains these x × Contains those x → ShareSubtype d (type_at d t) (type_at d u)
    to (x, here, there) =
        number-share d t u x (reaching-small x (unturn-reaches pairs x t ((one (turned pairs) types.children x).0 here))) (unturn-reaches pairs x t ((one (turned pairs) types.children x).0 here)) (unturn-reaches pairs x u ((two (turned pairs) types.children x).0 there))

    from : ShareSubtype d (type_at d t) (type_at d u) → (x : ℕ) × Contains these x × Contains those x
    from h =
        let s = share-number d t u small small_u h in
        (s.0, (one (turned pairs) types.children s.0).1 (turn-reaches pairs s.0 t s.2), (two (turned pairs) types.children s.0).1 (turn-reaches pairs s.0 u s.3))

-- a type below another shares a subtype with it
pub below-share : (d : DomainText) (t u : ℕ) → t < length (type_names d) → IsBelow d (type_at d t) (type_at d u) → ShareSubtype d (type_at d t) (type_at d u)
below-share d t u small below = (type_at d t, number-type d t small, inl refl, below)

-- a type above another shares a subtype with it
pub above-share : (d : DomainText) (t u : ℕ) → u < length (type_names d) → IsBelow d (type_at d u) (type_at d t) → ShareSubtype d (type_at d t) (type_at d u)
above-share d t u small below = (type_at d u, number-type d u small, below, inl refl)

-- a number is in both lists, as far as the first list was gone over
pub none-shared : (these those : List ℕ) (i : ℕ) → length these ≤ i → ((j : ℕ) → j < i → j < length these → list_any (nat_eq (get_or these j 0)) those ≡ false)
    → ((x : ℕ) × Contains these x × Contains those x) → ⊥
none-shared these those i past none (x, (k, lt, is), there) =
    true≢false (sym (list_any-from_Contains nat_eq_equiv x those there) ∙ ap (λ y. list_any (nat_eq y) those) (sym (get_or_default these k 0 x lt ∙ is)) ∙ none k (omega (arith, lt, past)) lt)

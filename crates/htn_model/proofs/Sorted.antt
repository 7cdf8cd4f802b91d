-- A list put into an order: an insertion before the first member that the new one is before.
use Rattle.std.proofs.Common.{◌≡◌, Bool, true, false, cond, List, [], ◌∷◌, ◌++◌, inl, inr, refl, ap}
use Rattle.std.proofs.lemmas.Bool.{cases_Bool, both_ways}
use Rattle.std.specs.List.{AllByRecursion}
use Rattle.htn_model.specs.Tree.{Place, IsRearrangement, Respects}

module _ (less : Place → Place → Bool) where
  -- a place put before the first that it is before
  abbrev pub insert : Place → List Place → List Place
  insert p [] = p ∷ []
  insert p (q ∷ qs) = cond (less p q) (p ∷ q ∷ qs) (q ∷ insert p qs)

  -- the places put in one after another
  abbrev pub sorted : List Place → List Place
  sorted [] = []
  sorted (p ∷ ps) = insert p (sorted ps)

  -- insertion rearranges
  insert_rearranged : (p : Place) (qs ps : List Place) → IsRearrangement qs ps → IsRearrangement (insert p qs) (p ∷ ps)
  insert_rearranged p [] ps r = ([], ps, refl, r)
  insert_rearranged p (q ∷ qs) ps (left, right, e, r) = by (less p q) (insert_rearranged p qs (left ++ right) r)
    where
      by : (b : Bool) → IsRearrangement (insert p qs) (p ∷ (left ++ right)) → IsRearrangement (cond b (p ∷ q ∷ qs) (q ∷ insert p qs)) (p ∷ ps)
      by true more = ([], ps, refl, (left, right, e, r))
      by false more = (p ∷ left, right, ap (λ l. p ∷ l) e, more)

  -- so does sorting
  pub sorted_rearranged : (ps : List Place) → IsRearrangement (sorted ps) ps
  sorted_rearranged [] = refl
  sorted_rearranged (p ∷ ps) = insert_rearranged p (sorted ps) ps (sorted_rearranged ps)

  -- what holds of all holds after insertion
  insert_all : (P : Place → Type 0) (p : Place) (qs : List Place) → P p → AllByRecursion P qs → AllByRecursion P (insert p qs)
  insert_all P p [] h all = (h, tt)
  insert_all P p (q ∷ qs) h all = by (less p q) (insert_all P p qs h all.1)
    where
      by : (b : Bool) → AllByRecursion P (insert p qs) → AllByRecursion P (cond b (p ∷ q ∷ qs) (q ∷ insert p qs))
      by true more = (h, all)
      by false more = (all.0, more)

  -- and after sorting
  pub sorted_all : (P : Place → Type 0) (ps : List Place) → AllByRecursion P ps → AllByRecursion P (sorted ps)
  sorted_all P [] all = tt
  sorted_all P (p ∷ ps) all = insert_all P p (sorted ps) all.0 (sorted_all P ps all.1)

  module _ (P : Place → Type 0) (irreflexive : (p : Place) → less p p ≡ false)
      (transitive : (p q r : Place) → P p → P q → P r → less p q ≡ true → less q r ≡ true → less p r ≡ true) where
    -- what is before another doesn't come after it
    not_later : (p q : Place) → P p → P q → less p q ≡ true → less q p ≡ false
    not_later p q hp hq e = elim (cases_Bool (less q p)) [
      | inl t ↦ absurd (both_ways (less p p) (irreflexive p) (transitive p q p hp hq hp e t))
      | inr f ↦ f
    ]

    -- nor does it come after those that come after that
    all_not_later : (p q : Place) (qs : List Place) → P p → P q → AllByRecursion P qs → less p q ≡ true → AllByRecursion (λ r. less r q ≡ false) qs
        → AllByRecursion (λ r. less r p ≡ false) qs
    all_not_later p q [] hp hq all e held = tt
    all_not_later p q (r ∷ qs) hp hq all e held = (
      elim (cases_Bool (less r p)) [
        | inl t ↦ absurd (both_ways (less r q) held.0 (transitive r p q all.0 hp hq t e))
        | inr f ↦ f
      ],
      all_not_later p q qs hp hq all.1 e held.1,
    )

    -- a place put in keeps the order
    insert_respects : (p : Place) (qs : List Place) → P p → AllByRecursion P qs → Respects less qs → Respects less (insert p qs)
    insert_respects p [] hp all r = (tt, tt)
    insert_respects p (q ∷ qs) hp all r = by (less p q) refl (insert_respects p qs hp all.1 r.1)
      where
        by : (b : Bool) → less p q ≡ b → Respects less (insert p qs) → Respects less (cond b (p ∷ q ∷ qs) (q ∷ insert p qs))
        by true e more = ((not_later p q hp all.0 e, all_not_later p q qs hp all.0 all.1 e r.0), r)
        by false e more = (insert_all (λ r. less r q ≡ false) p qs e r.0, more)

    -- the sorted places keep the order
    pub sorted_respects : (ps : List Place) → AllByRecursion P ps → Respects less (sorted ps)
    sorted_respects [] all = tt
    sorted_respects (p ∷ ps) all = insert_respects p (sorted ps) all.0 (sorted_all P ps all.1) (sorted_respects ps all.1)

-- What is kept of the faults that were added from the start.
use Rattle.std.proofs.Common.{◌≡◌, ◌⊎◌, ◌∙◌, true, false, List, [], ◌∷◌, Option, Some, None, MatchOption, IfSome, ap, inl, inr, refl, slice_get, subst, sym}
use Rattle.hddl_meaning.specs.Mentions.{IsIn}
use Rattle.hddl_meaning.specs.declared.fault.CheckFault.{CheckFault}
use Rattle.hddl_meaning.proofs.Listed.{at_head, in_nothing}
use Rattle.hddl_scope.specs.Findings.{Adds, Finds, Kept}
use Rattle.hddl_scope.specs.Ranks.{comes_before}
use Rattle.hddl_scope.proofs.Adding.{first_among, first_none, kept_all}
use Rattle.hddl_scope.proofs.Least.{first_is_least}
use Rattle.hddl_scope.proofs.Finding.{Finds-none, Finds-some}

-- an option that tells which of two holds
pub one_holds : {X A B : Type 0} (C : X → Type 0) (o : Option X) → MatchOption o A (λ x. B × C x) → B ⊎ A
one_holds C None h = inr h
one_holds C (Some x) h = inl h.0

-- a list in which nothing is is empty
pub nothing_in : (fs : List CheckFault) → ((f : CheckFault) → IsIn f fs → ⊥) → fs ≡ []
nothing_in [] gone = refl
nothing_in (f ∷ fs) gone = absurd (gone f (at_head f fs))

-- the first of a list is in it
pub first_in : {X : Type 0} (xs : List X) (x : X) → slice_get xs 0 ≡ Some x → IsIn x xs
first_in [] x e = cc
first_in (y ∷ ys) x e = let same : y ≡ x = cc in subst (λ z. IsIn z (y ∷ ys)) same (at_head y ys)

-- what holds of whatever a value may be holds of it
pub some_of : {X : Type 0} {Q : X → Type 0} (o : Option X) → ((x : X) → o ≡ Some x → Q x) → IfSome o Q
some_of None h = tt
some_of (Some x) h = h x refl

module _ (O P : CheckFault → Type 0) (after : Kept) where
  -- where the first is kept, it is a fault, and where none is kept there is none
  pub first_finds : Adds O P (record { keeps_all = false; faults = [] }) after → Finds P (slice_get after.faults 0)
  first_finds h = by after.faults refl
    where
      by : (fs : List CheckFault) → after.faults ≡ fs → Finds P (slice_get fs 0)
      by [] e = Finds-none (h.none (first_none [] h.added (sym (ap (λ (k : Kept). k.faults) h.is) ∙ e)).1)
      by (f ∷ fs) e =
          Finds-some f
          (elim (first_among [] h.added f (subst (IsIn f) (sym e ∙ ap (λ (k : Kept). k.faults) h.is) (at_head f fs))) [
            | inl gone ↦ absurd (in_nothing f gone)
            | inr at ↦ h.sound f at
          ])

  -- none comes before it, but for those that are passed over
  pub first_comes_first : (f : CheckFault) → slice_get after.faults 0 ≡ Some f → Adds O P (record { keeps_all = false; faults = [] }) after
      → (g : CheckFault) → P g → comes_before g f ≡ true → O g
  first_comes_first f e h g q before = elim (h.complete g q) [
    | inl at ↦ absurd (first_is_least h.added f (ap (λ (k : Kept). slice_get k.faults 0) (sym h.is) ∙ e) g at before)
    | inr o ↦ o
  ]

  module _ (h : Adds O P (record { keeps_all = true; faults = [] }) after) where
    -- all that were added are kept
    kept_are : after.faults ≡ h.added
    kept_are = ap (λ (k : Kept). k.faults) (h.is ∙ kept_all [] h.added)

    -- each that is kept is a fault
    pub all_sound : (f : CheckFault) → IsIn f after.faults → P f
    all_sound f at = h.sound f (subst (IsIn f) kept_are at)

    -- each fault is kept or passed over
    pub all_complete : (f : CheckFault) → P f → IsIn f after.faults ⊎ O f
    all_complete f q = elim (h.complete f q) [ inl at ↦ inl (subst (IsIn f) (sym kept_are) at) | inr o ↦ inr o ]

    -- where none is kept, there is none
    pub all_none : ((f : CheckFault) → IsIn f after.faults → ⊥) → (f : CheckFault) → P f → ⊥
    all_none gone = h.none (nothing_in h.added (λ f at. gone f (subst (IsIn f) (sym kept_are) at)))

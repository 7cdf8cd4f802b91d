-- Warnings in order, each once.
use Rattle.std.proofs.Common.{◌≡◌, ◌↔◌, ℕ, ◌<◌, true, cond, List, [], inl, inr, refl, arith, sym, ap, ◌∙◌, subst}
use Rattle.std.specs.Prelude.{nat_eq}
use Rattle.std.specs.List.{dedup}
use Rattle.std.specs.List.Sorted.{IsPermutation, IsSorted, IsStrictlySortedBy}
use Rattle.std.specs.declared.cmp.Ordering.{Ordering}
use Rattle.std.specs.declared.cmp.Ordering.TheVariants.{Less, Equal, Greater}
use Rattle.std.specs.Ordering.{MatchOrdering, eq_by_cmp, nat_cmp, ordering_then}
use Rattle.std.specs.Cmp.{Equal-is}
use Rattle.std.proofs.lemmas.Cmp.{ranked}
use Rattle.std.proofs.lemmas.List.Kept.{Contains-dedup, Contains-from_dedup, IsStrictlySortedBy-dedup}
use Rattle.std.proofs.lemmas.List.Sorted.{Contains-permutation, IsPermutation-sym}
use Rattle.hddl_meaning.specs.Mentions.{IsIn}
use Rattle.hddl_meaning.specs.declared.fault.Source.{Source}
use Rattle.hddl_meaning.specs.declared.fault.Source.TheVariants as source
use Rattle.hddl_meaning.proofs.Listed.{in_nothing}
use Rattle.hddl_warnings.specs.Order.{kind_number, place_cmp, source_number, warning_cmp}
use Rattle.hddl_warnings.specs.Laws.{warning_cmp-total, warning_eq-laws}
use Rattle.hddl_warnings.specs.Tells.{Tells}
use Rattle.hddl_warnings.specs.declared.warning.WarningKind.{WarningKind}
use Rattle.hddl_warnings.specs.declared.warning.WarningKind.TheVariants as kind
use Rattle.hddl_warnings.specs.declared.warning.Warning.{Warning}

-- ## Warnings that are neither before nor after are the same

-- numbers that compare equal are equal
same_number : (a b : ℕ) → nat_cmp a b ≡ Equal → a ≡ b
same_number a b e = subst (λ o. MatchOrdering o (a < b) (a ≡ b) (b < a)) e (ranked a b (nat_cmp a b) refl)

-- where two comparisons are equal one after the other, both are
both_equal : (o p : Ordering) → ordering_then o p ≡ Equal → (o ≡ Equal) × (p ≡ Equal)
both_equal Less p e = cc
both_equal Equal p e = (refl, e)
both_equal Greater p e = cc

-- texts of one number are the same
same_source : (s t : Source) → source_number s ≡ source_number t → s ≡ t
same_source source.Domain source.Domain e = refl
same_source source.Domain source.Problem e = let apart : ◌≡◌ {A = ℕ} 0 1 = e in absurd (omega arith)
same_source source.Problem source.Domain e = let apart : ◌≡◌ {A = ℕ} 1 0 = e in absurd (omega arith)
same_source source.Problem source.Problem e = refl

-- the kind of a number
kind_of : ℕ → WarningKind
kind_of n =
    cond (nat_eq n 0) kind.OtherDomain (cond (nat_eq n 1) kind.UnusedParameter (cond (nat_eq n 2) kind.AddedAndDeleted (cond (nat_eq n 3) kind.NoMethod
    (cond (nat_eq n 4) kind.UnusedType (cond (nat_eq n 5) kind.UnusedPredicate (cond (nat_eq n 6) kind.UntestedPredicate
    (cond (nat_eq n 7) kind.UnusedTask (cond (nat_eq n 8) kind.UnusedAction kind.DeclaredAgain))))))))

-- it is the kind that has the number
kind_back : (k : WarningKind) → kind_of (kind_number k) ≡ k
unfolding kind_of
kind_back kind.OtherDomain = refl
kind_back kind.UnusedParameter = refl
kind_back kind.AddedAndDeleted = refl
kind_back kind.NoMethod = refl
kind_back kind.UnusedType = refl
kind_back kind.UnusedPredicate = refl
kind_back kind.UntestedPredicate = refl
kind_back kind.UnusedTask = refl
kind_back kind.UnusedAction = refl
kind_back kind.DeclaredAgain = refl

-- kinds of one number are the same
same_kind : (a b : WarningKind) → kind_number a ≡ kind_number b → a ≡ b
same_kind a b e = sym (kind_back a) ∙ ap kind_of e ∙ kind_back b

-- a warning that compares equal to another is the same
pub warning_eq-same : (x y : Warning) → eq_by_cmp warning_cmp x y ≡ true → x ≡ y
warning_eq-same x y e =
    let all = both_equal (nat_cmp (source_number x.at.source) (source_number y.at.source)) (place_cmp x y) ((Equal-is (warning_cmp x y)).0 e) in
    let rest = both_equal (nat_cmp x.at.place y.at.place) (nat_cmp (kind_number x.kind) (kind_number y.kind)) all.1 in
    let s = same_source x.at.source y.at.source (same_number (source_number x.at.source) (source_number y.at.source) all.0) in
    let p = same_number x.at.place y.at.place rest.0 in
    let k = same_kind x.kind y.kind (same_number (kind_number x.kind) (kind_number y.kind) rest.1) in
    λ i. record { kind = k i; at = record { source = s i; place = p i } }

-- ## Sorted, without repeats

-- what was told is what is in the list
pub settled : (found sorted last : List Warning) (P : Warning → Type 0) → Tells [] found P → IsPermutation found sorted → last ≡ dedup (eq_by_cmp warning_cmp) sorted
    → (w : Warning) → IsIn w last ↔ P w
settled found sorted last P t moved is w = (
  λ h. elim ((t.all w).0
      (Contains-permutation sorted found w (IsPermutation-sym found sorted moved)
      (Contains-from_dedup (eq_by_cmp warning_cmp) sorted w (subst (λ ws. IsIn w ws) is h)))) [
        | inl none ↦ absurd (in_nothing w none)
        | inr p ↦ p
      ],
  λ p. subst (λ ws. IsIn w ws) (sym is)
      (Contains-dedup warning_eq-laws warning_eq-same sorted w (Contains-permutation found sorted w moved ((t.all w).1 (inr p)))),
)

-- the test for repeats is that of the order
matches : (x y : Warning) → eq_by_cmp warning_cmp x y ≡ eq_by_cmp warning_cmp x y
matches x y = refl

-- it ascends strictly
pub ascending : (sorted last : List Warning) → IsSorted warning_cmp sorted → last ≡ dedup (eq_by_cmp warning_cmp) sorted → IsStrictlySortedBy warning_cmp last
ascending sorted last up is =
    subst (λ ws. IsStrictlySortedBy warning_cmp ws) (sym is) (IsStrictlySortedBy-dedup warning_cmp-total matches sorted up)

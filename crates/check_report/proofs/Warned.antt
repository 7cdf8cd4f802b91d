-- Warnings of trees, and the diagnostics that tell them before errors.
use Rattle.std.proofs.Common.{◌≡◌, ◌≢◌, ◌∙◌, inl, inr, arith, Bool, true, false, List, [], ◌∷◌, ◌++◌, None, ap, refl, sym, subst}
use Rattle.std.specs.List.{AllZip, Contains}
use Rattle.std.specs.List.Sorted.{IsStrictlySortedBy}
use Rattle.diagnostics.specs.declared.diagnostic.Diagnostic.{Diagnostic}
use Rattle.hddl_meaning.specs.declared.fault.CheckFault.{CheckFault}
use Rattle.hddl_words.specs.declared.domain.DomainText.{DomainText}
use Rattle.hddl_words.specs.declared.problem.ProblemText.{ProblemText}
use Rattle.hddl_warnings.specs.Warnings.{IsOtherDomain, IsWarning}
use Rattle.hddl_warnings.specs.declared.warning.Warning.{Warning}
use Rattle.pair_messages.specs.declared.texts.PairTexts.{PairTexts}
use Rattle.check_report.specs.Texts.{AreExactly, AreOwnWarnings}
use Rattle.check_report.specs.Saying.{TellsExactly, WarnsBefore}
use Rattle.check_report.proofs.Kept.{contains_cases, contains_first}

-- ## Lists whose elements are related one by one

-- one list after another
pub AllZip-append : {X Y : Type 0} (R : X → Y → Type 0) (xs : List X) (ys : List Y) (us : List X) (vs : List Y) → AllZip R xs ys → AllZip R us vs
    → AllZip R (xs ++ us) (ys ++ vs)
AllZip-append R [] [] us vs one two = two
AllZip-append R [] (b ∷ bs) us vs one two = absurd one
AllZip-append R (a ∷ rest) [] us vs one two = absurd one
AllZip-append R (a ∷ rest) (b ∷ bs) us vs one two = (one.0, AllZip-append R rest bs us vs one.1 two)

-- ## The warning of another domain

-- nothing stands in no list
nothing : (w : Warning) → Contains [] w → ⊥
nothing w h = let less = h.1 in absurd (omega arith)

-- where it doesn't hold
pub no_other : (d : DomainText) (p : ProblemText) → ((w : Warning) → IsOtherDomain d p w → ⊥) → AreExactly (IsOtherDomain d p) []
unfolding IsStrictlySortedBy
no_other d p none = record { all = λ w. (λ among. absurd (nothing w among), λ holds. absurd (none w holds)); order = tt }

-- where it does
pub one_other : (d : DomainText) (p : ProblemText) (w : Warning) → IsOtherDomain d p w → AreExactly (IsOtherDomain d p) (w ∷ [])
unfolding IsStrictlySortedBy
one_other d p w holds = record {
  all = λ v. (
    λ among. elim (contains_cases w [] v among) [ inl is ↦ subst (IsOtherDomain d p) is holds | inr rest ↦ absurd (nothing v rest) ],
    λ other. contains_first w [] v (holds.1 ∙ sym other.1),
  );
  order = (tt, tt);
}

-- ## Before the errors

-- the warnings of a domain, where it has no fault
pub own_before : (texts : PairTexts) (d : DomainText) (faults : List CheckFault) (b : Bool) (warned errors all : List Diagnostic) → (b ≡ true → faults ≢ [])
    → (b ≡ false → faults ≡ []) → (b ≡ true → warned ≡ []) → (b ≡ false → TellsExactly texts (IsWarning d None) warned) → all ≡ warned ++ errors
    → WarnsBefore texts (AreOwnWarnings d faults) errors all
own_before texts d faults true warned errors all some none silent told whole =
    record {
      warnings = [];
      are = record { of_domain = λ empty. absurd (some refl empty); silent = λ any. refl };
      warned = [];
      tell = tt;
      whole = whole ∙ ap (λ xs. xs ++ errors) (silent refl);
    }
own_before texts d faults false warned errors all some none silent told whole =
    let exactly = told refl in
    record {
      warnings = exactly.warnings;
      are = record { of_domain = λ empty. exactly.are; silent = λ any. absurd (any (none refl)) };
      warned = warned;
      tell = exactly.tell;
      whole = whole;
    }

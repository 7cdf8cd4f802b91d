-- The fault that a run names of two texts is the one that a check lists first.
use Rattle.std.proofs.Common.{◌≡◌, ℕ, List, Option, Some, refl, sym, ap, subst}
use Rattle.std.specs.Prelude.{IsSomeAnd, slice_get}
use Rattle.check_report.proofs.Refused.{named_is_listed_first as pair_leads}
use Rattle.check_report.specs.Texts.{AllWarnings, Fault, PairFinds, both, first, second, together}
use Rattle.diagnostics.specs.declared.reached.Reached.{Reached}
use Rattle.hddl_meaning.specs.declared.fault.CheckFault.{CheckFault}
use Rattle.htn_review.specs.Headline as headline
use Rattle.htn_review.specs.Laws.{NamedIsListedFirst}
use Rattle.htn_review.specs.Named.{IsSameFault}
use Rattle.htn_review.specs.declared.outcome.RunFault.TheVariants as fault
use Rattle.hddl_text.specs.Grammar.{DerivesDomain, DerivesProblem}
use Rattle.hddl_text.specs.Spelling.{Spells}
use Rattle.hddl_words.specs.declared.domain.DomainText.{DomainText}
use Rattle.hddl_words.specs.declared.fault.TextFault.{TextFault}

-- a fault of the domain's text
of_domain_first : (domain problem : List ℕ) (f : TextFault) {faults : List Fault} {warnings : AllWarnings} {counts : List (List ℕ)} {reached : Option Reached}
    → headline.IsFaulty DerivesDomain domain f → PairFinds domain problem faults warnings counts reached
    → IsSomeAnd (slice_get faults 0) (IsSameFault (fault.Domain f))
of_domain_first domain problem f faulty (both h k) = tt
of_domain_first domain problem f faulty (first h spelled) = tt
of_domain_first domain problem f faulty (second spelled h) = absurd (faulty.0 _ spelled)
of_domain_first domain problem f faulty (together found spelled other are reach warn) = absurd (faulty.0 _ spelled)

-- a fault of the problem's text
of_problem_first : (domain problem : List ℕ) (f : TextFault) (d : DomainText) {faults : List Fault} {warnings : AllWarnings} {counts : List (List ℕ)}
    {reached : Option Reached} → Spells DerivesDomain domain d → headline.IsFaulty DerivesProblem problem f
    → PairFinds domain problem faults warnings counts reached → IsSomeAnd (slice_get faults 0) (IsSameFault (fault.Problem f))
of_problem_first domain problem f d spelled faulty (both h k) = absurd (h.unspelled d spelled)
of_problem_first domain problem f d spelled faulty (first h other) = absurd (h.unspelled d spelled)
of_problem_first domain problem f d spelled faulty (second also h) = tt
of_problem_first domain problem f d spelled faulty (together found also other are reach warn) = absurd (faulty.0 _ other)

-- the first of some faults
first_is : (P : Fault → Type 0) (faults : List Fault) (g : Fault) → slice_get faults 0 ≡ Some g → P g → IsSomeAnd (slice_get faults 0) P
first_is P faults g is holds = subst (λ o. IsSomeAnd o P) (sym is) holds

-- a fault for which two texts are refused, as it is named, is the first that is found
pub named_is_listed_first : NamedIsListedFirst
named_is_listed_first domain problem bounds (fault.Domain f) faults warnings counts reached of refuses named finds = of_domain_first domain problem f refuses finds
named_is_listed_first domain problem bounds (fault.Problem f) faults warnings counts reached of refuses named finds =
    of_problem_first domain problem f refuses.0 refuses.1 refuses.2 finds
named_is_listed_first domain problem bounds (fault.Check f) faults warnings counts reached of refuses named finds =
    first_is (IsSameFault (fault.Check f)) faults _ (pair_leads domain problem f named finds) refl
named_is_listed_first domain problem bounds (fault.Plan f) faults warnings counts reached of refuses named finds = absurd refuses
named_is_listed_first domain problem bounds fault.OutOfMemory faults warnings counts reached of refuses named finds = absurd of
named_is_listed_first domain problem bounds fault.NoThread faults warnings counts reached of refuses named finds = absurd of
named_is_listed_first domain problem bounds fault.Output faults warnings counts reached of refuses named finds = absurd of

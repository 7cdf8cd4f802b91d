-- The faults that are the domain's own, by tests.
use Rattle.std.proofs.Common.{◌≡◌, ◌⊎◌, ◌∙◌, inl, inr, ℕ, Bool, true, false, ◌&&◌, not, List, Option, Some, None, ap, refl}
use Rattle.std.specs.Prelude.{◌↔◌, filter}
use Rattle.std.specs.List.{Contains}
use Rattle.std.proofs.lemmas.List.Kept.{IsStrictlySortedBy-filter}
use Rattle.hddl_check.specs.Faults.{IsLeftOut}
use Rattle.hddl_meaning.specs.Items.{FailsAt}
use Rattle.hddl_meaning.specs.declared.fault.At.{At}
use Rattle.hddl_meaning.specs.declared.fault.CheckFault.{CheckFault}
use Rattle.hddl_meaning.specs.declared.fault.CheckFault.TheVariants as fault
use Rattle.hddl_meaning.specs.declared.fault.Source.{Source}
use Rattle.hddl_meaning.specs.declared.fault.Source.TheVariants as source
use Rattle.hddl_scope.specs.Ranks.{AreInOrder}
use Rattle.hddl_words.specs.declared.domain.DomainText.{DomainText}
use Rattle.hddl_words.specs.declared.problem.ProblemText.{ProblemText}
use Rattle.pair_messages.specs.Heads.{at_of}
use Rattle.check_report.specs.Alone.{AreArguments, IsInDomain, IsOpenObject, Text, is_of_domain, is_open_object, is_own, stands_in_domain}
use Rattle.check_report.specs.Texts.{AreOwnFaults}
use Rattle.check_report.proofs.Kept.{kept_passes, passing_is_kept}

-- ## Tests

-- two tests that both pass
both_pass : (a b : Bool) → (a && b) ≡ true → (a ≡ true) × (b ≡ true)
both_pass true b is = (refl, is)
both_pass false b is = absurd cc

-- and the other way round
pass_both : (a b : Bool) → a ≡ true → b ≡ true → (a && b) ≡ true
pass_both true b one two = two
pass_both false b one two = absurd cc

-- a test that isn't passed
not_passed : (a : Bool) → not a ≡ true → a ≡ true → ⊥
not_passed true out is = absurd cc
not_passed false out is = absurd cc

-- and the other way round
passed_not : (a : Bool) → (a ≡ true → ⊥) → not a ≡ true
passed_not true out = absurd (out refl)
passed_not false out = refl

-- ## Sides

-- the side that passes is the domain
domain_is : (s : Source) → is_of_domain s ≡ true → s ≡ source.Domain
domain_is source.Domain is = refl
domain_is source.Problem is = absurd cc

-- a place in the domain
place_is : (o : Option At) → (stands_in_domain o ≡ true) ↔ ((at : At) × (o ≡ Some at) × (at.source ≡ source.Domain))
place_is None = (λ is. absurd cc, λ s. let e = s.1 in absurd cc)
place_is (Some at) = (λ is. (at, refl, domain_is at.source is), λ s. let e : at ≡ s.0 = some_is at s.0 s.1 in ap (λ (a : At). is_of_domain a.source) e ∙ ap is_of_domain s.2)
  where
    some_is : (a b : At) → Some a ≡ Some b → a ≡ b
    some_is a b e = cc

-- a fault in the domain
in_domain_is : (f : CheckFault) → (stands_in_domain (at_of f) ≡ true) ↔ IsInDomain f
in_domain_is f = place_is (at_of f)

-- ## Objects

module _ (text : Text) (places : List ℕ) (are : AreArguments text places) where
  -- a fault of an object that isn't declared
  open_is : (f : CheckFault) → (is_open_object places f ≡ true) ↔ IsOpenObject text f
  open_is (fault.UnknownName at) = (
    λ is. let b = both_pass _ _ is in (domain_is at.source b.0, (are at.place).0 b.1),
    λ o. pass_both _ _ (ap is_of_domain o.0) ((are at.place).1 o.1),
  )
  open_is (fault.Duplicate at) = (λ is. absurd cc, λ o. absurd o)
  open_is (fault.UnknownType at) = (λ is. absurd cc, λ o. absurd o)
  open_is (fault.TypeCycle at) = (λ is. absurd cc, λ o. absurd o)
  open_is (fault.Arity at) = (λ is. absurd cc, λ o. absurd o)
  open_is (fault.TypeClash at) = (λ is. absurd cc, λ o. absurd o)
  open_is (fault.OrderCycle at) = (λ is. absurd cc, λ o. absurd o)
  open_is (fault.UnknownSubtask at) = (λ is. absurd cc, λ o. absurd o)
  open_is (fault.TooMany at) = (λ is. absurd cc, λ o. absurd o)
  open_is fault.OutOfMemory = (λ is. absurd cc, λ o. absurd o)

  -- a fault of the domain's own
  pub own_is : (f : CheckFault) → (is_own places f ≡ true) ↔ (IsInDomain f × (IsOpenObject text f → ⊥))
  own_is f = (
    λ is. let b = both_pass _ _ is in ((in_domain_is f).0 b.0, λ o. not_passed _ b.1 ((open_is f).1 o)),
    λ h. pass_both _ _ ((in_domain_is f).1 h.0) (passed_not _ (λ is. h.1 ((open_is f).0 is))),
  )

  -- what the test keeps of all faults are the domain's own
  pub own_faults : (d : DomainText) (e : ProblemText) (faults : List CheckFault) → ((f : CheckFault) → Contains faults f → FailsAt d e f)
      → ((f : CheckFault) → FailsAt d e f → Contains faults f ⊎ IsLeftOut d e f) → AreInOrder faults → AreOwnFaults text d e (filter (is_own places) faults)
  own_faults d e faults sound complete order = record {
    sound = λ f among. let kept = kept_passes (is_own places) faults f among in let own = (own_is f).0 kept.1 in (sound f kept.0, own.0, own.1);
    complete = λ f own. elim (complete f own.0) [
      | inl among ↦ inl (passing_is_kept (is_own places) faults f among ((own_is f).1 (own.1, own.2)))
      | inr out ↦ inr out
    ];
    order = IsStrictlySortedBy-filter _ (is_own places) faults order;
  }

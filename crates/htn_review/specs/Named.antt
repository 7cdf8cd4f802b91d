-- The fault of two texts that a run names, and the one that a check lists first.
use Rattle.std.specs.Prelude.{◌≡◌, ℕ, List, Some, ⊤}
use Rattle.check_report.specs.Texts.{Fault, IsRefused, of_domain, of_problem, of_pair}
use Rattle.htn_review.specs.declared.outcome.RunFault.{RunFault}
use Rattle.htn_review.specs.declared.outcome.RunFault.TheVariants as fault

-- a fault of the trees of two texts is the one for which a check finds these refused
abbrev pub IsNamedOf : List ℕ → List ℕ → RunFault → Type 0
IsNamedOf domain problem (fault.Check f) = IsRefused domain (Some problem) (of_pair f)
IsNamedOf domain problem _ = ⊤

-- the fault of a run and that of a check are in the same text, and of two trees they are the same fault
abbrev pub IsSameFault : RunFault → Fault → Type 0
IsSameFault (fault.Domain f) (of_domain g) = ⊤
IsSameFault (fault.Problem f) (of_problem g) = ⊤
IsSameFault (fault.Check f) (of_pair g) = g ≡ f
IsSameFault _ _ = ⊥

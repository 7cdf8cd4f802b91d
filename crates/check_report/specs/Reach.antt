-- The methods and actions that no plan of two trees uses, and the warnings of these.
use Rattle.std.specs.Prelude.{◌≡◌, ℕ, is_some, List, [], ◌∷◌, ◌++◌, map, length, Option, Some, None, option_map, IfSome}
use Rattle.diagnostics.specs.declared.reached.Reached.{Reached}
use Rattle.hddl_meaning.specs.Building.{IsTaskOf}
use Rattle.hddl_meaning.specs.declared.fault.CheckFault.{CheckFault}
use Rattle.hddl_words.specs.declared.domain.DomainText.{DomainText}
use Rattle.hddl_words.specs.declared.problem.ProblemText.{ProblemText}
use Rattle.htn_model.specs.Task.{Task}
use Rattle.never_applied.specs.Never.{AreFindings}
use Rattle.never_applied.specs.declared.answer.Findings.{Findings}
use Rattle.never_applied.specs.declared.answer.NoPlan.{NoPlan}
use Rattle.check_report.specs.ReachWarnings.{action_places, causes, method_places, reach_counts}

-- ## Findings

-- the methods and actions that no solution of the task of two trees uses, of any size; none are found where too much
-- would have to be listed
abbrev pub AreFoundOf : DomainText → ProblemText → Option Findings → Type 0
AreFoundOf d p found = (t : Task) × IsTaskOf d p t × IfSome found (AreFindings t)

-- there are such findings exactly where the two trees have no fault
abbrev pub AreReached : DomainText → ProblemText → List CheckFault → Option (Option Findings) → Type 0
AreReached d p [] None = ⊥
AreReached d p [] (Some found) = AreFoundOf d p found
AreReached d p (f ∷ fs) None = Unit {0}
AreReached d p (f ∷ fs) (Some found) = ⊥

-- the findings, if there are any
abbrev pub found_in : Option (Option Findings) → Option Findings
found_in None = None
found_in (Some found) = found

-- how much a plan may use
abbrev pub reached_by : Findings → Reached
reached_by f = record { actions = length f.usable.actions.keys; methods = f.usable.instances; facts = f.facts; no_plan = is_some f.no_plan }

-- how much a plan may use, where it is known
abbrev pub reached_of : Option (Option Findings) → Option Reached
reached_of reach = option_map reached_by (found_in reach)

-- the counts in the report of how much a plan may use
abbrev pub counts_of : Option (Option Findings) → List (List ℕ)
counts_of None = []
counts_of (Some found) = reach_counts found

-- ## Warnings

-- a warning of a method or an action that no plan uses, by the place of its name in the domain, or that there is no
-- plan, by a place of the problem
pub data Unplanned : Type 0 where
  never_applied : ℕ → Unplanned
  no_plan : ℕ → Unplanned

-- the warning that there is no plan, where that was found
abbrev pub AreOfProblem : Option NoPlan → List Unplanned → Type 0
AreOfProblem None us = us ≡ []
AreOfProblem (Some why) us = (place : ℕ) × (us ≡ no_plan place ∷ [])

-- the warnings of findings: of the methods and the actions that are unused for a reason of their own, and of the
-- problem
abbrev pub AreUnplanned : DomainText → Option Findings → List Unplanned → Type 0
AreUnplanned d None us = us ≡ []
AreUnplanned d (Some f) us =
    (last : List Unplanned) × AreOfProblem f.no_plan last
    × (us ≡ map never_applied (causes (method_places d) f.methods.items ++ causes (action_places d) f.actions.items) ++ last)

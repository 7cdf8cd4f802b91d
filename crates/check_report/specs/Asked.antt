-- What the code finds of what no plan uses, and the diagnostics of that.
use Rattle.std.specs.Prelude.{◌≡◌, List, [], Option, Some, None, option_map, IfSome}
use Rattle.diagnostics.specs.declared.diagnostic.Diagnostic.{Diagnostic}
use Rattle.hddl_meaning.specs.Building.{IsTaskOf}
use Rattle.hddl_words.specs.declared.domain.DomainText.{DomainText}
use Rattle.hddl_words.specs.declared.problem.ProblemText.{ProblemText}
use Rattle.never_applied.specs.Never.{AreFindings}
use Rattle.never_applied.specs.declared.answer.Findings.{Findings}
use Rattle.pair_messages.specs.declared.texts.PairTexts.{PairTexts}
use Rattle.check_report.specs.ReachWarnings.{AreReachWarnings}
use Rattle.check_report.specs.Reach.{found_in}
use Rattle.check_report.specs.declared.reach.Reach.{Reach}

-- the task of two trees, and what no solution of it uses
pub record IsReachOf (d : DomainText) (p : ProblemText) (r : Reach) : Type 0 where
  pub task : IsTaskOf d p r.task
  pub findings : IfSome r.findings (AreFindings r.task)

-- what was found, where it was looked for
abbrev pub findings_of : Option Reach → Option (Option Findings)
findings_of = option_map (λ r. r.findings)

-- the diagnostics of what was found
abbrev pub AreToldOf : PairTexts → Option Findings → List Diagnostic → Type 0
AreToldOf texts None ds = ds ≡ []
AreToldOf texts (Some f) ds = AreReachWarnings texts f ds

-- and of what was looked for
abbrev pub AreReachTold : PairTexts → Option Reach → List Diagnostic → Type 0
AreReachTold texts reach = AreToldOf texts (found_in (findings_of reach))

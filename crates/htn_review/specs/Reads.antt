-- Texts of a domain and a problem that are read, and the report on those that are refused.
use Rattle.std.specs.Prelude.{◌≡◌, ℕ, Bool, true, false, List, Option, Some}
use Rattle.hddl_words.specs.declared.domain.DomainText.{DomainText}
use Rattle.hddl_words.specs.declared.problem.ProblemText.{ProblemText}
use Rattle.hddl_text.specs.Grammar.{DerivesDomain, DerivesProblem}
use Rattle.hddl_text.specs.Spelling.{Spells}
use Rattle.hddl_meaning.specs.Items.{IsWellTypedPair}
use Rattle.hddl_meaning.specs.Building.{IsTaskOf}
use Rattle.htn_model.specs.Task.{Task}
use Rattle.diagnostics.specs.declared.format.Format.{Format}
use Rattle.check_report.specs.Told.{Named}
use Rattle.check_report.specs.declared.report.Finding.{Finding}
use Rattle.check_report.specs.declared.report.Options.{Options}
use Rattle.htn_review.specs.Checking.{Reports}
use Rattle.htn_review.specs.Judgement.{RefusesPlan}
use Rattle.htn_review.specs.declared.outcome.RunFault.{RunFault}
use Rattle.htn_review.specs.declared.outcome.RunFault.TheVariants as fault

-- the two texts spell these trees, which fit together and have this task
pub record AreRead (domain problem : List ℕ) (d : DomainText) (p : ProblemText) (task : Task) : Type 0 where
  pub domain_spelled : Spells DerivesDomain domain d
  pub problem_spelled : Spells DerivesProblem problem p
  pub fits : IsWellTypedPair d p
  pub is_task : IsTaskOf d p task

-- whether a fault is of the domain, of the problem or of the two together
abbrev pub is_of_pair : RunFault → Bool
is_of_pair (fault.Domain f) = true
is_of_pair (fault.Problem f) = true
is_of_pair (fault.Check f) = true
is_of_pair _ = false

-- how the report on texts that are refused is written
abbrev pub report_options : Format → Bool → Options
report_options form is_coloured = record { format = form; limit = 20; is_strict = false; colour = is_coloured }

-- the bytes of the report on two texts
abbrev pub IsReport : Named → Named → Options → List ℕ → Type 0
IsReport domain problem o bytes = (finding : Finding) × Reports domain (Some problem) o finding bytes

-- the two texts are refused, and these are the bytes of the report on them
pub record IsRefusal (domain problem : Named) (plan : List ℕ) (o : Options) (bytes : List ℕ) : Type 0 where
  pub cause : RunFault
  pub of_pair : is_of_pair cause ≡ true
  pub refuses : RefusesPlan domain.bytes problem.bytes plan cause
  pub report : IsReport domain problem o bytes

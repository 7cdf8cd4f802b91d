-- The answer of the verifier for a domain's text, a problem's text and a plan's text, and the text that it writes.
use Rattle.std.specs.Prelude.{◌≡◌, ◌≢◌, ℕ, List, ◌++◌, Option, Some, None, codes, ⊤}
use Rattle.std.specs.Fmt.{decimal}
use Rattle.hddl_words.specs.declared.domain.DomainText.{DomainText}
use Rattle.hddl_words.specs.declared.problem.ProblemText.{ProblemText}
use Rattle.hddl_text.specs.Grammar.{DerivesDomain, DerivesProblem}
use Rattle.hddl_text.specs.Spelling.{Spells}
use Rattle.hddl_meaning.specs.Items.{FailsAt}
use Rattle.htn_model.specs.PlanFile.{PlanFile}
use Rattle.htn_model.specs.Task.{Task}
use Rattle.htn_model.specs.Grounding.{problem_of}
use Rattle.htn_model.specs.Shadow.{IsAccepted}
use Rattle.htn_model.specs.Verdict.{IsVerdict}
use Rattle.htn_ground.specs.Naming.{naming_of}
use Rattle.htn_verify.specs.Verdicts.{verdict_of}
use Rattle.htn_verify.specs.declared.verdict.Verdict.{Verdict}
use Rattle.htn_verify.specs.declared.verdict.Verdict.TheVariants.{Structure, NoInstance, NotExecutable, GoalFails, NoArrangement, Valid}
use Rattle.plan_text.specs.declared.fault.PlanFault.{PlanFault}
use Rattle.plan_text.specs.declared.fault.PlanFault.TheVariants as reading
use Rattle.plan_text.specs.Fault.{FaultAt}
use Rattle.plan_text.specs.FileText.{FileText}
use Rattle.plan_text.specs.Out.{TakesBeginning}
use Rattle.htn_review.specs.declared.outcome.RunFault.{RunFault}
use Rattle.htn_review.specs.declared.outcome.RunFault.TheVariants as fault
use Rattle.htn_review.specs.Headline.{IsFaulty, IsTaskOfTexts}

-- ## The text of a verdict

-- a line's id, or the root line
abbrev pub line_text : Option ℕ → List ℕ
line_text None = codes "root"
line_text (Some id) = decimal id

-- a cause with its line
abbrev pub fault_text : List ℕ → Option ℕ → List ℕ
fault_text cause line = cause ++ line_text line ++ codes "\n"

-- the line that is written for a verdict
abbrev pub verdict_text : Verdict → List ℕ
verdict_text Structure = codes "invalid: Structure\n"
verdict_text (NoInstance line) = fault_text (codes "invalid: NoInstance ") line
verdict_text (NotExecutable id) = fault_text (codes "invalid: NotExecutable ") (Some id)
verdict_text GoalFails = codes "invalid: GoalFails\n"
verdict_text NoArrangement = codes "invalid: NoArrangement\n"
verdict_text Valid = codes "valid\n"

-- ## The answer

-- the plan's text holds a file, this is its verdict for the task, and the text is the verdict's
abbrev pub Tells : Task → List ℕ → Verdict → List ℕ → Type 0
Tells task plan verdict text =
    (file : PlanFile) × FileText file plan × IsVerdict (naming_of task) (problem_of task) file (verdict_of verdict) × (text ≡ verdict_text verdict)

-- this is the verdict for the three texts, and this its text
abbrev pub Judges : List ℕ → List ℕ → List ℕ → Verdict → List ℕ → Type 0
Judges domain problem plan verdict text = (task : Task) × IsTaskOfTexts domain problem task × Tells task plan verdict text

-- the plan's text holds a file that is the shadow of a solution of the two texts' task
abbrev pub ShowsSolution : List ℕ → List ℕ → List ℕ → Type 0
ShowsSolution domain problem plan =
    (task : Task) × IsTaskOfTexts domain problem task × (file : PlanFile) × FileText file plan × IsAccepted (naming_of task) (problem_of task) file

-- ## Refusals

-- the text holds no file, and this fault is in it; a refusal of memory is no such fault
abbrev pub IsFaultyPlan : List ℕ → PlanFault → Type 0
IsFaultyPlan plan f = ((file : PlanFile) → FileText file plan → ⊥) × (f ≢ reading.OutOfMemory) × FaultAt f plan

-- why a plan's text has no verdict for a task
abbrev pub IsUnjudged : List ℕ → RunFault → Type 0
IsUnjudged plan (fault.Plan f) = IsFaultyPlan plan f
IsUnjudged plan fault.OutOfMemory = ⊤
IsUnjudged plan _ = ⊥

-- why there is no verdict: the domain is read first, then the problem, then the pair is checked, and then the plan is
-- read
abbrev pub RefusesPlan : List ℕ → List ℕ → List ℕ → RunFault → Type 0
RefusesPlan domain problem plan (fault.Domain f) = IsFaulty DerivesDomain domain f
RefusesPlan domain problem plan (fault.Problem f) = (d : DomainText) × Spells DerivesDomain domain d × IsFaulty DerivesProblem problem f
RefusesPlan domain problem plan (fault.Check f) =
    (d : DomainText) × (p : ProblemText) × Spells DerivesDomain domain d × Spells DerivesProblem problem p × FailsAt d p f
RefusesPlan domain problem plan (fault.Plan f) = (task : Task) × IsTaskOfTexts domain problem task × IsFaultyPlan plan f
RefusesPlan domain problem plan fault.OutOfMemory = ⊤
RefusesPlan domain problem plan fault.NoThread = ⊥
RefusesPlan domain problem plan fault.Output = ⊥

-- ## After a write that failed

-- a beginning of the verdict's text was added to the output
pub record IsTellingCutShort (task : Task) (plan : List ℕ) (old new : Option (List ℕ)) : Type 0 where
  pub verdict : Verdict
  pub text : List ℕ
  pub tells : Tells task plan verdict text
  pub begun : TakesBeginning old new text

-- a beginning of the text of the verdict for the three texts was added to the output
abbrev pub IsVerdictCutShort : List ℕ → List ℕ → List ℕ → Option (List ℕ) → Option (List ℕ) → Type 0
IsVerdictCutShort domain problem plan old new = (task : Task) × IsTaskOfTexts domain problem task × IsTellingCutShort task plan old new

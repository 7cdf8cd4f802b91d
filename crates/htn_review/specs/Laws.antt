-- Consequences for the answers of a run: the texts and the bound determine it.
use Rattle.std.specs.Prelude.{◌≡◌, ◌↔◌, ◌≤◌, ◌<◌, ◌^◌, ℕ, List, Option, Some, IsSomeAnd, codes, length, slice_get, ⊤}
use Rattle.check_report.specs.Texts.{AllWarnings, Fault, Finds}
use Rattle.diagnostics.specs.declared.reached.Reached.{Reached}
use Rattle.hddl_words.specs.declared.domain.DomainText.{DomainText}
use Rattle.hddl_words.specs.declared.problem.ProblemText.{ProblemText}
use Rattle.hddl_text.specs.Grammar.{DerivesDomain, DerivesProblem}
use Rattle.hddl_text.specs.Spelling.{Spells}
use Rattle.hddl_meaning.specs.Items.{IsWellTypedPair}
use Rattle.htn_model.specs.PlanFile.{PlanFile}
use Rattle.htn_model.specs.Task.{Task}
use Rattle.htn_verify.specs.declared.verdict.Verdict.{Verdict}
use Rattle.htn_verify.specs.declared.verdict.Verdict.TheVariants.{NoInstance, NotExecutable, Valid}
use Rattle.plan_text.specs.declared.fault.PlanFault.TheVariants.{TooLong}
use Rattle.plan_text.specs.FileText.{FileText}
use Rattle.plan_text.specs.Piece.{max_bytes}
use Rattle.word_machine.specs.declared.bounds.Bounds.{Bounds}
use Rattle.htn_review.specs.declared.outcome.Outcome.{Outcome}
use Rattle.htn_review.specs.declared.outcome.Outcome.TheVariants.{Found}
use Rattle.htn_review.specs.declared.outcome.RunFault.{RunFault}
use Rattle.htn_review.specs.declared.outcome.RunFault.TheVariants as fault
use Rattle.htn_review.specs.Headline.{Answers, IsTaskOfTexts, Refuses}
use Rattle.htn_review.specs.Named.{IsNamedOf, IsSameFault}
use Rattle.htn_review.specs.Judgement.{Judges, RefusesPlan, ShowsSolution, verdict_text}

-- two texts have one task at most
abbrev pub TextsHaveOneTask : Type 0
TextsHaveOneTask = (domain problem : List ℕ) (task other : Task) → IsTaskOfTexts domain problem task → IsTaskOfTexts domain problem other → task ≡ other

-- for two texts and a bound there is one answer at most: the outcome, and each byte
abbrev pub AnswersAreUnique : Type 0
AnswersAreUnique =
    (domain problem : List ℕ) (bound : ℕ) (outcome other : Outcome) (text second : List ℕ)
    → Answers domain problem bound outcome text → Answers domain problem bound other second → (outcome ≡ other) × (text ≡ second)

-- texts that spell trees which fit together have a task
abbrev pub TextsHaveATask : Type 0
TextsHaveATask =
    (domain problem : List ℕ) (d : DomainText) (p : ProblemText) → Spells DerivesDomain domain d → Spells DerivesProblem problem p → IsWellTypedPair d p
    → (task : Task) × IsTaskOfTexts domain problem task

-- texts that have a task have an answer for each bound
abbrev pub AnswersExist : Type 0
AnswersExist =
    (domain problem : List ℕ) (bound : ℕ) (task : Task) → IsTaskOfTexts domain problem task
    → (outcome : Outcome) × (text : List ℕ) × Answers domain problem bound outcome text

-- a fault of the texts, and not of memory, threads or the output
abbrev pub IsOfTexts : RunFault → Type 0
IsOfTexts (fault.Domain f) = ⊤
IsOfTexts (fault.Problem f) = ⊤
IsOfTexts (fault.Check f) = ⊤
IsOfTexts (fault.Plan f) = ⊤
IsOfTexts _ = ⊥

-- texts that have such a fault have no answer, for any bound
abbrev pub FaultyHaveNoAnswer : Type 0
FaultyHaveNoAnswer =
    (domain problem : List ℕ) (bounds : Bounds) (f : RunFault) (bound : ℕ) (outcome : Outcome) (text : List ℕ)
    → IsOfTexts f → Refuses domain problem bounds f → Answers domain problem bound outcome text → ⊥

-- what a check of two texts lists first is the fault for which a run refuses them; of two trees it is the fault that the
-- run names
abbrev pub NamedIsListedFirst : Type 0
NamedIsListedFirst =
    (domain problem : List ℕ) (bounds : Bounds) (f : RunFault) (faults : List Fault) (warnings : AllWarnings) (counts : List (List ℕ)) (reached : Option Reached)
    → IsOfTexts f → Refuses domain problem bounds f → IsNamedOf domain problem f → Finds domain (Some problem) faults warnings counts reached
    → IsSomeAnd (slice_get faults 0) (IsSameFault f)

-- ## Verdicts

-- for three texts there is at most one verdict, and it has one text
abbrev pub VerdictsAreUnique : Type 0
VerdictsAreUnique =
    (domain problem plan : List ℕ) (verdict other : Verdict) (text second : List ℕ)
    → Judges domain problem plan verdict text → Judges domain problem plan other second → (verdict ≡ other) × (text ≡ second)

-- an id in the verdict, if it has one, is one that a plan can have
abbrev pub IdFits : Verdict → Type 0
IdFits (NoInstance (Some id)) = id < 2 ^ 64
IdFits (NotExecutable id) = id < 2 ^ 64
IdFits _ = ⊤

-- different verdicts, with ids as plans have them, have different texts
abbrev pub VerdictsAreTold : Type 0
VerdictsAreTold = (verdict other : Verdict) → IdFits verdict → IdFits other → verdict_text verdict ≡ verdict_text other → verdict ≡ other

-- texts that have a task, and a plan's text that holds a file, have a verdict
abbrev pub VerdictsExist : Type 0
VerdictsExist =
    (domain problem plan : List ℕ) (task : Task) (file : PlanFile) → IsTaskOfTexts domain problem task → FileText file plan
    → (verdict : Verdict) × (text : List ℕ) × Judges domain problem plan verdict text

-- the verdict is `valid` exactly where the plan's text holds the shadow of a solution
abbrev pub ValidIsSolved : Type 0
ValidIsSolved =
    (domain problem plan : List ℕ) (verdict : Verdict) (text : List ℕ) → Judges domain problem plan verdict text → (verdict ≡ Valid) ↔ ShowsSolution domain problem plan

-- texts that have a fault have no verdict
abbrev pub FaultyHaveNoVerdict : Type 0
FaultyHaveNoVerdict =
    (domain problem plan : List ℕ) (f : RunFault) (verdict : Verdict) (text : List ℕ)
    → IsOfTexts f → RefusesPlan domain problem plan f → Judges domain problem plan verdict text → ⊥

-- the text of a plan that answers two texts, for whatever bound, is valid for them
abbrev pub PlansAreValid : Type 0
PlansAreValid =
    (domain problem : List ℕ) (bound : ℕ) (text : List ℕ) → Answers domain problem bound Found text → length text ≤ max_bytes
    → Judges domain problem text Valid (codes "valid\n")

-- the text of a plan that has more bytes than a text may have is refused as too long
abbrev pub LongPlansAreRefused : Type 0
LongPlansAreRefused =
    (domain problem : List ℕ) (bound : ℕ) (text : List ℕ) → Answers domain problem bound Found text → max_bytes < length text
    → RefusesPlan domain problem text (fault.Plan (TooLong max_bytes))

-- The answer of a run for a domain's text, a problem's text and a bound, and the text that it writes.
use Rattle.std.specs.Prelude.{◌≡◌, ◌≢◌, ℕ, ◌<◌, List, [], ◌++◌, Option, Some, None, IfSome, codes, ⊤}
use Rattle.std.specs.Fmt.{decimal}
use Rattle.hddl_words.specs.Words.{Word}
use Rattle.hddl_words.specs.declared.fault.TextFault.{TextFault}
use Rattle.hddl_words.specs.declared.fault.TextFault.TheVariants as spelling
use Rattle.hddl_words.specs.declared.domain.DomainText.{DomainText}
use Rattle.hddl_words.specs.declared.problem.ProblemText.{ProblemText}
use Rattle.hddl_text.specs.Grammar.{DerivesDomain, DerivesProblem}
use Rattle.hddl_text.specs.Spelling.{Spells, FaultAt}
use Rattle.hddl_meaning.specs.Items.{IsWellTypedPair, FailsAt}
use Rattle.hddl_meaning.specs.Building.{IsTaskOf}
use Rattle.htn_model.specs.Task.{Task}
use Rattle.htn_model.specs.Tree.{Solution}
use Rattle.htn_model.specs.Answer.{IsAnswer}
use Rattle.htn_model.specs.Exhaustion.{IsMet, IsUnsolvable}
use Rattle.htn_model.specs.Grounding.{problem_of}
use Rattle.htn_model.specs.Numbered.{numbered}
use Rattle.htn_ground.specs.Naming.{naming_of}
use Rattle.plan_text.specs.Written.{written}
use Rattle.plan_text.specs.Out.{TakesBeginning}
use Rattle.word_machine.specs.declared.bounds.Bounds.{Bounds}
use Rattle.htn_review.specs.declared.outcome.Outcome.{Outcome}
use Rattle.htn_review.specs.declared.outcome.Outcome.TheVariants.{Found, NoPlan, Unsolvable}
use Rattle.htn_review.specs.declared.outcome.Watched.{Watched}
use Rattle.htn_review.specs.declared.outcome.Watched.TheVariants.{Known, Unknown}
use Rattle.htn_review.specs.declared.outcome.RunFault.{RunFault}
use Rattle.htn_review.specs.declared.outcome.RunFault.TheVariants as fault

-- the two texts spell trees that fit together, and this is their task
pub record IsTaskOfTexts (domain problem : List ℕ) (task : Task) : Type 0 where
  pub domain_tree : DomainText
  pub problem_tree : ProblemText
  pub domain_spelled : Spells DerivesDomain domain domain_tree
  pub problem_spelled : Spells DerivesProblem problem problem_tree
  pub fits : IsWellTypedPair domain_tree problem_tree
  pub is_task : IsTaskOf domain_tree problem_tree task

-- The plan text of the solution with fewest nodes and then least code, or `none` exactly when no solution is within the
-- bound and the bound was met, or `unsolvable` exactly when there is no solution and the bound was not met.
abbrev pub Says : Task → ℕ → Outcome → List ℕ → Type 0
Says task bound Found text = (s : Solution) × IsAnswer (problem_of task) bound (Some s) × (text ≡ written (numbered (naming_of task) s))
Says task bound NoPlan text = IsAnswer (problem_of task) bound None × IsMet (problem_of task) bound × (text ≡ codes "none\n")
Says task bound Unsolvable text = IsUnsolvable (problem_of task) × (IsMet (problem_of task) bound → ⊥) × (text ≡ codes "unsolvable\n")

-- a number in decimal, after some words
abbrev pub number_text : List ℕ → ℕ → List ℕ
number_text before number = before ++ decimal number

-- a number in decimal after some words, if there is one
abbrev pub within_text : List ℕ → Option ℕ → List ℕ
within_text before None = []
within_text before (Some nodes) = number_text before nodes

-- `unknown`, and the number of nodes within which there is no solution, if one is known
abbrev pub unknown_text : Option ℕ → List ℕ
unknown_text none_within = codes "unknown" ++ (within_text (codes ": none within ") none_within ++ codes "\n")

-- The text of the answer; or that it is unknown, which is possible only where the search may be stopped: no solution
-- has at most the number of nodes that is named.
abbrev pub SaysWatched : Task → ℕ → Type 0 → Watched → List ℕ → Type 0
SaysWatched task bound MayStop (Known outcome) text = Says task bound outcome text
SaysWatched task bound MayStop (Unknown none_within) text =
    MayStop × IfSome none_within (λ nodes. IsAnswer (problem_of task) nodes None) × (text ≡ unknown_text none_within)

-- the text that answers for the two texts within the bound
abbrev pub Answers : List ℕ → List ℕ → ℕ → Outcome → List ℕ → Type 0
Answers domain problem bound outcome text = (task : Task) × IsTaskOfTexts domain problem task × Says task bound outcome text

-- the text of a search that may be stopped, for the two texts within the bound
abbrev pub SaysOfTexts : List ℕ → List ℕ → ℕ → Type 0 → Watched → List ℕ → Type 0
SaysOfTexts domain problem bound MayStop watched text = (task : Task) × IsTaskOfTexts domain problem task × SaysWatched task bound MayStop watched text

-- no tree is spelled
abbrev pub IsUnspelled : {Tree : Type 0} → (List Word → Tree → Type 0) → List ℕ → Type 0
IsUnspelled {Tree = Tree} Derives text = (tree : Tree) → Spells Derives text tree → ⊥

-- no tree is spelled, and this fault is in the text; a refusal of memory is no such fault
abbrev pub IsFaulty : {Tree : Type 0} → (List Word → Tree → Type 0) → List ℕ → TextFault → Type 0
IsFaulty Derives text f = IsUnspelled Derives text × (f ≢ spelling.OutOfMemory) × FaultAt Derives text f

-- why there is no answer: the domain is read first, then the problem, and then the pair is checked
abbrev pub Refuses : List ℕ → List ℕ → Bounds → RunFault → Type 0
Refuses domain problem bounds (fault.Domain f) = IsFaulty DerivesDomain domain f
Refuses domain problem bounds (fault.Problem f) = (d : DomainText) × Spells DerivesDomain domain d × IsFaulty DerivesProblem problem f
Refuses domain problem bounds (fault.Check f) =
    (d : DomainText) × (p : ProblemText) × Spells DerivesDomain domain d × Spells DerivesProblem problem p × FailsAt d p f
Refuses domain problem bounds (fault.Plan f) = ⊥
Refuses domain problem bounds fault.OutOfMemory = ⊤
Refuses domain problem bounds fault.NoThread = 1 < bounds.workers
Refuses domain problem bounds fault.Output = ⊥

-- memory or a thread was refused; a thread only where there is more than one worker
abbrev pub IsWant : Bounds → RunFault → Type 0
IsWant bounds fault.OutOfMemory = ⊤
IsWant bounds fault.NoThread = 1 < bounds.workers
IsWant bounds _ = ⊥

-- a beginning of the text of the answer was added to the output
pub record IsCutShort (task : Task) (bound : ℕ) (old new : Option (List ℕ)) : Type 0 where
  pub outcome : Outcome
  pub text : List ℕ
  pub says : Says task bound outcome text
  pub begun : TakesBeginning old new text

-- a beginning of the text of a search that may be stopped was added to the output
pub record IsWatchedCutShort (task : Task) (bound : ℕ) (MayStop : Type 0) (old new : Option (List ℕ)) : Type 0 where
  pub watched : Watched
  pub text : List ℕ
  pub says : SaysWatched task bound MayStop watched text
  pub begun : TakesBeginning old new text

-- a beginning of the text that answers for the two texts was added to the output
abbrev pub IsAnswerCutShort : List ℕ → List ℕ → ℕ → Option (List ℕ) → Option (List ℕ) → Type 0
IsAnswerCutShort domain problem bound old new = (task : Task) × IsTaskOfTexts domain problem task × IsCutShort task bound old new

-- a beginning of the text of a search that may be stopped, for the two texts, was added to the output
abbrev pub IsTextsCutShort : List ℕ → List ℕ → ℕ → Type 0 → Option (List ℕ) → Option (List ℕ) → Type 0
IsTextsCutShort domain problem bound MayStop old new = (task : Task) × IsTaskOfTexts domain problem task × IsWatchedCutShort task bound MayStop old new

-- Which faults a domain's text and a problem's text have, and when they have none.
use Rattle.std.specs.Prelude.{◌≡◌, ◌≢◌, ◌⊎◌, ◌↔◌, ℕ, List, [], ◌∷◌, ◌++◌, map, slice_get, Option, Some, None, Contains, IfSome}
use Rattle.std.specs.List.Sorted.{IsStrictlySortedBy}
use Rattle.hddl_words.specs.Words.{Word}
use Rattle.hddl_words.specs.declared.fault.TextFault.{TextFault}
use Rattle.hddl_words.specs.declared.fault.TextFault.TheVariants as spelling
use Rattle.hddl_words.specs.declared.domain.DomainText.{DomainText}
use Rattle.hddl_words.specs.declared.problem.ProblemText.{ProblemText}
use Rattle.hddl_text.specs.Grammar.{DerivesDomain, DerivesProblem}
use Rattle.hddl_text.specs.Spelling.{Spells, FaultAt}
use Rattle.hddl_meaning.specs.Items.{IsWellTypedPair, FailsAt}
use Rattle.hddl_meaning.specs.declared.fault.CheckFault.{CheckFault}
use Rattle.hddl_scope.specs.Ranks.{AreInOrder}
use Rattle.hddl_check.specs.Faults.{IsFirst, IsLeftOut, IsNamed}
use Rattle.hddl_meaning.specs.Mentions.{IsIn}
use Rattle.hddl_warnings.specs.Order.{warning_cmp}
use Rattle.hddl_warnings.specs.Warnings.{IsOtherDomain, IsWarning}
use Rattle.hddl_warnings.specs.declared.warning.Warning.{Warning}
use Rattle.diagnostics.specs.declared.reached.Reached.{Reached}
use Rattle.pair_messages.specs.Counts.{domain_counts, problem_counts}
use Rattle.never_applied.specs.declared.answer.Findings.{Findings}
use Rattle.check_report.specs.Alone.{Text, IsOwnFault, no_problem}
use Rattle.check_report.specs.Reach.{AreReached, AreUnplanned, Unplanned, counts_of, found_in, reached_of}

-- a fault of the domain's text, of the problem's text, or of the two together
pub data Fault : Type 0 where
  of_domain : TextFault → Fault
  of_problem : TextFault → Fault
  of_pair : CheckFault → Fault

-- no tree is spelled, and this fault is in the text; a refusal of memory is no such fault
pub record IsFaulty {Tree : Type 0} (Derives : List Word → Tree → Type 0) (text : Text) (f : TextFault) : Type 0 where
  pub unspelled : (tree : Tree) → Spells Derives text tree → ⊥
  pub other : f ≢ spelling.OutOfMemory
  pub stands : FaultAt Derives text f

-- ## One fault, and none

-- Why two texts are refused: the domain's is read first, then the problem's, and then the two are checked. Of the faults
-- of two trees it is the one that is named. Without a problem the domain is checked by itself.
abbrev pub IsRefused : Text → Option Text → Fault → Type 0
IsRefused domain problem (of_domain f) = IsFaulty DerivesDomain domain f
IsRefused domain None (of_problem f) = ⊥
IsRefused domain (Some problem) (of_problem f) = (d : DomainText) × Spells DerivesDomain domain d × IsFaulty DerivesProblem problem f
IsRefused domain None (of_pair f) = (d : DomainText) × (e : ProblemText) × Spells DerivesDomain domain d × Spells DerivesProblem no_problem e × IsOwnFault domain d e f
IsRefused domain (Some problem) (of_pair f) =
    (d : DomainText) × (p : ProblemText) × Spells DerivesDomain domain d × Spells DerivesProblem problem p × FailsAt d p f × IsNamed d p f

-- The texts spell trees that fit together. A domain alone spells a tree that has no fault of its own, but for those that
-- aren't looked for.
abbrev pub FitTogether : Text → Option Text → Type 0
FitTogether domain None =
    (d : DomainText) × (e : ProblemText) × Spells DerivesDomain domain d × Spells DerivesProblem no_problem e
    × ((f : CheckFault) → IsOwnFault domain d e f → IsLeftOut d e f)
FitTogether domain (Some problem) =
    (d : DomainText) × (p : ProblemText) × Spells DerivesDomain domain d × Spells DerivesProblem problem p × IsWellTypedPair d p

-- ## All faults and warnings

-- the faults of a domain's tree and a problem's, in the order of the texts; each but those that aren't looked for
pub record AreFaultsOf (Fails LeftOut : CheckFault → Type 0) (faults : List CheckFault) : Type 0 where
  pub sound : (f : CheckFault) → Contains faults f → Fails f
  pub complete : (f : CheckFault) → Fails f → Contains faults f ⊎ LeftOut f
  pub order : AreInOrder faults

-- all faults of two trees, none exactly where they fit together; the first is the one for which they are refused
pub record ArePairFaults (d : DomainText) (p : ProblemText) (faults : List CheckFault) : Type 0 where
  pub all : AreFaultsOf (FailsAt d p) (IsLeftOut d p) faults
  pub none : (faults ≡ []) ↔ IsWellTypedPair d p
  pub first : IfSome (slice_get faults 0) (IsFirst d p)
  pub named : IfSome (slice_get faults 0) (IsNamed d p)

-- the faults of a domain's tree by itself
abbrev pub AreOwnFaults : Text → DomainText → ProblemText → List CheckFault → Type 0
AreOwnFaults domain d e = AreFaultsOf (IsOwnFault domain d e) (IsLeftOut d e)

-- the warnings with a property, each once, in the order of the texts
pub record AreExactly (Holds : Warning → Type 0) (ws : List Warning) : Type 0 where
  pub all : (w : Warning) → IsIn w ws ↔ Holds w
  pub order : IsStrictlySortedBy warning_cmp ws

-- Warnings: of another domain, of what is never used or written twice, and of what no plan uses.
pub record AllWarnings : Type 0 where
  pub other : List Warning
  pub of_texts : List Warning
  pub unplanned : List Unplanned

abbrev pub no_warnings : AllWarnings
no_warnings = record { other = []; of_texts = []; unplanned = [] }

-- the warnings of two trees: that of another domain in any case, those of the texts where the two fit together, and those
-- of what no plan uses where that was found
pub record AreWarnings (d : DomainText) (p : ProblemText) (faults : List CheckFault) (findings : Option Findings) (ws : AllWarnings) : Type 0 where
  pub of_domain : AreExactly (IsOtherDomain d p) ws.other
  pub of_both : faults ≡ [] → AreExactly (IsWarning d (Some p)) ws.of_texts
  pub silent : faults ≢ [] → ws.of_texts ≡ []
  pub of_plans : AreUnplanned d findings ws.unplanned

-- the warnings of a domain's tree, where it has no fault of its own
pub record AreOwnWarnings (d : DomainText) (faults : List CheckFault) (ws : List Warning) : Type 0 where
  pub of_domain : faults ≡ [] → AreExactly (IsWarning d None) ws
  pub silent : faults ≢ [] → ws ≡ []

-- The findings for two texts: faults, warnings, the counts of the trees, and how much a plan may use. A text that
-- spells no tree has its first fault, and two trees have all theirs; the first fault is the one for which the two are
-- refused. For two trees without a fault the findings include what no plan of their task uses.
pub data PairFinds (domain problem : Text) : List Fault → AllWarnings → List (List ℕ) → Option Reached → Type 0 where
  both : {f g : TextFault} → IsFaulty DerivesDomain domain f → IsFaulty DerivesProblem problem g
      → PairFinds domain problem (of_domain f ∷ of_problem g ∷ []) no_warnings [] None
  first : {f : TextFault} {p : ProblemText} → IsFaulty DerivesDomain domain f → Spells DerivesProblem problem p
      → PairFinds domain problem (of_domain f ∷ []) no_warnings (problem_counts p ∷ []) None
  second : {g : TextFault} {d : DomainText} → Spells DerivesDomain domain d → IsFaulty DerivesProblem problem g
      → PairFinds domain problem (of_problem g ∷ []) no_warnings (domain_counts d ∷ []) None
  together : {d : DomainText} {p : ProblemText} {faults : List CheckFault} {ws : AllWarnings} (reach : Option (Option Findings)) → Spells DerivesDomain domain d
      → Spells DerivesProblem problem p → ArePairFaults d p faults → AreReached d p faults reach → AreWarnings d p faults (found_in reach) ws
      → PairFinds domain problem (map of_pair faults) ws ((domain_counts d ∷ problem_counts p ∷ []) ++ counts_of reach) (reached_of reach)

-- the findings for a domain alone
pub data DomainFinds (domain : Text) : List Fault → AllWarnings → List (List ℕ) → Option Reached → Type 0 where
  unread : {f : TextFault} → IsFaulty DerivesDomain domain f → DomainFinds domain (of_domain f ∷ []) no_warnings [] None
  alone : {d : DomainText} {e : ProblemText} {faults : List CheckFault} {ws : List Warning} → Spells DerivesDomain domain d → Spells DerivesProblem no_problem e
      → AreOwnFaults domain d e faults → AreOwnWarnings d faults ws
      → DomainFinds domain (map of_pair faults) (record { other = []; of_texts = ws; unplanned = [] }) (domain_counts d ∷ []) None

-- what is found of a domain, and of a problem if there is one
abbrev pub Finds : Text → Option Text → List Fault → AllWarnings → List (List ℕ) → Option Reached → Type 0
Finds domain None = DomainFinds domain
Finds domain (Some problem) = PairFinds domain problem

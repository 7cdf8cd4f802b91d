-- Diagnostics of faults and warnings as the code makes them, part by part.
use Rattle.std.specs.Prelude.{◌≡◌, ◌≢◌, List, [], ◌∷◌, ◌++◌, Option, Some, option_map}
use Rattle.std.specs.List.{AllZip}
use Rattle.hddl_words.specs.declared.fault.TextFault.{TextFault}
use Rattle.hddl_meaning.specs.declared.fault.CheckFault.{CheckFault}
use Rattle.std.specs.declared.alloc.Global.{Global}
use Rattle.std.specs.declared.vec.Vec.{Vec}
use Rattle.diagnostics.specs.declared.diagnostic.Diagnostic.{Diagnostic}
use Rattle.diagnostics.specs.declared.diagnostic.Part.{Part}
use Rattle.diagnostics.specs.declared.diagnostic.Severity.TheVariants as severity
use Rattle.hddl_warnings.specs.Told as warning
use Rattle.hddl_warnings.specs.Warnings.{IsOtherDomain, IsWarning}
use Rattle.hddl_warnings.specs.declared.warning.Warning.{Warning}
use Rattle.pair_messages.specs.Counts.{domain_counts, problem_counts}
use Rattle.pair_messages.specs.Heads as pair
use Rattle.pair_messages.specs.Notes.{AreNotes}
use Rattle.pair_messages.specs.Offers.{OffersMeant}
use Rattle.pair_messages.specs.declared.texts.PairTexts.{PairTexts}
use Rattle.text_messages.specs.Messages as text
use Rattle.check_report.specs.Asked.{AreReachTold, findings_of}
use Rattle.check_report.specs.Order.{AreByPlace}
use Rattle.check_report.specs.Reach.{counts_of, reached_of}
use Rattle.check_report.specs.Report.{IsReport, counts_in}
use Rattle.check_report.specs.Texts.{AreExactly}
use Rattle.check_report.specs.Told.{HelpsText, IsError, Named, text_place}
use Rattle.check_report.specs.declared.reach.Reach.{Reach}
use Rattle.check_report.specs.declared.report.Checked.{Checked}
use Rattle.check_report.specs.declared.report.Options.{Options}

-- the error of a text's fault, as it is made
pub record TellsText (t : Named) (f : TextFault) (d : Diagnostic) : Type 0 where
  pub error : IsError t (text.code_of f) (text_place f) d
  pub helps : HelpsText t f d

-- the error of a text's fault, alone
abbrev pub AreErrors : Named → TextFault → List Diagnostic → Type 0
AreErrors t f ds = (d : Diagnostic) × TellsText t f d × (ds ≡ d ∷ [])

-- the error of a fault of a pair, as it is made
pub record TellsPair (texts : PairTexts) (f : CheckFault) (d : Diagnostic) : Type 0 where
  pub severity : d.severity ≡ severity.Error
  pub code : d.code.now ≡ pair.code_of f
  pub about : pair.IsAbout texts (pair.at_of f) d.about
  pub message : d.message.items ≢ []
  pub offers : OffersMeant texts f d.remarks.items
  pub notes : AreNotes texts f d.remarks.items d.notes.items

-- the diagnostic of a warning of a pair, as it is made
abbrev pub WarnsPair : PairTexts → Warning → Diagnostic → Type 0
WarnsPair texts = warning.TellsWarning texts.domain.now (option_map (λ p. p.now) texts.problem)

-- the diagnostics are those of exactly the warnings with a property
pub record TellsExactly (texts : PairTexts) (Holds : Warning → Type 0) (told : List Diagnostic) : Type 0 where
  pub warnings : List Warning
  pub are : AreExactly Holds warnings
  pub tell : AllZip (WarnsPair texts) warnings told

-- the diagnostics of warnings of a pair by their texts, where it has no faults
pub record TellsOthers (texts : PairTexts) (faults : List CheckFault) (told : List Diagnostic) : Type 0 where
  pub all : faults ≡ [] → TellsExactly texts (IsWarning texts.domain_tree.now (Some texts.problem_tree.now)) told
  pub silent : faults ≢ [] → told ≡ []

-- these, and the diagnostics of methods and actions that no plan uses, or that there is no plan, by place
pub record WarnsPairByPlace (texts : PairTexts) (faults : List CheckFault) (reach : Option Reach) (told : List Diagnostic) : Type 0 where
  pub some : List Diagnostic
  pub others : TellsOthers texts faults some
  pub plans : List Diagnostic
  pub of_plans : AreReachTold texts reach plans
  pub by_place : AreByPlace some plans told

-- the diagnostic of another domain, then the other warnings, and then the errors
pub record WarnsPairBefore (texts : PairTexts) (warned errors told : List Diagnostic) : Type 0 where
  pub first : List Diagnostic
  pub of_domain : TellsExactly texts (IsOtherDomain texts.domain_tree.now texts.problem_tree.now) first
  pub whole : told ≡ (first ++ warned) ++ errors

-- the diagnostics are those of the warnings and the faults of two trees
pub record TellsPairTrees (texts : PairTexts) (faults : List CheckFault) (reach : Option Reach) (told : List Diagnostic) : Type 0 where
  pub errors : List Diagnostic
  pub tell : AllZip (TellsPair texts) faults errors
  pub warned : List Diagnostic
  pub warns : WarnsPairByPlace texts faults reach warned
  pub before : WarnsPairBefore texts warned errors told

-- the diagnostics are those of the warnings of a domain's tree, and then the errors
pub record WarnsBefore (texts : PairTexts) (Are : List Warning → Type 0) (errors told : List Diagnostic) : Type 0 where
  pub warnings : List Warning
  pub are : Are warnings
  pub warned : List Diagnostic
  pub tell : AllZip (WarnsPair texts) warnings warned
  pub whole : told ≡ warned ++ errors

-- the diagnostics are those of the warnings and the faults of a domain's tree
pub record TellsTrees (texts : PairTexts) (Are : List CheckFault → Type 0) (Warn : List CheckFault → List Warning → Type 0) (told : List Diagnostic) : Type 0 where
  pub faults : List CheckFault
  pub are : Are faults
  pub errors : List Diagnostic
  pub tell : AllZip (TellsPair texts) faults errors
  pub before : WarnsBefore texts (Warn faults) errors told

-- the report of these diagnostics of two trees, with what the two declare and how much of that a plan may use
pub record ReportsTold (texts : PairTexts) (reach : Option Reach) (o : Options) (told : List Diagnostic) (c : Checked) : Type 0 where
  pub summary : List (Vec Part Global)
  pub counted :
      counts_in summary
      ≡ (domain_counts texts.domain_tree.now ∷ problem_counts texts.problem_tree.now ∷ []) ++ counts_of (findings_of reach)
  pub report : IsReport o told summary (reached_of (findings_of reach)) c

-- The diagnostics of warnings.
use Rattle.std.specs.Prelude.{◌≡◌, ℕ, min, List, length, Option, Some, None, codes}
use Rattle.hddl_meaning.specs.declared.fault.Source.{Source as Side}
use Rattle.hddl_meaning.specs.declared.fault.Source.TheVariants as side
use Rattle.diagnostics.specs.declared.diagnostic.Diagnostic.{Diagnostic}
use Rattle.diagnostics.specs.declared.diagnostic.Severity.TheVariants as severity
use Rattle.diagnostics.specs.declared.diagnostic.Source.{Source}
use Rattle.diagnostics.specs.declared.diagnostic.Where.{Where}
use Rattle.diagnostics.specs.declared.diagnostic.Where.TheVariants.{Text, Place}
use Rattle.hddl_warnings.specs.declared.warning.Warning.{Warning}
use Rattle.hddl_warnings.specs.declared.warning.WarningKind.{WarningKind}
use Rattle.hddl_warnings.specs.declared.warning.WarningKind.TheVariants as kind

-- the name of a warning
abbrev pub code_of : WarningKind → List ℕ
code_of kind.OtherDomain = codes "OtherDomain"
code_of kind.UnusedParameter = codes "UnusedParameter"
code_of kind.AddedAndDeleted = codes "AddedAndDeleted"
code_of kind.NoMethod = codes "NoMethod"
code_of kind.UnusedType = codes "UnusedType"
code_of kind.UnusedPredicate = codes "UnusedPredicate"
code_of kind.UntestedPredicate = codes "UntestedPredicate"
code_of kind.UnusedTask = codes "UnusedTask"
code_of kind.UnusedAction = codes "UnusedAction"
code_of kind.DeclaredAgain = codes "DeclaredAgain"

-- the text of a side: the domain's where there is no problem
abbrev pub text_of : Source → Option Source → Side → Source
text_of domain problem side.Domain = domain
text_of domain None side.Problem = domain
text_of domain (Some problem) side.Problem = problem

-- a place of the text, or its end where it is shorter
abbrev pub IsAbout : Source → ℕ → Where → Type 0
IsAbout text place (Text source) = ⊥
IsAbout text place (Place spot) = (spot.source.now ≡ text) × (spot.place ≡ min place (length text.lines))

-- a diagnostic of severity `Warning` with the name of the warning's kind, about the warning's place
pub record TellsWarning (domain : Source) (problem : Option Source) (w : Warning) (d : Diagnostic) : Type 0 where
  pub severity : d.severity ≡ severity.Warning
  pub code : d.code.now ≡ code_of w.kind
  pub about : IsAbout (text_of domain problem w.at.source) w.at.place d.about

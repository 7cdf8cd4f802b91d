-- What a check of two texts answers, or of a domain's text alone.
use Rattle.std.specs.Prelude.{◌≡◌, ℕ, List, ◌++◌, Option, option_map}
use Rattle.std.specs.declared.alloc.Global.{Global}
use Rattle.std.specs.declared.vec.Vec.{Vec}
use Rattle.std.specs.List.{AllZip}
use Rattle.diagnostics.specs.declared.diagnostic.Diagnostic.{Diagnostic}
use Rattle.diagnostics.specs.declared.diagnostic.Part.{Part}
use Rattle.diagnostics.specs.declared.diagnostic.Role.TheVariants as role
use Rattle.diagnostics.specs.declared.reached.Reached.{Reached}
use Rattle.check_report.specs.Alone.{Text}
use Rattle.check_report.specs.Report.{IsReport, counts_in}
use Rattle.check_report.specs.Texts.{AllWarnings, Fault, Finds, IsRefused}
use Rattle.check_report.specs.Told.{AreTold, AreWarned, Helps, Named}
use Rattle.check_report.specs.declared.report.Checked.{Checked}
use Rattle.check_report.specs.declared.report.Options.{Options}
use Rattle.check_report.specs.declared.texts.Input.{Input}

-- the text of a domain with its name
abbrev pub domain_named : Input → Named
domain_named i = record { role = role.Domain; name = i.name.now; bytes = i.text.now }

-- the text of a problem with its name, if there is one
abbrev pub problem_named : Option Input → Option Named
problem_named = option_map (λ i. record { role = role.Problem; name = i.name.now; bytes = i.text.now })

-- the bytes of a text, if there is one
abbrev pub bytes_of : Option Named → Option Text
bytes_of = option_map (λ t. t.bytes)

-- The report of what is found of the texts: warnings, then errors, and below them the counts; in JSON how much a plan may
-- use, where that is known.
pub record Checks (domain : Named) (problem : Option Named) (o : Options) (c : Checked) : Type 0 where
  pub faults : List Fault
  pub warnings : AllWarnings
  pub counts : List (List ℕ)
  pub reached : Option Reached
  pub found : Finds domain.bytes (bytes_of problem) faults warnings counts reached
  pub warned : List Diagnostic
  pub are_warned : AreWarned domain problem warnings warned
  pub errors : List Diagnostic
  pub are_told : AreTold domain problem faults errors
  pub help : AllZip (Helps domain problem) faults errors
  pub summary : List (Vec Part Global)
  pub counted : counts_in summary ≡ counts
  pub report : IsReport o (warned ++ errors) summary reached c

-- the texts are refused for some fault
abbrev pub AreRefused : Text → Option Text → Type 0
AreRefused domain problem = (f : Fault) × IsRefused domain problem f

-- The answer of a check of a domain's text, and a problem's text if there is one, and the text that it writes.
use Rattle.std.specs.Prelude.{◌≡◌, ℕ, Bool, true, false, List, Option, ⊤}
use Rattle.plan_text.specs.Out.{TakesBeginning}
use Rattle.diagnostics.specs.declared.diagnostic.Role.TheVariants as role
use Rattle.diagnostics.specs.declared.format.Format.{Format}
use Rattle.check_report.specs.Checks.{Checks, bytes_of}
use Rattle.check_report.specs.Texts.{IsRefused, of_domain, of_problem, of_pair}
use Rattle.check_report.specs.Told.{Named}
use Rattle.check_report.specs.declared.report.Checked.{Checked}
use Rattle.check_report.specs.declared.report.Finding.{Finding}
use Rattle.check_report.specs.declared.report.Options.{Options}
use Rattle.htn_command.specs.declared.choice.Colour.{Colour}
use Rattle.htn_command.specs.declared.choice.Colour.TheVariants.{Auto, Always, Never}
use Rattle.htn_review.specs.declared.outcome.RunFault.{RunFault}
use Rattle.htn_review.specs.declared.outcome.RunFault.TheVariants as fault

-- ## The texts

-- the text of a domain, with its name
abbrev pub domain_text : List ℕ → List ℕ → Named
domain_text name bytes = record { role = role.Domain; name = name; bytes = bytes }

-- the text of a problem, with its name
abbrev pub problem_text : List ℕ → List ℕ → Named
problem_text name bytes = record { role = role.Problem; name = name; bytes = bytes }

-- ## The report

-- whether a report has colours; where it is left to the output, it may
abbrev pub MayColour : Colour → Bool → Type 0
MayColour Auto is = ⊤
MayColour Always is = is ≡ true
MayColour Never is = is ≡ false

-- how a report is written, as the words ask for it
abbrev pub AreOptions : Format → ℕ → Bool → Colour → Options → Type 0
AreOptions format limit is_strict colour o = (o.format ≡ format) × (o.limit ≡ limit) × (o.is_strict ≡ is_strict) × MayColour colour o.colour

-- the report of the texts, and what it finds
abbrev pub Reports : Named → Option Named → Options → Finding → List ℕ → Type 0
Reports domain problem o finding text = (c : Checked) × Checks domain problem o c × (c.finding ≡ finding) × (c.text.items ≡ text)

-- a beginning of the report was added to the output
abbrev pub IsReportCutShort : Named → Option Named → Options → Option (List ℕ) → Option (List ℕ) → Type 0
IsReportCutShort domain problem o old new =
    (finding : Finding) × (text : List ℕ) × Reports domain problem o finding text × TakesBeginning old new text

-- ## Refusals

-- why texts have an error, or there is no report
abbrev pub RefusesCheck : Named → Option Named → RunFault → Type 0
RefusesCheck domain problem (fault.Domain f) = IsRefused domain.bytes (bytes_of problem) (of_domain f)
RefusesCheck domain problem (fault.Problem f) = IsRefused domain.bytes (bytes_of problem) (of_problem f)
RefusesCheck domain problem (fault.Check f) = IsRefused domain.bytes (bytes_of problem) (of_pair f)
RefusesCheck domain problem (fault.Plan f) = ⊥
RefusesCheck domain problem fault.OutOfMemory = ⊤
RefusesCheck domain problem fault.NoThread = ⊥
RefusesCheck domain problem fault.Output = ⊥

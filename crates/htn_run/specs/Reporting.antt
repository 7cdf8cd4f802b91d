-- How the run of a check ends, by its own options.
use Rattle.std.specs.Prelude.{◌≡◌, ℕ, Bool, true, List, Option}
use Rattle.std.specs.Io.KnownBytes.{Appends}
use Rattle.check_report.specs.declared.report.Options.{Options}
use Rattle.htn_review.specs.Checking.{IsReportCutShort, Reports}
use Rattle.htn_run.specs.Reading.{LacksOf, OfTexts}
use Rattle.htn_run.specs.Files.{File}
use Rattle.htn_review.specs.declared.outcome.RunFault.{RunFault}
use Rattle.htn_review.specs.declared.outcome.RunFault.TheVariants.{Output, OutOfMemory}
use Rattle.htn_run.specs.declared.reply.Reply.{Reply}
use Rattle.htn_run.specs.declared.reply.Reply.TheVariants.{Checked}
use Rattle.htn_run.specs.declared.stop.Stop.{Stop}
use Rattle.htn_run.specs.declared.stop.Stop.TheVariants.{Unreadable, Run}

-- the report of the texts was added to the output
abbrev pub AddsReport : (List ℕ → File) → Option (List ℕ) → Option (List ℕ) → List ℕ → Option (List ℕ) → Options → Reply → Type 0
AddsReport files old new domain problem o (Checked finding) =
    (text : List ℕ) × OfTexts files domain problem (λ d p. Reports d p o finding text) × Appends old new text
AddsReport files old new domain problem o _ = ⊥

-- the condition of a fault on the texts, and the output after it
abbrev pub StopsByFault : {O : Type 0} → (O → Option (List ℕ)) → (O → Bool) → (List ℕ → File) → List ℕ → Option (List ℕ) → Options → O → O → RunFault → Type 0
StopsByFault contents has_failed files domain problem o old new Output =
    OfTexts files domain problem (λ d p. IsReportCutShort d p o (contents old) (contents new)) × (has_failed new ≡ true)
StopsByFault contents has_failed files domain problem o old new fault = (fault ≡ OutOfMemory) × (new ≡ old)

-- the conditions under which the run stops without a report
abbrev pub StopsReport : {O : Type 0} → (O → Option (List ℕ)) → (O → Bool) → (List ℕ → File) → List ℕ → Option (List ℕ) → Options → O → O → Stop → Type 0
StopsReport contents has_failed files domain problem o old new (Unreadable text) = LacksOf files domain problem text × (new ≡ old)
StopsReport contents has_failed files domain problem o old new (Run fault) = StopsByFault contents has_failed files domain problem o old new fault

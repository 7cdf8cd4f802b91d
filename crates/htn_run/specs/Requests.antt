-- The answer to a request over the files that it names, and why there may be none.
use Rattle.std.specs.Prelude.{◌≡◌, ℕ, ◌<◌, ◌⊎◌, Bool, true, false, List, [], ◌∷◌, Option, is_some, ⊤}
use Rattle.std.specs.Io.KnownBytes.{Appends}
use Rattle.htn_command.specs.declared.choice.Colour.{Colour}
use Rattle.htn_command.specs.declared.choice.Drawing.{Drawing}
use Rattle.htn_command.specs.declared.request.Request.{Request}
use Rattle.htn_command.specs.declared.request.Request.TheVariants.{Plan, Verify, Check, Explain, Tree}
use Rattle.diagnostics.specs.declared.format.Format.{Format}
use Rattle.htn_verify.specs.declared.verdict.Verdict.TheVariants.{Structure, Valid}
use Rattle.check_report.specs.declared.report.Finding.TheVariants.{Sound, Faulty}
use Rattle.check_report.specs.declared.report.Options.{Options}
use Rattle.htn_review.specs.declared.outcome.Outcome.TheVariants.{Found}
use Rattle.htn_review.specs.declared.outcome.Watched.TheVariants.{Known, Unknown}
use Rattle.htn_review.specs.declared.outcome.RunFault.{RunFault}
use Rattle.htn_run.specs.declared.reply.Reply.{Reply}
use Rattle.htn_run.specs.declared.reply.Reply.TheVariants.{Planned, Verified, Checked, Explained, Drawn}
use Rattle.htn_review.specs.declared.explain.Explained.TheVariants as explained
use Rattle.plan_report.specs.declared.report.ReportStyle.{ReportStyle}
use Rattle.htn_review.specs.declared.tree.Drawn.TheVariants.{Judged, Refused}
use Rattle.htn_review.specs.declared.tree.Look.{Look}
use Rattle.htn_run.specs.declared.stop.Text.{Text}
use Rattle.htn_run.specs.declared.stop.Text.TheVariants as text
use Rattle.htn_run.specs.Files.{File, MayFail, MayGive}
use Rattle.htn_review.specs.Checking as checks
use Rattle.htn_run.specs.Reading as reading
use Rattle.htn_review.specs.Explaining as explaining
use Rattle.htn_review.specs.Headline as plans
use Rattle.htn_review.specs.Named.{IsNamedOf}
use Rattle.htn_review.specs.Judgement as verdicts
use Rattle.htn_review.specs.Laws.{IsOfTexts}
use Rattle.htn_run.specs.Progress as progress
use Rattle.htn_review.specs.Trees as trees

-- the names of the files of a request, in the order of its words
abbrev pub names_of : Request → List (List ℕ)
names_of (Plan domain problem bounds seconds has_progress) = domain.now ∷ problem.now ∷ []
names_of (Verify domain problem plan) = domain.now ∷ problem.now ∷ plan.now ∷ []
names_of (Check domain problem format limit is_strict colour) = reading.files_of domain.now (reading.name_of problem)
names_of (Explain domain problem plan format has_states colour) = reading.file_of domain.now ∷ reading.file_of problem.now ∷ reading.file_of plan.now ∷ []
names_of (Tree domain problem plan drawing has_details colour) = reading.file_of domain.now ∷ reading.file_of problem.now ∷ reading.file_of plan.now ∷ []

-- a request that may be refused a thread: one for a plan, with more than one worker
abbrev pub NeedsThreads : Request → Type 0
NeedsThreads (Plan domain problem bounds seconds has_progress) = 1 < bounds.workers
NeedsThreads (Verify domain problem plan) = ⊥
NeedsThreads (Check domain problem format limit is_strict colour) = ⊥
NeedsThreads (Explain domain problem plan format has_states colour) = ⊥
NeedsThreads (Tree domain problem plan drawing has_details colour) = ⊥

-- A request that reports this fault of a text by a line on the error output. With a check or an explanation the fault
-- is in the report instead, and so it is with a tree, unless it is a fault of the plan's text.
abbrev pub TellsFault : Request → RunFault → Type 0
TellsFault (Plan domain problem bounds seconds has_progress) cause = ⊤
TellsFault (Verify domain problem plan) cause = ⊤
TellsFault (Check domain problem format limit is_strict colour) cause = ⊥
TellsFault (Explain domain problem plan format has_states colour) cause = ⊥
TellsFault (Tree domain problem plan drawing has_details colour) cause = trees.IsOfPlan cause

-- the files of a domain and a problem can be read, and this holds of their texts
abbrev pub OfTexts : (List ℕ → File) → List ℕ → List ℕ → (List ℕ → List ℕ → Type 0) → Type 0
OfTexts files domain problem P = (d : List ℕ) × (p : List ℕ) × MayGive (files domain) d × MayGive (files problem) p × P d p

-- the files of a domain, a problem and a plan can be read, and this holds of their texts
abbrev pub OfThreeTexts : (List ℕ → File) → List ℕ → List ℕ → List ℕ → (List ℕ → List ℕ → List ℕ → Type 0) → Type 0
OfThreeTexts files domain problem plan P = OfTexts files domain problem (λ d p. (f : List ℕ) × MayGive (files plan) f × P d p f)

-- three files, each of which may be the standard input, can be read, and this holds of their texts
abbrev pub OfInputs : (List ℕ → File) → List ℕ → List ℕ → List ℕ → (List ℕ → List ℕ → List ℕ → Type 0) → Type 0
OfInputs files domain problem plan = OfThreeTexts files (reading.file_of domain) (reading.file_of problem) (reading.file_of plan)

-- how the picture is written, as the words ask for it
abbrev pub AreLooks : Drawing → Bool → Colour → Look → Type 0
AreLooks drawing has_details colour look = (look.drawing ≡ drawing) × (look.has_details ≡ has_details) × checks.MayColour colour look.colour

-- how the explanation is written, as the words ask for it
abbrev pub IsStyleOf : Format → Bool → Colour → ReportStyle → Type 0
IsStyleOf format has_states colour style =
    (style.format ≡ format) × (style.has_states ≡ has_states) × checks.MayColour colour style.colour

-- the text that answers the request
abbrev pub Answers : (List ℕ → File) → Request → Reply → List ℕ → Type 0
Answers files (Plan domain problem bounds seconds has_progress) (Planned watched) text =
    OfTexts files domain.now problem.now (λ d p. plans.SaysOfTexts d p bounds.nodes (is_some seconds ≡ true) watched text)
Answers files (Verify domain problem plan) (Verified verdict) text =
    OfThreeTexts files domain.now problem.now plan.now (λ d p f. verdicts.Judges d p f verdict text)
Answers files (Check domain problem format limit is_strict colour) (Checked finding) text =
    reading.OfTexts files domain.now (reading.name_of problem)
    (λ d p. (o : Options) × checks.AreOptions format limit is_strict colour o × checks.Reports d p o finding text)
Answers files (Explain domain problem plan format has_states colour) (Explained came) text =
    OfInputs files domain.now problem.now plan.now
    (λ d p f. (style : ReportStyle) × IsStyleOf format has_states colour style
    × explaining.Explains (checks.domain_text domain.now d) (checks.problem_text problem.now p) (explaining.plan_text plan.now f) style came text)
Answers files (Tree domain problem plan drawing has_details colour) (Drawn drawn) text =
    OfInputs files domain.now problem.now plan.now
    (λ d p f. (look : Look) × AreLooks drawing has_details colour look
    × trees.Draws (checks.domain_text domain.now d) (checks.problem_text problem.now p) (explaining.plan_text plan.now f) look drawn text)
Answers files _ _ text = ⊥

-- the status of an answer: 0 for a plan, for `valid` and for texts that are sound, 3 for texts with an error, 6 where the
-- answer is unknown, and 1 for any other; that of an explanation or of a picture is the status of its verdict
abbrev pub status_of : Reply → ℕ
status_of (Planned (Known Found)) = 0
status_of (Planned (Unknown none_within)) = 6
status_of (Verified Valid) = 0
status_of (Checked Sound) = 0
status_of (Checked Faulty) = 3
status_of (Explained (explained.Judged Valid)) = 0
status_of (Explained explained.Refused) = 3
status_of (Drawn (Judged Valid)) = 0
status_of (Drawn (Refused report)) = 3
status_of _ = 1

-- why the request has no answer; of the faults of the trees for a plan it is the one that a check lists first
abbrev pub Refuses : (List ℕ → File) → Request → RunFault → Type 0
Refuses files (Plan domain problem bounds seconds has_progress) fault =
    OfTexts files domain.now problem.now (λ d p. plans.Refuses d p bounds fault × IsNamedOf d p fault)
Refuses files (Verify domain problem plan) fault = OfThreeTexts files domain.now problem.now plan.now (λ d p f. verdicts.RefusesPlan d p f fault)
Refuses files (Check domain problem format limit is_strict colour) fault =
    reading.OfTexts files domain.now (reading.name_of problem) (λ d p. checks.RefusesCheck d p fault)
Refuses files (Explain domain problem plan format has_states colour) fault =
    OfInputs files domain.now problem.now plan.now (λ d p f. verdicts.RefusesPlan d p f fault)
Refuses files (Tree domain problem plan drawing has_details colour) fault =
    OfInputs files domain.now problem.now plan.now (λ d p f. verdicts.RefusesPlan d p f fault)

-- a fault of the texts, for which the request has no answer
abbrev pub HasFault : (List ℕ → File) → Request → Type 0
HasFault files request = (fault : RunFault) × IsOfTexts fault × Refuses files request fault

-- the first of two files can't be read, or the second after the first was
abbrev pub LacksOne : (List ℕ → File) → List ℕ → List ℕ → Type 0
LacksOne files domain problem = MayFail (files domain) ⊎ ((d : List ℕ) × MayGive (files domain) d × MayFail (files problem))

-- a file of the request can't be read, after those before it were
abbrev pub LacksFile : (List ℕ → File) → Request → Type 0
LacksFile files (Plan domain problem bounds seconds has_progress) = LacksOne files domain.now problem.now
LacksFile files (Verify domain problem plan) =
    LacksOne files domain.now problem.now ⊎ OfTexts files domain.now problem.now (λ d p. MayFail (files plan.now))
LacksFile files (Check domain problem format limit is_strict colour) =
    MayFail (files (reading.file_of domain.now)) ⊎ reading.LacksProblem files domain.now (reading.name_of problem)
LacksFile files (Explain domain problem plan format has_states colour) =
    LacksOne files (reading.file_of domain.now) (reading.file_of problem.now)
    ⊎ OfTexts files (reading.file_of domain.now) (reading.file_of problem.now) (λ d p. MayFail (files (reading.file_of plan.now)))
LacksFile files (Tree domain problem plan drawing has_details colour) =
    LacksOne files (reading.file_of domain.now) (reading.file_of problem.now)
    ⊎ OfTexts files (reading.file_of domain.now) (reading.file_of problem.now) (λ d p. MayFail (files (reading.file_of plan.now)))

-- This file can't be read: the domain's, or the problem's after the domain's was read; for the plan's the condition is
-- a parameter.
abbrev pub LacksText : (List ℕ → File) → List ℕ → List ℕ → Type 0 → Text → Type 0
LacksText files domain problem LacksPlan text.Domain = MayFail (files domain)
LacksText files domain problem LacksPlan text.Problem = (d : List ℕ) × MayGive (files domain) d × MayFail (files problem)
LacksText files domain problem LacksPlan text.Plan = LacksPlan

-- the file of this text of the request can't be read, after those before it were
abbrev pub LacksFileOf : (List ℕ → File) → Request → Text → Type 0
LacksFileOf files (Plan domain problem bounds seconds has_progress) text = LacksText files domain.now problem.now ⊥ text
LacksFileOf files (Verify domain problem plan) text =
    LacksText files domain.now problem.now (OfTexts files domain.now problem.now (λ d p. MayFail (files plan.now))) text
LacksFileOf files (Check domain problem format limit is_strict colour) text = reading.LacksOf files domain.now (reading.name_of problem) text
LacksFileOf files (Explain domain problem plan format has_states colour) text =
    LacksText files (reading.file_of domain.now) (reading.file_of problem.now)
    (OfTexts files (reading.file_of domain.now) (reading.file_of problem.now) (λ d p. MayFail (files (reading.file_of plan.now)))) text
LacksFileOf files (Tree domain problem plan drawing has_details colour) text =
    LacksText files (reading.file_of domain.now) (reading.file_of problem.now)
    (OfTexts files (reading.file_of domain.now) (reading.file_of problem.now) (λ d p. MayFail (files (reading.file_of plan.now)))) text

-- the text that answers the request was added to the output
abbrev pub AddsAnswer : (List ℕ → File) → Option (List ℕ) → Option (List ℕ) → Reply → Request → Type 0
AddsAnswer files old new reply request = (text : List ℕ) × Answers files request reply text × Appends old new text

-- the text of an answer with this status was added to the output
abbrev pub AddsAnswerWith : ℕ → (List ℕ → File) → Option (List ℕ) → Option (List ℕ) → Request → Type 0
AddsAnswerWith status files old new request = (reply : Reply) × (status_of reply ≡ status) × AddsAnswer files old new reply request

-- What an answer adds to the error output: the verdict for a tree without a picture, or the report on its texts. For
-- any other answer the error output is unchanged.
abbrev pub AddsBeside : Reply → (List ℕ → Type 0) → Type 0 → Type 0
AddsBeside (Drawn (Judged Structure)) Gets Same = Gets (verdicts.verdict_text Structure)
AddsBeside (Drawn (Refused report)) Gets Same = Gets report.items
AddsBeside _ Gets Same = Same

-- the text that answers the request, with this status, was added to the output, and what accompanies it to the error
-- output
abbrev pub AddsAnswerBeside : ℕ → (List ℕ → File) → Option (List ℕ) → Option (List ℕ) → (List ℕ → Type 0) → Type 0 → Request → Type 0
AddsAnswerBeside status files old new Gets Same request =
    (reply : Reply) × (status_of reply ≡ status) × AddsAnswer files old new reply request × AddsBeside reply Gets Same

-- a beginning of the text that answers the request was added to the output
abbrev pub IsCutShort : (List ℕ → File) → Option (List ℕ) → Option (List ℕ) → Request → Type 0
IsCutShort files old new (Plan domain problem bounds seconds has_progress) =
    OfTexts files domain.now problem.now (λ d p. plans.IsTextsCutShort d p bounds.nodes (is_some seconds ≡ true) old new)
IsCutShort files old new (Verify domain problem plan) =
    OfThreeTexts files domain.now problem.now plan.now (λ d p f. verdicts.IsVerdictCutShort d p f old new)
IsCutShort files old new (Check domain problem format limit is_strict colour) =
    reading.OfTexts files domain.now (reading.name_of problem)
    (λ d p. (o : Options) × checks.AreOptions format limit is_strict colour o × checks.IsReportCutShort d p o old new)
IsCutShort files old new (Explain domain problem plan format has_states colour) =
    OfInputs files domain.now problem.now plan.now
    (λ d p f. (style : ReportStyle) × IsStyleOf format has_states colour style
    × explaining.IsExplanationCutShort (checks.domain_text domain.now d) (checks.problem_text problem.now p) (explaining.plan_text plan.now f) style old new)
IsCutShort files old new (Tree domain problem plan drawing has_details colour) =
    OfInputs files domain.now problem.now plan.now
    (λ d p f. trees.IsPictureCutShort (checks.domain_text domain.now d) (checks.problem_text problem.now p) (explaining.plan_text plan.now f) drawing has_details old new)

-- the error output of a request while it runs: for a plan the lines of progress, if they are asked for, and nothing for
-- any other
abbrev pub ShowsFor : {E : Type 0} → (E → Option (List ℕ)) → (E → Bool) → (List ℕ → File) → Request → E → E → Type 0
ShowsFor contents has_failed files (Plan domain problem bounds seconds has_progress) old new =
    (new ≡ old) ⊎ OfTexts files domain.now problem.now (λ d p. progress.ShowsOfTexts contents has_failed d p has_progress old new)
ShowsFor contents has_failed files (Verify domain problem plan) old new = new ≡ old
ShowsFor contents has_failed files (Check domain problem format limit is_strict colour) old new = new ≡ old
ShowsFor contents has_failed files (Explain domain problem plan format has_states colour) old new = new ≡ old
ShowsFor contents has_failed files (Tree domain problem plan drawing has_details colour) old new = new ≡ old

-- whether a request asks for lines of progress
abbrev pub wants_progress : Request → Bool
wants_progress (Plan domain problem bounds seconds has_progress) = has_progress
wants_progress _ = false

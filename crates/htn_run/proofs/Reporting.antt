-- The run of a check as that of its request.
use Rattle.std.proofs.Common.{◌≡◌, ◌≢◌, ◌≤◌, ℕ, Bool, true, List, Option, Some, None, arith, inl, inr, refl, subst}
use Rattle.std.specs.Borrow.{Bor}
use Rattle.diagnostics.specs.declared.format.Format.{Format}
use Rattle.check_report.specs.Checks.{bytes_of}
use Rattle.check_report.specs.Texts.{Fault, IsRefused, of_domain, of_problem, of_pair}
use Rattle.check_report.specs.Told.{Named}
use Rattle.check_report.specs.declared.report.Finding.{Finding}
use Rattle.check_report.specs.declared.report.Finding.TheVariants.{Sound, Warned, Faulty}
use Rattle.check_report.specs.declared.report.Options.{Options}
use Rattle.check_report.proofs.Refused.{faulty_is_refused}
use Rattle.htn_command.specs.declared.choice.Colour.{Colour}
use Rattle.htn_command.specs.declared.request.Request.{Request}
use Rattle.htn_command.specs.declared.request.Request.TheVariants as request
use Rattle.htn_verify.specs.declared.verdict.Verdict.{Verdict}
use Rattle.htn_verify.specs.declared.verdict.Verdict.TheVariants as verdict
use Rattle.htn_review.specs.Checking.{AreOptions, IsReportCutShort, RefusesCheck, Reports}
use Rattle.htn_run.specs.Reading.{OfTexts, file_of, name_of}
use Rattle.htn_run.specs.Files.{File, MayGive}
use Rattle.htn_review.specs.Laws.{IsOfTexts}
use Rattle.htn_run.specs.Reporting.{AddsReport, StopsByFault, StopsReport}
use Rattle.htn_run.specs.Requests.{AddsAnswer, AddsBeside, Answers, HasFault, status_of}
use Rattle.htn_run.specs.Stops.{Stops}
use Rattle.htn_review.specs.Reads.{is_of_pair}
use Rattle.htn_review.specs.declared.outcome.Outcome.TheVariants as outcome
use Rattle.htn_review.specs.declared.outcome.Watched.{Watched}
use Rattle.htn_review.specs.declared.outcome.Watched.TheVariants as watched
use Rattle.htn_review.specs.declared.outcome.RunFault.{RunFault}
use Rattle.htn_review.specs.declared.outcome.RunFault.TheVariants as fault
use Rattle.htn_run.specs.declared.reply.Reply.{Reply}
use Rattle.htn_review.specs.declared.explain.Explained.TheVariants as explained
use Rattle.htn_review.specs.declared.tree.Drawn.TheVariants.{Judged, Refused}
use Rattle.htn_run.specs.declared.reply.Reply.TheVariants.{Planned, Verified, Checked, Explained, Drawn}
use Rattle.htn_run.specs.declared.stop.Stop.{Stop}
use Rattle.htn_run.specs.declared.stop.Stop.TheVariants.{Unreadable, Run}
use Rattle.htn_run.proofs.Stopping.{given}

-- what follows of texts holds of those in the files
pub of_texts_more : (files : List ℕ → File) (domain : List ℕ) (problem : Option (List ℕ)) (P Q : Named → Option Named → Type 0)
    → ((d : Named) (p : Option Named) → P d p → Q d p) → OfTexts files domain problem P → OfTexts files domain problem Q
of_texts_more files domain None P Q more h = (h.0, h.1, more _ _ h.2)
of_texts_more files domain (Some problem) P Q more h = (h.0, h.1, h.2, h.3, more _ _ h.4)

-- what texts have, chosen before them
pub of_texts_some : {X : Type 0} (files : List ℕ → File) (domain : List ℕ) (problem : Option (List ℕ)) (P : X → Named → Option Named → Type 0)
    → OfTexts files domain problem (λ d p. (x : X) × P x d p) → (x : X) × OfTexts files domain problem (P x)
of_texts_some files domain None P h = (h.2.0, (h.0, h.1, h.2.1))
of_texts_some files domain (Some problem) P h = (h.4.0, (h.0, h.1, h.2, h.3, h.4.1))

-- what holds beside each text holds
pub of_texts_told : (files : List ℕ → File) (domain : List ℕ) (problem : Option (List ℕ)) (A : Type 0) (P : Named → Option Named → Type 0)
    → OfTexts files domain problem (λ d p. A × P d p) → A
of_texts_told files domain None A P h = h.2.0
of_texts_told files domain (Some problem) A P h = h.4.0

-- nothing that doesn't hold of texts holds of those in the files
pub of_texts_never : {Z : Type 0} (files : List ℕ → File) (domain : List ℕ) (problem : Option (List ℕ)) → OfTexts files domain problem (λ d p. ⊥) → Z
of_texts_never files domain None h = absurd h.2
of_texts_never files domain (Some problem) h = absurd h.4

-- a check that wants memory, or whose report is cut short
pub stops_by_report : {O : Type 0} (contents : O → Option (List ℕ)) (has_failed : O → Bool) (files : List ℕ → File) (domain : List ℕ) (problem : Option (List ℕ))
    (o : Options) (old new : O) (f : RunFault) → (f ≢ fault.Output → (f ≡ fault.OutOfMemory) × (new ≡ old))
    → (f ≡ fault.Output → OfTexts files domain problem (λ d p. IsReportCutShort d p o (contents old) (contents new)) × (has_failed new ≡ true))
    → StopsByFault contents has_failed files domain problem o old new f
stops_by_report contents has_failed files domain problem o old new fault.Output memory cut = cut refl
stops_by_report contents has_failed files domain problem o old new (fault.Domain f) memory cut = memory (λ e. cc)
stops_by_report contents has_failed files domain problem o old new (fault.Problem f) memory cut = memory (λ e. cc)
stops_by_report contents has_failed files domain problem o old new (fault.Check f) memory cut = memory (λ e. cc)
stops_by_report contents has_failed files domain problem o old new (fault.Plan f) memory cut = memory (λ e. cc)
stops_by_report contents has_failed files domain problem o old new fault.OutOfMemory memory cut = memory (λ e. cc)
stops_by_report contents has_failed files domain problem o old new fault.NoThread memory cut = memory (λ e. cc)

-- what a read of a named file gave
pub given_of : (files : List ℕ → File) (name file text bytes : List ℕ) → file ≡ file_of name → text ≡ bytes → MayGive (files file) bytes
    → MayGive (files (file_of name)) text
given_of files name file text bytes is same read = given (files (file_of name)) text bytes same (subst (λ n. MayGive (files n) bytes) is read)

module _ (files : List ℕ → File) (domain : Bor (List ℕ)) (problem : Option (Bor (List ℕ))) (format : Format) (limit : ℕ) (is_strict : Bool) (colour : Colour) where
  -- the request
  abbrev pub asked : Request
  asked = request.Check domain problem format limit is_strict colour

  -- a report by the options that are asked for answers the request
  pub report_answers : (old new : Option (List ℕ)) (o : Options) (reply : Reply) → AreOptions format limit is_strict colour o
      → AddsReport files old new domain.now (name_of problem) o reply → AddsAnswer files old new reply asked
  report_answers old new o (Planned ended) options h = absurd h
  report_answers old new o (Verified ended) options h = absurd h
  report_answers old new o (Explained came) options h = absurd h
  report_answers old new o (Drawn came) options h = absurd h
  report_answers old new o (Checked finding) options h =
      (h.0, of_texts_more files domain.now (name_of problem) _ _ (λ d p reports. (o, options, reports)) h.1, h.2)

  -- and what stops it stops the request
  pub report_stops : {O : Type 0} (contents : O → Option (List ℕ)) (has_failed : O → Bool) (old new : O) (o : Options) (stop : Stop)
      → AreOptions format limit is_strict colour o → StopsReport contents has_failed files domain.now (name_of problem) o old new stop
      → Stops contents has_failed files asked old new stop
  report_stops contents has_failed old new o (Unreadable text) options h = h
  report_stops contents has_failed old new o (Run fault.Output) options h =
      (of_texts_more files domain.now (name_of problem) _ _ (λ d p cut. (o, options, cut)) h.0, h.1)
  report_stops contents has_failed old new o (Run fault.OutOfMemory) options h = h.1
  report_stops contents has_failed old new o (Run fault.NoThread) options h = let bad = h.0 in absurd cc
  report_stops contents has_failed old new o (Run (fault.Domain f)) options h = let bad = h.0 in absurd cc
  report_stops contents has_failed old new o (Run (fault.Problem f)) options h = let bad = h.0 in absurd cc
  report_stops contents has_failed old new o (Run (fault.Check f)) options h = let bad = h.0 in absurd cc
  report_stops contents has_failed old new o (Run (fault.Plan f)) options h = let bad = h.0 in absurd cc

-- a fault of texts as one of a run
run_fault : (d : Named) (p : Option Named) (f : Fault) → IsRefused d.bytes (bytes_of p) f → (r : RunFault) × IsOfTexts r × RefusesCheck d p r
run_fault d p (of_domain f) h = (fault.Domain f, tt, h)
run_fault d p (of_problem f) h = (fault.Problem f, tt, h)
run_fault d p (of_pair f) h = (fault.Check f, tt, h)

-- texts of which the report finds an error have a fault
report_is_of_fault : (d : Named) (p : Option Named) (o : Options) (text : List ℕ) → Reports d p o Faulty text
    → (r : RunFault) × IsOfTexts r × RefusesCheck d p r
report_is_of_fault d p o text h = let refused = faulty_is_refused d p o h.0 h.1 h.2 in run_fault d p refused.0 refused.1

-- a search ends with 0, 1 or 6
plan_ends : (ended : Watched) → status_of (Planned ended) ≡ 3 → ⊥
plan_ends (watched.Known outcome.Found) is = omega arith
plan_ends (watched.Known outcome.NoPlan) is = omega arith
plan_ends (watched.Known outcome.Unsolvable) is = omega arith
plan_ends (watched.Unknown none_within) is = omega arith

-- so does a verdict
verdict_ends : (ended : Verdict) → status_of (Verified ended) ≡ 3 → ⊥
verdict_ends verdict.Structure is = omega arith
verdict_ends (verdict.NoInstance line) is = omega arith
verdict_ends (verdict.NotExecutable id) is = omega arith
verdict_ends verdict.GoalFails is = omega arith
verdict_ends verdict.NoArrangement is = omega arith
verdict_ends verdict.Valid is = omega arith

-- and so does a picture
picture_ends : (ended : Verdict) → status_of (Drawn (Judged ended)) ≡ 3 → ⊥
picture_ends verdict.Structure is = omega arith
picture_ends (verdict.NoInstance line) is = omega arith
picture_ends (verdict.NotExecutable id) is = omega arith
picture_ends verdict.GoalFails is = omega arith
picture_ends verdict.NoArrangement is = omega arith
picture_ends verdict.Valid is = omega arith

-- and so does an explanation
explanation_ends : (ended : Verdict) → status_of (Explained (explained.Judged ended)) ≡ 3 → ⊥
explanation_ends verdict.Structure is = omega arith
explanation_ends (verdict.NoInstance line) is = omega arith
explanation_ends (verdict.NotExecutable id) is = omega arith
explanation_ends verdict.GoalFails is = omega arith
explanation_ends verdict.NoArrangement is = omega arith
explanation_ends verdict.Valid is = omega arith

-- a fault of the pair is one of texts
of_pair_is_of_texts : (f : RunFault) → is_of_pair f ≡ true → IsOfTexts f
of_pair_is_of_texts (fault.Domain f) is = tt
of_pair_is_of_texts (fault.Problem f) is = tt
of_pair_is_of_texts (fault.Check f) is = tt
of_pair_is_of_texts (fault.Plan f) is = tt
of_pair_is_of_texts fault.OutOfMemory is = absurd cc
of_pair_is_of_texts fault.NoThread is = absurd cc
of_pair_is_of_texts fault.Output is = absurd cc

-- a request that is answered with an error has a fault
pub faulty_answer : (files : List ℕ → File) (r : Request) (reply : Reply) (text : List ℕ) → Answers files r reply text → status_of reply ≡ 3 → HasFault files r
faulty_answer files (request.Plan domain problem bounds seconds has_progress) (Planned ended) text h is = absurd (plan_ends ended is)
faulty_answer files (request.Plan domain problem bounds seconds has_progress) (Verified ended) text h is = absurd h
faulty_answer files (request.Plan domain problem bounds seconds has_progress) (Checked ended) text h is = absurd h
faulty_answer files (request.Plan domain problem bounds seconds has_progress) (Explained came) text h is = absurd h
faulty_answer files (request.Plan domain problem bounds seconds has_progress) (Drawn came) text h is = absurd h
faulty_answer files (request.Verify domain problem plan) (Planned ended) text h is = absurd h
faulty_answer files (request.Verify domain problem plan) (Verified ended) text h is = absurd (verdict_ends ended is)
faulty_answer files (request.Verify domain problem plan) (Checked ended) text h is = absurd h
faulty_answer files (request.Verify domain problem plan) (Explained came) text h is = absurd h
faulty_answer files (request.Verify domain problem plan) (Drawn came) text h is = absurd h
faulty_answer files (request.Explain domain problem plan format has_states colour) (Planned ended) text h is = absurd h
faulty_answer files (request.Explain domain problem plan format has_states colour) (Verified ended) text h is = absurd h
faulty_answer files (request.Explain domain problem plan format has_states colour) (Checked ended) text h is = absurd h
faulty_answer files (request.Explain domain problem plan format has_states colour) (Drawn came) text h is = absurd h
faulty_answer files (request.Explain domain problem plan format has_states colour) (Explained (explained.Judged ended)) text h is = absurd (explanation_ends ended is)
faulty_answer files (request.Explain domain problem plan format has_states colour) (Explained explained.Refused) text h is =
    elim h.4.2.2 [
      | inl refusal ↦ (refusal.cause, of_pair_is_of_texts refusal.cause refusal.of_pair, (h.0, h.1, h.2, h.3, (h.4.0, h.4.1, refusal.refuses)))
      | inr refusal ↦ (fault.Plan refusal.cause, tt, (h.0, h.1, h.2, h.3, (h.4.0, h.4.1, refusal.refuses)))
    ]
faulty_answer files (request.Tree domain problem plan drawing has_details colour) (Planned ended) text h is = absurd h
faulty_answer files (request.Tree domain problem plan drawing has_details colour) (Verified ended) text h is = absurd h
faulty_answer files (request.Tree domain problem plan drawing has_details colour) (Checked ended) text h is = absurd h
faulty_answer files (request.Tree domain problem plan drawing has_details colour) (Explained came) text h is = absurd h
faulty_answer files (request.Tree domain problem plan drawing has_details colour) (Drawn (Judged ended)) text h is = absurd (picture_ends ended is)
faulty_answer files (request.Tree domain problem plan drawing has_details colour) (Drawn (Refused report)) text h is =
    let refusal = h.4.2.2.0 in
    (refusal.cause, of_pair_is_of_texts refusal.cause refusal.of_pair, (h.0, h.1, h.2, h.3, (h.4.0, h.4.1, refusal.refuses)))
faulty_answer files (request.Check domain problem format limit is_strict colour) (Planned ended) text h is = absurd h
faulty_answer files (request.Check domain problem format limit is_strict colour) (Verified ended) text h is = absurd h
faulty_answer files (request.Check domain problem format limit is_strict colour) (Explained came) text h is = absurd h
faulty_answer files (request.Check domain problem format limit is_strict colour) (Drawn came) text h is = absurd h
faulty_answer files (request.Check domain problem format limit is_strict colour) (Checked Sound) text h is = absurd (omega arith)
faulty_answer files (request.Check domain problem format limit is_strict colour) (Checked Warned) text h is = absurd (omega arith)
faulty_answer files (request.Check domain problem format limit is_strict colour) (Checked Faulty) text h is =
    let some = of_texts_some files domain.now (name_of problem) (λ r d p. IsOfTexts r × RefusesCheck d p r)
    (of_texts_more files domain.now (name_of problem) (λ d p. (o : Options) × AreOptions format limit is_strict colour o × Reports d p o Faulty text)
    (λ d p. (r : RunFault) × (IsOfTexts r × RefusesCheck d p r))
    (λ d p reports. let r = report_is_of_fault d p reports.0 text reports.2 in (r.0, (r.1, r.2))) h) in (
      some.0,
      of_texts_told files domain.now (name_of problem) (IsOfTexts some.0) (λ d p. RefusesCheck d p some.0) some.1,
      of_texts_more files domain.now (name_of problem) (λ d p. IsOfTexts some.0 × RefusesCheck d p some.0) (λ d p. RefusesCheck d p some.0) (λ d p both. both.1) some.1,
    )

-- the statuses of answers
pub answer_ends : (reply : Reply) → (status_of reply ≡ 2 → ⊥) × (status_of reply ≡ 4 → ⊥) × (status_of reply ≡ 5 → ⊥) × (status_of reply ≤ 6)
answer_ends (Planned (watched.Known outcome.Found)) = (λ is. omega arith, λ is. omega arith, λ is. omega arith, omega arith)
answer_ends (Planned (watched.Known outcome.NoPlan)) = (λ is. omega arith, λ is. omega arith, λ is. omega arith, omega arith)
answer_ends (Planned (watched.Known outcome.Unsolvable)) = (λ is. omega arith, λ is. omega arith, λ is. omega arith, omega arith)
answer_ends (Planned (watched.Unknown none_within)) = (λ is. omega arith, λ is. omega arith, λ is. omega arith, omega arith)
answer_ends (Verified verdict.Structure) = (λ is. omega arith, λ is. omega arith, λ is. omega arith, omega arith)
answer_ends (Verified (verdict.NoInstance line)) = (λ is. omega arith, λ is. omega arith, λ is. omega arith, omega arith)
answer_ends (Verified (verdict.NotExecutable id)) = (λ is. omega arith, λ is. omega arith, λ is. omega arith, omega arith)
answer_ends (Verified verdict.GoalFails) = (λ is. omega arith, λ is. omega arith, λ is. omega arith, omega arith)
answer_ends (Verified verdict.NoArrangement) = (λ is. omega arith, λ is. omega arith, λ is. omega arith, omega arith)
answer_ends (Verified verdict.Valid) = (λ is. omega arith, λ is. omega arith, λ is. omega arith, omega arith)
answer_ends (Checked Sound) = (λ is. omega arith, λ is. omega arith, λ is. omega arith, omega arith)
answer_ends (Checked Warned) = (λ is. omega arith, λ is. omega arith, λ is. omega arith, omega arith)
answer_ends (Checked Faulty) = (λ is. omega arith, λ is. omega arith, λ is. omega arith, omega arith)
answer_ends (Explained (explained.Judged verdict.Structure)) = (λ is. omega arith, λ is. omega arith, λ is. omega arith, omega arith)
answer_ends (Explained (explained.Judged (verdict.NoInstance line))) = (λ is. omega arith, λ is. omega arith, λ is. omega arith, omega arith)
answer_ends (Explained (explained.Judged (verdict.NotExecutable id))) = (λ is. omega arith, λ is. omega arith, λ is. omega arith, omega arith)
answer_ends (Explained (explained.Judged verdict.GoalFails)) = (λ is. omega arith, λ is. omega arith, λ is. omega arith, omega arith)
answer_ends (Explained (explained.Judged verdict.NoArrangement)) = (λ is. omega arith, λ is. omega arith, λ is. omega arith, omega arith)
answer_ends (Explained (explained.Judged verdict.Valid)) = (λ is. omega arith, λ is. omega arith, λ is. omega arith, omega arith)
answer_ends (Explained explained.Refused) = (λ is. omega arith, λ is. omega arith, λ is. omega arith, omega arith)
answer_ends (Drawn (Judged verdict.Structure)) = (λ is. omega arith, λ is. omega arith, λ is. omega arith, omega arith)
answer_ends (Drawn (Judged (verdict.NoInstance line))) = (λ is. omega arith, λ is. omega arith, λ is. omega arith, omega arith)
answer_ends (Drawn (Judged (verdict.NotExecutable id))) = (λ is. omega arith, λ is. omega arith, λ is. omega arith, omega arith)
answer_ends (Drawn (Judged verdict.GoalFails)) = (λ is. omega arith, λ is. omega arith, λ is. omega arith, omega arith)
answer_ends (Drawn (Judged verdict.NoArrangement)) = (λ is. omega arith, λ is. omega arith, λ is. omega arith, omega arith)
answer_ends (Drawn (Judged verdict.Valid)) = (λ is. omega arith, λ is. omega arith, λ is. omega arith, omega arith)
answer_ends (Drawn (Refused report)) = (λ is. omega arith, λ is. omega arith, λ is. omega arith, omega arith)

-- beside an answer of status 0 nothing is written
pub sound_is_quiet : (reply : Reply) (Gets : List ℕ → Type 0) (Same : Type 0) → status_of reply ≡ 0 → AddsBeside reply Gets Same → Same
sound_is_quiet (Planned ended) Gets Same is h = h
sound_is_quiet (Verified ended) Gets Same is h = h
sound_is_quiet (Checked ended) Gets Same is h = h
sound_is_quiet (Explained came) Gets Same is h = h
sound_is_quiet (Drawn (Judged verdict.Structure)) Gets Same is h = absurd (omega arith)
sound_is_quiet (Drawn (Judged (verdict.NoInstance line))) Gets Same is h = h
sound_is_quiet (Drawn (Judged (verdict.NotExecutable id))) Gets Same is h = h
sound_is_quiet (Drawn (Judged verdict.GoalFails)) Gets Same is h = h
sound_is_quiet (Drawn (Judged verdict.NoArrangement)) Gets Same is h = h
sound_is_quiet (Drawn (Judged verdict.Valid)) Gets Same is h = h
sound_is_quiet (Drawn (Refused report)) Gets Same is h = absurd (omega arith)

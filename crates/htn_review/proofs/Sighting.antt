-- Sights of plans, and what is left of a fault.
use Rattle.std.proofs.Common.{◌≡◌, ◌≢◌, ◌⊎◌, inl, inr, true, false, Bool, ℕ, List, [], Option, Some, None, refl, sym, subst}
use Rattle.std.specs.Prelude.{IfSome, MatchOption, option_map}
use Rattle.std.specs.declared.alloc.Global.{Global}
use Rattle.std.specs.declared.vec.Vec.{Vec}
use Rattle.hddl_words.specs.declared.domain.DomainText.{DomainText}
use Rattle.htn_model.specs.PlanFile.{PlanFile, IsForest}
use Rattle.htn_model.specs.Task.{Task}
use Rattle.htn_model.specs.Grounding.{problem_of}
use Rattle.htn_model.specs.Verdict.{IsVerdict}
use Rattle.htn_ground.specs.Naming.{naming_of}
use Rattle.htn_verify.specs.Verdicts.{verdict_of}
use Rattle.htn_verify.specs.declared.verdict.Verdict.{Verdict}
use Rattle.htn_verify.specs.declared.verdict.Verdict.TheVariants as verdict
use Rattle.plan_text.specs.FileText.{FileText}
use Rattle.htn_command.specs.declared.choice.Drawing.{Drawing}
use Rattle.picture_text.specs.declared.detail.Detail.{Detail}
use Rattle.htn_review.specs.Details.{ShowSolution}
use Rattle.htn_review.specs.Headline.{IsTaskOfTexts}
use Rattle.htn_review.specs.Judgement.{RefusesPlan}
use Rattle.htn_review.specs.Sights.{IsLeft, IsPairOf, IsReported, IsSight, IsSightOfTexts, bytes_of, subject_of}
use Rattle.htn_review.specs.Reads.{IsRefusal, is_of_pair}
use Rattle.htn_review.specs.Trees.{AreDetailsIf, ArePicture, Draws, IsDrawn, IsUndrawn, Subject}
use Rattle.htn_review.specs.declared.inputs.Inputs.{Inputs}
use Rattle.htn_review.specs.declared.outcome.RunFault.{RunFault}
use Rattle.htn_review.specs.declared.outcome.RunFault.TheVariants as fault
use Rattle.htn_review.specs.declared.sight.Sight.{Sight}
use Rattle.htn_review.specs.declared.texts.Pair.{Pair}
use Rattle.htn_review.specs.declared.tree.Drawn.{Drawn}
use Rattle.htn_review.specs.declared.tree.Drawn.TheVariants.{Judged, Refused}
use Rattle.htn_review.specs.declared.tree.Look.{Look}
use Rattle.check_report.specs.Told.{Named}

-- the task of a pair is that of its texts
pub pair_has_task : (domain problem : List ℕ) (pair : Pair) → IsPairOf domain problem pair → IsTaskOfTexts domain problem pair.task
pair_has_task domain problem pair is = record {
  domain_tree = pair.domain;
  problem_tree = pair.problem;
  domain_spelled = is.domain_spelled;
  problem_spelled = is.problem_spelled;
  fits = is.fits;
  is_task = is.is_task;
}

module _ (task : Task) (form : Drawing) (is_wanted : Bool) (subject : Verdict → Subject) (file : PlanFile) (same : (v : Verdict) → (subject v).file ≡ file) where
  -- a file whose lines are no forest has no picture, and no other verdict
  drawn_as : (v : Verdict) (picture : Option (Vec ℕ Global)) → IsVerdict (naming_of task) (problem_of task) file (verdict_of v)
      → MatchOption picture (IsForest file → ⊥) (λ bytes. ArePicture form is_wanted (subject v) bytes.items) → IsDrawn form is_wanted v (subject v) (bytes_of picture)
  drawn_as verdict.Structure None is h = refl
  drawn_as verdict.Structure (Some bytes) is h = absurd (is (subst IsForest (same verdict.Structure) h.1.drawing.is_forest.is_forest))
  drawn_as (verdict.NoInstance line) None is h = absurd (h is.0)
  drawn_as (verdict.NoInstance line) (Some bytes) is h = h
  drawn_as (verdict.NotExecutable id) None is h = absurd (h is.0)
  drawn_as (verdict.NotExecutable id) (Some bytes) is h = h
  drawn_as verdict.GoalFails None is h = absurd (h is.0)
  drawn_as verdict.GoalFails (Some bytes) is h = h
  drawn_as verdict.NoArrangement None is h = absurd (h is.0)
  drawn_as verdict.NoArrangement (Some bytes) is h = h
  drawn_as verdict.Valid None is h = absurd (h is.0)
  drawn_as verdict.Valid (Some bytes) is h = h

-- the sight of a pair and a file is that of their texts
pub sight_shows : (inputs : Inputs) (pair : Pair) (file : PlanFile) (form : Drawing) (is_wanted : Bool) (s : Sight)
    → IsPairOf inputs.domain.text.now inputs.problem.text.now pair → FileText file inputs.plan.text.now → IsSight inputs pair file form is_wanted s
    → IsSightOfTexts inputs form is_wanted s
sight_shows inputs pair file form is_wanted s of_pair is_file is = record {
  domain_tree = pair.domain;
  problem_tree = pair.problem;
  task = pair.task;
  are_read = of_pair;
  file = file;
  is_file = is_file;
  is_verdict = is.is_verdict;
  is_drawn = drawn_as pair.task form is_wanted (subject_of inputs pair file) file (λ v. refl) s.verdict s.picture is.is_verdict is.is_picture;
}

-- the truth values are two
true_is_false : true ≡ false → ⊥
true_is_false same = cc

-- a fault that stays after the report on the pair is the plan's, or of memory
pub left_undrawn : (domain problem plan : List ℕ) (f left : RunFault) → RefusesPlan domain problem plan f → IsLeft f left → IsUndrawn domain problem plan left
left_undrawn domain problem plan f left refuses is = elim is [
  | inl memory ↦ subst (λ x. IsUndrawn domain problem plan x) (sym memory) tt
  | inr same ↦ subst (λ x. IsUndrawn domain problem plan x) (sym same.0) (by f refuses same.1)
]
  where
    by : (f : RunFault) → RefusesPlan domain problem plan f → is_of_pair f ≡ false → IsUndrawn domain problem plan f
    by (fault.Domain f) refuses other = absurd (true_is_false other)
    by (fault.Problem f) refuses other = absurd (true_is_false other)
    by (fault.Check f) refuses other = absurd (true_is_false other)
    by (fault.Plan f) refuses other = refuses
    by fault.OutOfMemory refuses other = tt
    by fault.NoThread refuses other = absurd refuses
    by fault.Output refuses other = absurd refuses

-- which is no fault of the output
pub undrawn_no_output : (domain problem plan : List ℕ) (f : RunFault) → IsUndrawn domain problem plan f → f ≢ fault.Output
undrawn_no_output domain problem plan f h e = let P : RunFault → Type 0 = λ x. IsUndrawn domain problem plan x in subst P e h

-- the report on a pair is what its tree comes to
pub reported_draws : (domain problem plan : Named) (look : Look) (f : RunFault) (drawn : Drawn) → RefusesPlan domain.bytes problem.bytes plan.bytes f
    → is_of_pair f ≡ true → IsReported domain problem look.colour drawn → Draws domain problem plan look drawn []
reported_draws domain problem plan look f (Judged v) refuses of_pair is = absurd is
reported_draws domain problem plan look f (Refused report) refuses of_pair is = (record { cause = f; of_pair = of_pair; refuses = refuses; report = is }, refl)

-- ## Details

-- a picture may have none
pub no_details : (is_shown : Bool) (d : DomainText) (task : Task) (file : PlanFile) (v : Verdict) → AreDetailsIf is_shown d task file v None
no_details true d task file v = tt
no_details false d task file v = refl

-- those of a valid plan, where it shows them
pub details_if : (is_shown : Bool) (d : DomainText) (task : Task) (file : PlanFile) (v : Verdict) (found : Option (Vec Detail Global))
    → is_shown ≡ true → v ≡ verdict.Valid → IfSome found (λ x. ShowSolution d task file x.items) → AreDetailsIf is_shown d task file v (option_map (λ x. x.items) found)
details_if is_shown d task file v None shown valid h = no_details is_shown d task file v
details_if is_shown d task file v (Some x) shown valid h = subst (λ b. AreDetailsIf b d task file v (Some x.items)) (sym shown) (valid, h)

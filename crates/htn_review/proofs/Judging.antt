-- Why a run of the verifier stops.
use Rattle.std.proofs.Common.{◌≢◌, ℕ, List, Option, subst, arith}
use Rattle.word_machine.specs.declared.bounds.Bounds.{Bounds}
use Rattle.htn_model.specs.Task.{Task}
use Rattle.htn_verify.specs.declared.verdict.Verdict.{Verdict}
use Rattle.plan_text.specs.Out.{TakesBeginning}
use Rattle.htn_review.specs.Headline.{IsTaskOfTexts, Refuses}
use Rattle.htn_review.specs.Judgement.{IsTellingCutShort, IsUnjudged, RefusesPlan, Tells}
use Rattle.htn_review.specs.declared.outcome.RunFault.{RunFault}
use Rattle.htn_review.specs.declared.outcome.RunFault.TheVariants.{Output}
use Rattle.htn_review.specs.declared.outcome.RunFault.TheVariants as fault

-- bounds with one worker
abbrev one_worker : Bounds
one_worker = record {
  nodes = 0;
  workers = 1;
  piece = 1;
  in_range = record {
    nodes_within = omega arith;
    some_workers = omega arith;
    workers_within = omega arith;
    some_piece = omega arith;
    piece_within = omega arith;
  };
}

-- texts that are refused for all bounds, also those of one worker, have no verdict for any plan
pub refused_plan : (domain problem plan : List ℕ) (f : RunFault) → ((bounds : Bounds) → Refuses domain problem bounds f) → RefusesPlan domain problem plan f
refused_plan domain problem plan (fault.Domain f) h = h one_worker
refused_plan domain problem plan (fault.Problem f) h = h one_worker
refused_plan domain problem plan (fault.Check f) h = h one_worker
refused_plan domain problem plan (fault.Plan f) h = absurd (h one_worker)
refused_plan domain problem plan fault.OutOfMemory h = tt
refused_plan domain problem plan fault.NoThread h = (let more = h one_worker in omega arith)
refused_plan domain problem plan fault.Output h = h one_worker

-- a refusal is no fault of the output
pub refused_no_output : (domain problem plan : List ℕ) (f : RunFault) → RefusesPlan domain problem plan f → f ≢ Output
refused_no_output domain problem plan f h e = let P : RunFault → Type 0 = λ x. RefusesPlan domain problem plan x in subst P e h

-- a plan's text that has no verdict for the task has none beside the task's texts
pub unjudged_refused : (domain problem plan : List ℕ) (t : Task) → IsTaskOfTexts domain problem t → (f : RunFault) → IsUnjudged plan f → RefusesPlan domain problem plan f
unjudged_refused domain problem plan t is (fault.Domain f) h = absurd h
unjudged_refused domain problem plan t is (fault.Problem f) h = absurd h
unjudged_refused domain problem plan t is (fault.Check f) h = absurd h
unjudged_refused domain problem plan t is (fault.Plan f) h = (t, is, h)
unjudged_refused domain problem plan t is fault.OutOfMemory h = tt
unjudged_refused domain problem plan t is fault.NoThread h = absurd h
unjudged_refused domain problem plan t is fault.Output h = absurd h

-- a beginning of the text that tells the verdict
pub telling_cut_short : (t : Task) (plan : List ℕ) (verdict : Verdict) (text : List ℕ) (old new : Option (List ℕ)) → Tells t plan verdict text
    → TakesBeginning old new text → IsTellingCutShort t plan old new
telling_cut_short t plan verdict text old new tells begun = record { verdict = verdict; text = text; tells = tells; begun = begun }

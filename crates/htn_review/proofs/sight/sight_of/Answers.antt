use Rattle.std.proofs.Common.{sym, subst}
use Rattle.plan_picture.specs.Picture.{IsPictureOf}
use Rattle.htn_model.specs.Grounding.{problem_of}
use Rattle.htn_model.specs.Verdict.{IsVerdict}
use Rattle.htn_ground.specs.Naming.{naming_of}
use Rattle.htn_verify.specs.Verdicts.{verdict_of}
use Rattle.htn_review.specs.Sights.{AreHeld, subject_of}
use Rattle.htn_review.specs.Trees.{AreDrawn}
use Rattle.htn_review.proofs.sight.sight_of.Goals as goal

pub drawn-requires-clause-held : goal.drawn-requires-clause-held
drawn-requires-clause-held c =
    let is = rw c.in-Some.is at c.in_ok-picture.ensures in
    subst (λ f. AreHeld c.args.inputs c.args.pair.now f) (sym is.file_is) c.requires

pub drawn-requires-clause-verdict : goal.drawn-requires-clause-verdict
drawn-requires-clause-verdict c =
    let is = rw c.in-Some.is at c.in_ok-picture.ensures in
    subst (λ f. IsVerdict (naming_of c.args.pair.now.task) (problem_of c.args.pair.now.task) f (verdict_of c.in_ok-verdict.verdict)) (sym is.file_is) c.in_ok-verdict.ensures

pub drawn-requires-clause-picture : goal.drawn-requires-clause-picture
drawn-requires-clause-picture c =
    let is = rw c.in-Some.is at c.in_ok-picture.ensures in
    subst (λ f. IsPictureOf f c.in-Some.picture) (sym is.file_is) is

pub returns-in_ok-bytes-in-Some : goal.returns-in_ok-bytes-in-Some
returns-in_ok-bytes-in-Some c =
    let is_picture_of = rw c.in-Some.is at c.in_ok-picture.ensures in
    let look = c.args.look in
    record {
      is_verdict = c.in_ok-verdict.ensures;
      is_picture = (
        c.in-Some.picture,
        is_picture_of,
        subst (λ f. AreDrawn look.drawing look.has_details (subject_of c.args.inputs c.args.pair.now f c.in_ok-verdict.verdict) c.in-Some.picture c.in_ok-bytes-in-Some.bytes.items)
            is_picture_of.file_is c.in_ok-bytes-in-Some.ensures,
      );
    }

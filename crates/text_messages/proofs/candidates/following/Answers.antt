use Rattle.std.proofs.Common.{◌∙◌, ap}
use Rattle.text_messages.proofs.Followed.{following_found, following_refused}
use Rattle.text_messages.proofs.candidates.following.Goals as goal
use Rattle.text_messages.proofs.candidates.following.Goals.{then-not-is+in_ok-push, else-not-is}

pub loop-candidate-preserved : goal.loop-candidate-preserved
loop-candidate-preserved c =
    let cs = c.args.candidates.now in
    let k = c.loop-candidate.candidate-index in
    let found = c.loop-candidate.found.items in
    let more = c.if-not-is.found.items in
    elim c.if-not-is.branch [
      | then-not-is+in_ok-push w ↦ following_found c.args.role c.args.before.now cs k _ found more c.loop-candidate-test.true c.loop-candidate.invariant
          (ap (λ v. v.items) w.found-is ∙ w.in_ok-push.ensures.items)
      | else-not-is w ↦ following_refused c.args.role c.args.before.now cs k _ found more c.loop-candidate-test.true (c.in_ok-is.ensures w.if-not-is.false)
          c.loop-candidate.invariant (ap (λ v. v.items) w.found-is)
    ]

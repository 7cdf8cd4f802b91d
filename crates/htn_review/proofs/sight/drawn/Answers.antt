use Rattle.std.proofs.Common.{sym, subst}
use Rattle.htn_review.specs.Trees.{AreDetailsIf, has_details}
use Rattle.htn_review.proofs.sight.drawn.Goals as goal

pub returns : goal.returns
returns c =
    let pair = c.args.pair.now in
    let look = c.args.look in
    let h = c.in_ok-bytes.ensures in (
      h.0,
      h.1,
      _,
      subst (λ found. AreDetailsIf (has_details look.drawing look.has_details) pair.domain pair.task c.args.picture.now.file.now c.args.verdict found)
          (sym c.as_slice_of.ensures) c.in_ok-found.ensures,
      h.2,
    )

use Rattle.std.proofs.Common.{◌∙◌, ap, get_or, length, refl, subst, sym}
use Rattle.std.proofs.lemmas.Option.{slice_get_read}
use Rattle.diagnostics.specs.Near.{names_of}
use Rattle.text_messages.specs.Near.{ArePicked}
use Rattle.text_messages.proofs.Followed.{picked_more}
use Rattle.text_messages.proofs.near.picked.Goals as goal
use Rattle.text_messages.proofs.near.picked.Goals.{then-may+in_ok-push, else-may}

pub loop-number-preserved : goal.loop-number-preserved
loop-number-preserved c =
    let r = c.args.role in
    let before = c.args.before.now in
    let xs = c.args.keywords.now in
    let ns = c.args.numbers.now in
    let k = c.loop-number.number-index in
    let d = c.in-Some.keyword.now in
    let is = slice_get_read xs (length xs) (get_or ns k 0) d refl c.in-Some.ensures.lookup.3.0 c.in-Some.ensures.lookup.1 in
    elim c.if-may.branch [
      | then-may+in_ok-push w ↦ picked_more r before xs ns k d c.loop-number.found.items _ c.loop-number.invariant (c.in_ok-may.ensures w.if-may.true) c.loop-number-test.true is
          (ap (λ v. v.items) w.found-is ∙ w.in_ok-push.ensures.items)
      | else-may w ↦ subst (λ v. ArePicked r before (names_of xs) ns (names_of v.items)) (sym w.found-is) c.loop-number.invariant
    ]

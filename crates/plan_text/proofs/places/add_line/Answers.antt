use Rattle.std.proofs.Common.{◌≡◌, ap, ◌∙◌}
use Rattle.plan_text.specs.Line.{LineKind, IsOfKind}
use Rattle.plan_text.specs.Piece.{words}
use Rattle.plan_text.specs.Reading.{kind}
use Rattle.plan_text.specs.Seen.{seen, seen_all, seen_kind}
use Rattle.plan_text.proofs.KindLaws.{found_kind, no_kind}
use Rattle.plan_text.proofs.places.add_line.Goals as goal

pub returns-in-Some-clause-added : goal.returns-in-Some-clause-added
returns-in-Some-clause-added c =
    let same : seen_all c.as_slice.result.now ≡ words (seen c.args.line) = ap seen_all c.as_slice.ensures.value ∙ c.in_ok-words.ensures in
    let is : IsOfKind (words (seen c.args.line)) (seen_kind c.in-Some.kind) = found_kind _ _ (c.in-Some.ensures ∙ ap kind same) in
    λ _. (seen_kind c.in-Some.kind, is, c.in_ok-add_place-in-Some.ensures.actions, c.in_ok-add_place-in-Some.ensures.roots, c.in_ok-add_place-in-Some.ensures.decompositions)

pub returns-clause-none : goal.returns-clause-none
returns-clause-none c =
    let same : seen_all c.as_slice.result.now ≡ words (seen c.args.line) = ap seen_all c.as_slice.ensures.value ∙ c.in_ok-words.ensures in
    λ _. no_kind _ (c.in-None.ensures ∙ ap kind same)

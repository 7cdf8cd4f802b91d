use Rattle.std.proofs.Common.{◌<◌, ◌++◌, ◌∷◌, [], length, sym, ap, ap₂, ◌∙◌, arith}
use Rattle.std.proofs.lemmas.List.{take_more, take_all, map-append}
use Rattle.plan_text.specs.Forest.{lists_of}
use Rattle.plan_picture.proofs.picture.listed_children.Goals as goal

pub loop-place-preserved : goal.loop-place-preserved
loop-place-preserved c =
    let children = c.args.forest.now.children in
    let place = c.loop-place.place in
    let low : place < length children = omega (arith, c.requires) in
    ap lists_of c.in_ok-push.ensures.items ∙ map-append (λ v. v.items) c.loop-place.lists.items (c.in_ok-from_slice.field-0 ∷ [])
    ∙ ap₂ (λ xs y. xs ++ y ∷ []) c.loop-place.invariant (c.in_ok-from_slice.ensures.items ∙ c.children.ensures)
    ∙ sym (take_more children place [] low)

pub returns : goal.returns
returns c =
    let children = c.args.forest.now.children in
    c.loop-place.invariant ∙ take_all c.loop-place.place children (omega (arith, c.requires))

use Rattle.std.proofs.Common.{◌++◌, ◌<◌, ◌≡◌, ◌∙◌, ◌∷◌, List, [], ap, append_assoc, arith, length, sym, take}
use Rattle.htn_model.specs.Schema.{EqualitySchema}
use Rattle.htn_task.specs.declared.term.Term.TheVariants.{Parameter}
use Rattle.htn_task.specs.Views.{terms_of}
use Rattle.htn_ground.specs.Places.{pinned}
use Rattle.htn_ground.proofs.Steps.{pinned_more}
use Rattle.htn_ground.proofs.conditions.push_pinned.Goals as goal

pub loop-place-preserved : goal.loop-place-preserved
loop-place-preserved c =
    let start = c.args.equalities.now.items in
    let terms = c.args.terms.now in
    let objects = c.args.objects.now in
    let i = c.loop-place.place in
    let below : i < length terms = c.loop-place-test.true in
    let long : length terms ≡ length objects = c.requires in
    let within : i < length objects = omega arith in
    c.in_ok-push.ensures.items
    ∙ (λ k. c.loop-place.invariant k ++ c.new.ensures k ∷ [])
    ∙ append_assoc start (pinned (terms_of (take i terms)) objects) _
    ∙ ap (λ (l : List EqualitySchema). start ++ l) (sym (pinned_more terms objects i (Parameter 0) below within))

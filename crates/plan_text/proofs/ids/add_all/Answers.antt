use Rattle.std.proofs.Common.{◌∷◌, [], ◌++◌, ◌∙◌, ap, refl, sym, subst}
use Rattle.std.proofs.lemmas.List.{take_all}
use Rattle.htn_model.specs.PlanFile.{IsWithoutRepeats}
use Rattle.plan_text.proofs.Adding.{refused, singles}
use Rattle.plan_text.proofs.ids.add_all.Goals as goal

pub returns-then-not-branch : goal.returns-then-not-branch
returns-then-not-branch c =
    λ d. refused (λ id. id ∷ []) c.args.ids.now.keys c.loop-id.ids.keys c.add.new.ids.keys _ c.args.more.now c.loop-id.id-index 0 c.in_ok-add.field-0 c.loop-id-test.true
    c.loop-id.invariant.keys refl c.if-not-branch.true c.in_ok-add.ensures
    (subst (λ xs. IsWithoutRepeats (c.args.ids.now.keys ++ xs)) (sym (singles c.args.more.now)) d)

pub returns : goal.returns
returns c = (
  c.loop-id.invariant.keys ∙ ap (λ xs. c.args.ids.now.keys ++ xs) (singles _ ∙ take_all c.loop-id.id-index c.args.more.now c.loop-id-test.false),
  c.loop-id.invariant.once,
)

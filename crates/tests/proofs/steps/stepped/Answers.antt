use Rattle.std.proofs.Common.{All, sym, subst}
use Rattle.std.proofs.lemmas.List.Elements.{All-get_or}
use Rattle.htn_model.specs.Grounding.{problem_of}
use Rattle.htn_net.specs.Choices.{IsChoice}
use Rattle.tests.proofs.steps.stepped.Goals as goal

pub step-requires : goal.step-requires
step-requires c =
    let chosen = IsChoice (problem_of c.args.task.now) c.args.config.now in
    let choices = c.deref-choice-items.result.now in
    subst chosen (sym c.choice-item.is)
    (All-get_or chosen choices c.loop-choice.choice-index c.choice-item.result c.loop-choice-test.true
    (subst (All chosen) (sym c.deref-choice-items.ensures.value) c.in_ok-choices.ensures.each))

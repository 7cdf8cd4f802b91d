use Rattle.std.proofs.Common.{◌∙◌, Option, ℕ, Some, None, ap, cond}
use Rattle.hddl_words.specs.declared.network.SubtaskText.{SubtaskText}
use Rattle.hddl_meaning.specs.Networks.{is_text}
use Rattle.hddl_build.specs.Labels.{first_of}
use Rattle.hddl_build.proofs.Labelled.{position_step}
use Rattle.hddl_build.proofs.labels.Labels.of.Goals as goal

pub loop-position-preserved : goal.loop-position-preserved
loop-position-preserved c =
    let subtask = c.index-subtasks-position.result in
    λ text.
    c.in_ok-add.ensures text
    ∙ ap (λ (o : Option ℕ). first_of o (cond (is_text text subtask.label) (Some c.loop-position.position) None)) (c.loop-position.invariant text)
    ∙ position_step (λ (s : SubtaskText). is_text text s.label) c.args.subtasks.now c.loop-position.position subtask c.loop-position-test.true c.index-subtasks-position.is

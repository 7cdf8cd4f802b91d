use Rattle.std.proofs.Common.{◌∙◌, ap, sym, cond, is_some, Some, None, Bool}
use Rattle.std.specs.List.{position}
use Rattle.std.proofs.lemmas.List.{take_all}
use Rattle.hddl_words.specs.declared.network.SubtaskText.{SubtaskText}
use Rattle.hddl_meaning.specs.Networks.{is_text}
use Rattle.pair_messages.proofs.Cycles.{position_next}
use Rattle.pair_messages.proofs.asked.label_numbers.Goals as goal

pub loop-index-preserved : goal.loop-index-preserved
loop-index-preserved c =
    λ t.
    let p : SubtaskText → Bool = λ s. is_text t s.label in
    c.in_ok-number_label.ensures t
    ∙ ap (λ r. cond (is_some r) r (cond (is_text t c.index-subtasks-index.result.label) (Some c.loop-index.index) None)) (c.loop-index.invariant t)
    ∙ sym (position_next p c.args.subtasks.now c.loop-index.index c.index-subtasks-index.result c.loop-index-test.true c.index-subtasks-index.is)

pub returns : goal.returns
returns c =
    λ t.
    let p : SubtaskText → Bool = λ s. is_text t s.label in
    c.loop-index.invariant t ∙ ap (position p) (take_all c.loop-index.index c.args.subtasks.now c.loop-index-test.false)

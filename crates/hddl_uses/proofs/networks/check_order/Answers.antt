use Rattle.std.proofs.Common.{◌∙◌, ap}
use Rattle.std.specs.List.{flat_map, position}
use Rattle.hddl_words.specs.declared.network.SubtaskText.{SubtaskText}
use Rattle.hddl_meaning.specs.Networks.{is_text}
use Rattle.hddl_uses.specs.Labels.{IsNumbering, IsUnknownLabel, names_of}
use Rattle.hddl_scope.proofs.Adding.{Adds-both, Adds-list}
use Rattle.hddl_uses.proofs.Pairs.{unknown_labels}
use Rattle.hddl_uses.proofs.networks.check_order.Goals as goal

pub returns : goal.returns
returns c =
    let n = c.args.network.now in
    let text = c.args.context.now.source in
    let numbers = c.in_ok-numbers.numbers in
    let number : IsNumbering n numbers =
    λ t. c.in_ok-numbers.ensures t ∙ ap (position (λ (s : SubtaskText). is_text t s.label)) c.as_slice.ensures in
    Adds-both c.in_ok-check_cycle.ensures
    (unknown_labels n numbers number text (Adds-list (λ _ _. ⊥) (IsUnknownLabel text numbers) (ap (flat_map names_of) c.as_slice-2.ensures) c.in_ok-check_labels.ensures))

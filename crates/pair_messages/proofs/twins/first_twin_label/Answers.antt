use Rattle.std.proofs.Common.{◌≡◌, List, Some, IfSome, subst}
use Rattle.std.specs.List.{flat_map}
use Rattle.hddl_words.specs.declared.network.SubtaskText.{SubtaskText}
use Rattle.hddl_meaning.specs.Items.{label_mentions}
use Rattle.hddl_meaning.specs.Names.{optional_mention}
use Rattle.pair_messages.specs.Notes.{first_place, name_lists}
use Rattle.pair_messages.proofs.FirstOnes.{in_lists, labels_listed}
use Rattle.pair_messages.proofs.twins.first_twin_label.Goals as goal

pub returns : goal.returns
returns c =
    let t = c.args.index.now.texts.now in
    let text = c.args.text.now in
    let n = c.in-Some.network.now in
    in_lists (name_lists t.domain_tree.now t.problem_tree.now c.args.at.source) (label_mentions n) text c.in_ok-found.found
    (labels_listed t.domain_tree.now t.problem_tree.now c.args.at.source n c.in-Some.ensures)
    (subst (λ (ss : List SubtaskText). IfSome c.in_ok-found.found (λ place. first_place (flat_map (λ s. optional_mention s.label) ss) text ≡ Some place)) c.as_slice.ensures c.in_ok-found.ensures)

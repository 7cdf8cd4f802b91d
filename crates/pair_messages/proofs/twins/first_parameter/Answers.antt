use Rattle.std.proofs.Common.{◌≡◌, List, Some, IfSome, subst}
use Rattle.hddl_words.specs.declared.term.VariableGroup.{VariableGroup}
use Rattle.hddl_meaning.specs.Mentions.{mentions_of, typed_variables}
use Rattle.pair_messages.specs.Notes.{first_place, name_lists}
use Rattle.pair_messages.specs.Stands.{section_parameters}
use Rattle.pair_messages.proofs.FirstOnes.{in_lists, section_listed}
use Rattle.pair_messages.proofs.twins.first_parameter.Goals as goal

pub returns : goal.returns
returns c =
    let t = c.args.index.now.texts.now in
    let text = c.args.text.now in
    let own = c.in-Some.own in
    in_lists (name_lists t.domain_tree.now t.problem_tree.now c.args.at.source) (mentions_of (typed_variables (section_parameters own))) text c.in_ok-found.found
    (section_listed t.domain_tree.now t.problem_tree.now c.args.at.source own c.in-Some.ensures)
    (subst (λ (gs : List VariableGroup). IfSome c.in_ok-found.found (λ place. first_place (mentions_of (typed_variables gs)) text ≡ Some place)) c.parameters.ensures c.in_ok-found.ensures)

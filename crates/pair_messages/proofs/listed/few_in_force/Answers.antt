use Rattle.std.proofs.Common.{◌++◌, ◌∙◌, ◌≤◌, List, ap, length, subst}
use Rattle.std.specs.Borrow.{Bor}
use Rattle.std.specs.List.{flat_map}
use Rattle.std.proofs.lemmas.List.{take_all}
use Rattle.hddl_words.specs.declared.term.VariableGroup.{VariableGroup}
use Rattle.hddl_meaning.specs.Mentions.{mentions_of, typed_variables}
use Rattle.pair_messages.specs.Stands.{section_parameters}
use Rattle.pair_messages.proofs.FirstPlaces.{force_mentions}
use Rattle.pair_messages.proofs.listed.few_in_force.Goals as goal

pub returns : goal.returns
returns c =
    let k = c.loop-groups.groups-index in
    let short = subst (λ (l : List (Bor (List VariableGroup))). length l ≤ k) c.as_slice-groups-items.ensures.value c.loop-groups-test.false in
    c.loop-groups.invariant
    ∙ ap (λ l. mentions_of (typed_variables (section_parameters c.args.scope.now.section)) ++ flat_map (λ g. mentions_of (typed_variables g.now)) l) (take_all k c.args.scope.now.quantified.items short)
    ∙ force_mentions c.args.scope.now

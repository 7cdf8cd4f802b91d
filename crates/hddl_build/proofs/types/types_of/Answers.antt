use Rattle.std.proofs.Common.{◌++◌, ◌∙◌, List, ℕ, map, ap, sym, rules}
use Rattle.std.specs.List.{flat_map}
use Rattle.std.specs.Option.{option_map}
use Rattle.hddl_words.specs.declared.term.VariableGroup.{VariableGroup}
use Rattle.hddl_meaning.specs.Mentions.{Text, mention_of}
use Rattle.hddl_meaning.specs.Names.{number_in}
use Rattle.hddl_meaning.specs.Types.{text_or_object}
use Rattle.hddl_build.proofs.Groups.{types_by_group}
use Rattle.hddl_build.proofs.Steps.{flat_step, flat_end}
use Rattle.hddl_build.proofs.types.types_of.Goals as goal

-- the types of a group, one for each variable
group_types : List Text → VariableGroup → List ℕ
group_types names g = map (λ _. number_in names (text_or_object (option_map mention_of g.of_type))) g.variables

pub loop-group-preserved : goal.loop-group-preserved
unfolding group_types
loop-group-preserved c =
    flat_step (group_types c.args.vocabulary.now.types) c.in_ok-types.types.items c.loop-group.types.items c.push_group.new.types.items c.args.groups.now
    c.loop-group.group-index c.group-item.result (search rules) c.group-item.is c.loop-group.invariant
    (c.in_ok-push_group.ensures ∙ ap (λ (names : List Text). c.loop-group.types.items ++ group_types names c.group-item.result) c.types.ensures)

pub returns : goal.returns
unfolding group_types
returns c =
    flat_end (group_types c.args.vocabulary.now.types) c.in_ok-types.types.items c.loop-group.types.items c.args.groups.now c.loop-group.group-index
    c.loop-group-test.false c.loop-group.invariant
    ∙ ap (λ (l : List ℕ). l ++ flat_map (group_types c.args.vocabulary.now.types) c.args.groups.now) c.in_ok-types.ensures.items
    ∙ sym (types_by_group c.args.vocabulary.now c.args.groups.now)

use Rattle.std.proofs.Common.{ap, ◌∙◌, map}
use Rattle.std.specs.List.{fold}
use Rattle.hddl_meaning.specs.Mentions.{texts, folded}
use Rattle.hddl_meaning.specs.Names.{with_name, optional_mention}
use Rattle.hddl_names.proofs.Declared.{types_more}
use Rattle.pair_messages.proofs.summary.add_types.Goals as goal

pub loop-group-preserved : goal.loop-group-preserved
loop-group-preserved c =
    let g = c.group-item.result in
    c.in_ok-add_parent.ensures
    ∙ ap (λ names. fold with_name names (texts (optional_mention g.of_type)))
    (c.in_ok-add_group.ensures ∙ ap (λ group. fold with_name c.loop-group.names (map (λ x. folded x.text) group)) c.as_slice.ensures
    ∙ ap (λ names. fold with_name names (map (λ x. folded x.text) g.names)) c.loop-group.invariant)
    ∙ types_more c.args.names.now c.args.groups.now c.loop-group.group-index g c.loop-group-test.true c.group-item.is

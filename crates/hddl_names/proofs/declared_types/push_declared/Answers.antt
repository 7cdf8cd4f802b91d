use Rattle.std.proofs.Common.{◌++◌, map, ap, ◌∙◌}
use Rattle.hddl_meaning.specs.Mentions.{folded}
use Rattle.hddl_meaning.specs.Names.{number_in}
use Rattle.hddl_names.proofs.GroupPairs.{group_declared}
use Rattle.hddl_names.proofs.declared_types.push_declared.Goals as goal

pub returns : goal.returns
returns c =
    c.in_ok-push_pairs.ensures
    ∙ ap (λ ps. c.args.pairs.now.items ++ ps)
    (ap (λ ns. map (λ x. (number_in c.args.objects.now (folded x.text), c.in_ok-parent.parent)) ns) c.as_slice.ensures
    ∙ group_declared c.args.objects.now c.args.types.now c.args.group.now c.in_ok-parent.parent c.in_ok-parent.ensures)

use Rattle.std.proofs.Common.{◌++◌, map, ap, ◌∙◌, append_assoc}
use Rattle.hddl_meaning.specs.Mentions.{folded}
use Rattle.hddl_meaning.specs.Names.{number_in, optional_mention}
use Rattle.hddl_names.proofs.GroupPairs.{object_group_pairs}
use Rattle.hddl_names.proofs.pairs.push_object_pairs.Goals as goal

pub returns : goal.returns
returns c =
    let names = c.args.names.now in
    let object = c.in_ok-object.object in
    let more = map (λ m. (number_in names m.text, object)) (optional_mention c.args.group.now.of_type) in
    c.in_ok-push_parent.ensures
    ∙ ap (λ ps. ps ++ more) (c.in_ok-push_pairs.ensures ∙ ap (λ ns. c.args.pairs.now.items ++ map (λ x. (number_in names (folded x.text), object)) ns) c.as_slice.ensures)
    ∙ append_assoc c.args.pairs.now.items (map (λ x. (number_in names (folded x.text), object)) c.args.group.now.names) more
    ∙ ap (λ ps. c.args.pairs.now.items ++ ps) (object_group_pairs names c.args.group.now object c.in_ok-object.ensures)

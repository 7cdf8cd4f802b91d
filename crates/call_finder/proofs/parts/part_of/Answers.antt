use Rattle.call_finder.proofs.parts.part_of.Goals as goal

pub keep_state-requires : goal.keep_state-requires
keep_state-requires c =
    c.in_ok-part.ensures.set c.args.nodes.now.atoms (c.in-Some-numbered.ensures c.args.task.now c.requires)

use Rattle.call_finder.proofs.parts.lifted_of.Goals as goal

pub keep_state-requires : goal.keep_state-requires
keep_state-requires c =
    c.in_ok-next.ensures.set c.args.nodes.now.atoms (c.in-Some-numbered.ensures c.args.task.now c.requires)
    (c.in-Some-numbered-2.ensures c.args.task.now c.requires)

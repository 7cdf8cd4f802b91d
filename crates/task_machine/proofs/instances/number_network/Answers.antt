use Rattle.std.proofs.Common.{◌∙◌, ap, length}
use Rattle.std.proofs.lemmas.List.{length-map}
use Rattle.htn_ground.specs.Views.{child_view, children_of}
use Rattle.heuristics.specs.Sizes.{size_of}
use Rattle.task_machine.proofs.instances.number_network.Goals as goal

pub keep_children-requires-clause-bounded : goal.keep_children-requires-clause-bounded
keep_children-requires-clause-bounded c =
    let nodes = c.as_slice-nodes.result.now in
    ap length (c.deref.ensures.value ∙ c.in_ok-bounds.ensures)
    ∙ length-map (children_of nodes) (size_of c.args.sizes.now)
    ∙ length-map nodes child_view

pub returns-clause-sized : goal.returns-clause-sized
returns-clause-sized c = c.in_ok-numbers.ensures.bounds (size_of c.args.sizes.now) (c.deref.ensures.value ∙ c.in_ok-bounds.ensures) c.requires.sized

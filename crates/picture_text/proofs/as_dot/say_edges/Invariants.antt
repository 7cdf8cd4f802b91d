use Rattle.std.proofs.Common.{◌≡◌, ◌++◌, length, take}
use Rattle.std.specs.List.{flat_map}
use Rattle.plan_text.specs.Forest.{lists_of}
use Rattle.plan_text.specs.Reached.{children_at}
use Rattle.picture_text.specs.Dot.{edge, node_name}
use Rattle.picture_text.specs.Lines.{id_at}
use Rattle.picture_text.proofs.as_dot.say_edges.Given as goal

-- the edges so far
abbrev pub invariant-loop-child : goal.invariant-loop-child
invariant-loop-child l =
    l.out.items ≡ l.initial.out.items
    ++ flat_map (λ child. edge (node_name (id_at l.file l.number)) (id_at l.file child)) (take l.child-index (children_at (length l.file.actions) (lists_of l.children) l.number))

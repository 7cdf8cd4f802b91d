use Rattle.std.proofs.Common.{◌≡◌, ◌++◌, take}
use Rattle.std.specs.List.{flat_map}
use Rattle.picture_text.specs.Dot.{node}
use Rattle.picture_text.specs.Lines.{line_at}
use Rattle.picture_text.proofs.as_dot.say_nodes.Given as goal

-- the nodes so far
abbrev pub invariant-loop-row : goal.invariant-loop-row
invariant-loop-row l = l.out.items ≡ l.initial.out.items ++ flat_map (λ r. node l.caption.mark r.line (line_at l.file r.line)) (take l.row-index l.rows)

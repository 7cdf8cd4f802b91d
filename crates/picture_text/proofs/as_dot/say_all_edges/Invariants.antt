use Rattle.std.proofs.Common.{◌≡◌, ◌++◌, take}
use Rattle.std.specs.List.{flat_map}
use Rattle.plan_text.specs.Forest.{lists_of}
use Rattle.picture_text.specs.Dot.{edges}
use Rattle.picture_text.proofs.as_dot.say_all_edges.Given as goal

-- the edges so far
abbrev pub invariant-loop-row : goal.invariant-loop-row
invariant-loop-row l = l.out.items ≡ l.initial.out.items ++ flat_map (λ r. edges l.file (lists_of l.children) r.line) (take l.row-index l.rows)

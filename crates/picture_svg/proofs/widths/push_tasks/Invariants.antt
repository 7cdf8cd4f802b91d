use Rattle.std.proofs.Common.{◌≡◌, ◌++◌, map, take}
use Rattle.picture_text.specs.Lines.{task}
use Rattle.picture_svg.specs.Widths as spec
use Rattle.picture_svg.proofs.widths.push_tasks.Given as goal

-- the widths so far
abbrev pub invariant-loop-line : goal.invariant-loop-line
invariant-loop-line l = l.widths.items ≡ l.initial.widths.items ++ map (λ line. spec.line_width 0 (task line)) (take l.line-index l.tasks)

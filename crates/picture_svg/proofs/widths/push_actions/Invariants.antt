use Rattle.std.proofs.Common.{◌≡◌, ◌++◌, map, take}
use Rattle.picture_text.specs.Lines.{action}
use Rattle.picture_svg.specs.Widths as spec
use Rattle.picture_svg.proofs.widths.push_actions.Given as goal

-- the widths so far
abbrev pub invariant-loop-line : goal.invariant-loop-line
invariant-loop-line l = l.widths.items ≡ l.initial.widths.items ++ map (λ line. spec.line_width l.digits (action line)) (take l.line-index l.actions)

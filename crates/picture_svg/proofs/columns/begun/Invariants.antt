use Rattle.std.proofs.Common.{◌≡◌, ◌++◌, drop}
use Rattle.picture_svg.specs.Columns.{starts}
use Rattle.picture_svg.proofs.columns.begun.Given as goal

-- the beginnings so far, and those of the columns that are left
abbrev pub invariant-loop-width : goal.invariant-loop-width
invariant-loop-width l = l.lefts.items ++ starts l.next (drop l.width-index l.wide) ≡ starts l.first l.wide

use Rattle.std.proofs.Common.{◌≡◌, ◌++◌, List, length}
use Rattle.plan_text.specs.Piece.{Piece}
use Rattle.plan_text.specs.Adding.{IsRead}
use Rattle.plan_text.proofs.reader.read_lines.Given as goal

-- the lines so far were read
abbrev pub invariant-loop-line : goal.invariant-loop-line
invariant-loop-line l = record { front : List Piece; whole : l.initial.lines ≡ front ++ l.lines; read : IsRead front l.draft }

abbrev pub decreases-loop-line : goal.decreases-loop-line
decreases-loop-line l = length l.lines

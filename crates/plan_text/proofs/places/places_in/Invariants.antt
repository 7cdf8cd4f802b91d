use Rattle.std.proofs.Common.{◌≡◌, ◌++◌, List, length}
use Rattle.plan_text.specs.Piece.{Piece}
use Rattle.plan_text.specs.Places.{AreFound}
use Rattle.plan_text.proofs.places.places_in.Given as goal

-- the places of the lines so far were found
abbrev pub invariant-loop-line : goal.invariant-loop-line
invariant-loop-line l = record { front : List Piece; whole : l.initial.lines ≡ front ++ l.lines; found : AreFound front l.places }

abbrev pub decreases-loop-line : goal.decreases-loop-line
decreases-loop-line l = length l.lines

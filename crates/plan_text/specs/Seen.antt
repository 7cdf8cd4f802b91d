-- Pieces and kinds of lines, without where they lie in memory.
use Rattle.std.specs.Prelude.{ℕ, List, [], ◌∷◌, map, Option, Some, None}
use Rattle.std.specs.declared.alloc.Global.{Global}
use Rattle.std.specs.declared.vec.Vec.{Vec}
use Rattle.plan_text.specs.declared.piece.Piece.{Piece}
use Rattle.plan_text.specs.declared.line.LineKind.{LineKind}
use Rattle.plan_text.specs.declared.line.LineKind.TheVariants.{Blank, Roots, Action, Decomposition}
use Rattle.plan_text.specs.Piece as spec
use Rattle.plan_text.specs.Line as kind

-- a piece with its bytes
abbrev pub seen : Piece → spec.Piece
seen p = record { place = p.place; bytes = p.bytes.now }

-- each piece with its bytes
abbrev pub seen_all : List Piece → List spec.Piece
seen_all ps = map seen ps

-- a kind of line with the bytes of its pieces
abbrev pub seen_kind : LineKind → kind.LineKind
seen_kind Blank = kind.blank
seen_kind (Roots numbers) = kind.roots (seen_all numbers.now)
seen_kind (Action id name arguments) = kind.action (seen id) (seen name) (seen_all arguments.now)
seen_kind (Decomposition id task arguments method children) = kind.decomposition (seen id) (seen task) (seen_all arguments.now) (seen method) (seen_all children.now)

-- Rows without where they lie in memory.
use Rattle.std.specs.Prelude.{List, map}
use Rattle.plan_picture.specs.declared.row.Row.{Row}
use Rattle.plan_picture.specs.Rows as spec

-- a row with its bars
abbrev pub seen : Row → spec.Row
seen r = record { line = r.line; parent = r.parent; depth = r.depth; above = r.above.items; is_last = r.is_last }

-- each row with its bars
abbrev pub seen_all : List Row → List spec.Row
seen_all rows = map seen rows

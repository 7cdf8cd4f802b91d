-- The values of several vectors.
use Rattle.std.specs.Prelude.{List, Vec, flat_map}
use Rattle.std.specs.declared.alloc.Global.{Global}

-- the values of several vectors, one vector after another
abbrev pub joined : {S : Type 0} → List (Vec S Global) → List S
joined vectors = flat_map (λ v. v.items) vectors

use Rattle.std.proofs.Common.{◌≡◌, ◌++◌, codes, take}
use Rattle.std.specs.List.{flat_map}
use Rattle.picture_text.specs.Dot.{edge}
use Rattle.picture_text.specs.Lines.{id_at}
use Rattle.picture_text.proofs.as_dot.say_root_edges.Given as goal

-- the edges so far
abbrev pub invariant-loop-root : goal.invariant-loop-root
invariant-loop-root l = l.out.items ≡ l.initial.out.items ++ flat_map (λ root. edge (codes "root") (id_at l.file root)) (take l.root-index l.roots)

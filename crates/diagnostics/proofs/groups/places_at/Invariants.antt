use Rattle.std.proofs.Common.{◌≡◌, take, map}
use Rattle.diagnostics.specs.Groups.{picked}
use Rattle.diagnostics.proofs.groups.places_at.Given as goal

-- those so far
abbrev pub invariant-loop-index : goal.invariant-loop-index
invariant-loop-index l = l.places.items ≡ map (λ d. d.about) (picked l.diagnostics (take l.index-index l.indices))

use Rattle.std.proofs.Common.{◌≡◌, take, map}
use Rattle.diagnostics.specs.Groups.{first_saying, folded, members_of}
use Rattle.diagnostics.specs.Written.{saying}
use Rattle.diagnostics.proofs.groups.groups_of.Given as goal

-- the groups of those so far, and what each says
abbrev pub invariant-loop-index : goal.invariant-loop-index
invariant-loop-index l = (map (λ v. v.items) l.said.keys ≡ map (first_saying saying) (members_of l.diagnostics l.groups.items)) × (members_of l.diagnostics l.groups.items ≡ folded saying (take l.index l.diagnostics))

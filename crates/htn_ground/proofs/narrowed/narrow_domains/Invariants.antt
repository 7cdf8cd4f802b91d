use Rattle.std.proofs.Common.{length, ◌≡◌}
use Rattle.std.specs.List.{All}
use Rattle.std.specs.List.Sorted.{IsStrictlySortedBy}
use Rattle.std.specs.Ordering.{nat_cmp}
use Rattle.htn_ground.specs.Narrow.{Narrows}
use Rattle.htn_ground.proofs.narrowed.narrow_domains.Given as goal

-- the lists are narrowed by the literals so far
abbrev pub invariant-loop-literal : goal.invariant-loop-literal
invariant-loop-literal l = record {
  narrows : Narrows l.state l.literals l.initial.domains.items l.domains.items;
  ascending : All (IsStrictlySortedBy nat_cmp) l.domains.items;
  long : length l.domains.items ≡ length l.initial.domains.items;
}

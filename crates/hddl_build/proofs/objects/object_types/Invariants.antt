use Rattle.std.proofs.Common.{◌≡◌, map, take, length}
use Rattle.hddl_names.specs.Rows.{lists_of}
use Rattle.hddl_build.proofs.objects.object_types.Given as goal

abbrev pub invariant-loop-objects : goal.invariant-loop-objects
invariant-loop-objects l = record {
  count : length l.found.items ≡ length l.yielded;
  names : map (λ t. t.name) l.found.items ≡ take (length l.yielded) l.names;
  objects : map (λ t. t.objects) l.found.items ≡ lists_of l.yielded;
}

use Rattle.std.proofs.Common.{◌≡◌, ℕ, ◌++◌, ◌∷◌, [], take, length, get_or, nat_eq, cond}
use Rattle.std.specs.List.{list_any}
use Rattle.hddl_names.proofs.members.ObjectsByType.push_all.Given as goal

abbrev pub invariant-loop-of_type : goal.invariant-loop-of_type
invariant-loop-of_type l = record {
  count : length l.self ≡ length l.initial.self;
  lists : (k : ℕ) → get_or l.self k [] ≡ get_or l.initial.self k [] ++ cond (list_any (nat_eq k) (take l.of_type-index l.types)) (l.object ∷ []) [];
}

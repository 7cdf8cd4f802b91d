use Rattle.std.proofs.Common.{◌≡◌, ◌||◌, ℕ, false, get_or, nat_eq, take}
use Rattle.std.specs.List.{list_any}
use Rattle.htn_task.proofs.fluents.set_flags.Given as goal

abbrev pub invariant-loop-effect : goal.invariant-loop-effect
invariant-loop-effect l =
    (p : ℕ) → get_or l.flags.items p false ≡ (get_or l.initial.flags.items p false || list_any (λ a. nat_eq a.predicate p) (take l.effect-index l.effects))

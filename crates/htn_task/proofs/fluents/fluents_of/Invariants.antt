use Rattle.std.proofs.Common.{◌≡◌, ◌++◌, ℕ, false, get_or, nat_eq, take}
use Rattle.std.specs.List.{list_any}
use Rattle.htn_task.proofs.fluents.fluents_of.Given as goal

abbrev pub invariant-loop-action : goal.invariant-loop-action
invariant-loop-action l =
    (p : ℕ) → get_or l.flags.items p false ≡ list_any (λ a. list_any (λ e. nat_eq e.predicate p) (a.deletes ++ a.adds)) (take l.action-index l.action-items)

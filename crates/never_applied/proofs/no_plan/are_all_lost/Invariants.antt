use Rattle.std.proofs.Common.{◌≡◌, All, false, take}
use Rattle.std.specs.List.{list_all}
use Rattle.never_applied.specs.Fine.{is_fine}
use Rattle.never_applied.proofs.no_plan.are_all_lost.Given as goal

abbrev pub invariant-loop-initial : goal.invariant-loop-initial
invariant-loop-initial l = All (λ i. list_all (is_fine l.fine) i.network.children ≡ false) (take l.initial-index l.initials)

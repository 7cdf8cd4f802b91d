use Rattle.std.proofs.Common.{◌≡◌, All, false, take}
use Rattle.std.specs.List.{list_all}
use Rattle.never_applied.specs.Fine.{is_fine}
use Rattle.never_applied.proofs.fine.Fine.are_lost.Given as goal

abbrev pub invariant-loop-pair : goal.invariant-loop-pair
invariant-loop-pair l = All (λ p. list_all (is_fine l.self) p.1.network.children ≡ false) (take l.pair-index l.instances)

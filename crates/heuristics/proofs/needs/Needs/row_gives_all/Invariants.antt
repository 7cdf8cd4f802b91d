use Rattle.std.proofs.Common.{◌≡◌, true, All, take}
use Rattle.htn_model.specs.Literal.{atom}
use Rattle.heuristics.specs.Rows.{is_marked, literal_number}
use Rattle.heuristics.proofs.needs.Needs.row_gives_all.Given as goal

abbrev pub invariant-loop-atom : goal.invariant-loop-atom
invariant-loop-atom l = All (λ a. is_marked l.row.gives.items (literal_number l.self (atom l.is_positive a)) ≡ true) (take l.atom-index l.atoms)

use Rattle.std.proofs.Common.{◌≡◌, drop}
use Rattle.std.specs.List.{list_any}
use Rattle.htn_model.specs.Literal.{literal_eq}
use Rattle.htn_task.specs.Literals.{literal_of, literals_of}
use Rattle.heuristics.proofs.needs_check.is_among.Given as goal

abbrev pub invariant-loop-other : goal.invariant-loop-other
invariant-loop-other l =
    list_any (literal_eq (literal_of l.literal)) (literals_of (drop l.other-index l.others)) ≡ list_any (literal_eq (literal_of l.literal)) (literals_of l.others)

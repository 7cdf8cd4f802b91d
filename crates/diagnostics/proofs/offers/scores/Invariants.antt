use Rattle.std.proofs.Common.{◌≡◌, map, take}
use Rattle.diagnostics.specs.Near.{names_of, score_of}
use Rattle.diagnostics.proofs.offers.scores.Given as goal

abbrev pub invariant-loop-candidate : goal.invariant-loop-candidate
invariant-loop-candidate l = l.scores.items ≡ map (score_of l.name) (names_of (take l.candidate-index l.candidates))

use Rattle.std.proofs.Common.{◌≡◌, fold, take, None}
use Rattle.diagnostics.specs.Near.{lesser}
use Rattle.diagnostics.proofs.offers.least.Given as goal

abbrev pub invariant-loop-score : goal.invariant-loop-score
invariant-loop-score l = l.least ≡ fold lesser None (take l.score-index l.scores)

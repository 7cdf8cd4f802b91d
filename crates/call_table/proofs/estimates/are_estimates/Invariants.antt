use Rattle.std.proofs.Common.{All, take, ℕ}
use Rattle.call_table.specs.Estimates.{IsSupported}
use Rattle.call_table.specs.declared.site.Site.{Site}
use Rattle.call_table.proofs.estimates.are_estimates.Given as goal

abbrev pub invariant-loop-k : goal.invariant-loop-k
invariant-loop-k l = All (λ (p : Site × ℕ). IsSupported l.lists l.table l.ends l.cap l.values p.0 p.1) (take l.k l.values.entries)

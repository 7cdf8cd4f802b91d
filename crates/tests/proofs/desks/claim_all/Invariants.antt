use Rattle.std.proofs.Common.{◌≡◌}
use Rattle.tests.proofs.desks.claim_all.Given as goal

abbrev pub invariant-loop : goal.invariant-loop
invariant-loop l = l.pass.desk ≡ l.desk

use Rattle.std.proofs.Common.{arith}
use Rattle.std.proofs.lemmas.List.Elements.{All-from_get_or}
use Rattle.hddl_uses.proofs.Circling.{Rises, acyclic}
use Rattle.hddl_uses.proofs.cycles.all_rise.Goals as goal

pub returns : goal.returns
returns c _ =
    acyclic c.args.ranks.now c.args.pairs.now
    (All-from_get_or (Rises c.args.ranks.now) c.args.pairs.now (0, 0) (λ k below. c.loop-pair.invariant k (omega arith)))

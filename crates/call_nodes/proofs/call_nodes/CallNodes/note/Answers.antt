use Rattle.std.proofs.Common.{refl}
use Rattle.std.specs.Vec.{with_item}
use Rattle.call_nodes.proofs.Keeping.{with_operator}
use Rattle.call_nodes.proofs.call_nodes.CallNodes.note.Goals as goal

pub returns-then-place-len-clause-own : goal.returns-then-place-len-clause-own
returns-then-place-len-clause-own c = λ t x own at is.
    with_operator t c.args.self.now own (record c.args.self.now { operators = with_item c.args.self.now.operators c.args.place c.args.operator }) c.args.place x c.args.operator refl refl at is

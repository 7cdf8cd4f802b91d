use Rattle.std.proofs.Common.{◌++◌, sym, subst, get_or, refl, arith}
use Rattle.htn_order.specs.Closure.{IsClosureOf, successors}
use Rattle.htn_order.proofs.Successors.{ascends_more, chain_acyclic, chain_closure, chain_cycle}
use Rattle.htn_order.proofs.closure.close_chain.Goals as goal

pub loop-k-init : goal.loop-k-init
loop-k-init c j low = absurd (omega arith)

pub returns-then-pair-clause-fault : goal.returns-then-pair-clause-fault
returns-then-pair-clause-fault c =
    let pair = get_or c.args.pairs.now c.loop-k.k (0, 0) in
    chain_cycle c.args.size c.args.pairs.now c.loop-k.k pair.0 pair.1 c.requires c.loop-k-test.true refl c.if-pair.true

pub loop-k-preserved : goal.loop-k-preserved
loop-k-preserved c = ascends_more c.args.pairs.now c.loop-k.k c.loop-k.invariant c.if-pair.false

pub returns-clause-closure : goal.returns-clause-closure
returns-clause-closure c =
    subst (IsClosureOf (successors c.args.size ++ c.args.pairs.now)) (sym c.chain.ensures)
    (chain_closure c.args.size c.args.pairs.now c.loop-k.k c.requires c.loop-k-test.false c.loop-k.invariant)

pub returns-clause-acyclic : goal.returns-clause-acyclic
returns-clause-acyclic c = chain_acyclic c.args.size c.args.pairs.now c.loop-k.k c.requires c.loop-k-test.false c.loop-k.invariant

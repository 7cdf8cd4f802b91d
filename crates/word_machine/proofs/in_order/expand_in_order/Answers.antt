use Rattle.std.proofs.Common.{◌≡◌, List, ◌++◌, sym, subst, arith}
use Rattle.std.proofs.lemmas.Option.{MatchOption-at_some, MatchOption-at_none}
use Rattle.word_machine.specs.Level.{AreSuccessors}
use Rattle.word_machine.proofs.PieceRanks.{no_ranks, one_more, of_each}
use Rattle.word_machine.proofs.in_order.expand_in_order.Goals as goal

pub loop-rank-init : goal.loop-rank-init
loop-rank-init g c =
    let has_successors = g.W.Expand.has_successors c.args.work.now in
    subst (AreSuccessors has_successors c.args.first c.args.first) (sym c.new-successors.ensures.items) (no_ranks has_successors c.args.first)

pub loop-rank-preserved : goal.loop-rank-preserved
loop-rank-preserved g c =
    let has_successors = g.W.Expand.has_successors c.args.work.now in
    let rank = c.loop-rank.rank in
    let before = c.loop-rank.successors.items in
    let grown = c.expand.new.successors.items in
    let added : (more : List g.row.W-Successor.Denot) × (grown ≡ before ++ more) × has_successors rank more = MatchOption-at_none _ _ c.in_default.is c.in_ok-finish.ensures.whole in
    one_more has_successors c.args.first rank before added.0 grown c.loop-rank.invariant added.2 added.1

pub returns-in-Some : goal.returns-in-Some
returns-in-Some g c =
    let has_successors = g.W.Expand.has_successors c.args.work.now in
    let rank = c.loop-rank.rank in record {
      from_first = c.loop-rank.auto.rank;
      before_last = c.loop-rank-test.true;
      finishes_so = MatchOption-at_some _ _ _ c.in-Some.is c.in_ok-finish.ensures.done;
      before = of_each has_successors c.args.first rank c.loop-rank.successors.items c.loop-rank.invariant;
    }

pub returns : goal.returns
returns g c =
    let whole : c.loop-rank.rank ≡ c.args.last = omega (arith, c.requires.ordered, c.loop-rank.auto.rank-end, c.loop-rank-test.false) in
    subst (λ rank. AreSuccessors (g.W.Expand.has_successors c.args.work.now) c.args.first rank c.loop-rank.successors.items) whole c.loop-rank.invariant

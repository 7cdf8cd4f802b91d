use Rattle.call_nodes.proofs.Keeping.{more_with_lists, with_lists}
use Rattle.call_nodes.proofs.call_nodes.CallNodes.append.Goals as goal

pub returns-clause-own : goal.returns-clause-own
returns-clause-own c = λ t own. with_lists t c.args.self.now own c.append.new.self c.in_ok-list.ensures.lists c.in_ok-list.ensures.counts

pub returns-clause-more : goal.returns-clause-more
returns-clause-more c = λ t own. more_with_lists t c.args.self.now own c.append.new.self c.in_ok-list.ensures.lists

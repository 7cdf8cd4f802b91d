use Rattle.call_nodes.proofs.Keeping.{more_with_states, with_states}
use Rattle.call_nodes.proofs.call_nodes.CallNodes.keep_state.Goals as goal

pub returns-clause-own : goal.returns-clause-own
returns-clause-own c = λ t own.
    (let numbered = c.in_ok-number.ensures in
    with_states t c.args.self.now own c.keep.new.self numbered.grown c.args.state numbered.numbering.distinct
    numbered.others c.requires)

pub returns-clause-more : goal.returns-clause-more
returns-clause-more c = λ t own. more_with_states t c.args.self.now own c.keep.new.self c.in_ok-number.ensures.grown

pub returns-clause-number : goal.returns-clause-number
returns-clause-number c = c.in_ok-number.ensures.number

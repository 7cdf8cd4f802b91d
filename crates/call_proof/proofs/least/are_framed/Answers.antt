use Rattle.call_proof.proofs.least.are_framed.Goals as goal

pub returns : goal.returns
returns c = λ is.
    record {
      reads = c.in_ok-are_frames.ensures c.if-not-branch.false;
      rules = c.in_ok-are_rules.ensures c.if-not-branch-2.false c.args.task.now c.requires;
      closed = c.in_ok-are_closed_in.ensures c.if-not-branch-3.false c.requires.atoms.table;
      whole_rules = c.in_ok-are_rules-2.ensures c.if-not-branch-4.false c.args.task.now c.requires;
      lifted = c.in_ok-are.ensures is c.requires.atoms.table;
    }

use Rattle.hddl_warnings.proofs.messages.push_diagnostic.Goals as goal

pub returns : goal.returns
returns c = (c.in_ok-made.made, c.in_ok-made.ensures, c.in_ok-push.ensures.items)

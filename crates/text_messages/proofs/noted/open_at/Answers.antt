use Rattle.hddl_words.specs.Faults.{Leads}
use Rattle.text_messages.proofs.Leading.{of_taken}
use Rattle.text_messages.proofs.noted.open_at.Goals as goal

pub returns : goal.returns
returns c = of_taken (Leads 0) c.args.words.now c.args.index _ c.open_after.ensures

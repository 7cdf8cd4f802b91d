use Rattle.plan_text.proofs.Adding.{one_added}
use Rattle.plan_text.proofs.ids.add.Goals as goal

pub returns : goal.returns
returns c = one_added c.args.id c.args.ids.now.keys c.insert.new.self.keys c.in_ok-added.added c.requires c.in_ok-added.ensures.added c.in_ok-added.ensures.keys

use Rattle.htn_order.proofs.WordBits.{is_set-spliced}
use Rattle.htn_order.proofs.words.spliced.Goals as goal

pub returns : goal.returns
returns c = λ i h. rw c.ones.ensures (is_set-spliced c.args.word c.args.at c.args.count c.args.middle i c.requires.short h)

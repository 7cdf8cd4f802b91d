use Rattle.network_table.proofs.Tables.{more_then}
use Rattle.network_table.proofs.table.NetworkTable.keep.Goals as goal

pub returns-clause-more : goal.returns-clause-more
returns-clause-more c = more_then c.args.self.now c.keep_entry-2.new.self c.keep_before.new.self c.in_ok-end.ensures.more c.in_ok-number.ensures.more

pub returns-clause-sound : goal.returns-clause-sound
returns-clause-sound c = λ live old. c.in_ok-number.ensures.sound live (c.in_ok-end.ensures.sound live old)

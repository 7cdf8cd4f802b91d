use Rattle.network_table.specs.Drafts.{AreMade, AreNoted}
use Rattle.network_table.proofs.table.NetworkTable.make_shard.Given as goal

abbrev pub invariant-loop-at : goal.invariant-loop-at
invariant-loop-at l = AreMade l.self l.jobs l.made.networks.items l.made.places.items × AreNoted l.self l.jobs l.made.noted.items

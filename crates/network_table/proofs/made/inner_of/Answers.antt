use Rattle.network_table.proofs.Drafting.{inner_some}
use Rattle.network_table.proofs.made.inner_of.Goals as goal

pub returns-clause-value : goal.returns-clause-value
returns-clause-value c = inner_some c.args.instances.now c.args.instance c.in-Some.place c.index-instances-place.result c.in-Some.is c.if-place-instances.false c.index-instances-place.is

use Rattle.network_table.proofs.Growing.{numbers_stay}
use Rattle.network_table.proofs.laws.numbers_stay.Goals as goal

pub returns : goal.returns
returns c = numbers_stay

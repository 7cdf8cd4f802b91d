use Rattle.plan_text.proofs.Planting.{forests_are_trees}
use Rattle.plan_text.proofs.forest_laws.forests_are_trees.Goals as goal

pub returns : goal.returns
returns c = record { trees = forests_are_trees }

use Rattle.plan_text.proofs.Cutting.{few_lines}
use Rattle.plan_text.proofs.cut.Lines.again.Goals as goal

pub returns-clause-few : goal.returns-clause-few
returns-clause-few c = few_lines c.self.inside.count c.self.inside.place c.self.inside.rest.now c.self.invariant

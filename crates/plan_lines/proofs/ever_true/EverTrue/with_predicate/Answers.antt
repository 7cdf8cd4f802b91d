use Rattle.plan_lines.proofs.ever_true.EverTrue.with_predicate.Goals as goal

pub at-requires : goal.at-requires
at-requires c = c.self.invariant.as_many

use Rattle.std.proofs.Common.{subst}
use Rattle.std.specs.List.{IsDistinct}
use Rattle.hddl_meaning.specs.Names.{is_same_text}
use Rattle.hddl_names.proofs.Vectors.{distinct_texts}
use Rattle.hddl_names.proofs.names.Names.len.Goals as goal

pub returns-clause-different : goal.returns-clause-different
returns-clause-different c = subst (IsDistinct is_same_text) c.self.view_is (distinct_texts c.self.inside.texts.keys c.len.ensures.unique)

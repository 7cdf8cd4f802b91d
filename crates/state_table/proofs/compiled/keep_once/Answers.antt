use Rattle.std.proofs.Common.{◌∙◌, ap}
use Rattle.std.specs.List.{list_all}
use Rattle.std.proofs.lemmas.List.Filters.{dedup_is}
use Rattle.state_table.proofs.Repeats.{once_pass, reordered_pass}
use Rattle.state_table.proofs.compiled.keep_once.Goals as goal

pub returns : goal.returns
returns c = λ test.
    ap (list_all test) (dedup_is _ _ _ c.dedup.ensures.filtered)
    ∙ once_pass test _
    ∙ reordered_pass test _ _ c.sort_unstable.ensures.permutation

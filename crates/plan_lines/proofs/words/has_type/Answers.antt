use Rattle.std.proofs.Common.{◌∙◌, List, ap, nat_eq, ℕ}
use Rattle.std.specs.List.{list_any}
use Rattle.htn_task.proofs.Found.{found}
use Rattle.plan_lines.proofs.words.has_type.Goals as goal

pub returns : goal.returns
returns c =
    c.is_ok.ensures.value
    ∙ found c.objects_of.result.now c.args.object _ c.objects_of.ensures.ascending c.binary_search.ensures.bound c.binary_search.ensures.position
    ∙ ap (λ (l : List ℕ). list_any (nat_eq c.args.object) l) c.objects_of.ensures.value

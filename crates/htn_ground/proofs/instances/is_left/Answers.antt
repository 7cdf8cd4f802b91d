use Rattle.std.proofs.Common.{◌≡◌, ◌∙◌, ◌&&◌, ap, nat_eq, sym}
use Rattle.std.specs.List.{list_any}
use Rattle.htn_task.proofs.Found.{found}
use Rattle.htn_ground.specs.Search.{singles_of}
use Rattle.htn_ground.proofs.instances.is_left.Goals as goal

pub returns-else-is_ok : goal.returns-else-is_ok
returns-else-is_ok c =
    let objects = c.args.objects.now in
    let stands : c.is_ok.result ≡ list_any (nat_eq c.args.object) objects =
    c.is_ok.ensures.value ∙ found objects c.args.object _ c.requires c.binary_search.ensures.bound c.binary_search.ensures.position in
    c.if-is_ok.false ∙ ap (λ b. b && singles_of c.args.task.now c.args.conditions.now c.args.at c.args.object) (sym c.if-is_ok.false ∙ stands)

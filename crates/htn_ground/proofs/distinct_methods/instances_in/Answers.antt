use Rattle.std.proofs.Common.{◌≡◌, ◌∙◌, map, rules}
use Rattle.std.proofs.lemmas.List.{map-id}
use Rattle.htn_model.specs.Instance.{Instance}
use Rattle.htn_ground.proofs.distinct_methods.instances_in.Goals as goal

pub returns : goal.returns
returns c =
    let items : c.in_ok-instances.instances.items ≡ map (λ (x : Instance). x) c.args.found.keys = search rules in
    items ∙ map-id c.args.found.keys

use Rattle.std.proofs.Common.{◌≡◌, ◌∙◌, ◌+◌, ◌∷◌, ◌++◌, [], List, map, take, sym, ap, subst}
use Rattle.std.proofs.lemmas.List.{map_push, take_more}
use Rattle.htn_model.specs.Instance.{Instance}
use Rattle.htn_model.specs.Problem.{Network}
use Rattle.task_graph.specs.Growth.{HasNetworks}
use Rattle.task_graph.proofs.Growing.{networks_none, networks_then}
use Rattle.task_graph.proofs.graph.TaskGraph.add_networks.Goals as goal

pub loop-instance-preserved : goal.loop-instance-preserved
loop-instance-preserved c =
    let t = c.args.task.now in
    let id = c.args.id.index in
    let old = c.loop-instance.self in
    let new = c.add_network.new.self in
    let instances = c.args.instances.now in
    let k = c.loop-instance.instance-index in
    let item = c.instance-item.result in
    let done : List Network = map (λ (i : Instance). i.network) (take k instances) in
    let longer : map (λ (i : Instance). i.network) (take (k + 1) instances) ≡ done ++ item.network ∷ [] =
    ap (map (λ (i : Instance). i.network)) (take_more instances k item c.loop-instance-test.true ∙ ap (λ x. take k instances ++ x ∷ []) (sym c.instance-item.is))
    ∙ map_push (λ (i : Instance). i.network) (take k instances) item in
    subst (λ (ns : List Network). HasNetworks t id ns c.args.self.now new) (sym longer)
    (networks_then t id done (item.network ∷ []) c.args.self.now old new c.loop-instance.invariant c.in_ok-add_network.ensures)

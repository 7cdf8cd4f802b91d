use Rattle.std.proofs.Common.{◌+◌, ◌++◌, ◌∷◌, [], List, map, take, refl, sym, subst}
use Rattle.std.proofs.lemmas.List.Elements.{All-nil}
use Rattle.htn_model.specs.Instance.{Instance}
use Rattle.htn_model.specs.Problem.{Network}
use Rattle.network_table.specs.Networks.{children}
use Rattle.network_table.specs.Numbered.{IsWithin, Numbered}
use Rattle.task_machine.specs.Growing.{StandFor}
use Rattle.task_machine.proofs.Wider.{map_take_more, stand_push, stand_still, wider_itself, wider_then}
use Rattle.task_machine.proofs.instances.number_networks.Goals as goal

pub loop-instance-init : goal.loop-instance-init
loop-instance-init c = record {
  wider = wider_itself c.args.networks.now c.requires.whole;
  sized = c.requires.sized;
  networks = subst (λ (ns : List Numbered). StandFor c.args.networks.now ns []) (sym c.in_ok-found.ensures.items) (All-nil (IsWithin (children c.args.networks.now)), refl);
}

pub loop-instance-preserved : goal.loop-instance-preserved
loop-instance-preserved c =
    let t = c.loop-instance.networks in
    let u = c.number_network.new.networks in
    let i = c.loop-instance.invariant in
    let k = c.loop-instance.instance-index in
    let instances = c.args.instances.now in
    let instance = c.instance-item.result in
    let found = c.loop-instance.found.items in
    let network = c.in_ok-network.network in
    let before = map (λ (x : Instance). x.network) (take k instances) in
    let wider = c.in_ok-network.ensures.wider in record {
      wider = wider_then c.args.networks.now t u i.wider wider;
      sized = c.in_ok-network.ensures.sized;
      networks = subst (λ (ns : List Numbered). StandFor u ns (map (λ (x : Instance). x.network) (take (k + 1) instances))) (sym c.in_ok-push.ensures.items)
          (subst (λ (l : List Network). StandFor u (found ++ network ∷ []) l) (sym (map_take_more (λ (x : Instance). x.network) instances k instance c.loop-instance-test.true c.instance-item.is))
          (stand_push u found before network instance.network (stand_still t u wider.grown found before i.networks) c.in_ok-network.ensures.network));
    }

use Rattle.std.proofs.Common.{◌≡◌, ◌∙◌, ◌++◌, ◌∷◌, [], List, All, map, refl, sym, ap, ap₂, subst}
use Rattle.std.proofs.lemmas.List.{map_push}
use Rattle.std.proofs.lemmas.List.Elements.{All-nil, All-push}
use Rattle.htn_model.specs.Instance.{Instance}
use Rattle.htn_model.specs.Problem.{Network}
use Rattle.network_table.specs.Networks.{Knows, network_at}
use Rattle.network_table.proofs.Expanding.{all_more, map_all}
use Rattle.task_machine.specs.declared.configuration.Configuration.{Configuration}
use Rattle.task_machine.proofs.Wider.{at_still, map_take_more, wider_itself, wider_then}
use Rattle.task_machine.proofs.instances.configurations_of.Goals as goal

pub loop-instance-init : goal.loop-instance-init
loop-instance-init c =
    let t = c.args.networks.now in
    let none = c.in_ok-configurations.ensures.items in record {
      wider = wider_itself t c.requires.whole;
      sized = c.requires.sized;
      states = subst (All (λ (x : Configuration). x.state ≡ c.args.state)) (sym none) (All-nil (λ (x : Configuration). x.state ≡ c.args.state));
      known = subst (All (λ (x : Configuration). Knows t x.network)) (sym none) (All-nil (λ (x : Configuration). Knows t x.network));
      networks = ap (map (λ (x : Configuration). network_at t x.network)) none;
    }

pub loop-instance-preserved : goal.loop-instance-preserved
loop-instance-preserved c =
    let t = c.loop-instance.networks in
    let u = c.keep_network.new.networks in
    let i = c.loop-instance.invariant in
    let k = c.loop-instance.instance-index in
    let instances = c.args.instances.now in
    let instance = c.instance-item.result in
    let old = c.loop-instance.configurations.items in
    let new : Configuration = record { state = c.args.state; network = c.in_ok-network.network } in
    let wider = c.in_ok-network.ensures.wider in
    let number = c.in_ok-network.ensures.number in
    let pushed = c.in_ok-push.ensures.items in
    let has_state : Configuration → Type 0 = λ x. x.state ≡ c.args.state in
    let known_in_t : Configuration → Type 0 = λ x. Knows t x.network in
    let known_in_u : Configuration → Type 0 = λ x. Knows u x.network in
    let in_t : Configuration → Network = λ x. network_at t x.network in
    let in_u : Configuration → Network = λ x. network_at u x.network in record {
      wider = wider_then c.args.networks.now t u i.wider wider;
      sized = c.in_ok-network.ensures.sized;
      states = subst (All has_state) (sym pushed) (All-push has_state old new i.states refl);
      known = subst (All known_in_u) (sym pushed)
          (All-push known_in_u old new (all_more known_in_t known_in_u (λ x known. (at_still t u wider.grown i.wider.whole x.network (in_t x) (known, refl)).0) old i.known) number.0);
      networks = ap (map in_u) pushed ∙ map_push in_u old new
          ∙ ap₂ (λ (l : List Network) (n : Network). l ++ n ∷ [])
          (map_all known_in_t in_u in_t (λ x known. (at_still t u wider.grown i.wider.whole x.network (in_t x) (known, refl)).1) old i.known ∙ i.networks) number.1
          ∙ sym (map_take_more (λ (x : Instance). x.network) instances k instance c.loop-instance-test.true c.instance-item.is);
    }

use Rattle.std.proofs.Common.{◌≡◌, ◌∙◌, ◌+◌, ◌++◌, ◌∷◌, [], suc, List, ap, ap₂, arith, map, sym, take, get_or}
use Rattle.std.proofs.Math.Seq.{take-suc}
use Rattle.std.proofs.lemmas.List.{map_push, take_all}
use Rattle.htn_model.specs.Choice.{child_of}
use Rattle.htn_model.specs.Problem.{Child}
use Rattle.htn_ground.specs.Views.{child_view}
use Rattle.network_table.specs.Networks.{children}
use Rattle.task_machine.proofs.listing.nodes_of.Goals as goal

pub loop-id-preserved : goal.loop-id-preserved
loop-id-preserved c =
    let view = child_of (children c.args.networks.now) in
    let ids = c.args.ids.now in
    let k = c.loop-id.id-index in
    let e : k + 1 ≡ suc k = omega arith in
    let more : map view (take (k + 1) ids) ≡ map view (take k ids) ++ view (get_or ids k 0) ∷ [] =
    ap (λ j. map view (take j ids)) e ∙ ap (map view) (take-suc ids k 0 c.loop-id-test.true) ∙ map_push view (take k ids) (get_or ids k 0) in
    c.in_ok-push.ensures.ok
    ∙ ap₂ (λ (l : List Child) (n : Child). l ++ n ∷ []) c.loop-id.invariant (ap child_view c.in_ok-clone.ensures.cases ∙ c.child.ensures)
    ∙ sym more

pub returns : goal.returns
returns c = c.loop-id.invariant ∙ ap (map (child_of (children c.args.networks.now))) (take_all c.loop-id.id-index c.args.ids.now c.loop-id-test.false)

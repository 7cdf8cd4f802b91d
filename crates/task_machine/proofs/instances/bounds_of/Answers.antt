use Rattle.std.proofs.Common.{ℕ, List, ◌∙◌, ◌++◌, ◌∷◌, [], ap, ap₂, map, sym}
use Rattle.std.proofs.lemmas.List.{take_all}
use Rattle.std.proofs.lemmas.Simd.{map-map}
use Rattle.htn_ground.specs.Views.{child_view}
use Rattle.htn_ground.specs.declared.child.Child.{Child}
use Rattle.heuristics.specs.Sizes.{size_of}
use Rattle.task_machine.proofs.Wider.{map_take_more}
use Rattle.task_machine.proofs.instances.bounds_of.Goals as goal

pub loop-node-preserved : goal.loop-node-preserved
loop-node-preserved c =
    let size : Child → ℕ = λ n. size_of c.args.sizes.now (child_view n) in
    let k = c.loop-node.node-index in
    c.in_ok-push.ensures.items
    ∙ ap₂ (λ (l : List ℕ) (n : ℕ). l ++ n ∷ []) c.loop-node.invariant c.size.ensures
    ∙ sym (map_take_more size c.args.nodes.now k c.node-item.result c.loop-node-test.true c.node-item.is)

pub returns : goal.returns
returns c =
    let size : Child → ℕ = λ n. size_of c.args.sizes.now (child_view n) in
    c.loop-node.invariant
    ∙ ap (map size) (take_all c.loop-node.node-index c.args.nodes.now c.loop-node-test.false)
    ∙ sym (map-map (size_of c.args.sizes.now) child_view c.args.nodes.now)

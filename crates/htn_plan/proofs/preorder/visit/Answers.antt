use Rattle.std.proofs.Common.{◌≡◌, List, [], ◌∷◌, ◌∙◌, refl, sym, ap}
use Rattle.htn_ground.specs.declared.node.Node.{Node}
use Rattle.htn_ground.specs.Trees.{Numbering, nodes_view}
use Rattle.htn_plan.specs.Preorder.{action, task}
use Rattle.htn_model.specs.Tree.{leaf, step, nodes_of}
use Rattle.htn_plan.specs.Ids.{id_of}
use Rattle.htn_plan.specs.Walk.{Level, place_of}
use Rattle.htn_plan.specs.Items.{levels_of}
use Rattle.htn_plan.proofs.Forests.{compound_seen, leaf_seen, step_seen}
use Rattle.htn_plan.proofs.Walks.{compound_visited, compound_fewer, simple_visited}
use Rattle.htn_plan.proofs.preorder.visit.Goals as goal

abbrev level_with : Numbering → List Node → Level
level_with numbers xs = record { taken = 0; rest = nodes_of (nodes_view numbers xs) }

pub returns-in_ok-push-in-Compound-2-clause-items : goal.returns-in_ok-push-in-Compound-2-clause-items
returns-in_ok-push-in-Compound-2-clause-items c = λ numbers.
    rw (c.in-Compound.is, compound_seen numbers c.in-Compound.goal c.in-Compound.instance c.in-Compound.children)
    (compound_visited numbers c.args.frames.now.items c.push-in-Compound-2.new.self.items _ c.in-Compound.goal (numbers c.in-Compound.goal c.in-Compound.instance) c.in-Compound.children.items
    c.in_ok-push-in-Compound-2.ensures.items (ap (level_with numbers) c.deref-in-Compound.ensures.value)
    (id_of c.args.ids.now) c.args.items.now.items c.push-in-Compound.new.self.items _ c.in_ok-push-in-Compound.ensures.items
    (ap (task c.in-Compound.goal (numbers c.in-Compound.goal c.in-Compound.instance)) (c.len.ensures ∙ c.in-Compound.children.ok.0)))

pub returns-in_ok-push-in-Compound-2-clause-fewer : goal.returns-in_ok-push-in-Compound-2-clause-fewer
returns-in_ok-push-in-Compound-2-clause-fewer c = λ numbers.
    rw (c.in-Compound.is, compound_seen numbers c.in-Compound.goal c.in-Compound.instance c.in-Compound.children)
    (compound_fewer numbers c.args.frames.now.items c.push-in-Compound-2.new.self.items _ c.in-Compound.goal (numbers c.in-Compound.goal c.in-Compound.instance) c.in-Compound.children.items
    c.in_ok-push-in-Compound-2.ensures.items (ap (level_with numbers) c.deref-in-Compound.ensures.value))

pub returns-in_ok-push-in-Leaf-clause-items : goal.returns-in_ok-push-in-Leaf-clause-items
returns-in_ok-push-in-Leaf-clause-items c = λ numbers.
    let place : c.in_ok-place-in-Leaf.place.items ≡ place_of (levels_of numbers c.args.frames.now.items) =
    c.in_ok-place-in-Leaf.ensures numbers ∙ ap (λ frames. place_of (levels_of numbers frames)) c.deref.ensures.value in
    rw (c.in-Leaf.is, leaf_seen numbers c.in-Leaf.field-0)
    (simple_visited numbers (id_of c.args.ids.now) c.args.frames.now.items c.args.items.now.items c.push.new.self.items _ (leaf c.in-Leaf.field-0) c.in_ok-push-in-Leaf.ensures.items
    (ap (λ id. action id ∷ []) (sym (c.get.ensures ∙ ap (id_of c.args.ids.now) (c.deref-in-Leaf.ensures.value ∙ place)))))

pub returns-in_ok-push-in-Step-clause-items : goal.returns-in_ok-push-in-Step-clause-items
returns-in_ok-push-in-Step-clause-items c = λ numbers.
    rw (c.in-Step.is, step_seen numbers c.in-Step.field-0)
    (simple_visited numbers (id_of c.args.ids.now) c.args.frames.now.items c.args.items.now.items c.push-in-Step.new.self.items _ (step c.in-Step.field-0) c.in_ok-push-in-Step.ensures.items refl)

use Rattle.std.proofs.Common.{◌≡◌, ◌∙◌, ◌++◌, ◌∷◌, [], ap, arith, refl, ℕ}
use Rattle.std.specs.Ordering.{on}
use Rattle.indexmap.specs.IndexSet.{insert_key}
use Rattle.htn_ground.specs.Views.{child_view}
use Rattle.htn_ground.specs.declared.child.Child.{Child as Node}
use Rattle.htn_model.specs.Problem.{child_eq}
use Rattle.heuristics.specs.Sizes.{size_of}
use Rattle.call_nodes.specs.Nodes.{children}
use Rattle.call_nodes.specs.declared.call_nodes.CallNodes.{CallNodes}
use Rattle.call_nodes.proofs.Keeping.{more_with_node, node_last, number_of_new, with_node}
use Rattle.call_nodes.proofs.call_nodes.CallNodes.add.Goals as goal

-- the nodes at the end
abbrev after : (c : goal.In_ok-number) → CallNodes
after c = record c.args.self.now { atoms = c.operator_of.new.atoms; nodes = c.insert.new.self; operators = c.push.new.self; lists = c.add_node.new.self }

-- the new node goes last
keys_are : (c : goal.In_ok-number) → c.insert.new.self.keys ≡ c.args.self.now.nodes.keys ++ c.args.node.now ∷ []
keys_are c =
    c.in_ok-insert.ensures.keys ∙ ap (λ (v : Node). insert_key (on child_view child_eq) c.args.self.now.nodes.keys v) c.in_ok-clone.ensures.cases
    ∙ node_last c.args.self.now.nodes.keys c.args.node.now c.requires.none

-- and its size
counts_are : (c : goal.In_ok-number) → c.add_node.new.self.counts ≡ c.args.self.now.lists.counts ++ size_of c.args.self.now.sizes.now (child_view c.args.node.now) ∷ []
counts_are c =
    let is = c.from-size.ensures in
    let given = c.size.ensures in
    let size : c.from-size.result ≡ size_of c.args.self.now.sizes.now (child_view c.args.node.now) = omega (arith, is, given) in
    c.in_ok-number.ensures.counts ∙ ap (λ (s : ℕ). c.args.self.now.lists.counts ++ s ∷ []) size

pub returns-clause-own : goal.returns-clause-own
returns-clause-own c =
    with_node c.args.task.now c.args.self.now c.requires.own (after c) c.args.node.now c.in_ok-operator.ensures.later (keys_are c) c.in_ok-number.ensures.lists c.in_ok-operator.operator refl
    c.in_ok-push.ensures.items (counts_are c) c.requires.none (c.in_ok-operator.ensures.operator (children (after c)) c.add_node.new.self)

pub returns-clause-more : goal.returns-clause-more
returns-clause-more c =
    more_with_node c.args.task.now c.args.self.now c.requires.own (after c) c.args.node.now c.in_ok-operator.ensures.later (keys_are c) c.in_ok-number.ensures.lists refl

pub returns-clause-number : goal.returns-clause-number
returns-clause-number c =
    number_of_new c.args.task.now c.args.self.now c.requires.own (after c) c.args.node.now c.in_ok-operator.ensures.later (keys_are c) c.in_ok-number.ensures.lists c.in_ok-number.number c.in_ok-number.ensures.number

use Rattle.std.proofs.Common.{◌∙◌, List, ap}
use Rattle.std.specs.Cmp.Lexicographic.{pointwise, pointwise_decides}
use Rattle.htn_model.specs.Problem.{Child, child_eq}
use Rattle.htn_model.specs.Equality.{child_eq-decides}
use Rattle.htn_task.proofs.Equal.{pointwise-map, told}
use Rattle.htn_ground.specs.Hashes.{children_eq}
use Rattle.htn_ground.specs.Views.{child_view, children_of}
use Rattle.htn_ground.proofs.child.ChildListPartialEq.eq.Goals as goal

pub returns-clause-value : goal.returns-clause-value
returns-clause-value c =
    c.eq.ensures
    ∙ pointwise-map child_view child_eq c.self.inside.children.items c.other.inside.children.items
    ∙ ap (λ (l : List Child). pointwise child_eq l (children_of c.other.inside.children.items)) c.self.view_is
    ∙ ap (λ (l : List Child). pointwise child_eq c.args.self.now l) c.other.view_is

pub returns-clause-same : goal.returns-clause-same
returns-clause-same c =
    told c.eq.result (children_eq c.args.self.now c.args.other.now) (returns-clause-value c) (pointwise_decides child_eq-decides c.args.self.now c.args.other.now)

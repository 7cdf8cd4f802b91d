use Rattle.std.proofs.Common.{◌∙◌, List, ap}
use Rattle.std.specs.Cmp.Lexicographic.{pointwise, pointwise_decides}
use Rattle.htn_model.specs.Literal.{Literal, literal_eq}
use Rattle.htn_model.specs.Equality.{literal_eq-decides}
use Rattle.htn_task.specs.Literals.{literal_of, literals_eq, literals_of}
use Rattle.htn_task.proofs.Equal.{pointwise-map, told}
use Rattle.htn_task.proofs.literal.LiteralListPartialEq.eq.Goals as goal

pub returns-clause-value : goal.returns-clause-value
returns-clause-value c =
    c.eq.ensures
    ∙ pointwise-map literal_of literal_eq c.self.inside.literals.items c.other.inside.literals.items
    ∙ ap (λ (l : List Literal). pointwise literal_eq l (literals_of c.other.inside.literals.items)) c.self.view_is
    ∙ ap (λ (l : List Literal). pointwise literal_eq c.args.self.now l) c.other.view_is

pub returns-clause-same : goal.returns-clause-same
returns-clause-same c =
    told c.eq.result (literals_eq c.args.self.now c.args.other.now) (returns-clause-value c) (pointwise_decides literal_eq-decides c.args.self.now c.args.other.now)

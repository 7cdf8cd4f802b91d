use Rattle.std.proofs.Common.{◌≡◌, ◌++◌, ◌∙◌, List, ap, sym, ℕ}
use Rattle.std.specs.List.{flat_map}
use Rattle.std.proofs.lemmas.List.{take_all}
use Rattle.htn_model.specs.Literal.{Literal}
use Rattle.htn_model.specs.Instances.{assignments, domains_of, literals_in}
use Rattle.htn_task.specs.Literals.{literals_of}
use Rattle.htn_task.specs.declared.formula.Formula.{Formula}
use Rattle.htn_task.specs.Formulas.{formula_of, formulas_view}
use Rattle.htn_ground.proofs.Bodies.{literals-bodies, view-ForAll}
use Rattle.htn_ground.proofs.literals.+push_literals.Goals as goal

pub returns-after-loop-choice : goal.returns-after-loop-choice
returns-after-loop-choice t c =
    let task = c.args.task.now in
    let values = c.args.values.now in
    let body = formulas_view c.in-ForAll.body.items in
    let piece : List ℕ → List Literal = λ (more : List ℕ). flat_map (literals_in task (values ++ more)) body in
    let whole : literals_in task values (formula_of c.args.formula.now) ≡ flat_map piece (assignments (domains_of task c.in-ForAll.types.items)) =
    ap (λ (f : Formula). literals_in task values (formula_of f)) c.in-ForAll.is
    ∙ ap (literals_in task values) (view-ForAll c.in-ForAll.types c.in-ForAll.body)
    ∙ literals-bodies task values body (assignments (domains_of task c.in-ForAll.types.items)) in
    let all : c.deref-choice-items.result.now ≡ assignments (domains_of task c.in-ForAll.types.items) =
    c.deref-choice-items.ensures.value ∙ c.in_ok-choices-in-ForAll.ensures ∙ ap (λ (types : List ℕ). assignments (domains_of task types)) c.deref.ensures.value in
    c.loop-choice.invariant
    ∙ ap (λ (l : List (List ℕ)). literals_of c.args.found.now.items ++ flat_map piece l) (take_all c.loop-choice.choice-index c.deref-choice-items.result.now c.loop-choice-test.false ∙ all)
    ∙ ap (λ (l : List Literal). literals_of c.args.found.now.items ++ l) (sym whole)

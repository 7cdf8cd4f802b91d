use Rattle.std.proofs.Common.{◌∙◌, ◌||◌, ◌++◌, Bool, List, false, get_or, nat_eq, take, sym, ap, ap₂, arith}
use Rattle.std.specs.List.{list_any}
use Rattle.std.proofs.lemmas.List.{take_all}
use Rattle.std.proofs.lemmas.List.Folds.{list_any-append, list_any_more}
use Rattle.htn_model.specs.Schema.{AtomSchema}
use Rattle.htn_model.specs.Task.{ActionSchema, Task}
use Rattle.htn_task.proofs.Flags.{or_assoc}
use Rattle.htn_task.proofs.fluents.fluents_of.Goals as goal

pub loop-action-init : goal.loop-action-init
loop-action-init c = λ p. ap (λ l. get_or l p false) c.new-flags.ensures.items

pub loop-action-preserved : goal.loop-action-preserved
loop-action-preserved c = λ p.
    let names : AtomSchema → Bool = λ e. nat_eq e.predicate p in
    let changes : ActionSchema → Bool = λ a. list_any names (a.deletes ++ a.adds) in
    let actions = c.deref-action-items.result.now in
    let i = c.loop-action.action-index in
    let action = c.action-item.result in
    let before = list_any changes (take i actions) in
    c.in_ok-set_flags-2.ensures p
    ∙ ap (λ b. b || list_any names c.adds.result.now)
    (c.in_ok-set_flags.ensures p ∙ ap (λ b. b || list_any names c.deletes.result.now) (c.loop-action.invariant p))
    ∙ ap₂ (λ (d a : List AtomSchema). (before || list_any names d) || list_any names a) c.deletes.ensures c.adds.ensures
    ∙ or_assoc before (list_any names action.deletes) (list_any names action.adds)
    ∙ ap (λ b. before || b) (sym (list_any-append names action.deletes action.adds) ∙ ap changes c.action-item.is)
    ∙ sym (list_any_more changes actions i action c.loop-action-test.true)

pub returns : goal.returns
returns c = λ p.
    let changes : ActionSchema → Bool = λ a. list_any (λ (e : AtomSchema). nat_eq e.predicate p) (a.deletes ++ a.adds) in
    c.loop-action.invariant p
    ∙ ap (list_any changes) (take_all c.loop-action.action-index c.deref-action-items.result.now (omega (arith, c.loop-action-test.false)) ∙ c.deref-action-items.ensures.value)
    ∙ ap (λ (t : Task). list_any changes t.actions) c.parts.view_is

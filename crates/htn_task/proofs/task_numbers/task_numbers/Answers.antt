use Rattle.std.proofs.Common.{◌≡◌, ◌+◌, ◌∙◌, List, length, map, ap, subst, sym}
use Rattle.std.proofs.lemmas.List.{append-nil, length-map}
use Rattle.htn_model.specs.Schema.{Name}
use Rattle.htn_task.specs.Numbers.{AreNumbersOf}
use Rattle.htn_task.proofs.Numbering.{AreNumbersOf-more}
use Rattle.htn_task.proofs.task_numbers.task_numbers.Goals as goal

pub loop-place-init : goal.loop-place-init
loop-place-init c =
    let names : List Name = map (λ d. d.name) c.args.tasks.now in
    subst (λ l. AreNumbersOf l c.in_ok-numbers.numbers) (sym (append-nil names)) c.in_ok-numbers.ensures

pub loop-place-preserved : goal.loop-place-preserved
loop-place-preserved c =
    let names : List Name = map (λ d. d.name) c.args.tasks.now in
    let count : length names ≡ length c.args.tasks.now = length-map c.args.tasks.now (λ d. d.name) in
    let number : c.in_ok-number.number ≡ length names + c.loop-place.place =
    c.in_ok-number.ensures ∙ ap (λ n. n + c.loop-place.place) (sym count) in
    AreNumbersOf-more (λ a. a.name) names c.args.actions.now c.loop-place.place c.in_ok-number.number c.index-actions-place.result c.as_bytes.result.now c.loop-place.numbers c.add.new.self
    c.loop-place-test.true c.index-actions-place.is number (c.as_bytes.ensures.value ∙ c.name.ensures) c.loop-place.invariant c.in_ok-add.ensures

use Rattle.std.proofs.Common.{◌≡◌, ◌+◌, ◌&&◌, [], ◌∷◌, get_or, drop, None, Some, option_map, slice_get, true≢false, sym, ap, ◌∙◌, subst}
use Rattle.std.proofs.lemmas.List.{drop_more, drop_all}
use Rattle.htn_model.specs.Choice.{is_empty}
use Rattle.htn_model.specs.Grounding.{problem_of}
use Rattle.htn_model.specs.Instances.{initials}
use Rattle.htn_model.specs.Levels.{is_done}
use Rattle.htn_model.specs.Literal.{holds}
use Rattle.htn_model.specs.Machine.{Finishes, FinishesFrom, result_of, step_by}
use Rattle.htn_walk.proofs.Words.{done_from, done_back}
use Rattle.htn_walk.specs.Choices.{chosen_of}
use Rattle.htn_net.proofs.Finishing.{one_onward, one_back, stuck, no_initial, is_initial, finishes_back, finishes_onward}
use Rattle.htn_net.proofs.finish.finishes.Goals as goal

pub returns-in_default-2 : goal.returns-in_default-2
returns-in_default-2 c =
    let t = c.args.task.now in
    let none : slice_get (initials t) c.in-Some.initial.now ≡ None = sym c.in_ok-instance.ensures ∙ c.in_default-2.is in (
      (λ h. absurd (true≢false (sym h))),
      (λ h. absurd (no_initial t c.in-Some.initial.now c.in-Some.numbers.now none (subst (Finishes (problem_of t)) c.in-Some.ensures.cases.0 h))),
    )

pub start-requires : goal.start-requires
start-requires c =
    let t = c.args.task.now in
    let at : slice_get (initials t) c.in-Some.initial.now ≡ Some c.in-Some-2.instance = sym c.in_ok-instance.ensures ∙ c.in-Some-2.is in
    is_initial t c.in-Some.initial.now c.in-Some-2.instance at

pub loop-number-init : goal.loop-number-init
loop-number-init c = record { onward = λ h. h; back = λ h. h }

pub after-requires : goal.after-requires
after-requires c =
    let at = c.loop-number.config in
    (get_or c.in-Some.numbers.now c.loop-number.number-index 0, sym c.in_ok-position.ensures.choice ∙ ap (option_map (chosen_of at)) c.in-Some-3.is)

pub loop-number-preserved : goal.loop-number-preserved
loop-number-preserved c =
    let problem = problem_of c.args.task.now in
    let numbers = c.in-Some.numbers.now in
    let at = c.loop-number.config in
    let i = c.loop-number.number-index in
    let n = get_or numbers i 0 in
    let left : drop i numbers ≡ n ∷ drop (i + 1) numbers = drop_more numbers i 0 c.loop-number-test.true in
    let step : step_by problem at n ≡ Some c.in_ok-next.next =
    ap (option_map (result_of at)) (sym c.in_ok-position.ensures.choice ∙ ap (option_map (chosen_of at)) c.in-Some-3.is) ∙ ap Some (sym c.in_ok-next.ensures) in
    record {
      onward = λ h. one_onward problem at n (drop (i + 1) numbers) c.in_ok-next.next step (subst (λ l. FinishesFrom problem l at) left (c.loop-number.invariant.onward h));
      back = λ h. c.loop-number.invariant.back (subst (λ l. FinishesFrom problem l at) (sym left) (one_back problem at n (drop (i + 1) numbers) c.in_ok-next.next step h));
    }

pub returns-in_default-3 : goal.returns-in_default-3
returns-in_default-3 c =
    let t = c.args.task.now in
    let problem = problem_of t in
    let numbers = c.in-Some.numbers.now in
    let at = c.loop-number.config in
    let i = c.loop-number.number-index in
    let n = get_or numbers i 0 in
    let left : drop i numbers ≡ n ∷ drop (i + 1) numbers = drop_more numbers i 0 c.loop-number-test.true in
    let at_first : slice_get (initials t) c.in-Some.initial.now ≡ Some c.in-Some-2.instance = sym c.in_ok-instance.ensures ∙ c.in-Some-2.is in (
      (λ is. absurd (true≢false (sym is))),
      (λ h. absurd (stuck problem at n (drop (i + 1) numbers) (sym c.in_ok-position.ensures.choice ∙ ap (option_map (chosen_of at)) c.in_default-3.is)
          (subst (λ l. FinishesFrom problem l at) left (c.loop-number.invariant.onward (subst (FinishesFrom problem numbers) (sym c.in_ok-config.ensures)
          (finishes_onward t c.in-Some.initial.now c.in-Some-2.instance at_first numbers (subst (Finishes problem) c.in-Some.ensures.cases.0 h))))))),
    )

pub returns : goal.returns
returns c =
    let t = c.args.task.now in
    let problem = problem_of t in
    let numbers = c.in-Some.numbers.now in
    let at = c.loop-number.config in
    let none : drop c.loop-number.number-index numbers ≡ [] = drop_all c.loop-number.number-index numbers c.loop-number-test.false in
    let at_first : slice_get (initials t) c.in-Some.initial.now ≡ Some c.in-Some-2.instance = sym c.in_ok-instance.ensures ∙ c.in-Some-2.is in
    let done : c.is_done.result ≡ is_done problem at = c.is_done.ensures ∙ ap (λ g. is_empty at.open_nodes && holds at.state g) c.in_ok-goal.ensures in (
      (λ is. subst (Finishes problem) (sym c.in-Some.ensures.cases.0)
          (finishes_back t c.in-Some.initial.now c.in-Some-2.instance at_first numbers
          (subst (FinishesFrom problem numbers) c.in_ok-config.ensures (c.loop-number.invariant.back (subst (λ l. FinishesFrom problem l at) (sym none) (done_from problem at (sym done ∙ is))))))),
      (λ h. done ∙ done_back problem at (subst (λ l. FinishesFrom problem l at) none (c.loop-number.invariant.onward (subst (FinishesFrom problem numbers) (sym c.in_ok-config.ensures)
          (finishes_onward t c.in-Some.initial.now c.in-Some-2.instance at_first numbers (subst (Finishes problem) c.in-Some.ensures.cases.0 h)))))),
    )

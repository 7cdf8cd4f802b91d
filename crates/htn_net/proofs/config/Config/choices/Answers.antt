use Rattle.std.proofs.Common.{◌∙◌, ap, sym, subst, List, map, All, ℕ}
use Rattle.std.proofs.lemmas.Result.{IfOk-weaker}
use Rattle.htn_model.specs.Grounding.{problem_of}
use Rattle.htn_model.specs.Instance.{Instance}
use Rattle.htn_net.specs.Choices.{IsChoice, decomposed_choices}
use Rattle.htn_net.specs.declared.choice.Choice.{Choice}
use Rattle.htn_walk.proofs.Numbers.{all_instance_numbers}
use Rattle.htn_net.proofs.Offered.{instances_chosen, numbers_of}
use Rattle.std.specs.List.{enumerate_from}
use Rattle.htn_net.proofs.config.Config.choices.Goals as goal

pub returns-in_ok-numbered-in-Some-clause-each : goal.returns-in_ok-numbered-in-Some-clause-each
returns-in_ok-numbered-in-Some-clause-each c =
    let t = c.args.task.now in
    let i = c.in-Some.position in
    let found = c.in_ok-numbered-in-Some.ensures ∙ ap (λ l. enumerate_from 0 l) c.in_ok-instances-in-Some.ensures in
    IfOk-weaker c.decomposed_choices.result _ _ (λ choices is. subst (λ (l : List Choice). All (IsChoice (problem_of t) c.args.self.now) l) (sym (is ∙ ap (λ l. decomposed_choices i l) found))
    (instances_chosen t c.args.self.now i c.in-Some.goal.now (sym c.in-Some.ensures.position) c.in-Some.ensures.goal)) c.decomposed_choices.ensures

pub returns-in_ok-numbered-in-Some-clause-numbers : goal.returns-in_ok-numbered-in-Some-clause-numbers
returns-in_ok-numbered-in-Some-clause-numbers c =
    let t = c.args.task.now in
    let i = c.in-Some.position in
    let found = c.in_ok-numbered-in-Some.ensures ∙ ap (λ l. enumerate_from 0 l) c.in_ok-instances-in-Some.ensures in
    IfOk-weaker c.decomposed_choices.result _ _ (λ choices is. ap (map (λ (x : Choice). x.number)) is ∙ numbers_of i c.in_ok-numbered-in-Some.field-0.items ∙ ap (map (λ (p : ℕ × Instance). p.0)) found
    ∙ all_instance_numbers t c.args.self.now i c.in-Some.goal.now (sym c.in-Some.ensures.position) c.in-Some.ensures.goal) c.decomposed_choices.ensures

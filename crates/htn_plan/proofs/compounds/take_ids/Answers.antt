use Rattle.std.proofs.Common.{◌∙◌, ◌++◌, Some, None, append-nil, ap, sym, reverse}
use Rattle.std.specs.Prelude.{option_to_list}
use Rattle.htn_plan.proofs.Lists.{one_taken, none_taken}
use Rattle.htn_plan.proofs.compounds.take_ids.Goals as goal
use Rattle.htn_plan.proofs.compounds.take_ids.Goals.{in-Some-Some+in_ok-push-in-Some-Some, in-Some-None, in-None}

pub loop-step-preserved : goal.loop-step-preserved
loop-step-preserved c =
    let all = reverse c.args.ids.now.items in
    let old = c.loop-step.ids.items in
    let new = c.pop.new.self.items in
    let k = c.loop-step._step in
    let taken = c.loop-step.taken.items in
    let inv = c.loop-step.invariant in
    elim c.match-pop.branch [
      | in-Some-Some+in_ok-push-in-Some-Some w ↦ let e = ap (λ v. v.items) w.taken-is in
          one_taken all old new k taken inv.0 inv.1 (Some w.in-Some-Some.id) c.match-pop.taken.items
          (c.pop.ensures.items ∙ ap (λ r. new ++ option_to_list r) (w.in-Some-Some.is ∙ ap Some w.in-Some-Some.field-0-is)) (e ∙ w.in_ok-push-in-Some-Some.ensures.items)
      | in-Some-None w ↦ let e = ap (λ v. v.items) w.taken-is in
          one_taken all old new k taken inv.0 inv.1 None c.match-pop.taken.items
          (c.pop.ensures.items ∙ ap (λ r. new ++ option_to_list r) (w.in-Some-None.is ∙ ap Some w.in-Some-None.field-0-is)) (e ∙ sym (append-nil taken))
      | in-None w ↦ let e = ap (λ v. v.items) w.taken-is in
          let both = none_taken all old new k taken inv.0 inv.1 (c.pop.ensures.items ∙ ap (λ r. new ++ option_to_list r) w.in-None.is) (sym c.pop.new.self.ok.0 ∙ w.in-None.ensures.cases.1) in
          (e ∙ both.0, both.1)
    ]

use Rattle.std.proofs.Common.{◌≡◌, ◌+◌, ◌∙◌, List, Global, option_map, ap, sym, subst, refl, arith, get_or}
use Rattle.std.specs.Arc.{arc_value}
use Rattle.std.specs.declared.sync.Arc.{Arc}
use Rattle.htn_model.specs.Choice.{child_of}
use Rattle.htn_model.specs.Grounding.{problem_of}
use Rattle.htn_model.specs.Problem.{perform}
use Rattle.htn_model.specs.State.{State}
use Rattle.htn_net.specs.Choices.{IsPerformance}
use Rattle.htn_net.specs.declared.choice.Performance.{Performance}
use Rattle.htn_walk.proofs.Numbers.{all_seen, free_seen, free_within, is_live_at, none_dead, picks, picks_live, skips}
use Rattle.htn_net.proofs.Performed.{AreCollected, collect_more, collect_none}
use Rattle.htn_net.proofs.perform.performances.Goals as goal
use Rattle.htn_net.proofs.perform.performances.Goals.{in-Some+in_ok-push, in_default}

pub node_at-requires : goal.node_at-requires
node_at-requires c =
    let config = c.args.config.now in
    let seen = c.deref-position-items.ensures.value ∙ free_seen config c.order.result.now c.in_ok-free.free.items c.in_ok-free.ensures c.order.ensures.value c.order.ensures.proper.0 in
    free_within config c.deref-position-items.result.now c.loop-number.number 0 seen c.loop-number-test.true

pub loop-number-preserved : goal.loop-number-preserved
loop-number-preserved c =
    let config = c.args.config.now in
    let problem = problem_of c.args.task.now in
    let items = c.deref-position-items.result.now in
    let n = c.loop-number.number in
    let inside = c.loop-number-test.true in
    let seen = c.deref-position-items.ensures.value ∙ free_seen config c.order.result.now c.in_ok-free.free.items c.in_ok-free.ensures c.order.ensures.value c.order.ensures.proper.0 in
    let performed : perform problem config.state (child_of config.open_nodes (get_or items n 0)) ≡ option_map (λ (s : Arc State Global). arc_value s) c.in_ok-state.field-0 =
    ap (perform problem config.state) (sym c.node_at.ensures) ∙ sym c.in_ok-state.ensures in
    let Collected = λ (l : List Performance). AreCollected (IsPerformance problem config) (λ (p : Performance). p.number) (is_live_at problem config) (n + 1) l in
    elim c.match-branch-3.branch [
      | in-Some+in_ok-push w ↦ (
          let after = performed ∙ ap (option_map (λ (s : Arc State Global). arc_value s)) w.in-Some.is in
          subst Collected (sym (ap (λ v. v.items) w.found-is ∙ w.in_ok-push.ensures.items))
          (collect_more (IsPerformance problem config) (λ (p : Performance). p.number) (is_live_at problem config) n c.loop-number.found.items
          (record { number = n; position = get_or items n 0; state = w.in-Some.state }) c.loop-number.invariant
          (picks problem config c.requires items n seen inside w.in-Some.state.value after) refl (picks_live problem config c.requires items n seen inside w.in-Some.state.value after)))
      | in_default w ↦ subst Collected (sym (ap (λ v. v.items) w.found-is))
          (collect_none (IsPerformance problem config) (λ (p : Performance). p.number) (is_live_at problem config) n c.loop-number.found.items c.loop-number.invariant
          (skips problem config c.requires items n seen inside (performed ∙ ap (option_map (λ (s : Arc State Global). arc_value s)) w.in_default.is)))
    ]

pub returns-clause-live : goal.returns-clause-live
returns-clause-live c =
    let config = c.args.config.now in
    let seen = c.deref-position-items.ensures.value ∙ free_seen config c.order.result.now c.in_ok-free.free.items c.in_ok-free.ensures c.order.ensures.value c.order.ensures.proper.0 in
    c.loop-number.invariant.numbers ∙ all_seen (problem_of c.args.task.now) config c.requires c.deref-position-items.result.now c.loop-number.number seen c.loop-number-test.false (omega arith)

pub returns-clause-numbers : goal.returns-clause-numbers
returns-clause-numbers c = returns-clause-live c ∙ none_dead (problem_of c.args.task.now) c.args.config.now c.requires

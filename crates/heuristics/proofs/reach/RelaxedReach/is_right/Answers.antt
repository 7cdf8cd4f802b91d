use Rattle.std.proofs.Common.{◌≡◌, ◌∙◌, All, sym, subst, true}
use Rattle.htn_model.specs.State.{State}
use Rattle.heuristics.specs.CheckedReach.{AreEffectsRight, IsBlockedRight}
use Rattle.heuristics.specs.Facts.{is_within}
use Rattle.heuristics.specs.ReachTables.{facts_of}
use Rattle.heuristics.proofs.reach.RelaxedReach.is_right.Goals as goal

pub returns : goal.returns
returns c = λ passes.
    let t = c.args.task.now in
    let r = c.args.self.now in
    record {
      first = subst (λ (s : State). is_within (facts_of r.facts) s ≡ true) c.initial_atoms.ensures.value (sym c.is_within.ensures ∙ c.if-not-is_within.false);
      starts = c.in_ok-are_starts_known.ensures c.if-not-are_starts_known.false;
      tasks = c.in_ok-are_tasks_right.ensures c.if-not-are_tasks_right.false;
      effects = λ graph. subst (All (AreEffectsRight t r)) c.as_slice-known.ensures.keys (c.in_ok-are_effects_right.ensures c.if-not-are_effects_right.false t graph);
      blocked = λ graph. subst (All (IsBlockedRight t r)) c.as_slice.ensures.keys (c.in_ok-are_blocked_right.ensures passes t graph);
    }

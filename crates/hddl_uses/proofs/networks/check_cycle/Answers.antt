use Rattle.std.proofs.Common.{◌∙◌, ap, refl, sym, subst, length}
use Rattle.std.specs.List.{flat_map}
use Rattle.htn_order.specs.Closure.{AreBelow}
use Rattle.hddl_meaning.specs.declared.fault.CheckFault.TheVariants.{OrderCycle}
use Rattle.hddl_scope.proofs.Adding.{added_at, added_nowhere}
use Rattle.hddl_uses.specs.Labels.{pairs_of}
use Rattle.hddl_uses.specs.Parts.{IsCyclic}
use Rattle.hddl_uses.proofs.Pairs.{written, written_below}
use Rattle.hddl_uses.proofs.networks.check_cycle.Goals as goal

pub has_cycle-requires-clause-written : goal.has_cycle-requires-clause-written
has_cycle-requires-clause-written c =
    c.deref.ensures.value ∙ c.in_ok-pairs.ensures ∙ ap (flat_map (pairs_of c.args.numbers.now)) c.as_slice.ensures
    ∙ written c.args.network.now c.args.numbers.now c.requires

pub has_cycle-requires-clause-below : goal.has_cycle-requires-clause-below
has_cycle-requires-clause-below c =
    subst (AreBelow (length c.args.network.now.subtasks)) (sym (has_cycle-requires-clause-written c)) (written_below c.args.network.now)

pub returns-then-cyclic : goal.returns-then-cyclic
returns-then-cyclic c =
    let (a, cycle) = c.in_ok-cyclic.ensures.0 c.if-cyclic.true in
    added_at OrderCycle c.args.context.now.source {P = IsCyclic c.args.place c.args.network.now} c.args.place c.at.result (a, cycle, refl) (λ other h. h.2) c.at.ensures c.in_ok-push.ensures

pub returns : goal.returns
returns c =
    added_nowhere OrderCycle c.args.context.now.source {P = IsCyclic c.args.place c.args.network.now}
    (λ place h. let yes' = c.in_ok-cyclic.ensures.1 (h.0, h.1) in let no' = c.if-cyclic.false in cc) refl

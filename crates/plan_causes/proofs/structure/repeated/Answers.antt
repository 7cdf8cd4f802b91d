use Rattle.std.proofs.Common.{[], get_or, take, rules, sym, subst}
use Rattle.std.proofs.lemmas.List.{take_all}
use Rattle.htn_model.specs.PlanFile.{IsIn}
use Rattle.plan_causes.specs.Structure.{AreExactly, IsRepeated}
use Rattle.plan_causes.proofs.Sets.{again_more, met_more, none_met, number_taken, on_ok}
use Rattle.plan_causes.proofs.structure.repeated.Goals as goal

pub loop-id-init : goal.loop-id-init
loop-id-init c = record { met = subst (AreExactly (λ id. IsIn id [])) (sym c.requires) none_met; again = search rules }

pub loop-id-preserved : goal.loop-id-preserved
loop-id-preserved c =
    let ids = c.args.ids.now in
    let i = c.loop-id.id-index in
    let x = get_or ids i 0 in
    let next = sym (number_taken ids i c.loop-id-test.true) in
    let met = c.loop-id.invariant.met in
    record {
      met = subst (λ xs. AreExactly (λ id. IsIn id xs) c.meet.new.met.keys) next
          (met_more (take i ids) c.loop-id.met.keys c.meet.new.met.keys x met c.in_ok-meet.ensures.met_once c.in_ok-meet.ensures.met);
      again = subst (λ xs. AreExactly (IsRepeated xs) c.meet.new.again.keys) next
          (again_more (take i ids) c.loop-id.met.keys c.loop-id.again.keys c.meet.new.again.keys x met.exactly c.loop-id.invariant.again c.in_ok-meet.ensures.once c.in_ok-meet.ensures.again);
    }

pub returns-clause-met : goal.returns-clause-met
returns-clause-met c =
    let whole = take_all c.loop-id.id-index c.args.ids.now c.loop-id-test.false in
    on_ok c.listed_of.result (AreExactly (λ id. IsIn id c.args.ids.now) c.loop-id.met.keys) (subst (λ xs. AreExactly (λ id. IsIn id xs) c.loop-id.met.keys) whole c.loop-id.invariant.met)

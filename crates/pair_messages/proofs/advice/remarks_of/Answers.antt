use Rattle.std.proofs.Common.{◌≡◌, IfOk, [], subst, sym}
use Rattle.std.specs.declared.alloc.Global.{Global}
use Rattle.std.specs.declared.vec.Vec.{Vec}
use Rattle.std.proofs.lemmas.Result.{IfOk-weaker}
use Rattle.diagnostics.specs.declared.diagnostic.Remark.{Remark}
use Rattle.hddl_meaning.specs.declared.fault.CheckFault.{CheckFault}
use Rattle.hddl_meaning.specs.declared.fault.CheckFault.TheVariants as fault
use Rattle.diagnostics.specs.Offers.{offered}
use Rattle.pair_messages.specs.Offers.{MayBeMeant, OffersMeant}
use Rattle.pair_messages.proofs.Questions.{all_of_none}
use Rattle.pair_messages.proofs.advice.remarks_of.Goals as goal

pub returns-in-Duplicate : goal.returns-in-Duplicate
returns-in-Duplicate c =
    let t = c.args.index.now.texts.now in
    subst (λ (f : CheckFault). IfOk c.twice_remarks.result (λ (r : Vec Remark Global). OffersMeant t f r.items)) (sym c.in-Duplicate.is)
    (IfOk-weaker c.twice_remarks.result (λ (r : Vec Remark Global). offered r.items ≡ []) (λ (r : Vec Remark Global). OffersMeant t (fault.Duplicate c.in-Duplicate.at) r.items)
    (λ r h. all_of_none (MayBeMeant t (fault.Duplicate c.in-Duplicate.at)) (offered r.items) h) c.twice_remarks.ensures)

pub returns-in-TypeClash : goal.returns-in-TypeClash
returns-in-TypeClash c =
    let t = c.args.index.now.texts.now in
    subst (λ (f : CheckFault). IfOk c.type_clash_remarks.result (λ (r : Vec Remark Global). OffersMeant t f r.items)) (sym c.in-TypeClash.is)
    (IfOk-weaker c.type_clash_remarks.result (λ (r : Vec Remark Global). offered r.items ≡ []) (λ (r : Vec Remark Global). OffersMeant t (fault.TypeClash c.in-TypeClash.at) r.items)
    (λ r h. all_of_none (MayBeMeant t (fault.TypeClash c.in-TypeClash.at)) (offered r.items) h) c.type_clash_remarks.ensures)

pub returns-in-OrderCycle : goal.returns-in-OrderCycle
returns-in-OrderCycle c =
    let t = c.args.index.now.texts.now in
    subst (λ (f : CheckFault). IfOk c.order_remarks.result (λ (r : Vec Remark Global). OffersMeant t f r.items)) (sym c.in-OrderCycle.is)
    (IfOk-weaker c.order_remarks.result (λ (r : Vec Remark Global). offered r.items ≡ []) (λ (r : Vec Remark Global). OffersMeant t (fault.OrderCycle c.in-OrderCycle.at) r.items)
    (λ r h. all_of_none (MayBeMeant t (fault.OrderCycle c.in-OrderCycle.at)) (offered r.items) h) c.order_remarks.ensures)

pub returns-in-UnknownType : goal.returns-in-UnknownType
returns-in-UnknownType c =
    subst (λ (f : CheckFault). IfOk c.unknown_type_remarks.result (λ (r : Vec Remark Global). OffersMeant c.args.index.now.texts.now f r.items)) (sym c.in-UnknownType.is) c.unknown_type_remarks.ensures

pub returns-in-UnknownName : goal.returns-in-UnknownName
returns-in-UnknownName c =
    subst (λ (f : CheckFault). IfOk c.unknown_remarks.result (λ (r : Vec Remark Global). OffersMeant c.args.index.now.texts.now f r.items)) (sym c.in-UnknownName.is) c.unknown_remarks.ensures

pub returns-in-UnknownSubtask : goal.returns-in-UnknownSubtask
returns-in-UnknownSubtask c =
    subst (λ (f : CheckFault). IfOk c.subtask_remarks.result (λ (r : Vec Remark Global). OffersMeant c.args.index.now.texts.now f r.items)) (sym c.in-UnknownSubtask.is) c.subtask_remarks.ensures

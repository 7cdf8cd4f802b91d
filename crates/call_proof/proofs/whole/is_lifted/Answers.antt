use Rattle.std.proofs.Common.{Option, IfSome, subst}
use Rattle.state_table.specs.Table.{IsTable}
use Rattle.call_table.specs.declared.call.Call.{Call}
use Rattle.call_proof.specs.Parts.{IsWholeCall, masks_of}
use Rattle.call_proof.proofs.Lifting.{whole_same}
use Rattle.call_proof.proofs.whole.is_lifted.Goals as goal

pub returns : goal.returns
returns c = λ is table.
    (let n = c.args.nodes.now in
    let masks = masks_of c.args.frames.now in
    let own = subst (λ (o : Option Call). IfSome o (λ (x : Call). IsTable n.atoms
    → IsWholeCall n masks c.args.table.now c.args.site.now.state c.args.site.now.number x)) c.in-Some.is c.in_ok-own.ensures in
    whole_same n masks c.args.table.now c.args.site.now.state c.args.site.now.number c.args.call.now c.in-Some.own
    (c.is_same_call.ensures.floor is) (c.is_same_call.ensures.exits is) (own table))

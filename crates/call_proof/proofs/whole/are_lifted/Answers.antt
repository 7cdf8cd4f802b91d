use Rattle.std.proofs.Common.{refl, arith}
use Rattle.call_table.specs.declared.call.Call.{Call}
use Rattle.call_table.specs.declared.site.Site.{Site}
use Rattle.call_table.proofs.Followed.{all_taken, entry_more}
use Rattle.call_proof.specs.Parts.{IsWholeCall, masks_of}
use Rattle.call_proof.proofs.Lifting.{all_whole}
use Rattle.call_proof.proofs.whole.are_lifted.Goals as goal

pub loop-k-preserved : goal.loop-k-preserved
loop-k-preserved c = λ table.
    entry_more
    (λ (p : Site × Call). IsWholeCall c.args.nodes.now (masks_of c.args.frames.now) c.args.table.now p.0.state p.0.number p.1)
    c.args.whole.now.calls.entries c.loop-k.k (c.in-Some.site.now, c.in-Some.call.now) c.in-Some.ensures.entry
    (c.loop-k.invariant table) (c.in_ok-is_lifted.ensures c.if-not-branch.false table)

pub returns : goal.returns
returns c = λ _ table.
    all_whole c.args.nodes.now (masks_of c.args.frames.now) c.args.table.now c.args.whole.now
    (all_taken
    (λ (p : Site × Call). IsWholeCall c.args.nodes.now (masks_of c.args.frames.now) c.args.table.now p.0.state p.0.number p.1)
    c.args.whole.now.calls.entries c.args.whole.now.calls.entries c.loop-k.k refl
    (omega (arith, c.loop-k-test.false, c.len-k-end.ensures.len)) (c.loop-k.invariant table))

use Rattle.std.proofs.Common.{refl, arith, subst}
use Rattle.call_table.specs.declared.call.Call.{Call}
use Rattle.call_table.specs.declared.site.Site.{Site}
use Rattle.call_table.proofs.Followed.{all_taken, entry_more}
use Rattle.call_proof.specs.Meaning.{AreRulesAt}
use Rattle.call_proof.proofs.rules.are_rules.Goals as goal

pub loop-k-preserved : goal.loop-k-preserved
loop-k-preserved c = λ t own.
    (let n = c.args.nodes.now in
    let site = c.in-Some.site.now in
    entry_more (λ (p : Site × Call). AreRulesAt n t p.0.state p.0.number p.1.rules.items) c.args.table.now.calls.entries c.loop-k.k
    (site, c.in-Some.call.now) c.in-Some.ensures.entry (c.loop-k.invariant t own)
    (subst (AreRulesAt n t site.state site.number) c.as_slice.ensures.value (c.in_ok-are_rules_at.ensures c.if-not-branch.false t own)))

pub returns : goal.returns
returns c = λ _ t own.
    (let n = c.args.nodes.now in
    all_taken (λ (p : Site × Call). AreRulesAt n t p.0.state p.0.number p.1.rules.items) c.args.table.now.calls.entries
    c.args.table.now.calls.entries c.loop-k.k refl (omega (arith, c.loop-k-test.false, c.len-k-end.ensures.len)) (c.loop-k.invariant t own))

use Rattle.std.proofs.Common.{ℕ, refl, arith}
use Rattle.call_table.specs.Estimates.{IsSupported}
use Rattle.call_table.specs.declared.site.Site.{Site}
use Rattle.call_table.proofs.Followed.{all_taken, entry_more}
use Rattle.call_table.proofs.Supported.{are_estimates}
use Rattle.call_table.proofs.estimates.are_estimates.Goals as goal

pub loop-k-preserved : goal.loop-k-preserved
loop-k-preserved c =
    entry_more (λ (p : Site × ℕ). IsSupported c.args.lists.now c.args.table.now c.args.ends.now c.args.cap c.args.values.now p.0 p.1) c.args.values.now.entries c.loop-k.k
    (c.in-Some.site.now, c.in-Some.value.now) c.in-Some.ensures.entry c.loop-k.invariant (c.is_supported.ensures c.if-not-is_supported.false)

pub returns : goal.returns
returns c = λ _.
    are_estimates c.args.lists.now c.args.table.now c.args.ends.now c.args.cap c.args.values.now
    (all_taken (λ (p : Site × ℕ). IsSupported c.args.lists.now c.args.table.now c.args.ends.now c.args.cap c.args.values.now p.0 p.1) c.args.values.now.entries c.args.values.now.entries
    c.loop-k.k refl (omega (arith, c.loop-k-test.false, c.len-k-end.ensures.len)) c.loop-k.invariant)

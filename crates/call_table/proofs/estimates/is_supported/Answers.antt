use Rattle.std.proofs.Common.{◌≤◌, ◌+◌, All, subst, arith}
use Rattle.call_table.specs.Estimates.{value_at}
use Rattle.call_table.specs.declared.call.Exit.{Exit}
use Rattle.call_table.proofs.Supported.{called_supported}
use Rattle.call_table.proofs.estimates.is_supported.Goals as goal

pub returns-then-value-floor : goal.returns-then-value-floor
returns-then-value-floor c = λ h.
    (let link = c.in-Some.ensures.some in
    let low = c.if-value-floor.true in
    let same = c.from-value.ensures in
    let floor = c.from.ensures in
    let capped = c.saturating_add-floor.ensures in
    let each = subst (λ es. All (λ (e : Exit). c.from-value.result ≤ e.cost + value_at c.args.lists.now c.args.values.now c.in-Some.link.rest e.state) es) c.deref.ensures.value (c.is_within_exits.ensures h) in
    let own = subst (λ v. All (λ (e : Exit). v ≤ e.cost + value_at c.args.lists.now c.args.values.now c.in-Some.link.rest e.state) c.in-Some-get.call.now.exits.items) same each in
    called_supported c.args.lists.now c.args.table.now c.args.ends.now c.args.cap c.args.values.now c.args.site c.args.value c.nodes-2.result
    c.in-Some.link.first c.in-Some.link.rest c.in-Some-get.call.now link.is c.in-Some-get.ensures.value c.nodes-2.ensures (omega arith) own)

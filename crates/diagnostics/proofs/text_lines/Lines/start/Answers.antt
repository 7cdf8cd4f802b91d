use Rattle.std.proofs.Common.{◌≡◌, ◌-◌, ◌<◌, length, ap, ◌∙◌, arith}
use Rattle.diagnostics.specs.Places.{feeds_from}
use Rattle.diagnostics.proofs.Feeds.{count_feeds, start_within, start_at}
use Rattle.diagnostics.proofs.text_lines.Lines.start.Goals as goal

pub index-requires : goal.index-requires
index-requires c =
    let text = c.args.self.now in
    let same : c.self.inside.feeds.items ≡ feeds_from 0 text = c.self.invariant ∙ ap (feeds_from 0) c.self.view_is in
    omega (arith, ap length same, count_feeds text, c.requires, c.if-count-eq0.false, c.self.inside.feeds.ok)

pub overflow_add-result : goal.overflow_add-result
overflow_add-result c =
    let text = c.args.self.now in
    let same : c.self.inside.feeds.items ≡ feeds_from 0 text = c.self.invariant ∙ ap (feeds_from 0) c.self.view_is in
    let size = ap length same in
    let h : c.args.count - 1 < length c.self.inside.feeds.items = omega (arith, size, count_feeds text, c.requires, c.if-count-eq0.false) in
    let at = start_at text c.self.inside.feeds.items c.args.count c.index.result.now same c.if-count-eq0.false h c.index.ensures in
    let within = start_within text c.args.count (omega (arith, count_feeds text, c.requires)) in
    omega (arith, at, within, c.len-len.ensures.value, c.len-len.ensures.small)

pub returns-else-count-eq0 : goal.returns-else-count-eq0
returns-else-count-eq0 c =
    let text = c.args.self.now in
    let same : c.self.inside.feeds.items ≡ feeds_from 0 text = c.self.invariant ∙ ap (feeds_from 0) c.self.view_is in
    let size = ap length same in
    let h : c.args.count - 1 < length c.self.inside.feeds.items = omega (arith, size, count_feeds text, c.requires, c.if-count-eq0.false) in
    let at = start_at text c.self.inside.feeds.items c.args.count c.index.result.now same c.if-count-eq0.false h c.index.ensures in
    let within = start_within text c.args.count (omega (arith, count_feeds text, c.requires)) in
    record { value = at; within = omega (arith, at, within) }

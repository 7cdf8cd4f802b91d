use Rattle.std.proofs.Common.{◌≡◌, ◌-◌, ◌<◌, length, get_or, ap, ◌∙◌, sym, arith}
use Rattle.diagnostics.specs.Places.{feeds_from, start_of, line_end}
use Rattle.diagnostics.proofs.Feeds.{count_feeds, start_within, start_le_feed, feed_at, feed_inside}
use Rattle.diagnostics.proofs.Ends.{end_of_last, end_at_feed, end_at_return}
use Rattle.diagnostics.proofs.text_lines.Lines.end.Goals as goal
use Rattle.diagnostics.proofs.text_lines.Lines.end.Goals.{else-feed-start-via-then-feed-start+else-text-feed-eq13, else-feed-start-via-else-feed-start}

pub returns-then-count-len : goal.returns-then-count-len
returns-then-count-len c =
    let text = c.args.self.now in
    let size : length c.self.inside.feeds.items ≡ length (feeds_from 0 text) = ap length (c.self.invariant ∙ ap (feeds_from 0) c.self.view_is) in
    let last : c.args.count ≡ length (feeds_from 0 text) = omega (arith, size, c.self.inside.feeds.ok, c.len.ensures, c.if-count-len.true) in
    let within = start_within text c.args.count (omega (arith, last)) in
    let view = ap length c.self.view_is in
    record {
      value = view ∙ end_of_last text c.args.count last ∙ ap (line_end text) (sym c.requires.begins);
      order = omega (arith, within, view, c.requires.begins);
      within = omega (arith, view);
    }

pub index-feed-requires : goal.index-feed-requires
index-feed-requires c =
    let text = c.args.self.now in
    let size : length c.self.inside.feeds.items ≡ length (feeds_from 0 text) = ap length (c.self.invariant ∙ ap (feeds_from 0) c.self.view_is) in
    omega (arith, size, count_feeds text, c.requires.within, c.self.inside.feeds.ok, c.len.ensures, c.if-count-len.false)

pub bounds-text-feed : goal.bounds-text-feed
bounds-text-feed c =
    let text = c.args.self.now in
    let same = c.self.invariant ∙ ap (feeds_from 0) c.self.view_is in
    let size : length c.self.inside.feeds.items ≡ length (feeds_from 0 text) = ap length same in
    let more : c.args.count < length c.self.inside.feeds.items = omega (arith, size, count_feeds text, c.requires.within, c.self.inside.feeds.ok, c.len.ensures, c.if-count-len.false) in
    let at = feed_at text c.self.inside.feeds.items c.args.count c.index-feed.result.now same more c.index-feed.ensures in
    let inside = feed_inside text c.args.count (omega (arith, size, more)) in
    omega (arith, at, inside, ap length c.self.view_is)

pub returns-then-text-feed-eq13 : goal.returns-then-text-feed-eq13
returns-then-text-feed-eq13 c =
    let text = c.args.self.now in
    let same = c.self.invariant ∙ ap (feeds_from 0) c.self.view_is in
    let size : length c.self.inside.feeds.items ≡ length (feeds_from 0 text) = ap length same in
    let more : c.args.count < length c.self.inside.feeds.items = omega (arith, size, count_feeds text, c.requires.within, c.self.inside.feeds.ok, c.len.ensures, c.if-count-len.false) in
    let feed = c.index-feed.result.now in
    let at : feed ≡ get_or (feeds_from 0 text) c.args.count 0 = feed_at text c.self.inside.feeds.items c.args.count feed same more c.index-feed.ensures in
    let inside = feed_inside text c.args.count (omega (arith, size, more)) in
    let some : start_of text c.args.count < get_or (feeds_from 0 text) c.args.count 0 = omega (arith, at, c.if-feed-start.true, c.requires.begins) in
    let return : get_or text (get_or (feeds_from 0 text) c.args.count 0 - 1) 0 ≡ 13 = ap (λ t. get_or t (get_or (feeds_from 0 text) c.args.count 0 - 1) 0) (sym c.self.view_is) ∙ ap (λ n. get_or c.self.inside.text.now (n - 1) 0) (sym at) ∙ c.if-text-feed-eq13.true in
    record {
      value = ap (λ n. n - 1) at ∙ end_at_return text c.args.count (omega (arith, size, more)) some return ∙ ap (line_end text) (sym c.requires.begins);
      order = omega (arith, c.if-feed-start.true);
      within = omega (arith, at, inside);
    }

pub returns-else-feed-start : goal.returns-else-feed-start
returns-else-feed-start c =
    let text = c.args.self.now in
    let same = c.self.invariant ∙ ap (feeds_from 0) c.self.view_is in
    let size : length c.self.inside.feeds.items ≡ length (feeds_from 0 text) = ap length same in
    let more : c.args.count < length c.self.inside.feeds.items = omega (arith, size, count_feeds text, c.requires.within, c.self.inside.feeds.ok, c.len.ensures, c.if-count-len.false) in
    let feed = c.index-feed.result.now in
    let there : c.args.count < length (feeds_from 0 text) = omega (arith, size, more) in
    let at : feed ≡ get_or (feeds_from 0 text) c.args.count 0 = feed_at text c.self.inside.feeds.items c.args.count feed same more c.index-feed.ensures in
    let inside = feed_inside text c.args.count there in
    let order = start_le_feed text c.args.count there in
    let clear : start_of text c.args.count < get_or (feeds_from 0 text) c.args.count 0 → get_or text (get_or (feeds_from 0 text) c.args.count 0 - 1) 0 ≡ 13 → ⊥ =
    elim c.else-feed-start.branch [
      | else-feed-start-via-then-feed-start+else-text-feed-eq13 w ↦ λ some return. w.if-text-feed-eq13.false (ap (λ n. get_or c.self.inside.text.now (n - 1) 0) at ∙ ap (λ t. get_or t (get_or (feeds_from 0 text) c.args.count 0 - 1) 0) c.self.view_is ∙ return)
      | else-feed-start-via-else-feed-start w ↦ λ some return. absurd (omega (arith, some, at, c.requires.begins, w.if-feed-start.false))
    ] in
    record {
      value = at ∙ end_at_feed text c.args.count there clear ∙ ap (line_end text) (sym c.requires.begins);
      order = omega (arith, at, order, c.requires.begins);
      within = omega (arith, at, inside);
    }

use Rattle.std.proofs.Common.{length, ap, ◌∙◌, count_by}
use Rattle.diagnostics.specs.Places.{is_line_feed}
use Rattle.diagnostics.proofs.Feeds.{count_feeds}
use Rattle.diagnostics.proofs.text_lines.Lines.feeds.Goals as goal

pub returns : goal.returns
returns c = c.len.ensures ∙ c.self.inside.feeds.ok.0 ∙ ap length c.self.invariant ∙ count_feeds c.self.inside.text.now ∙ ap (count_by is_line_feed) c.self.view_is

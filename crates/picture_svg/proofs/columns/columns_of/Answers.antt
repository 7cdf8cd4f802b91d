use Rattle.std.proofs.Common.{◌≡◌, ℕ, get_or}
use Rattle.std.proofs.lemmas.Result.{IfOk-weaker}
use Rattle.plan_picture.specs.Seen.{seen_all}
use Rattle.picture_svg.specs.Columns.{AreColumns, starts}
use Rattle.picture_svg.proofs.Starts.{columns_are}
use Rattle.picture_svg.proofs.columns.columns_of.Goals as goal

pub returns : goal.returns
returns c =
    IfOk-weaker c.begun.result (λ lefts. lefts.items ≡ starts c.args.first c.as_slice.result.now)
    (λ lefts. AreColumns c.args.actions (λ line. get_or c.args.widths.now line 0) c.args.first (seen_all c.args.rows.now) lefts.items)
    (λ lefts is.
    columns_are c.args.actions (λ (line : ℕ). get_or c.args.widths.now line 0) c.args.first (seen_all c.args.rows.now) c.in_ok-count.count c.in_ok-wide.wide.items c.as_slice.result.now lefts.items
    c.in_ok-count.ensures c.in_ok-wide.ensures c.as_slice.ensures.value is)
    c.begun.ensures

use Rattle.std.proofs.Common.{◌≡◌, ◌++◌, Some, length, option_map, ap, ◌∙◌, subst}
use Rattle.std.specs.Result.{OnOk}
use Rattle.plan_picture.specs.Seen.{seen}
use Rattle.picture_text.specs.Details.{detail_at, settings_of, condition_of}
use Rattle.picture_text.specs.Lines.{line_at}
use Rattle.picture_text.specs.SeenLine.{seen_line}
use Rattle.picture_text.specs.Text.{own_text, condition_text, line_text}
use Rattle.picture_text.proofs.Writes.{after}
use Rattle.picture_text.proofs.as_text.say_row.Goals as goal

pub returns : goal.returns
returns c =
    let glyphs = c.args.glyphs in
    let width = c.args.width in
    let mark = c.args.caption.now.mark in
    let row = seen c.args.row.now in
    let o = c.args.out.now.items in
    let n = c.say_line.new.out.items in
    let m = c.say_below.new.out.items in
    let r = c.say_below.result in
    let line = seen_line c.in-Some.line in
    let given = option_map (λ d. d.now) c.args.details in
    let detail = option_map (λ d. d.now) c.detail_at-detail.result in
    let own : n ≡ o ++ own_text glyphs width mark row (settings_of detail) line = c.in_ok-say_line.ensures ∙ ap (λ s. o ++ own_text glyphs width mark row s line) c.settings_of.ensures in
    let below : OnOk r (m ≡ n ++ condition_text glyphs width c.is_leaf-is_leaf.result row (condition_of detail)) =
    subst (λ k. OnOk r (m ≡ n ++ condition_text glyphs width c.is_leaf-is_leaf.result row k)) c.condition_of.ensures c.say_below.ensures in
    let leaf = c.is_leaf-is_leaf.result in
    let all : OnOk r (m ≡ o ++ line_text glyphs width mark leaf row detail (Some line)) =
    after r o n m (own_text glyphs width mark row (settings_of detail) line) (condition_text glyphs width leaf row (condition_of detail)) own below in
    let file = c.args.picture.now.file.now in
    let said : detail ≡ detail_at given (length file.actions) row.line = c.detail_at-detail.ensures ∙ ap (λ xs. detail_at given (length xs) row.line) c.actions.ensures.value in
    let there : Some line ≡ line_at file row.line = c.in-Some.ensures in
    subst (λ b. OnOk r (m ≡ o ++ line_text glyphs width mark b row (detail_at given (length file.actions) row.line) (line_at file row.line))) c.is_leaf-is_leaf.ensures
    (subst (λ d. OnOk r (m ≡ o ++ line_text glyphs width mark leaf row d (line_at file row.line))) said (subst (λ l. OnOk r (m ≡ o ++ line_text glyphs width mark leaf row detail l)) there all))

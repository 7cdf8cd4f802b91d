use Rattle.std.proofs.Common.{◌≡◌, ◌∙◌, map, sym, subst}
use Rattle.std.specs.Str.{IsUtf8}
use Rattle.diagnostics.specs.Shown.{shown}
use Rattle.htn_review.proofs.ShownWords.{words_utf8}
use Rattle.htn_review.proofs.caption.shown_word.Goals as goal

pub returns : goal.returns
returns c =
    let is : c.as_slice.result.now ≡ map shown c.args.word.now = c.as_slice.ensures.value ∙ c.in_ok-bytes.ensures in
    let utf8 : IsUtf8 c.as_slice.result.now = subst IsUtf8 (sym is) (words_utf8 c.args.word.now) in
    c.in_ok-text.ensures.ok utf8 ∙ is

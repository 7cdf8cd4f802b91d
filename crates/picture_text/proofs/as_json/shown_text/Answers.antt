use Rattle.std.proofs.Common.{◌≡◌, ◌++◌, map, String, Global, string_bytes, sym, ap, subst, ◌∙◌}
use Rattle.std.proofs.lemmas.Result.{IfOk-weaker}
use Rattle.std.specs.Str.{IsUtf8}
use Rattle.diagnostics.specs.Shown.{shown}
use Rattle.picture_text.proofs.Objects.{words_utf8}
use Rattle.picture_text.proofs.as_json.shown_text.Goals as goal

pub returns : goal.returns
returns c =
    let words = map shown c.args.words.now in
    let is : c.as_slice.result.now ≡ words = c.as_slice.ensures.value ∙ c.in_ok-say.ensures ∙ ap (λ l. l ++ words) c.new-bytes.ensures.items in
    let utf8 : IsUtf8 c.as_slice.result.now = subst IsUtf8 (sym is) (words_utf8 c.args.words.now) in
    IfOk-weaker c.from_utf8_lossy.result (λ (t : String Global). IsUtf8 c.as_slice.result.now → string_bytes t ≡ c.as_slice.result.now) (λ (t : String Global). string_bytes t ≡ words)
    (λ t same. same utf8 ∙ is) c.from_utf8_lossy.ensures.ok

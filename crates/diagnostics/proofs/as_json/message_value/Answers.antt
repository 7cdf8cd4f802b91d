use Rattle.std.proofs.Common.{◌≡◌, false, ◌++◌, String, Global, string_bytes, sym, ap, subst, ◌∙◌, rules}
use Rattle.std.specs.Str.{IsUtf8}
use Rattle.serde_json.specs.Data.{string}
use Rattle.serde_json.specs.View.{view}
use Rattle.serde_json.specs.declared.value.Value as value
use Rattle.serde_json.specs.declared.value.Value.{the_lemmas}
use Rattle.diagnostics.specs.Ink.{written}
use Rattle.diagnostics.specs.Parts.{message_inks}
use Rattle.diagnostics.proofs.Objects.{message_utf8}
use Rattle.diagnostics.proofs.as_json.message_value.Goals as goal

view-String : (s : String Global) → view (value.String s) ≡ string (string_bytes s)
view-String s = search (rules, the_lemmas)

pub returns : goal.returns
returns c =
    let words = written false (message_inks c.args.message.now) in
    let is : c.as_slice.result.now ≡ words = c.as_slice.ensures.value ∙ c.in_ok-say_message.ensures ∙ ap (λ l. l ++ words) c.new-bytes.ensures.items in
    let utf8 : IsUtf8 c.as_slice.result.now = subst IsUtf8 (sym is) (message_utf8 c.args.message.now) in
    view-String c.in_ok-from_utf8_lossy.field-0 ∙ ap string (c.in_ok-from_utf8_lossy.ensures.ok utf8 ∙ is)

use Rattle.std.proofs.Common.{◌≡◌, String, Global, string_bytes, ap, ◌∙◌, rules}
use Rattle.serde_json.specs.Data.{string}
use Rattle.serde_json.specs.View.{view}
use Rattle.serde_json.specs.declared.value.Value as value
use Rattle.serde_json.specs.declared.value.Value.{the_lemmas}
use Rattle.picture_text.proofs.as_json.word_value.Goals as goal

view-String : (s : String Global) → view (value.String s) ≡ string (string_bytes s)
view-String s = search (rules, the_lemmas)

pub returns : goal.returns
returns c = view-String c.in_ok-shown_text.field-0 ∙ ap string c.in_ok-shown_text.ensures

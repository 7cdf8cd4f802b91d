use Rattle.std.proofs.Common.{◌≡◌, ℕ, zero, suc, ◌≤◌, List, [], ◌∷◌, ◌++◌, Some, option_map, sym, ap, subst, ◌∙◌, arith}
use Rattle.std.proofs.lemmas.Str.{IsUtf8-append, IsUtf8-from_ascii}
use Rattle.std.specs.Str.{IsAscii, IsUtf8}
use Rattle.serde_json.specs.Data.{Data, depth}
use Rattle.serde_json.specs.Read.{max_depth}
use Rattle.serde_json.specs.View.{view}
use Rattle.serde_json.specs.Written.{has_float, compact_text}
use Rattle.picture_text.specs.Json.{picture_json}
use Rattle.picture_text.proofs.Objects.{picture_plain}
use Rattle.picture_text.proofs.as_json.json.Goals as goal

shallow : (d e : Data) → d ≡ e → depth e ≤ 5 → depth d ≤ max_depth
shallow d e is h = let same = ap depth is in omega arith

feed_ascii : IsAscii (10 ∷ [])
feed_ascii zero = omega arith
feed_ascii (suc i) = omega arith

pub returns-clause-bytes : goal.returns-clause-bytes
returns-clause-bytes c =
    let is = c.in_ok-picture_value.ensures in
    let details = option_map (λ d. d.now) c.args.details in
    let line = c.in_ok-text.ensures.text (ap has_float is ∙ (picture_plain c.args.caption.now c.args.lines.now details c.args.picture.now).0) ∙ ap compact_text is in
    c.in_ok-push.ensures.items ∙ ap (λ (l : List ℕ). l ++ 10 ∷ []) line

pub returns-clause-reads_back : goal.returns-clause-reads_back
returns-clause-reads_back c =
    let is = c.in_ok-picture_value.ensures in
    let details = option_map (λ d. d.now) c.args.details in
    let low =
    shallow (view c.in_ok-picture_value.field-0) (picture_json c.args.caption.now c.args.lines.now details c.args.picture.now) is (picture_plain c.args.caption.now c.args.lines.now details c.args.picture.now).1 in
    (c.in_ok-text.text.items, c.in_ok-push.ensures.items, c.in_ok-text.ensures.reads_back low ∙ ap Some is)

pub returns-clause-utf8 : goal.returns-clause-utf8
returns-clause-utf8 c =
    subst IsUtf8 (sym c.in_ok-push.ensures.items) (IsUtf8-append c.in_ok-text.text.items (10 ∷ []) c.in_ok-text.ensures.utf8 (IsUtf8-from_ascii (10 ∷ []) feed_ascii))

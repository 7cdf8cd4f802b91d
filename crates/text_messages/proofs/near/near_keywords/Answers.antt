use Rattle.std.proofs.Common.{◌≡◌, ◌∙◌, ap, subst}
use Rattle.diagnostics.specs.Near.{names_of, nearest_of}
use Rattle.text_messages.specs.Near.{ArePicked}
use Rattle.text_messages.proofs.Followed.{picked_are}
use Rattle.text_messages.proofs.near.near_keywords.Goals as goal

pub returns : goal.returns
returns c =
    let r = c.args.role in
    let before = c.args.before.now in
    let word = c.args.word.now in
    let found = names_of c.in_ok-keywords.keywords.items in
    let near = names_of c.in_ok-near.near.items in
    let is : names_of c.as_slice.result.now ≡ found = ap names_of c.as_slice.ensures.value in
    let same : names_of c.as_slice-2.result.now ≡ found = ap names_of c.as_slice-2.ensures.value in
    let numbers : c.as_slice-3.result.now ≡ nearest_of word found = c.as_slice-3.ensures.value ∙ c.in_ok-numbers.ensures ∙ ap (nearest_of word) is in
    picked_are r before word found near c.in_ok-keywords.ensures
    (subst (λ ks. ArePicked r before ks (nearest_of word found) near) same (subst (λ ns. ArePicked r before (names_of c.as_slice-2.result.now) ns near) numbers c.in_ok-near.ensures))

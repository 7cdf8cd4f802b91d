use Rattle.std.proofs.Common.{◌≡◌, ◌∙◌, ap, map, subst}
use Rattle.std.specs.List.{All}
use Rattle.std.proofs.lemmas.List.Elements.{All-same}
use Rattle.hddl_meaning.specs.Items.{label_mentions}
use Rattle.hddl_meaning.specs.Mentions.{folded, texts}
use Rattle.diagnostics.specs.Near.{names_of}
use Rattle.pair_messages.specs.Offers.{IsNearest}
use Rattle.pair_messages.proofs.Folded.{labels_folded}
use Rattle.pair_messages.proofs.Questions.{all_of_none}
use Rattle.pair_messages.proofs.orders.label_help.Goals as goal

pub returns-then-is_empty : goal.returns-then-is_empty
returns-then-is_empty c = all_of_none (IsNearest c.args.word.now (texts (label_mentions c.args.network.now))) _ c.in_ok-how.ensures

pub returns-then-not-is_empty : goal.returns-then-not-is_empty
returns-then-not-is_empty c =
    let n = c.args.network.now in
    let word = c.args.word.now in
    let is : map folded (names_of c.as_slice-all.result.now) ≡ texts (label_mentions n) =
    ap (λ l. map folded (names_of l)) c.as_slice-all.ensures.value ∙ ap (map folded) c.in_ok-labels.ensures ∙ labels_folded n in
    All-same (IsNearest word (texts (label_mentions n))) _ (names_of c.in_ok-near.near.items) (c.in_ok-question.ensures ∙ ap names_of c.as_slice-nearest.ensures.value)
    (subst (λ names. All (IsNearest word names) (names_of c.in_ok-near.near.items)) is c.in_ok-near.ensures)

pub returns : goal.returns
returns c = all_of_none (IsNearest c.args.word.now (texts (label_mentions c.args.network.now))) _ c.in_ok-list.ensures

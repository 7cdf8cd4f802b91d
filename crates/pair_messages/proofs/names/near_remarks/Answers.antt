use Rattle.std.proofs.Common.{◌∙◌, ap}
use Rattle.std.proofs.lemmas.List.Elements.{All-same}
use Rattle.diagnostics.specs.Near.{names_of}
use Rattle.pair_messages.specs.Offers.{IsNearest, declared_of_kind}
use Rattle.pair_messages.proofs.Questions.{all_of_none}
use Rattle.pair_messages.proofs.names.near_remarks.Goals as goal

pub returns-then-is_empty : goal.returns-then-is_empty
returns-then-is_empty c =
    all_of_none (IsNearest c.args.word.now (declared_of_kind c.args.index.now.texts.now.domain_tree.now c.args.kind)) _ (c.in_ok-remarks.ensures ∙ c.in_ok-how.ensures)

pub returns : goal.returns
returns c =
    All-same (IsNearest c.args.word.now (declared_of_kind c.args.index.now.texts.now.domain_tree.now c.args.kind)) _ (names_of c.in_ok-near.near.items)
    (c.in_ok-remarks-2.ensures ∙ ap names_of c.as_slice.ensures.value) c.in_ok-near.ensures

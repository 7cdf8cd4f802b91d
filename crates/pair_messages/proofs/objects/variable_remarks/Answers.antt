use Rattle.std.proofs.Common.{◌∙◌, ap}
use Rattle.std.proofs.lemmas.List.Elements.{All-same}
use Rattle.diagnostics.specs.Near.{names_of}
use Rattle.pair_messages.specs.Offers.{IsNearest, variable_texts}
use Rattle.pair_messages.specs.Stands.{in_force}
use Rattle.pair_messages.proofs.Questions.{all_of_none}
use Rattle.pair_messages.proofs.objects.variable_remarks.Goals as goal

pub returns-then-is_some : goal.returns-then-is_some
returns-then-is_some c = all_of_none (IsNearest c.args.word.now (variable_texts (in_force c.args.scope.now))) _ (c.in_ok-remarks.ensures ∙ c.in_ok-how.ensures)

pub returns : goal.returns
returns c =
    All-same (IsNearest c.args.word.now (variable_texts (in_force c.args.scope.now))) _ (names_of c.in_ok-near.near.items)
    (c.in_ok-remarks-2.ensures ∙ ap names_of c.as_slice.ensures.value) c.in_ok-near.ensures

use Rattle.std.proofs.Common.{◌∙◌, ap}
use Rattle.diagnostics.specs.Offers.{offered}
use Rattle.pair_messages.proofs.Questions.{none_offered}
use Rattle.pair_messages.proofs.remarks.ask.Goals as goal

pub returns-then-is_empty : goal.returns-then-is_empty
returns-then-is_empty c = ap offered c.new.ensures.items ∙ none_offered c.args.names.now c.is_empty.result c.is_empty.ensures c.if-is_empty.true

pub returns : goal.returns
returns c = c.in_ok-remarks.ensures ∙ c.in_ok-question.ensures

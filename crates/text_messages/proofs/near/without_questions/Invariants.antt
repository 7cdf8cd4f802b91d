use Rattle.std.proofs.Common.{◌≡◌, []}
use Rattle.diagnostics.specs.Offers.{offered}
use Rattle.text_messages.proofs.near.without_questions.Given as goal

abbrev pub invariant-loop-remark : goal.invariant-loop-remark
invariant-loop-remark l = offered l.kept.items ≡ []

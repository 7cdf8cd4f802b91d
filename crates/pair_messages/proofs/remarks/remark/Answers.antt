use Rattle.std.proofs.Common.{◌∙◌, ◌∷◌, [], ◌++◌, ap}
use Rattle.diagnostics.specs.declared.diagnostic.Remark.{Remark}
use Rattle.diagnostics.specs.Offers.{offered}
use Rattle.pair_messages.proofs.Questions.{one_offered}
use Rattle.pair_messages.proofs.remarks.remark.Goals as goal

pub returns : goal.returns
returns c =
    let r : Remark = record { kind = c.args.kind; message = c.args.message } in
    ap offered c.in_ok-push.ensures.items ∙ ap (λ l. offered (l ++ r ∷ [])) c.new-remarks.ensures.items ∙ one_offered r

use Rattle.std.proofs.Common.{subst, sym}
use Rattle.hddl_meaning.specs.Mentions.{IsIn}
use Rattle.diagnostics.specs.Near.{names_of}
use Rattle.pair_messages.specs.Offers.{AreWritten}
use Rattle.pair_messages.proofs.Questions.{written_more}
use Rattle.pair_messages.proofs.types.push_type.Goals as goal

pub returns : goal.returns
returns c =
    λ all at old.
    subst (λ l. AreWritten all (names_of l)) (sym c.in_ok-push.ensures.items)
    (written_more all c.args.names.now.items _ old (subst (λ t. IsIn t all) (sym (c.in_ok-is_same.ensures c.if-not-is_same.false)) at))

use Rattle.std.proofs.Common.{subst}
use Rattle.std.specs.List.{All}
use Rattle.hddl_meaning.specs.Names.{type_names}
use Rattle.diagnostics.specs.Offers.{offered}
use Rattle.pair_messages.specs.Offers.{IsNearest}
use Rattle.pair_messages.proofs.advice.unknown_type_remarks.Goals as goal

pub returns : goal.returns
returns c =
    subst (λ w. All (IsNearest w (type_names c.args.index.now.texts.now.domain_tree.now)) (offered c.in_ok-remarks.remarks.items)) c.word_of-word.ensures c.in_ok-remarks.ensures

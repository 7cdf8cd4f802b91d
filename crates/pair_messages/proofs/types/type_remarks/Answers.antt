use Rattle.std.proofs.Common.{subst}
use Rattle.hddl_meaning.specs.Names.{type_names}
use Rattle.diagnostics.specs.Near.{names_of}
use Rattle.diagnostics.specs.Offers.{offered}
use Rattle.pair_messages.specs.Offers.{AreWritten, IsNearest}
use Rattle.pair_messages.proofs.Meant.{written_are}
use Rattle.pair_messages.proofs.Questions.{all_of_none}
use Rattle.pair_messages.proofs.types.type_remarks.Goals as goal

pub returns-then-is_empty : goal.returns-then-is_empty
returns-then-is_empty c = all_of_none (IsNearest c.args.word.now (type_names c.args.index.now.texts.now.domain_tree.now)) _ c.in_ok-remarks.ensures

pub returns : goal.returns
returns c =
    let names = offered c.in_ok-remarks-2.remarks.items in
    written_are c.args.word.now (type_names c.args.index.now.texts.now.domain_tree.now) (names_of c.in_ok-near.near.items) names c.in_ok-near.ensures
    (subst (λ l. AreWritten (names_of l) names) c.as_slice.ensures.value c.in_ok-remarks-2.ensures)

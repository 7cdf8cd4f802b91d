use Rattle.std.proofs.Common.{◌∙◌, ap, subst, sym}
use Rattle.hddl_meaning.specs.Names.{object_names}
use Rattle.diagnostics.specs.Near.{names_of}
use Rattle.diagnostics.specs.Offers.{offered}
use Rattle.pair_messages.specs.Offers.{AreWritten}
use Rattle.pair_messages.proofs.Meant.{written_are}
use Rattle.pair_messages.proofs.objects.ask_objects.Goals as goal

pub returns : goal.returns
returns c =
    let t = c.args.index.now.texts.now in
    let near = names_of c.in_ok-near.near.items in
    written_are c.args.word.now (object_names t.domain_tree.now t.problem_tree.now) near (offered c.in_ok-remarks.remarks.items) c.in_ok-near.ensures
    (subst (AreWritten near) (sym (c.in_ok-remarks.ensures ∙ ap names_of c.as_slice-2.ensures.value)) (subst (λ l. AreWritten (names_of l) (names_of c.in_ok-names.names.items)) c.as_slice.ensures.value c.in_ok-names.ensures))

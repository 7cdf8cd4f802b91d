use Rattle.std.proofs.Common.{IfSome, subst, sym}
use Rattle.hddl_meaning.specs.declared.fault.Source.{Source}
use Rattle.hddl_meaning.specs.declared.fault.Source.TheVariants as source
use Rattle.pair_messages.specs.Notes.{IsFirstIn, name_lists}
use Rattle.pair_messages.proofs.FirstOnes.{among_all}
use Rattle.pair_messages.proofs.twins.first_in_text.Goals as goal

pub returns-in-Domain : goal.returns-in-Domain
returns-in-Domain c =
    let t = c.args.index.now.texts.now in
    subst (λ (s : Source). IfSome c.first_declared.result (IsFirstIn (name_lists t.domain_tree.now t.problem_tree.now s) c.args.text.now)) (sym c.in-Domain.is)
    (among_all t.domain_tree.now t.problem_tree.now source.Domain c.args.text.now c.first_declared.result c.first_declared.ensures)

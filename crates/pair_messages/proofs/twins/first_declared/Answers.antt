use Rattle.hddl_meaning.specs.Items.{declaration_lists}
use Rattle.hddl_meaning.specs.declared.fault.Source.TheVariants as source
use Rattle.pair_messages.proofs.FirstOnes.{first_in, methods, methods_listed, predicates, predicates_listed}
use Rattle.pair_messages.proofs.twins.first_declared.Goals as goal

pub returns-in-Some-Predicate : goal.returns-in-Some-Predicate
returns-in-Some-Predicate c =
    let index = c.args.index.now in
    let d = index.texts.now.domain_tree.now in
    first_in (declaration_lists d source.Domain) (predicates d) index.first_called.predicates c.args.text.now c.get.result index.are_called.predicates (predicates_listed d) c.get.ensures

pub returns-in-Some-Method : goal.returns-in-Some-Method
returns-in-Some-Method c =
    let index = c.args.index.now in
    let d = index.texts.now.domain_tree.now in
    first_in (declaration_lists d source.Domain) (methods d) index.first_called.methods c.args.text.now c.get-in-Some-Method.result index.are_called.methods (methods_listed d)
    c.get-in-Some-Method.ensures

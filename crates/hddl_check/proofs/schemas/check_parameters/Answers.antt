use Rattle.std.proofs.Common.{◌∷◌, ◌∙◌, ap, subst, List}
use Rattle.hddl_meaning.specs.Items.{most_parameters, variable_mentions}
use Rattle.hddl_meaning.specs.Mentions.{Mention, mentions_of, typed_variables}
use Rattle.hddl_meaning.specs.declared.fault.CheckFault.{CheckFault}
use Rattle.hddl_uses.specs.Contexts.{Fails, PassedOver, RepeatsBefore}
use Rattle.hddl_scope.specs.Findings.{Adds}
use Rattle.hddl_uses.specs.Parts.{Part, Different, Limited, type_parts}
use Rattle.hddl_scope.proofs.Adding.{Adds-cons, Adds-same}
use Rattle.hddl_scope.proofs.Repeating.{no_repeat}
use Rattle.hddl_scope.proofs.ScopeLists.{parameter_mentions}
use Rattle.hddl_check.proofs.schemas.check_parameters.Goals as goal

pub returns : goal.returns
returns c =
    let context = c.args.context.now in
    let O = PassedOver context in
    let P = Fails context in
    let gs = c.args.groups.now in
    let ms : List Mention = mentions_of (typed_variables gs) in
    let types : List Part = type_parts (typed_variables gs) in
    let mentions = ap variable_mentions c.requires ∙ parameter_mentions gs in
    let over : (f : CheckFault) → RepeatsBefore context 0 c.args.scope.now f → O (Different (variable_mentions c.args.scope.now)) f = λ f (place, e, r).
    no_repeat place r in
    Adds-cons O P (Different ms) (Limited most_parameters ms ∷ types)
    (subst (λ ms. Adds (O (Different ms)) (P (Different ms)) c.args.found.now c.check_repeats.new.found) mentions
    (Adds-same {O = RepeatsBefore context 0 c.args.scope.now} over (λ f h. h) (λ f h. h) c.in_ok-check_repeats.ensures))
    (Adds-cons O P (Limited most_parameters ms) types
    (subst (λ ms. Adds (O (Limited most_parameters ms)) (P (Limited most_parameters ms)) c.check_repeats.new.found c.check_count.new.found) mentions c.in_ok-check_count.ensures)
    c.in_ok-check_variable_types.ensures)

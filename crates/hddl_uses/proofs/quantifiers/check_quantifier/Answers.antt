use Rattle.std.proofs.Common.{◌≡◌, ◌++◌, ◌∙◌, ap, length, subst, sym, List, ◌∷◌, take}
use Rattle.std.proofs.lemmas.List.{length-map}
use Rattle.hddl_meaning.specs.Mentions.{Mention, mentions_of, typed_variables}
use Rattle.hddl_meaning.specs.Uses.{Variable}
use Rattle.hddl_meaning.specs.Items as items
use Rattle.hddl_meaning.specs.Items.{variable_mentions}
use Rattle.hddl_meaning.specs.declared.fault.CheckFault.{CheckFault}
use Rattle.hddl_scope.specs.Findings.{Adds}
use Rattle.hddl_uses.specs.Contexts.{Fails, PassedInside, PassedOver, RepeatsBefore}
use Rattle.hddl_uses.specs.Parts.{Different, Limited, type_parts, Part}
use Rattle.hddl_scope.proofs.Adding.{Adds-cons, Adds-same}
use Rattle.hddl_scope.proofs.InForce.{take_whole}
use Rattle.hddl_scope.proofs.ScopeLists.{scope_mentions}
use Rattle.hddl_uses.proofs.Arguing.{all_inside, inside}
use Rattle.hddl_uses.proofs.quantifiers.check_quantifier.Goals as goal

pub returns : goal.returns
returns c = λ around within long.
    let context = c.args.context.now in
    let P = Fails context in
    let O = PassedInside context around in
    let own : List Mention = mentions_of (typed_variables c.args.groups.now) in
    let all : List Mention = variable_mentions around ++ own in
    let whole : variable_mentions c.args.scope.now ≡ all = ap variable_mentions within ∙ scope_mentions around c.args.groups.now in
    let front : take c.args.start (variable_mentions c.args.scope.now) ≡ variable_mentions around =
    (λ i. take ((long ∙ sym (length-map around (λ (v : Variable). v.typed.mention))) i) (whole i)) ∙ take_whole (variable_mentions around) own in
    let types : List Part = type_parts (typed_variables c.args.groups.now) in
    let again : (f : CheckFault) → RepeatsBefore context c.args.start c.args.scope.now f → O (Different all) f = λ f before.
    subst (λ ms. P (Different ms) f) front before in
    Adds-cons O P (Different all) (Limited items.most_parameters own ∷ Limited items.most_variables all ∷ types)
    (Adds-same {O = RepeatsBefore context c.args.start c.args.scope.now} again
    (λ f h. h) (λ f h. h)
    (subst (λ ms. Adds (RepeatsBefore context c.args.start c.args.scope.now) (P (Different ms)) c.args.found.now c.check_repeats.new.found) whole c.in_ok-check_repeats.ensures))
    (Adds-cons O P (Limited items.most_parameters own) (Limited items.most_variables all ∷ types)
    (inside context around (Limited items.most_parameters own)
    (subst (λ ms. Adds (PassedOver context (Limited items.most_parameters ms)) (P (Limited items.most_parameters ms)) c.check_repeats.new.found c.check_limit.new.found)
    (c.deref.ensures.value ∙ c.in_ok-own.ensures) c.in_ok-check_limit.ensures))
    (Adds-cons O P (Limited items.most_variables all) types
    (inside context around (Limited items.most_variables all)
    (subst (λ ms. Adds (PassedOver context (Limited items.most_variables ms)) (P (Limited items.most_variables ms)) c.check_limit.new.found c.check_count.new.found)
    whole c.in_ok-check_count.ensures))
    (all_inside context around types c.in_ok-check_variable_types.ensures)))

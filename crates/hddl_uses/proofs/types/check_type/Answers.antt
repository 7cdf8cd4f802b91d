use Rattle.std.proofs.Common.{◌∙◌, Option, map, refl, subst, sym}
use Rattle.hddl_words.specs.Names.{Name}
use Rattle.hddl_meaning.specs.Mentions.{mention_of, folded}
use Rattle.hddl_meaning.specs.Items.{IsDeclaredType}
use Rattle.hddl_meaning.specs.Names.{optional_mention}
use Rattle.hddl_meaning.specs.declared.fault.CheckFault.TheVariants.{UnknownType}
use Rattle.hddl_uses.specs.Contexts.{Fails, PassedOver}
use Rattle.hddl_scope.specs.Findings.{AddsAny}
use Rattle.hddl_uses.specs.Parts.{TypeName, IsUndeclaredType}
use Rattle.hddl_scope.proofs.Adding.{Adds-nil, Adds-single, added_at, added_nowhere}
use Rattle.hddl_uses.proofs.types.check_type.Goals as goal

pub returns-in_default : goal.returns-in_default
returns-in_default c =
    let O = PassedOver c.args.context.now in
    let P = Fails c.args.context.now in
    subst (λ (o : Option Name). AddsAny O P (map TypeName (optional_mention o)) c.args.found.now c.args.found.now) (sym c.in_default.is) (Adds-nil O P refl)

pub returns-then-branch : goal.returns-then-branch
returns-then-branch c =
    let context = c.args.context.now in
    let n = c.in-Some.name in
    subst (λ (o : Option Name). AddsAny (PassedOver context) (Fails context) (map TypeName (optional_mention o)) c.args.found.now c.args.found.now) (sym c.in-Some.is)
    (Adds-single (PassedOver context) (Fails context) (TypeName (mention_of n))
    (added_nowhere UnknownType context.source {P = IsUndeclaredType context.domain.now (mention_of n)} (λ place h. h.0 (c.in_ok-is_declared.ensures.0 c.if-branch.true)) refl))

pub returns : goal.returns
returns c =
    let context = c.args.context.now in
    let n = c.in-Some.name in
    let unknown : IsDeclaredType context.domain.now (folded n.text) → ⊥ = λ h. let told = c.in_ok-is_declared.ensures.1 h in let no' = c.if-branch.false in cc in
    subst (λ (o : Option Name). AddsAny (PassedOver context) (Fails context) (map TypeName (optional_mention o)) c.args.found.now c.push.new.self) (sym c.in-Some.is)
    (Adds-single (PassedOver context) (Fails context) (TypeName (mention_of n))
    (added_at UnknownType context.source {P = IsUndeclaredType context.domain.now (mention_of n)} c.place.result c.at.result (unknown, c.place.ensures)
    (λ other h. h.1 ∙ sym c.place.ensures) c.at.ensures c.in_ok-push.ensures))

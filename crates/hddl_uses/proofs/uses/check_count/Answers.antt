use Rattle.std.proofs.Common.{◌≡◌, ◌∙◌, ap, length, refl, sym}
use Rattle.hddl_meaning.specs.declared.fault.CheckFault.TheVariants.{Arity}
use Rattle.hddl_uses.specs.Contexts.{IsMiscounted}
use Rattle.hddl_scope.proofs.Adding.{added_at, added_nowhere}
use Rattle.hddl_uses.proofs.uses.check_count.Goals as goal

pub returns-then-len-places : goal.returns-then-len-places
returns-then-len-places c =
    added_nowhere Arity c.args.context.now.source {P = IsMiscounted c.args.atom.now c.args.places} (λ place h. h.0 (sym c.len.ensures ∙ c.if-len-places.true)) refl

pub returns : goal.returns
returns c =
    added_at Arity c.args.context.now.source {P = IsMiscounted c.args.atom.now c.args.places} c.place.result c.at.result
    (λ same. c.if-len-places.false (c.len.ensures ∙ same), c.place.ensures) (λ other h. h.1 ∙ sym c.place.ensures) c.at.ensures c.in_ok-push.ensures
